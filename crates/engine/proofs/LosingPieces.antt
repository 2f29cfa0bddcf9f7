-- What a power loss leaves in the middle of a piece of work, and what stays of the files that the
-- open found.
use Rattle.std.proofs.Common.{◌≡◌, ◌⊎◌, ◌<◌, ◌≤◌, ℕ, Bool, true, false, List, None, MatchBool, inl, inr, refl, sym, ap, subst, ◌∙◌}
use Rattle.std.specs.FinMap.{get}
use Rattle.directory_writes.specs.Removal.{IsDead, IsLiveAmong}
use Rattle.directory_writes.specs.internal.Calls.{LeavesFile}
use Rattle.edits.specs.Names.{name_of}
use Rattle.edits.specs.declared.names.FileName.{FileName}
use Rattle.edits.specs.declared.names.FileName.TheVariants.{Current, Lock, Log, OldTable, Table}
use Rattle.ikey.specs.Orders.{Order}
use Rattle.machine.specs.Machine.{Machine}
use Rattle.opening.proofs.Cutting.{cut_directory}
use Rattle.opening.proofs.Spared.{left_by_loss}
use Rattle.recover.proofs.OneMeaning.{same_current}
use Rattle.recover.specs.Directory.{IsConsistent}
use Rattle.store.specs.Files.{Facts, Files, Synced, lock_name}
use Rattle.store.specs.Stops.{WritesOnly}
use Rattle.store.proofs.LosingOn.{loses_same}
use Rattle.table_access.specs.Tables.{Seen}
use Rattle.engine.proofs.InUse.{table_used}
use Rattle.engine.proofs.Losing.{spared}
use Rattle.engine.proofs.LosingCalls.{can_serving, writes_first}
use Rattle.engine.proofs.LosingFirst.{first_as, first_here, found_here}
use Rattle.engine.proofs.Origins.{undamaged_serving}
use Rattle.engine.proofs.StayedNames.{SparesRead, not_dead, spares_dead}
use Rattle.engine.proofs.Steps.{serving_of}
use Rattle.engine.specs.InUse.{IsTableUsed}
use Rattle.engine.specs.Losses.{HoldsFirst, LosesFirst, SparesFound}
use Rattle.engine.specs.OpenDb.{OpenDb}
use Rattle.engine.specs.Reopening.{KeepsFound, StaysOrGoes}
use Rattle.engine.specs.Working.{numbers_of}
use Rattle.engine.specs.declared.ids.Ids.{Ids}
use Rattle.engine.specs.internal.Standing.{IsBroken, IsServing, StandsOpen, StandsWhole}

-- ---- what an open database stands for

-- The state without damage of one that isn't broken.
abbrev pub serving_whole : {K : Type 0} {g : _} (order : Order) (source : Seen) (ids : Ids) (db : OpenDb K g) (m : Machine) → StandsWhole order source ids db m → db.broken ≡ false → IsServing order source db m
serving_whole order source ids db m s whole = undamaged_serving order source db m s.undamaged (serving_of order source ids db m whole s.stands)

pub first_serving : {K : Type 0} {g : _} (order : Order) (source : Seen) (db : OpenDb K g) (m : Machine) → (serving : IsServing order source db m) → serving.ideal ≡ source.facts.files → LosesFirst order source.facts source.facts db m
first_serving order source db m serving same =
    let d = serving.log.directory.directory in
    first_here left_by_loss cut_directory order source.facts db d m (can_serving order source db m serving same) (subst (λ (fs : Files). IsConsistent order fs d) same serving.log.directory.consistent)
    (spared order source db m serving) (found_here source.facts db db.tables serving.synced.stayed)

-- ---- calls that change nothing

same_file : (old new : Facts) (q : List ℕ) → LeavesFile old new q → StaysOrGoes old new q
same_file old new q left = inr (left.0, λ kept bytes there. left.1 ∙ kept bytes (sym left.0 ∙ there))

pub found_same : {K : Type 0} {g : _} (old new : Facts) (db : OpenDb K g) → new.files ≡ old.files → new.synced ≡ old.synced → KeepsFound old new db
found_same old new db files synced =
    let same : (q : List ℕ) → StaysOrGoes old new q = λ q. same_file old new q (ap (λ (fs : Files). get fs q) files, ap (λ (s : Synced). s q) synced) in
    record { current = ap (λ (fs : Files). get fs (name_of Current)) files; lock = ap (λ (fs : Files). get fs lock_name) files; each = λ n num below. (same (name_of (Table n)), same (name_of (OldTable n)), same (name_of (Log n))) }

pub first_same : {K : Type 0} {g : _} (order : Order) (source : Seen) (ids : Ids) (db : OpenDb K g) (m : Machine) (new : Facts) → StandsWhole order source ids db m → db.broken ≡ false
    → new.calls ≡ source.facts.calls → new.files ≡ source.facts.files → new.synced ≡ source.facts.synced → LosesFirst order source.facts new db m
first_same order source ids db m new s whole calls files synced =
    let serving = serving_whole order source ids db m s whole in
    loses_same source.facts new (λ lost. SparesFound source.facts db lost → HoldsFirst order lost m) calls files synced
    (first_serving order source db m serving refl)

-- ---- obsolete files

module _ {K : Type 0} {g : _} (order : Order) (source : Seen) (ids : Ids) (db : OpenDb K g) (m : Machine) (new : Facts) (s : StandsWhole order source ids db m) (whole : db.broken ≡ false) where
  abbrev Dead : List ℕ → Type 0
  Dead = IsDead (IsLiveAmong source.facts.files (numbers_of db.directory) (λ number. IsTableUsed db.tables db.job db.iterators number))

  dead_unread : SparesRead Dead source.facts.files db.directory db.tables
  dead_unread =
      let serving = serving_whole order source ids db m s whole in
      spares_dead source.facts.files db.log db.directory db.tables (λ number. IsTableUsed db.tables db.job db.iterators number) serving.synced.names
      (λ p there. table_used db.tables db.job db.iterators p.table.number (p, there, refl))

  pub first_cleaned : WritesOnly source.facts new Dead → LosesFirst order source.facts new db m
  first_cleaned writes =
      let serving = serving_whole order source ids db m s whole in
      writes_first order source db m serving refl new Dead writes dead_unread

  pub found_cleaned : WritesOnly source.facts new Dead → ((q : List ℕ) → LeavesFile source.facts new q ⊎ (get new.files q ≡ None)) → KeepsFound source.facts new db
  found_cleaned writes left =
      let live : FileName → Type 0 = IsLiveAmong source.facts.files (numbers_of db.directory) (λ number. IsTableUsed db.tables db.job db.iterators number) in
      let each : (q : List ℕ) → StaysOrGoes source.facts new q = λ q. elim (left q) [ inl same ↦ same_file source.facts new q same | inr gone ↦ inl gone ] in
      record {
        current = writes.leaves.now (name_of Current) dead_unread.current;
        lock = writes.leaves.now lock_name (not_dead live Lock tt tt);
        each = λ n num below. (each (name_of (Table n)), each (name_of (OldTable n)), each (name_of (Log n)));
      }

-- ---- one piece after another

-- one that the machine says isn't broken
pub unbroken_by : {K : Type 0} {g : _} (order : Order) (source : Seen) (ids : Ids) (db : OpenDb K g) (m : Machine) → m.broken ≡ false → StandsOpen order source ids db m → db.broken ≡ false
unbroken_by order source ids db m not s = at db.broken s.rest
  where
    at : (b : Bool) → MatchBool b (IsBroken order source.facts.files m) (IsServing order source db m) → b ≡ false
    at true h = absurd (let bad : true ≡ false = sym h.broken ∙ not in cc)
    at false h = refl

-- The first piece kept what the open found.
module _ {K : Type 0} {g : _} (order : Order) (old mid : Seen) (ids given : Ids) (before between : OpenDb K g) (m n : Machine) (s : StandsWhole order old ids before m) (whole : before.broken ≡ false) (r : StandsWhole order mid given between n)
    (broken : n.broken ≡ m.broken) (found : KeepsFound old.facts mid.facts before) where
  still_whole : between.broken ≡ false
  still_whole = unbroken_by order mid given between n (broken ∙ (serving_whole order old ids before m s whole).whole) r.stands

  -- `CURRENT` names the same MANIFEST
  same_number : between.directory.manifest.number ≡ before.directory.manifest.number
  same_number =
      let first = serving_whole order old ids before m s whole in
      let second = serving_whole order mid given between n r still_whole in
      let one = first.log.directory.consistent.manifest in
      let other = second.log.directory.consistent.manifest in
      let same = same_current old.facts.files first.log.directory.directory.manifest second.log.directory.directory.manifest one.numbered other.numbered one.current (sym found.current ∙ other.current) in
      second.log.knows.number ∙ sym same ∙ sym first.log.knows.number

  -- of any machine that has accepted the same by then
  pub first_behind : (accepts : Machine) → n.base ≡ accepts.base → n.batches ≡ accepts.batches → accepts.synced ≤ n.synced → (new : Facts) → (between.broken ≡ false → LosesFirst order mid.facts new between n)
      → LosesFirst order mid.facts new before accepts
  first_behind accepts base batches synced new h lost since spares =
      first_as order lost accepts n base batches synced (h still_whole lost since (λ k num below. spares k num (subst (λ (bound : ℕ). k < bound) same_number below)))

  pub found_behind : (new : Facts) → (between.broken ≡ false → KeepsFound mid.facts new between) → KeepsFound mid.facts new before
  found_behind new h =
      let keeps = h still_whole in
      record { current = keeps.current; lock = keeps.lock; each = λ k num below. keeps.each k num (subst (λ (bound : ℕ). k < bound) (sym same_number) below) }
