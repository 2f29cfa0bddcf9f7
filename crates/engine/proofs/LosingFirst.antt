-- From what a power loss leaves of a directory, at some moment of a call, to a prefix of the
-- batches.
use Rattle.std.proofs.Common.{◌≡◌, ◌⊎◌, ◌+◌, ◌≤◌, ◌<◌, ◌++◌, ◌∷◌, ℕ, List, [], length, take, Option, Some, None, is_some, true, false, inl, inr, refl, sym, subst, ◌∙◌, arith}
use Rattle.std.proofs.lemmas.Bool.{cases_lt}
use Rattle.std.proofs.lemmas.List.{length-append, take-append-le}
use Rattle.std.specs.FinMap.{get, contains_key}
use Rattle.batch.specs.declared.operation.Operation.{Operation}
use Rattle.edits.specs.Names.{name_of, IsNumbered}
use Rattle.edits.specs.declared.field.PlacedTable.{PlacedTable}
use Rattle.edits.specs.declared.names.FileName.TheVariants.{Current, Log, Manifest, OldTable, Table}
use Rattle.ikey.specs.Orders.{Order}
use Rattle.ikey.specs.Views.{Contents, IsView}
use Rattle.ikey.specs.declared.entry.Entry.{Entry}
use Rattle.machine.specs.Access.{accepted}
use Rattle.machine.specs.Machine.{Machine, after_batches}
use Rattle.opening.proofs.LosingWrites.{left_cut}
use Rattle.opening.specs.Losses.{AreSpared, CutLaw, IsKept, IsLeftWhole, IsLogRead, IsTableKept, IsWholeOrGone, SparedLaw}
use Rattle.opening.specs.internal.Cuts.{AreLeft, IsLeftCut, LeavesCutIf, LeavesOneCut}
use Rattle.recover.proofs.Adding.{table_of}
use Rattle.recover.specs.Directory.{Directory, IsConsistent, used_in}
use Rattle.recover.specs.Logs.{HasLogs, InLogs, logged}
use Rattle.recover.specs.Tables.{InTables, TableContent, tabled}
use Rattle.store.specs.Files.{Call, Facts, Files}
use Rattle.store.specs.Losses.{LosesOnly, PutsSynced}
use Rattle.store.specs.Stops.{WritesOnly}
use Rattle.store.proofs.LosingOn.{loses_both}
use Rattle.store.proofs.NamesLeft.{names_here, names_on, names_put}
use Rattle.engine.proofs.Losing.{counted_within}
use Rattle.engine.proofs.RecentLosses.{recent_cut}
use Rattle.engine.specs.Losses.{HoldsFirst, LosesFirst, SparesFound}
use Rattle.engine.specs.OpenDb.{OpenDb}
use Rattle.engine.specs.Reopening.{KeepsFound, StaysOrGoes}
use Rattle.engine.specs.internal.Recent.{AreRecent}
use Rattle.engine.specs.internal.Synced.{HaveStayed}

-- ---- what a directory stands for at that moment

-- Its logs are there, though the files of which it is the directory may be others: those with an
-- edit that was cut, say. All else that it reads is synced whole, but for tables that the open
-- found, and its logs have the last of these batches.
pub record CanLose {K : Type 0} {g : _} (order : Order) (then : Facts) (db : OpenDb K g) (d : Directory) (m : Machine) : Type 0 where
  pub files : Files
  pub consistent : IsConsistent order files d
  pub logs : HasLogs then.files d.logs
  pub current : IsKept then (name_of Current)
  pub manifest : IsKept then (name_of (Manifest d.manifest))
  pub tables : (content : TableContent) → InTables d.tables content → db.directory.manifest.number ≤ content.placed.table.number → IsTableKept then content.placed.table.number
  pub contents : List TableContent
  pub entries : List Entry
  pub listed : contents ≡ d.tables
  pub are : entries ≡ tabled contents ++ logged d.logs
  pub recent : AreRecent then db.directory.manifest.number contents entries d.logs m
  pub found : (n : ℕ) → IsNumbered n → InLogs recent.parts.found n → IsLogRead db.directory n

-- The loss has left the names of the logs that the open found and that the next one reads.
abbrev pub HasFoundLogs : {K : Type 0} {g : _} → Facts → OpenDb K g → Files → Type 0
HasFoundLogs then db lost = (n : ℕ) → IsNumbered n → IsLogRead db.directory n → n < db.directory.manifest.number → contains_key lost (name_of (Log n)) ≡ contains_key then.files (name_of (Log n))

-- ---- of one loss

-- the tables are left that aren't known to be synced
pub are_left : {K : Type 0} {g : _} (order : Order) (then : Facts) (db : OpenDb K g) (d : Directory) (m : Machine) (lost : Files) → CanLose order then db d m → SparesFound then db lost → AreLeft then d lost
are_left order then db d m lost c spares = record {
  current = c.current;
  manifest = c.manifest;
  tables = λ content among.
      let n = content.placed.table.number in
      elim (cases_lt n db.directory.manifest.number) [
        | inl less ↦ (let left = spares n (table_of order c.files d.tables content c.consistent.tables among) less in (left.0, λ none. left.1))
        | inr from ↦ (let kept = c.tables content among (omega (arith, from)) in (inl kept.0, λ none. inl (kept.1 none)))
      ];
}

-- a file whose name is left isn't gone, and one that isn't there stays away
whole_left : (then : Facts) (lost : Files) (q : List ℕ) (a b : Option (List ℕ)) → get then.files q ≡ a → get lost q ≡ b → is_some b ≡ is_some a → IsWholeOrGone then.files lost q → b ≡ a
whole_left then lost q None None was is same left = refl
whole_left then lost q None (Some y) was is same left = absurd (let bad : true ≡ false = same in cc)
whole_left then lost q (Some x) None was is same left = absurd (let bad : false ≡ true = same in cc)
whole_left then lost q (Some x) (Some y) was is same left = elim (left x was) [
  | inl gone ↦ absurd (let bad : Some y ≡ None = sym is ∙ gone in cc)
  | inr whole ↦ sym is ∙ whole
]

pub log_left : (then : Facts) (lost : Files) (q : List ℕ) → IsLeftWhole then lost q → contains_key lost q ≡ contains_key then.files q → IsKept then q ⊎ (get lost q ≡ get then.files q)
log_left then lost q (inl kept) same = inl kept
log_left then lost q (inr left) same = inr (whole_left then lost q (get then.files q) (get lost q) refl refl same left)

pub first_left : {K : Type 0} {g : _} (order : Order) (then : Facts) (db : OpenDb K g) (d : Directory) (m : Machine) (lost : Files) → CanLose order then db d m → SparesFound then db lost → HasFoundLogs then db lost → IsLeftCut order then d lost
    → HoldsFirst order lost m
first_left order then db d m lost c spares names cut =
    let least = db.directory.manifest.number in
    let first = recent_cut order then lost least c.contents c.entries d cut.0 m c.recent c.files c.consistent c.logs cut.1 cut.2
    (λ n num i below. log_left then lost (name_of (Log n)) (spares n num below).2 (names n num (c.found n num i) below)) c.are c.listed in
    record { count = c.recent.from + first.0; within = counted_within m c.recent.from first.0 c.recent.within first.1; enough = first.2; used = used_in (record d { logs = cut.0 }); holds = first.3 }

-- ---- at each moment of a call

-- one of these directories is left, of which logs alone may be cut
pub first_one : {K : Type 0} {g : _} (order : Order) (then new : Facts) (db : OpenDb K g) (m : Machine) (Q : Directory → Type 0) → ((x : Directory) → Q x → CanLose order then db x m) → LosesOnly then new (HasFoundLogs then db)
    → LosesOnly then new (LeavesOneCut order then Q) → LosesFirst order then new db m
first_one order then new db m Q can names leaves lost since spares =
    let one = leaves lost since (λ x is. are_left order then db x m lost (can x is) spares) in
    first_left order then db one.0 m lost (can one.0 one.1) spares (names lost since) one.2

-- this one is
pub first_cut : {K : Type 0} {g : _} (order : Order) (then new : Facts) (db : OpenDb K g) (d : Directory) (m : Machine) → CanLose order then db d m → LosesOnly then new (HasFoundLogs then db)
    → LosesOnly then new (LeavesCutIf order then d) → LosesFirst order then new db m
first_cut order then new db d m can names leaves lost since spares =
    first_left order then db d m lost can spares (names lost since) (leaves lost since (are_left order then db d m lost can spares))

-- ---- one call after another

-- a file that is as it was, and kept if it was, or gone, is left whole where it was
pub left_on : (old then : Facts) (lost : Files) (q : List ℕ) → StaysOrGoes old then q → IsLeftWhole old lost q → IsLeftWhole then lost q
left_on old then lost q (inl gone) left = inl (λ bytes there. absurd (let bad : None ≡ Some bytes = sym gone ∙ there in cc))
left_on old then lost q (inr same) (inl kept) = inl (same.1 kept)
left_on old then lost q (inr same) (inr left) = inr (λ bytes there. left bytes (sym same.0 ∙ there))

pub spares_on : {K : Type 0} {g : _} (old then : Facts) (db : OpenDb K g) (lost : Files) → KeepsFound old then db → SparesFound old db lost → SparesFound then db lost
spares_on old then db lost keeps spares n num below =
    let now = keeps.each n num below in
    let was = spares n num below in
    (left_on old then lost (name_of (Table n)) now.0 was.0, left_on old then lost (name_of (OldTable n)) now.1 was.1, left_on old then lost (name_of (Log n)) now.2 was.2)

-- what is so of a later call is so of the files that were there before the first
pub first_since : {K : Type 0} {g : _} (order : Order) (old then new : Facts) (db : OpenDb K g) (m : Machine) → KeepsFound old then db → LosesFirst order then new db m → LosesOnly then new (λ lost. SparesFound old db lost → HoldsFirst order lost m)
first_since order old then new db m keeps h lost since spares = h lost since (spares_on old then db lost keeps spares)

pub first_then : {K : Type 0} {g : _} (order : Order) (old then new : Facts) (more : List Call) (db : OpenDb K g) (m : Machine) → new.calls ≡ then.calls ++ more → KeepsFound old then db
    → LosesFirst order old then db m → LosesFirst order then new db m → LosesFirst order old new db m
first_then order old then new more db m calls keeps first next =
    loses_both old then new more (λ lost. SparesFound old db lost → HoldsFirst order lost m) calls first (first_since order old then new db m keeps next)

-- and so are the files that were there before the open
pub goes_on : (old then new : Facts) (q : List ℕ) → StaysOrGoes old then q → StaysOrGoes then new q → StaysOrGoes old new q
goes_on old then new q first (inl gone) = inl gone
goes_on old then new q (inl gone) (inr same) = inl (same.0 ∙ gone)
goes_on old then new q (inr was) (inr same) = inr (same.0 ∙ was.0, λ kept. same.1 (was.1 kept))

pub found_then : {K : Type 0} {g : _} (old then new : Facts) (db : OpenDb K g) → KeepsFound old then db → KeepsFound then new db → KeepsFound old new db
found_then old then new db first next = record {
  current = next.current ∙ first.current;
  lock = next.lock ∙ first.lock;
  each = λ n num below.
      let a = first.each n num below in
      let b = next.each n num below in
      (goes_on old then new (name_of (Table n)) a.0 b.0, goes_on old then new (name_of (OldTable n)) a.1 b.1, goes_on old then new (name_of (Log n)) a.2 b.2);
}

-- ---- each loss until the next call

pub first_here : {K : Type 0} {g : _} → SparedLaw → CutLaw → (order : Order) (then : Facts) (db : OpenDb K g) (d : Directory) (m : Machine) → CanLose order then db d m → IsConsistent order then.files d → AreSpared then d
    → LosesOnly then then (HasFoundLogs then db) → LosesFirst order then then db m
first_here spared cut order then db d m can good spares names = first_cut order then then db d m can names (left_cut spared cut order then d good spares)

-- ---- the names of the logs that the open found

module _ {K : Type 0} {g : _} (old : Facts) (db : OpenDb K g) (tables : List PlacedTable) (stayed : HaveStayed old db.directory tables) where
  pub found_here : LosesOnly old old (HasFoundLogs old db)
  found_here lost since n num read below = names_here old (name_of (Log n)) (stayed.found n num read below) lost since

  -- while other files are written
  pub found_on : (new : Facts) (mine : List ℕ → Type 0) → WritesOnly old new mine → ((n : ℕ) → IsNumbered n → IsLogRead db.directory n → mine (name_of (Log n)) → ⊥) → LosesOnly old new (HasFoundLogs old db)
  found_on new mine writes apart lost since n num read below = names_on old new mine (name_of (Log n)) writes (apart n num read) (stayed.found n num read below) lost since

  -- while bytes are put after a file and synced
  pub found_put : (new : Facts) (name bytes : List ℕ) → PutsSynced old new name bytes → LosesOnly old new (HasFoundLogs old db)
  found_put new name bytes puts lost since n num read below = names_put old new name bytes (name_of (Log n)) puts (stayed.found n num read below) lost since

-- ---- machines

-- the first batches are those of any machine that has accepted no others, of which no more are
-- synced
pub first_as : (order : Order) (lost : Files) (m n : Machine) → n.base ≡ m.base → n.batches ≡ m.batches → m.synced ≤ n.synced → HoldsFirst order lost n → HoldsFirst order lost m
first_as order lost m n base batches synced h = record {
  count = h.count;
  within = subst (λ (bs : List (List Operation)). h.count ≤ length bs) batches h.within;
  enough = (let reached : n.synced ≤ h.count = h.enough in omega (arith, reached, synced));
  used = h.used;
  holds = record {
    entries = h.holds.entries;
    directory = h.holds.directory;
    view = subst (λ (map : Contents). IsView h.holds.entries h.used map) (λ i. after_batches (base i) (take h.count (batches i))) h.holds.view;
  };
}

-- and those of one more batch
pub first_accepted : (order : Order) (lost : Files) (m : Machine) (operations : List Operation) → HoldsFirst order lost m → HoldsFirst order lost (accepted m operations false)
first_accepted order lost m [] h = h
first_accepted order lost m (operation ∷ operations) h =
    let more = (operation ∷ operations) ∷ [] in
    let longer : length (m.batches ++ more) ≡ length m.batches + 1 = length-append m.batches more in
    let within : h.count ≤ length m.batches = h.within in
    record {
      count = h.count;
      within = omega (arith, longer, within);
      enough = h.enough;
      used = h.used;
      holds = record {
        entries = h.holds.entries;
        directory = h.holds.directory;
        view = subst (λ (batches : List (List Operation)). IsView h.holds.entries h.used (after_batches m.base batches)) (sym (take-append-le h.count m.batches more within)) h.holds.view;
      };
    }
