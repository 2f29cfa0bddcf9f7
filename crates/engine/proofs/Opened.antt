-- What the removal of files leaves of an open that was done.
use Rattle.std.proofs.Common.{◌≡◌, Bool, false, Option, Some, None, MatchOption, Result, Ok, Err, MatchResult, IsTrue, inl, inr, refl, sym, ap, subst, ◌∙◌, arith}
use Rattle.coding.specs.declared.error.DbError.{DbError}
use Rattle.coding.specs.declared.error.DbError.TheVariants as error
use Rattle.edits.specs.Names.{name_of, IsFileName}
use Rattle.edits.specs.declared.names.FileName.{FileName}
use Rattle.edits.specs.declared.names.FileName.TheVariants.{Current, Manifest}
use Rattle.edits.proofs.FileNames.{one_file}
use Rattle.ikey.specs.Orders.{Order}
use Rattle.table_access.specs.Tables.{Seen}
use Rattle.store.specs.Files.{Facts}
use Rattle.machine.specs.declared.command.Mode.{Mode}
use Rattle.machine.specs.declared.command.Answer.TheVariants.{Done, Refused}
use Rattle.engine.specs.declared.ids.Ids.{Ids}
use Rattle.opening.specs.internal.Durable.{HasDurable, Spares}
use Rattle.opening.specs.Durable.{IsDurable, LeavesDurable, LeavesFile}
use Rattle.engine.specs.Follows.{Leads}
use Rattle.engine.specs.internal.Leading.{LeadsOpen}
use Rattle.engine.specs.OpenDb.{OpenDb}
use Rattle.machine.specs.Lifetime.{OpenAnswered, Opened, Opens}
use Rattle.machine.specs.Causes.{open_cause, status_of}
use Rattle.machine.specs.Machine.{Machine}
use Rattle.machine.specs.Serving.{◌≈◌}
use Rattle.engine.specs.internal.Standing.{StandsOpen}
use Rattle.machine.specs.Upkeep.{Draws, UpkeepRefused}
use Rattle.engine.specs.Working.{IsLiveIn, LosesDead}
use Rattle.engine.specs.internal.Pieces.{IsPiece}
use Rattle.engine.proofs.Steps.{serving_of}

-- ---- the machine

-- nothing was drawn, however the piece was answered, where it broke nothing
drawn_none : {T : Type 0} (m n : Machine) (result : Result T DbError) → n.broken ≡ m.broken → IsPiece m 0 result n → Draws m 0 n
drawn_none {T} m n result same piece = at result piece.what
  where
    at : (r : Result T DbError) → MatchResult r (λ done. Draws m 0 n) (λ e. UpkeepRefused m 0 e n) → Draws m 0 n
    at (Ok done) h = h
    at (Err error.OutOfMemory) h = h
    at (Err error.Io) h = (h.1, h.2 ∙ ap (λ (b : Bool). record m { numbers = n.numbers; broken = b; failures = n.failures; denials = n.denials }) same)
    at (Err error.NumbersSpent) h = h.1
    at (Err (error.Corrupt file what)) h = h.1
    at (Err (error.Unsupported limit)) h = h.1
    at (Err _) h = absurd h

opened_on : (m mid n : Machine) → Opened m mid → Draws mid 0 n → Opened m n
opened_on m mid n h drawn = (
  h.0,
  h.1,
  (let most = h.2 in let upto = drawn.0.1 in omega (arith, most, upto)),
  drawn.1 ∙ ap (λ (x : Machine). record x { numbers = n.numbers; failures = n.failures; denials = n.denials }) h.3,
)

answered_on : (m mid n : Machine) (mode : Mode) (cause : Option DbError) → Draws mid 0 n
    → MatchOption cause (OpenAnswered m mode Done mid) (λ e. (Done ≡ Refused e) × (mid ≈ m)) → MatchOption cause (OpenAnswered m mode Done n) (λ e. (Done ≡ Refused e) × (n ≈ m))
answered_on m mid n mode None drawn h = (h.0, opened_on m mid n h.1 drawn)
answered_on m mid n mode (Some e) drawn h = absurd (let is : Done ≡ Refused e = h.0 in cc)

opens_on : {T : Type 0} (m mid n : Machine) (mode : Mode) (result : Result T DbError) → Draws mid 0 n → IsPiece mid 0 result n → Opens m mode Done mid → Opens m mode Done n
opens_on m mid n mode result drawn piece h = (
  record {
    failures = (let a = h.0.failures in let b = piece.failures in omega (arith, a, b));
    denials = (let a = h.0.denials in let b = piece.denials in omega (arith, a, b));
    undenied = λ other. piece.denials ∙ h.0.undenied other;
  },
  answered_on m mid n mode (open_cause (status_of m)) drawn h.1,
)

module _ {K : Type 0} {g : _} (order : Order) (old : Facts) (mid new : Seen) (ids : Ids) (before after : OpenDb K g) (start : Machine → Type 0) (mode : Mode) where
  pub opened_cleaned : {T : Type 0} (result : Result T DbError) → before.broken ≡ false → after.broken ≡ false
      → Leads old mid.facts start (StandsOpen order mid ids before) (λ m n. Opens m mode Done n) → LeadsOpen order mid new ids before after (λ m n. IsPiece m 0 result n)
      → Leads old new.facts start (StandsOpen order new ids after) (λ m n. Opens m mode Done n)
  opened_cleaned result whole still opened cleaned = record {
    faithful = λ f. opened.faithful (cleaned.faithful f);
    moved = λ f m s.
        let one = opened.moved (cleaned.faithful f) m s in
        let two = cleaned.moved f one.0 one.2 in
        let same : two.0.broken ≡ one.0.broken = (serving_of order new ids after two.0 still two.2).whole ∙ sym (serving_of order mid ids before one.0 whole one.2).whole in
        (two.0, opens_on m one.0 two.0 mode result (drawn_none one.0 two.0 result same two.1) two.1 one.1, two.2);
  }

-- ---- what is synced

module _ {K : Type 0} {g : _} (old new : Facts) (db : OpenDb K g) (loses : LosesDead old new db) where
  -- what is live stays
  pub live_stays : (file : FileName) → IsFileName file → IsLiveIn old.files db file → LeavesFile old new (name_of file)
  live_stays file is live = elim (loses (name_of file)) [
    | inl same ↦ same
    | inr gone ↦ (let dead = gone.0 in absurd (dead.3 (subst (λ (f : FileName). IsLiveIn old.files db f) (one_file file dead.0 is dead.1 dead.2) live)))
  ]

  -- so do files of other programs, and the lock's
  spared_stays : Spares old new
  spared_stays name is = elim (loses name) [
    | inl same ↦ same
    | inr gone ↦ (let dead = gone.0 in absurd (is dead.0 dead.1 (λ lock. dead.3 (subst (λ (f : FileName). IsLiveIn old.files db f) (sym lock) tt)) dead.2))
  ]

  durable_stays : HasDurable db.directory.manifest.number old → IsDurable new
  durable_stays has =
      let n = db.directory.manifest.number in
      let current = live_stays Current tt tt in
      let manifest = live_stays (Manifest n) has.numbered refl in
      let d = has.durable in
      (n, (d.0, (current.0 ∙ d.1.0, current.1 ∙ d.1.1), manifest.0 ∙ d.2, manifest.1 ∙ d.3))

pub durable_cleaned : {K T : Type 0} {g : _} (first old new : Facts) (db : OpenDb K g) (done : T) → (IsTrue new.faithful → IsTrue old.faithful) → (IsTrue new.faithful → LosesDead old new db)
    → (IsTrue old.faithful → HasDurable db.directory.manifest.number old) → LeavesDurable {T = T} first new (Ok done)
durable_cleaned first old new db done back loses has = record { ok = λ f. durable_stays old new db (loses f) (has (back f)); err = λ f. tt }

pub spared_cleaned : {K : Type 0} {g : _} (first old new : Facts) (db : OpenDb K g) → (IsTrue new.faithful → IsTrue old.faithful) → (IsTrue new.faithful → LosesDead old new db) → (IsTrue old.faithful → Spares first old) → IsTrue new.faithful → Spares first new
spared_cleaned first old new db back loses kept f name is = let a = kept (back f) name is in let b = spared_stays old new db (loses f) name is in (b.0 ∙ a.0, b.1 ∙ a.1)
