-- A walk over a table, from reading to reading.
use Rattle.std.proofs.Common.{◌≡◌, inr, ◌≤◌, ℕ, zero, suc, List, [], ◌∷◌, ◌++◌, length, take, Option, Some, None, IsTrue, refl, sym, ap, ◌∙◌, subst, arith}
use Rattle.std.specs.FinMap.{get}
use Rattle.std.specs.declared.cmp.Ordering.{Ordering}
use Rattle.coding.specs.declared.error.DbError.{DbError}
use Rattle.coding.specs.declared.error.DbError.TheVariants.{OutOfMemory, Io, Corrupt, Unsupported}
use Rattle.edits.specs.declared.field.PlacedTable.{PlacedTable}
use Rattle.ikey.specs.Entries.{InternalEntry, Pair}
use Rattle.ikey.specs.Orders.{Order}
use Rattle.store.specs.Files.{Files, Facts}
use Rattle.table.specs.Blocks.{IsBegun}
use Rattle.table.specs.Checking.{AreChecked}
use Rattle.table.specs.Frame.{Frame, IsFrame, AnyLong, handles, Opened}
use Rattle.table.specs.Reading.{Reads, Finds, Answers, Refuses}
use Rattle.table.specs.Refusals.{IsUnsupported, IsOfOne}
use Rattle.table.specs.Table.{AreData, IsTable}
use Rattle.table.specs.declared.handle.Place.{Place}
use Rattle.table.proofs.Begun.{begun_none}
use Rattle.table.proofs.Checked.{wrong_table}
use Rattle.table.proofs.DataBlocks.{long_entries}
use Rattle.table.proofs.Steps.{refuses_more}
use Rattle.recover.specs.declared.walking.TableWalk.{TableWalk}
use Rattle.recover.specs.internal.Checks.{Never}
use Rattle.recover.specs.internal.Parts.{IsUnchanged}
use Rattle.recover.specs.internal.Walking.{AreFirst, IsToldOf, IsOnlyOf}
use Rattle.recover.specs.Limits.{TellsUnsupported}
use Rattle.recover.specs.Ranges.{IsTableName}
use Rattle.recover.specs.Reading.{RefusesDirectory}
use Rattle.recover.specs.Report.{IsLongTable}
use Rattle.recover.proofs.OneMeaning.{same_content}

-- ---- the next block isn't read

abbrev NoTable : (List ℕ → List ℕ → Ordering) → Frame → List ℕ → Type 0
NoTable cmp frame file = (entries : List InternalEntry) → IsFrame cmp file frame → IsTable cmp file entries → ⊥

abbrev IsOne : Frame → List ℕ → Type 0
IsOne frame file = IsOfOne (IsUnsupported file) frame.places

pub told_passing : {K : Type 0} (order : Order) (e : DbError) (a b : Facts) (placed : PlacedTable) (walk : TableWalk K) (damaged : List ℕ → Type 0)
    → Refuses e a b walk.table.name damaged (λ (file : List ℕ). IsOfOne (IsUnsupported file) walk.table.frame.places) → TellsUnsupported e b (IsToldOf order a.files placed walk)
told_passing order (Unsupported what) a b placed walk damaged r = λ t passed here h.
    let f = h.first in
    (f.bytes, f.there, inr (walk.table.frame, f.frame, r t f.bytes f.named))
told_passing order _ a b placed walk damaged r = tt

pub refused_passing : {K : Type 0} (order : Order) (e : DbError) (a b : Facts) (placed : PlacedTable) (walk : TableWalk K) → Refuses e a b walk.table.name (NoTable order.cmp walk.table.frame) (IsOne walk.table.frame)
    → RefusesDirectory e a b (IsOnlyOf Never order a.files placed walk) (IsOnlyOf (IsLongTable order) order a.files placed walk)
refused_passing order OutOfMemory a b placed walk r = tt
refused_passing order Io a b placed walk r = r
refused_passing order (Corrupt kind what) a b placed walk r = λ t passed here h entries table.
    let f = h.first in
    let bytes : table.bytes ≡ f.bytes = let both : Some table.bytes ≡ Some f.bytes = sym table.there ∙ f.there in cc in
    absurd (r t f.bytes f.named table.spelled.0 f.frame (subst (λ (x : List ℕ). IsTable order.cmp x table.spelled.0) bytes table.spelled.1))
refused_passing order (Unsupported what) a b placed walk r = λ t passed here h entries table.
    let f = h.first in
    let bytes : table.bytes ≡ f.bytes = let both : Some table.bytes ≡ Some f.bytes = sym table.there ∙ f.there in cc in
    let is : IsTable order.cmp f.bytes table.spelled.0 = subst (λ (x : List ℕ). IsTable order.cmp x table.spelled.0) bytes table.spelled.1 in
    (f.bytes, f.there, (walk.table.frame, (f.frame, inr (long_entries order.cmp f.bytes walk.table.frame (r t f.bytes f.named) table.spelled.0 f.frame is))))
refused_passing order _ a b placed walk r = absurd r

-- the form of a reading of all blocks
pub as_all : (cmp : List ℕ → List ℕ → Ordering) (e : DbError) (a b : Facts) (name : List ℕ) (frame : Frame) → Refuses e a b name (NoTable cmp frame) (IsOne frame)
    → Refuses e a b name (λ (file : List ℕ). (entries : List InternalEntry) → IsFrame cmp file frame → IsTable cmp file entries → ⊥) (λ (file : List ℕ). (entries : List InternalEntry) → IsFrame cmp file frame → IsTable cmp file entries → AnyLong (handles frame))
as_all cmp e a b name frame r =
    refuses_more e a b name (NoTable cmp frame) (NoTable cmp frame) (IsOne frame) (λ (file : List ℕ). (entries : List InternalEntry) → IsFrame cmp file frame → IsTable cmp file entries → AnyLong (handles frame))
    (λ file none. none) (λ file one. long_entries cmp file frame one) r

-- ---- the first block

module _ (cmp : List ℕ → List ℕ → Ordering) (a b c : Facts) (name : List ℕ) (table : Opened) (next : ℕ) (pairs : List Pair) (h : Reads a b) (k : Reads b c) (same : table.name ≡ name)
    (found : Finds a b name (λ (file : List ℕ). IsFrame cmp file table.frame))
    (grows : Answers b c table.name (λ (file : List ℕ). (found : List Pair) → IsBegun cmp file table.frame 0 found → IsBegun cmp file table.frame next (found ++ pairs))) where
  pub opened_found : IsTrue c.faithful → (bytes : List ℕ) → get a.files name ≡ Some bytes → IsFrame cmp bytes table.frame × IsBegun cmp bytes table.frame next pairs
  opened_found t bytes there =
      let t' = k.faithful t in
      let f = found t' in
      let both : f.0 ≡ bytes = same_content a.files name f.0 bytes f.1 there in
      let now : get b.files table.name ≡ Some bytes = (let x = h.files t' in λ i. get (x i) (same i)) ∙ there in
      (subst (λ (v : List ℕ). IsFrame cmp v table.frame) both f.2, grows t bytes now [] (begun_none cmp bytes table.frame))

data_of : (cmp : List ℕ → List ℕ → Ordering) (file : List ℕ) (filter previous : Option (List ℕ)) (places : List Place) (blocks : List (List Pair)) → AreChecked cmp file filter previous places blocks → AreData cmp file places blocks
data_of cmp file filter previous [] [] h = tt
data_of cmp file filter previous [] (b ∷ blocks) h = absurd h
data_of cmp file filter previous (p ∷ places) [] h = absurd h
data_of cmp file filter previous (p ∷ places) (b ∷ blocks) h = (h.0, data_of cmp file filter (Some p.key) places blocks h.2)

take_whole : (n : ℕ) (places : List Place) → length places ≤ n → take n places ≡ places
take_whole zero [] h = refl
take_whole (suc n) [] h = refl
take_whole zero (p ∷ places) h = absurd (omega (arith, h))
take_whole (suc n) (p ∷ places) h = ap (λ (ps : List Place). p ∷ ps) (take_whole n places (omega (arith, h)))

-- a file without any pair is no table
pub none_at_all : (cmp : List ℕ → List ℕ → Ordering) (file : List ℕ) (frame : Frame) (n : ℕ) (found : List Pair) (entries : List InternalEntry) → IsFrame cmp file frame → IsBegun cmp file frame n found → length frame.places ≤ n → found ≡ []
    → IsTable cmp file entries → ⊥
none_at_all cmp file frame n found entries is h all none table =
    let whole = subst (λ (ps : List Place). AreChecked cmp file frame.filter None ps h.blocks) (take_whole n frame.places all) h.checked in
    wrong_table cmp file frame (inr (h.blocks, data_of cmp file frame.filter None frame.places h.blocks whole, sym h.found_is ∙ none)) entries is table

-- ---- the table of an edit

module _ (order : Order) (a b c : Facts) (placed : PlacedTable) (name text : List ℕ) (table : Opened) (next : ℕ) (pairs : List Pair) (h : IsUnchanged a b) (k : IsUnchanged b c) (same : text ≡ name)
    (named : IsTrue b.faithful → IsTableName a.files placed name) (found : IsTrue c.faithful → (bytes : List ℕ) → get b.files text ≡ Some bytes → IsFrame order.cmp bytes table.frame × IsBegun order.cmp bytes table.frame next pairs)
    (called : table.name ≡ text) where
  pub first_opened : IsTrue c.faithful → AreFirst order a.files placed table next pairs
  first_opened t =
      let t' = k.faithful t in
      let n = named t' in
      let now : get b.files text ≡ Some n.1.0 = ap (λ (v : List ℕ). get b.files v) same ∙ ap (λ (fs : Files). get fs name) (h.same t') ∙ n.1.1 in
      let f = found t n.1.0 now in
      record { numbered = n.0; bytes = n.1.0; there = n.1.2; size = n.1.3; named = ap (λ (v : List ℕ). get a.files v) (called ∙ same) ∙ n.1.1; frame = f.0; begun = f.1 }
