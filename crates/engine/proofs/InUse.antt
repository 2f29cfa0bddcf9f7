-- Which tables and memtables the open iterators of a database use.
use Rattle.std.proofs.Common.{◌≡◌, ℕ, suc, Bool, true, false, cond, List, [], ◌∷◌, length, Option, Some, None, inl, inr, refl, sym, subst, arith, ◌++◌, All, Any, Bor}
use Rattle.std.specs.BTreeMap.{BTreeMap}
use Rattle.std.specs.Map.{lookup, values_of}
use Rattle.std.specs.Map.Iter.{TakesFirst, deref}
use Rattle.std.specs.Iterator.{Yields}
use Rattle.std.proofs.lemmas.Map.Iter.{iter_end, iter_turn}
use Rattle.std.proofs.lemmas.Option.{get_or_from_slice_get}
use Rattle.std.proofs.lemmas.List.Elements.{All-map, All-push}
use Rattle.edits.specs.declared.field.PlacedTable.{PlacedTable}
use Rattle.running_job.specs.declared.open_job.OpenJob.{OpenJob}
use Rattle.level_cursor.specs.InRows as rows
use Rattle.db_cursor.specs.Scans.{reads_memory, tables_of}
use Rattle.db_cursor.specs.declared.scan.Scan.{Scan}
use Rattle.versions.specs.Levels as versions
use Rattle.engine.specs.InUse.{AnyIterator, IsMemoryUsed, IsTableUsed}
use Rattle.engine.specs.Reads.{kept_at}

more : {X : Type 0} (P : X → Type 0) (x : X) (xs : List X) → Any P xs → Any P (x ∷ xs)
more P x xs (k, y, lt, is, h) = (suc k, y, omega (arith, lt), is, h)

any_found : {X : Type 0} (test : ℕ → Bool) (P : X → Type 0) (entries : List (ℕ × X)) (x : X) → lookup test entries ≡ Some x → P x → Any P (values_of entries)
any_found test P [] x is h = absurd (cc)
any_found {X} test P (e ∷ entries) x is h = at (λ there. any_found test P entries x there h) (test e.0) is
  where
    at : (lookup test entries ≡ Some x → Any P (values_of entries)) → (b : Bool) → cond b (Some e.1) (lookup test entries) ≡ Some x → Any P (values_of (e ∷ entries))
    at later true here = (let same : e.1 ≡ x = cc in (0, e.1, omega arith, refl, subst P (sym same) h))
    at later false there = more P e.1 (values_of entries) (later there)

pub as_used : (placed_in : List PlacedTable) (number : ℕ) → rows.ListsNumber placed_in number → versions.HasNumber number placed_in
as_used placed_in number (placed, (k, lt, e), is) = (k, placed, lt, e, is)

pub as_listed : (placed_in : List PlacedTable) (number : ℕ) → versions.HasNumber number placed_in → rows.ListsNumber placed_in number
as_listed placed_in number (k, placed, lt, e, is) = (placed, (k, lt, e), is)

module _ {K : Type 0} {g : _} (tables : List PlacedTable) (job : Option (OpenJob K g)) (iterators : BTreeMap ℕ (Scan K g)) where
  pub any_iterator : (P : Scan K g → Type 0) (id : ℕ) (scan : Scan K g) → kept_at iterators id ≡ Some scan → P scan → AnyIterator iterators P
  any_iterator P id scan there h = any_found _ P iterators.entries scan there h

  pub table_used : (number : ℕ) → rows.ListsNumber tables number → IsTableUsed tables job iterators number
  table_used number has = inl (inl (as_used tables number has))

  pub read_used : (id : ℕ) (scan : Scan K g) (number : ℕ) → kept_at iterators id ≡ Some scan → rows.ListsNumber (tables_of scan) number → IsTableUsed tables job iterators number
  read_used id scan number there has = inl (inr (any_iterator (λ one. versions.HasNumber number (tables_of one)) id scan there (as_used (tables_of scan) number has)))

  pub memory_used : (id : ℕ) (scan : Scan K g) (generation : ℕ) → kept_at iterators id ≡ Some scan → reads_memory scan generation → IsMemoryUsed iterators generation
  memory_used id scan generation there reads = any_iterator (λ one. reads_memory one generation) id scan there reads

-- ---- by a loop over what is kept

-- the element at which the loop is
pub any_turn : {X : Type 0} (P : X → Type 0) (all : List X) (xs : List (Bor X)) (s t u : List X) (r : Option (Bor X)) (start : s ≡ all) (y : Yields (TakesFirst deref) s xs t) → (x : Bor X) → r ≡ Some x → TakesFirst deref t r u → P x.now → Any P all
any_turn P all xs s t u r start y x is step h =
    let at = iter_turn deref all xs s t u r start y x is step in
    (length xs, x.now, at.0, get_or_from_slice_get all (length xs) x.now x.now at.1, h)

-- no element so far
pub none_more : {X : Type 0} (P : X → Type 0) (xs : List (Bor X)) (x : Bor X) → All (λ (b : Bor X). P b.now → ⊥) xs → (P x.now → ⊥) → All (λ (b : Bor X). P b.now → ⊥) (xs ++ x ∷ [])
none_more {X} P xs x before h = All-push (λ (b : Bor X). P b.now → ⊥) xs x before h

-- none at all
pub none_end : {X : Type 0} (P : X → Type 0) (all : List X) (xs : List (Bor X)) (s t u : List X) (r : Option (Bor X)) (start : s ≡ all) (y : Yields (TakesFirst deref) s xs t) → r ≡ None → TakesFirst deref t r u
    → All (λ (b : Bor X). P b.now → ⊥) xs → Any P all → ⊥
none_end {X} P all xs s t u r start y is step none any =
    let end = iter_end deref all xs s t u r start y is step in
    let each : All (λ (x : X). P x → ⊥) all = subst (λ (ys : List X). All (λ (x : X). P x → ⊥) ys) end.0 (All-map (λ (x : X). P x → ⊥) deref xs none) in
    each any.0 any.1 any.2 (subst P (sym any.3) any.4)
