-- The order of what a cache keeps.
use Rattle.std.proofs.Common.{◌≡◌, ◌-◌, ℕ, Bool, true, false, List, [], ◌∷◌, map, take, Option, Some, None, Result, Ok, Err, OnOk, OnErr, refl, sym, ap, subst, inl, inr, ◌∙◌}
use Rattle.std.specs.Option.{option_map, option_map_or}
use Rattle.std.specs.Map.{lookup_entry, remove_entry}
use Rattle.std.proofs.lemmas.List.{take-map}
use Rattle.lru.specs.LruCache.{LruCache, lru_cache, promoted, put_entries}
use Rattle.lru.proofs.CallerLemmas.{IsPut, Contains-lookup_entry}
use Rattle.block.specs.Reading.{Contents}
use Rattle.ikey.specs.Entries.{Pair}
use Rattle.std.specs.declared.alloc.Global.{Global}
use Rattle.std.specs.declared.rc.Rc.{Rc}
use Rattle.table.specs.Frame.{Opened}
use Rattle.cache.specs.Blocks.{KeptBlock, IsOf, blocks_when_used, kept_block}
use Rattle.cache.specs.Shared.{blocks_of}
use Rattle.cache.specs.declared.slot.Slot.{Slot}
use Rattle.cache.specs.Tables.{KeptTable, IsKeptOf, kept_table, tables_of, tables_when_used}
use Rattle.cache.specs.Uses.{first_that, all_others, when_used, IsPutFirst}

-- a cache's pairs as contracts see them, where a key passes exactly where what is seen of its pair
-- does
module _ {K V X : Type 0} (f : K × V → X) (test : K → Bool) (passes : X → Bool) (tests : (e : K × V) → passes (f e) ≡ test e.0) where
  pub first-map : (es : List (K × V)) → first_that passes (map f es) ≡ option_map f (lookup_entry test es)
  first-map [] = refl
  first-map (e ∷ es) = let on = first-map es in (elim (test e.0) as (λ y. test e.0 ≡ y → first_that passes (map f (e ∷ es)) ≡ option_map f (lookup_entry test (e ∷ es))) [
    | true ↦ λ t. let s = tests e in rw (s, t) refl
    | false ↦ λ t. let s = tests e in rw (s, t) on
  ]) refl

  pub others-map : (es : List (K × V)) → map f (remove_entry test es) ≡ all_others passes (map f es)
  others-map [] = refl
  others-map (e ∷ es) = let on = others-map es in (elim (test e.0) as (λ y. test e.0 ≡ y → map f (remove_entry test (e ∷ es)) ≡ all_others passes (map f (e ∷ es))) [
    | true ↦ λ t. let s = tests e in rw (s, t) refl
    | false ↦ λ t. let s = tests e in rw (s, t) (ap (λ l. f e ∷ l) on)
  ]) refl

  used_by : (es : List (K × V)) (o : Option (K × V)) → map f (option_map_or (λ e. e ∷ remove_entry test es) o es) ≡ option_map_or (λ x. x ∷ all_others passes (map f es)) (option_map f o) (map f es)
  used_by es None = refl
  used_by es (Some e) = ap (λ l. f e ∷ l) (others-map es)

  pub used-map : (es : List (K × V)) → map f (promoted test es) ≡ when_used passes (map f es)
  used-map es = used_by es (lookup_entry test es) ∙ ap (λ o. option_map_or (λ x. x ∷ all_others passes (map f es)) o (map f es)) (sym (first-map es))

  -- a pair that is put, seen as x
  module _ (eq : K → K → Bool) (old : LruCache K V) (k : K) (v : V) (x : X) (is_test : (j : K) → eq k j ≡ test j) (seen : (e : K × V) → IsPut eq old k v e → f e ≡ x) where
    put_by : (o : Option (K × V)) → lookup_entry (eq k) old.entries ≡ o
        → IsPutFirst passes (map f old.entries) (map f (option_map_or (λ e. (e.0, v) ∷ remove_entry (eq k) old.entries) o ((k, v) ∷ take (old.cap - 1) old.entries))) old.cap x
    put_by None h = inr (inr (λ i. seen (k, v) (refl, inl refl) i ∷ sym (take-map f (old.cap - 1) old.entries) i))
    put_by (Some e) h =
        let was = Contains-lookup_entry (eq k) old.entries e h in
        let same : eq k ≡ test = λ i j. is_test j i in
        inr (inl (λ i. seen (e.0, v) (refl, inr (e.1, was.0, was.1)) i ∷ (ap (λ (t : K → Bool). map f (remove_entry t old.entries)) same ∙ others-map old.entries) i))

    pub put-map : {T E : Type 0} (new : LruCache K V) (result : Result T E) → OnOk result (new ≡ lru_cache (put_entries eq old k v) old.cap) → OnErr result (new ≡ old)
        → IsPutFirst passes (map f old.entries) (map f new.entries) old.cap x
    put-map new (Ok r) done undone = subst (λ (c : LruCache K V). IsPutFirst passes (map f old.entries) (map f c.entries) old.cap x) (sym done) (put_by (lookup_entry (eq k) old.entries) refl)
    put-map new (Err e) done undone = inl (ap (λ (c : LruCache K V). map f c.entries) undone)

-- what is put is this block
pub block_is : (kept : KeptBlock) (file index : ℕ) (pairs : List Pair) → IsOf kept file index pairs → kept ≡ kept_block file index pairs
block_is kept file index pairs is = λ i. record { file = is.0 i; index = is.1 i; pairs = is.2 i }

-- or this table
pub table_is : (kept : KeptTable) (number : ℕ) (table : Opened) → IsKeptOf kept number table → kept ≡ kept_table number table
table_is kept number table is = λ i. record { number = is.0 i; table = is.1 i }

-- where nothing is ever kept, a use changes nothing
pub none_used : (blocks : Option (LruCache Slot (Rc Contents Global))) (file index : ℕ) → blocks ≡ None → (blocks_of blocks).blocks ≡ blocks_when_used file index (blocks_of blocks).blocks
none_used None file index e = refl
none_used (Some cache) file index e = cc

pub no_table_used : (tables : Option (LruCache ℕ (Rc Opened Global))) (number : ℕ) → tables ≡ None → (tables_of tables).tables ≡ tables_when_used number (tables_of tables).tables
no_table_used None number e = refl
no_table_used (Some cache) number e = cc
