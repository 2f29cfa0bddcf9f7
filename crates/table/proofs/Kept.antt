-- What holds of a builder at any time.
use Rattle.std.proofs.Common.{◌≡◌, ◌≤◌, ◌<◌, ◌+◌, ◌^◌, inl, inr, ℕ, Bool, true, false, List, [], ◌∷◌, ◌++◌, Option, Some, None, length, refl, sym, ap, ◌∙◌, subst, append-nil, arith}
use Rattle.std.proofs.lemmas.List.{length-append}
use Rattle.std.specs.Cmp.{IsTotalOrder}
use Rattle.std.specs.Option.{ForSome, IsSome}
use Rattle.std.specs.Prelude.{IfSome, MatchBool}
use Rattle.std.specs.declared.cmp.Ordering.{Ordering}
use Rattle.block.specs.Block.{IsBlock, AreAbove}
use Rattle.block.specs.Built.{written_length}
use Rattle.block.specs.Written.{Added, last_key, key_behind}
use Rattle.ikey.specs.Below.{IsBelowInternal, internal_transitive}
use Rattle.ikey.specs.Entries.{Pair}
use Rattle.ikey.specs.Keys.{Key, IsKey}
use Rattle.table.specs.Building.{Building, MayFollow, last_added, data_length, index_length}
use Rattle.store.specs.Files.{Facts}
use Rattle.table.specs.Steps.{IsKept, MayAdd, with_pair, Appended, IsEnded}
use Rattle.table.specs.Stored.{IsHandle, stored}
use Rattle.table.proofs.Rising.{last_append, last_there, some_last, above_parts, above_last, rises_ended, rises_pushed}

-- ---- in the words of the builder

pub in_block : (block : Added) → block.interval ≡ 16 → written_length block ≡ data_length block.pairs
in_block block e = ap (λ (n : ℕ). written_length (record { interval = n; pairs = block.pairs })) e

pub in_index : (index : Added) → index.interval ≡ 1 → written_length index ≡ index_length index.pairs
in_index index e = ap (λ (n : ℕ). written_length (record { interval = n; pairs = index.pairs })) e

-- ---- an entry

pub rises_in_block : (below : List ℕ → List ℕ → Type 0) (index block : List Pair) (key : List ℕ) → ForSome (last_key (index ++ block)) (λ (last : List ℕ). below last key) → ForSome (last_key block) (λ (last : List ℕ). below last key)
rises_in_block below index block key h = λ last e. h last (last_append None index block last e)

pub kept_pushed : (cmp : List ℕ → List ℕ → Ordering) (order : IsTotalOrder cmp) (offset : ℕ) (index block new : Added) (pair : Pair) → IsKept cmp offset index block
    → ForSome (last_key (index.pairs ++ block.pairs)) (λ (last : List ℕ). IsBelowInternal cmp last pair.key) → MayAdd block new pair → IsKept cmp offset index new
kept_pushed cmp order offset index block new pair h rises (inl same) = subst (IsKept cmp offset index) (sym same) h
kept_pushed cmp order offset index block new pair h rises (inr more) =
    subst (IsKept cmp offset index) (sym more) (record {
      index_interval = h.index_interval;
      block_interval = h.block_interval;
      rises = rises_pushed (IsBelowInternal cmp) (internal_transitive cmp order) index.pairs block.pairs pair h.rises rises;
      few = h.few;
      fits = h.fits;
    })

-- ---- the end of a block

abbrev no_block : Added
no_block = record { interval = 16; pairs = [] }

ended_index : (cmp : List ℕ → List ℕ → Ordering) (order : IsTotalOrder cmp) (offset : ℕ) (index block new : Added) (place : Pair) → IsKept cmp offset index block → last_key block.pairs ≡ Some place.key
    → MayAdd index new place → (length index.pairs ≤ 2 ^ 31 → length new.pairs ≤ 2 ^ 31) → IsKept cmp offset new no_block
ended_index cmp order offset index block new place h last (inl same) few =
    subst (λ (v : Added). IsKept cmp offset v no_block) (sym same) (record {
      index_interval = h.index_interval;
      block_interval = refl;
      rises = subst (AreAbove (IsBelowInternal cmp) None) (sym (append-nil index.pairs)) (above_parts (IsBelowInternal cmp) (internal_transitive cmp order) None index.pairs block.pairs h.rises).0;
      few = h.few;
      fits = h.fits;
    })
ended_index cmp order offset index block new place h last (inr more) few =
    let long : length (index.pairs ++ place ∷ []) ≡ length index.pairs + 1 = length-append index.pairs (place ∷ []) in
    subst (λ (v : Added). IsKept cmp offset v no_block) (sym more) (record {
      index_interval = h.index_interval;
      block_interval = refl;
      rises = rises_ended (IsBelowInternal cmp) (internal_transitive cmp order) index.pairs block.pairs place h.rises last;
      few = subst (λ (v : Added). length v.pairs ≤ 2 ^ 31) more (few h.few);
      fits = omega (arith, long, h.fits);
    })

pub kept_place : (cmp : List ℕ → List ℕ → Ordering) (order : IsTotalOrder cmp) (offset : ℕ) (index block new fresh : Added) (key : List ℕ) → IsKept cmp offset index block → last_key block.pairs ≡ Some key
    → ((value : List ℕ) × MayAdd index new (record { key = key; value = value })) → (length index.pairs ≤ 2 ^ 31 → length new.pairs ≤ 2 ^ 31) → fresh ≡ no_block → IsKept cmp offset new fresh
kept_place cmp order offset index block new fresh key h last may few none =
    subst (IsKept cmp offset new) (sym none) (ended_index cmp order offset index block new (record { key = key; value = may.0 }) h last may.1 few)

-- and the offset after it
pub kept_moved : (cmp : List ℕ → List ℕ → Ordering) (offset size : ℕ) (index block new fresh : Added) (place : Pair) → IsKept cmp offset index block → IsKept cmp offset new fresh → new ≡ with_pair index place → size < 2 ^ 32
    → IsKept cmp (offset + (size + 5)) new fresh
kept_moved cmp offset size index block new fresh place old h more small =
    let long : length (index.pairs ++ place ∷ []) ≡ length index.pairs + 1 = length-append index.pairs (place ∷ []) in
    record {
      index_interval = h.index_interval;
      block_interval = h.block_interval;
      rises = h.rises;
      few = h.few;
      fits = omega (arith, ap (λ (v : Added). length v.pairs) more, long, old.fits, small);
    }

pub place_rises : (cmp : List ℕ → List ℕ → Ordering) (order : IsTotalOrder cmp) (offset : ℕ) (index block : Added) (key : List ℕ) → IsKept cmp offset index block → last_key block.pairs ≡ Some key
    → ForSome (last_key index.pairs) (λ (last : List ℕ). IsBelowInternal cmp last key)
place_rises cmp order offset index block key h last = above_last (IsBelowInternal cmp) (internal_transitive cmp order) index.pairs block.pairs key h.rises last

-- where the place of a block isn't taken
pub long_index : (offset : ℕ) (index block : Added) (key : List ℕ) (size : ℕ) → index.interval ≡ 1 → block.interval ≡ 16 → size ≡ written_length block → last_key block.pairs ≡ Some key
    → ((value : List ℕ) × IsHandle value (record { offset = offset; size = size }) × (2 ^ 30 < written_length (with_pair index (record { key = key; value = value }))))
    → (place : Pair) × (last_key block.pairs ≡ Some place.key) × IsHandle place.value (record { offset = offset; size = data_length block.pairs }) × (2 ^ 30 < index_length (index.pairs ++ place ∷ []))
long_index offset index block key size one sixteen long last h =
    let place : Pair = record { key = key; value = h.0 } in
    let same : size ≡ data_length block.pairs = long ∙ in_block block sixteen in (
      place,
      last,
      subst (λ (n : ℕ). IsHandle h.0 (record { offset = offset; size = n })) same h.1,
      subst (λ (n : ℕ). 2 ^ 30 < n) (in_index (with_pair index place) one) h.2,
    )

-- where it is
pub block_ended : (cmp : List ℕ → List ℕ → Ordering) (name : List ℕ) (block_bytes : ℕ) (created : Bool) (offset : ℕ) (hashes : List (List ℕ)) (index block new fresh : Added) (key bytes : List ℕ) (size : ℕ) (before after : Facts)
    → index.interval ≡ 1 → block.interval ≡ 16 → fresh ≡ no_block → size ≡ written_length block → size ≡ length bytes → last_key block.pairs ≡ Some key → IsBlock (IsBelowInternal cmp) bytes block.pairs
    → ((value : List ℕ) × IsHandle value (record { offset = offset; size = size }) × (new ≡ with_pair index (record { key = key; value = value })) × (written_length new ≤ 2 ^ 30))
    → Appended before after name (stored bytes)
    → IsEnded cmp (record { name = name; block_bytes = block_bytes; created = created; offset = offset; index = index.pairs; block = block.pairs; hashes = hashes })
    (record { name = name; block_bytes = block_bytes; created = created; offset = offset + (size + 5); index = new.pairs; block = fresh.pairs; hashes = hashes }) before after
block_ended cmp name block_bytes created offset hashes index block new fresh key bytes size before after one sixteen none long same last is added appended =
    let place : Pair = record { key = key; value = added.0 } in
    record {
      bytes = bytes;
      place = place;
      block_is = is;
      size_is = sym same ∙ long ∙ in_block block sixteen;
      key_is = last;
      value_is = subst (λ (n : ℕ). IsHandle added.0 (record { offset = offset; size = n })) same added.1;
      short = subst (λ (n : ℕ). n ≤ 2 ^ 30) (ap written_length added.2 ∙ in_index (with_pair index place) one) added.3;
      new_is = λ i. record { name = name; block_bytes = block_bytes; created = created; offset = offset + (same i + 5); index = (added.2 i).pairs; block = (none i).pairs; hashes = hashes };
      appended = appended;
    }

-- ---- whether an entry may follow

rises_behind : (below : List ℕ → List ℕ → Type 0) (index block : List Pair) (key : List ℕ) → (block ≡ [] → ⊥) → ForSome (last_key block) (λ (last : List ℕ). below last key) → ForSome (last_key (index ++ block)) (λ (last : List ℕ). below last key)
rises_behind below index block key some h = λ last e.
    let at : List ℕ = key_behind [] block in
    let is : last_key block ≡ Some at = some_last block at (last_there block some) refl in
    let same : at ≡ last = let t : Some at ≡ Some last = sym (last_append None index block at is) ∙ e in cc in
    subst (λ (k : List ℕ). below k key) same (h at is)

pub found_key : {X : Type 0} (o : Option X) (P : X → Type 0) → IsSome o → IfSome o P → (x : X) × P x
found_key None P e h = let t : false ≡ true = e in cc
found_key (Some x) P e h = (x, h)

follows_if : (cmp : List ℕ → List ℕ → Ordering) (b : Building) (key : List ℕ) (r : Bool) (Rises : Type 0) → (Rises → ForSome (last_added b) (λ (last : List ℕ). IsBelowInternal cmp last key))
    → (ForSome (last_added b) (λ (last : List ℕ). IsBelowInternal cmp last key) → Rises) → ((parts : Key) × IsKey key parts) → MatchBool r Rises (Rises → ⊥) → MatchBool r (MayFollow cmp b key) (MayFollow cmp b key → ⊥)
follows_if cmp b key true Rises to from parts h = record { parts = parts.0; parts_are = parts.1; rises = to h }
follows_if cmp b key false Rises to from parts h = λ may. h (from may.rises)

pub follows_block : (cmp : List ℕ → List ℕ → Ordering) (b : Building) (key : List ℕ) (r : Bool) → (b.block ≡ [] → ⊥) → ((parts : Key) × IsKey key parts)
    → MatchBool r (ForSome (last_key b.block) (λ (last : List ℕ). IsBelowInternal cmp last key)) (ForSome (last_key b.block) (λ (last : List ℕ). IsBelowInternal cmp last key) → ⊥)
    → MatchBool r (MayFollow cmp b key) (MayFollow cmp b key → ⊥)
follows_block cmp b key r some parts h =
    follows_if cmp b key r _ (rises_behind (IsBelowInternal cmp) b.index b.block key some) (rises_in_block (IsBelowInternal cmp) b.index b.block key) parts h
