-- Data blocks, read one after another.
use Rattle.std.proofs.Common.{◌≡◌, ◌≤◌, ◌<◌, ◌+◌, inl, inr, ℕ, zero, suc, List, [], ◌∷◌, ◌++◌, length, take, drop, map, get_or, refl, sym, ap, ◌∙◌, subst, arith, append_assoc}
use Rattle.std.proofs.lemmas.List.{append-nil, take_all}
use Rattle.std.specs.List.{flat_map}
use Rattle.std.specs.declared.cmp.Ordering.{Ordering}
use Rattle.block.proofs.BlockLaws.{same_block}
use Rattle.block.specs.Block.{IsBlock}
use Rattle.ikey.specs.Below.{IsBelowInternal, same_key}
use Rattle.ikey.specs.Entries.{InternalEntry, Pair}
use Rattle.coding.specs.declared.error.DbError.{DbError}
use Rattle.store.specs.Files.{Facts}
use Rattle.table.specs.declared.handle.Handle.{Handle}
use Rattle.table.specs.declared.handle.Place.{Place}
use Rattle.table.specs.Frame.{Frame, IsFrame, AnyLong, handles}
use Rattle.table.specs.Reading.{Reads, Finds, Answers, Refuses}
use Rattle.table.specs.Refusals.{IsDamaged, IsUnsupported, IsOfOne, IsOfOneFrom}
use Rattle.table.specs.Stored.{IsStored}
use Rattle.table.specs.Table.{HasBlock, AreData, IsTable, ArePairs}
use Rattle.table.proofs.FrameParts.{one_frame}
use Rattle.table.proofs.Steps.{reads_then, file_on, same_file, refuses_more}
use Rattle.table.proofs.StoredBlocks.{one_stored, only_long}

abbrev pub joined : List (List Pair) → List Pair
joined blocks = flat_map (λ (pairs : List Pair). pairs) blocks

pub one_data : (cmp : List ℕ → List ℕ → Ordering) (file : List ℕ) (handle : Handle) (a b : List Pair) → HasBlock cmp file handle a → HasBlock cmp file handle b → a ≡ b
one_data cmp file handle a b h k =
    let bytes = one_stored file handle k.0 h.0 k.1 h.1 in
    same_block (IsBelowInternal cmp) h.0 a b h.2 (subst (λ (t : List ℕ). IsBlock (IsBelowInternal cmp) t b) bytes k.2)

pub same_data : (cmp : List ℕ → List ℕ → Ordering) (file : List ℕ) (places : List Place) (a b : List (List Pair)) → AreData cmp file places a → AreData cmp file places b → a ≡ b
same_data cmp file [] [] [] h k = refl
same_data cmp file [] [] (y ∷ b) h k = absurd k
same_data cmp file [] (x ∷ a) b h k = absurd h
same_data cmp file (place ∷ places) [] b h k = absurd h
same_data cmp file (place ∷ places) (x ∷ a) [] h k = absurd k
same_data cmp file (place ∷ places) (x ∷ a) (y ∷ b) h k =
    let e = one_data cmp file place.handle x y h.0 k.0 in
    let f = same_data cmp file places a b h.1 k.1 in λ i. e i ∷ f i

-- what was read of the first n places
pub record AreRead (cmp : List ℕ → List ℕ → Ordering) (file : List ℕ) (places : List Place) (n : ℕ) (found : List Pair) : Type 0 where
  pub blocks : List (List Pair)
  pub data_is : AreData cmp file (take n places) blocks
  pub found_is : found ≡ joined blocks

pub read_none : (cmp : List ℕ → List ℕ → Ordering) (file : List ℕ) (places : List Place) → AreRead cmp file places 0 []
read_none cmp file places = record { blocks = []; data_is = tt; found_is = refl }

data_more : (cmp : List ℕ → List ℕ → Ordering) (file : List ℕ) (places : List Place) (n : ℕ) (d : Place) (blocks : List (List Pair)) (pairs : List Pair) → n < length places
    → AreData cmp file (take n places) blocks → HasBlock cmp file (get_or places n d).handle pairs → AreData cmp file (take (suc n) places) (blocks ++ pairs ∷ [])
data_more cmp file [] n d blocks pairs p h k = absurd (omega arith)
data_more cmp file (place ∷ places) zero d [] pairs p h k = (k, tt)
data_more cmp file (place ∷ places) zero d (x ∷ blocks) pairs p h k = absurd h
data_more cmp file (place ∷ places) (suc n) d [] pairs p h k = absurd h
data_more cmp file (place ∷ places) (suc n) d (x ∷ blocks) pairs p h k = (h.0, data_more cmp file places n d blocks pairs (omega arith) h.1 k)

pub joined_more : (blocks : List (List Pair)) (pairs : List Pair) → joined (blocks ++ pairs ∷ []) ≡ joined blocks ++ pairs
joined_more [] pairs = append-nil pairs
joined_more (x ∷ blocks) pairs = ap (λ (t : List Pair). x ++ t) (joined_more blocks pairs) ∙ sym (append_assoc x (joined blocks) pairs)

pub read_more : (cmp : List ℕ → List ℕ → Ordering) (file : List ℕ) (places : List Place) (n : ℕ) (d : Place) (found new pairs : List Pair) → n < length places → AreRead cmp file places n found
    → HasBlock cmp file (get_or places n d).handle pairs → new ≡ found ++ pairs → AreRead cmp file places (n + 1) new
read_more cmp file places n d found new pairs p h k e = record {
  blocks = h.blocks ++ pairs ∷ [];
  data_is = let s : suc n ≡ n + 1 = omega arith in subst (λ (m : ℕ). AreData cmp file (take m places) (h.blocks ++ pairs ∷ [])) s (data_more cmp file places n d h.blocks pairs p h.data_is k);
  found_is = e ∙ ap (λ (t : List Pair). t ++ pairs) h.found_is ∙ sym (joined_more h.blocks pairs);
}

pub read_whole : (cmp : List ℕ → List ℕ → Ordering) (file : List ℕ) (places : List Place) (n : ℕ) (found : List Pair) → length places ≤ n → AreRead cmp file places n found
    → (blocks : List (List Pair)) → AreData cmp file places blocks → found ≡ joined blocks
read_whole cmp file places n found p h blocks data_is =
    h.found_is ∙ ap joined (same_data cmp file places h.blocks blocks (subst (λ (t : List Place). AreData cmp file t h.blocks) (take_all n places p) h.data_is) data_is)

-- ---- what is so of one of the blocks

pub is_of_one : (is : Handle → Type 0) (places : List Place) (n : ℕ) (d : Place) → n < length places → is (get_or places n d).handle → IsOfOne is places
is_of_one is [] n d p h = absurd (omega (arith, p))
is_of_one is (place ∷ places) zero d p h = inl h
is_of_one is (place ∷ places) (suc n) d p h = inr (is_of_one is places n d (omega (arith, p)) h)

pub none_damaged : (cmp : List ℕ → List ℕ → Ordering) (file : List ℕ) (places : List Place) (blocks : List (List Pair)) → AreData cmp file places blocks → IsOfOne (IsDamaged cmp file) places → ⊥
none_damaged cmp file [] blocks h one = one
none_damaged cmp file (place ∷ places) [] h one = h
none_damaged cmp file (place ∷ places) (pairs ∷ blocks) h (inl here) = here.0 pairs h.0
none_damaged cmp file (place ∷ places) (pairs ∷ blocks) h (inr there) = none_damaged cmp file places blocks h.1 there

pub one_long : (cmp : List ℕ → List ℕ → Ordering) (file : List ℕ) (places : List Place) (blocks : List (List Pair)) → AreData cmp file places blocks → IsOfOne (IsUnsupported file) places
    → AnyLong (map (λ (place : Place). place.handle) places)
one_long cmp file [] blocks h one = one
one_long cmp file (place ∷ places) [] h one = absurd h
one_long cmp file (place ∷ places) (pairs ∷ blocks) h (inl here) = inl (only_long file place.handle h.0.0 h.0.1 here)
one_long cmp file (place ∷ places) (pairs ∷ blocks) h (inr there) = inr (one_long cmp file places blocks h.1 there)

pub one_behind : (is : Handle → Type 0) (n : ℕ) (places : List Place) → IsOfOne is (drop n places) → IsOfOne is places
one_behind is zero places h = h
one_behind is (suc n) [] h = absurd h
one_behind is (suc n) (place ∷ places) h = inr (one_behind is n places h)

-- a block that isn't one
pub no_data : (cmp : List ℕ → List ℕ → Ordering) (file bytes : List ℕ) (handle : Handle) → ((pairs : List Pair) → IsBlock (IsBelowInternal cmp) bytes pairs → ⊥) → IsStored file handle bytes
    → (pairs : List Pair) → HasBlock cmp file handle pairs → ⊥
no_data cmp file bytes handle none stored pairs h =
    none pairs (subst (λ (t : List ℕ). IsBlock (IsBelowInternal cmp) t pairs) (one_stored file handle h.0 bytes h.1 stored) h.2)

-- ---- over a store

-- the invariant of the loop over the places
pub record AreReadSoFar (cmp : List ℕ → List ℕ → Ordering) (old now : Facts) (name : List ℕ) (places : List Place) (n : ℕ) (found : List Pair) : Type 0 where
  pub reads : Reads old now
  pub stood : now.failures ≡ old.failures
  pub answers : Answers old now name (λ (file : List ℕ). AreRead cmp file places n found)

pub so_far_more : (cmp : List ℕ → List ℕ → Ordering) (old now new : Facts) (name : List ℕ) (places : List Place) (n : ℕ) (d : Place) (found more pairs : List Pair) → n < length places
    → AreReadSoFar cmp old now name places n found → Reads now new → new.failures ≡ now.failures → Finds now new name (λ (file : List ℕ). HasBlock cmp file (get_or places n d).handle pairs) → more ≡ found ++ pairs
    → AreReadSoFar cmp old new name places (n + 1) more
so_far_more cmp old now new name places n d found more pairs p h reads still block e = record {
  reads = reads_then old now new h.reads reads;
  stood = still ∙ h.stood;
  answers = λ t file there.
      read_more cmp file places n d found more pairs p (h.answers (reads.faithful t) file there)
      (let b = block t in subst (λ (x : List ℕ). HasBlock cmp x (get_or places n d).handle pairs) (same_file now name b.0 file b.1 (file_on old now name file h.reads (reads.faithful t) there)) b.2) e;
}

-- ---- tables

pub entries_read : (cmp : List ℕ → List ℕ → Ordering) (file : List ℕ) (frame : Frame) (found : List Pair) → ((blocks : List (List Pair)) → AreData cmp file frame.places blocks → found ≡ joined blocks)
    → (entries : List InternalEntry) → IsFrame cmp file frame → IsTable cmp file entries → ArePairs found entries
entries_read cmp file frame found all entries is table =
    let same = one_frame cmp file table.0 frame table.1 is in
    let data_is = subst (λ (f : Frame). AreData cmp file f.places table.2.blocks) same table.2.data_is in
    subst (λ (t : List Pair). ArePairs t entries) (sym (all table.2.blocks data_is)) table.2.entries_are

abbrev pub NoTable : (List ℕ → List ℕ → Ordering) → Frame → Type 0 → List ℕ → Type 0
NoTable cmp frame then file = (entries : List InternalEntry) → IsFrame cmp file frame → IsTable cmp file entries → then

-- where one of its blocks is damaged there is no table, and of a table with one that isn't
-- supported it is too long
pub no_entries : (cmp : List ℕ → List ℕ → Ordering) (file : List ℕ) (frame : Frame) → IsOfOne (IsDamaged cmp file) frame.places → NoTable cmp frame ⊥ file
no_entries cmp file frame one entries is table =
    let same = one_frame cmp file table.0 frame table.1 is in
    none_damaged cmp file frame.places table.2.blocks (subst (λ (f : Frame). AreData cmp file f.places table.2.blocks) same table.2.data_is) one

pub long_entries : (cmp : List ℕ → List ℕ → Ordering) (file : List ℕ) (frame : Frame) → IsOfOne (IsUnsupported file) frame.places → NoTable cmp frame (AnyLong (handles frame)) file
long_entries cmp file frame one entries is table =
    let same = one_frame cmp file table.0 frame table.1 is in
    one_long cmp file frame.places table.2.blocks (subst (λ (f : Frame). AreData cmp file f.places table.2.blocks) same table.2.data_is) one

pub entries_refused : (cmp : List ℕ → List ℕ → Ordering) (e : DbError) (a b : Facts) (name : List ℕ) (frame : Frame)
    → Refuses e a b name (λ (file : List ℕ). IsOfOne (IsDamaged cmp file) frame.places) (λ (file : List ℕ). IsOfOne (IsUnsupported file) frame.places)
    → Refuses e a b name (NoTable cmp frame ⊥) (NoTable cmp frame (AnyLong (handles frame)))
entries_refused cmp e a b name frame h =
    refuses_more e a b name _ (NoTable cmp frame ⊥) _ (NoTable cmp frame (AnyLong (handles frame))) (λ file one. no_entries cmp file frame one) (λ file one. long_entries cmp file frame one) h

pub seek_refused : (cmp : List ℕ → List ℕ → Ordering) (target : List ℕ) (e : DbError) (a b : Facts) (name : List ℕ) (frame : Frame)
    → Refuses e a b name (λ (file : List ℕ). IsOfOneFrom cmp target (IsDamaged cmp file) frame.places) (λ (file : List ℕ). IsOfOneFrom cmp target (IsUnsupported file) frame.places)
    → Refuses e a b name (NoTable cmp frame ⊥) (NoTable cmp frame (AnyLong (handles frame)))
seek_refused cmp target e a b name frame h =
    refuses_more e a b name _ (NoTable cmp frame ⊥) _ (NoTable cmp frame (AnyLong (handles frame)))
    (λ file one. no_entries cmp file frame (one_behind (IsDamaged cmp file) one.0 frame.places one.2)) (λ file one. long_entries cmp file frame (one_behind (IsUnsupported file) one.0 frame.places one.2)) h

-- ---- no file is two tables

one_key_each : (pairs : List Pair) (a b : List InternalEntry) → ArePairs pairs a → ArePairs pairs b → a ≡ b
one_key_each [] [] [] h k = refl
one_key_each [] [] (y ∷ b) h k = absurd k
one_key_each [] (x ∷ a) b h k = absurd h
one_key_each (pair ∷ pairs) [] b h k = absurd h
one_key_each (pair ∷ pairs) (x ∷ a) [] h k = absurd k
one_key_each (pair ∷ pairs) (x ∷ a) (y ∷ b) h k =
    let key = same_key pair.key x.key y.key h.0.key k.0.key in
    let value : x.value ≡ y.value = sym h.0.value ∙ k.0.value in
    let rest = one_key_each pairs a b h.1 k.1 in
    λ i. record { key = key i; value = value i } ∷ rest i

pub same_table : (cmp : List ℕ → List ℕ → Ordering) (file : List ℕ) (a b : List InternalEntry) → IsTable cmp file a → IsTable cmp file b → a ≡ b
same_table cmp file a b h k =
    let frames = one_frame cmp file k.0 h.0 k.1 h.1 in
    let blocks = same_data cmp file h.0.places k.2.blocks h.2.blocks (subst (λ (f : Frame). AreData cmp file f.places k.2.blocks) frames k.2.data_is) h.2.data_is in
    one_key_each (joined h.2.blocks) a b h.2.entries_are (subst (λ (t : List (List Pair)). ArePairs (joined t) b) blocks k.2.entries_are)
