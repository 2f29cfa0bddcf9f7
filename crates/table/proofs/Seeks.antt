-- Finding the first entry that isn't below a target.
use Rattle.std.proofs.Common.{◌≡◌, ◌≤◌, ◌<◌, ◌+◌, inl, inr, ℕ, zero, suc, true, false, is_some, slice_get, List, [], ◌∷◌, ◌++◌, Option, Some, None, length, take, drop, get_or, refl, sym, ap, ◌∙◌, subst, arith, append_assoc}
use Rattle.std.specs.List.{AllByRecursion}
use Rattle.std.specs.declared.cmp.Ordering.{Ordering}
use Rattle.std.specs.declared.cmp.Ordering.TheVariants.{Less}
use Rattle.std.specs.Cmp.{IsTotalOrder}
use Rattle.block.specs.Block.{AreAbove}
use Rattle.block.specs.Places.{Placed, within, IsFirstNotBelow}
use Rattle.ikey.specs.Below.{IsBelowInternal, internal_transitive, same_key}
use Rattle.ikey.specs.Entries.{InternalEntry, Pair, IsPair}
use Rattle.ikey.specs.Keys.{Key, IsKey, key_cmp}
use Rattle.store.specs.Files.{Facts}
use Rattle.table.specs.declared.handle.Place.{Place}
use Rattle.table.specs.declared.pair.KeyValue.{KeyValue}
use Rattle.table.specs.Frame.{Frame, IsFrame, ArePlaces}
use Rattle.table.specs.Reading.{Reads, Finds, Answers}
use Rattle.table.specs.Seeking.{IsFirstFrom, IsFirstOf, found_pair, pairs_found, entry_list}
use Rattle.table.specs.Table.{HasBlock, AreData, AreBounds, IsBound, IsAtMost, IsTable, ArePairs}
use Rattle.table.specs.Views.{pair_of}
use Rattle.table.proofs.DataBlocks.{AreRead, joined, one_data, same_data, read_more, read_whole}
use Rattle.table.proofs.FrameParts.{one_frame}
use Rattle.table.proofs.Steps.{reads_then, same_file, file_on}
use Rattle.table.proofs.Walks.{stood, not_stood, within_yes, one_at, full}

module _ (below : List ℕ → List ℕ → Type 0) (target : List ℕ) where
  abbrev pub AllBelow : List Pair → Type 0
  AllBelow pairs = AllByRecursion (λ (pair : Pair). below pair.key target) pairs

  pub all_append : (xs ys : List Pair) → AllBelow xs → AllBelow ys → AllBelow (xs ++ ys)
  all_append [] ys h k = k
  all_append (x ∷ xs) ys h k = (h.0, all_append xs ys h.1 k)

  -- before it stand pairs that are below
  pub first_behind : (front pairs : List Pair) (found : Option Pair) → AllBelow front → IsFirstOf below target pairs found → IsFirstOf below target (front ++ pairs) found
  first_behind front pairs None h k = all_append front pairs h k
  first_behind front pairs (Some p) h k =
      (front ++ k.0, k.1, ap (λ (t : List Pair). front ++ t) k.2 ∙ sym (append_assoc front k.0 (p ∷ k.1)), all_append front k.0 h k.3, k.4)

  -- after it stand others
  pub first_before : (pairs back : List Pair) (p : Pair) → IsFirstOf below target pairs (Some p) → IsFirstOf below target (pairs ++ back) (Some p)
  first_before pairs back p k = (k.0, k.1 ++ back, ap (λ (t : List Pair). t ++ back) k.2 ∙ append_assoc k.0 (p ∷ k.1) back, k.3, k.4)

  -- ---- in a block

  one_more : (pairs : List Pair) (n : ℕ) (p : Pair) → slice_get pairs n ≡ Some p → pairs ≡ take n pairs ++ p ∷ drop (suc n) pairs
  one_more [] n p e = let t : None ≡ Some p = e in cc
  one_more (x ∷ pairs) zero p e = let s : x ≡ p = let t : Some x ≡ Some p = e in cc in ap (λ (y : Pair). y ∷ pairs) s
  one_more (x ∷ pairs) (suc n) p e = ap (λ (t : List Pair). x ∷ t) (one_more pairs n p e)

  not_at : (pairs : List Pair) (n : ℕ) (p : Pair) → slice_get pairs n ≡ Some p → AllByRecursion (λ (pair : Pair). below pair.key target → ⊥) (drop n pairs) → below p.key target → ⊥
  not_at [] n p e h = let t : None ≡ Some p = e in cc
  not_at (x ∷ pairs) zero p e h = let s : x ≡ p = let t : Some x ≡ Some p = e in cc in subst (λ (y : Pair). below y.key target → ⊥) s h.0
  not_at (x ∷ pairs) (suc n) p e h = not_at pairs n p e h

  pub none_here : (pairs : List Pair) (cursor : Placed) → ((index : ℕ) × IsFirstNotBelow below target pairs index × (cursor.place ≡ within pairs index)) → is_some cursor.place ≡ false → AllBelow pairs
  none_here pairs cursor h none =
      subst AllBelow (full pairs h.0 (not_stood pairs h.0 (sym (ap is_some h.2) ∙ none))) h.1.front

  pub found_here : (pairs : List Pair) (cursor : Placed) (key value : List ℕ) → cursor.pairs ≡ pairs → ((index : ℕ) × IsFirstNotBelow below target pairs index × (cursor.place ≡ within pairs index)) → is_some cursor.place ≡ true
      → ((index : ℕ) (pair : Pair) → cursor.place ≡ Some index → slice_get cursor.pairs index ≡ Some pair → key ≡ pair.key)
      → ((index : ℕ) (pair : Pair) → cursor.place ≡ Some index → slice_get cursor.pairs index ≡ Some pair → value ≡ pair.value)
      → IsFirstOf below target pairs (Some (record { key = key; value = value }))
  found_here pairs cursor key value e h some keys values =
      let n : ℕ = h.0 in
      let p : n < length pairs = stood pairs n (sym (ap is_some h.2) ∙ some) in
      let here = one_at pairs n p in
      let place : cursor.place ≡ Some n = h.2 ∙ within_yes pairs n p in
      let there : slice_get cursor.pairs n ≡ Some here.0 = ap (λ (t : List Pair). slice_get t n) e ∙ here.1 in
      let k = keys n here.0 place there in
      let v = values n here.0 place there in
      let same : here.0 ≡ record { key = key; value = value } = λ i. record { key = sym k i; value = sym v i } in (
        take n pairs,
        drop (suc n) pairs,
        one_more pairs n here.0 here.1 ∙ ap (λ (y : Pair). take n pairs ++ y ∷ drop (suc n) pairs) same,
        h.1.front,
        subst (λ (y : Pair). below y.key target → ⊥) same (not_at pairs n here.0 here.1 h.1.rest),
      )

-- ---- over the blocks

joined_append : (a b : List (List Pair)) → joined (a ++ b) ≡ joined a ++ joined b
joined_append [] b = refl
joined_append (x ∷ a) b = ap (λ (t : List Pair). x ++ t) (joined_append a b) ∙ sym (append_assoc x (joined a) (joined b))

split_data : (cmp : List ℕ → List ℕ → Ordering) (file : List ℕ) (places : List Place) (n : ℕ) (d : Place) (blocks : List (List Pair)) → n < length places → AreData cmp file places blocks
    → (front : List (List Pair)) × (pairs : List Pair) × (back : List (List Pair)) × (blocks ≡ front ++ pairs ∷ back) × AreData cmp file (take n places) front × HasBlock cmp file (get_or places n d).handle pairs
split_data cmp file [] n d blocks p h = absurd (omega arith)
split_data cmp file (place ∷ places) n d [] p h = absurd h
split_data cmp file (place ∷ places) zero d (x ∷ blocks) p h = ([], x, blocks, refl, tt, h.0)
split_data cmp file (place ∷ places) (suc n) d (x ∷ blocks) p h =
    let k = split_data cmp file places n d blocks (omega arith) h.1 in
    (x ∷ k.0, k.1, k.2, ap (λ (t : List (List Pair)). x ∷ t) k.3, (h.0, k.4), k.5)

-- what was read of the first n places is below the target
pub record AreSoughtSoFar (cmp : List ℕ → List ℕ → Ordering) (target : List ℕ) (old now : Facts) (name : List ℕ) (places : List Place) (n : ℕ) : Type 0 where
  pub reads : Reads old now
  pub stood : now.failures ≡ old.failures
  pub answers : Answers old now name (λ (file : List ℕ). (found : List Pair) × AreRead cmp file places n found × AllBelow (IsBelowInternal cmp) target found)

pub sought_more : (cmp : List ℕ → List ℕ → Ordering) (target : List ℕ) (old now new : Facts) (name : List ℕ) (places : List Place) (n : ℕ) (d : Place) (pairs : List Pair) → n < length places
    → AreSoughtSoFar cmp target old now name places n → Reads now new → new.failures ≡ now.failures → Finds now new name (λ (file : List ℕ). HasBlock cmp file (get_or places n d).handle pairs)
    → AllBelow (IsBelowInternal cmp) target pairs → AreSoughtSoFar cmp target old new name places (n + 1)
sought_more cmp target old now new name places n d pairs p h reads still block all = record {
  reads = reads_then old now new h.reads reads;
  stood = still ∙ h.stood;
  answers = λ t file there.
      let b = block t in
      let s = same_file now name b.0 file b.1 (file_on old now name file h.reads (reads.faithful t) there) in
      let k = h.answers (reads.faithful t) file there in (
        k.0 ++ pairs,
        read_more cmp file places n d k.0 (k.0 ++ pairs) pairs p k.1 (subst (λ (x : List ℕ). HasBlock cmp x (get_or places n d).handle pairs) s b.2) refl,
        all_append (IsBelowInternal cmp) target k.0 pairs k.2 all,
      );
}

pub sought_here : (cmp : List ℕ → List ℕ → Ordering) (target : List ℕ) (old now new : Facts) (name : List ℕ) (places : List Place) (n : ℕ) (d : Place) (pairs : List Pair) (found : Pair) → n < length places
    → AreSoughtSoFar cmp target old now name places n → Reads now new → Finds now new name (λ (file : List ℕ). HasBlock cmp file (get_or places n d).handle pairs)
    → IsFirstOf (IsBelowInternal cmp) target pairs (Some found)
    → Answers old new name (λ (file : List ℕ). (blocks : List (List Pair)) → AreData cmp file places blocks → IsFirstOf (IsBelowInternal cmp) target (joined blocks) (Some found))
sought_here cmp target old now new name places n d pairs found p h reads block first t file there blocks data_is =
    let b = block t in
    let s = same_file now name b.0 file b.1 (file_on old now name file h.reads (reads.faithful t) there) in
    let has = subst (λ (x : List ℕ). HasBlock cmp x (get_or places n d).handle pairs) s b.2 in
    let k = h.answers (reads.faithful t) file there in
    let parts = split_data cmp file places n d blocks p data_is in
    let front : joined parts.0 ≡ k.0 = ap joined (same_data cmp file (take n places) parts.0 k.1.blocks parts.4 k.1.data_is) ∙ sym k.1.found_is in
    let here : pairs ≡ parts.1 = one_data cmp file (get_or places n d).handle pairs parts.1 has parts.5 in
    let whole : k.0 ++ (pairs ++ joined parts.2) ≡ joined blocks = (λ i. sym front i ++ (here i ++ joined parts.2)) ∙ sym (joined_append parts.0 (parts.1 ∷ parts.2)) ∙ ap joined (sym parts.3) in
    subst (λ (l : List Pair). IsFirstOf (IsBelowInternal cmp) target l (Some found)) whole
    (first_behind (IsBelowInternal cmp) target k.0 (pairs ++ joined parts.2) (Some found) k.2 (first_before (IsBelowInternal cmp) target pairs (joined parts.2) found first))

pub sought_none : (cmp : List ℕ → List ℕ → Ordering) (target : List ℕ) (file : List ℕ) (places : List Place) (n : ℕ) → length places ≤ n
    → ((found : List Pair) × AreRead cmp file places n found × AllBelow (IsBelowInternal cmp) target found)
    → (blocks : List (List Pair)) → AreData cmp file places blocks → AllBelow (IsBelowInternal cmp) target (joined blocks)
sought_none cmp target file places n p h blocks data_is = subst (AllBelow (IsBelowInternal cmp) target) (read_whole cmp file places n h.0 p h.1 blocks data_is) h.2

-- ---- before the first place

module _ (cmp : List ℕ → List ℕ → Ordering) (total : IsTotalOrder cmp) (target : List ℕ) where
  abbrev KeysBelow : List Place → Type 0
  KeysBelow places = AllByRecursion (λ (place : Place). IsBelowInternal cmp place.key target) places

  keys_below : (pairs : List Pair) (places : List Place) (previous : Option (List ℕ)) (i : ℕ) (d : Place) → ArePlaces pairs places → AreAbove (IsBelowInternal cmp) previous pairs → i < length places
      → IsBelowInternal cmp (get_or places i d).key target → KeysBelow (take (suc i) places)
  keys_below [] [] previous i d h up p k = absurd (omega arith)
  keys_below [] (y ∷ places) previous i d h up p k = absurd h
  keys_below (x ∷ pairs) [] previous i d h up p k = absurd h
  keys_below (x ∷ pairs) (y ∷ places) previous zero d h up p k = (k, tt)
  keys_below (x ∷ []) (y ∷ []) previous (suc i) d h up p k = absurd (omega arith)
  keys_below (x ∷ []) (y ∷ z ∷ places) previous (suc i) d h up p k = absurd h.2
  keys_below (x ∷ w ∷ pairs) (y ∷ []) previous (suc i) d h up p k = absurd h.2
  keys_below (x ∷ w ∷ pairs) (y ∷ z ∷ places) None (suc i) d h up p k =
      let rest = keys_below (w ∷ pairs) (z ∷ places) (Some x.key) i d h.2 up (omega arith) k in
      let step : IsBelowInternal cmp y.key z.key = subst (λ (t : List ℕ × List ℕ). IsBelowInternal cmp t.0 t.1) (λ j. (h.0 j, h.2.0 j)) up.0 in
      (internal_transitive cmp total y.key z.key target step rest.0, rest)
  keys_below (x ∷ w ∷ pairs) (y ∷ z ∷ places) (Some previous) (suc i) d h up p k =
      let rest = keys_below (w ∷ pairs) (z ∷ places) (Some x.key) i d h.2 up.1 (omega arith) k in
      let step : IsBelowInternal cmp y.key z.key = subst (λ (t : List ℕ × List ℕ). IsBelowInternal cmp t.0 t.1) (λ j. (h.0 j, h.2.0 j)) up.1.0 in
      (internal_transitive cmp total y.key z.key target step rest.0, rest)

  under : (bound : List ℕ) (pairs : List Pair) → IsBelowInternal cmp bound target → AllByRecursion (λ (pair : Pair). IsAtMost cmp pair.key bound) pairs → AllBelow (IsBelowInternal cmp) target pairs
  under bound [] h k = tt
  under bound (x ∷ pairs) h k = (at_most k.0, under bound pairs h k.1) where
    at_most : IsAtMost cmp x.key bound → IsBelowInternal cmp x.key target
    at_most (inl e) = subst (λ (t : List ℕ). IsBelowInternal cmp t target) (sym e) h
    at_most (inr b) = internal_transitive cmp total x.key bound target b h

  bounded : (bound : List ℕ) (pairs : List Pair) (others : List (List Pair)) → IsBound cmp bound pairs others → AllByRecursion (λ (pair : Pair). IsAtMost cmp pair.key bound) pairs
  bounded bound pairs [] h = h
  bounded bound pairs (next ∷ others) h = h.0

  -- the blocks in front, and those from there on
  pub blocks_below : (file : List ℕ) (n : ℕ) (places : List Place) (blocks : List (List Pair)) → AreData cmp file places blocks → AreBounds cmp places blocks → KeysBelow (take n places)
      → (front : List (List Pair)) × (back : List (List Pair)) × (blocks ≡ front ++ back) × AreData cmp file (drop n places) back × AllBelow (IsBelowInternal cmp) target (joined front)
  blocks_below file zero places blocks h b k = ([], blocks, refl, h, tt)
  blocks_below file (suc n) [] [] h b k = ([], [], refl, tt, tt)
  blocks_below file (suc n) [] (x ∷ blocks) h b k = absurd h
  blocks_below file (suc n) (place ∷ places) [] h b k = absurd h
  blocks_below file (suc n) (place ∷ places) (x ∷ blocks) h b k =
      let r = blocks_below file n places blocks h.1 b.1 k.1 in (
        x ∷ r.0,
        r.1,
        ap (λ (t : List (List Pair)). x ∷ t) r.2,
        r.3,
        all_append (IsBelowInternal cmp) target x (joined r.0) (under place.key x k.0 (bounded place.key x blocks b.0)) r.4,
      )

  pub front_keys : (file : List ℕ) (frame : Frame) (n : ℕ) → IsFrame cmp file frame → n ≤ length frame.places
      → ((i : ℕ) (d : Place) → n ≡ i + 1 → IsBelowInternal cmp (get_or frame.places i d).key target) → KeysBelow (take n frame.places)
  front_keys file frame zero is p h = tt
  front_keys file frame (suc n) is p h =
      at_first frame.places refl p h where
        at_first : (places : List Place) → frame.places ≡ places → suc n ≤ length frame.places → ((i : ℕ) (d : Place) → suc n ≡ i + 1 → IsBelowInternal cmp (get_or frame.places i d).key target) → KeysBelow (take (suc n) frame.places)
        at_first [] e p h = absurd (omega (arith, p, ap length e))
        at_first (d ∷ places) e p h = keys_below is.index_is.1 frame.places None n d is.index_is.4 is.index_is.3.2.rises (omega arith) (h n d (omega arith))

  -- ---- pairs and entries

  less_of : (pair : Pair) (entry : InternalEntry) (key : Key) → IsKey target key → IsPair pair entry → IsBelowInternal cmp pair.key target → key_cmp cmp entry.key key ≡ Less
  less_of pair entry key k is b =
      let left = same_key pair.key b.0 entry.key b.2 is.key in
      let right = same_key target b.1 key b.3 k in
      sym (λ i. key_cmp cmp (left i) (right i)) ∙ b.4

  all_less : (pairs : List Pair) (entries : List InternalEntry) (key : Key) → IsKey target key → ArePairs pairs entries → AllBelow (IsBelowInternal cmp) target pairs
      → AllByRecursion (λ (entry : InternalEntry). key_cmp cmp entry.key key ≡ Less) entries
  all_less [] [] key k is h = tt
  all_less [] (y ∷ entries) key k is h = absurd is
  all_less (x ∷ pairs) [] key k is h = absurd is
  all_less (x ∷ pairs) (y ∷ entries) key k is h = (less_of x y key k is.0 h.0, all_less pairs entries key k is.1 h.1)

  split_entries : (front back : List Pair) (p : Pair) (entries : List InternalEntry) (key : Key) → IsKey target key → ArePairs (front ++ p ∷ back) entries → AllBelow (IsBelowInternal cmp) target front
      → (IsBelowInternal cmp p.key target → ⊥)
      → (at : InternalEntry) × IsFirstFrom cmp key entries (Some at) × IsPair p at
  split_entries [] back p [] key k is h none = absurd is
  split_entries [] back p (y ∷ entries) key k is h none = (y, ([], entries, refl, tt, λ e. none (y.key, key, is.0.key, k, e)), is.0)
  split_entries (x ∷ front) back p [] key k is h none = absurd is
  split_entries (x ∷ front) back p (y ∷ entries) key k is h none =
      let r = split_entries front back p entries key k is.1 h.1 none in
      (r.0, (y ∷ r.1.0, r.1.1, ap (λ (t : List InternalEntry). y ∷ t) r.1.2, (less_of x y key k is.0 h.0, r.1.3), r.1.4), r.2)

  pub first_entry : (pairs : List Pair) (found : Option KeyValue) (entries : List InternalEntry) (key : Key) → IsKey target key → ArePairs pairs entries → IsFirstOf (IsBelowInternal cmp) target pairs (found_pair found)
      → (at : Option InternalEntry) × IsFirstFrom cmp key entries at × ArePairs (pairs_found found) (entry_list at)
  first_entry pairs None entries key k is h = (None, all_less pairs entries key k is h, tt)
  first_entry pairs (Some found) entries key k is h =
      let r = split_entries h.0 h.1 (pair_of found) entries key k (subst (λ (t : List Pair). ArePairs t entries) h.2 is) h.3 h.4 in
      (Some r.0, r.1, (r.2, tt))

  -- from the first place on
  pub sought : (file : List ℕ) (frame : Frame) (n : ℕ) (found : Option KeyValue) → n ≤ length frame.places → ((i : ℕ) (d : Place) → n ≡ i + 1 → IsBelowInternal cmp (get_or frame.places i d).key target)
      → ((blocks : List (List Pair)) → AreData cmp file (drop n frame.places) blocks → IsFirstOf (IsBelowInternal cmp) target (joined blocks) (found_pair found))
      → (entries : List InternalEntry) (key : Key) → IsFrame cmp file frame → IsTable cmp file entries → IsKey target key
      → (at : Option InternalEntry) × IsFirstFrom cmp key entries at × ArePairs (pairs_found found) (entry_list at)
  sought file frame n found p front first entries key is table k =
      let same = one_frame cmp file table.0 frame table.1 is in
      let data_is = subst (λ (f : Frame). AreData cmp file f.places table.2.blocks) same table.2.data_is in
      let bounds = subst (λ (f : Frame). AreBounds cmp f.places table.2.blocks) same table.2.bounds in
      let parts = blocks_below file n frame.places table.2.blocks data_is bounds (front_keys file frame n is p front) in
      first_entry (joined table.2.blocks) found entries key k table.2.entries_are
      (subst (λ (t : List (List Pair)). IsFirstOf (IsBelowInternal cmp) target (joined t) (found_pair found)) (sym parts.2)
      (subst (λ (t : List Pair). IsFirstOf (IsBelowInternal cmp) target t (found_pair found)) (sym (joined_append parts.0 parts.1))
      (first_behind (IsBelowInternal cmp) target (joined parts.0) (joined parts.1) (found_pair found) parts.4 (first parts.1 parts.3))))
