-- Where the blocks of a table lie in each list that it may be.
use Rattle.std.specs.Prelude.{◌≡◌, ◌<◌, ◌≤◌, ◌+◌, ◌++◌, ℕ, zero, suc, List, [], ◌∷◌, Option, Some, None, length}
use Rattle.std.specs.List.{slice_get}
use Rattle.std.proofs.Common.{refl, sym, ap, ◌∙◌, subst, arith}
use Rattle.std.proofs.lemmas.Option.{slice_get_within}
use Rattle.block.specs.Places.{Placed}
use Rattle.cursor.specs.Cuts.{Cut, SameCut, is_in_front}
use Rattle.cursor.specs.Places.{Cmp, Listed}
use Rattle.cursor.proofs.Fronts.{among_get}
use Rattle.cursor.proofs.Singles.{pairs_length}
use Rattle.edits.specs.declared.field.PlacedTable.{PlacedTable}
use Rattle.ikey.specs.Below.{same_key}
use Rattle.ikey.specs.Entries.{InternalEntry, Pair, IsPair}
use Rattle.ikey.specs.Keys.{Key, IsKey}
use Rattle.table_access.specs.declared.in_block.InBlock.{InBlock}
use Rattle.table_access.specs.Ends.{IsIntactIn}
use Rattle.table_access.specs.TablePlaces.{ListsTable, joined, pairs_before}
use Rattle.table_access.specs.Tables.{Seen, HasSoundTable}
use Rattle.table_access.specs.Torn.{TornTable}
use Rattle.table.specs.Frame.{Frame}
use Rattle.table.specs.Table.{ArePairs}

-- ---- lists

there : {A : Type 0} (xs : List A) (n : ℕ) → n < length xs → (x : A) × (slice_get xs n ≡ Some x)
there [] n h = absurd (omega (arith, h))
there (x ∷ xs) zero h = (x, refl)
there (x ∷ xs) (suc n) h = there xs n (omega (arith, h))

in_front : {A : Type 0} (xs ys : List A) (n : ℕ) (x : A) → slice_get xs n ≡ Some x → slice_get (xs ++ ys) n ≡ Some x
in_front [] ys n x e = absurd (let bad : None ≡ Some x = e in cc)
in_front (y ∷ xs) ys zero x e = e
in_front (y ∷ xs) ys (suc n) x e = in_front xs ys n x e

behind : {A : Type 0} (xs ys : List A) (n m : ℕ) → m ≡ length xs + n → slice_get (xs ++ ys) m ≡ slice_get ys n
behind [] ys n m e = ap (slice_get ys) (let t : m ≡ n = omega (arith, e) in t)
behind (x ∷ xs) ys n zero e = absurd (omega (arith, e))
behind (x ∷ xs) ys n (suc m) e = behind xs ys n m (omega (arith, e))

before_none : (groups : List (List Pair)) → pairs_before groups 0 ≡ 0
unfolding pairs_before
before_none [] = refl
before_none (pairs ∷ groups) = refl

before_next : (groups : List (List Pair)) (i : ℕ) (pairs : List Pair) → slice_get groups i ≡ Some pairs → pairs_before groups (suc i) ≡ pairs_before groups i + length pairs
unfolding pairs_before
before_next [] i pairs e = absurd (let bad : None ≡ Some pairs = e in cc)
before_next (x ∷ groups) zero pairs e =
    let s : x ≡ pairs = let t : Some x ≡ Some pairs = e in cc in
    omega (arith, before_none groups, ap (length {A = Pair}) s)
before_next (x ∷ groups) (suc i) pairs e = let h = before_next groups i pairs e in omega (arith, h)

item_there : (groups : List (List Pair)) (i : ℕ) (pairs : List Pair) (j : ℕ) (pair : Pair) → slice_get groups i ≡ Some pairs → slice_get pairs j ≡ Some pair
    → slice_get (joined groups) (pairs_before groups i + j) ≡ Some pair
unfolding pairs_before
item_there [] i pairs j pair e f = absurd (let bad : None ≡ Some pairs = e in cc)
item_there (x ∷ groups) zero pairs j pair e f =
    let s : x ≡ pairs = let t : Some x ≡ Some pairs = e in cc in
    let start : 0 + j ≡ j = omega arith in
    ap (slice_get (x ++ joined groups)) start ∙ in_front x (joined groups) j pair (ap (λ (l : List Pair). slice_get l j) s ∙ f)
item_there (x ∷ groups) (suc i) pairs j pair e f =
    behind x (joined groups) (pairs_before groups i + j) (length x + pairs_before groups i + j) (omega arith) ∙ item_there groups i pairs j pair e f

pair_there : (pairs : List Pair) (entries : List InternalEntry) (n : ℕ) (pair : Pair) (entry : InternalEntry) → ArePairs pairs entries → slice_get pairs n ≡ Some pair → slice_get entries n ≡ Some entry → IsPair pair entry
pair_there [] entries n pair entry h e f = absurd (let bad : None ≡ Some pair = e in cc)
pair_there (x ∷ pairs) [] n pair entry h e f = absurd h
pair_there (x ∷ pairs) (y ∷ entries) zero pair entry h e f =
    let s : x ≡ pair = let t : Some x ≡ Some pair = e in cc in
    let r : y ≡ entry = let t : Some y ≡ Some entry = f in cc in
    subst (λ (p : Pair). IsPair p entry) s (subst (IsPair x) r h.0)
pair_there (x ∷ pairs) (y ∷ entries) (suc n) pair entry h e f = pair_there pairs entries n pair entry h.1 e f

-- ---- the pairs of intact blocks

-- The entry of a key of an intact block, in a list that the table may be: among those of its block.
pub record IsAt (groups : List (List Pair)) (entries : List InternalEntry) (index : ℕ) (key : Key) : Type 0 where
  pub place : ℕ
  pub entry : InternalEntry
  pub entry_is : slice_get entries place ≡ Some entry
  pub from : pairs_before groups index ≤ place
  pub less : place < pairs_before groups (suc index)
  pub key_is : entry.key ≡ key

module _ (cmp : Cmp) (source : Seen) (placed : PlacedTable) (frame : Frame) (here : Option (InBlock Placed)) (at : Listed) (lists : ListsTable cmp source placed frame here at) where
  pub its_file : (file : List ℕ) → HasSoundTable cmp source placed.table.number file → lists.has.file ≡ file
  its_file file has = let both : Some lists.has.file ≡ Some file = sym lists.has.table.file_is ∙ has.file_is in cc

  pub its_entry : (k : ℕ) (pairs : List Pair) (n : ℕ) (pair : Pair) (key : Key) → IsIntactIn cmp placed lists.has.file frame.places k pairs → slice_get pairs n ≡ Some pair → IsKey pair.key key → IsAt lists.groups at.entries k key
  its_entry k pairs n pair key is pair_is key_is =
      let w = slice_get_within frame.places k is.intact.place is.intact.place_is in
      let long = lists.has.same_length in
      let group = there lists.groups k (omega (arith, w, long)) in
      let block : slice_get lists.groups k ≡ Some pairs = group.1 ∙ ap Some (lists.has.each k group.0 pairs group.1 is) in
      let item = item_there lists.groups k pairs n pair block pair_is in
      let more = before_next lists.groups k pairs block in
      let inside = slice_get_within pairs n pair pair_is in
      let q : ℕ = pairs_before lists.groups k + n in
      let fits = slice_get_within (joined lists.groups) q pair item in
      let count = pairs_length (joined lists.groups) at.entries lists.entries_are in
      let x = there at.entries q (omega (arith, fits, count)) in
      let its = pair_there (joined lists.groups) at.entries q pair x.0 lists.entries_are item x.1 in
      record {
        place = q;
        entry = x.0;
        entry_is = x.1;
        from = omega arith;
        less = omega (arith, more, inside);
        key_is = same_key pair.key x.0.key key its.key key_is;
      }

  -- a block that lies at a cut lies at each that is the same
  pub torn_same : (a b : Cut) → SameCut cmp at.entries a b → TornTable cmp source placed frame a → TornTable cmp source placed frame b
  torn_same a b same torn file has =
      let t = torn file has in
      let its = its_file file has in
      record {
        index = t.index;
        inside = t.inside;
        torn = t.torn;
        front = λ k pairs n pair key less is pair_is key_is.
            let e = its_entry k pairs n pair key (subst (λ (f : List ℕ). IsIntactIn cmp placed f frame.places k pairs) (sym its) is) pair_is key_is in
            ap (is_in_front cmp b) (sym e.key_is) ∙ sym (same e.entry (among_get at.entries e.place e.entry e.entry_is)) ∙ ap (is_in_front cmp a) e.key_is ∙ t.front k pairs n pair key less is pair_is key_is;
        back = λ k pairs n pair key less is pair_is key_is.
            let e = its_entry k pairs n pair key (subst (λ (f : List ℕ). IsIntactIn cmp placed f frame.places k pairs) (sym its) is) pair_is key_is in
            ap (is_in_front cmp b) (sym e.key_is) ∙ sym (same e.entry (among_get at.entries e.place e.entry e.entry_is)) ∙ ap (is_in_front cmp a) e.key_is ∙ t.back k pairs n pair key less is pair_is key_is;
      }
