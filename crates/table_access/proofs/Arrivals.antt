-- Where the moves of a cursor over a table lead.
use Rattle.std.proofs.Common.{◌≡◌, ◌<◌, ℕ, suc, cond, nat_lt, List, Option, Some, None, length, IsTrue, refl, ap, ◌∙◌, subst, arith, inl, inr}
use Rattle.std.specs.Option.{option_and_then}
use Rattle.block.specs.Places.{Placed}
use Rattle.coding.specs.declared.error.DbError.{DbError}
use Rattle.coding.specs.declared.error.DbError.TheVariants.{OutOfMemory, Io, Corrupt, Unsupported}
use Rattle.cursor.specs.Moves.{Refuses}
use Rattle.cursor.specs.Places.{Cmp, Listed, index_before, index_behind, to_first, to_last, to_next, to_prev, within}
use Rattle.cursor.proofs.Singles.{before_inside, pairs_length, within_inside}
use Rattle.edits.specs.declared.field.PlacedTable.{PlacedTable}
use Rattle.ikey.specs.Entries.{InternalEntry}
use Rattle.table_access.specs.declared.in_block.InBlock.{InBlock}
use Rattle.table_access.specs.TablePlaces.{IsPlacedIn, ListsTable, StopsAt, joined, pairs_before}
use Rattle.table_access.specs.Tables.{Seen, Carries}
use Rattle.table_access.proofs.Carrying.{still_data}
use Rattle.table_access.proofs.Placing.{before_all, before_zero}
use Rattle.table_access.proofs.Stopping.{stops_there}
use Rattle.table.specs.Frame.{Frame}

-- ---- refusals

pub refused_as : (e : DbError) (old new : _) (a b limited : Type 0) → (a → b) → Refuses e old new a limited → Refuses e old new b limited
refused_as OutOfMemory old new a b limited f h = tt
refused_as Io old new a b limited f h = h
refused_as (Corrupt kind what) old new a b limited f h = λ t. f (h t)
refused_as (Unsupported what) old new a b limited f h = λ t. elim (h t) [ inl none ↦ inl (f none) | inr past ↦ inr past ]
refused_as e old new a b limited f h = absurd h

-- ---- lists of one length

pub same_within : {A B : Type 0} (xs : List A) (ys : List B) (n : ℕ) → length xs ≡ length ys → within xs n ≡ within ys n
same_within xs ys n e = ap (λ (m : ℕ). cond (nat_lt n m) (Some n) None) e

pub same_behind : {A B : Type 0} (xs : List A) (ys : List B) (place : Option ℕ) → length xs ≡ length ys → option_and_then (index_behind xs) place ≡ option_and_then (index_behind ys) place
same_behind xs ys None e = refl
same_behind xs ys (Some n) e = same_within xs ys (suc n) e

next_inside : (entries : List InternalEntry) (place : Option ℕ) (index : ℕ) → option_and_then (index_behind entries) place ≡ Some index → index < length entries
next_inside entries None index e = absurd (let bad : None ≡ Some index = e in cc)
next_inside entries (Some n) index e = within_inside entries (suc n) index e

prev_inside : (entries : List InternalEntry) (place : Option ℕ) (index : ℕ) → ((n : ℕ) → place ≡ Some n → n < length entries) → option_and_then index_before place ≡ Some index → index < length entries
prev_inside entries None index h e = absurd (let bad : None ≡ Some index = e in cc)
prev_inside entries (Some n) index h e = let l = h n refl in before_inside n (length entries) index (omega (arith, l)) e

module _ {numbers : ℕ → Type 0} (cmp : Cmp) (old new : Seen) (placed : PlacedTable) (frame : Frame) (here to_here : Option (InBlock Placed)) (at : Listed) (carries : Carries cmp numbers old new) (t : IsTrue new.facts.faithful)
    (h : ListsTable cmp old placed frame here at) where
  pub same_count : length (joined h.groups) ≡ length at.entries
  same_count = pairs_length (joined h.groups) at.entries h.entries_are

  pub lists_moved : (to : Option ℕ) → IsPlacedIn h.groups to_here to → ((index : ℕ) → to ≡ Some index → index < length at.entries) → ListsTable cmp new placed frame to_here (record at { place = to })
  lists_moved to at_place inside = record {
    groups = h.groups;
    has = still_data cmp old new placed frame h.groups carries t h.has;
    ends = h.ends;
    bounds = h.bounds;
    entries_are = h.entries_are;
    rises = h.rises;
    inside = inside;
    place = at_place;
  }

  pub first_moved : ((place : ℕ) × StopsAt (λ (key : List ℕ). ⊥) (joined h.groups) (pairs_before h.groups 0) place × IsPlacedIn h.groups to_here (within (joined h.groups) place))
      → ListsTable cmp new placed frame to_here (record at { place = to_first at })
  first_moved found =
      let n = stops_there (λ (key : List ℕ). ⊥) (λ key p. p) (joined h.groups) (pairs_before h.groups 0) found.0 found.1 in
      let to : within (joined h.groups) found.0 ≡ to_first at = ap (within (joined h.groups)) (n ∙ before_zero h.groups) ∙ same_within (joined h.groups) at.entries 0 same_count in
      lists_moved (to_first at) (subst (IsPlacedIn h.groups to_here) to found.2) (λ index e. within_inside at.entries 0 index e)

  pub next_moved : (start : ℕ) → within (joined h.groups) (pairs_before h.groups start) ≡ option_and_then (index_behind (joined h.groups)) at.place
      → ((place : ℕ) × StopsAt (λ (key : List ℕ). ⊥) (joined h.groups) (pairs_before h.groups start) place × IsPlacedIn h.groups to_here (within (joined h.groups) place))
      → ListsTable cmp new placed frame to_here (record at { place = to_next at })
  next_moved start follows found =
      let n = stops_there (λ (key : List ℕ). ⊥) (λ key p. p) (joined h.groups) (pairs_before h.groups start) found.0 found.1 in
      let to : within (joined h.groups) found.0 ≡ to_next at = ap (within (joined h.groups)) n ∙ follows ∙ same_behind (joined h.groups) at.entries at.place same_count in
      lists_moved (to_next at) (subst (IsPlacedIn h.groups to_here) to found.2) (λ index e. next_inside at.entries at.place index e)

  pub next_here : IsPlacedIn h.groups to_here (option_and_then (index_behind (joined h.groups)) at.place) → ListsTable cmp new placed frame to_here (record at { place = to_next at })
  next_here at_place =
      lists_moved (to_next at) (subst (IsPlacedIn h.groups to_here) (same_behind (joined h.groups) at.entries at.place same_count) at_place) (λ index e. next_inside at.entries at.place index e)

  pub last_moved : (end : ℕ) → end ≡ length h.groups → IsPlacedIn h.groups to_here (index_before (pairs_before h.groups end)) → ListsTable cmp new placed frame to_here (record at { place = to_last at })
  last_moved end e at_place =
      let to : index_before (pairs_before h.groups end) ≡ to_last at = ap (λ (n : ℕ). index_before (pairs_before h.groups n)) e ∙ ap index_before (before_all h.groups ∙ same_count) in
      lists_moved (to_last at) (subst (IsPlacedIn h.groups to_here) to at_place) (λ index e. before_inside (length at.entries) (length at.entries) index (omega arith) e)

  pub prev_moved : (end : ℕ) → index_before (pairs_before h.groups end) ≡ option_and_then index_before at.place → IsPlacedIn h.groups to_here (index_before (pairs_before h.groups end))
      → ListsTable cmp new placed frame to_here (record at { place = to_prev at })
  prev_moved end precedes at_place = lists_moved (to_prev at) (subst (IsPlacedIn h.groups to_here) precedes at_place) (λ index e. prev_inside at.entries at.place index h.inside e)

  pub prev_here : IsPlacedIn h.groups to_here (option_and_then index_before at.place) → ListsTable cmp new placed frame to_here (record at { place = to_prev at })
  prev_here at_place = lists_moved (to_prev at) at_place (λ index e. prev_inside at.entries at.place index h.inside e)

  pub stayed : IsPlacedIn h.groups to_here at.place → ListsTable cmp new placed frame to_here at
  stayed at_place = lists_moved at.place at_place h.inside
