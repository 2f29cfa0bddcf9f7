-- What the moves of a cursor over a row keep, and which limits they pass.
use Rattle.std.proofs.Common.{◌≡◌, ◌⊎◌, ◌∙◌, ℕ, ap, sym, subst, length, List, Option, Some, None, IsTrue, IfSome, inl, inr}
use Rattle.coding.specs.declared.error.DbError.{DbError}
use Rattle.coding.specs.declared.error.DbError.TheVariants.{OutOfMemory, Io, Corrupt, Unsupported}
use Rattle.cursor.specs.Cuts.{Cut}
use Rattle.cursor.specs.Moves.{Refuses}
use Rattle.cursor.specs.Places.{Cmp, Listed}
use Rattle.edits.specs.declared.field.PlacedTable.{PlacedTable}
use Rattle.level_cursor.specs.declared.in_table.InTable.{InTable}
use Rattle.ikey.specs.Entries.{InternalEntry}
use Rattle.level_cursor.specs.InRows.{ListsNumber, HaveLists, IsOneLimited, IsOneTorn, IsOpenLimited, IsOpenNumber, IsOpenTorn, KeepsTables, ListsTables}
use Rattle.level_cursor.specs.RowLaws.{lists_kept}
use Rattle.level_cursor.specs.Searches.{IsOneOf, IsSameTable}
use Rattle.level_cursor.specs.RowLists.{member_at}
use Rattle.level_cursor.proofs.Having.{have_length}
use Rattle.level_cursor.proofs.Moving.{nothing_kept, open_torn, opened_kept, row_carried, same_kept, same_limited, same_torn}
use Rattle.level_cursor.proofs.Refusing.{limited_before, opened_limited, opened_torn, torn_before}
use Rattle.table_access.specs.TableLaws.{carries_more}
use Rattle.table_access.specs.Tables.{Seen, Carries}
use Rattle.store.specs.Files.{Facts}

pub refused_as : (e : DbError) (old new : Facts) (a b limit limited : Type 0) → (a → b) → (limit → limited) → Refuses e old new a limit → Refuses e old new b limited
refused_as OutOfMemory old new a b limit limited f l h = tt
refused_as Io old new a b limit limited f l h = h
refused_as (Corrupt kind what) old new a b limit limited f l h = λ t. f (h t)
refused_as (Unsupported what) old new a b limit limited f l h = λ t. elim (h t) [ inl x ↦ inl (f x) | inr y ↦ inr (l y) ]
refused_as e old new a b limit limited f l h = absurd h

module _ {K : Type 0} {g : _} (cmp : Cmp) (row : List PlacedTable) where
  -- what only read leaves list and place
  pub unmoved : {numbers : ℕ → Type 0} (old new : Seen) (here : Option (InTable K g)) (at : Listed) → Carries cmp numbers old new → IsTrue new.facts.faithful → ListsTables cmp old row here at → ListsTables cmp new row here at
  unmoved old new here at carries t h = lists_kept cmp row here old new at (row_carried cmp row here old new carries t) h

  -- ---- what is kept anew: of the tables of the row, and of the one that is open

  pub searched : (now : List PlacedTable) (here : Option (InTable K g)) (old new : Seen) → now ≡ row → Carries cmp (ListsNumber now) old new → Carries cmp (λ number. ListsNumber row number ⊎ IsOpenNumber here number) old new
  searched now here old new same carries = carries_more cmp old new (λ number has. inl (subst (λ (tables : List PlacedTable). ListsNumber tables number) same has)) carries

  pub stepped : (here : Option (InTable K g)) (old new : Seen) → Carries cmp (λ number. IsOpenNumber here number) old new → Carries cmp (λ number. ListsNumber row number ⊎ IsOpenNumber here number) old new
  stepped here old new carries = carries_more cmp old new (λ number is. inr is) carries

  -- ---- a search

  pub found_kept : (old new first second : Seen) (here found : Option (InTable K g)) → IfSome found (λ (one : InTable K g). IsOneOf cmp old new row one.index one.cursor.placed one.cursor.table.value.frame) → KeepsTables cmp row here first second
      → KeepsTables cmp row found first second
  found_kept old new first second here None opened k = nothing_kept cmp row here first second k
  found_kept old new first second here (Some one) opened k = opened_kept cmp row here one old new first second opened k

  pub found_limited : {numbers : ℕ → Type 0} (old new : Seen) (here found : Option (InTable K g)) → IfSome found (λ (one : InTable K g). IsOneOf cmp old new row one.index one.cursor.placed one.cursor.table.value.frame) → Carries cmp numbers old new → IsTrue new.facts.faithful
      → IsOneLimited cmp new row ⊎ IsOpenLimited found → IsOneLimited cmp old row ⊎ IsOpenLimited here
  found_limited old new here found opened carries t (inl one) = inl (limited_before cmp old new row carries t one)
  found_limited old new here None opened carries t (inr long) = absurd long
  found_limited old new here (Some one) opened carries t (inr long) = inl (opened_limited cmp old new row one.index one.cursor.placed one.cursor.table.value.frame opened t long)

  pub found_torn : {numbers : ℕ → Type 0} (old new : Seen) (here found : Option (InTable K g)) (cut : Cut) → IfSome found (λ (one : InTable K g). IsOneOf cmp old new row one.index one.cursor.placed one.cursor.table.value.frame) → Carries cmp numbers old new → IsTrue new.facts.faithful
      → IsOneTorn cmp new row cut ⊎ IsOpenTorn cmp new row found cut → IsOneTorn cmp old row cut ⊎ IsOpenTorn cmp old row here cut
  found_torn old new here found cut opened carries t (inl one) = inl (torn_before cmp old new row cut carries t one)
  found_torn old new here None cut opened carries t (inr torn) = absurd torn
  found_torn old new here (Some one) cut opened carries t (inr torn) = inl (opened_torn cmp old new row one.index one.cursor.placed one.cursor.table.value.frame cut opened carries t torn.0 torn.1)

  pub found_within : (old new : Seen) (here found : Option (InTable K g)) → IfSome found (λ (one : InTable K g). IsOneOf cmp old new row one.index one.cursor.placed one.cursor.table.value.frame) → (number : ℕ)
      → ListsNumber row number ⊎ IsOpenNumber found number → ListsNumber row number ⊎ IsOpenNumber here number
  found_within old new here found opened number (inl has) = inl has
  found_within old new here None opened number (inr is) = absurd is
  found_within old new here (Some one) opened number (inr is) = inl (one.cursor.placed, member_at row one.index one.cursor.placed opened.there, is)

  -- ---- a step within a table

  pub step_kept : (first second : Seen) (here stepped : Option (InTable K g)) → IsSameTable here stepped → KeepsTables cmp row here first second → KeepsTables cmp row stepped first second
  step_kept first second here stepped same k = record { same = k.same; sound = k.sound; here = same_kept cmp here stepped first second same k.here }

  pub step_limited : {numbers : ℕ → Type 0} (old new : Seen) (here stepped : Option (InTable K g)) → IsSameTable here stepped → Carries cmp numbers old new → IsTrue new.facts.faithful → IsOneLimited cmp new row ⊎ IsOpenLimited stepped
      → IsOneLimited cmp old row ⊎ IsOpenLimited here
  step_limited old new here stepped same carries t (inl one) = inl (limited_before cmp old new row carries t one)
  step_limited old new here stepped same carries t (inr long) = inr (same_limited here stepped same long)

  pub step_torn : {numbers : ℕ → Type 0} (old new : Seen) (here stepped : Option (InTable K g)) (cut : Cut) → IsSameTable here stepped → Carries cmp numbers old new → IsTrue new.facts.faithful
      → IsOneTorn cmp new row cut ⊎ IsOpenTorn cmp new row stepped cut → IsOneTorn cmp old row cut ⊎ IsOpenTorn cmp old row here cut
  step_torn old new here stepped cut same carries t (inl one) = inl (torn_before cmp old new row cut carries t one)
  step_torn old new here stepped cut same carries t (inr torn) = inr (same_torn cmp row old new here stepped cut same carries t torn)

  pub step_within : (here stepped : Option (InTable K g)) → IsSameTable here stepped → (number : ℕ) → ListsNumber row number ⊎ IsOpenNumber stepped number → ListsNumber row number ⊎ IsOpenNumber here number
  step_within here stepped same number (inl has) = inl has
  step_within None None same number (inr is) = absurd is
  step_within None (Some new) same number (inr is) = absurd same
  step_within (Some old) None same number (inr is) = absurd same
  step_within (Some old) (Some new) same number (inr is) = inr ((λ i. (sym same.0 i).table.number) ∙ is)

  -- where nothing moved
  pub still_limited : {numbers : ℕ → Type 0} (old new : Seen) (here : Option (InTable K g)) → Carries cmp numbers old new → IsTrue new.facts.faithful → IsOneLimited cmp new row ⊎ IsOpenLimited here → IsOneLimited cmp old row ⊎ IsOpenLimited here
  still_limited old new here carries t (inl one) = inl (limited_before cmp old new row carries t one)
  still_limited old new here carries t (inr long) = inr long

  pub still_torn : {numbers : ℕ → Type 0} (old new : Seen) (here : Option (InTable K g)) (cut : Cut) → Carries cmp numbers old new → IsTrue new.facts.faithful → IsOneTorn cmp new row cut ⊎ IsOpenTorn cmp new row here cut
      → IsOneTorn cmp old row cut ⊎ IsOpenTorn cmp old row here cut
  still_torn old new here cut carries t (inl one) = inl (torn_before cmp old new row cut carries t one)
  still_torn old new here cut carries t (inr torn) = inr (open_torn cmp row here old new cut carries t torn)

-- the end of the row
pub ends_row : (cmp : Cmp) (source : Seen) (row now : List PlacedTable) (lists : List (List InternalEntry)) → now ≡ row → HaveLists cmp source row lists → length now ≡ length lists
ends_row cmp source row now lists same have = ap (length {A = PlacedTable}) same ∙ have_length cmp source row lists have
