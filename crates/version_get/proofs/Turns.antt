-- What the tables tell of a key, one after the other.
use Rattle.std.proofs.Common.{◌⊎◌, ◌≡◌, ◌≤◌, ◌+◌, ℕ, true, false, List, Option, Some, None, is_some, subst, arith, inl, inr}
use Rattle.std.proofs.lemmas.Bool.{cases_lt}
use Rattle.coding.specs.declared.error.DbError.{DbError}
use Rattle.coding.specs.declared.error.DbError.TheVariants.{Corrupt}
use Rattle.cursor.specs.Places.{Cmp}
use Rattle.edits.specs.declared.field.PlacedTable.{PlacedTable}
use Rattle.ikey.specs.Keys.{IsFirstKey}
use Rattle.ikey.specs.Orders.{Order}
use Rattle.table_access.specs.Tables.{Seen, Carries}
use Rattle.table_access.specs.Telling.{IfCorrupt}
use Rattle.table_access.proofs.Carrying.{still_has}
use Rattle.version_get.specs.Gets.{TableTears, TableTells, TablesTear, TellFirst, TellNothing}
use Rattle.version_get.proofs.Getting.{IsSought, begins}
use Rattle.versions.specs.Searches.{IsSearchedAt, IsSearchedNext}

-- So far it has read the tables before this place, which tell nothing of the key.
pub record IsTurned (order : Order) (old now : Seen) (tables : List PlacedTable) (key : List ℕ) (sequence : ℕ) (target : List ℕ) (from : ℕ) : Type 0 where
  pub sought : IsSought order old now tables
  pub told : TellNothing order.cmp old now tables key sequence target from

pub turns_begin : (order : Order) (old : Seen) (tables : List PlacedTable) (key : List ℕ) (sequence : ℕ) (target : List ℕ) → IsTurned order old old tables key sequence target 0
turns_begin order old tables key sequence target = record { sought = begins order old tables; told = λ place less. absurd (omega (arith, less)) }

module _ (cmp : Cmp) (old now : Seen) (tables : List PlacedTable) (key : List ℕ) (sequence : ℕ) (target : List ℕ) (from : ℕ) (told : TellNothing cmp old now tables key sequence target from) where
  -- no table is searched from here on
  pub none_told : ((place : ℕ) (placed : PlacedTable) → from ≤ place → IsSearchedAt cmp target tables place placed → ⊥) → TellFirst cmp old now tables key sequence target None
  none_told none place = elim (cases_lt place from) [
    | inl less ↦ told place less
    | inr ge ↦ inl (λ placed is. none place placed ge is)
  ]

  module _ {numbers others : ℕ → Type 0} (new : Seen) (place : ℕ) (placed : PlacedTable) (next : IsSearchedNext cmp target tables from place placed) (first : Carries cmp numbers old now) (second : Carries cmp others now new) where
    -- the places before the table that is searched next
    pub in_front : TellNothing cmp old new tables key sequence target place
    in_front at less = elim (cases_lt at from) [
      | inl before ↦ elim (told at before) [
        | inl none ↦ inl none
        | inr one ↦ inr (one.0, one.1, λ t file has. one.2 (second.reads.faithful t) file has)
      ]
      | inr ge ↦ inl (λ other is. next.first at other ge less is)
    ]

    its : (value : Option (Option (List ℕ))) → TableTells cmp now new key sequence placed value → TableTells cmp old new key sequence placed value
    its value says t file has = says t file (still_has cmp old now placed.table.number file first (second.reads.faithful t) has)

    -- it tells nothing either
    pub told_on : (answer : Option (Option (List ℕ))) → false ≡ is_some answer → TableTells cmp now new key sequence placed answer → TellNothing cmp old new tables key sequence target (place + 1)
    told_on None e says at less = elim (cases_lt at place) [
      | inl before ↦ in_front at before
      | inr ge ↦
          let same : place ≡ at = omega (arith, ge, less) in
          inr (placed, subst (λ (n : ℕ). IsSearchedAt cmp target tables n placed) same next.here, its None says)
    ]
    told_on (Some value) e says at less = absurd (let t : false ≡ true = e in cc)

    -- it tells this
    pub first_told : (answer : Option (Option (List ℕ))) → true ≡ is_some answer → TableTells cmp now new key sequence placed answer → TellFirst cmp old new tables key sequence target answer
    first_told None e says = absurd (let t : true ≡ false = e in cc)
    first_told (Some value) e says = (place, placed, next.here, its (Some value) says, in_front)

    -- it is damaged
    pub tears_here : IsFirstKey key sequence target → (e : DbError) → IfCorrupt e (TableTears cmp now new key sequence placed) → IfCorrupt e (TablesTear cmp old new tables key sequence)
    tears_here target_is (Corrupt kind what) h = (
      target,
      target_is,
      place,
      placed,
      next.here,
      in_front,
      elim h [
        | inl zero ↦ inl zero
        | inr why ↦ inr (λ t file has. why t file (still_has cmp old now placed.table.number file first (second.reads.faithful t) has))
      ],
    )
    tears_here target_is e h = tt

pub torn_or : (Z P : Type 0) (e : DbError) → IfCorrupt e P → IfCorrupt e (Z ⊎ P)
torn_or Z P (Corrupt kind what) h = inr h
torn_or Z P e h = tt
