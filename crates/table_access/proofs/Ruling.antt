-- That a look-up which an open table's filter rules out asks for nothing.
use Rattle.std.proofs.Common.{◌≡◌, ◌<◌, ℕ, List, length, get_or, Option, Some, Ok, IfSome, refl, sym, ap, ◌∙◌, subst, inl, inr}
use Rattle.std.specs.List.{slice_get}
use Rattle.std.proofs.lemmas.Option.{slice_get_read}
use Rattle.std.specs.Cmp.{IsTotalOrder}
use Rattle.std.specs.FinMap.{IsAntisymmetric}
use Rattle.cache.specs.Tables.{HitsTable}
use Rattle.cursor.specs.Places.{Cmp}
use Rattle.filter.specs.Hash.{hash_of}
use Rattle.ikey.specs.Below.{same_key}
use Rattle.ikey.specs.Keys.{Key, IsFirstKey, IsKey}
use Rattle.table_access.specs.Values.{DeniesKey, IsDenied}
use Rattle.table_access.proofs.Denying.{bounds_rise, one_first_place}
use Rattle.table_access.proofs.LookingUp.{one_first_key}
use Rattle.table.proofs.Checked.{denied}
use Rattle.table.specs.declared.handle.Place.{Place}
use Rattle.table.specs.Frame.{Frame, Opened, IsFrame, TableAdmits, TableDenies}
use Rattle.table.specs.Refusals.{IsFirstPlace}

-- ---- the block at an index

pub place_there : (shown places : List Place) (start : ℕ) (place : Place) → shown ≡ places → start < length shown → place ≡ get_or shown start place → slice_get places start ≡ Some place
place_there shown places start place same within read = ap (λ (ps : List Place). slice_get ps start) (sym same) ∙ slice_get_read shown (length shown) start place refl within read

module _ (frame : Frame) (start : ℕ) (key : List ℕ) (place : Place) (there : slice_get frame.places start ≡ Some place) where
  its_place : (d : DeniesKey frame start key) → d.place ≡ place
  its_place d = let both : Some d.place ≡ Some place = sym d.place_is ∙ there in cc

  -- where its bound is of the user key, the key isn't denied
  pub not_bounded : (bound : Key) → IsKey place.key bound → bound.user ≡ key → DeniesKey frame start key → ⊥
  not_bounded bound is same d =
      let its = same_key place.key d.bound bound (subst (λ (q : Place). IsKey q.key d.bound) (its_place d) d.bound_is) is in
      d.other (ap (λ (k : Key). k.user) its ∙ same)

  -- and neither where the filter admits it
  pub not_admitted : TableAdmits frame.filter place.handle.offset (hash_of key) → DeniesKey frame start key → ⊥
  not_admitted admits d = denied frame.filter place.handle.offset (hash_of key) (subst (λ (q : Place). TableDenies frame.filter q.handle.offset (hash_of key)) (its_place d) d.denied) admits

-- ---- an open table

-- what is denied is so of the block at which any search begins
pub denied_there : (cmp : Cmp) → IsTotalOrder cmp → IsAntisymmetric cmp → (file : List ℕ) (frame : Frame) (key : List ℕ) (sequence : ℕ) → IsFrame cmp file frame → IsDenied cmp frame key sequence
    → (target : List ℕ) (start : ℕ) → IsFirstKey key sequence target → IsFirstPlace cmp target frame.places start → DeniesKey frame start key
denied_there cmp total exact file frame key sequence is d target start target_is start_is =
    let same = one_first_key cmp total exact key sequence d.target target d.target_is target_is in
    let rise = bounds_rise cmp total is.index_is.1 frame.places is.index_is.3.2.rises is.index_is.4 in
    let its = one_first_place cmp total target frame.places d.start start rise (subst (λ (t : List ℕ). IsFirstPlace cmp t frame.places d.start) same d.start_is) start_is in
    subst (λ (n : ℕ). DeniesKey frame n key) its d.denies

-- what was opened, where a table is kept, is that one
is_kept : (o : Option Opened) (X : Type 0) (opened table : Opened) → IfSome o (λ (kept : Opened). HitsTable kept (Ok opened) × X) → o ≡ Some table → opened ≡ table
is_kept o X opened table hit kept =
    let its = subst (λ (p : Option Opened). IfSome p (λ (one : Opened). HitsTable one (Ok opened) × X)) kept hit in
    elim its.0 [
      | inl same ↦ cc
      | inr miss ↦ cc
    ]

-- a block is asked for only where nothing is denied
module _ (cmp : Cmp) (total : IsTotalOrder cmp) (exact : IsAntisymmetric cmp) (key : List ℕ) (sequence : ℕ) (o : Option Opened) (X : Type 0) (opened : Opened) (hit : IfSome o (λ (kept : Opened). HitsTable kept (Ok opened) × X))
    (target : List ℕ) (target_is : IsFirstKey key sequence target) (start : ℕ) (first : IsFirstPlace cmp target opened.frame.places start) (admitted : DeniesKey opened.frame start key → ⊥) where
  pub undenied : (table : Opened) (file : List ℕ) → o ≡ Some table → IsFrame cmp file table.frame → IsDenied cmp table.frame key sequence → ⊥
  undenied table file kept is denies =
      let same = sym (is_kept o X opened table hit kept) in
      admitted
      (denied_there cmp total exact file opened.frame key sequence (subst (λ (one : Opened). IsFrame cmp file one.frame) same is) (subst (λ (one : Opened). IsDenied cmp one.frame key sequence) same denies) target start target_is first)
