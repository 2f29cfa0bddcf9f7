-- Torn blocks of a merge's children, and of the merge.
use Rattle.std.proofs.Common.{◌≡◌, ℕ, List, Option, Some, refl, sym, ap, ◌∙◌, subst, arith}
use Rattle.std.proofs.lemmas.Option.{slice_get_within}
use Rattle.std.specs.Cmp.{IsTotalOrder}
use Rattle.ikey.specs.Entries.{InternalEntry}
use Rattle.cursor.specs.declared.child.Child.{Child}
use Rattle.cursor.specs.Cuts.{Cut, Above, Below, SameCut, next_cut, prev_cut}
use Rattle.cursor.specs.Places.{Cmp, Listed}
use Rattle.cursor.specs.Merging.{AnyTorn, IsUnion, OtherTorn, StandsOn, listed}
use Rattle.cursor.specs.MergeLaws.{beside_somewhere}
use Rattle.cursor.proofs.Cutting.{beside_same, next_at, prev_at}
use Rattle.cursor.proofs.Fronts.{among_get}
use Rattle.cursor.proofs.Moving.{slice_get_first}

pub any_of_others : {C S : Type 0} (torn : C → S → Cut → Type 0) (children : List (Child C)) (left_out : Option ℕ) (source : S) (cut : Cut) → OtherTorn torn children left_out source cut → AnyTorn torn children source cut
any_of_others torn children left_out source cut t = (t.0, t.1, t.2, t.4)

module _ {C S : Type 0} (cmp : Cmp) (lists : C → S → Listed → Type 0) (torn : C → S → Cut → Type 0) (all : List (List InternalEntry)) (index : ℕ) (target : List ℕ) (at : Listed) (before : List (Child C)) (s : S) (m : StandsOn cmp lists before index target s all at) where
  -- the cuts beside its own child's entry are those beside the merge's
  pub next_own : next_cut (listed m.list (Some m.within_list)) ≡ next_cut at
  next_own = next_at (listed m.list (Some m.within_list)) m.within_list m.entry refl m.same ∙ sym (next_at at m.index m.entry m.place_is m.entry_is)

  pub prev_own : prev_cut (listed m.list (Some m.within_list)) ≡ prev_cut at
  prev_own = prev_at (listed m.list (Some m.within_list)) m.within_list m.entry refl m.same ∙ sym (prev_at at m.index m.entry m.place_is m.entry_is)

  -- another child has no entry of that key, so that below and above it are one
  pub next_others : IsTotalOrder cmp
      → ((cursor : C) (source : S) (at : Listed) (a b : Cut) → lists cursor source at → SameCut cmp at.entries a b → torn cursor source a → torn cursor source b)
      → IsUnion cmp all at.entries → OtherTorn torn before (Some index) s (Below m.entry.key) → AnyTorn torn before s (next_cut at)
  next_others total torn_same u t =
      let li = slice_get_first all t.0 (let w = slice_get_within before t.0 t.1 t.2 in let e = m.beside.same_length in omega (arith, w, e)) in
      let on = beside_somewhere cmp lists s m.entry.key li.0 t.1.cursor t.1.side (m.beside.each t.0 t.1 li.0 t.2 li.1 t.3) in
      let same = beside_same cmp total at.entries li.0 m.entry u.rises (among_get at.entries m.index m.entry m.entry_is) (λ x n. u.covers t.0 li.0 x li.1 n)
      (λ x n is. t.3 (ap Some (u.apart t.0 index li.0 m.list x m.entry li.1 m.list_is n (among_get m.list m.within_list m.entry m.same) (ap (λ (w : InternalEntry). w.key) is)))) in
      subst (λ (cut : Cut). AnyTorn torn before s cut) (sym (next_at at m.index m.entry m.place_is m.entry_is))
      (t.0, t.1, t.2, torn_same t.1.cursor s (listed li.0 on.0) (Below m.entry.key) (Above m.entry.key) on.1 same t.4)

  pub prev_others : OtherTorn torn before (Some index) s (Below m.entry.key) → AnyTorn torn before s (prev_cut at)
  prev_others t = subst (λ (cut : Cut). AnyTorn torn before s cut) (sym (prev_at at m.index m.entry m.place_is m.entry_is)) (t.0, t.1, t.2, t.4)
