-- A slot of a batch by value, in parts: what it owns, and its machine value.
-- Assumes `Logic`.
use Rattle.std.proofs.Common.{◌≡◌, ℕ, List, [], ◌∷◌, ◌++◌, refl, sym, subst, IsSome}
use mathlib.Core.Bool.{true≢false}
use seplogic.Ra.Ura.{Ura}
use mir.Val.{Val, vptr, vint, vstruct, vcons, vnil, of_list}
use mir.Syntax.{w64}
use base.Logic.{never, fst∗}
use types.Logic.{Logic, sem}
use types.Kit.{Item, Goal, Seq, Step, step, ‵, ◌$◌, move, drop, fsplit, fjoin, fpick, fpack, rewrite, feq_i, feq_l}
use denote.RattleType.{RattleType, Valss}
use denote.Builtin.{RawPtr}
use denote.Memory.{lone}
use denote.RawPtr.{Ptr, block_ptr, null_ptr, ptr_val, in_a_block}
use denote.Steps.{nothing}
use denote.Struct.Struct.{within}
use denote.Struct.Owning.{shape}
use mir.Raw.{raw as bare}
use Rattle.core.specs.declared.option.Option.{Option}
use Rattle.core.specs.declared.option.Option.TheVariants.{None, Some}
use Rattle.std.specs.contracts.alloc.Global as heap
use Rattle.std_alloc.specs.Box.Ownership.{box_owns}
use Rattle.wachuspi.specs.Holding.{holds, may_free}
use Rattle.batch.specs.contracts.write_batch.Batch as inner
use Rattle.wachuspi.specs.contracts.batch_slots.BatchSlot as slot

abbrev pub R : RattleType
R = inner.the_row

abbrev pub Z : RattleType
Z = heap.the_row

abbrev pub Slot : RattleType
Slot = slot.the_row

pub some_of : {A : Type 0} (o : Option A) → IsSome o → (x : A) × (o ≡ Some x)
some_of None absent = absurd (true≢false (sym absent))
some_of (Some x) _ = (x, refl)

-- the pointer of a slot, alone
abbrev pub word : Val → Val
word v = vstruct (vcons v vnil)

module _ {M : Type 1} {𝓤 : Ura M} {𝓛 : Logic 𝓤} {K : Type 0} {Γ : List (Item 𝓤)} {G : Goal 𝓤 𝓛.H} where
  -- what holds a box
  pub slot_out : K → (d : Slot.Denot) (x : R.Denot) → d.held ≡ Some x → (vs : List Val)
      → ((b o : ℕ) → vs ≡ word (vptr b o) ∷ [] → Seq K 𝓛 (‵ (box_owns may_free R (block_ptr b o) x) ∷ Γ) G)
      → Seq K 𝓛 (‵ (Slot.own_val d vs) ∷ Γ) G
  slot_out t d x e vs k =
      fsplit t $ fpick t (λ vss. fsplit t $ feq_l t (λ ev. fsplit t $ feq_l t (λ ep. drop t $
      rewrite t 0 (λ (y : Option R.Denot). ‵ (holds R d.at y)) e refl $
      in_a_block t d.at (λ p. box_owns may_free R p x) (fst∗ 𝓤 (never 𝓤) (sem 𝓛 (may_free (bare (lone R.mir)) null_ptr))) (λ b o e'. k b o
      (subst (λ (p : Ptr). vs ≡ vstruct (of_list (ptr_val p ∷ [])) ∷ []) e'
      (subst (λ (ps : List Val). vs ≡ vstruct (of_list (ps ++ [])) ∷ []) ep ev))))))

  pub slot_in : K → (b o : ℕ) (x : R.Denot)
      → Step K 𝓛 (‵ (Slot.own_val (record { at = block_ptr b o; held = Some x }) (word (vptr b o) ∷ [])) ∷ Γ) G (‵ (box_owns may_free R (block_ptr b o) x) ∷ Γ) G
  slot_in t b o x = step (λ s. let v : Val = word (vptr b o) in
      nothing t $ feq_i t (List Val) (vptr b o ∷ []) (vptr b o ∷ []) refl $ fjoin t $ feq_i t (List Val) (v ∷ []) (v ∷ []) refl $ fjoin t $
      fpack t (Valss (RawPtr ∷ [])) (within (shape slot.the_type) (block_ptr b o, tt) (v ∷ [])) (vptr b o ∷ [], tt) $ fjoin t $ s)

  -- what holds nothing
  pub none_in : K → Step K 𝓛 (‵ (Slot.own_val (record { at = null_ptr; held = None }) (word (vint w64 0) ∷ [])) ∷ Γ) G Γ G
  none_in t = step (λ s. let v : Val = word (vint w64 0) in
      nothing t $ nothing t $ feq_i t (List Val) (vint w64 0 ∷ []) (vint w64 0 ∷ []) refl $ fjoin t $ feq_i t (List Val) (v ∷ []) (v ∷ []) refl $ fjoin t $
      fpack t (Valss (RawPtr ∷ [])) (within (shape slot.the_type) (null_ptr, tt) (v ∷ [])) (vint w64 0 ∷ [], tt) $ fjoin t $ s)
