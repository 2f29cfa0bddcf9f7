-- `into_loose` hands out the box that is held.
use Rattle.std.proofs.Common.{◌≡◌, List, [], ◌∷◌, ◌++◌, refl, sym, subst, IsSome}
use mir.Val.{Val, vptr}
use base.Logic.{SProp, ent, emp, id⊢}
use base.Fml.{ftrue}
use prog.Wp.{WpFn}
use types.Kit.{‵, raw, ◌⊛◌, ◌$◌, ◌∵◌, !, qed, by, move, keep, drop, split, fsplit, fjoin, suffices, use0}
use types.Run.{stop, fld, of_opd, no_more, and_then, returns, enter}
use types.ByLocal.{alloc_all, pass_all, free_all, look_at, get, get_in, sets}
use types.Part.{agg, sub, whole}
use contract.Monad.{fact, fact_i}
use contract.Running.{tables}
use denote.Exit.{yes}
use denote.RattleType.{owns}
use denote.RawPtr.{block_ptr}
use denote.Signature.{types_at, plain}
use denote.Steps.{nothing, heard}
use denote.Triple.Walked.{Stays, stay_dropped, walk_of}
use Rattle.core.proofs.alloc.Calls.{Goes-blank, handle_tells}
use Rattle.core.specs.declared.option.Option.TheVariants.{Some}
use Rattle.std.proofs.alloc.Global.TheLaws as heap_laws
use Rattle.std.specs.contracts.impls.GlobalAllocator.TheImpl.{ghosts}
use Rattle.std.proofs.raw_atomic.Walks.{proved_at, leaves}
use Rattle.loose_box.proofs.Values.{both, al, loose_good, loose_in}
use Rattle.wachuspi.proofs.SlotParts.{R, Z, Slot, word, some_of, slot_out}
use Rattle.wachuspi.specs.contracts.slots.Slot.into_loose.{ended, clauses}
use Rattle.wachuspi.specs.contracts.slots.Slot.into_loose.Key.{name as #self}
use Rattle.wachuspi.proofs.slots.Slot.into_loose.Statement.{statement}
use Rattle.wachuspi.proofs.slots.Slot.into_loose.Code as code

pub into_loose_spec : {M : Type 1} → statement M
into_loose_spec 𝓤 𝓛 𝓜 𝓡 wired =
    let H = 𝓛.H in let 𝓣 = tables 𝓤 H 𝓜 𝓡 𝓡.env in let LZ = heap_laws.the_row_laws in let c = clauses 𝓛 𝓜.mem 𝓡.returns in let fn = code.function in
    let hs : Stays ended.signature.params ended.kept = (stay_dropped (plain (λ _. Slot)) yes, (stay_dropped (plain (λ _. Z)) yes, tt)) in
    proved_at 𝓛 ended hs c 𝓜 𝓡 (Goes-blank 𝓛 0 (plain (λ _. Slot)) yes (λ κs x f. tt), (Goes-blank 𝓛 0 (plain (λ _. Z)) yes (λ κs x f. tt), tt)) #self fn (code.unfolded 𝓤 H 𝓜 𝓡 wired) (λ z are.
    let d = z.0.3.0 in let a = z.0.3.1.0 in let Post : Val → SProp 𝓤 = (walk_of 𝓛 ended hs c).post z in let Run : List Val → SProp 𝓤 = λ ws. WpFn 𝓤 H 𝓣.C 𝓣.Λ fn ws Post in
    qed 𝓛 ((‵ ftrue ⊛ ‵ (owns (types_at ended.signature.params z.0.0) z.0.3 z.0.4)) ∷ raw (fact 𝓤 (IsSome d.held)) ∷ []) ∵ move ! (1 ∷ []) $ heard ! (IsSome d.held) (λ some. let x = (some_of d.held some).0 in let is = (some_of d.held some).1 in split ! $ move ! (1 ∷ []) $ fsplit ! $
    slot_out ! d x is z.0.4.0 (λ b o ws. move ! (1 ∷ []) $ fsplit ! $ handle_tells (al R Z LZ ghosts) ! a z.0.4.1.0 (λ h ea fits.
    -- [the allocator; nothing; the box; nothing]
    let w : Val = word (vptr b o) in let made : Val = both (vptr b o) h in
    suffices ! (Run (w ∷ h ∷ [])) (subst (λ (us : List Val). ent 𝓤 (Run (w ∷ h ∷ [])) (Run us)) (sym (λ i. ws i ++ (ea i ++ []))) (id⊢ 𝓤 (Run (w ∷ h ∷ [])))) $
    enter ! 𝓣.C 𝓣.Λ fn (w ∷ h ∷ []) Post $ alloc_all ! (λ l. pass_all ! refl ((tt, (tt, tt)), (fits, tt)) $
    sets ! (of_opd ! (get_in ! (fld ! refl (stop !)) (sub ! 0 refl (whole !)))) refl (tt, tt) $ sets ! (of_opd ! (get ! refl)) refl (tt, tt) $
    sets ! (agg ! (and_then ! (get ! refl) (and_then ! (get ! refl) (no_more !)))) refl (loose_good R Z LZ ghosts b o h fits) $
    move ! (2 ∷ 0 ∷ []) $ loose_in R Z LZ ghosts ! b o h a x $ use0 𝓛 (raw (fact 𝓤 (d.held ≡ Some x))) (fact_i 𝓤 (d.held ≡ Some x) (emp 𝓤) is) $ nothing ! $ nothing ! $ fjoin ! $ nothing ! $ fjoin ! $
    returns ! (look_at ! 0 refl) $ free_all ! refl $ keep ! (4 ∷ 0 ∷ 2 ∷ 1 ∷ []) $ by ! (leaves 𝓛 ended hs c z made (record { at = block_ptr b o; alloc = a; value = x }) (tt, (tt, tt)) (tt, (tt, tt))))))))
