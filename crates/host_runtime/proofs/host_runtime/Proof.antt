-- Makes the runtime of nothing. Room of no bytes is at any place; a unit goes into it, and the
-- struct around it is read.
use Rattle.std.proofs.Common.{[], ◌∷◌, refl, w8}
use seplogic.Ra.Ura.{Ura}
use lib.Dec.{lit<}
use base.Fraction.{full_share}
use mir.Syntax.{Ty, Tys, ty_int, ty_unit, ty_array, ty_struct, tcons, tnil, Body, seq, assign, place, rv_opd, copy, return}
use mir.Val.{Val, vunit, vstruct, vcons, vnil}
use base.Logic.{SProp, ent, wand, emp, id⊢}
use base.Fml.{ftrue, fat, froom, fleft}
use prog.Memory.{Memory}
use prog.Model.{rooms_at}
use prog.Routine.{Routine}
use prog.Wp.{Calls, Loops, WpFn, Tables}
use contract.Monad.{Fun}
use contract.Running.{tables, tables_of}
use sound.WpLaws.{WpFn-mono}
use types.Logic.{Logic}
use types.Kit.{‵, raw, at_ret, ◌⊛◌, ◌$◌, ◌∵◌, !, qed, by, move, keep, drop, split, join, frame, use0, use1, suffices}
use types.Run.{enter, returns, stop, load, addr, lit, unit_lit, of_opd, from, assigns, init, look_raw, first, blocks, exec}
use types.ByLocal.{alloc_all, pass_all, free_all, look_at, get, through, sets, sets_last, env}
use denote.RattleType.{owns}
use denote.Laws.{Is}
use denote.Signature.{types_at}
use denote.Steps.{nothing, owned}
use denote.Struct.Laws.{makes, unit-plain}
use denote.Triple.Clauses.{Clauses, closing}
use denote.Triple.Entry.{alive}
use denote.Triple.Spec.{Meets, triple_of}
use denote.Triple.Table.{entered}
use denote.Triple.Walked.{Stays, walk_of, ends_at, walk_Meets}
use Rattle.std.specs.contracts.rt.LibcRuntime as LR
use Rattle.host_runtime.specs.contracts.host_runtime.{ended, clauses}
use Rattle.host_runtime.specs.contracts.host_runtime.Key.{name as #self}
use Rattle.host_runtime.proofs.host_runtime.Statement as stated
use Rattle.host_runtime.proofs.host_runtime.Code as code

abbrev fields : Tys
fields = tcons ty_unit tnil

abbrev S : Ty
S = ty_struct [] fields

abbrev E : Ty
E = ty_array (ty_int w8) 0

abbrev v : Val
v = vstruct (vcons vunit vnil)

abbrev after_block : Body
after_block = seq (assign (place 0 []) (rv_opd (copy (place 3 [])))) return

abbrev stayed : Stays ended.signature.params ended.kept
stayed = tt

module _ {M : Type 1} {𝓤 : Ura M} (𝓛 : Logic 𝓤) (at_mem : Memory → SProp 𝓤) (run : Routine → Fun 𝓤) where
  open 𝓛 use {H}

  abbrev held : Clauses 𝓤 ended
  held = clauses 𝓛 at_mem run

  module _ (C : Calls 𝓤 H) (Λ : Loops 𝓤 H) (z : (walk_of 𝓛 ended stayed held).Ghost) where
    abbrev Post : Val → SProp 𝓤
    Post = (walk_of 𝓛 ended stayed held).post z

    abbrev toks : SProp 𝓤
    toks = alive 𝓛 ended.signature z.0.0 z.0.1

    walks : ent 𝓤 ((walk_of 𝓛 ended stayed held).pre z) (WpFn 𝓤 H C Λ code.function ((walk_of 𝓛 ended stayed held).args z) Post)
    walks =
        qed 𝓛 ((raw toks ⊛ ‵ (owns (types_at ended.signature.params z.0.0) z.0.3 z.0.4)) ∷ raw ((held z.0.0 z.0.3).requires z.1) ∷ []) ∵
        keep ! (0 ∷ []) $ split ! $ keep ! (0 ∷ []) $
        enter ! C Λ code.function [] Post $ alloc_all ! (λ l. pass_all ! refl tt $
        -- let byte = 0u8;
        sets ! (of_opd ! (lit ! tt)) refl (tt, record { fits = lit< tt }) $
        first ! $ blocks ! $
        -- let at = &raw const byte as *mut ();
        sets ! (addr ! (from ! (stop !))) refl (tt, tt) $
        -- room of no bytes is there, and is room for the struct, whose field has room then
        use0 𝓛 (‵ (froom E (l 1) 0)) (𝓛.laws.room_nil (ty_int w8) (l 1) 0) $
        use1 𝓛 (raw (H.room S (l 1) 0) ⊛ raw (wand 𝓤 (H.room S (l 1) 0) (H.room E (l 1) 0))) (𝓛.laws.room_as E S (l 1) 0 refl tt) $ split ! $ move ! (1 ∷ []) $ drop ! $
        use1 𝓛 (raw (rooms_at 𝓤 H fields 0 (l 1) 0) ⊛ ‵ (fleft full_share S fields (l 1) 0)) (𝓛.laws.room_apart [] fields (l 1) 0 (refl, refl)) $ split ! $
        use1 𝓛 (‵ (froom ty_unit (l 1) 0) ⊛ ‵ ftrue) (id⊢ 𝓤 (rooms_at 𝓤 H fields 0 (l 1) 0)) $ split ! $ move ! (1 ∷ []) $ drop ! $
        -- *at = ();
        assigns ! (of_opd ! (unit_lit !)) (through ! refl (stop !)) (init ! 0 refl (tt, tt)) $
        nothing ! $ move ! (1 ∷ 0 ∷ []) $ join ! $ move ! (1 ∷ 0 ∷ []) $ join ! $
        use1 𝓛 (‵ (fat full_share S (l 1) 0 v)) (𝓛.laws.struct_back full_share [] fields (l 1) 0 (vcons vunit vnil)) $
        -- *(at as *const HostRuntime)
        sets ! (of_opd ! (get ! refl)) refl (tt, tt) $
        sets_last ! (of_opd ! (load ! (through ! refl (stop !)) (look_raw ! 0 refl))) refl (tt, (tt, tt)) $
        exec ! C Λ (env code.function.locals l) after_block (at_ret (env code.function.locals l) Post) $ sets ! (of_opd ! (get ! refl)) refl (tt, (tt, tt)) $
        nothing ! $ owned ! LR.the_row (Is LR.the_row) (makes LR.the_type (unit-plain, tt) 𝓛) (record { seal = tt }) (v ∷ []) ((vunit ∷ [], tt), (refl, (refl, tt))) $
        returns ! (look_at ! 0 refl) $ free_all ! refl $
        keep ! (3 ∷ 0 ∷ 1 ∷ []) $ suffices ! _ (ends_at 𝓛 ended stayed held z v (record { seal = tt }) tt tt) $
        nothing ! $ move ! (0 ∷ 2 ∷ []) $ join ! $ move ! (1 ∷ 0 ∷ []) $ join ! $ frame ! $ by ! (id⊢ 𝓤 (emp 𝓤)))

  meets : (𝓣 : Tables 𝓤 H) → Meets 𝓛 ended.signature (WpFn 𝓤 H 𝓣.C 𝓣.Λ code.function) (closing 𝓛 ended held)
  meets 𝓣 =
      walk_Meets 𝓛 ended stayed tt held
      (WpFn 𝓤 H 𝓣.C 𝓣.Λ code.function) (WpFn-mono 𝓤 H 𝓛.laws 𝓣 code.function) (walks 𝓣.C 𝓣.Λ)

pub host_runtime_spec : {M : Type 1} → stated.statement M
unfolding tables_of
host_runtime_spec 𝓤 𝓛 𝓜 𝓡 wired =
    let 𝓣 : Tables 𝓤 𝓛.H = tables_of 𝓤 𝓛.H 𝓜 (tables 𝓤 𝓛.H 𝓜 𝓡 𝓡.env) in
    entered 𝓤 𝓛.H (triple_of 𝓛 ended.signature (closing 𝓛 ended (held 𝓛 𝓜.mem 𝓡.returns))) 𝓣.C 𝓣.Λ #self code.function
    (code.unfolded 𝓤 𝓛.H 𝓜 𝓡 wired) (meets 𝓛 𝓜.mem 𝓡.returns 𝓣)
