use Rattle.std.proofs.Common.{ℕ, List, take, ◌*◌, Option, Vec, option_map, sym, ap, ◌∙◌, subst, arith}
use Rattle.std.specs.declared.alloc.Global.{Global}
use Rattle.recover.specs.internal.Parts.{RefusesBytes}
use Rattle.recover.proofs.LogPieces.{NoBlocks, piece_refused}
use Rattle.recover.proofs.log_files.read_piece.Goals as goal

pub returns-in-Err-clause-refused : goal.returns-in-Err-clause-refused
returns-in-Err-clause-refused g c =
    let a = g.S.Store.facts c.args.store.now in
    let b = g.S.Store.facts c.read_part.new.store in
    let items : Option (Vec ℕ Global) → Option (List ℕ) = λ o. option_map (λ (v : Vec ℕ Global). v.items) o in
    let B : List ℕ → Type 0 = λ bs. RefusesBytes c.in-Err.error (NoBlocks (take 32768 bs)) ⊥ in
    rw c.note_piece.ensures (piece_refused c.each_block.ensures a b c.in-Err.error c.args.name.now c.in-Some.piece.items (1048576 * c.args.index) c.min-count.result (32 * c.args.index) (omega arith)
    (λ t. sym (ap items c.in-Some.is) ∙ c.in_ok-piece.ensures.found t) (subst B c.deref.ensures.value c.in-Err.ensures.refused))
