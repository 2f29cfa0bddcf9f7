use Rattle.std.proofs.Common.{◌≡◌, ◌+◌, ◌*◌, ◌-◌, ◌<◌, ◌≤◌, ℕ, List, min, length, Option, Vec, option_map, sym, ap, ◌∙◌, arith}
use Rattle.std.specs.declared.alloc.Global.{Global}
use Rattle.std.proofs.lemmas.Result.{err_from_is_err_and}
use Rattle.recover.proofs.Refused.{unchanged_both, counted_later}
use Rattle.recover.proofs.LogPieces.{first_none, pieces_refused, reads_more, reads_last, reads_none, first_all}
use Rattle.recover.proofs.log_files.read_log_file.Goals as goal

pub loop-index-init : goal.loop-index-init
loop-index-init g c =
    let a = g.S.Store.facts c.args.store.now in
    (c.in_ok-size.ensures.store, c.in_ok-size.ensures.counted, λ t. first_none a.files c.args.name.now c.in-Some.size (1048576 * 0) c.new-bytes.result.items (omega arith) c.new-bytes.ensures.items (sym c.in-Some.is ∙ c.in_ok-size.ensures.found t))

pub returns-in_err-piece-clause-store : goal.returns-in_err-piece-clause-store
returns-in_err-piece-clause-store g c =
    unchanged_both (g.S.Store.facts c.args.store.now) (g.S.Store.facts c.loop-index.store) (g.S.Store.facts c.read_piece.new.store) c.loop-index.invariant.0 c.in_err-piece.ensures.store

pub returns-in_err-piece-clause-counted : goal.returns-in_err-piece-clause-counted
returns-in_err-piece-clause-counted g c =
    let p = err_from_is_err_and c.from_residual-in_err-piece.result c.from_residual-in_err-piece.ensures.1 in
    rw (p.1, p.2) (counted_later c.in_err-piece.field-0.0 (g.S.Store.facts c.args.store.now) (g.S.Store.facts c.loop-index.store) (g.S.Store.facts c.read_piece.new.store) c.loop-index.invariant.1 c.in_err-piece.ensures.counted)

pub returns-in_err-piece-clause-refused : goal.returns-in_err-piece-clause-refused
returns-in_err-piece-clause-refused g c =
    let p = err_from_is_err_and c.from_residual-in_err-piece.result c.from_residual-in_err-piece.ensures.1 in
    rw (p.1, p.2) (pieces_refused (g.S.Store.facts c.args.store.now) (g.S.Store.facts c.loop-index.store) (g.S.Store.facts c.read_piece.new.store) c.in_err-piece.field-0.0 c.args.name.now
    c.loop-index.invariant.0 c.in_err-piece.ensures.store c.in_err-piece.ensures.refused)

pub returns-in_default-2-clause-store : goal.returns-in_default-2-clause-store
returns-in_default-2-clause-store g c =
    unchanged_both (g.S.Store.facts c.args.store.now) (g.S.Store.facts c.loop-index.store) (g.S.Store.facts c.read_piece.new.store) c.loop-index.invariant.0 c.in_ok-piece.ensures.store

pub returns-in_default-2-clause-counted : goal.returns-in_default-2-clause-counted
returns-in_default-2-clause-counted g c = c.in_ok-piece.ensures.counted ∙ c.loop-index.invariant.1

pub returns-in_default-2-clause-found : goal.returns-in_default-2-clause-found
returns-in_default-2-clause-found g c =
    let items : Option (Vec ℕ Global) → Option (List ℕ) = λ o. option_map (λ (v : Vec ℕ Global). v.items) o in
    reads_none (g.S.Store.facts c.args.store.now) (g.S.Store.facts c.loop-index.store) (g.S.Store.facts c.read_piece.new.store) c.args.name.now (min (c.in-Some.size - 1048576 * c.loop-index.index) 1048576) (1048576 * c.loop-index.index)
    c.loop-index.invariant.0 c.in_ok-piece.ensures.store (λ t. sym (ap items c.in_default-2.is) ∙ c.in_ok-piece.ensures.found t)

pub returns-in_err-add_piece-clause-store : goal.returns-in_err-add_piece-clause-store
returns-in_err-add_piece-clause-store g c =
    unchanged_both (g.S.Store.facts c.args.store.now) (g.S.Store.facts c.loop-index.store) (g.S.Store.facts c.read_piece.new.store) c.loop-index.invariant.0 c.in_ok-piece.ensures.store

pub returns-then-is_last-clause-store : goal.returns-then-is_last-clause-store
returns-then-is_last-clause-store g c =
    unchanged_both (g.S.Store.facts c.args.store.now) (g.S.Store.facts c.loop-index.store) (g.S.Store.facts c.read_piece.new.store) c.loop-index.invariant.0 c.in_ok-piece.ensures.store

pub returns-then-is_last-clause-counted : goal.returns-then-is_last-clause-counted
returns-then-is_last-clause-counted g c = c.in_ok-piece.ensures.counted ∙ c.loop-index.invariant.1

pub returns-then-is_last-clause-found : goal.returns-then-is_last-clause-found
returns-then-is_last-clause-found g c =
    let items : Option (Vec ℕ Global) → Option (List ℕ) = λ o. option_map (λ (v : Vec ℕ Global). v.items) o in
    let short : length c.in-Some-2.piece.items < 1048576 = omega (arith, c.if-is_last.true, c.len.ensures, c.in-Some-2.piece.ok.0) in
    reads_last (g.S.Store.facts c.args.store.now) (g.S.Store.facts c.loop-index.store) (g.S.Store.facts c.read_piece.new.store) c.args.name.now c.in-Some.size (1048576 * c.loop-index.index) 1048576
    c.loop-index.bytes.items c.in-Some-2.piece.items c.add_piece.new.bytes.items c.loop-index.invariant.0 c.in_ok-piece.ensures.store c.loop-index.invariant.2
    (λ t. sym (ap items c.in-Some-2.is) ∙ c.in_ok-piece.ensures.found t) c.in_ok-add_piece.ensures short

pub loop-index-preserved : goal.loop-index-preserved
loop-index-preserved g c =
    let a = g.S.Store.facts c.args.store.now in
    let l = g.S.Store.facts c.loop-index.store in
    let d = g.S.Store.facts c.read_piece.new.store in
    let items : Option (Vec ℕ Global) → Option (List ℕ) = λ o. option_map (λ (v : Vec ℕ Global). v.items) o in
    let next : 1048576 * c.loop-index.index + 1048576 ≡ 1048576 * (c.loop-index.index + 1) = omega arith in (
      unchanged_both a l d c.loop-index.invariant.0 c.in_ok-piece.ensures.store,
      c.in_ok-piece.ensures.counted ∙ c.loop-index.invariant.1,
      reads_more a l d c.args.name.now c.in-Some.size (1048576 * c.loop-index.index) 1048576 (1048576 * (c.loop-index.index + 1)) c.loop-index.bytes.items c.in-Some-2.piece.items c.add_piece.new.bytes.items
          c.loop-index.invariant.0 c.in_ok-piece.ensures.store c.loop-index.invariant.2 (λ t. sym (ap items c.in-Some-2.is) ∙ c.in_ok-piece.ensures.found t) c.in_ok-add_piece.ensures next,
    )

pub returns-clause-store : goal.returns-clause-store
returns-clause-store g c = c.loop-index.invariant.0

pub returns-clause-counted : goal.returns-clause-counted
returns-clause-counted g c = c.loop-index.invariant.1

pub returns-clause-found : goal.returns-clause-found
returns-clause-found g c =
    let all : c.in-Some.size ≤ 1048576 * c.loop-index.index = omega (arith, c.piece_count-index-end.ensures.covers, c.loop-index-test.false) in
    λ t. first_all (g.S.Store.facts c.args.store.now).files c.args.name.now c.in-Some.size (1048576 * c.loop-index.index) c.loop-index.bytes.items (c.loop-index.invariant.2 t) all
