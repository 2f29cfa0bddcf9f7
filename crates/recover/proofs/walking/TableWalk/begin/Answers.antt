use Rattle.std.proofs.Common.{◌≡◌, ℕ, List, Some, subst}
use Rattle.std.specs.Prelude.{string_bytes}
use Rattle.std.proofs.lemmas.Result.{err_from_is_err_and}
use Rattle.ikey.specs.Keys.{Key}
use Rattle.ikey.specs.Orders.{order_of}
use Rattle.recover.specs.internal.Checks.{Never, IsOnly, first_key}
use Rattle.recover.specs.internal.Walking.{IsKeyAt}
use Rattle.recover.specs.Limits.{IsUnsupportedFile}
use Rattle.recover.specs.Ranges.{HasFileOfTable}
use Rattle.recover.specs.Report.{IsLongTable}
use Rattle.recover.proofs.NotSupported.{told_none, told_bytes, told_file}
use Rattle.recover.proofs.Passing.{no_smallest, no_first_key, begins}
use Rattle.recover.proofs.Refused.{still_later, still_counted, refuses_bytes}
use Rattle.recover.proofs.WalkReads.{first_opened}
use Rattle.recover.proofs.WalkSteps.{first_by, not_first_by}
use Rattle.recover.proofs.WholeTables.{unnamed, unread_pairs}
use Rattle.recover.proofs.walking.TableWalk.begin.Goals as goal

pub returns-in_err-name-clause-refused : goal.returns-in_err-name-clause-refused
returns-in_err-name-clause-refused g c =
    let p = err_from_is_err_and c.from_residual.result c.from_residual.ensures.1 in
    rw (p.1, p.2) (unnamed (order_of g.K.KeyOrder.name g.K.KeyOrder.cmp) c.in_err-name.field-0.0 (g.S.Store.facts c.args.store.now) (g.S.Store.facts c.table_name.new.store) c.args.placed.now c.in_err-name.ensures.refused)

pub returns-in_err-name-clause-still : goal.returns-in_err-name-clause-still
returns-in_err-name-clause-still g c =
    let p = err_from_is_err_and c.from_residual.result c.from_residual.ensures.1 in
    rw (p.1, p.2) (still_counted c.in_err-name.field-0.0 (g.S.Store.facts c.args.store.now) (g.S.Store.facts c.table_name.new.store) c.in_err-name.ensures.counted)

pub returns-in_err-name-clause-told : goal.returns-in_err-name-clause-told
returns-in_err-name-clause-told g c =
    let a = g.S.Store.facts c.args.store.now in
    let order = order_of g.K.KeyOrder.name g.K.KeyOrder.cmp in
    let p = err_from_is_err_and c.from_residual.result c.from_residual.ensures.1 in
    rw (p.1, p.2) (told_none c.in_err-name.field-0.0 a (g.S.Store.facts c.table_name.new.store) (HasFileOfTable a.files c.args.placed.now → ⊥) (IsUnsupportedFile order a.files c.args.placed.now) c.in_err-name.ensures.refused)

pub returns-in_err-walk-clause-refused : goal.returns-in_err-walk-clause-refused
returns-in_err-walk-clause-refused g c =
    let p = err_from_is_err_and c.from_residual-in_err-walk.result c.from_residual-in_err-walk.ensures.1 in
    rw (p.1, p.2) (unread_pairs (order_of g.K.KeyOrder.name g.K.KeyOrder.cmp) c.in_err-walk.field-0.0 (g.S.Store.facts c.args.store.now) (g.S.Store.facts c.table_name.new.store) (g.S.Store.facts c.open_first.new.store) c.args.placed.now
    (string_bytes c.in_ok-name.name) c.as_str.result.now c.in_ok-name.ensures.store c.in_err-walk.ensures.store c.as_str.ensures.value c.in_ok-name.ensures.found c.in_err-walk.ensures.refused)

pub returns-in_err-walk-clause-still : goal.returns-in_err-walk-clause-still
returns-in_err-walk-clause-still g c =
    let p = err_from_is_err_and c.from_residual-in_err-walk.result c.from_residual-in_err-walk.ensures.1 in
    rw (p.1, p.2) (still_later c.in_err-walk.field-0.0 (g.S.Store.facts c.args.store.now) (g.S.Store.facts c.table_name.new.store) (g.S.Store.facts c.open_first.new.store) c.in_ok-name.ensures.counted c.in_err-walk.ensures.still)

pub returns-in_err-walk-clause-told : goal.returns-in_err-walk-clause-told
returns-in_err-walk-clause-told g c =
    let p = err_from_is_err_and c.from_residual-in_err-walk.result c.from_residual-in_err-walk.ensures.1 in
    rw (p.1, p.2) (told_file (order_of g.K.KeyOrder.name g.K.KeyOrder.cmp) c.in_err-walk.field-0.0 (g.S.Store.facts c.args.store.now) (g.S.Store.facts c.table_name.new.store) (g.S.Store.facts c.open_first.new.store) c.args.placed.now (string_bytes c.in_ok-name.name) c.as_str.result.now
    c.in_ok-name.ensures.store c.in_err-walk.ensures.store c.as_str.ensures.value c.in_ok-name.ensures.found c.in_err-walk.ensures.told)

pub returns-then-not-is_at-clause-refused : goal.returns-then-not-is_at-clause-refused
returns-then-not-is_at-clause-refused g c = rw c.note_file.ensures.same (λ t.
    let order = order_of g.K.KeyOrder.name g.K.KeyOrder.cmp in
    let a = g.S.Store.facts c.args.store.now in
    let walk = c.in_ok-walk.walk in
    let placed = c.args.placed.now in
    let first = first_opened order a (g.S.Store.facts c.table_name.new.store) (g.S.Store.facts c.open_first.new.store) placed (string_bytes c.in_ok-name.name) c.as_str.result.now walk.table walk.next walk.block.pairs
    c.in_ok-name.ensures.store c.in_ok-walk.ensures.store c.as_str.ensures.value c.in_ok-name.ensures.found c.in_ok-walk.ensures.found c.in_ok-walk.ensures.name t in
    let here = c.in_ok-walk.ensures.first in
    let other = subst (λ (k : List ℕ). first_key walk.block.pairs ≡ Some k → ⊥) c.as_slice.ensures (not_first_by walk.block.pairs c.as_slice.result.now (λ pair at. c.if-not-is_at.ensures 0 pair (here.0, at))) in
    no_smallest order g.met.K.KeyOrder.total a.files placed walk.table walk.next walk.block.pairs first here.1 other)

pub returns-in_err-head-clause-refused : goal.returns-in_err-head-clause-refused
returns-in_err-head-clause-refused g c =
    let order = order_of g.K.KeyOrder.name g.K.KeyOrder.cmp in
    let a = g.S.Store.facts c.args.store.now in
    let d = g.S.Store.facts c.open_first.new.store in
    let walk = c.in_ok-walk.walk in
    let placed = c.args.placed.now in
    let p = err_from_is_err_and c.from_residual-in_err-head.result c.from_residual-in_err-head.ensures.1 in
    rw (p.1, p.2) (refuses_bytes c.in_err-head.field-0.0 a d ((key : Key) → IsKeyAt walk.block.pairs 0 key → ⊥) ⊥ (IsOnly Never order a.files placed) (IsOnly (IsLongTable order) order a.files placed)
    (λ t none. no_first_key order a.files placed walk.table walk.next walk.block.pairs
    (first_opened order a (g.S.Store.facts c.table_name.new.store) d placed (string_bytes c.in_ok-name.name) c.as_str.result.now walk.table walk.next walk.block.pairs
    c.in_ok-name.ensures.store c.in_ok-walk.ensures.store c.as_str.ensures.value c.in_ok-name.ensures.found c.in_ok-walk.ensures.found c.in_ok-walk.ensures.name t) c.in_ok-walk.ensures.first.1 none)
    (λ t none. absurd none) c.in_err-head.ensures.refused)

pub returns-in_err-head-clause-told : goal.returns-in_err-head-clause-told
returns-in_err-head-clause-told g c =
    let p = err_from_is_err_and c.from_residual-in_err-head.result c.from_residual-in_err-head.ensures.1 in
    rw (p.1, p.2) (told_bytes c.in_err-head.field-0.0 (g.S.Store.facts c.open_first.new.store) ((key : Key) → IsKeyAt c.in_ok-walk.walk.block.pairs 0 key → ⊥)
    (IsUnsupportedFile (order_of g.K.KeyOrder.name g.K.KeyOrder.cmp) (g.S.Store.facts c.args.store.now).files c.args.placed.now) c.in_err-head.ensures.refused)

pub returns-clause-found : goal.returns-clause-found
returns-clause-found g c = λ t.
    let order = order_of g.K.KeyOrder.name g.K.KeyOrder.cmp in
    let a = g.S.Store.facts c.args.store.now in
    let walk = c.in_ok-walk.walk in
    let placed = c.args.placed.now in
    let first = first_opened order a (g.S.Store.facts c.table_name.new.store) (g.S.Store.facts c.open_first.new.store) placed (string_bytes c.in_ok-name.name) c.as_str.result.now walk.table walk.next walk.block.pairs
    c.in_ok-name.ensures.store c.in_ok-walk.ensures.store c.as_str.ensures.value c.in_ok-name.ensures.found c.in_ok-walk.ensures.found c.in_ok-walk.ensures.name t in
    let here = c.in_ok-walk.ensures.first in
    let smallest = subst (λ (k : List ℕ). first_key walk.block.pairs ≡ Some k) c.as_slice.ensures (first_by walk.block.pairs c.as_slice.result.now here.1 (λ pair at. c.if-not-is_at.ensures 0 pair (here.0, at))) in
    let r = c.in_ok-head.ensures.found in
    begins order a.files placed _ r.0 first here.0 c.in_ok-walk.ensures.passed smallest r.1 r.2 r.3
