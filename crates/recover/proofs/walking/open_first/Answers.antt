use Rattle.std.proofs.Common.{rules, ◌≡◌, ℕ, List, [], None, length, refl, arith}
use Rattle.std.proofs.lemmas.Option.{MatchOption-at_some, MatchOption-at_none}
use Rattle.std.proofs.lemmas.Result.{err_from_is_err_and}
use Rattle.ikey.specs.Entries.{InternalEntry}
use Rattle.ikey.specs.Orders.{order_of}
use Rattle.table.specs.Frame.{Frame, IsFrame, IsOversized}
use Rattle.table.specs.Refusals.{IsUnsupported, IsOfOne, IsFrameDamaged}
use Rattle.table.specs.Table.{IsTable}
use Rattle.recover.proofs.NotSupported.{told_frame, told_blocks}
use Rattle.recover.proofs.ReadTables.{no_frame, no_entries, table_still}
use Rattle.recover.proofs.WalkReads.{as_all, opened_found, none_at_all}
use Rattle.recover.proofs.walking.open_first.Goals as goal

pub returns-in_err-table-clause-refused : goal.returns-in_err-table-clause-refused
returns-in_err-table-clause-refused g c =
    let p = err_from_is_err_and c.from_residual-in_err-table.result c.from_residual-in_err-table.ensures.1 in
    rw (p.1, p.2) (no_frame (order_of g.K.KeyOrder.name g.K.KeyOrder.cmp) c.in_err-table.field-0.0 (g.S.Store.facts c.args.store.now) (g.S.Store.facts c.open.new.store) c.args.name.now c.in_err-table.ensures.refused)

pub returns-in_err-table-clause-still : goal.returns-in_err-table-clause-still
returns-in_err-table-clause-still g c =
    let p = err_from_is_err_and c.from_residual-in_err-table.result c.from_residual-in_err-table.ensures.1 in
    let order = order_of g.K.KeyOrder.name g.K.KeyOrder.cmp in
    let a = g.S.Store.facts c.args.store.now in
    rw (p.1, p.2) (table_still c.in_err-table.field-0.0 a a (g.S.Store.facts c.open.new.store) c.args.name.now (λ (file : List ℕ). (frame : Frame) → IsFrame order.cmp file frame → ⊥)
    (λ (file : List ℕ). (frame : Frame) (is : IsFrame order.cmp file frame) → IsOversized order.cmp file frame is) refl c.in_err-table.ensures.refused)

pub returns-in_err-table-clause-told : goal.returns-in_err-table-clause-told
returns-in_err-table-clause-told g c =
    let p = err_from_is_err_and c.from_residual-in_err-table.result c.from_residual-in_err-table.ensures.1 in
    rw (p.1, p.2) (told_frame (order_of g.K.KeyOrder.name g.K.KeyOrder.cmp) c.in_err-table.field-0.0 (g.S.Store.facts c.args.store.now) (g.S.Store.facts c.open.new.store) c.args.name.now (IsFrameDamaged g.K.KeyOrder.cmp) c.in_err-table.ensures.told)

pub returns-in_err-read-clause-refused : goal.returns-in_err-read-clause-refused
returns-in_err-read-clause-refused g c =
    let p = err_from_is_err_and c.from_residual-in_err-read.result c.from_residual-in_err-read.ensures.1 in
    let table = c.in_ok-table.table in
    let b = g.S.Store.facts c.open.new.store in
    let d = g.S.Store.facts c.next_block.new.store in
    rw (p.1, p.2) (no_entries (order_of g.K.KeyOrder.name g.K.KeyOrder.cmp) c.in_err-read.field-0.0 (g.S.Store.facts c.args.store.now) b d c.args.name.now table c.in_ok-table.ensures.reads c.in_err-read.ensures.reads c.in_ok-table.ensures.name
    c.in_ok-table.ensures.found (as_all g.K.KeyOrder.cmp c.in_err-read.field-0.0 b d table.name table.frame c.in_err-read.ensures.told))

pub returns-in_err-read-clause-still : goal.returns-in_err-read-clause-still
returns-in_err-read-clause-still g c =
    let p = err_from_is_err_and c.from_residual-in_err-read.result c.from_residual-in_err-read.ensures.1 in
    let cmp = g.K.KeyOrder.cmp in
    let frame = c.in_ok-table.table.frame in
    rw (p.1, p.2) (table_still c.in_err-read.field-0.0 (g.S.Store.facts c.args.store.now) (g.S.Store.facts c.open.new.store) (g.S.Store.facts c.next_block.new.store) c.in_ok-table.table.name
    (λ (file : List ℕ). (entries : List InternalEntry) → IsFrame cmp file frame → IsTable cmp file entries → ⊥) (λ (file : List ℕ). IsOfOne (IsUnsupported file) frame.places) c.in_ok-table.ensures.stood c.in_err-read.ensures.told)

pub returns-in_err-read-clause-told : goal.returns-in_err-read-clause-told
returns-in_err-read-clause-told g c =
    let p = err_from_is_err_and c.from_residual-in_err-read.result c.from_residual-in_err-read.ensures.1 in
    let cmp = g.K.KeyOrder.cmp in
    let frame = c.in_ok-table.table.frame in
    rw (p.1, p.2) (told_blocks (order_of g.K.KeyOrder.name cmp) c.in_err-read.field-0.0 (g.S.Store.facts c.args.store.now) (g.S.Store.facts c.open.new.store) (g.S.Store.facts c.next_block.new.store) c.args.name.now c.in_ok-table.table
    (λ (file : List ℕ). (entries : List InternalEntry) → IsFrame cmp file frame → IsTable cmp file entries → ⊥) c.in_ok-table.ensures.reads c.in_err-read.ensures.reads c.in_ok-table.ensures.name c.in_ok-table.ensures.found c.in_err-read.ensures.told)

pub returns-in_default-clause-refused : goal.returns-in_default-clause-refused
returns-in_default-clause-refused g c = rw c.note_file.ensures.same (λ t bytes kept there is.
    let cmp = g.K.KeyOrder.cmp in
    let table = c.in_ok-table.table in
    let none : c.in_ok-read.field-0 ≡ None = search rules in
    let found = MatchOption-at_none _ _ none c.in_ok-read.ensures.found in
    let o = opened_found cmp (g.S.Store.facts c.args.store.now) (g.S.Store.facts c.open.new.store) (g.S.Store.facts c.next_block.new.store) c.args.name.now table (length table.frame.places) []
    c.in_ok-table.ensures.reads c.in_ok-read.ensures.reads c.in_ok-table.ensures.name c.in_ok-table.ensures.found found t bytes there in
    absurd (none_at_all cmp bytes table.frame (length table.frame.places) [] kept o.0 o.1 (omega arith) refl is))

pub returns-clause-found : goal.returns-clause-found
returns-clause-found g c =
    let read = c.in-Some.read in
    let found = MatchOption-at_some _ _ _ c.in-Some.is c.in_ok-read.ensures.found in
    opened_found g.K.KeyOrder.cmp (g.S.Store.facts c.args.store.now) (g.S.Store.facts c.open.new.store) (g.S.Store.facts c.next_block.new.store) c.args.name.now c.in_ok-table.table read.next read.block.pairs
    c.in_ok-table.ensures.reads c.in_ok-read.ensures.reads c.in_ok-table.ensures.name c.in_ok-table.ensures.found found

pub returns-clause-first : goal.returns-clause-first
returns-clause-first g c = c.in_ok-read.ensures.first c.in-Some.read c.in-Some.is
