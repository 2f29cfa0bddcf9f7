use Rattle.ikey.specs.Entries.{Pair}
use Rattle.table.proofs.Adding.{pushed_last, last_pushed, some_pushed, last_ended, writes_both, builds, holds_pushed, holds_ended}
use Rattle.table.proofs.builder.TableBuilder.add.Goals as goal

pub end_block-requires : goal.end_block-requires
end_block-requires g c =
    let pair : Pair = record { key = c.args.key.now; value = c.args.value.now } in
    record { some = some_pushed c.create_file.new.self c.push.new.self pair c.in_ok-push.ensures.pushed }

pub returns-in_err-end_block-clause-writes : goal.returns-in_err-end_block-clause-writes
returns-in_err-end_block-clause-writes g c =
    writes_both (g.S.Store.facts c.args.store.now) (g.S.Store.facts c.create_file.new.store) (g.S.Store.facts c.end_block.new.store) c.args.self.now c.create_file.new.self c.push.new.self
    c.in_ok-create_file.ensures.kept c.in_ok-push.ensures.name c.in_ok-create_file.ensures.writes c.in_err-end_block.ensures.writes

pub returns-in_ok-end_block-clause-last : goal.returns-in_ok-end_block-clause-last
returns-in_ok-end_block-clause-last g c =
    let pair : Pair = record { key = c.args.key.now; value = c.args.value.now } in
    last_ended g.K.KeyOrder.cmp c.push.new.self c.end_block.new.self (g.S.Store.facts c.create_file.new.store) (g.S.Store.facts c.end_block.new.store) pair.key c.in_ok-end_block.ensures.ended
    (pushed_last c.create_file.new.self c.push.new.self pair c.in_ok-push.ensures.pushed)

pub returns-in_ok-end_block-clause-writes : goal.returns-in_ok-end_block-clause-writes
returns-in_ok-end_block-clause-writes g c =
    writes_both (g.S.Store.facts c.args.store.now) (g.S.Store.facts c.create_file.new.store) (g.S.Store.facts c.end_block.new.store) c.args.self.now c.create_file.new.self c.push.new.self
    c.in_ok-create_file.ensures.kept c.in_ok-push.ensures.name c.in_ok-create_file.ensures.writes c.in_ok-end_block.ensures.writes

pub returns-in_ok-end_block-clause-added : goal.returns-in_ok-end_block-clause-added
returns-in_ok-end_block-clause-added g c = λ pairs t h.
    let cmp = g.K.KeyOrder.cmp in
    let pair : Pair = record { key = c.args.key.now; value = c.args.value.now } in
    let a = g.S.Store.facts c.args.store.now in
    let b = g.S.Store.facts c.create_file.new.store in
    let d = g.S.Store.facts c.end_block.new.store in
    let first = c.in_ok-end_block.ensures.writes.faithful t in
    let held = holds_pushed cmp a b c.args.self.now c.create_file.new.self c.push.new.self pairs pair c.in_ok-create_file.ensures.kept (c.in_ok-create_file.ensures.created first) c.requires.rises c.in_ok-push.ensures.pushed h in
    builds cmp c.end_block.new.self d _ (holds_ended cmp b d c.push.new.self c.end_block.new.self _ t c.in_ok-end_block.ensures.ended held)

pub returns-else-is_full-clause-last : goal.returns-else-is_full-clause-last
returns-else-is_full-clause-last g c =
    let pair : Pair = record { key = c.args.key.now; value = c.args.value.now } in
    last_pushed c.create_file.new.self c.push.new.self pair c.in_ok-push.ensures.pushed

pub returns-else-is_full-clause-added : goal.returns-else-is_full-clause-added
returns-else-is_full-clause-added g c = λ pairs t h.
    let cmp = g.K.KeyOrder.cmp in
    let pair : Pair = record { key = c.args.key.now; value = c.args.value.now } in
    let a = g.S.Store.facts c.args.store.now in
    let b = g.S.Store.facts c.create_file.new.store in
    builds cmp c.push.new.self b _ (holds_pushed cmp a b c.args.self.now c.create_file.new.self c.push.new.self pairs pair c.in_ok-create_file.ensures.kept (c.in_ok-create_file.ensures.created t) c.requires.rises c.in_ok-push.ensures.pushed h)
