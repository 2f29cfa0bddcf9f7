use Rattle.std.proofs.Common.{◌%◌, ◌+◌, ◌++◌, ◌∷◌, [], List, ℕ, ap, eqb, ◌∙◌, sym, subst, arith}
use Rattle.ikey.specs.Entries.{Pair}
use Rattle.std.proofs.Common.{◌≤◌, ◌^◌, length}
use Rattle.std.specs.Option.{ForSome}
use Rattle.block.specs.Written.{Added, last_key}
use Rattle.block.specs.Built.{written_length}
use Rattle.block.proofs.BuilderLaws.{built_push, count_small, key_is, pushes}
use Rattle.block.proofs.block_builder.BlockBuilder.add.Goals as goal

pub overflow_add-self : goal.overflow_add-self
overflow_add-self g c =
    let b = c.self.inside in
    omega (arith, count_small g.O.EntryOrder.below b.out.items b.restarts.items b.last_key.items b.count b.interval c.self.invariant)

pub invariant_of-self-2 : goal.invariant_of-self-2
invariant_of-self-2 g c =
    let b = c.self.inside in
    let below = g.O.EntryOrder.below in
    let pair : Pair = record { key = c.args.key.now; value = c.args.value.now } in
    let restart = eqb (b.count % b.interval) 0 in
    let shared = c.shared_by-shared.result in
    let rest = c.split_at.result.1.now in
    let is = rw c.deref.ensures.value at c.shared_by-shared.ensures.value in
    let le = rw c.deref.ensures.value at c.shared_by-shared.ensures.in_previous in
    let pushed = pushes restart b.last_key.items c.args.key.now c.args.value.now rest b.out.items c.push_entry.new.out.items shared is le c.split_at.ensures.back c.in_ok-push_entry.ensures.entry in
    let both = built_push below b.out.items b.restarts.items b.last_key.items b.count b.interval c.push_entry.new.out.items c.push_entry.new.restarts.items pair c.self.invariant
    pushed c.in_ok-push_entry.ensures.restarts
    (subst (λ (v : Added). ForSome (last_key v.pairs) (λ (last : List ℕ). below last c.args.key.now)) (sym c.self.view_is) c.requires.rises)
    (subst (λ (v : Added). written_length v + length c.args.key.now + length c.args.value.now ≤ 2 ^ 31) (sym c.self.view_is) c.requires.room) in
    rw (c.in_ok-extend_from_slice.ensures.items, c.truncate.ensures.items, c.reserve.ensures.items, key_is restart b.last_key.items c.args.key.now rest shared is le c.split_at.ensures.back) both.0

pub returns-clause-ok : goal.returns-clause-ok
returns-clause-ok g c =
    let b = c.self.inside in
    let below = g.O.EntryOrder.below in
    let pair : Pair = record { key = c.args.key.now; value = c.args.value.now } in
    let restart = eqb (b.count % b.interval) 0 in
    let shared = c.shared_by-shared.result in
    let rest = c.split_at.result.1.now in
    let is = rw c.deref.ensures.value at c.shared_by-shared.ensures.value in
    let le = rw c.deref.ensures.value at c.shared_by-shared.ensures.in_previous in
    let pushed = pushes restart b.last_key.items c.args.key.now c.args.value.now rest b.out.items c.push_entry.new.out.items shared is le c.split_at.ensures.back c.in_ok-push_entry.ensures.entry in
    let both = built_push below b.out.items b.restarts.items b.last_key.items b.count b.interval c.push_entry.new.out.items c.push_entry.new.restarts.items pair c.self.invariant
    pushed c.in_ok-push_entry.ensures.restarts
    (subst (λ (v : Added). ForSome (last_key v.pairs) (λ (last : List ℕ). below last c.args.key.now)) (sym c.self.view_is) c.requires.rises)
    (subst (λ (v : Added). written_length v + length c.args.key.now + length c.args.value.now ≤ 2 ^ 31) (sym c.self.view_is) c.requires.room) in
    (λ i. record { interval = b.interval; pairs = both.1 i }) ∙ ap (λ (v : Added). record { interval = v.interval; pairs = v.pairs ++ pair ∷ [] }) c.self.view_is
