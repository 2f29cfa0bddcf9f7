use Rattle.std.proofs.Common.{List, ℕ, sym, subst}
use Rattle.std.specs.Option.{ForSome}
use Rattle.ikey.specs.Below.{IsBelowInternal}
use Rattle.ikey.specs.Entries.{Pair}
use Rattle.table.specs.Building.{Building, last_added}
use Rattle.table.proofs.Kept.{rises_in_block, kept_pushed}
use Rattle.table.proofs.builder.TableBuilder.push.Goals as goal

pub add_entry-requires : goal.add_entry-requires
add_entry-requires g c =
    let b = c.self.inside in
    let below = IsBelowInternal g.K.KeyOrder.cmp in
    record {
      rises = rises_in_block below b.index.pairs b.block.pairs c.args.key.now
          (subst (λ (v : Building). ForSome (last_added v) (λ (last : List ℕ). below last c.args.key.now)) (sym c.self.view_is) c.requires.rises);
    }

pub invariant_of-self : goal.invariant_of-self
invariant_of-self g c =
    let b = c.self.inside in
    let pair : Pair = record { key = c.args.key.now; value = c.args.value.now } in
    kept_pushed g.K.KeyOrder.cmp g.met.K.KeyOrder.total b.offset b.index b.block c.add_entry.new.block pair c.self.invariant
    (subst (λ (v : Building). ForSome (last_added v) (λ (last : List ℕ). IsBelowInternal g.K.KeyOrder.cmp last pair.key)) (sym c.self.view_is) c.requires.rises) c.add_entry.ensures.kept

pub invariant_of-self-in_err-add : goal.invariant_of-self-in_err-add
invariant_of-self-in_err-add g c =
    let b = c.self.inside in
    let pair : Pair = record { key = c.args.key.now; value = c.args.value.now } in
    kept_pushed g.K.KeyOrder.cmp g.met.K.KeyOrder.total b.offset b.index b.block c.add_entry.new.block pair c.self.invariant
    (subst (λ (v : Building). ForSome (last_added v) (λ (last : List ℕ). IsBelowInternal g.K.KeyOrder.cmp last pair.key)) (sym c.self.view_is) c.requires.rises) c.add_entry.ensures.kept

pub invariant_of-self-2 : goal.invariant_of-self-2
invariant_of-self-2 g c =
    let b = c.self.inside in
    let pair : Pair = record { key = c.args.key.now; value = c.args.value.now } in
    kept_pushed g.K.KeyOrder.cmp g.met.K.KeyOrder.total b.offset b.index b.block c.add_entry.new.block pair c.self.invariant
    (subst (λ (v : Building). ForSome (last_added v) (λ (last : List ℕ). IsBelowInternal g.K.KeyOrder.cmp last pair.key)) (sym c.self.view_is) c.requires.rises) c.add_entry.ensures.kept
