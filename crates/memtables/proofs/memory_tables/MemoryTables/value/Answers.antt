use Rattle.std.proofs.Common.{ap, sym, subst, ◌≡◌, ◌∙◌, Option, Some, List, ℕ}
use Rattle.std.specs.Option.{option_copied}
use Rattle.ikey.specs.declared.entry.Entry.{Entry}
use Rattle.ikey.specs.Sources.{IsAnswer}
use Rattle.ikey.specs.Views.{IsUnseen}
use Rattle.memtables.specs.Memories.{Memories, sealed_inserts, inserts_of}
use Rattle.memtables.proofs.Searching.{found_behind, found_either_way, found_in_front, if_ok_more}
use Rattle.memtables.proofs.memory_tables.MemoryTables.value.Goals as goal

pub returns-in-Some : goal.returns-in-Some
returns-in-Some g c =
    let m = c.args.self.now in
    found_either_way m.current.inserts (sealed_inserts m) c.args.sequence c.args.key.now (Some c.in-Some.found)
    (found_in_front c.newest_in_front.ensures m.current.inserts (sealed_inserts m) c.args.sequence c.args.key.now c.in-Some.found c.are_bounded.ensures.newer
    (subst (λ (s : Memories). IsAnswer s.current.inserts c.args.sequence c.args.key.now (Some c.in-Some.found)) c.self.view_is
    (subst (λ (a : Option (Option (List ℕ))). IsAnswer c.self.inside.current.inserts c.args.sequence c.args.key.now a) c.in-Some.is c.in_ok-found.ensures)))

pub returns-in-Some-sealed : goal.returns-in-Some-sealed
returns-in-Some-sealed g c =
    let m = c.args.self.now in
    let there : sealed_inserts m ≡ c.in-Some-sealed.table.now.inserts = ap inserts_of (sym c.sealed.ensures) ∙ ap (λ r. inserts_of (option_copied r)) c.in-Some-sealed.is in
    if_ok_more c.value_in-in-Some-sealed.result (λ answer. IsAnswer c.in-Some-sealed.table.now.inserts c.args.sequence c.args.key.now answer) _
    (λ answer h. found_either_way m.current.inserts (sealed_inserts m) c.args.sequence c.args.key.now answer
    (found_behind c.unseen_in_front.ensures m.current.inserts (sealed_inserts m) c.args.sequence c.args.key.now answer
    (subst (λ (s : Memories). IsUnseen s.current.inserts c.args.sequence c.args.key.now) c.self.view_is
    (subst (λ (a : Option (Option (List ℕ))). IsAnswer c.self.inside.current.inserts c.args.sequence c.args.key.now a) c.in_default.is c.in_ok-found.ensures))
    (subst (λ (es : List Entry). IsAnswer es c.args.sequence c.args.key.now answer) (sym there) h)))
    c.value_in-in-Some-sealed.ensures
