use Rattle.std.proofs.Common.{List, sym, subst}
use Rattle.ikey.specs.declared.entry.Entry.{Entry}
use Rattle.ikey.specs.Views.{AllUpTo}
use Rattle.memtables.proofs.Batches.{rising_differ, up_to_greatest}
use Rattle.memtables.proofs.Generations.{invariant_alone}
use Rattle.memtables.proofs.memory_tables.MemoryTables.of.Goals as goal

pub of-requires : goal.of-requires
of-requires g c = rising_differ 0 c.args.entries.now c.requires.rising

pub invariant_of-result : goal.invariant_of-result
invariant_of-result g c =
    invariant_alone _ c.args.last 0 c.new.result.entries c.new.ensures.empty
    (subst (λ (es : List Entry). AllUpTo c.args.last es) (sym c.in_ok-of.ensures) (up_to_greatest c.args.entries.now c.args.last c.requires.bounded))
    c.requires.fits
