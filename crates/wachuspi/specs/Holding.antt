-- What C holds owns: nothing, or a box by its pointer.
use mir.Syntax.{Ty}
use base.Fml.{Fml, ftrue}
use denote.RattleType.{RattleType}
use denote.RawPtr.{Ptr}
use Rattle.core.specs.declared.option.Option.{Option}
use Rattle.core.specs.declared.option.Option.TheVariants.{None, Some}
use Rattle.std.specs.contracts.impls.GlobalAllocator.TheImpl.{ghosts}
use Rattle.std_alloc.specs.Box.Ownership.{box_owns}

-- the right to free a block that `Global` gave
abbrev pub may_free : Ty → Ptr → Fml
may_free = ghosts.dealloc_token (record { memory = record { seal = tt } })

-- where nothing is held, the pointer may be any
abbrev pub holds : (R : RattleType) → Ptr → Option R.Denot → Fml
holds R p None = ftrue
holds R p (Some x) = box_owns may_free R p x
