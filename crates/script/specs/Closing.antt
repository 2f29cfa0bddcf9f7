-- An import, and the close behind it.
use Rattle.std.specs.Prelude.{ℕ, List, Option}
use Rattle.store.specs.Files.{Facts}
use Rattle.ikey.specs.Orders.{Order}
use Rattle.machine.specs.declared.command.Op.TheVariants.{Close}
use Rattle.machine.specs.declared.command.Answer.{Answer}
use Rattle.engine.specs.declared.session.Session.{Session}
use Rattle.engine.specs.Applied.{Applied}
use Rattle.script.specs.Importing.{ImportValues, EndsImport, TakesSome}

-- it came to an end
abbrev pub EndsClosed : {S K : Type 0} {g : _} → Order → (S → Facts) → ImportValues → Session S K g → Session S K g → Option (List ℕ) → Answer → ℕ → Type 0
EndsClosed {S} {K} {g} order facts how old new script outcome count = (between : Session S K g) × (closing : Answer)
    × EndsImport order facts how old between script outcome count × Applied order facts Close between new closing

-- or not
abbrev pub TakesClosed : {S K : Type 0} {g : _} → Order → (S → Facts) → ImportValues → Session S K g → Session S K g → Option (List ℕ) → Type 0
TakesClosed {S} {K} {g} order facts how old new script = (between : Session S K g) × (closing : Answer)
    × TakesSome order facts how old between script × Applied order facts Close between new closing
