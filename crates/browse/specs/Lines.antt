-- What a script reads in the line that puts a pair.
use Rattle.std.specs.Prelude.{◌↔◌, ◌<◌, ℕ, false, List, [], ◌∷◌, All}
use Rattle.batch.specs.declared.operation.Operation.TheVariants.{Put}
use Rattle.machine.specs.declared.command.Op.{Op}
use Rattle.script.specs.Script.{IsWrite, Says}
use Rattle.browse.specs.declared.style.Style.TheVariants.{Puts}
use Rattle.browse.specs.Forms.{line_in}

-- The line says the batch of this one put, which the device needn't keep at once, and nothing else.
abbrev pub PutLaw : Type 0
PutLaw = (key value : List ℕ) → All (λ byte. byte < 256) key → All (λ byte. byte < 256) value
    → (command : Op) → Says (line_in Puts (key, value)) command ↔ IsWrite (Put key value ∷ []) false command
