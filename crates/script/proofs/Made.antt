-- Commands that are made of what was read.
use Rattle.std.proofs.Common.{◌≡◌, ℕ, List, sym}
use Rattle.std.specs.Prelude.{Option, Some, None, MatchOption, IsSomeAnd}
use Rattle.std.proofs.lemmas.Option.{none-some}
use Rattle.machine.specs.declared.command.Op.{Op}
use Rattle.machine.specs.declared.command.Op.TheVariants as op
use Rattle.script.specs.declared.verb.Verb.TheVariants as verb
use Rattle.script.specs.Words.{Reads}
use Rattle.script.specs.Script.{Spells, IsNumberAlone, TakesNumber, AreSnapshot}

made : {A : Type 0} (make : A → Op) (P : A → Type 0) (read : Option A) (mapped : Option Op) → Reads P read
    → MatchOption read (mapped ≡ None) (λ x. IsSomeAnd mapped (λ command. command ≡ make x)) → Reads (λ command. (x : A) × P x × (command ≡ make x)) mapped
made make P None None reads cases = λ command s. reads s.0 s.1
made make P None (Some command) reads cases = absurd (none-some command (sym cases))
made make P (Some x) None reads cases = absurd cases
made make P (Some x) (Some command) reads cases = (x, reads, cases)

pub made_of_number : (bits : ℕ) (make : ℕ → Op) (words : List (List ℕ)) (read : Option ℕ) (mapped : Option Op) → Reads (IsNumberAlone bits words) read
    → MatchOption read (mapped ≡ None) (λ number. IsSomeAnd mapped (λ command. command ≡ make number)) → Reads (TakesNumber bits words make) mapped
made_of_number bits make words read mapped reads cases = made make (IsNumberAlone bits words) read mapped reads cases

pub made_of_snapshot : (words : List (List ℕ)) (read : Option (Option ℕ)) (mapped : Option Op) → Reads (AreSnapshot words) read
    → MatchOption read (mapped ≡ None) (λ snapshot. IsSomeAnd mapped (λ command. command ≡ op.Iterate snapshot)) → Reads (Spells verb.Iter words) mapped
made_of_snapshot words read mapped reads cases = made op.Iterate (AreSnapshot words) read mapped reads cases
