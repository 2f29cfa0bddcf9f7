-- Words for what is said of a command in a session.
use Rattle.std.specs.Prelude.{ℕ, Option, List}
use Rattle.store.specs.Files.{Facts}
use Rattle.ikey.specs.Orders.{Order}
use Rattle.machine.specs.declared.command.Answer.{Answer}
use Rattle.engine.specs.OpenDb.{OpenDb}
use Rattle.engine.specs.Stands.{StandsWholeIn, store_of, open_in, seen_in}
use Rattle.engine.specs.declared.session.Session.{Session}
use Rattle.engine.specs.Touching.{LeavesStore}
use Rattle.engine.specs.Telling.{OpenTells}
use Rattle.engine.specs.Opened.{OpenedTidy}
use Rattle.engine.specs.Applied.{CompactsWhole, EmptiesLevel, IsRead, LeavesOnly, LevelIn, ShowsWork, WorksIn}

abbrev pub Left : {K : Type 0} {g : _} → Option (OpenDb K g) → Facts → Facts → Answer → Type 0
Left state old new answer = LeavesStore old new

abbrev pub OpenTold : {S K : Type 0} {g : _} → Order → (S → Facts) → Session S K g → Session S K g → Answer → Type 0
OpenTold order facts old new answer = OpenTells order (open_in old) (facts (store_of old)) (facts (store_of new)) answer

abbrev pub ReadBy : {S K : Type 0} {g : _} → List ℕ → Option ℕ → Session S K g → Answer → Type 0
ReadBy key snapshot old answer = IsRead key snapshot (open_in old) answer

abbrev pub WorkShown : {S K : Type 0} {g : _} → Session S K g → Answer → Type 0
WorkShown old answer = ShowsWork old.options (open_in old) answer

abbrev pub WorkDone : {S K : Type 0} {g : _} → Order → (S → Facts) → ℕ → Session S K g → Session S K g → Answer → Type 0
WorkDone order facts budget old new answer = WorksIn order old.options budget (seen_in facts old) (seen_in facts new) (open_in old) (open_in new) answer

abbrev pub OpenDone : {S K : Type 0} {g : _} → (S → Facts) → Session S K g → Session S K g → Answer → Type 0
OpenDone facts old new answer = OpenedTidy (seen_in facts old) (seen_in facts new) (open_in new) answer

abbrev pub LevelDone : {S K : Type 0} {g : _} → Order → (S → Facts) → ℕ → Session S K g → Session S K g → Answer → Type 0
LevelDone order facts level old new answer = LevelIn order level (seen_in facts old) (seen_in facts new) (open_in old) (open_in new) answer

abbrev pub IsEmptied : {S K : Type 0} {g : _} → ℕ → Session S K g → Answer → Type 0
IsEmptied level new answer = EmptiesLevel level (open_in new) answer

abbrev pub IsCompacted : {S K : Type 0} {g : _} → Session S K g → Answer → Type 0
IsCompacted new answer = CompactsWhole (open_in new) answer

abbrev pub IsOnlyNeeded : {S K : Type 0} {g : _} → Order → (S → Facts) → Session S K g → Session S K g → Answer → Type 0
IsOnlyNeeded order facts old new answer = LeavesOnly order (facts (store_of new)) (StandsWholeIn order facts old) (open_in new) answer
