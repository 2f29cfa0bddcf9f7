use Rattle.std.proofs.Common.{◌++◌, ◌∷◌, List, [], Some, None, is_some, ap, ◌∙◌, refl, sym}
use Rattle.store.specs.Files.{Disk, Removal}
use Rattle.store.specs.MemStore.{files_of, synced_of}
use Rattle.store.specs.declared.past.Past.{Past}
use Rattle.store.specs.declared.past.Past.TheVariants.{Taken}
use Rattle.store.proofs.MemFiles.{synced-change, files-remove, get-found, found_apart, held_at}
use Rattle.store.proofs.Outcomes.{changed, changed_synced}
use Rattle.store.proofs.Undoing.{notes_change, taken_back}
use Rattle.store.proofs.memory.MemStoreStore.remove.Goals as goal

pub returns-clause-files : goal.returns-clause-files
returns-clause-files c = changed _ _ _ _ _ (
  ap is_some (get-found c.args.self.now.files c.args.name.now c.in-Some.file (sym c.in-Some.ensures.value)),
  files-remove c.args.name.now c.args.self.now.files c.remove.new.self c.remove.ensures.updates,
)

pub returns-clause-absent : goal.returns-clause-absent
returns-clause-absent c = λ _ none. found_apart _ _ (get-found c.args.self.now.files c.args.name.now c.in-Some.file (sym c.in-Some.ensures.value)) none

pub returns-clause-synced : goal.returns-clause-synced
returns-clause-synced c = changed_synced _ _ _ _ _ (synced-change c.args.name.now c.args.self.now.files c.remove.new.self None c.remove.ensures.updates)

pub returns-clause-calls : goal.returns-clause-calls
returns-clause-calls c =
    let name = c.args.name.now in
    let m = c.args.self.now.files in
    let n = c.remove.new.self in
    let k = c.in-Ok.known in
    let file = c.in-Some.file in
    let gone = files-remove name m n c.remove.ensures.updates in
    let kept = synced-change name m n None c.remove.ensures.updates in
    let found : Disk = record { files = files_of m.entries; synced = synced_of m.entries } in
    let now : Disk = record { files = files_of n.entries; synced = synced_of n.entries } in
    notes_change _ _ _ c.args.self.now.past.items c.keep.new.past.items (Taken k file) (Removal name) refl refl
    (c.keep.ensures ∙ ap (λ (l : List Past). l ++ Taken k file ∷ []) c.in-Ok.ensures.past)
    (taken_back k file found now name c.in-Ok.ensures.name gone kept (held_at m name (Some file) c.in-Some.ensures.value))
    (ap Removal c.in-Ok.ensures.name)
    (ap is_some (get-found m name file (sym c.in-Some.ensures.value)), gone)
