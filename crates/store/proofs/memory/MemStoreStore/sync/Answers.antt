use Rattle.std.proofs.Common.{◌++◌, ◌∷◌, List, [], ap, ◌∙◌, refl, sym}
use Rattle.std.specs.FinMap.{get}
use Rattle.store.specs.Files.{Disk, Sync}
use Rattle.store.specs.MemStore.{files_of, synced_of}
use Rattle.store.specs.declared.past.Past.{Past}
use Rattle.store.specs.declared.past.Past.TheVariants.{Kept}
use Rattle.store.proofs.MemFiles.{is_some-files_of, some_with, present_apart}
use Rattle.store.proofs.Undoing.{notes_sync, kept_back}
use Rattle.store.proofs.memory.MemStoreStore.sync.Goals as goal

pub returns-clause-present : goal.returns-clause-present
returns-clause-present c = λ _. is_some-files_of c.args.self.now.files c.args.name.now ∙ sym c.if-not-contains_key.ensures

pub returns-clause-absent : goal.returns-clause-absent
returns-clause-absent c = λ _ none. present_apart _ (is_some-files_of c.args.self.now.files c.args.name.now ∙ sym c.if-not-contains_key.ensures) none

pub returns-clause-calls : goal.returns-clause-calls
returns-clause-calls c =
    let name = c.args.name.now in
    let old = c.args.self.now.files.entries in
    let new = c.sync_file-count.new.files.entries in
    let k = c.in-Ok.known in
    let count = c.sync_file-count.result in
    let there = some_with (get (files_of old) name) (is_some-files_of c.args.self.now.files name ∙ sym c.if-not-contains_key.ensures) in
    let found : Disk = record { files = files_of old; synced = synced_of old } in
    let now : Disk = record { files = files_of new; synced = synced_of new } in
    notes_sync _ _ _ c.args.self.now.past.items c.keep.new.past.items (Kept k count) (Sync name) refl refl
    (c.keep.ensures ∙ ap (λ (l : List Past). l ++ Kept k count ∷ []) c.in-Ok.ensures.past)
    (kept_back k count found now name there.0 (get (files_of old) name) c.in-Ok.ensures.name there.1 c.sync_file-count.ensures.files c.sync_file-count.ensures.synced (c.sync_file-count.ensures.count there.0 there.1))
    (ap Sync c.in-Ok.ensures.name) c.sync_file-count.ensures.files
