use Rattle.std.proofs.Common.{◌≡◌, ◌++◌, ◌∷◌, List, [], None, refl, ap, ◌∙◌}
use Rattle.std.specs.FinMap.{insert}
use Rattle.store.specs.Files.{Disk, Creation, with_synced}
use Rattle.store.specs.MemStore.{files_of, synced_of}
use Rattle.store.specs.MemFile.{synced_bytes}
use Rattle.store.specs.declared.mem_file.MemFile.{MemFile}
use Rattle.store.specs.declared.past.Past.{Past}
use Rattle.store.specs.declared.past.Past.TheVariants.{Made}
use Rattle.store.proofs.Undoing.{notes_change, made_back}
use Rattle.store.proofs.memory.MemStoreStore.create.Goals as goal

pub returns-clause-calls : goal.returns-clause-calls
returns-clause-calls c =
    let name = c.args.name.now in
    let k = c.in_ok-known.known in
    let held = c.in_ok-held.held in
    let old = c.args.self.now.files.entries in
    let made : files_of c.put.new.files.entries ≡ insert (files_of old) name [] = c.in_ok-held.ensures.ok ∙ ap (λ (v : MemFile). insert (files_of old) name v.bytes) c.new.ensures in
    let kept : synced_of c.put.new.files.entries ≡ with_synced (synced_of old) name None = c.in_ok-held.ensures.synced ∙ ap (λ (v : MemFile). with_synced (synced_of old) name (synced_bytes v)) c.new.ensures in
    let found : Disk = record { files = files_of old; synced = synced_of old } in
    let now : Disk = record { files = files_of c.put.new.files.entries; synced = synced_of c.put.new.files.entries } in
    notes_change _ _ _ c.args.self.now.past.items c.keep.new.past.items (Made k held) (Creation name) refl refl
    (c.keep.ensures ∙ ap (λ (l : List Past). l ++ Made k held ∷ []) c.in_ok-known.ensures.past)
    (made_back k held found now name c.in_ok-known.ensures.name made kept c.in_ok-held.ensures.held)
    (ap Creation c.in_ok-known.ensures.name) made
