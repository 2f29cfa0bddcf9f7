use Rattle.std.proofs.Common.{◌++◌, ◌∷◌, List, [], ap, ◌∙◌, refl}
use Rattle.store.specs.Files.{Disk, LockFile}
use Rattle.store.specs.MemStore.{files_of, synced_of}
use Rattle.store.specs.declared.past.Past.{Past}
use Rattle.store.specs.declared.past.Past.TheVariants.{Locked}
use Rattle.store.proofs.MemFiles.{made_not, made_new, none_of_missing}
use Rattle.store.proofs.Undoing.{notes_change, notes_none, locked_back}
use Rattle.store.proofs.memory.MemStore.make_lock_file.Goals as goal

pub returns-then-not-made-clause-calls : goal.returns-then-not-made-clause-calls
returns-then-not-made-clause-calls c =
    let made = c.in_ok-made.ensures in
    notes_none _ _ _ c.args.self.now.past.items c.make_room.new.past.items LockFile refl refl c.make_room.ensures.past
    (λ i. record { files = made_not _ _ _ c.in_ok-made.made c.if-not-made.true made.made made.ok i; synced = made.synced i })

pub returns-clause-calls : goal.returns-clause-calls
returns-clause-calls c =
    let made = c.in_ok-made.ensures in
    let old = c.args.self.now.files.entries in
    let new = c.make_if_missing.new.files.entries in
    let found : Disk = record { files = files_of old; synced = synced_of old } in
    let now : Disk = record { files = files_of new; synced = synced_of new } in
    notes_change _ _ _ c.args.self.now.past.items c.keep.new.past.items Locked LockFile refl refl
    (c.keep.ensures ∙ ap (λ (p : List Past). p ++ Locked ∷ []) c.make_room.ensures.past)
    (locked_back found now (none_of_missing _ _ c.in_ok-made.made c.if-not-made.false made.made) (made_new _ _ _ c.in_ok-made.made c.if-not-made.false made.made made.ok) made.synced)
    refl made.ok
