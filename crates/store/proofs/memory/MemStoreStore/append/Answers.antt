use Rattle.std.proofs.Common.{◌≡◌, ◌++◌, ◌∷◌, List, [], ap, ◌∙◌, refl, sym}
use Rattle.std.specs.FinMap.{get}
use Rattle.store.specs.Files.{Disk}
use Rattle.store.specs.MemStore.{files_of, synced_of}
use Rattle.store.specs.declared.past.Past.{Past}
use Rattle.store.specs.declared.past.Past.TheVariants.{Grown}
use Rattle.store.proofs.MemFiles.{is_some-files_of, some_with, present_apart}
use Rattle.store.proofs.Outcomes.{changed}
use Rattle.store.proofs.Undoing.{notes_append, appends_none, grown_back, grown_change}
use Rattle.store.proofs.memory.MemStoreStore.append.Goals as goal

pub returns-in_err-known-clause-absent : goal.returns-in_err-known-clause-absent
returns-in_err-known-clause-absent c = λ _ none. present_apart _ (is_some-files_of c.args.self.now.files c.args.name.now ∙ sym c.if-not-contains_key.ensures) none

pub returns-in_err-length-clause-absent : goal.returns-in_err-length-clause-absent
returns-in_err-length-clause-absent c = λ _ none. present_apart _ (is_some-files_of c.args.self.now.files c.args.name.now ∙ sym c.if-not-contains_key.ensures) none

pub returns-in_err-length-clause-calls : goal.returns-in_err-length-clause-calls
returns-in_err-length-clause-calls c = appends_none _ _ _ c.args.self.now.past.items c.room_for.new.past.items _ _ refl refl c.in_ok-known.ensures.past
    (λ i. record { files = c.in_err-length.ensures.err i; synced = c.add_bytes.ensures.synced i })

pub returns-clause-absent : goal.returns-clause-absent
returns-clause-absent c = λ _ none. present_apart _ (is_some-files_of c.args.self.now.files c.args.name.now ∙ sym c.if-not-contains_key.ensures) none

pub returns-clause-files : goal.returns-clause-files
returns-clause-files c =
    let there = some_with (get (files_of c.args.self.now.files.entries) c.args.name.now) (is_some-files_of c.args.self.now.files c.args.name.now ∙ sym c.if-not-contains_key.ensures) in
    changed _ _ _ _ _ (there.0, there.1, (c.in_ok-length.ensures.ok there.0 there.1).1)

pub returns-clause-calls : goal.returns-clause-calls
returns-clause-calls c =
    let name = c.args.name.now in
    let bytes = c.args.bytes.now in
    let old = c.args.self.now.files.entries in
    let new = c.add_bytes.new.files.entries in
    let k = c.in_ok-known.known in
    let count = c.in_ok-length.length in
    let there = some_with (get (files_of old) name) (is_some-files_of c.args.self.now.files name ∙ sym c.if-not-contains_key.ensures) in
    let before = there.0 in
    let grown = c.in_ok-length.ensures.ok before there.1 in
    let kept : synced_of new ≡ synced_of old = c.add_bytes.ensures.synced in
    let found : Disk = record { files = files_of old; synced = synced_of old } in
    let now : Disk = record { files = files_of new; synced = synced_of new } in
    notes_append _ _ _ c.args.self.now.past.items c.keep.new.past.items (Grown k count) name bytes refl refl
    (c.keep.ensures ∙ ap (λ (l : List Past). l ++ Grown k count ∷ []) c.in_ok-known.ensures.past)
    (grown_back k count found now name before bytes c.in_ok-known.ensures.name grown.0 there.1 grown.1 kept)
    (grown_change k count found now name before bytes c.in_ok-known.ensures.name grown.0 grown.1)
    (before, there.1, grown.1)
