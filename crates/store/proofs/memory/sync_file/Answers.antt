use Rattle.std.proofs.Common.{◌≡◌, Some, length, sym, ap, ◌∙◌, rules, arith}
use Rattle.std.proofs.lemmas.List.{take_all}
use Rattle.std.specs.FinMap.{get}
use Rattle.store.specs.Files.{with_synced}
use Rattle.store.specs.MemFile.{front_of, synced_bytes}
use Rattle.store.specs.MemStore.{files_of, synced_of}
use Rattle.store.specs.declared.mem_file.MemFile.{MemFile}
use Rattle.store.proofs.MemFiles.{files-write, insert_same, get-found, get-missed, found_apart, synced-change, synced-found, synced-missed, synced_same}
use Rattle.store.proofs.memory.sync_file.Goals as goal

pub returns-in-None-clause-synced : goal.returns-in-None-clause-synced
returns-in-None-clause-synced c =
    let none = sym c.in-None.ensures.value in
    let same : synced_of c.get_mut.follows.lender-at-none.entries ≡ synced_of c.args.files.now.entries = search rules in
    same ∙ sym (synced_same (synced_of c.args.files.now.entries) c.args.name.now (get (files_of c.args.files.now.entries) c.args.name.now) (synced-missed c.args.files.now c.args.name.now none ∙ sym (get-missed c.args.files.now c.args.name.now none)))

pub returns-in-None-clause-count : goal.returns-in-None-clause-count
returns-in-None-clause-count c = λ bytes at. found_apart _ bytes at (get-missed c.args.files.now c.args.name.now (sym c.in-None.ensures.value))

pub returns-in-Some-clause-files : goal.returns-in-Some-clause-files
returns-in-Some-clause-files c =
    let at = get-found c.args.files.now c.args.name.now c.in-Some.file.now (sym c.in-Some.ensures.value) in
    files-write c.args.name.now c.in-Some.file.now.bytes c.args.files.now (c.get_mut.follows.lender c.sync.new.self) c.sync.new.self (ap (λ (v : MemFile). v.bytes) c.sync.ensures) ((c.get_mut.follows.holds c.sync.new.self).3 (search rules))
    ∙ insert_same _ _ _ at

pub returns-in-Some-clause-synced : goal.returns-in-Some-clause-synced
returns-in-Some-clause-synced c =
    let at = get-found c.args.files.now c.args.name.now c.in-Some.file.now (sym c.in-Some.ensures.value) in
    let synced = synced_of c.args.files.now.entries in
    synced-change c.args.name.now c.args.files.now (c.get_mut.follows.lender c.sync.new.self) (Some c.sync.new.self) ((c.get_mut.follows.holds c.sync.new.self).3 (search rules))
    ∙ ap (λ (v : MemFile). with_synced synced c.args.name.now (synced_bytes v)) c.sync.ensures
    ∙ ap (with_synced synced c.args.name.now) (ap Some (take_all (length c.in-Some.file.now.bytes) c.in-Some.file.now.bytes (omega arith)) ∙ sym at)

pub returns-in-Some-clause-count : goal.returns-in-Some-clause-count
returns-in-Some-clause-count c = λ bytes at.
    let m = c.args.files.now in
    let name = c.args.name.now in
    let file = c.in-Some.file.now in
    let is = sym c.in-Some.ensures.value in
    let found = get-found m name file is in
    let same : file.bytes ≡ bytes = (cc) in
    synced-found m name file is ∙ ap (front_of file.bytes) c.synced_length-count.ensures ∙ ap (λ b. front_of b c.synced_length-count.result) same
