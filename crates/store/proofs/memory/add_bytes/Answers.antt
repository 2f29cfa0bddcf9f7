use Rattle.std.proofs.Common.{◌≡◌, ◌++◌, Some, length, sym, ap, ◌∙◌, rules}
use Rattle.std.specs.FinMap.{insert}
use Rattle.store.specs.Files.{with_synced}
use Rattle.store.specs.MemStore.{files_of, synced_of}
use Rattle.store.specs.MemFile.{synced_bytes}
use Rattle.store.specs.declared.mem_file.MemFile.{MemFile}
use Rattle.store.proofs.MemFiles.{synced-change, synced-found, synced_same, files-write, insert_same, get-found, get-missed, found_apart}
use Rattle.store.proofs.Outcomes.{on_err}
use Rattle.store.proofs.memory.add_bytes.Goals as goal

pub returns-in-None-clause-ok : goal.returns-in-None-clause-ok
returns-in-None-clause-ok c = λ before at. found_apart _ before at (get-missed c.args.files.now c.args.name.now (sym c.in-None.ensures.value))

pub returns-in_ok-append-in-Some-clause-ok : goal.returns-in_ok-append-in-Some-clause-ok
returns-in_ok-append-in-Some-clause-ok c = λ before at.
    let m = c.args.files.now in
    let name = c.args.name.now in
    let file = c.in-Some.file.now in
    let found = get-found m name file (sym c.in-Some.ensures.value) in
    let same : file.bytes ≡ before = (cc) in (
      ap length c.bytes-count.ensures ∙ ap length same,
      files-write name _ m (c.get_mut.follows.lender c.append.new.self) c.append.new.self (ap (λ (v : MemFile). v.bytes) c.in_ok-append-in-Some.ensures.ok) ((c.get_mut.follows.holds c.append.new.self).3 (search rules))
          ∙ ap (λ b. insert (files_of m.entries) name (b ++ c.args.bytes.now)) same,
    )

pub returns-in_err-append-in-Some-clause-err : goal.returns-in_err-append-in-Some-clause-err
returns-in_err-append-in-Some-clause-err c =
    let at = get-found c.args.files.now c.args.name.now c.in-Some.file.now (sym c.in-Some.ensures.value) in
    on_err c.from_residual.result
    (files-write c.args.name.now c.in-Some.file.now.bytes c.args.files.now (c.get_mut.follows.lender c.append.new.self) c.append.new.self (ap (λ (v : MemFile). v.bytes) c.in_err-append-in-Some.ensures.err) ((c.get_mut.follows.holds c.append.new.self).3 (search rules))
    ∙ insert_same _ _ _ at)

pub returns-in_err-append-in-Some-clause-synced : goal.returns-in_err-append-in-Some-clause-synced
returns-in_err-append-in-Some-clause-synced c =
    let synced = synced_of c.args.files.now.entries in
    synced-change c.args.name.now c.args.files.now (c.get_mut.follows.lender c.append.new.self) (Some c.append.new.self) ((c.get_mut.follows.holds c.append.new.self).3 (search rules))
    ∙ ap (with_synced synced c.args.name.now) c.append.ensures.synced
    ∙ synced_same synced c.args.name.now (synced_bytes c.in-Some.file.now) (synced-found c.args.files.now c.args.name.now c.in-Some.file.now (sym c.in-Some.ensures.value))

pub returns-in_ok-append-in-Some-clause-synced : goal.returns-in_ok-append-in-Some-clause-synced
returns-in_ok-append-in-Some-clause-synced c =
    let synced = synced_of c.args.files.now.entries in
    synced-change c.args.name.now c.args.files.now (c.get_mut.follows.lender c.append.new.self) (Some c.append.new.self) ((c.get_mut.follows.holds c.append.new.self).3 (search rules))
    ∙ ap (with_synced synced c.args.name.now) c.append.ensures.synced
    ∙ synced_same synced c.args.name.now (synced_bytes c.in-Some.file.now) (synced-found c.args.files.now c.args.name.now c.in-Some.file.now (sym c.in-Some.ensures.value))
