use Rattle.std.proofs.Common.{◌≡◌, Some, None, sym, ap, ◌∙◌, rules}
use Rattle.std.specs.FinMap.{get, insert}
use Rattle.store.specs.Files.{Files, Synced, with_synced}
use Rattle.store.specs.MemStore.{files_of, synced_of}
use Rattle.store.specs.MemFile.{synced_bytes}
use Rattle.store.specs.declared.mem_file.MemFile.{MemFile}
use Rattle.store.proofs.MemFiles.{synced-change, synced-found, synced-missed, files-remove, files-write, get-found, get-missed, found_apart, present_apart, get-remove_other, synced_other}
use Rattle.store.proofs.memory.move_file.Goals as goal

pub returns-in_default-clause-moved : goal.returns-in_default-clause-moved
returns-in_default-clause-moved c = λ bytes at _ _. found_apart _ bytes at (get-missed c.args.files.now c.args.from.now (sym c.in_default.ensures.value))

pub returns-in_default-clause-synced : goal.returns-in_default-clause-synced
returns-in_default-clause-synced c = λ present _ _. present_apart _ present (get-missed c.args.files.now c.args.from.now (sym c.in_default.ensures.value))

pub returns-in_default-clause-held : goal.returns-in_default-clause-held
returns-in_default-clause-held c = λ present _. present_apart _ present (get-missed c.args.files.now c.args.from.now (sym c.in_default.ensures.value))

pub returns-in-Some-get_mut-clause-moved : goal.returns-in-Some-get_mut-clause-moved
returns-in-Some-get_mut-clause-moved c = λ bytes at _ _.
    let before = c.args.files.now in
    let file = c.in-Some.file in
    let new = c.replace.new.dest in
    let found = get-found before c.args.from.now file (sym c.in-Some.ensures.value) in
    let same : file.bytes ≡ bytes = (cc) in
    files-write c.args.to.now bytes c.remove.new.self (c.get_mut.follows.lender new) new (ap (λ (v : MemFile). v.bytes) c.replace.ensures.after ∙ same) ((c.get_mut.follows.holds new).3 (search rules))
    ∙ ap (λ x. insert x c.args.to.now bytes) (files-remove c.args.from.now before c.remove.new.self c.remove.ensures.updates)

pub returns-in-Some-get_mut-clause-synced : goal.returns-in-Some-get_mut-clause-synced
returns-in-Some-get_mut-clause-synced c = λ _ _ _.
    let before = c.args.files.now in
    let file = c.in-Some.file in
    let new = c.replace.new.dest in
    let synced = synced_of before.entries in
    let taken = synced-change c.args.from.now before c.remove.new.self None c.remove.ensures.updates in
    synced-change c.args.to.now c.remove.new.self (c.get_mut.follows.lender new) (Some new) ((c.get_mut.follows.holds new).3 (search rules))
    ∙ ap (λ (s : Synced). with_synced s c.args.to.now (synced_bytes new)) taken
    ∙ ap (with_synced (with_synced synced c.args.from.now None) c.args.to.now) (ap (λ (v : MemFile). synced_bytes v) c.replace.ensures.after ∙ sym (synced-found before c.args.from.now file (sym c.in-Some.ensures.value)))

pub returns-in-Some-get_mut-clause-held : goal.returns-in-Some-get_mut-clause-held
returns-in-Some-get_mut-clause-held c = λ _ apart.
    let before = c.args.files.now in
    let from = c.args.from.now in
    let to = c.args.to.now in
    let mid = c.remove.new.self in
    let is = sym c.in-Some-get_mut.ensures.value in (
      sym (get-remove_other (files_of before.entries) from to apart)
          ∙ ap (λ (x : Files). get x to) (sym (files-remove from before mid c.remove.ensures.updates))
          ∙ get-found mid to c.in-Some-get_mut.place.now is
          ∙ ap (λ (v : MemFile). Some v.bytes) (sym c.replace.ensures.value),
      synced_other before mid from to apart c.remove.ensures.updates
          ∙ synced-found mid to c.in-Some-get_mut.place.now is
          ∙ ap (λ (v : MemFile). synced_bytes v) (sym c.replace.ensures.value),
    )

pub returns-clause-moved : goal.returns-clause-moved
returns-clause-moved c = λ bytes _ present apart.
    let before = files_of c.args.files.now.entries in
    present_apart (get before c.args.to.now) present
    (sym (get-remove_other before c.args.from.now c.args.to.now apart)
    ∙ ap (λ (x : Files). get x c.args.to.now) (sym (files-remove c.args.from.now c.args.files.now c.remove.new.self c.remove.ensures.updates))
    ∙ get-missed c.remove.new.self c.args.to.now (sym c.in_default-get_mut.ensures.value))

pub returns-clause-synced : goal.returns-clause-synced
returns-clause-synced c = λ _ present apart.
    let before = files_of c.args.files.now.entries in
    present_apart (get before c.args.to.now) present
    (sym (get-remove_other before c.args.from.now c.args.to.now apart)
    ∙ ap (λ (x : Files). get x c.args.to.now) (sym (files-remove c.args.from.now c.args.files.now c.remove.new.self c.remove.ensures.updates))
    ∙ get-missed c.remove.new.self c.args.to.now (sym c.in_default-get_mut.ensures.value))

pub returns-clause-held : goal.returns-clause-held
returns-clause-held c = λ _ apart.
    let before = c.args.files.now in
    let from = c.args.from.now in
    let to = c.args.to.now in
    let mid = c.remove.new.self in
    let is = sym c.in_default-get_mut.ensures.value in (
      sym (get-remove_other (files_of before.entries) from to apart)
          ∙ ap (λ (x : Files). get x to) (sym (files-remove from before mid c.remove.ensures.updates))
          ∙ get-missed mid to is,
      synced_other before mid from to apart c.remove.ensures.updates ∙ synced-missed mid to is,
    )
