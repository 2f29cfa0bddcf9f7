use Rattle.std.proofs.Common.{◌≡◌, ◌++◌, ◌∷◌, sym, ap, ◌∙◌, refl, subst, true, is_some, List, [], ℕ, Some, None, cond, Option}
use Rattle.std.specs.FinMap.{get, insert, remove}
use Rattle.store.specs.Files.{Files, Synced, Disk, Move, Renames, renamed}
use Rattle.store.specs.MemStore.{files_of, synced_of}
use Rattle.store.specs.Past.{Holds}
use Rattle.store.specs.declared.mem_file.MemFile.{MemFile}
use Rattle.store.specs.declared.past.Past.{Past}
use Rattle.store.specs.declared.past.Past.TheVariants.{Moved}
use Rattle.store.proofs.MemFiles.{synced_itself, made_there, made_still, is_some-files_of, apart_eq, same_eq, present_apart, renames_itself, renames_other, held_unless}
use Rattle.store.proofs.Outcomes.{changed, changed_synced}
use Rattle.store.proofs.Undoing.{notes_change, moved_back}
use Rattle.store.proofs.memory.MemStoreStore.rename.Goals as goal

pub returns-then-eq-clause-files : goal.returns-then-eq-clause-files
returns-then-eq-clause-files c =
    changed _ _ _ _ _ (renames_itself _ c.args.from.now c.args.to.now
    (is_some-files_of c.args.self.now.files c.args.from.now ∙ sym c.if-not-contains_key.ensures)
    (same_eq _ _ c.if-eq.ensures))

pub returns-then-eq-clause-synced : goal.returns-then-eq-clause-synced
returns-then-eq-clause-synced c = changed_synced _ _ _ _ _ (synced_itself _ c.args.from.now c.args.to.now (same_eq _ _ c.if-eq.ensures))

pub returns-then-eq-clause-absent : goal.returns-then-eq-clause-absent
returns-then-eq-clause-absent c = λ _ none. present_apart _ (is_some-files_of c.args.self.now.files c.args.from.now ∙ sym c.if-not-contains_key.ensures) none

pub returns-in_err-known-clause-absent : goal.returns-in_err-known-clause-absent
returns-in_err-known-clause-absent c = λ _ none. present_apart _ (is_some-files_of c.args.self.now.files c.args.from.now ∙ sym c.if-not-contains_key.ensures) none

pub returns-in_err-known_to-clause-absent : goal.returns-in_err-known_to-clause-absent
returns-in_err-known_to-clause-absent c = λ _ none. present_apart _ (is_some-files_of c.args.self.now.files c.args.from.now ∙ sym c.if-not-contains_key.ensures) none

pub returns-in_err-made-clause-absent : goal.returns-in_err-made-clause-absent
returns-in_err-made-clause-absent c = λ _ none. present_apart _ (is_some-files_of c.args.self.now.files c.args.from.now ∙ sym c.if-not-contains_key.ensures) none

pub returns-clause-absent : goal.returns-clause-absent
returns-clause-absent c = λ _ none. present_apart _ (is_some-files_of c.args.self.now.files c.args.from.now ∙ sym c.if-not-contains_key.ensures) none

pub returns-clause-files : goal.returns-clause-files
returns-clause-files c =
    let from = c.args.from.now in
    let to = c.args.to.now in
    let moved = files_of c.move_file-held.new.files.entries in
    changed _ _ _ _ _ (renames_other _ moved from to
    (is_some-files_of c.args.self.now.files from ∙ sym c.if-not-contains_key.ensures)
    (apart_eq _ _ c.if-eq.ensures)
    (subst (λ (made : Files). (bytes : List ℕ) → get made from ≡ Some bytes → is_some (get made to) ≡ true → (from ≡ to → ⊥) → moved ≡ insert (remove made from) to bytes) c.in_ok-made.ensures.ok c.move_file-held.ensures.moved))

pub returns-clause-synced : goal.returns-clause-synced
returns-clause-synced c =
    let from = c.args.from.now in
    let to = c.args.to.now in
    let files = files_of c.args.self.now.files.entries in
    let made = c.in_ok-made.ensures in
    let is_there = subst (λ (f : Files). is_some (get f from) ≡ true) (sym made.ok) (made_still files from to (is_some-files_of c.args.self.now.files from ∙ sym c.if-not-contains_key.ensures)) in
    let is_made = subst (λ (f : Files). is_some (get f to) ≡ true) (sym made.ok) (made_there files to) in
    changed_synced _ _ _ _ _ (c.move_file-held.ensures.synced is_there is_made (apart_eq _ _ c.if-eq.ensures) ∙ ap (λ (s : Synced). renamed s from to) made.synced)

pub returns-clause-calls : goal.returns-clause-calls
returns-clause-calls c =
    let from = c.args.from.now in
    let to = c.args.to.now in
    let m = c.args.self.now.files in
    let files = files_of m.entries in
    let synced = synced_of m.entries in
    let made = c.in_ok-made.ensures in
    let moved = files_of c.move_file-held.new.files.entries in
    let k = c.in_ok-known.known in
    let l = c.in_ok-known_to.known_to in
    let held = c.unless-held.result in
    let there = is_some-files_of m from ∙ sym c.if-not-contains_key.ensures in
    let apart = apart_eq _ _ c.if-eq.ensures in
    let is_there = subst (λ (f : Files). is_some (get f from) ≡ true) (sym made.ok) (made_still files from to there) in
    let is_made = subst (λ (f : Files). is_some (get f to) ≡ true) (sym made.ok) (made_there files to) in
    let renames : Renames files moved from to = renames_other files moved from to there apart
    (subst (λ (made : Files). (bytes : List ℕ) → get made from ≡ Some bytes → is_some (get made to) ≡ true → (from ≡ to → ⊥) → moved ≡ insert (remove made from) to bytes) made.ok c.move_file-held.ensures.moved) in
    let kept : synced_of c.move_file-held.new.files.entries ≡ renamed synced from to = c.move_file-held.ensures.synced is_there is_made apart ∙ ap (λ (s : Synced). renamed s from to) made.synced in
    let found : Disk = record { files = files; synced = synced } in
    let now : Disk = record { files = moved; synced = synced_of c.move_file-held.new.files.entries } in
    let old : Holds found to (cond c.in_ok-made.made None c.move_file-held.result) = held_unless m _ _ to c.in_ok-made.made c.move_file-held.result made.made made.ok made.synced (c.move_file-held.ensures.held is_there apart) in
    notes_change _ _ _ c.args.self.now.past.items c.keep.new.past.items (Moved k l held) (Move from to) refl refl
    (c.keep.ensures ∙ ap (λ (p : List Past). p ++ Moved k l held ∷ []) c.in_ok-known.ensures.past)
    (moved_back k l held found now from to renames.0 c.in_ok-known.ensures.name c.in_ok-known_to.ensures.ok renames.1 renames.2 kept (subst (λ (o : Option MemFile). Holds found to o) (sym c.unless-held.ensures) old))
    (λ i. Move (c.in_ok-known.ensures.name i) (c.in_ok-known_to.ensures.ok i)) renames
