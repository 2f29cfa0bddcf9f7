use Rattle.std.proofs.Common.{◌∷◌}
use Rattle.std.proofs.lemmas.Result.{err_from_is_err_and}
use Rattle.coding.proofs.Refusals.{refuses_whole}
use Rattle.coding.specs.Varint.{IsString}
use Rattle.coding.specs.Spelling.{BeginsNone}
use Rattle.edits.specs.Edit.{IsLong, IsSequence, IsLevel, IsPlaced, IsField, SpellsKey}
use Rattle.edits.specs.declared.field.Field.TheVariants.{Comparator, LogNumber, NextFileNumber, LastSequence, CompactPointer, DeletedFile, NewFile, PreviousLogNumber}
use Rattle.coding.proofs.Spellings.{begins_pair, none_first, none_second}
use Rattle.edits.proofs.Spellings.{free_level}
use Rattle.edits.proofs.Fields.{tagged, begins_field, none_comparator, none_log, none_next, none_sequence, none_pointer, none_deleted, none_new, none_previous}
use Rattle.edits.proofs.reading.content_at.Goals as goal

pub returns-in_err-name-in-1-clause-refused : goal.returns-in_err-name-in-1-clause-refused
returns-in_err-name-in-1-clause-refused c =
    let p = err_from_is_err_and c.from_residual.result c.from_residual.ensures.1 in
    rw (p.1, p.2) (refuses_whole (BeginsNone IsString c.args.bytes.now) (BeginsNone IsField (c.args.tag ∷ c.args.bytes.now)) c.in_err-name-in-1.field-0.0 (λ none. tagged c.args.tag 1 c.args.bytes.now c.in-1.is (none_comparator c.args.bytes.now (none))) c.in_err-name-in-1.ensures.refused)

pub returns-in_err-number-in-2-clause-refused : goal.returns-in_err-number-in-2-clause-refused
returns-in_err-number-in-2-clause-refused c =
    let p = err_from_is_err_and c.from_residual-in_err-number-in-2.result c.from_residual-in_err-number-in-2.ensures.1 in
    rw (p.1, p.2) (refuses_whole (BeginsNone IsLong c.args.bytes.now) (BeginsNone IsField (c.args.tag ∷ c.args.bytes.now)) c.in_err-number-in-2.field-0.0 (λ none. tagged c.args.tag 2 c.args.bytes.now c.in-2.is (none_log c.args.bytes.now (none))) c.in_err-number-in-2.ensures.refused)

pub returns-in_err-number-in-3-clause-refused : goal.returns-in_err-number-in-3-clause-refused
returns-in_err-number-in-3-clause-refused c =
    let p = err_from_is_err_and c.from_residual-in_err-number-in-3.result c.from_residual-in_err-number-in-3.ensures.1 in
    rw (p.1, p.2) (refuses_whole (BeginsNone IsLong c.args.bytes.now) (BeginsNone IsField (c.args.tag ∷ c.args.bytes.now)) c.in_err-number-in-3.field-0.0 (λ none. tagged c.args.tag 3 c.args.bytes.now c.in-3.is (none_next c.args.bytes.now (none))) c.in_err-number-in-3.ensures.refused)

pub returns-in_err-sequence-in-4-clause-refused : goal.returns-in_err-sequence-in-4-clause-refused
returns-in_err-sequence-in-4-clause-refused c =
    let p = err_from_is_err_and c.from_residual-in_err-sequence-in-4.result c.from_residual-in_err-sequence-in-4.ensures.1 in
    rw (p.1, p.2) (refuses_whole (BeginsNone IsSequence c.args.bytes.now) (BeginsNone IsField (c.args.tag ∷ c.args.bytes.now)) c.in_err-sequence-in-4.field-0.0 (λ none. tagged c.args.tag 4 c.args.bytes.now c.in-4.is (none_sequence c.args.bytes.now (none))) c.in_err-sequence-in-4.ensures.refused)

pub returns-in_err-level-in-5-clause-refused : goal.returns-in_err-level-in-5-clause-refused
returns-in_err-level-in-5-clause-refused c =
    let p = err_from_is_err_and c.from_residual-in_err-level-in-5.result c.from_residual-in_err-level-in-5.ensures.1 in
    rw (p.1, p.2) (refuses_whole (BeginsNone IsLevel c.args.bytes.now) (BeginsNone IsField (c.args.tag ∷ c.args.bytes.now)) c.in_err-level-in-5.field-0.0 (λ none. tagged c.args.tag 5 c.args.bytes.now c.in-5.is (none_pointer c.args.bytes.now (none_first IsLevel SpellsKey c.args.bytes.now none))) c.in_err-level-in-5.ensures.refused)

pub returns-in_err-key-in-5-clause-refused : goal.returns-in_err-key-in-5-clause-refused
returns-in_err-key-in-5-clause-refused c =
    let p = err_from_is_err_and c.from_residual-in_err-key-in-5.result c.from_residual-in_err-key-in-5.ensures.1 in
    rw (p.1, p.2) (refuses_whole (BeginsNone SpellsKey c.in_ok-level-in-5.rest.now) (BeginsNone IsField (c.args.tag ∷ c.args.bytes.now)) c.in_err-key-in-5.field-0.0 (λ none. tagged c.args.tag 5 c.args.bytes.now c.in-5.is (none_pointer c.args.bytes.now (none_second IsLevel SpellsKey c.args.bytes.now c.in_ok-level-in-5.rest.now c.in_ok-level-in-5.level free_level c.in_ok-level-in-5.ensures.found none))) c.in_err-key-in-5.ensures.refused)

pub returns-in_err-level-in-6-clause-refused : goal.returns-in_err-level-in-6-clause-refused
returns-in_err-level-in-6-clause-refused c =
    let p = err_from_is_err_and c.from_residual-in_err-level-in-6.result c.from_residual-in_err-level-in-6.ensures.1 in
    rw (p.1, p.2) (refuses_whole (BeginsNone IsLevel c.args.bytes.now) (BeginsNone IsField (c.args.tag ∷ c.args.bytes.now)) c.in_err-level-in-6.field-0.0 (λ none. tagged c.args.tag 6 c.args.bytes.now c.in-6.is (none_deleted c.args.bytes.now (none_first IsLevel IsLong c.args.bytes.now none))) c.in_err-level-in-6.ensures.refused)

pub returns-in_err-number-in-6-clause-refused : goal.returns-in_err-number-in-6-clause-refused
returns-in_err-number-in-6-clause-refused c =
    let p = err_from_is_err_and c.from_residual-in_err-number-in-6.result c.from_residual-in_err-number-in-6.ensures.1 in
    rw (p.1, p.2) (refuses_whole (BeginsNone IsLong c.in_ok-level-in-6.rest.now) (BeginsNone IsField (c.args.tag ∷ c.args.bytes.now)) c.in_err-number-in-6.field-0.0 (λ none. tagged c.args.tag 6 c.args.bytes.now c.in-6.is (none_deleted c.args.bytes.now (none_second IsLevel IsLong c.args.bytes.now c.in_ok-level-in-6.rest.now c.in_ok-level-in-6.level free_level c.in_ok-level-in-6.ensures.found none))) c.in_err-number-in-6.ensures.refused)

pub returns-in_err-placed-in-7-clause-refused : goal.returns-in_err-placed-in-7-clause-refused
returns-in_err-placed-in-7-clause-refused c =
    let p = err_from_is_err_and c.from_residual-in_err-placed-in-7.result c.from_residual-in_err-placed-in-7.ensures.1 in
    rw (p.1, p.2) (refuses_whole (BeginsNone IsPlaced c.args.bytes.now) (BeginsNone IsField (c.args.tag ∷ c.args.bytes.now)) c.in_err-placed-in-7.field-0.0 (λ none. tagged c.args.tag 7 c.args.bytes.now c.in-7.is (none_new c.args.bytes.now (none))) c.in_err-placed-in-7.ensures.refused)

pub returns-in_err-number-in-9-clause-refused : goal.returns-in_err-number-in-9-clause-refused
returns-in_err-number-in-9-clause-refused c =
    let p = err_from_is_err_and c.from_residual-in_err-number-in-9.result c.from_residual-in_err-number-in-9.ensures.1 in
    rw (p.1, p.2) (refuses_whole (BeginsNone IsLong c.args.bytes.now) (BeginsNone IsField (c.args.tag ∷ c.args.bytes.now)) c.in_err-number-in-9.field-0.0 (λ none. tagged c.args.tag 9 c.args.bytes.now c.in-9.is (none_previous c.args.bytes.now (none))) c.in_err-number-in-9.ensures.refused)

pub returns-in_ok-name-in-1-clause-found : goal.returns-in_ok-name-in-1-clause-found
returns-in_ok-name-in-1-clause-found c = begins_field c.args.tag c.args.bytes.now c.in_ok-name-in-1.rest.now (Comparator c.in_ok-name-in-1.name) c.in-1.is (c.in_ok-name-in-1.ensures.found)

pub returns-in_ok-number-in-2-clause-found : goal.returns-in_ok-number-in-2-clause-found
returns-in_ok-number-in-2-clause-found c = begins_field c.args.tag c.args.bytes.now c.in_ok-number-in-2.rest.now (LogNumber c.in_ok-number-in-2.number) c.in-2.is (c.in_ok-number-in-2.ensures.found)

pub returns-in_ok-number-in-3-clause-found : goal.returns-in_ok-number-in-3-clause-found
returns-in_ok-number-in-3-clause-found c = begins_field c.args.tag c.args.bytes.now c.in_ok-number-in-3.rest.now (NextFileNumber c.in_ok-number-in-3.number) c.in-3.is (c.in_ok-number-in-3.ensures.found)

pub returns-in_ok-sequence-in-4-clause-found : goal.returns-in_ok-sequence-in-4-clause-found
returns-in_ok-sequence-in-4-clause-found c = begins_field c.args.tag c.args.bytes.now c.in_ok-sequence-in-4.rest.now (LastSequence c.in_ok-sequence-in-4.sequence) c.in-4.is (c.in_ok-sequence-in-4.ensures.found)

pub returns-in_ok-key-in-5-clause-found : goal.returns-in_ok-key-in-5-clause-found
returns-in_ok-key-in-5-clause-found c = begins_field c.args.tag c.args.bytes.now c.in_ok-key-in-5.rest.now (CompactPointer c.in_ok-level-in-5.level c.in_ok-key-in-5.key) c.in-5.is (begins_pair IsLevel SpellsKey c.args.bytes.now c.in_ok-level-in-5.rest.now c.in_ok-key-in-5.rest.now c.in_ok-level-in-5.level c.in_ok-key-in-5.key c.in_ok-level-in-5.ensures.found c.in_ok-key-in-5.ensures.found)

pub returns-in_ok-number-in-6-clause-found : goal.returns-in_ok-number-in-6-clause-found
returns-in_ok-number-in-6-clause-found c = begins_field c.args.tag c.args.bytes.now c.in_ok-number-in-6.rest.now (DeletedFile c.in_ok-level-in-6.level c.in_ok-number-in-6.number) c.in-6.is (begins_pair IsLevel IsLong c.args.bytes.now c.in_ok-level-in-6.rest.now c.in_ok-number-in-6.rest.now c.in_ok-level-in-6.level c.in_ok-number-in-6.number c.in_ok-level-in-6.ensures.found c.in_ok-number-in-6.ensures.found)

pub returns-in_ok-placed-in-7-clause-found : goal.returns-in_ok-placed-in-7-clause-found
returns-in_ok-placed-in-7-clause-found c = begins_field c.args.tag c.args.bytes.now c.in_ok-placed-in-7.rest.now (NewFile c.in_ok-placed-in-7.placed) c.in-7.is (c.in_ok-placed-in-7.ensures.found)

pub returns-in_ok-number-in-9-clause-found : goal.returns-in_ok-number-in-9-clause-found
returns-in_ok-number-in-9-clause-found c = begins_field c.args.tag c.args.bytes.now c.in_ok-number-in-9.rest.now (PreviousLogNumber c.in_ok-number-in-9.number) c.in-9.is (c.in_ok-number-in-9.ensures.found)
