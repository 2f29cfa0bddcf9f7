use Rattle.std.proofs.Common.{◌≡◌, ◌-◌, ◌%◌, ◌∙◌, ◌++◌, ◌∷◌, [], List, ℕ, length, sym, subst}
use Rattle.logfile.specs.Log.{IsLog, IsWritten}
use Rattle.logfile.specs.declared.record.Tail.TheVariants.{Clean}
use Rattle.logfile.proofs.Pieces.{written_behind, written_here}
use Rattle.logfile.proofs.Determined.{length-written}
use Rattle.logfile.proofs.Written.{record_added}
use Rattle.logfile.proofs.writing.LogWriter.encode_into.Goals as goal

behind : (c : goal.In_ok-put_fragments) → IsWritten (32768 - c.args.position % 32768) c.args.payload.now c.put_fragments.new.out.items
behind c =
    written_behind (32768 - c.args.position % 32768) c.args.payload.now c.reserve.new.self.items c.put_zeros.new.out.items c.put_fragments.new.out.items c.if-room-lt-HEADER_LENGTH.true
    (c.in_ok-reserve.ensures.items ∙ c.clear.ensures.items) c.in_ok-put_zeros.ensures c.in_ok-put_fragments.ensures

here : (c : goal.In_ok-put_fragments-2) → IsWritten (32768 - c.args.position % 32768) c.args.payload.now c.put_fragments-else-room-lt-HEADER_LENGTH.new.out.items
here c =
    written_here (32768 - c.args.position % 32768) c.args.payload.now c.reserve.new.self.items c.put_fragments-else-room-lt-HEADER_LENGTH.new.out.items c.if-room-lt-HEADER_LENGTH.false
    (c.in_ok-reserve.ensures.items ∙ c.clear.ensures.items) c.in_ok-put_fragments-2.ensures

added : (position : ℕ) (payload out : List ℕ) → IsWritten (32768 - position % 32768) payload out → (bytes : List ℕ) (records : List (List ℕ)) → length bytes ≡ position
    → IsLog bytes records Clean → IsLog (bytes ++ out) (records ++ payload ∷ []) Clean
added position payload out written bytes records e h = record_added bytes payload out records h (subst (λ (n : ℕ). IsWritten (32768 - n % 32768) payload out) (sym e) written)

pub returns-in_ok-put_fragments-clause-longest : goal.returns-in_ok-put_fragments-clause-longest
returns-in_ok-put_fragments-clause-longest c = behind c

pub returns-in_ok-put_fragments-clause-appends : goal.returns-in_ok-put_fragments-clause-appends
returns-in_ok-put_fragments-clause-appends c = added c.args.position c.args.payload.now c.put_fragments.new.out.items (behind c)

pub returns-in_ok-put_fragments-clause-length : goal.returns-in_ok-put_fragments-clause-length
returns-in_ok-put_fragments-clause-length c = length-written (32768 - c.args.position % 32768) c.args.payload.now c.put_fragments.new.out.items (behind c)

pub returns-in_ok-put_fragments-2-clause-longest : goal.returns-in_ok-put_fragments-2-clause-longest
returns-in_ok-put_fragments-2-clause-longest c = here c

pub returns-in_ok-put_fragments-2-clause-appends : goal.returns-in_ok-put_fragments-2-clause-appends
returns-in_ok-put_fragments-2-clause-appends c = added c.args.position c.args.payload.now c.put_fragments-else-room-lt-HEADER_LENGTH.new.out.items (here c)

pub returns-in_ok-put_fragments-2-clause-length : goal.returns-in_ok-put_fragments-2-clause-length
returns-in_ok-put_fragments-2-clause-length c = length-written (32768 - c.args.position % 32768) c.args.payload.now c.put_fragments-else-room-lt-HEADER_LENGTH.new.out.items (here c)
