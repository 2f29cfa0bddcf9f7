-- A record after the last log is one batch more there, and a beginning of it none, or that one: its
-- bytes are read in one way.
use Rattle.std.proofs.Common.{◌≡◌, ◌⊎◌, ℕ, List, [], ◌∷◌, ◌++◌, length, take, Some, inl, inr, sym, ap, subst, ◌∙◌}
use Rattle.std.specs.FinMap.{get}
use Rattle.batch.specs.Batch.{IsBatch}
use Rattle.batch.specs.declared.operation.Operation.{Operation}
use Rattle.edits.specs.Names.{name_of}
use Rattle.edits.specs.declared.names.FileName.TheVariants.{Log}
use Rattle.ikey.specs.Orders.{Order}
use Rattle.ikey.specs.declared.entry.Entry.{Entry}
use Rattle.logfile.specs.declared.record.Tail.{Tail}
use Rattle.logfile.specs.declared.record.Tail.TheVariants.{Clean}
use Rattle.recover.proofs.Adding.{batches-push, logs_back}
use Rattle.recover.proofs.OneMeaning.{same_batch_log, same_content}
use Rattle.recover.specs.Directory.{Directory, EndsAt, IsConsistent}
use Rattle.recover.specs.Logs.{Batch, HasLog, HasLogs, IsBatchLog, LogContent}
use Rattle.recover.specs.internal.Changes.{IsExtended}
use Rattle.recover.specs.internal.Laws.{AddsAllOrNothing, AddsRecord}
use Rattle.store.specs.Files.{Files}
use Rattle.engine.proofs.Extended.{one_end}

module _ (order : Order) (old new : Files) (d e : Directory) (log position : ℕ) (text written : List ℕ) (more : List Entry)
    (good : IsConsistent order old d) (ends : EndsAt old d log position) (there : get old (name_of (Log log)) ≡ Some text)
    (after : IsConsistent order new e) (now : get new (name_of (Log log)) ≡ Some written) (x : IsExtended d e more) where
  last_is : x.last ≡ ends.last
  last_is = (one_end x.before ends.before x.last ends.last (sym x.old ∙ ends.logs)).1

  number_is : x.last.number ≡ log
  number_is = ap (λ (l : LogContent). l.number) last_is ∙ ends.number

  had : HasLog old x.last
  had = (logs_back old x.before (x.last ∷ []) (subst (HasLogs old) x.old good.logs)).0

  had_text : had.bytes ≡ text
  had_text = same_content old (name_of (Log log)) had.bytes text (subst (λ (n : ℕ). get old (name_of (Log n)) ≡ Some had.bytes) number_is had.there) there

  long : length text ≡ position
  long = ap length (same_content old (name_of (Log log)) text ends.bytes there ends.there) ∙ ends.length

  before : IsBatchLog text x.last.batches Clean
  before = subst (λ (t : Tail). IsBatchLog text x.last.batches t) (ap (λ (l : LogContent). l.tail) last_is ∙ ends.clean) (subst (λ (bytes : List ℕ). IsBatchLog bytes x.last.batches x.last.tail) had_text had.spelled)

  has : HasLog new x.next
  has = (logs_back new x.before (x.next ∷ []) (subst (HasLogs new) (ap (λ (f : Directory). f.logs) x.new) after.logs)).0

  has_text : has.bytes ≡ written
  has_text = same_content new (name_of (Log log)) has.bytes written (subst (λ (n : ℕ). get new (name_of (Log n)) ≡ Some has.bytes) (x.number ∙ number_is) has.there) now

  read_as : (batches : List Batch) (tail : Tail) → IsBatchLog written batches tail → x.next.batches ≡ batches
  read_as batches tail is =
      same_batch_log written x.next (record { number = log; batches = batches; tail = tail }) (subst (λ (bytes : List ℕ). IsBatchLog bytes x.next.batches x.next.tail) has_text has.spelled) is

module _ (order : Order) (old new : Files) (d e : Directory) (log position first : ℕ) (operations : List Operation) (payload added text : List ℕ) (more : List Entry)
    (good : IsConsistent order old d) (ends : EndsAt old d log position) (there : get old (name_of (Log log)) ≡ Some text) (spelled : IsBatch payload first operations)
    (after : IsConsistent order new e) (x : IsExtended d e more) where
  -- with the whole of it
  pub extended_batches : AddsRecord position payload added → get new (name_of (Log log)) ≡ Some (text ++ added) → x.next.batches ≡ x.last.batches ++ (first, operations) ∷ []
  extended_batches adds now =
      let written = text ++ added in
      let had = before order old new d e log position text written more good ends there after now x in
      read_as order old new d e log position text written more good ends there after now x (x.last.batches ++ (first, operations) ∷ []) Clean (record {
        records = had.records ++ payload ∷ [];
        log = adds text had.records (long order old new d e log position text written more good ends there after now x) had.log;
        spelled = batches-push had.records x.last.batches payload (first, operations) had.spelled spelled;
      })

  -- with so many of its bytes
  pub begun_batches : (n : ℕ) → AddsAllOrNothing position payload added → get new (name_of (Log log)) ≡ Some (text ++ take n added)
      → (x.next.batches ≡ x.last.batches) ⊎ (x.next.batches ≡ x.last.batches ++ (first, operations) ∷ [])
  begun_batches n adds now =
      let written = text ++ take n added in
      let had = before order old new d e log position text written more good ends there after now x in
      let read = read_as order old new d e log position text written more good ends there after now x in
      elim (adds text had.records n (long order old new d e log position text written more good ends there after now x) had.log) [
        | inl part ↦ inl (read x.last.batches part.0 (record { records = had.records; log = part.1; spelled = had.spelled }))
        | inr whole ↦ inr (read (x.last.batches ++ (first, operations) ∷ []) Clean (record {
          records = had.records ++ payload ∷ [];
          log = whole;
          spelled = batches-push had.records x.last.batches payload (first, operations) had.spelled spelled;
        }))
      ]
