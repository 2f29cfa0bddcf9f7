-- A job while others write.
use Rattle.std.proofs.Common.{◌≡◌, ◌≤◌, ℕ, suc, Option, Some, None, MatchBool, MatchOption, List, [], ◌∷◌, Any, inl, inr, refl, sym, ap, subst, ◌∙◌, arith}
use Rattle.std.specs.FinMap.{get}
use Rattle.std.specs.List.{AllByRecursion}
use Rattle.compact.specs.Outputs.{AreClosed, AreNumbered, Filling, HasWritten, IsAtHand, IsMine, IsNext, IsDrawnNumber, IsNumberedApart, TablesWritten, table_name}
use Rattle.compact.proofs.Numbered.{numbered-later}
use Rattle.cursor.specs.Places.{Cmp}
use Rattle.edits.specs.declared.field.TableFile.{TableFile}
use Rattle.ikey.specs.declared.key_order.KeyOrder.{Ghosts}
use Rattle.ikey.specs.Entries.{Pair}
use Rattle.ikey.specs.Orders.{Order}
use Rattle.running_job.specs.declared.open_job.OpenJob.{OpenJob}
use Rattle.running_job.specs.Running.{deep_of}
use Rattle.running_job.specs.internal.Staying.{KeepsOutputs, LeavesWhole, MayRunStays, RunningStays, RunningStaysBeside}
use Rattle.running_job.proofs.Stepped.{may_of}
use Rattle.db_cursor.proofs.KeptMerges.{merge_is_kept}
use Rattle.store.specs.Files.{Facts}
use Rattle.table.specs.Building.{last_added}
use Rattle.directory_writes.specs.Replacing.{IsPlanned, OwnsNone}
use Rattle.edits.specs.declared.field.PlacedTable.{PlacedTable}
use Rattle.recover.specs.Tables.{TableContent}

closed_on : (cmp : Cmp) (a b : Facts) (cs : List TableFile) (ts : List (List Pair)) → ((number : ℕ) → Any (λ (table : TableFile). table.number ≡ number) cs → LeavesWhole a b (table_name number)) → AreClosed cmp a cs ts → AreClosed cmp b cs ts
closed_on cmp a b [] [] k h = tt
closed_on cmp a b [] (pairs ∷ ts) k h = absurd h
closed_on cmp a b (table ∷ cs) [] k h = absurd h
closed_on cmp a b (table ∷ cs) (pairs ∷ ts) k h = (
  (let same = k table.number (0, table, omega arith, refl, refl) in
      record {
        file = h.0.file;
        has = same.0 ∙ h.0.has;
        synced = same.1 h.0.file h.0.has h.0.synced;
        stays = same.2 h.0.stays;
        table_of = h.0.table_of;
        size = h.0.size;
        smallest = h.0.smallest;
        largest = h.0.largest;
      }),
  closed_on cmp a b cs ts (λ number at. k number (suc at.0, at.1, omega (arith, at.2), at.3, at.4)) h.1,
)

-- the table at hand has the name of its number
at_hand_on : (cmp : Cmp) (a b : Facts) (o : Option Filling) (cs : List TableFile) (next : ℕ) (pairs : List Pair) → MatchOption o (Unit {0}) (IsNext cs next) → ((number : ℕ) → MatchOption o ⊥ (λ (t : Filling). number ≡ t.number) → get b.files (table_name number) ≡ get a.files (table_name number))
    → IsAtHand cmp a o pairs → IsAtHand cmp b o pairs
at_hand_on cmp a b None cs next pairs n k h = h
at_hand_on cmp a b (Some t) cs next pairs n k h =
    let same : get b.files t.building.name ≡ get a.files t.building.name = ap (get b.files) n.named ∙ k t.number refl ∙ sym (ap (get a.files) n.named) in (
      record {
        builds = (
          h.0.builds.0,
          subst (λ (found : Option (List ℕ)). MatchBool t.building.created (found ≡ Some h.0.builds.0) ((h.0.builds.0 ≡ []) × (last_added t.building ≡ None))) (sym same) h.0.builds.1,
          h.0.builds.2,
        );
        smallest = h.0.smallest;
        largest = h.0.largest;
      },
      h.1,
    )

number_on : (next more number : ℕ) → next ≤ more → IsDrawnNumber next number → IsDrawnNumber more number
number_on next more number le h = (h.0, omega (arith, le, h.1))

numbers_on : (next more : ℕ) (cs : List TableFile) → next ≤ more → AllByRecursion (λ (table : TableFile). IsDrawnNumber next table.number) cs → AllByRecursion (λ (table : TableFile). IsDrawnNumber more table.number) cs
numbers_on next more [] le h = tt
numbers_on next more (table ∷ cs) le h = (number_on next more table.number le h.0, numbers_on next more cs le h.1)

apart_on : (o : Option Filling) (cs : List TableFile) (next more : ℕ) → next ≤ more → IsNumberedApart o cs next → IsNumberedApart o cs more
apart_on None cs next more le h = tt
apart_on (Some t) cs next more le h = (number_on next more t.number le h.0, h.1)

written_on : (cmp : Cmp) (w : TablesWritten) (a b : Facts) (next more : ℕ) (pairs : List Pair) → next ≤ more → AreNumbered w next → KeepsOutputs w a b → HasWritten cmp w a next pairs → HasWritten cmp w b more pairs
written_on cmp w a b next more pairs le n k h = record {
  tables = h.tables;
  rest = h.rest;
  closed_are = closed_on cmp a b w.closed h.tables (λ number at. k number (inr at)) h.closed_are;
  rest_is = at_hand_on cmp a b w.at_hand w.closed next h.rest n.at_hand (λ number at. (k number (inl at)).0) h.rest_is;
  all = h.all;
  ends = h.ends;
  closed_numbers = numbers_on next more w.closed le h.closed_numbers;
  number = apart_on w.at_hand w.closed next more le h.number;
}

mine_later : (w : TablesWritten) (next more number : ℕ) → next ≤ more → IsMine w more number → IsMine w next number
mine_later w next more number le (inl at) = inl at
mine_later w next more number le (inr come) = inr (omega (arith, le, come.0), come.1)

pub may_stay : {K : Type 0} {g : Ghosts K} (order : Order) (work : OpenJob K g) → MayRunStays order work
may_stay order work old new next more contents came left r l =
    let m = merge_is_kept order.cmp work.job.cursor old new r.no_memory (record { files = λ number over. l.files number (r.over number over); sound = l.sound }) in
    record {
      entries = r.entries;
      own_sequences = r.own_sequences;
      merging = record {
        written = r.merging.written;
        kept = r.merging.kept;
        written_are = r.merging.written_are;
        well_kept = r.merging.well_kept;
        has_written = written_on order.cmp work.job.outputs old.seen.facts new.seen.facts next more r.merging.written l.drawn r.numbered l.outputs r.merging.has_written;
        chooses = r.merging.chooses;
        last_is = r.merging.last_is;
        bound = r.merging.bound;
        sorted = r.merging.sorted;
      };
      goes_on = r.goes_on;
      stands = m.lists _ r.stands;
      no_memory = r.no_memory;
      over = r.over;
      outside = λ number is mine. r.outside number is (mine_later work.job.outputs next more number l.drawn mine);
      unkept = l.unkept;
      numbered = numbered-later work.job.outputs next more l.drawn r.numbered;
      drawn = omega (arith, r.drawn, l.drawn);
      counted = r.counted;
      limits = λ limited.
          let past = r.limits (m.limits limited) in
          (past.0, past.1, past.2, l.files past.0.table.number (past.0, past.1, refl) ∙ past.3, past.4);
      torn = λ cut torn.
          let one = r.torn cut (m.torn cut torn) in
          (one.0, one.1, one.2, l.files one.0.table.number (one.0, one.1, refl) ∙ one.3, one.4);
    }

pub stays : {K : Type 0} {g : Ghosts K} (order : Order) (work : OpenJob K g) → RunningStays order work
stays order work old new next more d e came left r l =
    let m = may_stay order work old new next more r.inputs came left (may_of order old next d work came left r) (record { drawn = l.drawn; files = l.files; outputs = l.outputs; sound = l.sound; unkept = l.unkept }) in
    let kept = merge_is_kept order.cmp work.job.cursor old new r.no_memory (record { files = λ number over. l.files number (r.over number over); sound = l.sound }) in
    record {
      inputs = r.inputs;
      rest = l.rest;
      planned = l.planned;
      entries = m.entries;
      own_sequences = m.own_sequences;
      merging = m.merging;
      goes_on = m.goes_on;
      stands = m.stands;
      no_memory = m.no_memory;
      over = m.over;
      outside = m.outside;
      unkept = m.unkept;
      numbered = m.numbered;
      drawn = m.drawn;
      counted = m.counted;
      unused = l.unused;
      limits = m.limits;
      intact = λ cut torn. r.intact cut (kept.torn cut torn);
    }

pub stays_beside : {K : Type 0} {g : Ghosts K} (order : Order) (work : OpenJob K g) → RunningStaysBeside order work
stays_beside order work old new next more d e came left r l =
    stays order work old new next more d e came left r (record {
      drawn = l.drawn;
      files = l.files;
      outputs = l.outputs;
      sound = l.sound;
      unkept = l.unkept;
      rest = r.rest;
      planned = subst (λ (contents : List TableContent). IsPlanned order (deep_of order.cmp work) work.job.plan contents r.inputs r.rest) (sym l.tables) r.planned;
      unused = subst (λ (tables : List PlacedTable). OwnsNone work.job.outputs tables) (sym l.listed) r.unused;
    })
