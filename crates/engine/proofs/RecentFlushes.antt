-- What the logs that were begun have after a flush.
use Rattle.std.proofs.Common.{◌≡◌, inl, inr, ℕ, ◌+◌, ◌-◌, ◌≤◌, List, [], ◌∷◌, ◌++◌, length, take, drop, sum_by, refl, sym, ap, subst, ◌∙◌, arith}
use Rattle.std.proofs.lemmas.List.{drop-drop, drop-take, length-drop, take-take}
use Rattle.std.proofs.lemmas.List.Sums.{sum_by-take-drop}
use Rattle.batch.specs.declared.operation.Operation.{Operation}
use Rattle.edits.specs.Names.{name_of}
use Rattle.edits.specs.declared.names.FileName.TheVariants.{Log}
use Rattle.ikey.proofs.SearchedSources.{among_back, among_front, among_split, same_view}
use Rattle.ikey.specs.Sources.{SameEntries}
use Rattle.ikey.specs.Views.{Among, AllUpTo, IsView}
use Rattle.ikey.specs.declared.entry.Entry.{Entry}
use Rattle.machine.specs.Machine.{Machine, view_at}
use Rattle.recover.proofs.Memberships.{from_tabled, in_with, to_tabled}
use Rattle.recover.specs.Logs.{Batch, InLogs, LogContent, batch_entries, logged}
use Rattle.recover.specs.Tables.{TableContent, tabled}
use Rattle.recover.specs.internal.Changes.{with_content}
use Rattle.store.specs.Files.{Facts}
use Rattle.engine.proofs.RecentBatches.{SplitLogged, batch_entries-append, batches-append, logged_in_batches, logged_within, split_logged}
use Rattle.engine.proofs.RecentSure.{sure_flushed, sure_same}
use Rattle.engine.proofs.RecentWrites.{BehindFound, behind_parts}
use Rattle.engine.specs.internal.Recent.{AreLogged, AreParts, AreRecent, AreSure, batches_in}

-- with one more table, which has what some logs had
pub with_logged : (tables : List TableContent) (content : TableContent) (sealed : List LogContent) → SameEntries content.entries (logged sealed) → (e : Entry) → Among (tabled (with_content content tables)) e → Among (tabled tables ++ logged sealed) e
with_logged tables content sealed same e i =
    let t = from_tabled (with_content content tables) e i in
    elim (in_with content tables t.0 t.1) [
      | inl new ↦ among_back (tabled tables) (logged sealed) e ((same e).0 (subst (λ (c : TableContent). Among c.entries e) new t.2))
      | inr old ↦ among_front (tabled tables) (logged sealed) e (to_tabled tables t.0 e old t.2)
    ]

only : (log : LogContent) (n : ℕ) → InLogs (log ∷ []) n → n ≡ log.number
only log n (inl is) = is
only log n (inr i) = absurd i

module _ (old new : Facts) (least : ℕ) (tables after : List TableContent) (entries more : List Entry) (sealed : List LogContent) (current : LogContent) (m : Machine)
    (h : AreRecent old least tables entries (sealed ++ current ∷ []) m)
    (moved : (e : Entry) → Among (tabled after) e → Among (tabled tables ++ logged sealed) e) (same : SameEntries entries more) (synced : new.synced (name_of (Log current.number)) ≡ old.synced (name_of (Log current.number))) where
  abbrev p : AreParts old least (sealed ++ current ∷ [])
  p = h.parts

  abbrev operations : List (List Operation)
  operations = drop h.from m.batches

  behind : BehindFound sealed p.found (p.kept ++ p.doubted) current
  behind = behind_parts old least sealed current p

  -- the batches that are in the table now
  abbrev flushed : List Batch
  flushed = batches_in behind.since

  abbrev count : ℕ
  count = length flushed

  s : SplitLogged h.start flushed (batches_in (current ∷ [])) operations
  s = split_logged h.start flushed (batches_in (current ∷ [])) operations
      (subst (λ (bs : List Batch). AreLogged h.start bs operations) (ap batches_in behind.rest ∙ batches-append behind.since (current ∷ [])) h.recent)

  abbrev start : ℕ
  start = h.start + sum_by length (take count operations)

  others : drop count operations ≡ drop (h.from + count) m.batches
  others = drop-drop count h.from m.batches

  upto_start : AllUpTo start (tabled after ++ [])
  upto_start e i = elim (among_split (tabled after) [] e i) [
    | inl table ↦ elim (among_split (tabled tables) (logged sealed) e (moved e table)) [
      | inl was ↦ (let below : e.sequence ≤ h.start = h.below e (among_front (tabled tables) (logged p.found) e was) in omega (arith, below))
      | inr log ↦
          let parts : logged sealed ≡ batch_entries (batches_in p.found) ++ batch_entries flushed =
          logged_in_batches sealed ∙ ap batch_entries (ap batches_in behind.in_front ∙ batches-append p.found behind.since) ∙ batch_entries-append (batches_in p.found) flushed in
          elim (among_split (batch_entries (batches_in p.found)) (batch_entries flushed) e (subst (λ (es : List Entry). Among es e) parts log)) [
            | inl before ↦
                let found : Among (logged p.found) e = subst (λ (es : List Entry). Among es e) (sym (logged_in_batches p.found)) before in
                (let below : e.sequence ≤ h.start = h.below e (among_back (tabled tables) (logged p.found) e found) in omega (arith, below))
            | inr since ↦ logged_within h.start flushed (take count operations) s.first e since
          ]
    ]
    | inr none ↦ absurd none
  ]

  many : length operations ≡ length m.batches - h.from
  many = length-drop h.from m.batches

  past_on : (k : ℕ) → k ≤ length (drop (h.from + count) m.batches) → IsView more (start + sum_by length (take k (drop (h.from + count) m.batches))) (view_at m (h.from + count + k))
  past_on k le =
      let fewer : length (drop (h.from + count) m.batches) ≡ length m.batches - (h.from + count) = length-drop (h.from + count) m.batches in
      let first : count ≤ length operations = s.within in
      let within : h.from ≤ length m.batches = h.within in
      let view = (same_view entries more (h.start + sum_by length (take (count + k) operations)) same).0 (view_at m (h.from + (count + k))) (h.past (count + k) (omega (arith, le, fewer, many, first, within))) in
      let front : take count (take (count + k) operations) ≡ take count operations = take-take count (count + k) operations (omega arith) in
      let back : drop count (take (count + k) operations) ≡ take k (drop (h.from + count) m.batches) = drop-take count k operations ∙ ap (take k) others in
      let sum : sum_by length (take count (take (count + k) operations)) + sum_by length (drop count (take (count + k) operations)) ≡ sum_by length (take (count + k) operations) = sum_by-take-drop length (take (count + k) operations) count in
      let a : sum_by length (take count (take (count + k) operations)) ≡ sum_by length (take count operations) = ap (sum_by length) front in
      let b : sum_by length (drop count (take (count + k) operations)) ≡ sum_by length (take k (drop (h.from + count) m.batches)) = ap (sum_by length) back in
      let at : h.start + sum_by length (take (count + k) operations) ≡ start + sum_by length (take k (drop (h.from + count) m.batches)) = omega (arith, sum, a, b) in
      let place : h.from + (count + k) ≡ h.from + count + k = omega arith in
      subst (λ (n : ℕ). IsView more n (view_at m (h.from + count + k))) at (subst (λ (n : ℕ). IsView more (h.start + sum_by length (take (count + k) operations)) (view_at m n)) place view)

  sure_now : AreSure new (h.from + count) [] (current ∷ []) m.synced
  sure_now = sure_same old new (h.from + count) [] (current ∷ []) m.synced (λ n i. subst (λ (k : ℕ). new.synced (name_of (Log k)) ≡ old.synced (name_of (Log k))) (sym (only current n i)) synced)
      (sure_flushed old h.from p.kept p.doubted behind.since current m.synced behind.rest p.some h.sure)

  -- the table has the entries of the logs before the current one, which is the only one then
  pub recent_flushed : AreRecent new least after more (current ∷ []) m
  recent_flushed = record {
    parts = record { found = []; kept = []; doubted = current ∷ []; all = refl; before = tt; synced = tt; empty = tt; some = omega arith };
    from = h.from + count;
    within = (let first : count ≤ length operations = s.within in let within : h.from ≤ length m.batches = h.within in omega (arith, first, within, many));
    start = start;
    spent =
        let sum : sum_by length (take count operations) + sum_by length (drop count operations) ≡ sum_by length operations = sum_by-take-drop length operations count in
        let rest : sum_by length (drop count operations) ≡ sum_by length (drop (h.from + count) m.batches) = ap (sum_by length) others in
        (let was : h.start + sum_by length operations ≡ m.used = h.spent in omega (arith, sum, rest, was));
    recent = subst (λ (os : List (List Operation)). AreLogged start (batches_in (current ∷ [])) os) others s.second;
    below = upto_start;
    past = past_on;
    sure = sure_now;
  }
