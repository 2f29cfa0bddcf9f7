-- From logs that may be cut to the map after some first accepted batches.
use Rattle.std.proofs.Common.{◌≡◌, ◌⊎◌, inl, inr, ℕ, ◌+◌, ◌<◌, ◌≤◌, List, [], ◌∷◌, ◌++◌, length, take, drop, sum_by, refl, sym, ap, subst, ◌∙◌, arith, append_assoc}
use Rattle.std.specs.FinMap.{get}
use Rattle.std.specs.List.{AllByRecursion}
use Rattle.batch.specs.declared.operation.Operation.{Operation}
use Rattle.edits.specs.Names.{name_of, IsNumbered}
use Rattle.edits.specs.declared.names.FileName.TheVariants.{Log}
use Rattle.ikey.proofs.SearchedSources.{among_back, among_front, among_split}
use Rattle.ikey.specs.Orders.{Order}
use Rattle.ikey.specs.Views.{Among, AllUpTo, Contents, IsView}
use Rattle.ikey.specs.declared.entry.Entry.{Entry}
use Rattle.machine.specs.Machine.{Machine, view_at}
use Rattle.opening.specs.Losses.{AreCut, IsKept}
use Rattle.recover.proofs.Keeping.{live_of}
use Rattle.recover.proofs.NewLogs.{log_there}
use Rattle.recover.proofs.OneMeaning.{in_above}
use Rattle.recover.specs.Directory.{Directory, IsConsistent, used_in}
use Rattle.recover.specs.Logs.{Batch, HasLogs, InLogs, LogContent, NumbersRise, batch_entries, logged}
use Rattle.recover.specs.Tables.{TableContent, tabled}
use Rattle.store.specs.Files.{Facts, Files}
use Rattle.engine.proofs.RecentBatches.{SplitLogged, all_seen, batch_entries-append, batches-append, earlier_entries, logged_above, logged_in_batches, logged_within, split_logged}
use Rattle.engine.proofs.RecentCuts.{IsLeft, LeftFront, front_cuts, left_front}
use Rattle.engine.proofs.RecentSure.{sure_left}
use Rattle.engine.proofs.Tabled.{directory_bounded}
use Rattle.engine.specs.Headline.{Holds}
use Rattle.engine.specs.internal.Recent.{AreLogged, AreRecent, batches_in}

-- the logs that the open found are left, or were synced whole, as those after them were
found_left : (facts : Facts) (lost : Files) (least : ℕ) (logs : List LogContent) → HasLogs facts.files logs → AllByRecursion (λ (log : LogContent). log.number < least) logs
    → ((n : ℕ) → IsNumbered n → InLogs logs n → n < least → IsKept facts (name_of (Log n)) ⊎ (get lost (name_of (Log n)) ≡ get facts.files (name_of (Log n)))) → AllByRecursion (IsLeft facts lost) logs
found_left facts lost least [] has before same = tt
found_left facts lost least (log ∷ logs) has before same =
    (same log.number has.0.numbered (inl refl) before.0, found_left facts lost least logs has.1 before.1 (λ n num i. same n num (inr i)))

kept_left : (facts : Facts) (lost : Files) (logs : List LogContent) → AllByRecursion (λ (log : LogContent). IsKept facts (name_of (Log log.number))) logs → AllByRecursion (IsLeft facts lost) logs
kept_left facts lost [] kept = tt
kept_left facts lost (log ∷ logs) kept = (inl kept.0, kept_left facts lost logs kept.1)

both_left : (facts : Facts) (lost : Files) (xs ys : List LogContent) → AllByRecursion (IsLeft facts lost) xs → AllByRecursion (IsLeft facts lost) ys → AllByRecursion (IsLeft facts lost) (xs ++ ys)
both_left facts lost [] ys first second = second
both_left facts lost (x ∷ xs) ys first second = (first.0, both_left facts lost xs ys first.1 second)

front_logs : (files : Files) (xs ys : List LogContent) → HasLogs files (xs ++ ys) → HasLogs files xs
front_logs files [] ys has = tt
front_logs files (x ∷ xs) ys has = (has.0, front_logs files xs ys has.1)

-- ---- numbers that rise

pub in_first : (n : ℕ) (xs ys : List LogContent) → InLogs xs n → InLogs (xs ++ ys) n
in_first n [] ys i = absurd i
in_first n (x ∷ xs) ys (inl is) = inl is
in_first n (x ∷ xs) ys (inr i) = inr (in_first n xs ys i)

pub in_second : (n : ℕ) (xs ys : List LogContent) → InLogs ys n → InLogs (xs ++ ys) n
in_second n [] ys i = i
in_second n (x ∷ xs) ys i = inr (in_second n xs ys i)

above_all : (low : ℕ) (xs ys : List LogContent) (n k : ℕ) → NumbersRise low (xs ++ ys) → InLogs xs n → InLogs ys k → n < k
above_all low [] ys n k r i j = absurd i
above_all low (x ∷ xs) ys n k r (inl is) j = (let below = in_above x.number (xs ++ ys) k r.1 (in_second k xs ys j) in omega (arith, is, below))
above_all low (x ∷ xs) ys n k r (inr i) j = above_all x.number xs ys n k r.1 i j

within_last : (low : ℕ) (xs : List LogContent) (last : LogContent) (k : ℕ) → NumbersRise low (xs ++ last ∷ []) → InLogs (xs ++ last ∷ []) k → k ≤ last.number
within_last low [] last k r (inl is) = omega (arith, is)
within_last low [] last k r (inr i) = absurd i
within_last low (x ∷ xs) last k r (inl is) = (let below = in_above x.number (xs ++ last ∷ []) last.number r.1 (in_second last.number xs (last ∷ []) (inl refl)) in omega (arith, is, below))
within_last low (x ∷ xs) last k r (inr i) = within_last x.number xs last k r.1 i

some_in : (logs : List LogContent) → 0 < length logs → (k : ℕ) × InLogs logs k
some_in [] some = absurd (omega (arith, some))
some_in (log ∷ logs) some = (log.number, inl refl)

-- a log with others after it isn't the last one
pub in_front_of_last : (low : ℕ) (logs front behind sealed : List LogContent) (last : LogContent) (n : ℕ) → NumbersRise low logs → logs ≡ front ++ behind → logs ≡ sealed ++ last ∷ [] → 0 < length behind → InLogs front n → n < last.number
in_front_of_last low logs front behind sealed last n r parts ends some i =
    let other = some_in behind some in
    let above = above_all low front behind n other.0 (subst (NumbersRise low) parts r) i other.1 in
    let there = subst (λ (ls : List LogContent). InLogs ls other.0) (sym parts ∙ ends) (in_second other.0 front behind other.1) in
    let most = within_last low sealed last other.0 (subst (NumbersRise low) ends r) there in
    omega (arith, above, most)

module _ (order : Order) (facts : Facts) (lost : Files) (least : ℕ) (tables : List TableContent) (entries : List Entry) (d : Directory) (logs : List LogContent) (m : Machine)
    (recent : AreRecent facts least tables entries d.logs m) (files : Files) (good : IsConsistent order files d) (whole : HasLogs facts.files d.logs) (cut : AreCut facts d.logs logs) (left : IsConsistent order lost (record d { logs = logs }))
    (same : (n : ℕ) → IsNumbered n → InLogs recent.parts.found n → n < least → IsKept facts (name_of (Log n)) ⊎ (get lost (name_of (Log n)) ≡ get facts.files (name_of (Log n)))) where
  abbrev found : List LogContent
  found = recent.parts.found

  abbrev kept : List LogContent
  kept = recent.parts.kept

  abbrev doubted : List LogContent
  doubted = recent.parts.doubted

  abbrev operations : List (List Operation)
  operations = drop recent.from m.batches

  parts : d.logs ≡ found ++ kept ++ doubted
  parts = recent.parts.all

  has : HasLogs facts.files ((found ++ kept) ++ doubted)
  has = subst (HasLogs facts.files) parts whole

  all_left : AllByRecursion (IsLeft facts lost) (found ++ kept)
  all_left = both_left facts lost found kept (found_left facts lost least found (front_logs facts.files found kept (front_logs facts.files (found ++ kept) doubted has)) recent.parts.before same)
      (kept_left facts lost kept recent.parts.synced)

  -- what is left of the logs that may be cut
  cuts : LeftFront facts lost (found ++ kept) doubted logs
  cuts = left_front facts lost 0 (found ++ kept) doubted logs (subst (λ (ls : List LogContent). AreCut facts ls logs) parts cut) has left.logs (subst (NumbersRise 0) parts good.rising) (λ n i present.
      let there = log_there facts.files ((found ++ kept) ++ doubted) n has i in
      let live = live_of d.layout d.logs n good.live (subst (λ (ls : List LogContent). InLogs ls n) (sym parts) i) in
      left.all n there.0 live present) all_left

  gone : (more : List Batch) × (batches_in doubted ≡ batches_in cuts.behind ++ more)
  gone = front_cuts facts doubted cuts.behind recent.parts.empty cuts.cut

  -- of the batches accepted since the first of them, the first are left
  abbrev remaining : List Batch
  remaining = batches_in kept ++ batches_in cuts.behind

  are_logged : AreLogged recent.start (remaining ++ gone.0) operations
  are_logged = subst (λ (bs : List Batch). AreLogged recent.start bs operations)
      (batches-append kept doubted ∙ ap (λ (bs : List Batch). batches_in kept ++ bs) gone.1 ∙ sym (append_assoc (batches_in kept) (batches_in cuts.behind) gone.0)) recent.recent

  s : SplitLogged recent.start remaining gone.0 operations
  s = split_logged recent.start remaining gone.0 operations are_logged

  abbrev reached : ℕ
  reached = recent.start + sum_by length (take (length remaining) operations)

  abbrev map_then : Contents
  map_then = view_at m (recent.from + length remaining)

  -- ---- its entries

  left_parts : batches_in logs ≡ batches_in found ++ remaining
  left_parts = cuts.batches ∙ ap (λ (bs : List Batch). bs ++ batches_in cuts.behind) (batches-append found kept) ∙ append_assoc (batches_in found) (batches_in kept) (batches_in cuts.behind)

  lost_behind : batches_in d.logs ≡ batches_in logs ++ gone.0
  lost_behind =
      ap batches_in parts
      ∙ batches-append (found ++ kept) doubted
      ∙ ap (λ (bs : List Batch). batches_in (found ++ kept) ++ bs) gone.1
      ∙ sym (append_assoc (batches_in (found ++ kept)) (batches_in cuts.behind) gone.0)
      ∙ ap (λ (bs : List Batch). bs ++ gone.0) (sym cuts.batches)

  entries_behind : entries ≡ tabled tables ++ logged d.logs → entries ≡ (tabled tables ++ logged logs) ++ batch_entries gone.0
  entries_behind are =
      let logged_behind : logged d.logs ≡ logged logs ++ batch_entries gone.0 =
      logged_in_batches d.logs ∙ ap batch_entries lost_behind ∙ batch_entries-append (batches_in logs) gone.0 ∙ ap (λ (es : List Entry). es ++ batch_entries gone.0) (sym (logged_in_batches logs)) in
      are ∙ ap (λ (es : List Entry). tabled tables ++ es) logged_behind ∙ sym (append_assoc (tabled tables) (logged logs) (batch_entries gone.0))

  upto_reached : AllUpTo reached (tabled tables ++ logged logs)
  upto_reached e i = elim (among_split (tabled tables) (logged logs) e i) [
    | inl table ↦ (let below : e.sequence ≤ recent.start = recent.below e (among_front (tabled tables) (logged found) e table) in omega (arith, below))
    | inr log ↦
        let in_parts : logged logs ≡ batch_entries (batches_in found) ++ batch_entries remaining = logged_in_batches logs ∙ ap batch_entries left_parts ∙ batch_entries-append (batches_in found) remaining in
        elim (among_split (batch_entries (batches_in found)) (batch_entries remaining) e (subst (λ (es : List Entry). Among es e) in_parts log)) [
          | inl old ↦
              let before : Among (logged found) e = subst (λ (es : List Entry). Among es e) (sym (logged_in_batches found)) old in
              (let below : e.sequence ≤ recent.start = recent.below e (among_back (tabled tables) (logged found) e before) in omega (arith, below))
          | inr new ↦ logged_within recent.start remaining (take (length remaining) operations) s.first e new
        ]
  ]

  -- at the sequence number of the last batch that is left the map is seen, and the same holds at
  -- any other that is above all that is left
  view_then : entries ≡ tabled tables ++ logged d.logs → IsView (tabled tables ++ logged logs) reached map_then
  view_then are =
      earlier_entries (tabled tables ++ logged logs) (batch_entries gone.0) reached map_then (λ e i. logged_above reached gone.0 (drop (length remaining) operations) s.second e i)
      (subst (λ (es : List Entry). IsView es reached map_then) (entries_behind are) (recent.past (length remaining) s.within))

  pub recent_cut : entries ≡ tabled tables ++ logged d.logs → tables ≡ d.tables
      → (k : ℕ) × (k ≤ length (drop recent.from m.batches)) × (m.synced ≤ recent.from + k) × Holds order lost (record m { batches = take (recent.from + k) m.batches; used = used_in (record d { logs = logs }) })
  recent_cut are listed =
      let bounded : AllUpTo (used_in (record d { logs = logs })) (tabled tables ++ logged logs) = directory_bounded order lost tables (logged logs) (used_in (record d { logs = logs })) (inr (record d { logs = logs }, left, listed, refl, refl)) in (
        length remaining,
        s.within,
        sure_left facts recent.from kept doubted cuts.behind m.synced recent.sure cuts.cut,
        record {
          entries = tabled tables ++ logged logs;
          directory = inr (record d { logs = logs }, left, (λ i. tabled (listed i) ++ logged logs), refl);
          view = all_seen (tabled tables ++ logged logs) reached (used_in (record d { logs = logs })) map_then upto_reached bounded (view_then are);
        },
      )
