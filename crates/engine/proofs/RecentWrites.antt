-- What the logs that were begun have after an open, a write, a new log, and calls that leave them
-- alone.
use Rattle.std.proofs.Common.{◌≡◌, inl, inr, ℕ, ◌+◌, ◌-◌, ◌<◌, ◌≤◌, Bool, false, if◌then◌else◌, List, [], ◌∷◌, ◌++◌, length, length-append, take, drop, sum_by, refl, sym, ap, subst, ◌∙◌, arith, append_assoc, append-nil}
use Rattle.std.proofs.lemmas.Bool.{cases_lt}
use Rattle.std.proofs.lemmas.List.{drop-append-le, drop_all, length-drop, take-append-le, take_all}
use Rattle.std.proofs.lemmas.List.Sums.{sum_by-append, sum_by-take-le}
use Rattle.std.specs.FinMap.{get}
use Rattle.std.specs.List.{AllByRecursion}
use Rattle.batch.specs.declared.operation.Operation.{Operation}
use Rattle.edits.specs.Names.{name_of}
use Rattle.edits.specs.declared.names.FileName.TheVariants.{Log}
use Rattle.ikey.specs.Views.{AllUpTo, Contents, IsView}
use Rattle.ikey.specs.declared.entry.Entry.{Entry}
use Rattle.machine.specs.Machine.{Machine, after_batch, after_batches, current, view_at}
use Rattle.opening.specs.Losses.{IsKept}
use Rattle.recover.proofs.Adding.{logs_back}
use Rattle.recover.specs.Entries.{entries_of}
use Rattle.recover.specs.Logs.{Batch, HasLogs, InLogs, LogContent, logged}
use Rattle.recover.specs.Tables.{TableContent, tabled}
use Rattle.store.specs.Files.{Facts}
use Rattle.engine.proofs.EntryViews.{view_batch}
use Rattle.engine.proofs.LiveIds.{entries_from, later_entries}
use Rattle.engine.proofs.RecentBatches.{batches-append, logged_length, logged_more, no_batches}
use Rattle.engine.proofs.RecentLosses.{in_first, in_second}
use Rattle.engine.proofs.RecentSure.{SyncsMore, sure_behind, sure_front, sure_same, sure_sealed, sure_still}
use Rattle.engine.specs.internal.Logs.{LeavesOrSyncs}
use Rattle.engine.specs.internal.Recent.{AreEmptyBehind, AreLogged, AreParts, AreRecent, AreSure, batches_in}

-- ---- lists of logs

all_front : {X : Type 0} (P : X → Type 0) (xs ys : List X) → AllByRecursion P (xs ++ ys) → AllByRecursion P xs
all_front P [] ys h = tt
all_front P (x ∷ xs) ys h = (h.0, all_front P xs ys h.1)

all_behind : {X : Type 0} (P : X → Type 0) (xs ys : List X) → AllByRecursion P (xs ++ ys) → AllByRecursion P ys
all_behind P [] ys h = h
all_behind P (x ∷ xs) ys h = all_behind P xs ys h.1

all_pushed : {X : Type 0} (P : X → Type 0) (xs : List X) (x : X) → AllByRecursion P xs → P x → AllByRecursion P (xs ++ x ∷ [])
all_pushed P [] x h p = (p, tt)
all_pushed P (y ∷ xs) x h p = (h.0, all_pushed P xs x h.1 p)

-- The last of the logs is one of the others, if there are any: those that were found lie before it.
pub record BehindFound (front found others : List LogContent) (last : LogContent) : Type 0 where
  pub since : List LogContent
  pub in_front : front ≡ found ++ since
  pub rest : others ≡ since ++ last ∷ []

pub behind_found : (front found others : List LogContent) (last : LogContent) → front ++ last ∷ [] ≡ found ++ others → 0 < length others → BehindFound front found others last
behind_found front [] others last is some = record { since = front; in_front = refl; rest = sym is }
behind_found [] (log ∷ found) others last is some =
    let one : 1 ≡ length (log ∷ found) + length others = ap length is ∙ length-append (log ∷ found) others in
    absurd (omega (arith, one, some))
behind_found (x ∷ front) (log ∷ found) others last is some =
    let first : x ≡ log = cc in
    let later : front ++ last ∷ [] ≡ found ++ others = cc in
    let b = behind_found front found others last later some in
    record { since = b.since; in_front = (λ i. first i ∷ b.in_front i); rest = b.rest }

-- that which writes go to may be cut
pub behind_parts : (facts : Facts) (least : ℕ) (front : List LogContent) (last : LogContent) → (p : AreParts facts least (front ++ last ∷ [])) → BehindFound front p.found (p.kept ++ p.doubted) last
behind_parts facts least front last p =
    let longer : length (p.kept ++ p.doubted) ≡ length p.kept + length p.doubted = length-append p.kept p.doubted in
    behind_found front p.found (p.kept ++ p.doubted) last (p.all ∙ append_assoc p.found p.kept p.doubted) (let some : 0 < length p.doubted = p.some in omega (arith, longer, some))

-- ---- calls that leave the logs alone

kept_on : (old new : Facts) (logs : List LogContent) → ((n : ℕ) → InLogs logs n → IsKept old (name_of (Log n)) → IsKept new (name_of (Log n))) → AllByRecursion (λ (log : LogContent). IsKept old (name_of (Log log.number))) logs
    → AllByRecursion (λ (log : LogContent). IsKept new (name_of (Log log.number))) logs
kept_on old new [] keeps h = tt
kept_on old new (log ∷ logs) keeps h = (keeps log.number (inl refl) h.0, kept_on old new logs (λ n i. keeps n (inr i)) h.1)

-- with what is synced of them
recent_over : (old new : Facts) (least : ℕ) (tables : List TableContent) (entries : List Entry) (logs : List LogContent) (m : Machine) → (h : AreRecent old least tables entries logs m)
    → AllByRecursion (λ (log : LogContent). IsKept new (name_of (Log log.number))) h.parts.kept → AreSure new h.from h.parts.kept h.parts.doubted m.synced → AreRecent new least tables entries logs m
recent_over old new least tables entries logs m h kept sure =
    let p = h.parts in
    record {
      parts = record { found = p.found; kept = p.kept; doubted = p.doubted; all = p.all; before = p.before; synced = kept; empty = p.empty; some = p.some };
      from = h.from;
      within = h.within;
      start = h.start;
      spent = h.spent;
      recent = h.recent;
      below = h.below;
      past = h.past;
      sure = sure;
    }

among_kept : (facts : Facts) (least : ℕ) (logs : List LogContent) (p : AreParts facts least logs) (n : ℕ) → InLogs p.kept n → InLogs logs n
among_kept facts least logs p n i = subst (λ (ls : List LogContent). InLogs ls n) (sym p.all) (in_first n (p.found ++ p.kept) p.doubted (in_second n p.found p.kept i))

among_doubted : (facts : Facts) (least : ℕ) (logs : List LogContent) (p : AreParts facts least logs) (n : ℕ) → InLogs p.doubted n → InLogs logs n
among_doubted facts least logs p n i = subst (λ (ls : List LogContent). InLogs ls n) (sym p.all) (in_second n (p.found ++ p.kept) p.doubted i)

pub left_kept : (old new : Facts) (q : List ℕ) → get new.files q ≡ get old.files q → LeavesOrSyncs old new q → IsKept old q → IsKept new q
left_kept old new q same (inl left) kept bytes there = left ∙ kept bytes (sym same ∙ there)
left_kept old new q same (inr whole) kept bytes there = whole ∙ there

-- the same files, and what is synced of each is as before, or all of it
pub recent_kept : (old new : Facts) (least : ℕ) (tables : List TableContent) (entries : List Entry) (logs : List LogContent) (m : Machine) → HasLogs new.files logs
    → ((n : ℕ) → InLogs logs n → (get new.files (name_of (Log n)) ≡ get old.files (name_of (Log n))) × LeavesOrSyncs old new (name_of (Log n)))
    → AreRecent old least tables entries logs m → AreRecent new least tables entries logs m
recent_kept old new least tables entries logs m has same h =
    let p = h.parts in
    recent_over old new least tables entries logs m h
    (kept_on old new p.kept (λ n i. let is = same n (among_kept old least logs p n i) in left_kept old new (name_of (Log n)) is.0 is.1) p.synced)
    (sure_still old new h.from p.kept p.doubted m.synced (logs_back new.files (p.found ++ p.kept) p.doubted (subst (HasLogs new.files) p.all has)) (λ n i. (same n (among_doubted old least logs p n i)).1) h.sure)

-- the same files, and the same of them is synced
pub recent_same : (old new : Facts) (least : ℕ) (tables : List TableContent) (entries : List Entry) (logs : List LogContent) (m : Machine)
    → ((n : ℕ) → InLogs logs n → (get new.files (name_of (Log n)) ≡ get old.files (name_of (Log n))) × (new.synced (name_of (Log n)) ≡ old.synced (name_of (Log n))))
    → AreRecent old least tables entries logs m → AreRecent new least tables entries logs m
recent_same old new least tables entries logs m same h =
    let p = h.parts in
    recent_over old new least tables entries logs m h
    (kept_on old new p.kept (λ n i. let is = same n (among_kept old least logs p n i) in left_kept old new (name_of (Log n)) is.0 (inl is.1)) p.synced)
    (sure_same old new h.from p.kept p.doubted m.synced (λ n i. (same n (among_doubted old least logs p n i)).1) h.sure)

-- ---- an open

none_taken : (n k : ℕ) (bs : List (List Operation)) → bs ≡ [] → n + sum_by length (take k bs) ≡ n
none_taken n k bs is =
    let all : take k bs ≡ [] = take_all k bs (let short : length bs ≡ 0 = ap length is in omega (arith, short)) ∙ is in
    ap (λ (os : List (List Operation)). n + sum_by length os) all ∙ (let more : n + 0 ≡ n = omega arith in more)

-- after it all that was accepted lies before the new log, which is empty
pub recent_opened : (facts : Facts) (least : ℕ) (tables : List TableContent) (entries : List Entry) (found : List LogContent) (log : LogContent) (m : Machine) → AllByRecursion (λ (other : LogContent). other.number < least) found → log.batches ≡ []
    → AllUpTo m.used (tabled tables ++ logged found) → IsView entries m.used (current m) → m.synced ≤ length m.batches → AreRecent facts least tables entries (found ++ log ∷ []) m
recent_opened facts least tables entries found log m before empty below view reached =
    let none : drop (length m.batches) m.batches ≡ [] = drop_all (length m.batches) m.batches (omega arith) in
    record {
      parts = record { found = found; kept = []; doubted = log ∷ []; all = ap (λ (logs : List LogContent). logs ++ log ∷ []) (sym (append-nil found)); before = before; synced = tt; empty = tt; some = omega arith };
      from = length m.batches;
      within = omega arith;
      start = m.used;
      spent = ap (λ (bs : List (List Operation)). m.used + sum_by length bs) none ∙ (let more : m.used + 0 ≡ m.used = omega arith in more);
      recent = subst (λ (bs : List (List Operation)). AreLogged m.used (log.batches ++ []) bs) (sym none) (subst (λ (bs : List Batch). AreLogged m.used (bs ++ []) []) (sym empty) tt);
      below = below;
      past = λ k le.
          let first : k ≡ 0 = (let fewer = ap length none in omega (arith, le, fewer)) in
          let at : m.used + sum_by length (take k (drop (length m.batches) m.batches)) ≡ m.used = none_taken m.used k (drop (length m.batches) m.batches) none in
          subst (λ (c : Contents). IsView entries (m.used + sum_by length (take k (drop (length m.batches) m.batches))) c) (sym (ap (after_batches m.base) (take_all (length m.batches + k) m.batches (omega arith))))
          (subst (λ (n : ℕ). IsView entries n (current m)) (sym at) view);
      sure = sure_front facts (length m.batches) [] (log ∷ []) m.synced reached;
    }

-- ---- one more log

empty_pushed : (logs : List LogContent) (log : LogContent) → log.batches ≡ [] → AreEmptyBehind logs → AreEmptyBehind (logs ++ log ∷ [])
empty_pushed [] log empty h = tt
empty_pushed (x ∷ logs) log empty h = all_pushed (λ (other : LogContent). other.batches ≡ []) logs log h empty

pub recent_sealed : (facts : Facts) (least : ℕ) (tables : List TableContent) (entries : List Entry) (logs : List LogContent) (log : LogContent) (m : Machine) → log.batches ≡ []
    → AreRecent facts least tables entries logs m → AreRecent facts least tables entries (logs ++ log ∷ []) m
recent_sealed facts least tables entries logs log m empty h =
    let p = h.parts in
    let none : batches_in (log ∷ []) ≡ [] = no_batches (log ∷ []) (empty, tt) in
    let same : batches_in (p.kept ++ (p.doubted ++ log ∷ [])) ≡ batches_in (p.kept ++ p.doubted) =
    ap batches_in (sym (append_assoc p.kept p.doubted (log ∷ [])))
    ∙ batches-append (p.kept ++ p.doubted) (log ∷ [])
    ∙ ap (λ (bs : List Batch). batches_in (p.kept ++ p.doubted) ++ bs) none
    ∙ append-nil (batches_in (p.kept ++ p.doubted)) in
    record {
      parts = record {
        found = p.found;
        kept = p.kept;
        doubted = p.doubted ++ log ∷ [];
        all = ap (λ (ls : List LogContent). ls ++ log ∷ []) p.all ∙ append_assoc (p.found ++ p.kept) p.doubted (log ∷ []);
        before = p.before;
        synced = p.synced;
        empty = empty_pushed p.doubted log empty p.empty;
        some = (let longer : length (p.doubted ++ log ∷ []) ≡ length p.doubted + 1 = length-append p.doubted (log ∷ []) in omega (arith, longer));
      };
      from = h.from;
      within = h.within;
      start = h.start;
      spent = h.spent;
      recent = subst (λ (bs : List Batch). AreLogged h.start bs (drop h.from m.batches)) (sym same) h.recent;
      below = h.below;
      past = h.past;
      sure = sure_sealed facts h.from p.kept p.doubted log m.synced h.sure;
    }

-- ---- a write

pushed : (map : Contents) (batches : List (List Operation)) (batch : List Operation) → after_batches map (batches ++ batch ∷ []) ≡ after_batch (after_batches map batches) batch
pushed map [] batch = refl
pushed map (first ∷ batches) batch = pushed (after_batch map first) batches batch

-- the map of now is that after the last of them
pub recent_now : (facts : Facts) (least : ℕ) (tables : List TableContent) (entries : List Entry) (logs : List LogContent) (m : Machine) → AreRecent facts least tables entries logs m → IsView entries m.used (current m)
recent_now facts least tables entries logs m h =
    let operations = drop h.from m.batches in
    let many : length operations ≡ length m.batches - h.from = length-drop h.from m.batches in
    let within : h.from ≤ length m.batches = h.within in
    let all : take (length operations) operations ≡ operations = take_all (length operations) operations (omega arith) in
    let at : h.start + sum_by length (take (length operations) operations) ≡ m.used = ap (λ (bs : List (List Operation)). h.start + sum_by length bs) all ∙ h.spent in
    let whole : take (h.from + length operations) m.batches ≡ m.batches = take_all (h.from + length operations) m.batches (omega (arith, many, within)) in
    subst (λ (c : Contents). IsView entries m.used c) (ap (after_batches m.base) whole) (subst (λ (n : ℕ). IsView entries n (view_at m (h.from + length operations))) at (h.past (length operations) (omega arith)))

module _ (sync : Bool) (old new : Facts) (least : ℕ) (tables : List TableContent) (entries : List Entry) (front : List LogContent) (last more : LogContent) (m n : Machine) (operations : List Operation)
    (h : AreRecent old least tables entries (front ++ last ∷ []) m) (written : more.batches ≡ last.batches ++ (m.used + 1, operations) ∷ [])
    (synced : AllByRecursion (λ (log : LogContent). IsKept new (name_of (Log log.number))) front)
    (base : n.base ≡ m.base) (batches : n.batches ≡ m.batches ++ operations ∷ []) (used : n.used ≡ m.used + length operations) (bounded : AllUpTo m.used entries)
    (number : more.number ≡ last.number) (reaches : n.synced ≡ (if sync then length m.batches + 1 else m.synced)) (syncs : SyncsMore sync old new last more) where
  abbrev before : List (List Operation)
  before = drop h.from m.batches

  abbrev after : List (List Operation)
  after = drop h.from n.batches

  abbrev p : AreParts old least (front ++ last ∷ [])
  p = h.parts

  behind : BehindFound front p.found (p.kept ++ p.doubted) last
  behind = behind_parts old least front last p

  one_more : after ≡ before ++ operations ∷ []
  one_more = ap (drop h.from) batches ∙ drop-append-le h.from m.batches (operations ∷ []) h.within

  same_batches : batches_in (behind.since ++ more ∷ []) ≡ batches_in (p.kept ++ p.doubted) ++ (m.used + 1, operations) ∷ []
  same_batches =
      let since = batches_in behind.since in
      let was : batches_in (p.kept ++ p.doubted) ≡ since ++ last.batches = ap batches_in behind.rest ∙ batches-append behind.since (last ∷ []) ∙ ap (λ (bs : List Batch). since ++ bs) (append-nil last.batches) in
      batches-append behind.since (more ∷ [])
      ∙ ap (λ (bs : List Batch). since ++ bs) (append-nil more.batches ∙ written)
      ∙ sym (append_assoc since last.batches ((m.used + 1, operations) ∷ []))
      ∙ ap (λ (bs : List Batch). bs ++ (m.used + 1, operations) ∷ []) (sym was)

  are_logged : AreLogged h.start (batches_in (behind.since ++ more ∷ [])) after
  are_logged =
      let next : m.used + 1 ≡ h.start + sum_by length before + 1 = ap (λ (k : ℕ). k + 1) (sym h.spent) in
      subst (λ (os : List (List Operation)). AreLogged h.start (batches_in (behind.since ++ more ∷ [])) os) (sym one_more)
      (subst (λ (bs : List Batch). AreLogged h.start bs (before ++ operations ∷ [])) (sym same_batches) (logged_more h.start (m.used + 1) (batches_in (p.kept ++ p.doubted)) before operations next h.recent))

  spent_on : h.start + sum_by length after ≡ n.used
  spent_on =
      let sum : sum_by length after ≡ sum_by length before + sum_by length (operations ∷ []) = ap (sum_by length) one_more ∙ sum_by-append length before (operations ∷ []) in
      let one : sum_by length (operations ∷ []) ≡ length operations = omega arith in
      let was : h.start + sum_by length before ≡ m.used = h.spent in
      omega (arith, sum, one, was, used)

  -- after a batch that was there
  past_on : (k : ℕ) → k ≤ length before → IsView (entries ++ entries_of (m.used + 1) operations) (h.start + sum_by length (take k after)) (view_at n (h.from + k))
  past_on k le =
      let same : take k after ≡ take k before = ap (take k) one_more ∙ take-append-le k before (operations ∷ []) le in
      let many : length before ≡ length m.batches - h.from = length-drop h.from m.batches in
      let within : h.from ≤ length m.batches = h.within in
      let map_same : view_at m (h.from + k) ≡ view_at n (h.from + k) =
      ap (after_batches m.base) (sym (take-append-le (h.from + k) m.batches (operations ∷ []) (omega (arith, le, many, within))))
      ∙ sym (λ i. after_batches (base i) (take (h.from + k) (batches i))) in
      let least_used : h.start + sum_by length (take k before) ≤ m.used = (let part = sum_by-take-le length before k in let was = h.spent in omega (arith, part, was)) in
      subst (λ (os : List (List Operation)). IsView (entries ++ entries_of (m.used + 1) operations) (h.start + sum_by length os) (view_at n (h.from + k))) (sym same)
      (subst (λ (c : Contents). IsView (entries ++ entries_of (m.used + 1) operations) (h.start + sum_by length (take k before)) c) map_same
      (later_entries entries (entries_of (m.used + 1) operations) (h.start + sum_by length (take k before)) (view_at m (h.from + k)) (λ e i. (let above : m.used + 1 ≤ e.sequence = entries_from operations (m.used + 1) e i in omega (arith, above, least_used))) (h.past k le)))

  -- and after the new one
  now : IsView (entries ++ entries_of (m.used + 1) operations) n.used (current n)
  now =
      let view = (view_batch operations entries m.used (current m) (recent_now old least tables entries (front ++ last ∷ []) m h) bounded).0 in
      let map_is : after_batch (current m) operations ≡ current n = sym (pushed m.base m.batches operations) ∙ sym (λ i. after_batches (base i) (batches i)) in
      subst (λ (c : Contents). IsView (entries ++ entries_of (m.used + 1) operations) n.used c) map_is
      (subst (λ (k : ℕ). IsView (entries ++ entries_of (m.used + 1) operations) k (after_batch (current m) operations)) (sym used) view)

  past_all : (k : ℕ) → k ≤ length after → IsView (entries ++ entries_of (m.used + 1) operations) (h.start + sum_by length (take k after)) (view_at n (h.from + k))
  past_all k le = elim (cases_lt (length before) k) [
    | inl above ↦
        let longer : length after ≡ length before + 1 = ap length one_more ∙ length-append before (operations ∷ []) in
        let many : length after ≡ length n.batches - h.from = length-drop h.from n.batches in
        let all : take k after ≡ after = take_all k after (omega (arith, above, longer)) in
        let whole : take (h.from + k) n.batches ≡ n.batches = take_all (h.from + k) n.batches (omega (arith, above, longer, many)) in
        let at : n.used ≡ h.start + sum_by length (take k after) = sym spent_on ∙ ap (λ (os : List (List Operation)). h.start + sum_by length os) (sym all) in
        subst (λ (c : Contents). IsView (entries ++ entries_of (m.used + 1) operations) (h.start + sum_by length (take k after)) c) (ap (after_batches n.base) (sym whole))
        (subst (λ (s : ℕ). IsView (entries ++ entries_of (m.used + 1) operations) s (current n)) at now)
    | inr le_before ↦ past_on k le_before
  ]

  longer : length n.batches ≡ length m.batches + 1
  longer = ap length batches ∙ length-append m.batches (operations ∷ [])

  -- with sync all that was accepted is durable
  all_there : h.from + length (batches_in (behind.since ++ more ∷ [])) ≡ length m.batches + 1
  all_there =
      let many = logged_length h.start (batches_in (behind.since ++ more ∷ [])) after are_logged in
      let dropped : length after ≡ length n.batches - h.from = length-drop h.from n.batches in
      let within : h.from ≤ length m.batches = h.within in
      omega (arith, many, dropped, longer, within)

  sure_now : AreSure new h.from behind.since (more ∷ []) n.synced
  sure_now =
      let grown : length more.batches ≡ length last.batches + 1 = ap length written ∙ length-append last.batches ((m.used + 1, operations) ∷ []) in
      sure_behind sync old new h.from p.kept p.doubted behind.since last more m.synced (length m.batches + 1) n.synced behind.rest p.some number (omega (arith, grown)) all_there reaches syncs h.sure

  -- the logs in front were synced whole for it
  pub recent_written : AreRecent new least tables (entries ++ entries_of (m.used + 1) operations) (front ++ more ∷ []) n
  recent_written = record {
    parts = record {
      found = p.found;
      kept = behind.since;
      doubted = more ∷ [];
      all = ap (λ (ls : List LogContent). ls ++ more ∷ []) behind.in_front;
      before = p.before;
      synced = all_behind (λ (log : LogContent). IsKept new (name_of (Log log.number))) p.found behind.since (subst (AllByRecursion (λ (log : LogContent). IsKept new (name_of (Log log.number)))) behind.in_front synced);
      empty = tt;
      some = omega arith;
    };
    from = h.from;
    within = (let was : h.from ≤ length m.batches = h.within in omega (arith, longer, was));
    start = h.start;
    spent = spent_on;
    recent = are_logged;
    below = h.below;
    past = past_all;
    sure = sure_now;
  }

-- Or it has the same batches, since its record was cut.
pub recent_torn : (old new : Facts) (least : ℕ) (tables : List TableContent) (entries : List Entry) (front : List LogContent) (last next : LogContent) (m : Machine) → AreRecent old least tables entries (front ++ last ∷ []) m → next.number ≡ last.number
    → next.batches ≡ last.batches → AllByRecursion (λ (log : LogContent). IsKept new (name_of (Log log.number))) front → new.synced (name_of (Log last.number)) ≡ old.synced (name_of (Log last.number)) → AreRecent new least tables entries (front ++ next ∷ []) m
recent_torn old new least tables entries front last next m h number same synced left =
    let p = h.parts in
    let behind = behind_parts old least front last p in
    let same_batches : batches_in (behind.since ++ next ∷ []) ≡ batches_in (p.kept ++ p.doubted) =
    batches-append behind.since (next ∷ []) ∙ ap (λ (bs : List Batch). batches_in behind.since ++ (bs ++ [])) same ∙ sym (batches-append behind.since (last ∷ [])) ∙ ap batches_in (sym behind.rest) in
    record {
      parts = record {
        found = p.found;
        kept = behind.since;
        doubted = next ∷ [];
        all = ap (λ (ls : List LogContent). ls ++ next ∷ []) behind.in_front;
        before = p.before;
        synced = all_behind (λ (log : LogContent). IsKept new (name_of (Log log.number))) p.found behind.since (subst (AllByRecursion (λ (log : LogContent). IsKept new (name_of (Log log.number)))) behind.in_front synced);
        empty = tt;
        some = omega arith;
      };
      from = h.from;
      within = h.within;
      start = h.start;
      spent = h.spent;
      recent = subst (λ (bs : List Batch). AreLogged h.start bs (drop h.from m.batches)) (sym same_batches) h.recent;
      below = h.below;
      past = h.past;
      sure = sure_behind false old new h.from p.kept p.doubted behind.since last next m.synced (h.from + length (batches_in (behind.since ++ next ∷ []))) m.synced behind.rest p.some number
          (let long = ap length same in omega (arith, long)) refl refl left h.sure;
    }
