-- Batches of logs beside the operations that they are: parts of them, one more, and their entries.
use Rattle.std.proofs.Common.{◌≡◌, inl, inr, ℕ, ◌+◌, ◌≤◌, ◌<◌, List, [], ◌∷◌, ◌++◌, length, take, drop, sum_by, refl, sym, ap, subst, ◌∙◌, arith, append_assoc}
use Rattle.std.proofs.lemmas.List.Sums.{sum_by-cons}
use Rattle.std.specs.List.{AllByRecursion}
use Rattle.batch.specs.declared.operation.Operation.{Operation}
use Rattle.ikey.proofs.SearchedSources.{among_split}
use Rattle.ikey.specs.Views.{Among, AllUpTo, Contents, IsView}
use Rattle.ikey.specs.declared.entry.Entry.{Entry}
use Rattle.recover.specs.Entries.{entries_of}
use Rattle.recover.specs.Logs.{Batch, LogContent, batch_entries, logged}
use Rattle.engine.proofs.EntryViews.{entry_sequence}
use Rattle.engine.proofs.LiveIds.{Among-old, entries_from}
use Rattle.engine.specs.internal.Recent.{AreLogged, batches_in}

-- ---- the batches of logs, and their entries

pub batches-append : (xs ys : List LogContent) → batches_in (xs ++ ys) ≡ batches_in xs ++ batches_in ys
batches-append [] ys = refl
batches-append (x ∷ xs) ys = ap (λ (bs : List Batch). x.batches ++ bs) (batches-append xs ys) ∙ sym (append_assoc x.batches (batches_in xs) (batches_in ys))

pub batch_entries-append : (front back : List Batch) → batch_entries (front ++ back) ≡ batch_entries front ++ batch_entries back
batch_entries-append [] back = refl
batch_entries-append (b ∷ front) back =
    ap (λ (es : List Entry). entries_of b.0 b.1 ++ es) (batch_entries-append front back) ∙ sym (append_assoc (entries_of b.0 b.1) (batch_entries front) (batch_entries back))

pub logged_in_batches : (logs : List LogContent) → logged logs ≡ batch_entries (batches_in logs)
logged_in_batches [] = refl
logged_in_batches (log ∷ logs) = ap (λ (es : List Entry). batch_entries log.batches ++ es) (logged_in_batches logs) ∙ sym (batch_entries-append log.batches (batches_in logs))

pub no_batches : (logs : List LogContent) → AllByRecursion (λ (log : LogContent). log.batches ≡ []) logs → batches_in logs ≡ []
no_batches [] h = refl
no_batches (log ∷ logs) h = ap (λ (bs : List Batch). bs ++ batches_in logs) h.0 ∙ no_batches logs h.1

-- ---- parts

-- The batches in front are the first of the operations, those after the others.
pub record SplitLogged (used : ℕ) (front back : List Batch) (operations : List (List Operation)) : Type 0 where
  pub within : length front ≤ length operations
  pub first : AreLogged used front (take (length front) operations)
  pub second : AreLogged (used + sum_by length (take (length front) operations)) back (drop (length front) operations)

pub split_logged : (used : ℕ) (front back : List Batch) (operations : List (List Operation)) → AreLogged used (front ++ back) operations → SplitLogged used front back operations
split_logged used [] back operations h =
    let none : used ≡ used + 0 = omega arith in
    record { within = omega arith; first = tt; second = subst (λ (n : ℕ). AreLogged n back operations) none h }
split_logged used (b ∷ front) back [] h = absurd h
split_logged used (b ∷ front) back (o ∷ operations) h =
    let s = split_logged (used + length o) front back operations h.2 in
    let sum : sum_by length (take (length (b ∷ front)) (o ∷ operations)) ≡ length o + sum_by length (take (length front) operations) = sum_by-cons length o (take (length front) operations) in
    let same : (used + length o) + sum_by length (take (length front) operations) ≡ used + sum_by length (take (length (b ∷ front)) (o ∷ operations)) = omega (arith, sum) in
    record {
      within = (let fewer = s.within in omega (arith, fewer));
      first = (h.0, h.1, s.first);
      second = subst (λ (n : ℕ). AreLogged n back (drop (length front) operations)) same s.second;
    }

pub logged_length : (used : ℕ) (batches : List Batch) (operations : List (List Operation)) → AreLogged used batches operations → length batches ≡ length operations
logged_length used [] [] h = refl
logged_length used [] (o ∷ operations) h = absurd h
logged_length used (b ∷ batches) [] h = absurd h
logged_length used (b ∷ batches) (o ∷ operations) h = (let rest = logged_length (used + length o) batches operations h.2 in omega (arith, rest))

-- one more
pub logged_more : (used first : ℕ) (batches : List Batch) (operations : List (List Operation)) (more : List Operation) → first ≡ used + sum_by length operations + 1 → AreLogged used batches operations
    → AreLogged used (batches ++ (first, more) ∷ []) (operations ++ more ∷ [])
logged_more used first [] [] more is h = ((let n : first ≡ used + 1 = omega (arith, is) in n), refl, tt)
logged_more used first [] (o ∷ operations) more is h = absurd h
logged_more used first (b ∷ batches) [] more is h = absurd h
logged_more used first (b ∷ batches) (o ∷ operations) more is h =
    let sum : sum_by length (o ∷ operations) ≡ length o + sum_by length operations = sum_by-cons length o operations in
    (h.0, h.1, logged_more (used + length o) first batches operations more (let n : first ≡ (used + length o) + sum_by length operations + 1 = omega (arith, is, sum) in n) h.2)

-- ---- sequence numbers

entries_below : (operations : List Operation) (first : ℕ) (e : Entry) → Among (entries_of first operations) e → e.sequence < first + length operations
entries_below [] first e h = absurd h
entries_below (operation ∷ operations) first e (inl is) = (let same : e.sequence ≡ first = ap (λ (x : Entry). x.sequence) is ∙ entry_sequence first operation in omega (arith, same))
entries_below (operation ∷ operations) first e (inr h) = (let rest : e.sequence < (first + 1) + length operations = entries_below operations (first + 1) e h in omega (arith, rest))

-- the entries of such batches are above what was used before them
pub logged_above : (used : ℕ) (batches : List Batch) (operations : List (List Operation)) → AreLogged used batches operations → (e : Entry) → Among (batch_entries batches) e → used < e.sequence
logged_above used [] operations h e i = absurd i
logged_above used (b ∷ batches) [] h e i = absurd h
logged_above used (b ∷ batches) (o ∷ operations) h e i = elim (among_split (entries_of b.0 b.1) (batch_entries batches) e i) [
  | inl here ↦ (let from : b.0 ≤ e.sequence = entries_from b.1 b.0 e here in let first : b.0 ≡ used + 1 = h.0 in omega (arith, from, first))
  | inr later ↦ (let rest : used + length o < e.sequence = logged_above (used + length o) batches operations h.2 e later in omega (arith, rest))
]

-- and none is above what is used after them
pub logged_within : (used : ℕ) (batches : List Batch) (operations : List (List Operation)) → AreLogged used batches operations → AllUpTo (used + sum_by length operations) (batch_entries batches)
logged_within used [] operations h e i = absurd i
logged_within used (b ∷ batches) [] h e i = absurd h
logged_within used (b ∷ batches) (o ∷ operations) h e i =
    let sum : sum_by length (o ∷ operations) ≡ length o + sum_by length operations = sum_by-cons length o operations in
    elim (among_split (entries_of b.0 b.1) (batch_entries batches) e i) [
      | inl here ↦
          let first : b.0 ≡ used + 1 = h.0 in
          let many : length b.1 ≡ length o = ap length h.1 in
          (let below : e.sequence < b.0 + length b.1 = entries_below b.1 b.0 e here in omega (arith, below, first, many, sum))
      | inr later ↦ (let rest : e.sequence ≤ (used + length o) + sum_by length operations = logged_within (used + length o) batches operations h.2 e later in omega (arith, rest, sum))
    ]

-- ---- views

-- entries after those that a view sees may go
pub earlier_entries : (front more : List Entry) (sequence : ℕ) (map : Contents) → ((e : Entry) → Among more e → sequence < e.sequence) → IsView (front ++ more) sequence map → IsView front sequence map
earlier_entries front more sequence map later view = record {
  found = λ e newest. view.found e (record {
    member = Among-old front more e newest.member;
    seen = newest.seen;
    greatest = λ other among same seen. elim (among_split front more other among) [
      | inl there ↦ newest.greatest other there same seen
      | inr new ↦ absurd (let past : sequence < other.sequence = later other new in omega (arith, past, seen))
    ];
  });
  missing = λ key unseen. view.missing key (λ e among same. elim (among_split front more e among) [ inl there ↦ unseen e there same | inr new ↦ later e new ]);
}

-- where all is seen at one sequence number, and at another
pub all_seen : (entries : List Entry) (sequence other : ℕ) (map : Contents) → AllUpTo sequence entries → AllUpTo other entries → IsView entries sequence map → IsView entries other map
all_seen entries sequence other map first second view = record {
  found = λ e newest. view.found e (record {
    member = newest.member;
    seen = first e newest.member;
    greatest = λ another among same seen. newest.greatest another among same (second another among);
  });
  missing = λ key unseen. view.missing key (λ e among same. absurd (let past : other < e.sequence = unseen e among same in let below : e.sequence ≤ other = second e among in omega (arith, past, below)));
}
