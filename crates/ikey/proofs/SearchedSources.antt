-- Entries in several sources that are searched one after the other.
use Rattle.std.proofs.Common.{◌≡◌, ◌⊎◌, inl, inr, ◌<◌, ◌≤◌, ℕ, Option, Some, None, List, [], ◌∷◌, ◌++◌, refl, sym, ap, ◌∙◌, subst, arith}
use Rattle.std.proofs.lemmas.Bool.{cases_lt}
use Rattle.std.specs.List.{AllByRecursion}
use Rattle.std.specs.Cmp.{IsTotalOrder, tied_itself}
use Rattle.std.specs.declared.cmp.Ordering.{Ordering}
use Rattle.std.specs.declared.cmp.Ordering.TheVariants.{Less, Equal}
use Rattle.ikey.specs.declared.entry.Entry.{Entry}
use Rattle.ikey.specs.Orders.{Order}
use Rattle.ikey.specs.Views.{Among, IsNewest, IsUnseen, IsValueAt}
use Rattle.ikey.specs.Sources.{IsNewerThan, joined, AreSearched, AreSearchedByTwo, SameEntries, FrontLaw, BehindLaw, FoundLaw, MissedLaw, ByTwoLaw, GrownLaw, ReplacedLaw, SameViewLaw, ComesBefore, AreSorted, ComesBeforeSought, SoughtLaw, AllBeforeLaw, ComesAllBefore, AreInRow, RowLaw, RowAnswerLaw}

-- ---- members

pub among_split : (xs ys : List Entry) (e : Entry) → Among (xs ++ ys) e → Among xs e ⊎ Among ys e
among_split [] ys e i = inr i
among_split (x ∷ xs) ys e (inl same) = inl (inl same)
among_split (x ∷ xs) ys e (inr i) = elim (among_split xs ys e i) [ inl j ↦ inl (inr j) | inr j ↦ inr j ]

pub among_front : (xs ys : List Entry) (e : Entry) → Among xs e → Among (xs ++ ys) e
among_front [] ys e i = absurd i
among_front (x ∷ xs) ys e (inl same) = inl same
among_front (x ∷ xs) ys e (inr i) = inr (among_front xs ys e i)

pub among_back : (xs ys : List Entry) (e : Entry) → Among ys e → Among (xs ++ ys) e
among_back [] ys e i = i
among_back (x ∷ xs) ys e i = inr (among_back xs ys e i)

all_of : (P : Entry → Type 0) (xs : List Entry) (e : Entry) → AllByRecursion P xs → Among xs e → P e
all_of P [] e h i = absurd i
all_of P (x ∷ xs) e h (inl same) = subst P (sym same) h.0
all_of P (x ∷ xs) e h (inr i) = all_of P xs e h.1 i

-- ---- a search

pub in_front : FrontLaw
in_front front back sequence entry newer h = record {
  member = among_front front back entry h.member;
  seen = h.seen;
  greatest = λ other i key below. elim (among_split front back other i) [
    | inl j ↦ h.greatest other j key below
    | inr j ↦ let older : other.sequence < entry.sequence = newer entry other h.member j (sym key) in omega (arith, older)
  ];
}

pub behind_newest : (front back : List Entry) (sequence : ℕ) (entry : Entry) → IsUnseen front sequence entry.key → IsNewest back sequence entry → IsNewest (front ++ back) sequence entry
behind_newest front back sequence entry unseen h = record {
  member = among_back front back entry h.member;
  seen = h.seen;
  greatest = λ other i key below. elim (among_split front back other i) [
    | inl j ↦ let above : sequence < other.sequence = unseen other j key in absurd (omega (arith, above, below))
    | inr j ↦ h.greatest other j key below
  ];
}

pub is_behind : BehindLaw
is_behind front back sequence key value unseen (inl h) =
    inl (h.0, behind_newest front back sequence h.0 (subst (λ (k : List ℕ). IsUnseen front sequence k) (sym h.2) unseen) h.1, h.2, h.3)
is_behind front back sequence key value unseen (inr h) =
    inr (λ entry i same. elim (among_split front back entry i) [ inl j ↦ unseen entry j same | inr j ↦ h.0 entry j same ], h.1)

pub first_found : FoundLaw
first_found [] source behind sequence key value searched unseen answer =
    inl (answer.0, in_front source (joined behind) sequence answer.0 searched.0 answer.1, answer.2, answer.3)
first_found (s ∷ front) source behind sequence key value searched unseen answer =
    is_behind s (joined (front ++ source ∷ behind)) sequence key value unseen.0 (first_found front source behind sequence key value searched.1 unseen.1 answer)

pub none_found : MissedLaw
none_found [] sequence key unseen = inr (λ entry i same. absurd i, refl)
none_found (s ∷ sources) sequence key unseen = is_behind s (joined sources) sequence key None unseen.0 (none_found sources sequence key unseen.1)

-- ---- what keeps sources searched

newer_all : (source : List Entry) (sources : List (List Entry)) → IsNewerThan source (joined sources) → AllByRecursion (IsNewerThan source) sources
newer_all source [] h = tt
newer_all source (s ∷ sources) h =
    (λ a b i j key. h a b i (among_front s (joined sources) b j) key, newer_all source sources (λ a b i j key. h a b i (among_back s (joined sources) b j) key))

all_newer : (source : List Entry) (sources : List (List Entry)) → AllByRecursion (IsNewerThan source) sources → IsNewerThan source (joined sources)
all_newer source [] h a b i j key = absurd j
all_newer source (s ∷ sources) h a b i j key = elim (among_split s (joined sources) b j) [
  | inl k ↦ h.0 a b i k key
  | inr k ↦ all_newer source sources h.1 a b i k key
]

to_two : (sources : List (List Entry)) → AreSearched sources → AreSearchedByTwo sources
to_two [] h = tt
to_two (s ∷ sources) h = (newer_all s sources h.0, to_two sources h.1)

from_two : (sources : List (List Entry)) → AreSearchedByTwo sources → AreSearched sources
from_two [] h = tt
from_two (s ∷ sources) h = (all_newer s sources h.0, from_two sources h.1)

pub by_two : ByTwoLaw
by_two sources = (to_two sources, from_two sources)

pub grown : GrownLaw
grown first more sources used h bound above = (
  λ a b i j key. elim (among_split first more a i) [
    | inl k ↦ h.0 a b k j key
    | inr k ↦
        let below = bound b (among_back first (joined sources) b j) in
        let new = above a k in
        omega (arith, below, new)
  ],
  h.1,
)

pub replaced : ReplacedLaw
replaced [] old new behind same h = (
  (λ a b i j key. h.0 a b ((same a).1 i) j key, h.1),
  λ e. (
    λ i. elim (among_split old (joined behind) e i) [ inl j ↦ among_front new (joined behind) e ((same e).0 j) | inr j ↦ among_back new (joined behind) e j ],
    λ i. elim (among_split new (joined behind) e i) [ inl j ↦ among_front old (joined behind) e ((same e).1 j) | inr j ↦ among_back old (joined behind) e j ],
  ),
)
replaced (s ∷ front) old new behind same h =
    let rest = replaced front old new behind same h.1 in
    let before = joined (front ++ old ∷ behind) in
    let after = joined (front ++ new ∷ behind) in (
      (λ a b i j key. h.0 a b i ((rest.1 b).1 j) key, rest.0),
      λ e. (
        λ i. elim (among_split s before e i) [ inl j ↦ among_front s after e j | inr j ↦ among_back s after e ((rest.1 e).0 j) ],
        λ i. elim (among_split s after e i) [ inl j ↦ among_front s before e j | inr j ↦ among_back s before e ((rest.1 e).1 j) ],
      ),
    )

newest_too : (xs ys : List Entry) (sequence : ℕ) (entry : Entry) → SameEntries xs ys → IsNewest xs sequence entry → IsNewest ys sequence entry
newest_too xs ys sequence entry same h = record {
  member = (same entry).0 h.member;
  seen = h.seen;
  greatest = λ other i key below. h.greatest other ((same other).1 i) key below;
}

turned : (xs ys : List Entry) → SameEntries xs ys → SameEntries ys xs
turned xs ys same e = ((same e).1, (same e).0)

value_too : (xs ys : List Entry) (sequence : ℕ) (key : List ℕ) (value : Option (List ℕ)) → SameEntries xs ys → IsValueAt xs sequence key value → IsValueAt ys sequence key value
value_too xs ys sequence key value same (inl h) = inl (h.0, newest_too xs ys sequence h.0 same h.1, h.2, h.3)
value_too xs ys sequence key value same (inr h) = inr (λ entry i is. h.0 entry ((same entry).1 i) is, h.1)

pub same_view : SameViewLaw
same_view xs ys sequence same = (
  λ map view. record {
    found = λ entry h. view.found entry (newest_too ys xs sequence entry (turned xs ys same) h);
    missing = λ key unseen. view.missing key (λ entry i is. unseen entry ((same entry).0 i) is);
  },
  λ key value h. value_too xs ys sequence key value same h,
)

-- ---- a search in one source that is sorted

not_less : (cmp : List ℕ → List ℕ → Ordering) (a b : List ℕ) → IsTotalOrder cmp → a ≡ b → cmp a b ≡ Less → ⊥
not_less cmp a b total same less =
    let here : cmp b b ≡ Less = subst (λ (k : List ℕ). cmp k b ≡ Less) same less in
    let t : Equal ≡ Less = sym (tied_itself total b) ∙ here in
    cc

before_unseen : (order : Order) (sequence : ℕ) (key : List ℕ) (entry : Entry) → IsTotalOrder order.cmp → ComesBeforeSought order sequence key entry → entry.key ≡ key → sequence < entry.sequence
before_unseen order sequence key entry total (inl less) same = absurd (not_less order.cmp entry.key key total same less)
before_unseen order sequence key entry total (inr h) same = h.1

pub all_before : AllBeforeLaw
all_before order entries sequence key total h entry i same = before_unseen order sequence key entry total (all_of (ComesBeforeSought order sequence key) entries entry h i) same

behind_of : (order : Order) (front : List Entry) (entry : Entry) (back : List Entry) → AreSorted order (front ++ entry ∷ back) → (other : Entry) → Among back other → ComesBefore order entry other
behind_of order [] entry back h other i = h.0 other i
behind_of order (x ∷ front) entry back h other i = behind_of order front entry back h.1 other i

older_behind : (order : Order) (a b : Entry) → IsTotalOrder order.cmp → ComesBefore order a b → b.key ≡ a.key → b.sequence < a.sequence
older_behind order a b total (inl less) same = absurd (not_less order.cmp a.key b.key total (sym same) less)
older_behind order a b total (inr h) same = h.1

pub sought : SoughtLaw
sought order front entry back sequence key total sorted before not = (
  λ same. record {
    member = among_back front (entry ∷ back) entry (inl refl);
    seen = elim (cases_lt sequence entry.sequence) [ inl lt ↦ absurd (not (inr (same, lt))) | inr le ↦ le ];
    greatest = λ other i key_is below. elim (among_split front (entry ∷ back) other i) [
      | inl j ↦
          let above = before_unseen order sequence key other total (all_of (ComesBeforeSought order sequence key) front other before j) (key_is ∙ same) in
          absurd (omega (arith, above, below))
      | inr (inl e) ↦ let s = ap (λ (x : Entry). x.sequence) e in omega (arith, s)
      | inr (inr j) ↦ let older = older_behind order entry other total (behind_of order front entry back sorted other j) key_is in omega (arith, older)
    ];
  },
  λ other_key other i is. elim (among_split front (entry ∷ back) other i) [
    | inl j ↦ before_unseen order sequence key other total (all_of (ComesBeforeSought order sequence key) front other before j) is
    | inr (inl e) ↦ absurd (other_key (ap (λ (x : Entry). x.key) (sym e) ∙ is))
    | inr (inr j) ↦ elim (behind_of order front entry back sorted other j) [
      | inl less ↦ absurd (not (inl (subst (λ (k : List ℕ). order.cmp entry.key k ≡ Less) is less)))
      | inr h ↦ absurd (other_key (h.0 ∙ is))
    ]
  ],
)

-- ---- several in a row

sorted_both : (order : Order) (xs ys : List Entry) → AreSorted order xs → AreSorted order ys → ComesAllBefore order xs ys → AreSorted order (xs ++ ys)
sorted_both order [] ys h g before = g
sorted_both order (x ∷ xs) ys h g before = (
  λ other i. elim (among_split xs ys other i) [ inl j ↦ h.0 other j | inr j ↦ before x other (inl refl) j ],
  sorted_both order xs ys h.1 g (λ a b i j. before a b (inr i) j),
)

before_joined : (order : Order) (entries : List Entry) (lists : List (List Entry)) → AllByRecursion (ComesAllBefore order entries) lists → ComesAllBefore order entries (joined lists)
before_joined order entries [] h a b i j = absurd j
before_joined order entries (ys ∷ lists) h a b i j = elim (among_split ys (joined lists) b j) [
  | inl k ↦ h.0 a b i k
  | inr k ↦ before_joined order entries lists h.1 a b i k
]

pub in_row : RowLaw
in_row order [] h = tt
in_row order (entries ∷ lists) h = sorted_both order entries (joined lists) h.0 (in_row order lists h.2) (before_joined order entries lists h.1)

all_both : (P : Entry → Type 0) (xs ys : List Entry) → AllByRecursion P xs → AllByRecursion P ys → AllByRecursion P (xs ++ ys)
all_both P [] ys h g = g
all_both P (x ∷ xs) ys h g = (h.0, all_both P xs ys h.1 g)

all_joined : (P : Entry → Type 0) (lists : List (List Entry)) → AllByRecursion (AllByRecursion P) lists → AllByRecursion P (joined lists)
all_joined P [] h = tt
all_joined P (xs ∷ lists) h = all_both P xs (joined lists) h.0 (all_joined P lists h.1)

-- of what lies after a list in a row
behind_row : (order : Order) (before : List (List Entry)) (entries : List Entry) (behind : List (List Entry)) → AreInRow order (before ++ entries ∷ behind) → ComesAllBefore order entries (joined behind)
behind_row order [] entries behind h = before_joined order entries behind h.1
behind_row order (xs ∷ before) entries behind h = behind_row order before entries behind h.2

-- an entry of them all stands in front, in the list, or after it
among_row : (before : List (List Entry)) (entries : List Entry) (behind : List (List Entry)) (e : Entry) → Among (joined (before ++ entries ∷ behind)) e → Among (joined before) e ⊎ (Among entries e ⊎ Among (joined behind) e)
among_row [] entries behind e i = inr (among_split entries (joined behind) e i)
among_row (xs ∷ before) entries behind e i = elim (among_split xs (joined (before ++ entries ∷ behind)) e i) [
  | inl j ↦ inl (among_front xs (joined before) e j)
  | inr j ↦ elim (among_row before entries behind e j) [
    | inl k ↦ inl (among_back xs (joined before) e k)
    | inr k ↦ inr k
  ]
]

in_row_of : (before : List (List Entry)) (entries : List Entry) (behind : List (List Entry)) (e : Entry) → Among entries e → Among (joined (before ++ entries ∷ behind)) e
in_row_of [] entries behind e i = among_front entries (joined behind) e i
in_row_of (xs ∷ before) entries behind e i = among_back xs (joined (before ++ entries ∷ behind)) e (in_row_of before entries behind e i)

-- an entry of the key that comes after one that doesn't come before what is sought: that one is of
-- the key too, and seen
last_seen : (order : Order) (last other : Entry) (sequence : ℕ) (key : List ℕ) → (ComesBeforeSought order sequence key last → ⊥) → ComesBefore order last other → other.key ≡ key → (last.key ≡ key) × (last.sequence ≤ sequence)
last_seen order last other sequence key not (inl less) same = absurd (not (inl (subst (λ (k : List ℕ). order.cmp last.key k ≡ Less) same less)))
last_seen order last other sequence key not (inr h) same =
    let here : last.key ≡ key = h.0 ∙ same in
    (here, elim (cases_lt sequence last.sequence) [ inl lt ↦ absurd (not (inr (here, lt))) | inr le ↦ le ])

pub row_answer : RowAnswerLaw
row_answer order before entries behind last sequence key None total row passed has not unseen = λ other i is.
    elim (among_row before entries behind other i) [
      | inl j ↦ before_unseen order sequence key other total (all_of (ComesBeforeSought order sequence key) (joined before) other (all_joined (ComesBeforeSought order sequence key) before passed) j) is
      | inr (inl j) ↦ unseen other j is
      | inr (inr j) ↦
          let seen = last_seen order last other sequence key not (behind_row order before entries behind row last other has j) is in
          let above : sequence < last.sequence = unseen last has seen.0 in
          absurd (omega (arith, above, seen.1))
    ]
row_answer order before entries behind last sequence key (Some value) total row passed has not h =
    let entry = h.0 in
    let newest = h.1 in (
      entry,
      record {
        member = in_row_of before entries behind entry newest.member;
        seen = newest.seen;
        greatest = λ other i is below. elim (among_row before entries behind other i) [
          | inl j ↦
              let above = before_unseen order sequence key other total (all_of (ComesBeforeSought order sequence key) (joined before) other (all_joined (ComesBeforeSought order sequence key) before passed) j) (is ∙ h.2) in
              absurd (omega (arith, above, below))
          | inr (inl j) ↦ newest.greatest other j is below
          | inr (inr j) ↦ let older = older_behind order entry other total (behind_row order before entries behind row entry other newest.member j) is in omega (arith, older)
        ];
      },
      h.2,
      h.3,
    )
