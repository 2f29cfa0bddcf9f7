-- Entries in several sources that are searched one after the other (LevelDB's db/version_set.cc,
-- Version::Get).
use Rattle.std.specs.Prelude.{◌≡◌, ◌≢◌, ◌⊎◌, ◌<◌, ◌↔◌, ℕ, Option, Some, None, List, [], ◌∷◌, ◌++◌}
use Rattle.std.specs.List.{AllByRecursion}
use Rattle.std.specs.Cmp.{IsTotalOrder}
use Rattle.std.specs.declared.cmp.Ordering.TheVariants.{Less}
use Rattle.ikey.specs.declared.entry.Entry.{Entry}
use Rattle.ikey.specs.Orders.{Order}
use Rattle.ikey.specs.Views.{Among, Contents, IsNewest, IsUnseen, IsView, IsValueAt, AllUpTo}

-- ---- sources

-- of the same key the entries of the first are newer than those of the second
abbrev pub IsNewerThan : List Entry → List Entry → Type 0
IsNewerThan front back = (a b : Entry) → Among front a → Among back b → a.key ≡ b.key → b.sequence < a.sequence

-- the entries of all sources
abbrev pub joined : List (List Entry) → List Entry
joined [] = []
joined (source ∷ sources) = source ++ joined sources

-- each source is newer than all after it
abbrev pub AreSearched : List (List Entry) → Type 0
AreSearched [] = Unit {0}
AreSearched (source ∷ sources) = IsNewerThan source (joined sources) × AreSearched sources

-- the same, said of each two
abbrev pub AreSearchedByTwo : List (List Entry) → Type 0
AreSearchedByTwo [] = Unit {0}
AreSearchedByTwo (source ∷ sources) = AllByRecursion (IsNewerThan source) sources × AreSearchedByTwo sources

-- the key is seen in none of them
abbrev pub AreUnseen : List (List Entry) → ℕ → List ℕ → Type 0
AreUnseen sources sequence key = AllByRecursion (λ (source : List Entry). IsUnseen source sequence key) sources

-- the same entries, in whatever order and however often
abbrev pub SameEntries : List Entry → List Entry → Type 0
SameEntries xs ys = (entry : Entry) → Among xs entry ↔ Among ys entry

-- what a search for a key in one source tells: nothing where it isn't seen, and else what its
-- newest entry put
abbrev pub IsAnswer : List Entry → ℕ → List ℕ → Option (Option (List ℕ)) → Type 0
IsAnswer source sequence key None = IsUnseen source sequence key
IsAnswer source sequence key (Some value) = (entry : Entry) × IsNewest source sequence entry × (entry.key ≡ key) × (value ≡ entry.value)

-- ---- a search

-- The newest entry of the source in front is that of all.
abbrev pub FrontLaw : Type 0
FrontLaw = (front back : List Entry) (sequence : ℕ) (entry : Entry) → IsNewerThan front back → IsNewest front sequence entry → IsNewest (front ++ back) sequence entry

-- Where the key isn't seen in the first source, it has the value that it has in the second.
abbrev pub BehindLaw : Type 0
BehindLaw = (front back : List Entry) (sequence : ℕ) (key : List ℕ) (value : Option (List ℕ)) → IsUnseen front sequence key
    → IsValueAt back sequence key value → IsValueAt (front ++ back) sequence key value

-- The first source that has an answer answers for all, and a source between the others may be
-- passed over.
abbrev pub FoundLaw : Type 0
FoundLaw = (front : List (List Entry)) (source : List Entry) (behind : List (List Entry)) (sequence : ℕ) (key : List ℕ) (value : Option (List ℕ))
    → AreSearched (front ++ source ∷ behind) → AreUnseen front sequence key → IsAnswer source sequence key (Some value)
    → IsValueAt (joined (front ++ source ∷ behind)) sequence key value

-- Where none has an answer, the key has no value.
abbrev pub MissedLaw : Type 0
MissedLaw = (sources : List (List Entry)) (sequence : ℕ) (key : List ℕ) → AreUnseen sources sequence key → IsValueAt (joined sources) sequence key None

-- ---- what keeps sources searched

-- Sources of which each is newer than each one after it are searched.
abbrev pub ByTwoLaw : Type 0
ByTwoLaw = (sources : List (List Entry)) → AreSearched sources ↔ AreSearchedByTwo sources

-- New entries, above all sequence numbers, may be put into the first source.
abbrev pub GrownLaw : Type 0
GrownLaw = (first more : List Entry) (sources : List (List Entry)) (used : ℕ) → AreSearched (first ∷ sources) → AllUpTo used (joined (first ∷ sources))
    → ((entry : Entry) → Among more entry → used < entry.sequence) → AreSearched ((first ++ more) ∷ sources)

-- One with the same entries may stand in a source's place, and all together have the same entries.
abbrev pub ReplacedLaw : Type 0
ReplacedLaw = (front : List (List Entry)) (old new : List Entry) (behind : List (List Entry)) → SameEntries old new → AreSearched (front ++ old ∷ behind)
    → AreSearched (front ++ new ∷ behind) × SameEntries (joined (front ++ old ∷ behind)) (joined (front ++ new ∷ behind))

-- The same entries have the same views, and the same values.
abbrev pub SameViewLaw : Type 0
SameViewLaw = (xs ys : List Entry) (sequence : ℕ) → SameEntries xs ys → ((map : Contents) → IsView xs sequence map → IsView ys sequence map)
    × ((key : List ℕ) (value : Option (List ℕ)) → IsValueAt xs sequence key value → IsValueAt ys sequence key value)

-- ---- a search in one source that is sorted

-- the entry comes before the other: its key does, or it is a newer one of the same key
abbrev pub ComesBefore : Order → Entry → Entry → Type 0
ComesBefore order a b = (order.cmp a.key b.key ≡ Less) ⊎ ((a.key ≡ b.key) × (b.sequence < a.sequence))

-- each entry comes before all after it, so that no two share a key and a sequence number
abbrev pub AreSorted : Order → List Entry → Type 0
AreSorted order [] = Unit {0}
AreSorted order (entry ∷ entries) = ((other : Entry) → Among entries other → ComesBefore order entry other) × AreSorted order entries

-- the entry comes before what is sought: its key does, or it is an entry of the key above the
-- sequence number
abbrev pub ComesBeforeSought : Order → ℕ → List ℕ → Entry → Type 0
ComesBeforeSought order sequence key entry = (order.cmp entry.key key ≡ Less) ⊎ ((entry.key ≡ key) × (sequence < entry.sequence))

-- The first entry of a sorted source that doesn't come before what is sought is the newest one of
-- its key, or the key isn't seen.
abbrev pub SoughtLaw : Type 0
SoughtLaw = (order : Order) (front : List Entry) (entry : Entry) (back : List Entry) (sequence : ℕ) (key : List ℕ) → IsTotalOrder order.cmp
    → AreSorted order (front ++ entry ∷ back) → AllByRecursion (ComesBeforeSought order sequence key) front → (ComesBeforeSought order sequence key entry → ⊥)
    → (entry.key ≡ key → IsNewest (front ++ entry ∷ back) sequence entry) × (entry.key ≢ key → IsUnseen (front ++ entry ∷ back) sequence key)

-- Where all come before it, the key isn't seen.
abbrev pub AllBeforeLaw : Type 0
AllBeforeLaw = (order : Order) (entries : List Entry) (sequence : ℕ) (key : List ℕ) → IsTotalOrder order.cmp
    → AllByRecursion (ComesBeforeSought order sequence key) entries → IsUnseen entries sequence key

-- ---- a search in several that lie in a row, as the tables of a level do

-- all entries of the one come before all of the other
abbrev pub ComesAllBefore : Order → List Entry → List Entry → Type 0
ComesAllBefore order xs ys = (a b : Entry) → Among xs a → Among ys b → ComesBefore order a b

-- each is sorted, and comes before all after it
abbrev pub AreInRow : Order → List (List Entry) → Type 0
AreInRow order [] = Unit {0}
AreInRow order (entries ∷ lists) = AreSorted order entries × AllByRecursion (ComesAllBefore order entries) lists × AreInRow order lists

-- Together they are sorted.
abbrev pub RowLaw : Type 0
RowLaw = (order : Order) (lists : List (List Entry)) → AreInRow order lists → AreSorted order (joined lists)

-- Where all lists in front come before what is sought, and an entry of this one doesn't, a search
-- in this one is a search in all.
abbrev pub RowAnswerLaw : Type 0
RowAnswerLaw = (order : Order) (before : List (List Entry)) (entries : List Entry) (behind : List (List Entry)) (last : Entry) (sequence : ℕ) (key : List ℕ) (answer : Option (Option (List ℕ)))
    → IsTotalOrder order.cmp → AreInRow order (before ++ entries ∷ behind) → AllByRecursion (AllByRecursion (ComesBeforeSought order sequence key)) before
    → Among entries last → (ComesBeforeSought order sequence key last → ⊥)
    → IsAnswer entries sequence key answer → IsAnswer (joined (before ++ entries ∷ behind)) sequence key answer
