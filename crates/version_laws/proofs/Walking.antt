-- A search that goes from place to place.
use Rattle.std.proofs.Common.{◌≡◌, inl, inr, ◌<◌, ℕ, zero, suc, Option, Some, None, List, [], ◌∷◌, get_or, sym, subst, arith}
use Rattle.std.proofs.lemmas.Bool.{cases_lt}
use Rattle.ikey.specs.declared.entry.Entry.{Entry}
use Rattle.ikey.specs.Orders.{Order}
use Rattle.ikey.specs.Sources.{joined, AreSearched, IsAnswer}
use Rattle.ikey.specs.Views.{IsUnseen}
use Rattle.ikey.proofs.SearchedSources as sources
use Rattle.edits.specs.declared.field.PlacedTable.{PlacedTable}
use Rattle.recover.specs.Tables.{TableContent}
use Rattle.version_laws.specs.Places.{table_sources}
use Rattle.version_laws.specs.Laws.{IsSearchedUpTo, IsStep, StepLaw, TableFoundLaw, EndLaw}
use Rattle.version_laws.proofs.Levels.{answered, passed}

-- ---- sources, of which those in front have nothing

pub unseen_all : (lists : List (List Entry)) (sequence : ℕ) (user : List ℕ) → ((i : ℕ) → IsUnseen (get_or lists i []) sequence user) → IsUnseen (joined lists) sequence user
unseen_all [] sequence user h entry i same = absurd i
unseen_all (xs ∷ lists) sequence user h entry i same = elim (sources.among_split xs (joined lists) entry i) [
  | inl j ↦ h 0 entry j same
  | inr j ↦ unseen_all lists sequence user (λ n. h (suc n)) entry j same
]

pub answer_at : (lists : List (List Entry)) (place sequence : ℕ) (user : List ℕ) (value : Option (List ℕ)) → AreSearched lists → ((i : ℕ) → i < place → IsUnseen (get_or lists i []) sequence user)
    → IsAnswer (get_or lists place []) sequence user (Some value) → IsAnswer (joined lists) sequence user (Some value)
answer_at [] place sequence user value searched before h = absurd (h.1.member)
answer_at (xs ∷ lists) zero sequence user value searched before h = (h.0, sources.in_front xs (joined lists) sequence h.0 searched.0 h.1, h.2, h.3)
answer_at (xs ∷ lists) (suc place) sequence user value searched before h =
    let rest = answer_at lists place sequence user value searched.1 (λ i lt. before (suc i) (omega (arith, lt))) h in
    (rest.0, sources.behind_newest xs (joined lists) sequence rest.0 (subst (λ (k : List ℕ). IsUnseen xs sequence k) (sym rest.2) (before 0 (omega arith))) rest.1, rest.2, rest.3)

-- ---- the laws

before_place : (order : Order) (tables : List PlacedTable) (contents : List TableContent) (user : List ℕ) (sequence : ℕ) (key : List ℕ) (from place : ℕ) (placed : PlacedTable) → IsStep order tables contents user sequence key from place placed
    → IsSearchedUpTo contents user sequence place
before_place order tables contents user sequence key from place placed s i lt = elim (cases_lt i from) [
  | inl less ↦ s.so_far i less
  | inr le ↦ passed order tables contents user sequence key i s.total s.exact s.version s.sought (λ other at. s.next.first i other le lt at)
]

pub step : StepLaw
step order tables contents user sequence key from place placed s says i lt = elim (cases_lt i place) [
  | inl less ↦ before_place order tables contents user sequence key from place placed s i less
  | inr le ↦
      let same : place ≡ i = omega (arith, le, lt) in
      subst (λ (n : ℕ). IsUnseen (get_or (table_sources contents) n []) sequence user) same
      (answered order tables contents user sequence key place placed None s.total s.exact s.version s.sought s.next.here says)
]

pub found : TableFoundLaw
found order tables contents user sequence key from place placed value s says =
    answer_at (table_sources contents) place sequence user value s.version.searched (before_place order tables contents user sequence key from place placed s)
    (answered order tables contents user sequence key place placed (Some value) s.total s.exact s.version s.sought s.next.here says)

pub ended : EndLaw
ended order tables contents user sequence key from o exact v first so_far none =
    unseen_all (table_sources contents) sequence user (λ i. elim (cases_lt i from) [
      | inl less ↦ so_far i less
      | inr le ↦ passed order tables contents user sequence key i o exact v first (λ placed at. none i placed le at)
    ])
