-- What a power loss leaves while a directory is mended.
use Rattle.std.proofs.Common.{◌≡◌, ◌≢◌, ◌⊎◌, ◌<◌, inl, inr, ℕ, List, [], ◌++◌, length, get_or, Option, IsTrue, refl, sym, ap, subst, ◌∙◌, append-nil, append_assoc}
use Rattle.std.specs.FinMap.{get, contains_key}
use Rattle.store.specs.Calls.{Adds, Idles}
use Rattle.store.specs.Files.{Call, Facts, Files, LockFile, MayLock, Synced, lock_name}
use Rattle.store.specs.Losses.{HasStayed, SyncsBeginnings, behind_sync}
use Rattle.store.specs.Stops.{LeavesOnly}
use Rattle.store.proofs.Carrying.{carries_writes}
use Rattle.store.proofs.LosingOn.{loses_read, loses_same}
use Rattle.store.proofs.Staying.{stays_behind, stays_on}
use Rattle.store.proofs.Stopping.{others_noted}
use Rattle.edits.specs.Names.{name_of}
use Rattle.mending.specs.Calls.{Reads}
use Rattle.mending.specs.Losing.{HaveNamesStayed, IsDurable, LosesBy, MayReplaceWhole}
use Rattle.mending.specs.Mending.{AreBetween, AreBetweenLost, HasFront, KeepsAll, MayMend, MayMendLost, temporary_of}
use Rattle.mending.specs.Plans.{IsPlan}
use Rattle.mending.specs.Replacing.{MayReplace}
use Rattle.mending.specs.declared.ends.Ends.{Ends}
use Rattle.mending.specs.declared.finding.Cut.{Cut}
use Rattle.mending.proofs.AppliedCuts.{has_front, item_at}
use Rattle.mending.proofs.Leaving.{locked_keeps, lost_behind, plan_lost}
use Rattle.mending.proofs.LosingFiles.{KeepsBeside, OnlyIt, written_loses}
use Rattle.mending.proofs.Lost.{by_both, by_itself, by_so}

-- ---- one cut after the other

-- the same under other words for it
pub named_so : (P : List ℕ → List ℕ → List ℕ → Type 0) (t temporary n name b bytes : List ℕ) → t ≡ temporary → n ≡ name → b ≡ bytes → P t n b → P temporary name bytes
named_so P t temporary n name b bytes first second third h =
    subst (λ (v : List ℕ). P v name bytes) first (subst (λ (v : List ℕ). P t v bytes) second (subst (λ (v : List ℕ). P t n v) third h))

-- nothing is cut yet
pub cuts_none : (cuts : List Cut) (facts : Facts) → LosesBy facts facts (AreBetweenLost cuts)
cuts_none cuts facts = by_itself facts (AreBetweenLost cuts) (λ files q locked apart. inl refl)

cut_one : (cuts : List Cut) (before mid lost : Files) (i : ℕ) (cut : Cut) → i < length cuts → cut ≡ get_or cuts i cut → AreBetweenLost cuts before mid → MayReplaceWhole mid lost (temporary_of cut.file) (name_of cut.file) cut.front.items
    → AreBetweenLost cuts before lost
cut_one cuts before mid lost i cut lt is h k q locked apart = elim (k q locked (item_at cuts (λ (c : Cut). q ≢ temporary_of c.file) i cut lt is apart)) [
  | inl same ↦ subst (λ (c : Option (List ℕ)). (c ≡ get before q) ⊎ HasFront cuts q c) (sym same) (h q locked apart)
  | inr done ↦ inr (subst (λ (n : List ℕ). HasFront cuts n (get lost q)) (sym done.0) (has_front cuts i cut (get lost q) lt is done.1))
]

pub cuts_step : (cuts : List Cut) (old mid new : Facts) (i : ℕ) (cut : Cut) → i < length cuts → cut ≡ get_or cuts i cut → LeavesOnly old mid (AreBetween cuts old.files)
    → LeavesOnly mid new (λ files. MayReplace mid.files files (temporary_of cut.file) (name_of cut.file) cut.front.items) → LosesBy old mid (AreBetweenLost cuts)
    → LosesBy mid new (λ before lost. MayReplaceWhole before lost (temporary_of cut.file) (name_of cut.file) cut.front.items) → LosesBy old new (AreBetweenLost cuts)
cuts_step cuts old mid new i cut lt is first second h k =
    by_both old mid new first.more second.more (AreBetweenLost cuts) (λ before lost. MayReplaceWhole before lost (temporary_of cut.file) (name_of cut.file) cut.front.items) (AreBetweenLost cuts) first.calls second.calls h k
    (λ x y some. some) (λ x y z some one. cut_one cuts x y z i cut lt is some one)

pub stayed_durable : (facts : Facts) (name bytes : List ℕ) → IsDurable facts name bytes → HaveNamesStayed facts
stayed_durable facts name bytes d q locked = stays_behind facts q d.ends

-- ---- calls that change nothing

pub stayed_same : (old new : Facts) → new.calls ≡ old.calls → new.files ≡ old.files → HaveNamesStayed old → HaveNamesStayed new
stayed_same old new calls files stayed q locked =
    subst (λ (fs : Files). HasStayed (behind_sync [] new.calls) (contains_key fs q) q) (sym files)
    (subst (λ (cs : List Call). HasStayed (behind_sync [] cs) (contains_key old.files q) q) (sym calls) (stayed q locked))

pub by_read : (old new : Facts) (changes : Files → Files → Type 0) → new.calls ≡ old.calls → new.files ≡ old.files → new.synced ≡ old.synced → ((files : Files) → changes files files) → LosesBy old new changes
by_read old new changes calls files synced none = loses_same old new _ calls files synced (by_itself old changes none)

-- ---- with the lock

keeps_itself : (name : List ℕ) (ends : Ends) (old files : Files) → MayMendLost name ends old files files
keeps_itself name ends old files = inl (λ q locked. refl)

pub read_loses : (name : List ℕ) (ends : Ends) (old new : Facts) → Reads old new → IsTrue new.faithful → LosesBy old new (MayMendLost name ends old.files)
read_loses name ends old new r f = by_read old new (MayMendLost name ends old.files) (r.calls f) (r.same f) (r.synced f) (keeps_itself name ends old.files)

pub planned_loses : (name : List ℕ) (ends : Ends) (old mid new : Facts) (manifest : Option ℕ) (cuts : List Cut) → Reads old mid → IsTrue mid.faithful → IsPlan name ends old.files manifest cuts → LeavesOnly mid new (AreBetween cuts mid.files)
    → (HaveNamesStayed mid → LosesBy mid new (AreBetweenLost cuts)) → HaveNamesStayed old → LosesBy old new (MayMendLost name ends old.files)
planned_loses name ends old mid new manifest cuts r f plan stops h stayed =
    let R = MayMendLost name ends old.files in
    let Same : Files → Files → Type 0 = λ x y. x ≡ y in
    by_both old mid new [] stops.more Same (AreBetweenLost cuts) R (r.calls f ∙ sym (append-nil old.calls)) stops.calls
    (by_read old mid Same (r.calls f) (r.same f) (r.synced f) (λ files. refl)) (h (stayed_same old mid (r.calls f) (r.same f) stayed))
    (λ x y same. subst (λ (v : Files). R x v) same (keeps_itself name ends old.files x))
    (λ x y z same between. subst (λ (v : Files). R v z) (sym same) (plan_lost name ends old.files y z manifest cuts plan between))

pub lock_loses : (old new : Facts) → Idles old new ⊎ Adds old new LockFile → new.synced ≡ old.synced → SyncsBeginnings old → HaveNamesStayed old → LosesBy old new KeepsAll × HaveNamesStayed new
lock_loses old new noted synced sound stayed =
    let mine : List ℕ → Type 0 = λ q. q ≡ lock_name in
    let only : OnlyIt old new lock_name = others_noted old new LockFile mine (λ q named. absurd named) (λ files left q apart. locked_keeps old.files files left q apart) (λ q apart. ap (λ (t : Synced). t q) synced) noted in (
      by_so old new (KeepsBeside lock_name) KeepsAll (λ x y kept q apart. kept q apart apart) (written_loses old new lock_name only sound stayed),
      λ q apart. stays_on old new mine q apart (carries_writes old new mine only) (stayed q apart),
    )

pub mend_loses : (name : List ℕ) (ends : Ends) (old a b new : Facts) → MayLock old.files a.files → LeavesOnly old a (MayLock old.files) → LeavesOnly a b (MayMend name ends a.files) → LosesBy old a KeepsAll → LosesBy a b (MayMendLost name ends a.files)
    → (new.files ≡ b.files) × (new.calls ≡ b.calls) × (new.synced ≡ b.synced) → LosesBy old new (MayMendLost name ends old.files)
mend_loses name ends old a b new may first second h k same =
    let R = MayMendLost name ends old.files in
    let all : b.calls ≡ old.calls ++ (first.more ++ second.more) = second.calls ∙ ap (λ (calls : List Call). calls ++ second.more) first.calls ∙ append_assoc old.calls first.more second.more in
    loses_read old b new (first.more ++ second.more) _ all same.1 same.0 same.2
    (by_both old a b first.more second.more KeepsAll (MayMendLost name ends a.files) R first.calls second.calls h k (λ x y kept. inl kept)
    (λ x y z kept some. lost_behind name ends old.files a.files x y z (locked_keeps old.files a.files may) kept some))
