-- What a power loss may leave, moment by moment.
use Rattle.std.proofs.Common.{◌<◌, ◌≤◌, ◌≡◌, ◌⊎◌, inl, inr, ℕ, zero, suc, ◌+◌, List, [], ◌∷◌, ◌++◌, length, drop, take, Some, is_some, Result, Ok, Err, OnOk, OnErr, refl, sym, ap, ◌∙◌, subst, append-nil, append_assoc, arith}
use Rattle.std.proofs.lemmas.Bool.{cases_lt}
use Rattle.std.proofs.lemmas.List.{append_cancel_left, drop-append-le, drop_all, length-append, take-append-le, take-take, take_all}
use Rattle.std.proofs.Math.Seq.{drop-append_seam}
use Rattle.std.specs.FinMap.{get, insert, contains_key}
use Rattle.std.specs.List.{AllByRecursion}
use Rattle.store.specs.Calls.{Adds, Idles}
use Rattle.store.specs.Files.{Facts, Files, Call, Change, Creation, Addition, Sync, Move, Removal, LockFile, AppendsBeginning, Disk, disk_of, with_synced}
use Rattle.store.specs.Losses.{CarriesBut, IsLostSince, Lost, LosesOnly, PutsSynced, behind_sync, disk_before, name_behind}
use Rattle.store.specs.Stops.{LeavesOnly, MayLeave, LeftDuring, TouchOnly, WritesOnly, moment}
use Rattle.store.specs.declared.error.StoreError.{StoreError}
use Rattle.store.proofs.Carrying.{carries_writes}
use Rattle.store.proofs.MemFiles.{insert_same}

-- ---- how the calls go on

-- The calls are those of old and some more, of which the first found the disk of old. It composes.
pub record GoesOn (old new : Facts) : Type 0 where
  pub more : List Call
  pub calls : new.calls ≡ old.calls ++ more
  pub found : disk_before more (disk_of new) ≡ disk_of old

disk_both : (first second : List Call) (now : Disk) → disk_before (first ++ second) now ≡ disk_before first (disk_before second now)
disk_both [] second now = refl
disk_both (call ∷ first) second now = refl

pub goes_both : (a b c : Facts) → GoesOn a b → GoesOn b c → GoesOn a c
goes_both a b c h k = record {
  more = h.more ++ k.more;
  calls = k.calls ∙ ap (λ (calls : List Call). calls ++ k.more) h.calls ∙ append_assoc a.calls h.more k.more;
  found = disk_both h.more k.more (disk_of c) ∙ ap (λ (disk : Disk). disk_before h.more disk) k.found ∙ h.found;
}

-- calls that changed nothing
pub goes_same : (a b : Facts) → b.calls ≡ a.calls → b.files ≡ a.files → b.synced ≡ a.synced → GoesOn a b
goes_same a b calls files synced = record {
  more = [];
  calls = calls ∙ sym (append-nil a.calls);
  found = λ i. record { files = files i; synced = synced i };
}

-- one call, done or not
pub goes_noted : (old new : Facts) (change : Change) → Idles old new ⊎ Adds old new change → GoesOn old new
goes_noted old new change (inl idle) = record { more = []; calls = idle.0 ∙ sym (append-nil old.calls); found = idle.1 }
goes_noted old new change (inr adds) = record { more = record { found = disk_of old; change = change } ∷ []; calls = adds.0; found = refl }

-- an append of as many of these bytes as were added to the file
pub goes_appended : (old new : Facts) (name bytes : List ℕ) → Idles old new ⊎ ((n : ℕ) × Adds old new (Addition name (take n bytes))) → GoesOn old new
goes_appended old new name bytes (inl idle) = goes_noted old new (Addition name bytes) (inl idle)
goes_appended old new name bytes (inr some) = goes_noted old new (Addition name (take some.0 bytes)) (inr some.1)

-- a sync, whatever it answered
pub goes_synced : (old new : Facts) (name : List ℕ) (r : Result (Unit {0}) StoreError) → OnOk r (Adds old new (Sync name)) → OnErr r (new.calls ≡ old.calls) → new.files ≡ old.files → OnErr r (new.synced ≡ old.synced) → GoesOn old new
goes_synced old new name (Ok x) noted left same synced = goes_noted old new (Sync name) (inr noted)
goes_synced old new name (Err e) noted left same synced = goes_same old new left same synced

-- The moments don't fall.
later : (old new : Facts) (more : List Call) → new.calls ≡ old.calls ++ more → moment old ≤ moment new
later old new more calls = (let all : moment new ≡ moment old + length more = ap length calls ∙ length-append old.calls more in omega (arith, all))

-- ---- losses at some moment since

abbrev LostAt : List Call → Disk → Files → Type 0
LostAt calls disk lost = IsLostSince (behind_sync [] calls) disk lost

at_same : (a b : List Call) (now then : Disk) (lost : Files) → a ≡ b → now ≡ then → LostAt a now lost → LostAt b then lost
at_same a b now then lost calls disk h = subst (λ (d : Disk). LostAt b d lost) disk (subst (λ (cs : List Call). LostAt cs now lost) calls h)

-- A moment up to old's is the same in new.
earlier : (old new : Facts) (m : ℕ) (lost : Files) → GoesOn old new → m ≤ moment old → LostAt (take m new.calls) (disk_before (drop m new.calls) (disk_of new)) lost → LostAt (take m old.calls) (disk_before (drop m old.calls) (disk_of old)) lost
earlier old new m lost goes le h =
    let front : take m new.calls ≡ take m old.calls = ap (take m) goes.calls ∙ take-append-le m old.calls goes.more le in
    let rest : drop m new.calls ≡ drop m old.calls ++ goes.more = ap (drop m) goes.calls ∙ drop-append-le m old.calls goes.more le in
    let disk : disk_before (drop m new.calls) (disk_of new) ≡ disk_before (drop m old.calls) (disk_of old) =
    ap (λ (calls : List Call). disk_before calls (disk_of new)) rest ∙ disk_both (drop m old.calls) goes.more (disk_of new) ∙ ap (disk_before (drop m old.calls)) goes.found in
    at_same (take m new.calls) (take m old.calls) (disk_before (drop m new.calls) (disk_of new)) (disk_before (drop m old.calls) (disk_of old)) lost front disk h

pub loses_so : (old new : Facts) (P Q : Files → Type 0) → ((lost : Files) → P lost → Q lost) → LosesOnly old new P → LosesOnly old new Q
loses_so old new P Q so h lost since = so lost (h lost since)

-- each loss until the next call
pub loses_here : (facts : Facts) (P : Files → Type 0) → ((lost : Files) → Lost facts (moment facts) lost → P lost) → LosesOnly facts facts P
loses_here facts P h = h

pub loses_two : (old new : Facts) (P Q : Files → Type 0) → LosesOnly old new P → LosesOnly old new Q → LosesOnly old new (λ lost. P lost × Q lost)
loses_two old new P Q h k lost since = (h lost since, k lost since)

-- it leaves what one of the calls since the last sync found, or what is there now
pub lost_here : (facts : Facts) (lost : Files) → Lost facts (moment facts) lost → IsLostSince (behind_sync [] facts.calls) (disk_of facts) lost
lost_here facts lost since =
    let least : moment facts ≤ since.0 = since.1 in
    let front : take since.0 facts.calls ≡ facts.calls = take_all since.0 facts.calls least in
    let disk : disk_before (drop since.0 facts.calls) (disk_of facts) ≡ disk_of facts = ap (λ (calls : List Call). disk_before calls (disk_of facts)) (drop_all since.0 facts.calls least) in
    at_same (take since.0 facts.calls) facts.calls (disk_before (drop since.0 facts.calls) (disk_of facts)) (disk_of facts) lost front disk since.3

-- At a moment before the last of them, the disk is the one that a call of theirs found.
disk_front : (first second : List Call) (m : ℕ) (now then : Disk) → m < length first → disk_before (drop m (first ++ second)) now ≡ disk_before (drop m first) then
disk_front [] second m now then less = absurd (omega (arith, less))
disk_front (call ∷ first) second zero now then less = refl
disk_front (call ∷ first) second (suc m) now then less = disk_front first second m now then (omega (arith, less))

-- One after the other. It is enough that the calls go on: what the first of them found isn't asked.
pub loses_both : (a b c : Facts) (more : List Call) (P : Files → Type 0) → c.calls ≡ b.calls ++ more → LosesOnly a b P → LosesOnly b c P → LosesOnly a c P
loses_both a b c more P calls h k lost since = elim (cases_lt since.0 (moment b)) [
  | inl less ↦
      let m = since.0 in
      let within : m ≤ moment b = omega (arith, less) in
      let front : take m c.calls ≡ take m b.calls = ap (take m) calls ∙ take-append-le m b.calls more within in
      let disk : disk_before (drop m c.calls) (disk_of c) ≡ disk_before (drop m b.calls) (disk_of b) =
      ap (λ (cs : List Call). disk_before (drop m cs) (disk_of c)) calls ∙ disk_front b.calls more m (disk_of c) (disk_of b) less in
      h lost (m, since.1, within, at_same (take m c.calls) (take m b.calls) (disk_before (drop m c.calls) (disk_of c)) (disk_before (drop m b.calls) (disk_of b)) lost front disk since.3)
  | inr least ↦ k lost (since.0, least, since.2, since.3)
]

-- since a later moment
pub loses_later : (a b : Facts) (more : List Call) (P : Files → Type 0) → b.calls ≡ a.calls ++ more → LosesOnly a b P → LosesOnly b b P
loses_later a b more P calls h lost since =
    let least : moment a ≤ moment b = later a b more calls in
    let from : moment b ≤ since.0 = since.1 in
    h lost (since.0, omega (arith, least, from), since.2, since.3)

-- calls that changed nothing
pub loses_same : (a b : Facts) (P : Files → Type 0) → b.calls ≡ a.calls → b.files ≡ a.files → b.synced ≡ a.synced → LosesOnly a a P → LosesOnly a b P
loses_same a b P calls files synced h lost since =
    let within : since.0 ≤ moment b = since.2 in
    let same : moment b ≡ moment a = ap length calls in
    let most : since.0 ≤ moment a = omega (arith, within, same) in
    h lost (since.0, since.1, most, earlier a b since.0 lost (goes_same a b calls files synced) most since.3)

-- with calls after it that changed nothing
pub loses_read : (a b c : Facts) (more : List Call) (P : Files → Type 0) → b.calls ≡ a.calls ++ more → c.calls ≡ b.calls → c.files ≡ b.files → c.synced ≡ b.synced → LosesOnly a b P → LosesOnly a c P
loses_read a b c more P goes calls files synced h =
    loses_both a b c [] P (calls ∙ sym (append-nil b.calls)) h (loses_same b c P calls files synced (loses_later a b more P goes h))

-- one call at most: the moment before it, and that after it
pub loses_one : (old new : Facts) (P : Files → Type 0) → GoesOn old new → moment new ≤ moment old + 1 → LosesOnly old old P → LosesOnly new new P → LosesOnly old new P
loses_one old new P goes one before behind lost since = elim (cases_lt (moment old) since.0) [
  | inl less ↦ behind lost (since.0, omega (arith, less, one), since.2, since.3)
  | inr most ↦ before lost (since.0, since.1, most, earlier old new since.0 lost goes most since.3)
]

one_more : (old new : Facts) (change : Change) → Idles old new ⊎ Adds old new change → moment new ≤ moment old + 1
one_more old new change (inl idle) = (let same : moment new ≡ moment old = ap length idle.0 in omega (arith, same))
one_more old new change (inr adds) = (let all : moment new ≡ moment old + 1 = ap length adds.0 ∙ length-append old.calls (record { found = disk_of old; change = change } ∷ []) in omega (arith, all))

pub loses_noted : (old new : Facts) (change : Change) (P : Files → Type 0) → Idles old new ⊎ Adds old new change → LosesOnly old old P → LosesOnly new new P → LosesOnly old new P
loses_noted old new change P noted before behind = loses_one old new P (goes_noted old new change noted) (one_more old new change noted) before behind

pub loses_appended : (old new : Facts) (name bytes : List ℕ) (P : Files → Type 0) → Idles old new ⊎ ((n : ℕ) × Adds old new (Addition name (take n bytes))) → LosesOnly old old P → LosesOnly new new P → LosesOnly old new P
loses_appended old new name bytes P (inl idle) before behind = loses_noted old new (Addition name bytes) P (inl idle) before behind
loses_appended old new name bytes P (inr some) before behind = loses_noted old new (Addition name (take some.0 bytes)) P (inr some.1) before behind

pub loses_synced : (old new : Facts) (name : List ℕ) (P : Files → Type 0) (r : Result (Unit {0}) StoreError) → OnOk r (Adds old new (Sync name)) → OnErr r (new.calls ≡ old.calls) → new.files ≡ old.files → OnErr r (new.synced ≡ old.synced)
    → LosesOnly old old P → OnOk r (LosesOnly new new P) → LosesOnly old new P
loses_synced old new name P (Ok x) noted left same synced before behind = loses_noted old new (Sync name) P (inr noted) before behind
loses_synced old new name P (Err e) noted left same synced before behind = loses_same old new P left same synced before

-- ---- an append and its sync

-- an append that failed
pub puts_begun : (old new : Facts) (name bytes : List ℕ) → new.synced ≡ old.synced → Idles old new ⊎ ((n : ℕ) × Adds old new (Addition name (take n bytes))) → PutsSynced old new name bytes
puts_begun old new name bytes kept noted = record { mid = new; noted = noted; kept = kept; done = inl (refl, refl) }

-- one that succeeded, and its sync, whatever it answered
pub puts_by : (old mid new : Facts) (name bytes : List ℕ) (r : Result (Unit {0}) StoreError) → mid.synced ≡ old.synced → Idles old mid ⊎ ((n : ℕ) × Adds old mid (Addition name (take n bytes)))
    → OnOk r (Adds mid new (Sync name)) → OnErr r (new.calls ≡ mid.calls) → new.files ≡ mid.files → OnOk r (new.synced ≡ with_synced mid.synced name (get mid.files name)) → OnErr r (new.synced ≡ mid.synced) → PutsSynced old new name bytes
puts_by old mid new name bytes (Ok x) kept noted added left same synced unsynced = record { mid = mid; noted = noted; kept = kept; done = inr (added, synced) }
puts_by old mid new name bytes (Err e) kept noted added left same synced unsynced = record { mid = mid; noted = noted; kept = kept; done = inl (left, λ i. record { files = same i; synced = unsynced i }) }

pub puts_goes : (old new : Facts) (name bytes : List ℕ) → PutsSynced old new name bytes → GoesOn old new
puts_goes old new name bytes puts =
    let second : GoesOn puts.mid new = elim puts.done [ inl idle ↦ goes_noted puts.mid new (Sync name) (inl idle) | inr done ↦ goes_noted puts.mid new (Sync name) (inr done.0) ] in
    goes_both old puts.mid new (goes_appended old puts.mid name bytes puts.noted) second

pub puts_calls : (old new : Facts) (name bytes : List ℕ) → PutsSynced old new name bytes → (more : List Call) × (new.calls ≡ old.calls ++ more)
puts_calls old new name bytes puts = let all = puts_goes old new name bytes puts in (all.more, all.calls)

-- ---- the store as it was

-- The store as it was at that moment: after its first so many calls, with the disk that the next
-- one found.
abbrev pub facts_at : Facts → ℕ → Facts
facts_at facts m = record facts { files = (disk_before (drop m facts.calls) (disk_of facts)).files; synced = (disk_before (drop m facts.calls) (disk_of facts)).synced; calls = take m facts.calls }

-- a loss at each moment is one until the next call, of the store as it was
pub loses_at : (old new : Facts) (P : Files → Type 0) → ((m : ℕ) → moment old ≤ m → m ≤ moment new → (lost : Files) → Lost (facts_at new m) (moment (facts_at new m)) lost → P lost) → LosesOnly old new P
loses_at old new P each lost since =
    let m = since.0 in
    let then = facts_at new m in
    let front : take m new.calls ≡ take (moment then) then.calls = sym (take_all (moment then) then.calls (omega arith)) in
    let rest : drop (moment then) then.calls ≡ [] = drop_all (moment then) then.calls (omega arith) in
    let disk : disk_before (drop m new.calls) (disk_of new) ≡ disk_before (drop (moment then) then.calls) (disk_of then) = ap (λ (calls : List Call). disk_before calls (disk_of then)) (sym rest) in
    each m since.1 since.2 lost (moment then, omega arith, omega arith, at_same (take m new.calls) (take (moment then) then.calls) (disk_before (drop m new.calls) (disk_of new)) (disk_before (drop (moment then) then.calls) (disk_of then)) lost front disk since.3)

-- after these calls, some of the others
pub take_behind : (a b : List Call) (m : ℕ) → length a ≤ m → (k : ℕ) × (take m (a ++ b) ≡ a ++ take k b) × (drop m (a ++ b) ≡ drop k b)
take_behind [] b m le = (m, refl, refl)
take_behind (call ∷ a) b zero le = absurd (omega (arith, le))
take_behind (call ∷ a) b (suc m) le = let rest = take_behind a b m (omega (arith, le)) in (rest.0, ap (λ (calls : List Call). call ∷ calls) rest.1, rest.2)

disk_within : (calls : List Call) (k : ℕ) (now : Disk) → disk_before (take k calls) (disk_before (drop k calls) now) ≡ disk_before calls now
disk_within [] zero now = refl
disk_within [] (suc k) now = refl
disk_within (call ∷ calls) zero now = refl
disk_within (call ∷ calls) (suc k) now = refl

pub goes_at : (old new : Facts) (m : ℕ) → GoesOn old new → moment old ≤ m → GoesOn old (facts_at new m)
goes_at old new m goes least =
    let parts = take_behind old.calls goes.more m least in
    let rest : drop m new.calls ≡ drop parts.0 goes.more = ap (drop m) goes.calls ∙ parts.2 in
    record {
      more = take parts.0 goes.more;
      calls = ap (take m) goes.calls ∙ parts.1;
      found = ap (λ (calls : List Call). disk_before (take parts.0 goes.more) (disk_before calls (disk_of new))) rest ∙ disk_within goes.more parts.0 (disk_of new) ∙ goes.found;
    }

-- ---- calls that write files of some names alone

-- at that moment the others are as they were, under their names, and so is what of them is synced
pub record KeepsAt (old then : Facts) (mine : List ℕ → Type 0) : Type 0 where
  pub carries : CarriesBut old then mine
  pub files : (q : List ℕ) → (mine q → ⊥) → get then.files q ≡ get old.files q
  pub synced : (q : List ℕ) → (mine q → ⊥) → then.synced q ≡ old.synced q

pub keeps_now : (old new : Facts) (mine : List ℕ → Type 0) → WritesOnly old new mine → KeepsAt old new mine
keeps_now old new mine h = record { carries = carries_writes old new mine h; files = h.leaves.now; synced = h.synced }

abbrev SameBut : Disk → (List ℕ → Type 0) → Disk → Type 0
SameBut disk mine now = (q : List ℕ) → (mine q → ⊥) → (get now.files q ≡ get disk.files q) × (now.synced q ≡ disk.synced q)

touched_at : (calls : List Call) (k : ℕ) (disk now : Disk) (mine : List ℕ → Type 0) → TouchOnly calls disk mine → SameBut disk mine now → SameBut disk mine (disk_before (drop k calls) now)
touched_at [] zero disk now mine h same = same
touched_at [] (suc k) disk now mine h same = same
touched_at (call ∷ calls) zero disk now mine h same = h.0.1
touched_at (call ∷ calls) (suc k) disk now mine h same = touched_at calls k disk now mine h.1 same

abbrev Each : Files → (List ℕ → Type 0) → List Call → Type 0
Each files mine calls = AllByRecursion (λ (call : Call). (q : List ℕ) → (mine q → ⊥) → (name_behind call.change q ≡ Some q) × (contains_key call.found.files q ≡ contains_key files q)) calls

each_front : (files : Files) (mine : List ℕ → Type 0) (calls : List Call) (k : ℕ) → Each files mine calls → Each files mine (take k calls)
each_front files mine [] zero h = tt
each_front files mine [] (suc k) h = tt
each_front files mine (call ∷ calls) zero h = tt
each_front files mine (call ∷ calls) (suc k) h = (h.0, each_front files mine calls k h.1)

pub keeps_at : (old new : Facts) (mine : List ℕ → Type 0) (m : ℕ) → WritesOnly old new mine → moment old ≤ m → KeepsAt old (facts_at new m) mine
keeps_at old new mine m h least =
    let more = h.leaves.more in
    let parts = take_behind old.calls more m least in
    let rest : drop m new.calls ≡ drop parts.0 more = ap (drop m) h.leaves.calls ∙ parts.2 in
    let same : SameBut (disk_of old) mine (disk_before (drop m new.calls) (disk_of new)) =
    subst (λ (calls : List Call). SameBut (disk_of old) mine (disk_before calls (disk_of new))) (sym rest)
    (touched_at more parts.0 (disk_of old) (disk_of new) mine h.calls (λ q apart. (h.leaves.now q apart, h.synced q apart))) in
    let all = carries_writes old new mine h in
    record {
      carries = record {
        more = take parts.0 more;
        calls = ap (take m) h.leaves.calls ∙ parts.1;
        each = each_front old.files mine more parts.0 (subst (λ (calls : List Call). Each old.files mine calls) (append_cancel_left old.calls all.more more (sym all.calls ∙ h.leaves.calls)) all.each);
        now = λ q apart. ap is_some (same q apart).0;
        synced = λ q apart. inl (same q apart).1;
      };
      files = λ q apart. (same q apart).0;
      synced = λ q apart. (same q apart).1;
    }

-- ---- what a stop may leave

may_same : (change : Change) (files : Files) → MayLeave change files files
may_same (Creation name) files = inl refl
may_same (Addition name bytes) files = inl refl
may_same (Sync name) files = inl refl
may_same (Move from to) files = inl refl
may_same (Removal name) files = inl refl
may_same LockFile files = inl refl

-- the files at each moment are what a stop may leave
during_at : (calls : List Call) (k : ℕ) (now : Disk) (P : Files → Type 0) → ((files : Files) → LeftDuring calls files → P files) → P now.files → P (disk_before (drop k calls) now).files
during_at [] zero now P during last = last
during_at [] (suc k) now P during last = last
during_at (call ∷ calls) zero now P during last = during call.found.files (inl (may_same call.change call.found.files))
during_at (call ∷ calls) (suc k) now P during last = during_at calls k now P (λ files left. during files (inr left)) last

pub leaves_at : (old new : Facts) (P : Files → Type 0) (m : ℕ) → LeavesOnly old new P → moment old ≤ m → P (facts_at new m).files
leaves_at old new P m h least =
    let parts = take_behind old.calls h.more m least in
    let rest : drop m new.calls ≡ drop parts.0 h.more = ap (drop m) h.calls ∙ parts.2 in
    subst (λ (calls : List Call). P (disk_before calls (disk_of new)).files) (sym rest) (during_at h.more parts.0 (disk_of new) P h.during h.now)

-- ---- what a stop may leave of an append

-- the files before it are what a stop may leave of the whole
left_front : (old mid new : Facts) (more : List Call) (P : Files → Type 0) → mid.calls ≡ old.calls ++ more → GoesOn mid new → LeavesOnly old new P → P mid.files
left_front old mid new more P calls goes h =
    let rest : drop (moment mid) new.calls ≡ goes.more = ap (drop (moment mid)) goes.calls ∙ drop-append_seam mid.calls goes.more in
    let disk : disk_before (drop (moment mid) new.calls) (disk_of new) ≡ disk_of mid = ap (λ (calls : List Call). disk_before calls (disk_of new)) rest ∙ goes.found in
    subst (λ (now : Disk). P now.files) disk (leaves_at old new P (moment mid) h (later old mid more calls))

left_among : (first second : List Call) (files : Files) → LeftDuring second files → LeftDuring (first ++ second) files
left_among [] second files h = h
left_among (call ∷ first) second files h = inr (left_among first second files h)

left_call : (old mid new : Facts) (change : Change) (more rest : List Call) (P : Files → Type 0) → mid.calls ≡ old.calls ++ more → new.calls ≡ mid.calls ++ record { found = disk_of mid; change = change } ∷ rest → LeavesOnly old new P
    → (files : Files) → MayLeave change mid.files files → P files
left_call old mid new change more rest P calls goes h files may =
    let all : List Call = record { found = disk_of mid; change = change } ∷ rest in
    let same : h.more ≡ more ++ all = append_cancel_left old.calls h.more (more ++ all) (sym h.calls ∙ goes ∙ ap (λ (cs : List Call). cs ++ all) calls ∙ append_assoc old.calls more all) in
    h.during files (subst (λ (cs : List Call). LeftDuring cs files) (sym same) (left_among more all files (inl may)))

-- nothing was put
none_put : (files after : Files) (name : List ℕ) → AppendsBeginning files after name [] → after ≡ files
none_put files after name (inl same) = same
none_put files after name (inr (n, (before, was, is))) =
    is ∙ ap (λ (bytes : List ℕ). insert files name (before ++ bytes)) (nothing n) ∙ ap (λ (bytes : List ℕ). insert files name bytes) (append-nil before) ∙ insert_same files name before was
  where
    nothing : (n : ℕ) → take {A = ℕ} n [] ≡ []
    nothing zero = refl
    nothing (suc n) = refl

put_more : (mid then new : Facts) (name : List ℕ) (call : Call) → then.calls ≡ mid.calls ++ call ∷ [] → Idles then new ⊎ (Adds then new (Sync name) × (new.synced ≡ with_synced then.synced name (get then.files name)))
    → (rest : List Call) × (new.calls ≡ mid.calls ++ call ∷ rest)
put_more mid then new name call first (inl idle) = ([], idle.0 ∙ first)
put_more mid then new name call first (inr done) =
    let last : Call = record { found = disk_of then; change = Sync name } in
    (last ∷ [], done.0.0 ∙ ap (λ (cs : List Call). cs ++ last ∷ []) first ∙ append_assoc mid.calls (call ∷ []) (last ∷ []))

-- With each beginning of the bytes that were added, the file is what a stop of the whole may leave.
pub puts_left : (old mid new : Facts) (more : List Call) (name bytes : List ℕ) (P : Files → Type 0) → mid.calls ≡ old.calls ++ more → PutsSynced mid new name bytes → LeavesOnly old new P
    → (came : List ℕ) × PutsSynced mid new name came × ((files : Files) → AppendsBeginning mid.files files name came → P files)
puts_left old mid new more name bytes P calls puts h = at puts.noted
  where
    at : Idles mid puts.mid ⊎ ((n : ℕ) × Adds mid puts.mid (Addition name (take n bytes))) → (came : List ℕ) × PutsSynced mid new name came × ((files : Files) → AppendsBeginning mid.files files name came → P files)
    at (inl idle) = (
      [],
      record { mid = puts.mid; noted = inl idle; kept = puts.kept; done = puts.done },
      λ files put. subst P (sym (none_put mid.files files name put)) (left_front old mid new more P calls (puts_goes mid new name bytes puts) h),
    )
    at (inr some) =
        let came = take some.0 bytes in
        let again : take some.0 came ≡ came = take-take some.0 some.0 bytes (omega arith) in
        let rest = put_more mid puts.mid new name (record { found = disk_of mid; change = Addition name came }) some.1.0 puts.done in (
          came,
          record { mid = puts.mid; noted = inr (some.0, subst (λ (b : List ℕ). Adds mid puts.mid (Addition name b)) (sym again) some.1); kept = puts.kept; done = puts.done },
          left_call old mid new (Addition name came) more rest.0 P calls rest.1 h,
        )
