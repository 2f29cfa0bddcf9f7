-- What a stop may leave, moment by moment.
use Rattle.std.proofs.Common.{◌≤◌, ◌≡◌, ◌⊎◌, inl, inr, ⊎_elim, ℕ, min, List, [], ◌∷◌, ◌++◌, length, drop, take, Result, Ok, Err, OnOk, OnErr, refl, sym, ap, ◌∙◌, subst, append_assoc, append-nil, arith}
use Rattle.std.proofs.lemmas.Bool.{cases_lt}
use Rattle.std.proofs.lemmas.List.{take_all, take-take, length-take}
use Rattle.std.proofs.Math.Seq.{drop-append_seam}
use Rattle.std.specs.FinMap.{get}
use Rattle.store.specs.Files.{Facts, Files, Synced, Call, Change, Creation, Addition, Sync, Move, Removal, LockFile, Disk, disk_of, Appends, AppendsBeginning, Does}
use Rattle.store.specs.Calls.{Adds, Idles}
use Rattle.store.specs.declared.error.StoreError.{StoreError}
use Rattle.store.specs.Losses.{LostSinceLaw}
use Rattle.store.specs.Stops.{MayLeave, LeftDuring, LeavesOnly, stopped_at, IsNamedIn, KeepsBut, TouchOnly, WritesOnly, LeftNowLaw, LeftSinceLaw, LeftBothLaw}

pub both_parts : LeftBothLaw
both_parts [] second files left = inr left
both_parts (call ∷ first) second files (inl here) = inl (inl here)
both_parts (call ∷ first) second files (inr there) = ⊎_elim (λ l. inl (inr l)) (λ r. inr r) (both_parts first second files there)

pub since_then : LeftSinceLaw
since_then old new more files calls (inl now) = inl now
since_then old new more files calls (inr during) =
    inr (subst (λ (l : List Call). LeftDuring l files) (ap (drop (length old.calls)) calls ∙ drop-append_seam old.calls more) during)

none_since : (facts : Facts) (files : Files) → (files ≡ facts.files) ⊎ LeftDuring [] files → files ≡ facts.files
none_since facts files (inl now) = now
none_since facts files (inr none) = absurd none

pub now_left : LeftNowLaw
now_left facts t files = (inl refl, λ left. none_since facts files (since_then facts facts [] files (sym (append-nil facts.calls)) left))

-- ---- how a run of calls goes on, for the crates above

pub stays : (facts : Facts) (P : Files → Type 0) → P facts.files → LeavesOnly facts facts P
stays facts P now = record { more = []; calls = sym (append-nil facts.calls); during = λ files none. absurd none; now = now }

-- ---- some calls one after the other

pub leaves_both : (old mid new : Facts) (P : Files → Type 0) → LeavesOnly old mid P → LeavesOnly mid new P → LeavesOnly old new P
leaves_both old mid new P a b = record {
  more = a.more ++ b.more;
  calls = b.calls ∙ ap (λ (calls : List Call). calls ++ b.more) a.calls ∙ append_assoc old.calls a.more b.more;
  during = λ files left. elim (both_parts a.more b.more files left) [ inl first ↦ a.during files first | inr second ↦ b.during files second ];
  now = b.now;
}

pub leaves_so : (old new : Facts) (P Q : Files → Type 0) → ((files : Files) → P files → Q files) → LeavesOnly old new P → LeavesOnly old new Q
leaves_so old new P Q so h = record { more = h.more; calls = h.calls; during = λ files left. so files (h.during files left); now = so new.files h.now }

-- a call that isn't noted, and changes nothing
pub leaves_same : (old new : Facts) (P : Files → Type 0) → new.calls ≡ old.calls → new.files ≡ old.files → P old.files → LeavesOnly old new P
leaves_same old new P calls files now = record {
  more = [];
  calls = calls ∙ sym (append-nil old.calls);
  during = λ fs none. absurd none;
  now = subst P (sym files) now;
}

-- ---- one call

may_same : (change : Change) (files : Files) → MayLeave change files files
may_same (Creation name) files = inl refl
may_same (Addition name bytes) files = inl refl
may_same (Sync name) files = inl refl
may_same (Move from to) files = inl refl
may_same (Removal name) files = inl refl
may_same LockFile files = inl refl

may_do : (change : Change) (old new : Files) → Does change old new → MayLeave change old new
may_do (Creation name) old new d = inr d
may_do (Addition name bytes) old new d = inr (length bytes, subst (λ (b : List ℕ). Appends old new name b) (sym (take_all (length bytes) bytes (omega arith))) d)
may_do (Sync name) old new d = inr d
may_do (Move from to) old new d = inr d
may_do (Removal name) old new d = inr d
may_do LockFile old new d = inr d

pub added_left : (old new : Facts) (change : Change) → Adds old new change → LeavesOnly old new (MayLeave change old.files)
added_left old new change adds = record {
  more = (record { found = disk_of old; change = change }) ∷ [];
  calls = adds.0;
  during = λ files left. elim left [ inl part ↦ part | inr none ↦ absurd none ];
  now = may_do change old.files new.files adds.1;
}

pub noted_left : (old new : Facts) (change : Change) → Idles old new ⊎ Adds old new change → LeavesOnly old new (MayLeave change old.files)
noted_left old new change (inl idle) = leaves_same old new _ idle.0 (ap (λ (d : Disk). d.files) idle.1) (may_same change old.files)
noted_left old new change (inr adds) = added_left old new change adds

least_of : (m n : ℕ) (bytes : List ℕ) → take m (take n bytes) ≡ take (min m n) bytes
least_of m n bytes = elim (cases_lt n m) [
  | inl less ↦
      let least : n ≡ min m n = omega (arith, less) in
      take_all m (take n bytes) (omega (arith, length-take n bytes, less)) ∙ ap (λ (k : ℕ). take k bytes) least
  | inr most ↦
      let least : m ≡ min m n = omega (arith, most) in
      take-take m n bytes most ∙ ap (λ (k : ℕ). take k bytes) least
]

-- a beginning of a beginning
shorter : (old new : Files) (name bytes : List ℕ) (n : ℕ) → AppendsBeginning old new name (take n bytes) → AppendsBeginning old new name bytes
shorter old new name bytes n (inl same) = inl same
shorter old new name bytes n (inr some) = inr (min some.0 n, subst (λ (b : List ℕ). Appends old new name b) (least_of some.0 n bytes) some.1)

pub append_left : (old new : Facts) (name bytes : List ℕ) → Idles old new ⊎ ((n : ℕ) × Adds old new (Addition name (take n bytes))) → LeavesOnly old new (λ files. AppendsBeginning old.files files name bytes)
append_left old new name bytes (inl idle) = leaves_same old new _ idle.0 (ap (λ (d : Disk). d.files) idle.1) (inl refl)
append_left old new name bytes (inr some) = record {
  more = (record { found = disk_of old; change = Addition name (take some.0 bytes) }) ∷ [];
  calls = some.1.0;
  during = λ files left. elim left [ inl part ↦ shorter old.files files name bytes some.0 part | inr none ↦ absurd none ];
  now = inr (some.0, some.1.1);
}

-- a sync leaves what stands
pub sync_stays : (old new : Facts) (name : List ℕ) (P : Files → Type 0) (r : Result (Unit {0}) StoreError) → OnOk r (Adds old new (Sync name)) → OnErr r (new.calls ≡ old.calls) → new.files ≡ old.files
    → P old.files → LeavesOnly old new P
sync_stays old new name P (Ok x) noted left same now = record {
  more = (record { found = disk_of old; change = Sync name }) ∷ [];
  calls = noted.0;
  during = λ files left. elim left [
    | inl it ↦ elim it [ inl is ↦ subst P (sym is) now | inr is ↦ subst P (sym is) now ]
    | inr none ↦ absurd none
  ];
  now = subst P (sym same) now;
}
sync_stays old new name P (Err e) noted left same now = leaves_same old new P left same now

pub sync_left : (old mid new : Facts) (name : List ℕ) (P : Files → Type 0) (r : Result (Unit {0}) StoreError) → OnOk r (Adds mid new (Sync name)) → OnErr r (new.calls ≡ mid.calls) → new.files ≡ mid.files → LeavesOnly old mid P → LeavesOnly old new P
sync_left old mid new name P r noted left same h = leaves_both old mid new P h (sync_stays mid new name P r noted left same h.now)

-- ---- calls that write files of some names alone

touch_both : (first second : List Call) (disk : Disk) (mine : List ℕ → Type 0) → TouchOnly first disk mine → TouchOnly second disk mine → TouchOnly (first ++ second) disk mine
touch_both [] second disk mine h k = k
touch_both (call ∷ first) second disk mine h k = (h.0, touch_both first second disk mine h.1 k)

touch_from : (calls : List Call) (a b : Disk) (mine : List ℕ → Type 0) → ((q : List ℕ) → (mine q → ⊥) → (get b.files q ≡ get a.files q) × (b.synced q ≡ a.synced q)) → TouchOnly calls b mine → TouchOnly calls a mine
touch_from [] a b mine same h = tt
touch_from (call ∷ calls) a b mine same h = ((h.0.0, λ q apart. let f = h.0.1 q apart in let s = same q apart in (f.0 ∙ s.0, f.1 ∙ s.1)), touch_from calls a b mine same h.1)

touch_more : (calls : List Call) (disk : Disk) (mine more : List ℕ → Type 0) → ((q : List ℕ) → mine q → more q) → TouchOnly calls disk mine → TouchOnly calls disk more
touch_more [] disk mine more so h = tt
touch_more (call ∷ calls) disk mine more so h = ((λ q is. so q (h.0.0 q is), λ q apart. h.0.1 q (λ is. apart (so q is))), touch_more calls disk mine more so h.1)

pub others_both : (a b c : Facts) (mine : List ℕ → Type 0) → WritesOnly a b mine → WritesOnly b c mine → WritesOnly a c mine
unfolding leaves_both leaves_so
others_both a b c mine h k = record {
  leaves = leaves_both a b c (KeepsBut a.files mine) h.leaves (leaves_so b c (KeepsBut b.files mine) (KeepsBut a.files mine) (λ files kept name apart. kept name apart ∙ h.leaves.now name apart) k.leaves);
  calls = touch_both h.leaves.more k.leaves.more (disk_of a) mine h.calls
      (touch_from k.leaves.more (disk_of a) (disk_of b) mine (λ q apart. (h.leaves.now q apart, h.synced q apart)) k.calls);
  synced = λ q apart. k.synced q apart ∙ h.synced q apart;
}

pub others_same : (a b : Facts) (mine : List ℕ → Type 0) → b.calls ≡ a.calls → b.files ≡ a.files → b.synced ≡ a.synced → WritesOnly a b mine
unfolding leaves_same
others_same a b mine calls files synced = record {
  leaves = leaves_same a b (KeepsBut a.files mine) calls files (λ name apart. refl);
  calls = tt;
  synced = λ q apart. ap (λ (s : Synced). s q) synced;
}

pub others_more : (a b : Facts) (mine more : List ℕ → Type 0) → ((name : List ℕ) → mine name → more name) → WritesOnly a b mine → WritesOnly a b more
unfolding leaves_so
others_more a b mine more so h = record {
  leaves = leaves_so a b (KeepsBut a.files mine) (KeepsBut a.files more) (λ files kept name apart. kept name (λ is. apart (so name is))) h.leaves;
  calls = touch_more h.leaves.more (disk_of a) mine more so h.calls;
  synced = λ q apart. h.synced q (λ is. apart (so q is));
}

-- a stop that left these files wrote no others
pub others_stopped : (old : Facts) (files : Files) (mine : List ℕ → Type 0) → KeepsBut old.files mine files → WritesOnly old (stopped_at old files) mine
others_stopped old files mine kept = record {
  leaves = record { more = []; calls = sym (append-nil old.calls); during = λ fs none. absurd none; now = kept };
  calls = tt;
  synced = λ q apart. refl;
}

-- one call that names these alone, done or not
pub others_noted : (old new : Facts) (change : Change) (mine : List ℕ → Type 0) → ((q : List ℕ) → IsNamedIn change q → mine q) → ((files : Files) → MayLeave change old.files files → KeepsBut old.files mine files)
    → ((q : List ℕ) → (mine q → ⊥) → new.synced q ≡ old.synced q) → Idles old new ⊎ Adds old new change → WritesOnly old new mine
unfolding leaves_so noted_left leaves_same added_left
others_noted old new change mine names kept synced (inl idle) = record {
  leaves = leaves_so old new (MayLeave change old.files) (KeepsBut old.files mine) kept (noted_left old new change (inl idle));
  calls = tt;
  synced = synced;
}
others_noted old new change mine names kept synced (inr adds) = record {
  leaves = leaves_so old new (MayLeave change old.files) (KeepsBut old.files mine) kept (noted_left old new change (inr adds));
  calls = ((names, λ q apart. (refl, refl)), tt);
  synced = synced;
}

-- an append of as many of these bytes as were added to the file
pub others_appended : (old new : Facts) (name bytes : List ℕ) → ((files : Files) → AppendsBeginning old.files files name bytes → KeepsBut old.files (λ (q : List ℕ). q ≡ name) files)
    → ((q : List ℕ) → (q ≡ name → ⊥) → new.synced q ≡ old.synced q) → Idles old new ⊎ ((n : ℕ) × Adds old new (Addition name (take n bytes))) → WritesOnly old new (λ (q : List ℕ). q ≡ name)
unfolding leaves_so append_left leaves_same
others_appended old new name bytes kept synced (inl idle) = record {
  leaves = leaves_so old new (λ files. AppendsBeginning old.files files name bytes) (KeepsBut old.files (λ (q : List ℕ). q ≡ name)) kept (append_left old new name bytes (inl idle));
  calls = tt;
  synced = synced;
}
others_appended old new name bytes kept synced (inr some) = record {
  leaves = leaves_so old new (λ files. AppendsBeginning old.files files name bytes) (KeepsBut old.files (λ (q : List ℕ). q ≡ name)) kept (append_left old new name bytes (inr some));
  calls = ((λ q is. is, λ q apart. (refl, refl)), tt);
  synced = synced;
}

-- a sync, which changes no file
pub others_synced : (old new : Facts) (name : List ℕ) (r : Result (Unit {0}) StoreError) → OnOk r (Adds old new (Sync name)) → OnErr r (new.calls ≡ old.calls) → new.files ≡ old.files
    → ((q : List ℕ) → (q ≡ name → ⊥) → new.synced q ≡ old.synced q) → WritesOnly old new (λ (q : List ℕ). q ≡ name)
unfolding sync_stays leaves_same
others_synced old new name (Ok x) noted left same synced = record {
  leaves = sync_stays old new name (KeepsBut old.files (λ (q : List ℕ). q ≡ name)) (Ok x) noted left same (λ q apart. refl);
  calls = ((λ q is. is, λ q apart. (refl, refl)), tt);
  synced = synced;
}
others_synced old new name (Err e) noted left same synced = record {
  leaves = sync_stays old new name (KeepsBut old.files (λ (q : List ℕ). q ≡ name)) (Err e) noted left same (λ q apart. refl);
  calls = tt;
  synced = synced;
}

-- with calls that only read before or after
pub others_read : (a b c : Facts) (mine : List ℕ → Type 0) → WritesOnly a b mine → c.calls ≡ b.calls → c.files ≡ b.files → c.synced ≡ b.synced → WritesOnly a c mine
others_read a b c mine h calls files synced = others_both a b c mine h (others_same b c mine calls files synced)

pub others_behind : (a b c : Facts) (mine : List ℕ → Type 0) → b.calls ≡ a.calls → b.files ≡ a.files → b.synced ≡ a.synced → WritesOnly b c mine → WritesOnly a c mine
others_behind a b c mine calls files synced h = others_both a b c mine (others_same a b mine calls files synced) h

pub lost_earlier : LostSinceLaw
lost_earlier facts s t lost le h = (h.0, (let later : t ≤ h.0 = h.1 in omega (arith, le, later)), h.2, h.3)
