-- What a power loss leaves after each call of an open: what it left before it.
use Rattle.std.proofs.Common.{◌≡◌, ◌⊎◌, ◌++◌, ◌∷◌, ℕ, Bool, List, [], Option, Some, None, IsSome, if◌then◌else◌, inl, inr, refl, sym, ap, subst, ◌∙◌, append_assoc, append-nil}
use Rattle.std.specs.FinMap.{get, insert}
use Rattle.std.specs.Option.{option_map_or}
use Rattle.edits.specs.Names.{name_of}
use Rattle.edits.specs.declared.names.FileName.TheVariants.{Current, Log, OldTable, Table}
use Rattle.ikey.specs.Orders.{Order}
use Rattle.machine.specs.Machine.{Machine}
use Rattle.directory_writes.specs.internal.Calls.{LeavesFile}
use Rattle.opening.specs.Losses.{IsLeftWhole}
use Rattle.store.proofs.LosingOn.{loses_both, loses_later, loses_noted, loses_read, loses_same, lost_here}
use Rattle.store.proofs.Staying.{behind_more}
use Rattle.store.specs.Calls.{Adds, Idles}
use Rattle.store.specs.Files.{Call, Disk, Facts, Files, LockFile, Synced, disk_of, lock_name}
use Rattle.store.specs.Losses.{IsLost, IsLostSince, LosesOnly, Lost, SyncsBeginnings, behind_sync, held_last, name_behind}
use Rattle.store.specs.Stops.{moment}
use Rattle.engine.proofs.LosingBegun.{lost_now}
use Rattle.engine.proofs.LosingFirst.{goes_on}
use Rattle.engine.proofs.LostEarlier.{whole_lost}
use Rattle.engine.proofs.Synced.{kept_still}
use Rattle.engine.specs.Losses.{HoldsFirst, SparesBelow}
use Rattle.engine.specs.Reopening.{LeavesFirst, LosesOn, StayBelow, StaysFound, StaysOrGoes}

-- ---- files that were there before

-- The files as they are now spare what was there.
pub whole_spares : (since now : Facts) (bound : ℕ) → StayBelow since now bound → SparesBelow since bound now.files
whole_spares since now bound stays n num below =
    let s = stays n num below in
    (at (name_of (Table n)) s.0, at (name_of (OldTable n)) s.1, at (name_of (Log n)) s.2)
  where
    at : (q : List ℕ) → StaysOrGoes since now q → IsLeftWhole since now.files q
    at q (inl gone) = inr (λ bytes there. inl gone)
    at q (inr same) = inr (λ bytes there. inr (same.0 ∙ there))

-- So they hold a prefix of the batches.
pub whole_first : (order : Order) (since old : Facts) (bound : ℕ) (m : Machine) → SyncsBeginnings old → StaysFound since old bound → LosesOnly old old (LeavesFirst order since bound m) → HoldsFirst order old.files m
whole_first order since old bound m sound stays here = here old.files (whole_lost old sound) (whole_spares since old bound stays.each)

pub left_stays : (old new : Facts) (q : List ℕ) → LeavesFile old new q → StaysOrGoes old new q
left_stays old new q left = inr (left.0, kept_still old new q left)

-- calls that leave `CURRENT`, and of the others each as it was, or gone
pub stays_through : (since old new : Facts) (bound : ℕ) → get new.files (name_of Current) ≡ get old.files (name_of Current) → StayBelow old new bound → StaysFound since old bound → StaysFound since new bound
stays_through since old new bound current each h = record {
  from = elim h.from [ inl none ↦ inl none | inr named ↦ inr (named.0, (named.1.0, current ∙ named.1.1), named.2) ];
  each = λ n num below.
      let a = h.each n num below in
      let b = each n num below in (
        goes_on since old new (name_of (Table n)) a.0 b.0,
        goes_on since old new (name_of (OldTable n)) a.1 b.1,
        goes_on since old new (name_of (Log n)) a.2 b.2,
      );
}

pub stays_still : (since old new : Facts) (bound : ℕ) → new.files ≡ old.files → new.synced ≡ old.synced → StaysFound since old bound → StaysFound since new bound
stays_still since old new bound files synced h =
    let same : (q : List ℕ) → StaysOrGoes old new q = λ q. left_stays old new q (ap (λ (fs : Files). get fs q) files, ap (λ (s : Synced). s q) synced) in
    stays_through since old new bound (ap (λ (fs : Files). get fs (name_of Current)) files) (λ n num below. (same (name_of (Table n)), same (name_of (OldTable n)), same (name_of (Log n)))) h

-- ---- one call after another

pub on_behind : (order : Order) (a b c : Facts) (first more : List Call) → b.calls ≡ a.calls ++ first → c.calls ≡ b.calls ++ more → LosesOn order a b → LosesOn order b c → LosesOn order a c
on_behind order a b c first more began goes h k since bound m stays here =
    let P = LeavesFirst order since bound m in
    let one = h since bound m stays here in
    let two = k since bound m one.1 (loses_later a b first P began one.0) in
    (loses_both a b c more P goes one.0 two.0, two.1)

-- nothing was changed
pub on_still : (order : Order) (old new : Facts) → new.calls ≡ old.calls → new.files ≡ old.files → new.synced ≡ old.synced → LosesOn order old new
on_still order old new calls files synced since bound m stays here =
    (loses_same old new (LeavesFirst order since bound m) calls files synced here, stays_still since old new bound files synced stays)

pub on_here : (order : Order) (facts : Facts) → LosesOn order facts facts
on_here order facts = on_still order facts facts refl refl refl

pub on_idle : (order : Order) (old new : Facts) → Idles old new → LosesOn order old new
on_idle order old new idle = on_still order old new idle.0 (ap (λ (disk : Disk). disk.files) idle.1) (ap (λ (disk : Disk). disk.synced) idle.1)

-- with calls after that change nothing
pub on_read : (order : Order) (old new last : Facts) (more : List Call) → new.calls ≡ old.calls ++ more → LosesOn order old new → last.calls ≡ new.calls → last.files ≡ new.files → last.synced ≡ new.synced → LosesOn order old last
on_read order old new last more goes h calls files synced since bound m stays here =
    let one = h since bound m stays here in
    (loses_read old new last more (LeavesFirst order since bound m) goes calls files synced one.0, stays_still since new last bound files synced one.1)

-- ---- the lock's file is there, and made again

abbrev lock_call : Disk → Call
lock_call disk = record { found = disk; change = LockFile }

locked_at : (disk : Disk) (calls : List Call) (o : Option (List ℕ)) (was : Option (List ℕ) × Option (List ℕ)) → ((q : List ℕ) → held_last (calls ++ lock_call disk ∷ []) disk q ≡ held_last calls disk q)
    → option_map_or (held_last (calls ++ lock_call disk ∷ []) disk) o was ≡ option_map_or (held_last calls disk) o was
locked_at disk calls None was same = refl
locked_at disk calls (Some q) was same = same q

locked_held : (disk : Disk) (calls : List Call) (q : List ℕ) → held_last (calls ++ lock_call disk ∷ []) disk q ≡ held_last calls disk q
locked_held disk [] q = refl
locked_held disk (call ∷ calls) q = locked_at disk calls (name_behind call.change q) (get call.found.files q, call.found.synced q) (λ p. locked_held disk calls p)

locked_is : (disk : Disk) (calls : List Call) (names lost : Files) → IsLost names (calls ++ lock_call disk ∷ []) disk lost → IsLost names calls disk lost
locked_is disk calls names lost h = record {
  names = h.names;
  beginning = λ q bytes there. let b = h.beginning q bytes there in (b.0, sym (ap (λ (p : Option (List ℕ) × Option (List ℕ)). p.0) (locked_held disk calls q)) ∙ b.1, b.2);
  kept = λ q bytes synced there is. h.kept q bytes synced there (ap (λ (p : Option (List ℕ) × Option (List ℕ)). p.1) (locked_held disk calls q) ∙ is);
}

locked_since : (disk : Disk) (calls : List Call) (lost : Files) → IsLostSince (calls ++ lock_call disk ∷ []) disk lost → IsLostSince calls disk lost
locked_since disk [] lost (inl h) = locked_is disk [] disk.files lost h
locked_since disk [] lost (inr h) = h
locked_since disk (call ∷ calls) lost (inl h) = inl (locked_is disk (call ∷ calls) call.found.files lost h)
locked_since disk (call ∷ calls) lost (inr later) = inr (locked_since disk calls lost later)

-- A loss after that call is one before it.
pub lost_locked : (old mid : Facts) (lost : Files) → mid.calls ≡ old.calls ++ lock_call (disk_of old) ∷ [] → disk_of mid ≡ disk_of old → Lost mid (moment mid) lost → Lost old (moment old) lost
lost_locked old mid lost calls disk h =
    let all : behind_sync [] mid.calls ≡ behind_sync [] old.calls ++ lock_call (disk_of old) ∷ [] = ap (behind_sync []) calls ∙ behind_more [] old.calls (lock_call (disk_of old) ∷ []) in
    let A : List Call → Type 0 = λ cs. IsLostSince cs (disk_of mid) lost in
    let B : Disk → Type 0 = λ d. IsLostSince (behind_sync [] old.calls ++ lock_call (disk_of old) ∷ []) d lost in
    lost_now old lost (locked_since (disk_of old) (behind_sync [] old.calls) lost (subst B disk (subst A all (lost_here mid lost h))))

-- the files and what is synced of them are as they were
pub lock_same : (old mid : Facts) → IsSome (get old.files lock_name) → mid.synced ≡ old.synced → Idles old mid ⊎ Adds old mid LockFile → (mid.files ≡ old.files) × (mid.synced ≡ old.synced)
lock_same old mid there synced (inl idle) = (ap (λ (disk : Disk). disk.files) idle.1, synced)
lock_same old mid there synced (inr adds) = (adds.1 ∙ ap (λ (b : Bool). if b then old.files else insert old.files lock_name []) there, synced)

pub on_locked : (order : Order) (old mid : Facts) → IsSome (get old.files lock_name) → mid.synced ≡ old.synced → Idles old mid ⊎ Adds old mid LockFile → LosesOn order old mid
on_locked order old mid there synced (inl idle) since bound m stays here = on_idle order old mid idle since bound m stays here
on_locked order old mid there synced (inr adds) since bound m stays here =
    let P = LeavesFirst order since bound m in
    let same = lock_same old mid there synced (inr adds) in
    let disk : disk_of mid ≡ disk_of old = λ i. record { files = same.0 i; synced = same.1 i } in
    let behind : LosesOnly mid mid P = λ lost h. here lost (lost_locked old mid lost adds.0 disk h) in
    (loses_noted old mid LockFile P (inr adds) here behind, stays_still since old mid bound same.0 same.1 stays)

pub lock_calls : (old mid : Facts) → Idles old mid ⊎ Adds old mid LockFile → (first : List Call) × (mid.calls ≡ old.calls ++ first)
lock_calls old mid (inl idle) = ([], idle.0 ∙ sym (append-nil old.calls))
lock_calls old mid (inr adds) = (lock_call (disk_of old) ∷ [], adds.0)

-- and what is done after it
pub on_lock : (order : Order) (old mid new : Facts) (more : List Call) → IsSome (get old.files lock_name) → mid.synced ≡ old.synced → Idles old mid ⊎ Adds old mid LockFile → new.calls ≡ mid.calls ++ more → LosesOn order mid new → LosesOn order old new
on_lock order old mid new more there synced noted goes h =
    let first = lock_calls old mid noted in
    on_behind order old mid new first.0 more first.1 goes (on_locked order old mid there synced noted) h

-- with a call after that that changes nothing
pub on_unlocked : (order : Order) (old mid new last : Facts) (more : List Call) → IsSome (get old.files lock_name) → mid.synced ≡ old.synced → Idles old mid ⊎ Adds old mid LockFile → new.calls ≡ mid.calls ++ more → LosesOn order mid new
    → last.calls ≡ new.calls → last.files ≡ new.files → last.synced ≡ new.synced → LosesOn order old last
on_unlocked order old mid new last more there synced noted goes h calls files same =
    let first = lock_calls old mid noted in
    on_read order old new last (first.0 ++ more) (goes ∙ ap (λ (cs : List Call). cs ++ more) first.1 ∙ append_assoc old.calls first.0 more) (on_lock order old mid new more there synced noted goes h) calls files same
