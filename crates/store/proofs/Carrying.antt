-- Which names some calls leave alone, one call after the other.
use Rattle.std.proofs.Common.{◌≡◌, ◌⊎◌, inl, inr, ℕ, Bool, true, false, List, [], ◌∷◌, ◌++◌, take, Option, Some, None, cond, is_some, if◌then◌else◌, Result, Ok, Err, OnOk, OnErr, refl, sym, ap, ◌∙◌, append_assoc, append-nil}
use Rattle.std.specs.Cmp.Lexicographic.{slice_cmp, nat_list_cmp_total}
use Rattle.std.specs.FinMap.{get, contains_key, get-insert}
use Rattle.std.specs.Ordering.{nat_cmp, eq_by_cmp}
use Rattle.std.specs.List.{AllByRecursion}
use Rattle.store.specs.Calls.{Adds, Idles}
use Rattle.store.specs.Files.{Facts, Files, Synced, Appends, Call, Change, Creation, Addition, Sync, Move, Removal, LockFile, Disk, disk_of}
use Rattle.store.specs.declared.error.StoreError.{StoreError}
use Rattle.store.specs.Losses.{CarriesBut, HasSync, PutsSynced, is_sync, name_behind, same_name}
use Rattle.store.specs.Stops.{IsNamedIn, TouchOnly, WritesOnly}
use Rattle.store.proofs.MemFiles as mem

-- ---- one change

-- another name isn't the same
other_name : (q name : List ℕ) → ((q ≡ name) → ⊥) → same_name q name ≡ false
other_name q name apart = at (same_name q name) refl
  where
    at : (b : Bool) → same_name q name ≡ b → b ≡ false
    at true is = absurd (apart (mem.same_name q name is))
    at false is = refl

-- a change leaves each file that it doesn't name under its name
pub unnamed_stays : (change : Change) (q : List ℕ) → (IsNamedIn change q → ⊥) → name_behind change q ≡ Some q
unnamed_stays (Creation name) q apart = ap (λ (b : Bool). if b then None else Some q) (other_name q name apart)
unnamed_stays (Addition name bytes) q apart = refl
unnamed_stays (Sync name) q apart = refl
unnamed_stays (Move from to) q apart =
    ap (λ (b : Bool). if b then Some to else (if same_name q to then None else Some q)) (other_name q from (λ is. apart (inl is)))
    ∙ ap (λ (b : Bool). if b then None else Some q) (other_name q to (λ is. apart (inr is)))
unnamed_stays (Removal name) q apart = ap (λ (b : Bool). if b then None else Some q) (other_name q name apart)
unnamed_stays LockFile q apart = refl

-- ---- some calls

abbrev Each : Files → (List ℕ → Type 0) → List Call → Type 0
Each files mine calls = AllByRecursion (λ (call : Call). (q : List ℕ) → (mine q → ⊥) → (name_behind call.change q ≡ Some q) × (contains_key call.found.files q ≡ contains_key files q)) calls

each_both : (files : Files) (mine : List ℕ → Type 0) (first second : List Call) → Each files mine first → Each files mine second → Each files mine (first ++ second)
each_both files mine [] second h k = k
each_both files mine (call ∷ first) second h k = (h.0, each_both files mine first second h.1 k)

each_from : (a b : Files) (mine : List ℕ → Type 0) (calls : List Call) → ((q : List ℕ) → (mine q → ⊥) → contains_key b q ≡ contains_key a q) → Each b mine calls → Each a mine calls
each_from a b mine [] same h = tt
each_from a b mine (call ∷ calls) same h = ((λ q apart. let one = h.0 q apart in (one.0, one.1 ∙ same q apart)), each_from a b mine calls same h.1)

each_more : (files : Files) (mine more : List ℕ → Type 0) (calls : List Call) → ((q : List ℕ) → mine q → more q) → Each files mine calls → Each files more calls
each_more files mine more [] so h = tt
each_more files mine more (call ∷ calls) so h = ((λ q apart. h.0 q (λ is. apart (so q is))), each_more files mine more calls so h.1)

pub sync_first : (first second : List Call) → HasSync first → HasSync (first ++ second)
sync_first [] second h = absurd h
sync_first (call ∷ first) second (inl is) = inl is
sync_first (call ∷ first) second (inr later) = inr (sync_first first second later)

pub sync_second : (first second : List Call) → HasSync second → HasSync (first ++ second)
sync_second [] second h = h
sync_second (call ∷ first) second h = inr (sync_second first second h)

pub carries_both : (a b c : Facts) (mine : List ℕ → Type 0) → CarriesBut a b mine → CarriesBut b c mine → CarriesBut a c mine
carries_both a b c mine h k = record {
  more = h.more ++ k.more;
  calls = k.calls ∙ ap (λ (calls : List Call). calls ++ k.more) h.calls ∙ append_assoc a.calls h.more k.more;
  each = each_both a.files mine h.more k.more h.each (each_from a.files b.files mine k.more h.now k.each);
  now = λ q apart. k.now q apart ∙ h.now q apart;
  synced = λ q apart. elim (h.synced q apart) [
    | inl same ↦ elim (k.synced q apart) [ inl still ↦ inl (still ∙ same) | inr came ↦ inr (sync_second h.more k.more came) ]
    | inr came ↦ inr (sync_first h.more k.more came)
  ];
}

pub carries_more : (a b : Facts) (mine more : List ℕ → Type 0) → ((q : List ℕ) → mine q → more q) → CarriesBut a b mine → CarriesBut a b more
carries_more a b mine more so h = record {
  more = h.more;
  calls = h.calls;
  each = each_more a.files mine more h.more so h.each;
  now = λ q apart. h.now q (λ is. apart (so q is));
  synced = λ q apart. h.synced q (λ is. apart (so q is));
}

-- calls that changed nothing
pub carries_same : (a b : Facts) (mine : List ℕ → Type 0) → b.calls ≡ a.calls → b.files ≡ a.files → b.synced ≡ a.synced → CarriesBut a b mine
carries_same a b mine calls files synced = record {
  more = [];
  calls = calls ∙ sym (append-nil a.calls);
  each = tt;
  now = λ q apart. ap (λ (fs : Files). contains_key fs q) files;
  synced = λ q apart. inl (ap (λ (s : Synced). s q) synced);
}

-- calls that wrote files of these names alone
touched_each : (calls : List Call) (disk : Disk) (mine : List ℕ → Type 0) → TouchOnly calls disk mine → Each disk.files mine calls
touched_each [] disk mine h = tt
touched_each (call ∷ calls) disk mine h = (
  (λ q apart. (unnamed_stays call.change q (λ named. apart (h.0.0 q named)), ap is_some (h.0.1 q apart).0)),
  touched_each calls disk mine h.1,
)

pub carries_writes : (a b : Facts) (mine : List ℕ → Type 0) → WritesOnly a b mine → CarriesBut a b mine
carries_writes a b mine h = record {
  more = h.leaves.more;
  calls = h.leaves.calls;
  each = touched_each h.leaves.more (disk_of a) mine h.calls;
  now = λ q apart. ap is_some (h.leaves.now q apart);
  synced = λ q apart. inl (h.synced q apart);
}

-- ---- one call

idle_files : (old new : Facts) → Idles old new → new.files ≡ old.files
idle_files old new idle = ap (λ (disk : Disk). disk.files) idle.1

idle_synced : (old new : Facts) → Idles old new → new.synced ≡ old.synced
idle_synced old new idle = ap (λ (disk : Disk). disk.synced) idle.1

-- done or not, it leaves each of the other names if the files say so
pub carries_noted : (old new : Facts) (change : Change) (mine : List ℕ → Type 0) → ((q : List ℕ) → (mine q → ⊥) → name_behind change q ≡ Some q) → ((q : List ℕ) → (mine q → ⊥) → contains_key new.files q ≡ contains_key old.files q)
    → ((q : List ℕ) → (mine q → ⊥) → (new.synced q ≡ old.synced q) ⊎ (is_sync change ≡ true)) → Idles old new ⊎ Adds old new change → CarriesBut old new mine
carries_noted old new change mine stays now synced (inl idle) = carries_same old new mine idle.0 (idle_files old new idle) (idle_synced old new idle)
carries_noted old new change mine stays now synced (inr adds) = record {
  more = record { found = disk_of old; change = change } ∷ [];
  calls = adds.0;
  each = ((λ q apart. (stays q apart, refl)), tt);
  now = now;
  synced = λ q apart. elim (synced q apart) [ inl same ↦ inl same | inr is ↦ inr (inl is) ];
}

-- an append of as many of these bytes as were added to the file
pub carries_appended : (old new : Facts) (name bytes : List ℕ) (mine : List ℕ → Type 0) → ((q : List ℕ) → contains_key new.files q ≡ contains_key old.files q) → new.synced ≡ old.synced
    → Idles old new ⊎ ((n : ℕ) × Adds old new (Addition name (take n bytes))) → CarriesBut old new mine
carries_appended old new name bytes mine now synced (inl idle) = carries_noted old new (Addition name bytes) mine (λ q apart. refl) (λ q apart. now q) (λ q apart. inl (ap (λ (s : Synced). s q) synced)) (inl idle)
carries_appended old new name bytes mine now synced (inr some) = carries_noted old new (Addition name (take some.0 bytes)) mine (λ q apart. refl) (λ q apart. now q) (λ q apart. inl (ap (λ (s : Synced). s q) synced)) (inr some.1)

-- it leaves all names
named_still : (b : Bool) (before after : List ℕ) (was : Option (List ℕ)) → (b ≡ true → was ≡ Some before) → is_some (cond b (Some after) was) ≡ is_some was
named_still true before after was h = sym (ap is_some (h refl))
named_still false before after was h = refl

appended_names : (old new : Files) (name bytes q : List ℕ) → Appends old new name bytes → contains_key new q ≡ contains_key old q
appended_names old new name bytes q a =
    ap (λ (files : Files). contains_key files q) a.2 ∙ ap is_some (get-insert nat_list_cmp_total old name (a.0 ++ bytes) q)
    ∙ named_still (eq_by_cmp (slice_cmp nat_cmp) q name) a.0 (a.0 ++ bytes) (get old q) (λ is. ap (λ (n : List ℕ). get old n) (mem.same_name q name is) ∙ a.1)

noted_names : (old new : Facts) (name bytes q : List ℕ) → Idles old new ⊎ ((n : ℕ) × Adds old new (Addition name (take n bytes))) → contains_key new.files q ≡ contains_key old.files q
noted_names old new name bytes q (inl idle) = ap (λ (disk : Disk). contains_key disk.files q) idle.1
noted_names old new name bytes q (inr some) = appended_names old.files new.files name (take some.0 bytes) q some.1.1

pub carries_begun : (old new : Facts) (name bytes : List ℕ) (mine : List ℕ → Type 0) → new.synced ≡ old.synced → Idles old new ⊎ ((n : ℕ) × Adds old new (Addition name (take n bytes))) → CarriesBut old new mine
carries_begun old new name bytes mine kept noted = carries_appended old new name bytes mine (λ q. noted_names old new name bytes q noted) kept noted

-- a sync, accepted or refused
pub carries_synced : (old new : Facts) (name : List ℕ) (mine : List ℕ → Type 0) (r : Result (Unit {0}) StoreError) → OnOk r (Adds old new (Sync name)) → OnErr r (new.calls ≡ old.calls) → new.files ≡ old.files → OnErr r (new.synced ≡ old.synced) → CarriesBut old new mine
carries_synced old new name mine (Ok x) noted left same synced = record {
  more = record { found = disk_of old; change = Sync name } ∷ [];
  calls = noted.0;
  each = ((λ q apart. (refl, refl)), tt);
  now = λ q apart. ap (λ (fs : Files). contains_key fs q) same;
  synced = λ q apart. inr (inl refl);
}
carries_synced old new name mine (Err e) noted left same synced = carries_same old new mine left same synced

-- an append, and its sync
pub carries_puts : (old new : Facts) (name bytes : List ℕ) (mine : List ℕ → Type 0) → PutsSynced old new name bytes → CarriesBut old new mine
carries_puts old new name bytes mine puts =
    let mid = puts.mid in
    let first = carries_begun old mid name bytes mine puts.kept puts.noted in
    elim puts.done [
      | inl idle ↦ carries_both old mid new mine first (carries_same mid new mine idle.0 (idle_files mid new idle) (idle_synced mid new idle))
      | inr done ↦ carries_both old mid new mine first (carries_synced mid new name mine (Ok tt) done.0 tt done.0.1 tt)
    ]
