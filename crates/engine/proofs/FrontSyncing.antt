-- What a write leaves of what is synced, with the logs in front.
use Rattle.std.proofs.Common.{Bool, true, false, ◌≡◌, ◌≢◌, ◌⊎◌, ◌<◌, ◌≤◌, ℕ, List, [], ◌∷◌, ◌++◌, Some, Result, Ok, Err, IsTrue, OnOk, OnErr, is_err, is_some, inl, inr, refl, sym, ap, subst, ◌∙◌, arith, take}
use Rattle.std.specs.Cmp.{tied_itself}
use Rattle.std.specs.Cmp.Lexicographic.{slice_cmp, nat_list_cmp_total}
use Rattle.std.specs.Ordering.{nat_cmp}
use Rattle.std.specs.declared.cmp.Ordering.{Ordering}
use Rattle.std.specs.declared.cmp.Ordering.TheVariants.{Less, Equal, Greater}
use Rattle.std.specs.FinMap.{get, contains_key, slice_cmp-IsAntisymmetric, nat_cmp-IsAntisymmetric}
use Rattle.std.specs.List.{AllByRecursion}
use Rattle.store.specs.Files.{Facts, Files, Synced, Addition, Disk, Sync, Appends, AppendsBeginning, disk_of, with_synced}
use Rattle.store.specs.Calls.{Adds, Changes, Counts, FailsAsWrite, Idles, Keeps, NotesSync}
use Rattle.store.specs.Losses.{CarriesBut, PutsSynced}
use Rattle.store.specs.Stops.{LeavesOnly}
use Rattle.store.specs.declared.error.StoreError.{StoreError}
use Rattle.store.specs.declared.error.StoreError.TheVariants as store_error
use Rattle.recover.proofs.NamedFiles.{get_other, get_same}
use Rattle.opening.specs.Durable.{IsSynced}
use Rattle.opening.specs.Losses.{EndsInSync, IsNoneOf}
use Rattle.opening.specs.internal.Calls.{KeepsOthers}
use Rattle.opening.proofs.Syncing.{done_of, only_with, with_other, with_same}
use Rattle.engine.proofs.Appending.{failed_sync}
use Rattle.store.proofs.Carrying.{carries_appended, carries_both, carries_same, carries_synced}
use Rattle.store.proofs.Stopping.{leaves_both, leaves_same, leaves_so, sync_left}
use Rattle.engine.specs.declared.log.LogError.{LogError}
use Rattle.engine.specs.declared.log.LogError.TheVariants.{Device, Memory}
use Rattle.engine.specs.internal.Logs.{AppendsRecord, LeavesOrSyncs, SyncsEach, SyncsFront, SyncsThenPuts, SyncsThese}
use Rattle.engine.specs.Touching.{SyncsLog}

-- ---- two names

same_by : (r : Ordering) (a b : List ℕ) → slice_cmp nat_cmp a b ≡ r → (a ≡ b) ⊎ (a ≢ b)
same_by Equal a b e = inl (slice_cmp-IsAntisymmetric nat_cmp-IsAntisymmetric a b e)
same_by Less a b e = inr (λ is. (let tied : Equal ≡ Less = sym (tied_itself nat_list_cmp_total a) ∙ ap (slice_cmp nat_cmp a) is ∙ e in cc))
same_by Greater a b e = inr (λ is. (let tied : Equal ≡ Greater = sym (tied_itself nat_list_cmp_total a) ∙ ap (slice_cmp nat_cmp a) is ∙ e in cc))

pub same_or_other : (a b : List ℕ) → (a ≡ b) ⊎ (a ≢ b)
same_or_other a b = same_by (slice_cmp nat_cmp a b) a b refl

none_of_more : (q : List ℕ) (xs : List (List ℕ)) (x : List ℕ) → IsNoneOf q (xs ++ x ∷ []) → IsNoneOf q xs × (q ≢ x)
none_of_more q [] x h = (tt, h.0)
none_of_more q (y ∷ ys) x h = (let r = none_of_more q ys x h.1 in ((h.0, r.0), r.1))

none_of_first : (q : List ℕ) (xs ys : List (List ℕ)) → IsNoneOf q (xs ++ ys) → IsNoneOf q xs
none_of_first q [] ys h = tt
none_of_first q (x ∷ xs) ys h = (h.0, none_of_first q xs ys h.1)

-- ---- some syncs

pub synced_none : (facts : Facts) → SyncsThese [] facts facts
synced_none facts = record { faithful = λ f. f; failures = omega arith; writes = refl; denials = refl; locked = refl; files = λ f. refl; others = λ f q none. refl; keeps = λ f q. inl refl }

-- of each failure a failed write
pub fails_both : (old mid new : Facts) → FailsAsWrite old mid → FailsAsWrite mid new → FailsAsWrite old new
fails_both old mid new a b = omega (arith, a, b)

-- one more, where the disk keeps it
synced_more : (names : List (List ℕ)) (name : List ℕ) (old mid new : Facts) → SyncsThese names old mid → (IsTrue new.faithful → IsTrue mid.faithful) → mid.failures ≤ new.failures → FailsAsWrite mid new → new.denials ≡ mid.denials → new.locked ≡ mid.locked
    → (IsTrue new.faithful → new.files ≡ mid.files) → (IsTrue new.faithful → (q : List ℕ) → q ≢ name → new.synced q ≡ mid.synced q) → (IsTrue new.faithful → (q : List ℕ) → LeavesOrSyncs old mid q → LeavesOrSyncs old new q) → SyncsThese (names ++ name ∷ []) old new
synced_more names name old mid new h back rise writes undenied held same others keeps = record {
  faithful = λ f. h.faithful (back f);
  failures = (let first = h.failures in omega (arith, first, rise));
  writes = fails_both old mid new h.writes writes;
  denials = undenied ∙ h.denials;
  locked = held ∙ h.locked;
  files = λ f. same f ∙ h.files (back f);
  others = λ f q none. (let apart = none_of_more q names name none in others f q apart.1 ∙ h.others (back f) q apart.0);
  keeps = λ f q. keeps f q (h.keeps (back f) q);
}

-- a file that is synced stays so while another one is
pub still_synced : (mid new : Facts) (name q : List ℕ) → new.synced ≡ with_synced mid.synced name (get mid.files name) → new.files ≡ mid.files → IsSynced mid q → IsSynced new q
still_synced mid new name q synced same is = elim (same_or_other q name) [
  | inl it ↦
      ap (λ (s : Synced). s q) synced ∙ ap (λ (n : List ℕ). with_synced mid.synced name (get mid.files name) n) it ∙ with_same mid.synced name (get mid.files name)
      ∙ ap (get mid.files) (sym it) ∙ ap (λ (fs : Files). get fs q) (sym same)
  | inr apart ↦ ap (λ (s : Synced). s q) synced ∙ with_other mid.synced name q (get mid.files name) apart ∙ is ∙ ap (λ (fs : Files). get fs q) (sym same)
]

pub all_synced : (mid new : Facts) (name : List ℕ) (names : List (List ℕ)) → new.synced ≡ with_synced mid.synced name (get mid.files name) → new.files ≡ mid.files → AllByRecursion (IsSynced mid) names → AllByRecursion (IsSynced new) names
all_synced mid new name [] synced same h = tt
all_synced mid new name (q ∷ names) synced same h = (still_synced mid new name q synced same h.0, all_synced mid new name names synced same h.1)

pub this_synced : (mid new : Facts) (name : List ℕ) → new.synced ≡ with_synced mid.synced name (get mid.files name) → new.files ≡ mid.files → IsSynced new name
this_synced mid new name synced same = ap (λ (s : Synced). s name) synced ∙ with_same mid.synced name (get mid.files name) ∙ ap (λ (fs : Files). get fs name) (sym same)

-- of each the same is synced, or all of it
pub sync_keeps : (old mid new : Facts) (name q : List ℕ) → new.synced ≡ with_synced mid.synced name (get mid.files name) → new.files ≡ mid.files → LeavesOrSyncs old mid q → LeavesOrSyncs old new q
sync_keeps old mid new name q synced same (inl left) = elim (same_or_other q name) [
  | inl it ↦ inr (subst (IsSynced new) (sym it) (this_synced mid new name synced same))
  | inr apart ↦ inl (ap (λ (s : Synced). s q) synced ∙ with_other mid.synced name q (get mid.files name) apart ∙ left)
]
sync_keeps old mid new name q synced same (inr whole) = inr (still_synced mid new name q synced same whole)

same_keeps : (old mid new : Facts) (q : List ℕ) → new.files ≡ mid.files → new.synced q ≡ mid.synced q → LeavesOrSyncs old mid q → LeavesOrSyncs old new q
same_keeps old mid new q same synced (inl left) = inl (synced ∙ left)
same_keeps old mid new q same synced (inr whole) = inr (synced ∙ whole ∙ ap (λ (fs : Files). get fs q) (sym same))

all_more : (facts : Facts) (names : List (List ℕ)) (name : List ℕ) → AllByRecursion (IsSynced facts) names → IsSynced facts name → AllByRecursion (IsSynced facts) (names ++ name ∷ [])
all_more facts [] name h is = (is, tt)
all_more facts (x ∷ xs) name h is = (h.0, all_more facts xs name h.1 is)

-- ---- no name comes or goes

there_too : (old new : Files) (name bytes : List ℕ) → Appends old new name bytes → (q : List ℕ) → contains_key new q ≡ contains_key old q
there_too old new name bytes a q = elim (same_or_other q name) [
  | inl it ↦
      let now : get new q ≡ Some (a.0 ++ bytes) = ap (get new) it ∙ ap (λ (fs : Files). get fs name) a.2 ∙ get_same old name (a.0 ++ bytes) in
      let before : get old q ≡ Some a.0 = ap (get old) it ∙ a.1 in
      ap is_some now ∙ sym (ap is_some before)
  | inr apart ↦ ap is_some (ap (λ (fs : Files). get fs q) a.2 ∙ get_other old name (a.0 ++ bytes) q apart)
]

same_names : (old new : Facts) (name bytes : List ℕ) → Idles old new ⊎ ((n : ℕ) × Adds old new (Addition name (take n bytes))) → (q : List ℕ) → contains_key new.files q ≡ contains_key old.files q
same_names old new name bytes (inl idle) q = ap (λ (disk : Disk). contains_key disk.files q) idle.1
same_names old new name bytes (inr some) q = there_too old.files new.files name (take some.0 bytes) some.1.1 q

pub append_carries : (old new : Facts) (name bytes : List ℕ) → Idles old new ⊎ ((n : ℕ) × Adds old new (Addition name (take n bytes))) → new.synced ≡ old.synced → CarriesBut old new (λ (q : List ℕ). ⊥)
append_carries old new name bytes noted synced = carries_appended old new name bytes (λ (q : List ℕ). ⊥) (same_names old new name bytes noted) synced noted

pub sync_carries : (old mid new : Facts) (name : List ℕ) (r : Result (Unit {0}) StoreError) → OnOk r (Adds mid new (Sync name)) → OnErr r (new.calls ≡ mid.calls) → new.files ≡ mid.files → OnErr r (new.synced ≡ mid.synced)
    → CarriesBut old mid (λ (q : List ℕ). ⊥) → CarriesBut old new (λ (q : List ℕ). ⊥)
sync_carries old mid new name r noted left same synced h = carries_both old mid new (λ (q : List ℕ). ⊥) h (carries_synced mid new name (λ (q : List ℕ). ⊥) r noted left same synced)

-- ---- one file after the other

-- one more after them
each_more : (names : List (List ℕ)) (name : List ℕ) (old mid new : Facts) → Adds mid new (Sync name) → new.synced ≡ with_synced mid.synced name (get mid.files name) → SyncsEach names old mid → SyncsEach (names ++ name ∷ []) old new
each_more [] name old mid new adds synced idle = (
  new,
  (adds.0 ∙ (λ i. idle.0 i ++ record { found = idle.1 i; change = Sync name } ∷ []), adds.1 ∙ ap (λ (disk : Disk). disk.files) idle.1),
  synced ∙ ap (λ (disk : Disk). with_synced disk.synced name (get disk.files name)) idle.1,
  (refl, refl),
)
each_more (first ∷ names) name old mid new adds synced h = (h.0, h.1, h.2, each_more names name h.0 mid new adds synced h.3)

-- calls after them that changed nothing
each_idle : (names : List (List ℕ)) (old mid new : Facts) → Idles mid new → SyncsEach names old mid → SyncsEach names old new
each_idle [] old mid new idle h = (idle.0 ∙ h.0, idle.1 ∙ h.1)
each_idle (first ∷ names) old mid new idle h = (h.0, h.1, h.2, each_idle names h.0 mid new idle h.3)

pub record SyncsSoFar (names : List (List ℕ)) (old new : Facts) : Type 0 where
  pub these : SyncsThese names old new
  pub kept : IsTrue new.faithful → AllByRecursion (IsSynced new) names
  pub each : IsTrue new.faithful → SyncsEach names old new
  pub left : IsTrue new.faithful → LeavesOnly old new (λ files. files ≡ old.files)
  pub carried : IsTrue new.faithful → CarriesBut old new (λ (q : List ℕ). ⊥)
  pub unfailed : new.failures ≡ old.failures

pub so_far_none : (facts : Facts) → SyncsSoFar [] facts facts
so_far_none facts = record {
  these = synced_none facts;
  kept = λ f. tt;
  each = λ f. (refl, refl);
  left = λ f. leaves_same facts facts (λ files. files ≡ facts.files) refl refl refl;
  carried = λ f. carries_same facts facts (λ (q : List ℕ). ⊥) refl refl refl;
  unfailed = refl;
}

failed_of : {P : Type 0} (r : Result (Unit {0}) StoreError) → is_err r ≡ true → OnErr r P → P
failed_of (Ok x) test h = absurd (cc)
failed_of (Err e) test h = h

not_failed : (r : Result (Unit {0}) StoreError) → is_err r ≡ false → r ≢ Err store_error.Device
not_failed (Ok x) test bad = absurd (cc)
not_failed (Err e) test bad = absurd (cc)

pub so_far_more : (names : List (List ℕ)) (name : List ℕ) (old mid new : Facts) (r : Result (Unit {0}) StoreError) → is_err r ≡ false → Counts mid new r → FailsAsWrite mid new → new.denials ≡ mid.denials → new.locked ≡ mid.locked → Keeps mid new
    → (IsTrue new.faithful → OnOk r (new.synced ≡ with_synced mid.synced name (get mid.files name))) → (IsTrue new.faithful → OnErr r (new.synced ≡ mid.synced)) → NotesSync mid new r (Sync name) → SyncsSoFar names old mid → SyncsSoFar (names ++ name ∷ []) old new
so_far_more names name old mid new r went counts writes undenied held same synced unsynced noted h = record {
  these = synced_more names name old mid new h.these counts.faithful counts.failures writes undenied held same (λ f. only_with mid.synced new.synced name (get mid.files name) (done_of r went (synced f)))
      (λ f q. sync_keeps old mid new name q (done_of r went (synced f)) (same f));
  kept = λ f. (let is = done_of r went (synced f) in all_more new names name (all_synced mid new name names is (same f) (h.kept (counts.faithful f))) (this_synced mid new name is (same f)));
  each = λ f. each_more names name old mid new (done_of r went (noted.ok f)) (done_of r went (synced f)) (h.each (counts.faithful f));
  left = λ f. sync_left old mid new name (λ files. files ≡ old.files) r (noted.ok f) (noted.err f) (same f) (h.left (counts.faithful f));
  carried = λ f. sync_carries old mid new name r (noted.ok f) (noted.err f) (same f) (unsynced f) (h.carried (counts.faithful f));
  unfailed = counts.unfailed (not_failed r went) ∙ h.unfailed;
}

pub so_far_failed : (all names rest : List (List ℕ)) (name : List ℕ) (old mid new : Facts) (r : Result (Unit {0}) StoreError) → all ≡ names ++ rest → is_err r ≡ true → r ≢ Err store_error.Missing → r ≢ Err store_error.Memory → Counts mid new r → FailsAsWrite mid new → new.denials ≡ mid.denials → new.locked ≡ mid.locked
    → Keeps mid new → (IsTrue new.faithful → OnErr r (new.synced ≡ mid.synced)) → SyncsSoFar names old mid → SyncsFront all old new (Err Device)
so_far_failed all names rest name old mid new r is went missing memory counts writes undenied held same unsynced h = record {
  these = record {
    faithful = λ f. h.these.faithful (counts.faithful f);
    failures = (let first = h.these.failures in let second = counts.failures in omega (arith, first, second));
    writes = fails_both old mid new h.these.writes writes;
    denials = undenied ∙ h.these.denials;
    locked = held ∙ h.these.locked;
    files = λ f. same f ∙ h.these.files (counts.faithful f);
    others = λ f q none. ap (λ (s : Synced). s q) (failed_of r went (unsynced f)) ∙ h.these.others (counts.faithful f) q (none_of_first q names rest (subst (IsNoneOf q) is none));
    keeps = λ f q. same_keeps old mid new q (same f) (ap (λ (s : Synced). s q) (failed_of r went (unsynced f))) (h.these.keeps (counts.faithful f) q);
  };
  kept = λ f. tt;
  done = tt;
  refused = (refl, (let first = h.these.failures in let second = counts.device (failed_sync r went missing memory) in omega (arith, first, second)));
}

pub so_far_left : (names : List (List ℕ)) (name : List ℕ) (old mid new : Facts) (r : Result (Unit {0}) StoreError) → IsTrue new.faithful → Counts mid new r → Keeps mid new → NotesSync mid new r (Sync name) → SyncsSoFar names old mid → LeavesOnly old new (λ files. files ≡ old.files)
so_far_left names name old mid new r f counts same noted h = sync_left old mid new name (λ files. files ≡ old.files) r (noted.ok f) (noted.err f) (same f) (h.left (counts.faithful f))

pub so_far_carried : (names : List (List ℕ)) (name : List ℕ) (old mid new : Facts) (r : Result (Unit {0}) StoreError) → IsTrue new.faithful → Counts mid new r → Keeps mid new → (IsTrue new.faithful → OnErr r (new.synced ≡ mid.synced)) → NotesSync mid new r (Sync name)
    → SyncsSoFar names old mid → CarriesBut old new (λ (q : List ℕ). ⊥)
so_far_carried names name old mid new r f counts same unsynced noted h = sync_carries old mid new name r (noted.ok f) (noted.err f) (same f) (unsynced f) (h.carried (counts.faithful f))

-- those that were synced before one of them failed
pub so_far_each : (names : List (List ℕ)) (name : List ℕ) (old mid new : Facts) (r : Result (Unit {0}) StoreError) → IsTrue new.faithful → is_err r ≡ true → Counts mid new r → Keeps mid new → (IsTrue new.faithful → OnErr r (new.synced ≡ mid.synced)) → NotesSync mid new r (Sync name)
    → SyncsSoFar names old mid → SyncsEach names old new
so_far_each names name old mid new r f went counts same unsynced noted h =
    each_idle names old mid new (failed_of r went (noted.err f), λ i. record { files = same f i; synced = failed_of r went (unsynced f) i }) (h.each (counts.faithful f))

pub all_so_far : (all names : List (List ℕ)) (old new : Facts) → names ≡ all → SyncsSoFar names old new → SyncsFront all old new (Ok tt)
all_so_far all names old new is h = record {
  these = subst (λ (n : List (List ℕ)). SyncsThese n old new) is h.these;
  kept = λ f. subst (AllByRecursion (IsSynced new)) is (h.kept f);
  done = h.unfailed;
  refused = tt;
}

-- ---- an append after them

pub appends_behind : (old mid new : Facts) (names : List (List ℕ)) (name bytes : List ℕ) (result : Result (Unit {0}) LogError) → SyncsThese names old mid → AppendsRecord mid new name bytes result → AppendsRecord old new name bytes result
appends_behind old mid new names name bytes result h a = record {
  faithful = λ f. h.faithful (a.faithful f);
  failures = (let first = h.failures in let second = a.failures in omega (arith, first, second));
  denials = a.denials ∙ h.denials;
  ok = λ f. subst (λ (fs : Files). OnOk result (Appends fs new.files name bytes)) (h.files (a.faithful f)) (a.ok f);
  device = λ f e. subst (λ (fs : Files). AppendsBeginning fs new.files name bytes) (h.files (a.faithful f)) (a.device f e);
  counted = λ e. (let first = h.failures in let second = a.counted e in omega (arith, first, second));
  memory = λ f e. a.memory f e ∙ h.files (a.faithful f);
}

pub unappended : (old new : Facts) (names : List (List ℕ)) (name bytes : List ℕ) → SyncsThese names old new → old.failures < new.failures → AppendsRecord old new name bytes (Err Device)
unappended old new names name bytes h counted = record {
  faithful = h.faithful;
  failures = h.failures;
  denials = h.denials;
  ok = λ f. tt;
  device = λ f e. inl (h.files f);
  counted = λ e. counted;
  memory = λ f e. absurd (cc);
}

appended_other : (mid new : Facts) (name bytes q : List ℕ) → Appends mid.files new.files name bytes → q ≢ name → get new.files q ≡ get mid.files q
appended_other mid new name bytes q a apart = ap (λ (fs : Files). get fs q) a.2 ∙ get_other mid.files name (a.0 ++ bytes) q apart

kept_behind : (mid new : Facts) (name bytes : List ℕ) (names : List (List ℕ)) → Appends mid.files new.files name bytes → ((q : List ℕ) → q ≢ name → new.synced q ≡ mid.synced q) → IsNoneOf name names
    → AllByRecursion (IsSynced mid) names → AllByRecursion (IsSynced new) names
kept_behind mid new name bytes [] a others apart h = tt
kept_behind mid new name bytes (q ∷ names) a others apart h =
    let other : q ≢ name = λ is. apart.0 (sym is) in
    (others q other ∙ h.0 ∙ sym (appended_other mid new name bytes q a other), kept_behind mid new name bytes names a others apart.1 h.1)

front_by : (mid new : Facts) (name bytes : List ℕ) (names : List (List ℕ)) (result : Result (Unit {0}) LogError) → OnOk result (Appends mid.files new.files name bytes) → ((q : List ℕ) → q ≢ name → new.synced q ≡ mid.synced q) → IsNoneOf name names
    → AllByRecursion (IsSynced mid) names → OnOk result (AllByRecursion (IsSynced new) names)
front_by mid new name bytes names (Ok x) a others apart h = kept_behind mid new name bytes names a others apart h
front_by mid new name bytes names (Err e) a others apart h = tt

refused_by : (old mid new : Facts) (names : List (List ℕ)) (result : Result (Unit {0}) LogError) → OnErr result ((q : List ℕ) → IsNoneOf q [] → new.synced q ≡ mid.synced q) → ((q : List ℕ) → IsNoneOf q names → mid.synced q ≡ old.synced q)
    → OnErr result ((q : List ℕ) → IsNoneOf q names → new.synced q ≡ old.synced q)
refused_by old mid new names (Ok x) h front = tt
refused_by old mid new names (Err e) h front = λ q none. h q tt ∙ front q none

pub syncs_behind : (sync : Bool) (old mid new : Facts) (names : List (List ℕ)) (name bytes : List ℕ) (result : Result (Unit {0}) LogError) → SyncsFront names old mid (Ok tt) → AppendsRecord mid new name bytes result
    → SyncsLog (Unit {0}) (sync ≡ true) sync name [] mid new result → SyncsLog (Unit {0}) (sync ≡ true) sync name names old new result
syncs_behind sync old mid new names name bytes result h a s = record {
  kept = s.kept;
  front_kept = λ f some apart. front_by mid new name bytes names result (a.ok f) (λ q other. s.others f q other tt) apart (h.kept (a.faithful f));
  others = λ f q apart none. s.others f q apart tt ∙ h.these.others (a.faithful f) q none;
  unasked = λ f no q none. s.unasked f no q tt ∙ h.these.others (a.faithful f) q none;
  refused = λ f. refused_by old mid new names result (s.refused f) (h.these.others (a.faithful f));
  locked = s.locked ∙ h.these.locked;
}

-- out of memory, a call leaves what was synced of each, or all of it is synced
pub memory_keeps : (sync : Bool) (old mid new : Facts) (names : List (List ℕ)) (name bytes : List ℕ) (result : Result (Unit {0}) LogError) → SyncsThese names old mid → AppendsRecord mid new name bytes result
    → SyncsLog (Unit {0}) (sync ≡ true) sync name [] mid new result → IsTrue new.faithful → result ≡ Err Memory → (q : List ℕ) → LeavesOrSyncs old new q
memory_keeps sync old mid new names name bytes (Ok x) h a s f is q = absurd (cc)
memory_keeps sync old mid new names name bytes (Err e) h a s f is q = same_keeps old mid new q (a.memory f is) (s.refused f q tt) (h.keeps (a.faithful f) q)

abbrev SameResult : {T : Type 0} → Result T LogError → Result T LogError → Type 0
SameResult a b = a ≡ b

-- the same is told of what it answers in turn
pub memory_told : {K : Type 0} (e : LogError) → (SameResult {T = Unit {0}} (Err e) (Err Memory) → K) → SameResult {T = ℕ} (Err e) (Err Memory) → K
memory_told e h is = h (let same : e ≡ Memory = cc in ap (λ (x : LogError). Err x) same)

-- or, where one of them failed
pub syncs_unappended : (sync : Bool) (old new : Facts) (names : List (List ℕ)) (name : List ℕ) → SyncsThese names old new → SyncsLog {T = Unit {0}} {E = LogError} (Unit {0}) (sync ≡ true) sync name names old new (Err Device)
syncs_unappended sync old new names name h = record {
  kept = λ f asked. tt;
  front_kept = λ f some apart. tt;
  others = λ f q apart none. h.others f q none;
  unasked = λ f no q none. h.others f q none;
  refused = λ f q none. h.others f q none;
  locked = h.locked;
}

-- no other file changes
pub beside_append : (old new : Facts) (name bytes : List ℕ) (r : Result (Unit {0}) StoreError) → Changes old new r (λ o n. Appends o n name bytes) (λ o n. AppendsBeginning o n name bytes) → r ≢ Err store_error.Missing
    → IsTrue new.faithful → KeepsOthers old.files new.files name
beside_append old new name bytes (Ok x) changes missing f q apart = appended_other old new name bytes q (changes.ok f) apart
beside_append old new name bytes (Err store_error.Memory) changes missing f q apart = ap (λ (fs : Files). get fs q) (changes.memory f refl)
beside_append old new name bytes (Err store_error.Missing) changes missing f q apart = absurd (missing refl)
beside_append old new name bytes (Err store_error.Device) changes missing f q apart = elim (changes.device f refl) [
  | inl same ↦ ap (λ (fs : Files). get fs q) same
  | inr some ↦ appended_other old new name (take some.0 bytes) q some.1 apart
]

pub beside_synced : (old mid new : Facts) (name : List ℕ) → (IsTrue new.faithful → IsTrue mid.faithful) → (IsTrue mid.faithful → KeepsOthers old.files mid.files name) → (IsTrue new.faithful → new.files ≡ mid.files)
    → IsTrue new.faithful → KeepsOthers old.files new.files name
beside_synced old mid new name back others same f q apart = ap (λ (fs : Files). get fs q) (same f) ∙ others (back f) q apart

pub beside_front : (old mid new : Facts) (names : List (List ℕ)) (name : List ℕ) → SyncsThese names old mid → (IsTrue new.faithful → IsTrue mid.faithful) → (IsTrue new.faithful → KeepsOthers mid.files new.files name) → IsTrue new.faithful → KeepsOthers old.files new.files name
beside_front old mid new names name h back others f q apart = others f q apart ∙ ap (λ (fs : Files). get fs q) (h.files (back f))

pub stood_behind : (old mid new : Facts) (result : Result (Unit {0}) LogError) → mid.failures ≡ old.failures → OnOk result (new.failures ≡ mid.failures) → OnOk result (new.failures ≡ old.failures)
stood_behind old mid new (Ok x) first second = second ∙ first
stood_behind old mid new (Err e) first second = tt

-- the call that succeeded last
pub ends_so : (mid new : Facts) (name : List ℕ) (r : Result (Unit {0}) StoreError) → is_err r ≡ false → OnOk r (Adds mid new (Sync name)) → EndsInSync new
ends_so mid new name r went noted = (let adds = done_of r went noted in (mid.calls, record { found = disk_of mid; change = Sync name }, adds.0, refl))

-- the calls in turn
pub puts_behind : (names : List (List ℕ)) (old mid new : Facts) (name bytes : List ℕ) → SyncsEach names old mid → PutsSynced mid new name bytes → SyncsThenPuts names old new (λ (mid : Facts). PutsSynced mid new name bytes)
puts_behind names old mid new name bytes each puts = record { done = names; mid = mid; synced = each; ends = inr (refl, puts) }

pub unput_behind : (names done : List (List ℕ)) (old new : Facts) (puts : Facts → Type 0) → SyncsEach done old new → SyncsThenPuts names old new puts
unput_behind names done old new puts each = record { done = done; mid = new; synced = each; ends = inl (refl, refl) }

-- what is put there says more
pub puts_so : (names : List (List ℕ)) (old new : Facts) (puts says : Facts → Type 0) → ((mid : Facts) → puts mid → says mid) → SyncsThenPuts names old new puts → SyncsThenPuts names old new says
puts_so names old new puts says so h = record { done = h.done; mid = h.mid; synced = h.synced; ends = elim h.ends [ inl idle ↦ inl idle | inr put ↦ inr (put.0, so h.mid put.1) ] }

-- what a process crash leaves
pub left_behind : (old mid new : Facts) (name bytes : List ℕ) → mid.files ≡ old.files → LeavesOnly old mid (λ files. files ≡ old.files) → LeavesOnly mid new (λ files. AppendsBeginning mid.files files name bytes)
    → LeavesOnly old new (λ files. AppendsBeginning old.files files name bytes)
left_behind old mid new name bytes same first second = leaves_both old mid new (λ files. AppendsBeginning old.files files name bytes)
    (leaves_so old mid (λ files. files ≡ old.files) (λ files. AppendsBeginning old.files files name bytes) (λ files is. inl is) first)
    (subst (λ (fs : Files). LeavesOnly mid new (λ files. AppendsBeginning fs files name bytes)) same second)
