-- What a power loss leaves where it leaves no mere beginning of what isn't synced, call by call.
use Rattle.std.proofs.Common.{◌≡◌, ◌≢◌, ◌⊎◌, inl, inr, ℕ, cond, List, [], ◌∷◌, ◌++◌, Option, Some, None, is_some, Result, Ok, Err, OnOk, OnErr, IsTrue, refl, sym, ap, subst, ◌∙◌, append-nil, append_assoc}
use Rattle.std.specs.Cmp.Lexicographic.{nat_list_cmp_total}
use Rattle.std.specs.FinMap.{get, insert, remove, get-remove}
use Rattle.store.specs.Calls.{Adds, Changes, ChangesSynced, Idles, Notes}
use Rattle.store.specs.Files.{Call, Disk, Facts, Files, Move, Renames, Sync, Synced, disk_of, lock_name, renamed, with_synced}
use Rattle.store.specs.Losses.{IsLost, Lost, LosesOnly, StaysNamed, behind_sync}
use Rattle.store.specs.Stops.{KeepsBut, WritesOnly, moment}
use Rattle.store.specs.declared.error.StoreError.{StoreError}
use Rattle.store.specs.declared.error.StoreError.TheVariants as store_error
use Rattle.store.proofs.LosingOn.{facts_at, keeps_at, loses_at, loses_both, loses_later, loses_noted, loses_read, loses_same, loses_so, lost_here}
use Rattle.store.proofs.Staying.{stays_behind, stays_on}
use Rattle.edits.specs.Names.{name_of}
use Rattle.edits.specs.declared.names.FileName.TheVariants.{Current}
use Rattle.recover.proofs.NamedFiles.{get_other, get_same}
use Rattle.directory_writes.proofs.StoreCalls.{behind_added, with_other}
use Rattle.opening.specs.Durable.{HasSyncedCurrent, LeavesFile}
use Rattle.opening.specs.Losses.{HaveNamesStayed, IsButLock, IsKept, IsUncut, LeavesUncut}
use Rattle.opening.specs.internal.Calls.{SetsCurrent}
use Rattle.opening.specs.internal.Renewing.{IsRenamed, IsWritten, OnlyIt}
use Rattle.opening.proofs.Losing.{both_begin, none_of}
use Rattle.opening.proofs.LosingEdits.{itself, same_or_not, with_same}
use Rattle.opening.proofs.LosingNames.{gone_other, loses_renamed}
use Rattle.opening.proofs.Spared.{ReadsLeft, now_left, reads_left}
use Rattle.opening.proofs.StoreCalls.{MaySet, renamed_sets}

-- ---- one moment

uncut_left : (facts : Facts) (lost : Files) (q : List ℕ) → ReadsLeft facts lost q → IsKept facts q ⊎ IsUncut facts.files lost q → get lost q ≡ get facts.files q
uncut_left facts lost q left whole = at (get lost q) refl
  where
    at : (o : Option (List ℕ)) → get lost q ≡ o → get lost q ≡ get facts.files q
    at None is = is ∙ sym (none_of (get facts.files q) (sym left.name ∙ ap is_some is))
    at (Some bytes) is =
        let begun = left.begun.beginning bytes is in
        let same : bytes ≡ begun.0 = elim whole [
          | inl kept ↦ both_begin bytes begun.0 (left.begun.kept bytes begun.0 is (kept begun.0 begun.1)) begun.2
          | inr uncut ↦ uncut begun.0 bytes begun.1 is begun.2
        ] in
        is ∙ ap Some same ∙ sym begun.1

-- until the next call, where the name has stayed
pub uncut_here : (facts : Facts) (lost : Files) (q : List ℕ) → StaysNamed facts q → Lost facts (moment facts) lost → IsKept facts q ⊎ IsUncut facts.files lost q → get lost q ≡ get facts.files q
uncut_here facts lost q stays since whole = uncut_left facts lost q (reads_left facts lost q (behind_sync [] facts.calls) stays (lost_here facts lost since)) whole

-- where the names are those of now
uncut_now : (facts : Facts) (lost : Files) (q : List ℕ) → IsLost facts.files [] (disk_of facts) lost → IsKept facts q ⊎ IsUncut facts.files lost q → get lost q ≡ get facts.files q
uncut_now facts lost q h whole = uncut_left facts lost q (now_left facts lost q h) whole

-- the file is as it was
pub uncut_on : (old new : Facts) (lost : Files) (q : List ℕ) → LeavesFile old new q → IsKept old q ⊎ IsUncut old.files lost q → IsKept new q ⊎ IsUncut new.files lost q
uncut_on old new lost q same (inl kept) = inl (λ bytes there. same.1 ∙ kept bytes (sym same.0 ∙ there))
uncut_on old new lost q same (inr uncut) = inr (λ bytes held there is front. uncut bytes held (sym same.0 ∙ there) is front)

-- ---- files of some names alone are written

-- each of the others whose name had stayed
pub other_left : (old new : Facts) (mine : List ℕ → Type 0) → WritesOnly old new mine → (q : List ℕ) → (mine q → ⊥) → StaysNamed old q → LosesOnly old new (λ lost. IsKept old q ⊎ IsUncut old.files lost q → get lost q ≡ get old.files q)
other_left old new mine writes q apart stays =
    loses_at old new (λ lost. IsKept old q ⊎ IsUncut old.files lost q → get lost q ≡ get old.files q) (λ m least most lost since whole.
    let then = facts_at new m in
    let k = keeps_at old new mine m writes least in
    uncut_here then lost q (stays_on old then mine q apart k.carries stays) since (uncut_on old then lost q (k.files q apart, k.synced q apart) whole) ∙ k.files q apart)

pub others_left : (old new : Facts) (mine : List ℕ → Type 0) → WritesOnly old new mine → ((q : List ℕ) → StaysNamed old q) → LosesOnly old new (λ lost. LeavesUncut old lost → KeepsBut old.files mine lost)
others_left old new mine writes stays lost since uncut q apart = other_left old new mine writes q apart (stays q) lost since (uncut q)

-- with the file of one name as it was
abbrev as_before : Files → List ℕ → Option (List ℕ) → Files
as_before lost name None = remove lost name
as_before lost name (Some bytes) = insert lost name bytes

before_here : (lost : Files) (name : List ℕ) (o : Option (List ℕ)) → get (as_before lost name o) name ≡ o
before_here lost name None = get-remove nat_list_cmp_total lost name name ∙ ap (λ b. cond b None (get lost name)) (itself name)
before_here lost name (Some bytes) = get_same lost name bytes

before_other : (lost : Files) (name q : List ℕ) (o : Option (List ℕ)) → q ≢ name → get (as_before lost name o) q ≡ get lost q
before_other lost name q None apart = gone_other lost name q apart
before_other lost name q (Some bytes) apart = get_other lost name bytes q apart

pub but_lock : (files lost : Files) (mine : List ℕ → Type 0) → ((q : List ℕ) → q ≢ lock_name → (mine q → ⊥) → get lost q ≡ get files q) → IsButLock (KeepsBut files mine) lost
but_lock files lost mine same =
    let o = get files lock_name in (
      as_before lost lock_name o,
      λ q apart. sym (before_other lost lock_name q o apart),
      λ q apart. elim (same_or_not q lock_name) [
        | inl is ↦ ap (λ (n : List ℕ). get (as_before lost lock_name o) n) is ∙ before_here lost lock_name o ∙ ap (λ (n : List ℕ). get files n) (sym is)
        | inr beside ↦ before_other lost lock_name q o beside ∙ same q beside apart
      ],
    )

pub others_but_lock : (old new : Facts) (mine : List ℕ → Type 0) → WritesOnly old new mine → HaveNamesStayed old → LosesOnly old new (λ lost. LeavesUncut old lost → IsButLock (KeepsBut old.files mine) lost)
others_but_lock old new mine writes stays lost since uncut = but_lock old.files lost mine (λ q beside apart. other_left old new mine writes q apart (stays q beside) lost since (uncut q))

pub kept_by : (facts : Facts) (q bytes : List ℕ) → get facts.files q ≡ Some bytes → facts.synced q ≡ Some bytes → IsKept facts q
kept_by facts q bytes there kept other is = kept ∙ sym there ∙ is

pub uncut_written : (old new : Facts) (name bytes : List ℕ) → IsWritten old new name bytes → (lost : Files) → LeavesUncut old lost → LeavesUncut new lost
uncut_written old new name bytes w lost uncut q = elim (same_or_not q name) [
  | inl is ↦ inl (subst (λ (n : List ℕ). IsKept new n) (sym is) (kept_by new name bytes w.there w.kept))
  | inr apart ↦ uncut_on old new lost q (w.only.leaves.now q apart, w.only.synced q apart) (uncut q)
]

-- ---- `CURRENT` is set

-- It has these bytes, synced; but for it and the temporary file all is as it was.
pub record IsSet (old new : Facts) (temporary bytes : List ℕ) : Type 0 where
  pub current : HasSyncedCurrent new bytes
  pub others : (q : List ℕ) → q ≢ temporary → q ≢ name_of Current → LeavesFile old new q

pub set_left : (old new : Facts) (temporary bytes : List ℕ) → IsSet old new temporary bytes → (lost : Files) → ((q : List ℕ) → IsKept new q ⊎ IsUncut new.files lost q → get lost q ≡ get new.files q) → LeavesUncut old lost
    → SetsCurrent old.files lost temporary bytes
set_left old new temporary bytes s lost whole uncut = (
  whole (name_of Current) (inl (kept_by new (name_of Current) bytes s.current.0 s.current.1)) ∙ s.current.0,
  λ q apart other. whole q (uncut_on old new lost q (s.others q apart other) (uncut q)) ∙ (s.others q apart other).0,
)

pub renamed_set : (old mid new : Facts) (temporary bytes : List ℕ) → IsWritten old mid temporary bytes → Renames mid.files new.files temporary (name_of Current) → new.synced ≡ renamed mid.synced temporary (name_of Current) → IsSet old new temporary bytes
renamed_set old mid new temporary bytes w renames synced =
    let s = mid.synced in
    let sets = renamed_sets old.files mid.files new.files temporary bytes w.there w.only.leaves.now renames in
    record {
      current = (sets.0, ap (λ (t : Synced). t (name_of Current)) synced ∙ with_same (with_synced s temporary None) (name_of Current) (s temporary) ∙ w.kept);
      others = λ q apart other. (
        sets.1 q apart other,
        ap (λ (t : Synced). t q) synced ∙ with_other (with_synced s temporary None) (name_of Current) q (s temporary) other ∙ with_other s temporary q None apart ∙ w.only.synced q apart,
      );
    }

-- what the sync of it leaves
pub set_synced : (old mid new : Facts) (temporary bytes : List ℕ) → IsSet old mid temporary bytes → new.files ≡ mid.files → new.synced ≡ with_synced mid.synced (name_of Current) (get mid.files (name_of Current)) → IsSet old new temporary bytes
set_synced old mid new temporary bytes s files synced = record {
  current = (
    ap (λ (fs : Files). get fs (name_of Current)) files ∙ s.current.0,
    ap (λ (t : Synced). t (name_of Current)) synced ∙ with_same mid.synced (name_of Current) (get mid.files (name_of Current)) ∙ s.current.0,
  );
  others = λ q apart other. (
    ap (λ (fs : Files). get fs q) files ∙ (s.others q apart other).0,
    ap (λ (t : Synced). t q) synced ∙ with_other mid.synced (name_of Current) q (get mid.files (name_of Current)) other ∙ (s.others q apart other).1,
  );
}

-- ---- the rename was done, or not

abbrev pub Moves : Facts → Facts → List ℕ → Type 0
Moves mid new temporary = Idles mid new ⊎ IsRenamed mid new temporary

pub gone_from : (mid new : Files) (from to : List ℕ) → from ≢ to → Renames mid new from to → get new from ≡ None
gone_from mid new from to apart r =
    ap (λ (fs : Files). get fs from) r.2 ∙ get_other (remove mid from) to r.0 from apart ∙ get-remove nat_list_cmp_total mid from from ∙ ap (λ b. cond b None (get mid from)) (itself from)

pub moved_or_not : (mid new : Facts) (temporary bytes : List ℕ) (se : StoreError) → temporary ≢ name_of Current → get mid.files temporary ≡ Some bytes
    → Changes {T = Unit {0}} mid new (Err se) (λ o n. Renames o n temporary (name_of Current)) (λ o n. (n ≡ o) ⊎ Renames o n temporary (name_of Current))
    → ChangesSynced {T = Unit {0}} mid new (Err se) (λ s. renamed s temporary (name_of Current)) (λ o n. Renames o n temporary (name_of Current))
    → Notes {T = Unit {0}} mid new (Err se) (Move temporary (name_of Current)) → ((se ≡ store_error.Missing) → ⊥) → IsTrue new.faithful → Moves mid new temporary
moved_or_not mid new temporary bytes store_error.Memory apart there files synced calls missing f =
    inl (calls.memory f refl, λ i. record { files = files.memory f refl i; synced = synced.memory f refl i })
moved_or_not mid new temporary bytes store_error.Missing apart there files synced calls missing f = absurd (missing refl)
moved_or_not mid new temporary bytes store_error.Device apart there files synced calls missing f = elim (calls.noted f) [
  | inl idle ↦ inl idle
  | inr adds ↦ elim (synced.device f refl) [
    | inl same ↦ absurd (let bad : Some bytes ≡ None = sym there ∙ ap (λ (fs : Files). get fs temporary) (sym same.0) ∙ gone_from mid.files new.files temporary (name_of Current) apart adds.1 in cc)
    | inr done ↦ inr (adds, done.1)
  ]
]

pub moved : (mid new : Facts) (temporary : List ℕ) → Idles mid new ⊎ Adds mid new (Move temporary (name_of Current)) → new.synced ≡ renamed mid.synced temporary (name_of Current) → Moves mid new temporary
moved mid new temporary (inl idle) synced = inl idle
moved mid new temporary (inr adds) synced = inr (adds, synced)

-- ---- all that sets it

module _ (old : Facts) (temporary bytes : List ℕ) where
  -- what a loss leaves of that
  abbrev pub MayBeSet : Files → Type 0
  MayBeSet lost = LeavesUncut old lost → MaySet old.files temporary bytes lost

  pub unset_loses : (new : Facts) → OnlyIt old new temporary → ((q : List ℕ) → StaysNamed old q) → LosesOnly old new MayBeSet
  unset_loses new only stays =
      loses_so old new (λ lost. LeavesUncut old lost → KeepsBut old.files (λ (q : List ℕ). q ≡ temporary) lost) MayBeSet (λ lost h uncut. inl (h uncut)) (others_left old new (λ (q : List ℕ). q ≡ temporary) only stays)

  pub renamed_loses : (mid new : Facts) → IsWritten old mid temporary bytes → Moves mid new temporary → ((q : List ℕ) → StaysNamed old q) → LosesOnly old new MayBeSet
  renamed_loses mid new w moves stays =
      let before = unset_loses mid w.only stays in
      let here = loses_later old mid w.only.leaves.more MayBeSet w.only.leaves.calls before in
      elim moves [
        | inl idle ↦ loses_both old mid new [] MayBeSet (idle.0 ∙ sym (append-nil mid.calls)) before
            (loses_same mid new MayBeSet idle.0 (ap (λ (disk : Disk). disk.files) idle.1) (ap (λ (disk : Disk). disk.synced) idle.1) here)
        | inr done ↦
            let set = renamed_set old mid new temporary bytes w done.0.1 done.1 in
            let behind : LosesOnly new new MayBeSet = loses_renamed mid new temporary (name_of Current) done.0 done.1 MayBeSet w.ends here
            (λ lost h uncut. inr (set_left old new temporary bytes set lost (λ q whole. uncut_now new lost q h whole) uncut)) in
            loses_both old mid new (record { found = disk_of mid; change = Move temporary (name_of Current) } ∷ []) MayBeSet done.0.0 before (loses_noted mid new (Move temporary (name_of Current)) MayBeSet (inr done.0) here behind)
      ]

  moved_calls : (mid new : Facts) → IsWritten old mid temporary bytes → Moves mid new temporary → (more : List Call) × (new.calls ≡ old.calls ++ more)
  moved_calls mid new w (inl idle) = (w.only.leaves.more, idle.0 ∙ w.only.leaves.calls)
  moved_calls mid new w (inr done) =
      let last : List Call = record { found = disk_of mid; change = Move temporary (name_of Current) } ∷ [] in
      (w.only.leaves.more ++ last, done.0.0 ∙ ap (λ (calls : List Call). calls ++ last) w.only.leaves.calls ∙ append_assoc old.calls w.only.leaves.more last)

  -- and its sync, whether it succeeds or fails
  pub kept_loses : (mid third new : Facts) (r : Result (Unit {0}) StoreError) → IsWritten old mid temporary bytes → Moves mid third temporary → Renames mid.files third.files temporary (name_of Current)
      → third.synced ≡ renamed mid.synced temporary (name_of Current) → ((q : List ℕ) → StaysNamed old q) → OnOk r (Adds third new (Sync (name_of Current))) → OnErr r (new.calls ≡ third.calls) → new.files ≡ third.files
      → OnOk r (new.synced ≡ with_synced third.synced (name_of Current) (get third.files (name_of Current))) → OnErr r (new.synced ≡ third.synced) → LosesOnly old new MayBeSet
  kept_loses mid third new (Ok x) w moves renames synced stays noted left same done undone =
      let before = renamed_loses mid third w moves stays in
      let calls = moved_calls mid third w moves in
      let here = loses_later old third calls.0 MayBeSet calls.1 before in
      let set = set_synced old third new temporary bytes (renamed_set old mid third temporary bytes w renames synced) same done in
      let ends = behind_added third new (name_of Current) noted in
      let behind : LosesOnly new new MayBeSet = λ lost since uncut. inr (set_left old new temporary bytes set lost (λ q whole. uncut_here new lost q (stays_behind new q ends) since whole) uncut) in
      loses_both old third new (record { found = disk_of third; change = Sync (name_of Current) } ∷ []) MayBeSet noted.0 before (loses_noted third new (Sync (name_of Current)) MayBeSet (inr noted) here behind)
  kept_loses mid third new (Err e) w moves renames synced stays noted left same done undone =
      let calls = moved_calls mid third w moves in
      loses_read old third new calls.0 MayBeSet calls.1 left same undone (renamed_loses mid third w moves stays)
