-- What a power loss leaves while an open writes.
use Rattle.std.proofs.Common.{◌≡◌, ◌≢◌, ◌⊎◌, inl, inr, ℕ, ◌+◌, false, cond, List, [], ◌∷◌, ◌++◌, Option, Some, None, is_some, Ok, IsTrue, refl, sym, ap, subst, ◌∙◌}
use Rattle.std.specs.Cmp.Lexicographic.{nat_list_cmp_total}
use Rattle.std.specs.FinMap.{get, insert, remove, contains_key, get-remove}
use Rattle.store.specs.Calls.{Adds, Idles}
use Rattle.store.specs.Files.{Call, Creation, Disk, Facts, Files, disk_of}
use Rattle.store.specs.Losses.{IsLostSince, Lost, LosesOnly, behind_sync}
use Rattle.store.specs.Stops.{KeepsBut, moment}
use Rattle.store.proofs.Carrying.{carries_writes}
use Rattle.store.proofs.LosingOn.{loses_both, loses_later, loses_noted, loses_same, loses_so, lost_here}
use Rattle.store.proofs.NamesLeft.{names_here}
use Rattle.store.proofs.Staying.{behind_more, stays_behind, stays_on, stays_same}
use Rattle.ikey.specs.Orders.{Order}
use Rattle.edits.specs.Names.{name_of}
use Rattle.edits.specs.declared.names.FileName.TheVariants.{Current, Log, Manifest, Temporary}
use Rattle.recover.proofs.NamedFiles.{get_other, get_same}
use Rattle.directory_writes.proofs.SameChanges.{same_files}
use Rattle.opening.specs.declared.finding.Found.{Found}
use Rattle.opening.specs.internal.Calls.{SetsCurrent, Writes}
use Rattle.opening.specs.internal.Opening.{Finds, IsContinued, IsNewManifest, IsUsable}
use Rattle.opening.specs.internal.Renewing.{IsWritten, OnlyIt}
use Rattle.opening.specs.Losses.{HaveNamesStayed, IsButLock, IsKept, IsUncut, LeavesUncut}
use Rattle.opening.proofs.BegunSteps.{continued_itself}
use Rattle.opening.proofs.Losing.{none_of}
use Rattle.opening.proofs.LosingEdits.{itself, same_or_not}
use Rattle.opening.proofs.LosingNames.{gone_other}
use Rattle.opening.proofs.OpenSteps.{current_left, log_left, manifest_left}
use Rattle.opening.proofs.Reopening.{OpenLaws, files_apart, next_of, numbered_of}
use Rattle.opening.proofs.Since.{no_log}
use Rattle.opening.proofs.StoreCalls.{MaySet}
use Rattle.opening.proofs.Uncut.{IsSet, MayBeSet, but_lock, others_but_lock, uncut_here, uncut_on, uncut_written}

-- ---- a log that is made

pub nothing_left : (bytes rest : List ℕ) → [] ≡ bytes ++ rest → bytes ≡ []
nothing_left [] rest is = refl
nothing_left (byte ∷ bytes) rest is = absurd (cc)

-- After a sync an empty file is made where there was none: a loss leaves it so, or none.
made_left : (most new : Facts) (log : List ℕ) → behind_sync [] most.calls ≡ [] → contains_key most.files log ≡ false → Idles most new ⊎ Adds most new (Creation log) → (lost : Files) → Lost new (moment new) lost
    → (get lost log ≡ None) ⊎ (get lost log ≡ Some [])
made_left most new log ends absent (inl idle) lost since =
    let there : contains_key new.files log ≡ contains_key most.files log = ap (λ (disk : Disk). contains_key disk.files log) idle.1 in
    inl (none_of (get lost log) (names_here new log (stays_same most new log idle.0 there (stays_behind most log ends)) lost since ∙ there ∙ absent))
made_left most new log ends absent (inr adds) lost since =
    let call : Call = record { found = disk_of most; change = Creation log } in
    let calls : behind_sync [] new.calls ≡ call ∷ [] = ap (behind_sync []) adds.0 ∙ behind_more [] most.calls (call ∷ []) ∙ ap (λ (cs : List Call). behind_sync cs (call ∷ [])) ends in
    elim (subst (λ (cs : List Call). IsLostSince cs (disk_of new) lost) calls (lost_here new lost since)) [
      | inl before ↦ inl (none_of (get lost log) (before.names log ∙ absent))
      | inr now ↦ at (get lost log) refl now.beginning
    ]
  where
    at : (o : Option (List ℕ)) → get lost log ≡ o → ((q bytes : List ℕ) → get lost q ≡ Some bytes → (held : List ℕ) × (get new.files q ≡ Some held) × ((rest : List ℕ) × (held ≡ bytes ++ rest))) → (get lost log ≡ None) ⊎ (get lost log ≡ Some [])
    at None is begun = inl is
    at (Some bytes) is begun =
        let some = begun log bytes is in
        let held : [] ≡ some.0 = (let both : Some [] ≡ Some some.0 = sym (get_same most.files log []) ∙ sym (ap (λ (fs : Files). get fs log) adds.1) ∙ some.1 in cc) in
        inr (is ∙ ap Some (nothing_left bytes some.2.0 (held ∙ some.2.1)))

-- ---- step by step

pub temporary_apart : {order : Order} (found : Found) → IsUsable order found → name_of (Temporary found.number) ≢ name_of Current
temporary_apart found u = files_apart (Temporary found.number) Current (numbered_of found u) tt (λ e. cc)

module _ (order : Order) (laws : OpenLaws) (old : Facts) (found : Found) (u : IsUsable order found) (manifest : List ℕ) (w : IsNewManifest order found manifest) (h : Finds order old.files found) where
  abbrev pub Continues : Files → Type 0
  Continues lost = LeavesUncut old lost → IsButLock (IsContinued order old.files) lost

  pub manifest_loses : (new : Facts) → OnlyIt old new (name_of (Manifest found.number)) → HaveNamesStayed old → LosesOnly old new Continues
  manifest_loses new only stays =
      let mine : List ℕ → Type 0 = λ (q : List ℕ). q ≡ name_of (Manifest found.number) in
      loses_so old new (λ lost. LeavesUncut old lost → IsButLock (KeepsBut old.files mine) lost) Continues
      (λ lost k uncut. let some = k uncut in (some.0, some.1, manifest_left order laws old found u manifest w h some.0 some.2)) (others_but_lock old new mine only stays)

  -- it is so of the files themselves
  beside_itself : (lost : Files) → IsContinued order old.files lost → IsButLock (IsContinued order old.files) lost
  beside_itself lost continued = (lost, λ q apart. refl, continued)

  module _ (mid : Facts) (current : List ℕ) (wrote : Writes old mid (name_of (Manifest found.number)) manifest (Ok tt)) (is : current ≡ name_of (Manifest found.number) ++ 10 ∷ []) (m : IsTrue mid.faithful)
      (written : IsWritten old mid (name_of (Manifest found.number)) manifest) where
    set_continued : (lost : Files) → MaySet mid.files (name_of (Temporary found.number)) current lost → IsContinued order old.files lost
    set_continued lost may = current_left order laws old found u manifest w h mid current wrote is m lost may

    pub current_loses : (new : Facts) (more : List Call) → new.calls ≡ mid.calls ++ more → HaveNamesStayed old → LosesOnly mid new (MayBeSet mid (name_of (Temporary found.number)) current) → LosesOnly old new Continues
    current_loses new more calls stays set =
        loses_both old mid new more Continues calls (manifest_loses mid written.only stays)
        (loses_so mid new (MayBeSet mid (name_of (Temporary found.number)) current) Continues
        (λ lost k uncut. beside_itself lost (set_continued lost (k (uncut_written old mid (name_of (Manifest found.number)) manifest written lost uncut)))) set)

    -- no log of the new number was there
    none_there : get mid.files (name_of (Log (found.number + 1))) ≡ None
    none_there =
        let num = numbered_of found u in
        let next = next_of found u in
        let same = wrote.others m (name_of (Log (found.number + 1))) (files_apart (Log (found.number + 1)) (Manifest found.number) next num (λ e. cc)) in
        same ∙ none_of (get old.files (name_of (Log (found.number + 1)))) (no_log order old.files found.number next h.number.0)

    -- `CURRENT` is set, and of the log nothing is there, or an empty file
    log_continued : (lost : Files) → get lost (name_of Current) ≡ Some current → ((q : List ℕ) → q ≢ name_of (Log (found.number + 1)) → q ≢ name_of (Temporary found.number) → q ≢ name_of Current → get lost q ≡ get mid.files q)
        → (get lost (name_of (Log (found.number + 1))) ≡ None) ⊎ (get lost (name_of (Log (found.number + 1))) ≡ Some []) → IsContinued order old.files lost
    log_continued lost there others (inl none) =
        let log = name_of (Log (found.number + 1)) in
        set_continued lost (inr (
          there,
          λ q apart other. elim (same_or_not q log) [
            | inl same ↦ ap (λ (n : List ℕ). get lost n) same ∙ none ∙ sym none_there ∙ ap (λ (n : List ℕ). get mid.files n) (sym same)
            | inr beside ↦ others q beside apart other
          ],
        ))
    log_continued lost there others (inr empty) =
        let log = name_of (Log (found.number + 1)) in
        let front = remove lost log in
        let beside : name_of Current ≢ log = files_apart Current (Log (found.number + 1)) tt (next_of found u) (λ e. cc) in
        let kept : (q : List ℕ) → q ≢ log → get front q ≡ get lost q = gone_other lost log in
        let gone : get front log ≡ None = get-remove nat_list_cmp_total lost log log ∙ ap (λ b. cond b None (get lost log)) (itself log) in
        let sets : SetsCurrent mid.files front (name_of (Temporary found.number)) current = (
          kept (name_of Current) beside ∙ there,
          λ q apart other. elim (same_or_not q log) [
            | inl same ↦ ap (λ (n : List ℕ). get front n) same ∙ gone ∙ sym none_there ∙ ap (λ (n : List ℕ). get mid.files n) (sym same)
            | inr not ↦ kept q not ∙ others q not apart other
          ],
        ) in
        let whole : insert front log [] ≡ lost = same_files (insert front log []) lost (λ q. elim (same_or_not q log) [
          | inl same ↦ ap (λ (n : List ℕ). get (insert front log []) n) same ∙ get_same front log [] ∙ sym empty ∙ ap (λ (n : List ℕ). get lost n) (sym same)
          | inr not ↦ get_other front log [] q not ∙ kept q not
        ]) in
        subst (λ (fs : Files). IsContinued order old.files fs) whole (log_left order laws old found u manifest w h mid current wrote is m front sets)

    pub log_loses : (most new : Facts) (more : List Call) → IsSet mid most (name_of (Temporary found.number)) current → behind_sync [] most.calls ≡ [] → OnlyIt most new (name_of (Log (found.number + 1)))
        → Idles most new ⊎ Adds most new (Creation (name_of (Log (found.number + 1)))) → most.calls ≡ old.calls ++ more → LosesOnly old most Continues → LosesOnly old new Continues
    log_loses most new more set ends only noted calls before =
        let log = name_of (Log (found.number + 1)) in
        let next = next_of found u in
        let there : contains_key most.files log ≡ false = ap is_some ((set.others log (files_apart (Log (found.number + 1)) (Temporary found.number) next (numbered_of found u) (λ e. cc)) (files_apart (Log (found.number + 1)) Current next tt (λ e. cc))).0 ∙ none_there) in
        let here = loses_later old most more Continues calls before in
        let behind : LosesOnly new new Continues = λ lost since uncut.
        let over = uncut_written old mid (name_of (Manifest found.number)) manifest written lost uncut in
        let left : (q : List ℕ) → q ≢ log → IsKept most q ⊎ IsUncut most.files lost q → get lost q ≡ get most.files q = λ q apart whole.
        uncut_here new lost q (stays_on most new (λ (p : List ℕ). p ≡ log) q apart (carries_writes most new (λ (p : List ℕ). p ≡ log) only) (stays_behind most q ends)) since
        (uncut_on most new lost q (only.leaves.now q apart, only.synced q apart) whole) ∙ only.leaves.now q apart in
        beside_itself lost (log_continued lost
        (left (name_of Current) (files_apart Current (Log (found.number + 1)) tt next (λ e. cc)) (inl (λ bytes is. set.current.1 ∙ sym set.current.0 ∙ is)) ∙ set.current.0)
        (λ q beside apart other. left q beside (uncut_on mid most lost q (set.others q apart other) (over q)) ∙ (set.others q apart other).0)
        (made_left most new log ends there noted lost since)) in
        let goes = only.leaves in
        loses_both old most new goes.more Continues goes.calls before (loses_noted most new (Creation log) Continues noted here behind)

-- ---- after what was read

pub unwritten_loses : (order : Order) (old mid : Facts) → mid.calls ≡ old.calls → mid.files ≡ old.files → mid.synced ≡ old.synced → HaveNamesStayed old
    → LosesOnly old mid (λ lost. LeavesUncut old lost → IsButLock (IsContinued order old.files) lost)
unwritten_loses order old mid calls files synced stays =
    loses_same old mid (λ lost. LeavesUncut old lost → IsButLock (IsContinued order old.files) lost) calls files synced (λ lost since uncut.
    let some = but_lock old.files lost (λ (q : List ℕ). ⊥) (λ q beside apart. uncut_here old lost q (stays q beside) since (uncut q)) in
    (some.0, some.1, subst (λ (fs : Files). IsContinued order old.files fs) (sym (same_files some.0 old.files (λ q. some.2 q (λ none. none)))) (continued_itself order old.files)))

pub behind_loses : (order : Order) (old mid new : Facts) (more : List Call) (found : Found) → mid.calls ≡ old.calls → mid.files ≡ old.files → mid.synced ≡ old.synced → Finds order old.files found → HaveNamesStayed old → new.calls ≡ mid.calls ++ more
    → (Finds order mid.files found → HaveNamesStayed mid → LosesOnly mid new (λ lost. LeavesUncut mid lost → IsButLock (IsContinued order mid.files) lost)) → LosesOnly old new (λ lost. LeavesUncut old lost → IsButLock (IsContinued order old.files) lost)
behind_loses order old mid new more found calls files synced finds stays goes wrote =
    let P : Files → Type 0 = λ lost. LeavesUncut old lost → IsButLock (IsContinued order old.files) lost in
    let Q : Files → Type 0 = λ lost. LeavesUncut mid lost → IsButLock (IsContinued order mid.files) lost in
    loses_both old mid new more P goes (unwritten_loses order old mid calls files synced stays)
    (loses_so mid new Q P (λ lost k uncut. subst (λ (fs : Files). IsButLock (IsContinued order fs) lost) files (k (λ q. uncut_on old mid lost q (ap (λ (fs : Files). get fs q) files, λ i. synced i q) (uncut q))))
    (wrote (subst (λ (fs : Files). Finds order fs found) (sym files) finds) (λ q beside. stays_same old mid q calls (ap (λ (fs : Files). contains_key fs q) files) (stays q beside))))
