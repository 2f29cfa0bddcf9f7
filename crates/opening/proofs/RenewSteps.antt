-- What an open does to the store, call by call.
use Rattle.std.proofs.Common.{◌≡◌, ◌≢◌, ◌⊎◌, inl, inr, ℕ, true, false, is_some, List, [], ◌∷◌, ◌++◌, take, Some, None, Result, Ok, Err, OnOk, OnErr, refl, sym, ap, subst, ◌∙◌}
use Rattle.coding.specs.declared.error.DbError.{DbError}
use Rattle.std.specs.FinMap.{get, insert, contains_key}
use Rattle.store.specs.Calls.{Adds, Idles}
use Rattle.store.specs.Files.{Addition, Creation, Disk, Facts, Files, Renames, Sync, with_synced}
use Rattle.store.specs.declared.error.StoreError.{StoreError}
use Rattle.store.proofs.Stopping.{others_behind, others_same}
use Rattle.edits.specs.Names.{name_of}
use Rattle.edits.specs.declared.names.FileName.TheVariants.{Current}
use Rattle.opening.specs.internal.Renewing.{IsRenamed, IsWritten, Makes, OnlyIt, Renews, RenewsAll, RenamesThen, SetsThen, SetsWhole, StartsNew, SyncsThen}
use Rattle.recover.proofs.NamedFiles.{get_same}
use Rattle.opening.proofs.StoreCalls.{appended_stops, sync_others, synced_stops}
use Rattle.opening.proofs.Uncut.{Moves, gone_from}

-- ---- `CURRENT`

-- the temporary file wasn't written whole
pub sets_unwritten : (old new : Facts) (temporary bytes : List ℕ) (next : Facts → Type 0) → OnlyIt old new temporary → SetsThen old new temporary bytes next
sets_unwritten old new temporary bytes next only = record { mid = new; only = only; goes = inl (refl, refl) }

-- its rename was refused, though it may have been done
pub sets_moved : (old mid new : Facts) (temporary bytes : List ℕ) (next : Facts → Type 0) → IsWritten old mid temporary bytes → Moves mid new temporary → SetsThen old new temporary bytes next
sets_moved old mid new temporary bytes next w moves = record {
  mid = mid;
  only = w.only;
  goes = elim moves [ inl idle ↦ inl idle | inr done ↦ inr (w, inr (new, done, inl (refl, refl))) ];
}

-- one that succeeded was done
pub renamed_by : (mid third : Facts) (temporary bytes : List ℕ) → temporary ≢ name_of Current → get mid.files temporary ≡ Some bytes → Moves mid third temporary → Renames mid.files third.files temporary (name_of Current) → IsRenamed mid third temporary
renamed_by mid third temporary bytes apart there (inl idle) renames =
    absurd (let bad : Some bytes ≡ None = sym there ∙ sym (ap (λ (disk : Disk). get disk.files temporary) idle.1) ∙ gone_from mid.files third.files temporary (name_of Current) apart renames in cc)
renamed_by mid third temporary bytes apart there (inr done) renames = done

-- and then the sync succeeded, or failed
pub sets_synced : (old mid third new : Facts) (temporary bytes : List ℕ) (r : Result (Unit {0}) StoreError) → IsWritten old mid temporary bytes → IsRenamed mid third temporary
    → OnOk r (Adds third new (Sync (name_of Current))) → OnErr r (new.calls ≡ third.calls) → new.files ≡ third.files → OnOk r (new.synced ≡ with_synced third.synced (name_of Current) (get third.files (name_of Current))) → OnErr r (new.synced ≡ third.synced)
    → SetsThen old new temporary bytes (λ last. last ≡ new)
sets_synced old mid third new temporary bytes (Ok x) w done added left same synced unsynced = record { mid = mid; only = w.only; goes = inr (w, inr (third, done, inr (new, (added, synced), refl))) }
sets_synced old mid third new temporary bytes (Err e) w done added left same synced unsynced =
    record { mid = mid; only = w.only; goes = inr (w, inr (third, done, inl (left, λ i. record { files = same i; synced = unsynced i }))) }

-- ---- one step after the other

pub makes_none : (facts : Facts) (name : List ℕ) → Makes facts facts name
makes_none facts name = (others_same facts facts (λ (q : List ℕ). q ≡ name) refl refl refl, inl (refl, refl))

syncs_so : (old new : Facts) (P Q : Facts → Type 0) → ((last : Facts) → P last → Q last) → SyncsThen old new P → SyncsThen old new Q
syncs_so old new P Q so (inl idle) = inl idle
syncs_so old new P Q so (inr (last, synced, p)) = inr (last, synced, so last p)

renames_so : (old new : Facts) (temporary : List ℕ) (P Q : Facts → Type 0) → ((last : Facts) → P last → Q last) → RenamesThen old new temporary P → RenamesThen old new temporary Q
renames_so old new temporary P Q so (inl idle) = inl idle
renames_so old new temporary P Q so (inr (third, done, syncs)) = inr (third, done, syncs_so third new P Q so syncs)

pub sets_so : (old new : Facts) (temporary bytes : List ℕ) (P Q : Facts → Type 0) → ((last : Facts) → P last → Q last) → SetsThen old new temporary bytes P → SetsThen old new temporary bytes Q
sets_so old new temporary bytes P Q so h = record {
  mid = h.mid;
  only = h.only;
  goes = elim h.goes [ inl idle ↦ inl idle | inr some ↦ inr (some.0, renames_so h.mid new temporary P Q so some.1) ];
}

-- where that was the last call
pub sets_last : (old new : Facts) (temporary bytes log : List ℕ) → SetsThen old new temporary bytes (λ last. last ≡ new) → SetsThen old new temporary bytes (λ last. Makes last new log)
sets_last old new temporary bytes log h =
    sets_so old new temporary bytes (λ last. last ≡ new) (λ last. Makes last new log) (λ last is. subst (λ (f : Facts). Makes f new log) (sym is) (makes_none new log)) h

-- and where a log was made after it
pub sets_makes : (old most new : Facts) (temporary bytes log : List ℕ) → SetsWhole old most temporary bytes → Makes most new log → SetsThen old new temporary bytes (λ last. Makes last new log)
sets_makes old most new temporary bytes log whole makes = record { mid = whole.0; only = whole.2.only; goes = inr (whole.2, inr (whole.1, whole.3, inr (most, whole.4, makes))) }

-- a file that wasn't there, and is, was made
made_there : (old made : Facts) (name : List ℕ) → contains_key old.files name ≡ false → made.files ≡ insert old.files name [] → Idles old made ⊎ Adds old made (Creation name) → Adds old made (Creation name)
made_there old made name absent files (inr adds) = adds
made_there old made name absent files (inl idle) =
    let there : contains_key made.files name ≡ true = ap (λ (fs : Files). contains_key fs name) files ∙ ap is_some (get_same old.files name []) in
    absurd (let bad : true ≡ false = sym there ∙ ap (λ (disk : Disk). contains_key disk.files name) idle.1 ∙ absent in cc)

-- a log that wasn't there, and was made where that succeeded
pub made_whole : (most new : Facts) (log : List ℕ) (r : Result (Unit {0}) DbError) → contains_key most.files log ≡ false → OnOk r (new.files ≡ insert most.files log []) → Makes most new log → OnOk r (OnlyIt most new log × Adds most new (Creation log))
made_whole most new log (Ok x) absent files makes = (makes.0, made_there most new log absent files makes.1)
made_whole most new log (Err e) absent files makes = tt

pub renews_all : (old mid most new : Facts) (manifest content temporary current log : List ℕ) (r : Result (Unit {0}) DbError) → IsWritten old mid manifest content → SetsWhole mid most temporary current
    → OnOk r (OnlyIt most new log × Adds most new (Creation log)) → OnOk r (RenewsAll old new manifest content temporary current log)
renews_all old mid most new manifest content temporary current log (Ok x) w sets made = (mid, most, w, sets, made.0, made.1)
renews_all old mid most new manifest content temporary current log (Err e) w sets made = tt

-- ---- a file that is made anew

-- its creation was refused, though it may have been done
pub starts_refused : (old new : Facts) (name : List ℕ) → Idles old new ⊎ Adds old new (Creation name) → StartsNew old new name
starts_refused old new name (inl idle) = inl idle
starts_refused old new name (inr adds) = inr (new, adds, others_same new new (λ (q : List ℕ). q ≡ name) refl refl refl)

-- it succeeded, and bytes were added, as many as came after it
starts_added : (old made new : Facts) (name bytes : List ℕ) → contains_key old.files name ≡ false → made.files ≡ insert old.files name [] → Idles old made ⊎ Adds old made (Creation name)
    → Idles made new ⊎ ((n : ℕ) × Adds made new (Addition name (take n bytes))) → new.synced ≡ made.synced → Adds old made (Creation name) × OnlyIt made new name
starts_added old made new name bytes absent files creation noted same =
    (made_there old made name absent files creation, appended_stops made made new name bytes (others_same made made (λ (q : List ℕ). q ≡ name) refl refl refl) noted same)

pub starts_appended : (old made new : Facts) (name bytes : List ℕ) → contains_key old.files name ≡ false → made.files ≡ insert old.files name [] → Idles old made ⊎ Adds old made (Creation name)
    → Idles made new ⊎ ((n : ℕ) × Adds made new (Addition name (take n bytes))) → new.synced ≡ made.synced → StartsNew old new name
starts_appended old made new name bytes absent files creation noted same =
    let starts = starts_added old made new name bytes absent files creation noted same in
    inr (made, starts.0, starts.1)

-- and then it was synced, or not
pub starts_synced : (old made most new : Facts) (name bytes : List ℕ) (r : Result (Unit {0}) StoreError) → contains_key old.files name ≡ false → made.files ≡ insert old.files name [] → Idles old made ⊎ Adds old made (Creation name)
    → Idles made most ⊎ ((n : ℕ) × Adds made most (Addition name (take n bytes))) → most.synced ≡ made.synced
    → OnOk r (Adds most new (Sync name)) → OnErr r (new.calls ≡ most.calls) → new.files ≡ most.files → OnOk r (new.synced ≡ with_synced most.synced name (get most.files name)) → OnErr r (new.synced ≡ most.synced)
    → StartsNew old new name
starts_synced old made most new name bytes r absent files creation noted unsynced added left same synced kept =
    let starts = starts_added old made most name bytes absent files creation noted unsynced in
    inr (made, starts.0, synced_stops made most new name r starts.1 added left same (sync_others most new name r synced kept))

-- ---- calls before it changed nothing

-- none of these changed anything
idles_both : (a b c : Facts) → Idles a b → Idles b c → Idles a c
idles_both a b c h k = (k.0 ∙ h.0, k.1 ∙ h.1)

-- the call after them finds what they found
adds_behind : (old first made : Facts) (name : List ℕ) → Idles old first → Adds first made (Creation name) → Adds old made (Creation name)
adds_behind old first made name idle adds = (
  adds.0 ∙ (λ i. idle.0 i ++ (record { found = idle.1 i; change = Creation name }) ∷ []),
  adds.1 ∙ ap (λ (disk : Disk). insert disk.files name []) idle.1,
)

starts_later : (old first new : Facts) (name : List ℕ) → Idles old first → StartsNew first new name → StartsNew old new name
starts_later old first new name idle (inl none) = inl (idles_both old first new idle none)
starts_later old first new name idle (inr (made, adds, only)) = inr (made, adds_behind old first made name idle adds, only)

written_behind : (old first mid : Facts) (name bytes : List ℕ) → Idles old first → IsWritten first mid name bytes → IsWritten old mid name bytes
written_behind old first mid name bytes idle w = record {
  only = others_behind old first mid (λ (q : List ℕ). q ≡ name) idle.0 (ap (λ (disk : Disk). disk.files) idle.1) (ap (λ (disk : Disk). disk.synced) idle.1) w.only;
  there = w.there;
  kept = w.kept;
  ends = w.ends;
}

pub all_behind : (old first new : Facts) (manifest content temporary current log : List ℕ) → Idles old first → RenewsAll first new manifest content temporary current log → RenewsAll old new manifest content temporary current log
all_behind old first new manifest content temporary current log idle h = (h.0, h.1, written_behind old first h.0 manifest content idle h.2, h.3, h.4, h.5)

pub renews_behind : (old first new : Facts) (manifest content temporary current log : List ℕ) → Idles old first → Renews first new manifest content temporary current log → Renews old new manifest content temporary current log
renews_behind old first new manifest content temporary current log idle h =
    let only : OnlyIt old h.mid manifest = others_behind old first h.mid (λ (q : List ℕ). q ≡ manifest) idle.0 (ap (λ (disk : Disk). disk.files) idle.1) (ap (λ (disk : Disk). disk.synced) idle.1) h.only in
    record {
      mid = h.mid;
      only = only;
      starts = λ absent. starts_later old first h.mid manifest idle (h.starts (ap (λ (disk : Disk). contains_key disk.files manifest) idle.1 ∙ absent));
      goes = elim h.goes [
        | inl none ↦ inl none
        | inr some ↦ inr (written_behind old first h.mid manifest content idle some.0, some.1)
      ];
    }
