-- What the calls by which an open writes leave of what is synced.
use Rattle.std.proofs.Common.{Bool, true, false, cond, ◌≡◌, ◌≢◌, ◌⊎◌, ℕ, ◌+◌, List, [], ◌∷◌, ◌++◌, Option, Some, None, Result, Ok, Err, IsTrue, OnOk, is_err, inl, inr, refl, sym, ap, ◌∙◌}
use Rattle.std.specs.Cmp.{tied_itself}
use Rattle.std.specs.Cmp.Lexicographic.{slice_cmp, nat_list_cmp_total}
use Rattle.std.specs.Ordering.{is_eq, nat_cmp, eq_by_cmp}
use Rattle.std.specs.declared.cmp.Ordering.{Ordering}
use Rattle.std.specs.declared.cmp.Ordering.TheVariants.{Less, Equal, Greater}
use Rattle.std.specs.FinMap.{get, slice_cmp-IsAntisymmetric, nat_cmp-IsAntisymmetric}
use Rattle.coding.specs.declared.error.DbError.{DbError}
use Rattle.store.specs.Files.{Facts, Files, Synced, Renames, with_synced, renamed}
use Rattle.store.specs.Calls.{KeepsSynced, Changes, ChangesSynced}
use Rattle.store.specs.declared.error.StoreError.{StoreError}
use Rattle.store.specs.declared.error.StoreError.TheVariants as store_error
use Rattle.edits.specs.Names.{name_of, IsFileName, IsNumbered}
use Rattle.edits.specs.declared.names.FileName.{FileName}
use Rattle.edits.specs.declared.names.FileName.TheVariants.{Current, Log, Manifest, OldTable, Table, Temporary}
use Rattle.recover.proofs.NamedFiles.{get_other}
use Rattle.opening.specs.internal.Calls.{KeepsOthers, Writes, SetsCurrent, MakesCurrent}
use Rattle.opening.specs.Durable.{SyncsOnly, LeavesFile, HasSyncedCurrent, IsDurable, IsDurableAt, LeavesDurable}
use Rattle.opening.specs.internal.Durable.{WritesSynced, MakesSynced, HasDurable, IsBeside, IsSpared, Spares, SparesBeside, SparesTables}
use Rattle.opening.proofs.Reopening.{files_apart}
use Rattle.opening.proofs.StoreCalls.{Creates, renamed_sets}

-- ---- what is synced of one name

equal_of : (r : Ordering) → is_eq r ≡ true → r ≡ Equal
equal_of Less e = cc
equal_of Equal e = refl
equal_of Greater e = cc

other_at : (b : Bool) (x y : Option (List ℕ)) → (b ≡ true → ⊥) → cond b x y ≡ y
other_at true x y h = absurd (h refl)
other_at false x y h = refl

pub with_other : (s : Synced) (name q : List ℕ) (content : Option (List ℕ)) → q ≢ name → with_synced s name content q ≡ s q
with_other s name q content apart =
    other_at (eq_by_cmp (slice_cmp nat_cmp) q name) content (s q) (λ is. apart (slice_cmp-IsAntisymmetric nat_cmp-IsAntisymmetric q name (equal_of (slice_cmp nat_cmp q name) is)))

pub with_same : (s : Synced) (name : List ℕ) (content : Option (List ℕ)) → with_synced s name content name ≡ content
with_same s name content = ap (λ b. cond b content (s name)) (ap is_eq (tied_itself nat_list_cmp_total name))

-- ---- one call

pub only_with : (old new : Synced) (name : List ℕ) (content : Option (List ℕ)) → new ≡ with_synced old name content → SyncsOnly old new name
only_with old new name content is q apart = ap (λ (s : Synced). s q) is ∙ with_other old name q content apart

pub only_same : (old new : Synced) (name : List ℕ) → new ≡ old → SyncsOnly old new name
only_same old new name is q apart = ap (λ (s : Synced). s q) is

pub only_both : (old mid new : Synced) (name : List ℕ) → SyncsOnly old mid name → SyncsOnly mid new name → SyncsOnly old new name
only_both old mid new name first next q apart = next q apart ∙ first q apart

-- ---- writing a file

pub unwritten : (old new : Facts) (name bytes : List ℕ) (e : DbError) → (IsTrue new.faithful → SyncsOnly old.synced new.synced name) → WritesSynced old new name bytes (Err e)
unwritten old new name bytes e others = record { ok = λ f. tt; others = others }

-- after the making of the file what is synced stays
pub unwritten_behind : (old mid new : Facts) (name bytes : List ℕ) (e : DbError) → (IsTrue new.faithful → IsTrue mid.faithful) → (IsTrue mid.faithful → SyncsOnly old.synced mid.synced name) → (IsTrue new.faithful → new.synced ≡ mid.synced)
    → WritesSynced old new name bytes (Err e)
unwritten_behind old mid new name bytes e back made same =
    unwritten old new name bytes e (λ f. only_both old.synced mid.synced new.synced name (made (back f)) (only_same mid.synced new.synced name (same f)))

pub written : (old mid most new : Facts) (name bytes : List ℕ) → (IsTrue new.faithful → IsTrue most.faithful) → (IsTrue most.faithful → IsTrue mid.faithful) → (IsTrue mid.faithful → SyncsOnly old.synced mid.synced name)
    → KeepsSynced mid most → (IsTrue new.faithful → new.synced ≡ with_synced most.synced name (get most.files name)) → (IsTrue new.faithful → new.files ≡ most.files) → (IsTrue new.faithful → get new.files name ≡ Some bytes)
    → WritesSynced old new name bytes (Ok tt)
written old mid most new name bytes back further made kept synced same there = record {
  ok = λ f. ap (λ (s : Synced). s name) (synced f) ∙ with_same most.synced name (get most.files name) ∙ ap (λ (fs : Files). get fs name) (sym (same f)) ∙ there f;
  others = λ f.
      let m = back f in
      only_both old.synced mid.synced new.synced name (made (further m))
      (only_both mid.synced most.synced new.synced name (only_same mid.synced most.synced name (kept m)) (only_with most.synced new.synced name (get most.files name) (synced f)));
}

-- ---- making it current

pub current_unwritten : (old new : Facts) (temporary bytes : List ℕ) (e : DbError) → Writes old new temporary bytes (Err e) → WritesSynced old new temporary bytes (Err e) → MakesSynced old new temporary bytes (Err e)
current_unwritten old new temporary bytes e w s = record {
  ok = λ f. tt;
  err = λ f apart. inl (w.others f (name_of Current) (λ e. apart (sym e)), s.others f (name_of Current) (λ e. apart (sym e)));
  others = λ f q apart other. s.others f q apart;
}

-- a file that has another name has what is synced of it there
renamed_to : (s : Synced) (from to : List ℕ) → renamed s from to to ≡ s from
renamed_to s from to = with_same (with_synced s from None) to (s from)

renamed_other : (s : Synced) (from to q : List ℕ) → q ≢ from → q ≢ to → renamed s from to q ≡ s q
renamed_other s from to q apart other = with_other (with_synced s from None) to q (s from) other ∙ with_other s from q None apart

module _ (old mid new : Facts) (temporary bytes : List ℕ) where
  current_synced : (IsTrue new.faithful → IsTrue mid.faithful) → Writes old mid temporary bytes (Ok tt) → WritesSynced old mid temporary bytes (Ok tt) → IsTrue new.faithful
      → Renames mid.files new.files temporary (name_of Current) → new.synced ≡ renamed mid.synced temporary (name_of Current) → HasSyncedCurrent new bytes
  current_synced back w s f renames is = (
    (renamed_sets old.files mid.files new.files temporary bytes (w.ok (back f)) (w.others (back f)) renames).0,
    ap (λ (t : Synced). t (name_of Current)) is ∙ renamed_to mid.synced temporary (name_of Current) ∙ s.ok (back f),
  )

  others_synced : (IsTrue new.faithful → IsTrue mid.faithful) → WritesSynced old mid temporary bytes (Ok tt) → IsTrue new.faithful → new.synced ≡ renamed mid.synced temporary (name_of Current)
      → (q : List ℕ) → q ≢ temporary → q ≢ name_of Current → new.synced q ≡ old.synced q
  others_synced back s f is q apart other = ap (λ (t : Synced). t q) is ∙ renamed_other mid.synced temporary (name_of Current) q apart other ∙ s.others (back f) q apart

  others_kept : (IsTrue new.faithful → IsTrue mid.faithful) → WritesSynced old mid temporary bytes (Ok tt) → IsTrue new.faithful → new.synced ≡ mid.synced
      → (q : List ℕ) → q ≢ temporary → q ≢ name_of Current → new.synced q ≡ old.synced q
  others_kept back s f is q apart other = ap (λ (t : Synced). t q) is ∙ s.others (back f) q apart

  current_left : (IsTrue new.faithful → IsTrue mid.faithful) → Writes old mid temporary bytes (Ok tt) → WritesSynced old mid temporary bytes (Ok tt) → IsTrue new.faithful → new.files ≡ mid.files → new.synced ≡ mid.synced
      → temporary ≢ name_of Current → LeavesFile old new (name_of Current)
  current_left back w s f files is apart = (
    ap (λ (fs : Files). get fs (name_of Current)) files ∙ w.others (back f) (name_of Current) (λ e. apart (sym e)),
    ap (λ (t : Synced). t (name_of Current)) is ∙ s.others (back f) (name_of Current) (λ e. apart (sym e)),
  )

  pub current_set : (IsTrue new.faithful → IsTrue mid.faithful) → Writes old mid temporary bytes (Ok tt) → WritesSynced old mid temporary bytes (Ok tt)
      → (IsTrue new.faithful → Renames mid.files new.files temporary (name_of Current)) → (IsTrue new.faithful → new.synced ≡ renamed mid.synced temporary (name_of Current)) → MakesSynced old new temporary bytes (Ok tt)
  current_set back w s renames is = record {
    ok = λ f. current_synced back w s f (renames f) (is f);
    err = λ f. tt;
    others = λ f. others_synced back s f (is f);
  }

  pub current_unset : (se : StoreError) (e : DbError) → (IsTrue new.faithful → IsTrue mid.faithful) → Writes old mid temporary bytes (Ok tt) → WritesSynced old mid temporary bytes (Ok tt)
      → Changes {T = Unit {0}} mid new (Err se) (λ o n. Renames o n temporary (name_of Current)) (λ o n. (n ≡ o) ⊎ Renames o n temporary (name_of Current))
      → ChangesSynced {T = Unit {0}} mid new (Err se) (λ t. renamed t temporary (name_of Current)) (λ o n. Renames o n temporary (name_of Current)) → ((se ≡ store_error.Missing) → ⊥) → MakesSynced old new temporary bytes (Err e)
  current_unset store_error.Memory e back w s files synced there = record {
    ok = λ f. tt;
    err = λ f apart. inl (current_left back w s f (files.memory f refl) (synced.memory f refl) apart);
    others = λ f. others_kept back s f (synced.memory f refl);
  }
  current_unset store_error.Missing e back w s files synced there = absurd (there refl)
  current_unset store_error.Device e back w s files synced there = record {
    ok = λ f. tt;
    err = λ f apart. elim (synced.device f refl) [
      | inl same ↦ inl (current_left back w s f same.0 same.1 apart)
      | inr done ↦ inr (current_synced back w s f done.0 done.1)
    ];
    others = λ f. elim (synced.device f refl) [
      | inl same ↦ others_kept back s f same.1
      | inr done ↦ others_synced back s f done.1
    ];
  }

-- what is said of it holds after a sync of it
module _ (old mid new : Facts) (temporary bytes : List ℕ) (back : IsTrue new.faithful → IsTrue mid.faithful) (same : IsTrue new.faithful → new.files ≡ mid.files) (made : MakesSynced old mid temporary bytes (Ok tt)) where
  there_still : IsTrue new.faithful → get new.files (name_of Current) ≡ Some bytes
  there_still f = ap (λ (fs : Files). get fs (name_of Current)) (same f) ∙ (made.ok (back f)).0

  pub synced_again : (IsTrue new.faithful → new.synced ≡ with_synced mid.synced (name_of Current) (get mid.files (name_of Current))) → MakesSynced old new temporary bytes (Ok tt)
  synced_again is = record {
    ok = λ f. (there_still f, ap (λ (t : Synced). t (name_of Current)) (is f) ∙ with_same mid.synced (name_of Current) (get mid.files (name_of Current)) ∙ (made.ok (back f)).0);
    err = λ f. tt;
    others = λ f q apart other. only_with mid.synced new.synced (name_of Current) (get mid.files (name_of Current)) (is f) q other ∙ made.others (back f) q apart other;
  }

  pub not_synced_again : (e : DbError) → (IsTrue new.faithful → new.synced ≡ mid.synced) → MakesSynced old new temporary bytes (Err e)
  not_synced_again e is = record {
    ok = λ f. tt;
    err = λ f apart. inr (there_still f, ap (λ (t : Synced). t (name_of Current)) (is f) ∙ (made.ok (back f)).1);
    others = λ f q apart other. ap (λ (t : Synced). t q) (is f) ∙ made.others (back f) q apart other;
  }

-- ---- the writing of an open

leaves_both : (old mid new : Facts) (name : List ℕ) → LeavesFile old mid name → LeavesFile mid new name → LeavesFile old new name
leaves_both old mid new name a b = (b.0 ∙ a.0, b.1 ∙ a.1)

manifest_current : (n : ℕ) → IsNumbered n → name_of (Manifest n) ≢ name_of Current
manifest_current n num = files_apart (Manifest n) Current num tt (λ e. cc)

manifest_temporary : (n : ℕ) → IsNumbered n → name_of (Manifest n) ≢ name_of (Temporary n)
manifest_temporary n num = files_apart (Manifest n) (Temporary n) num num (λ e. cc)

temporary_current : (n : ℕ) → IsNumbered n → name_of (Temporary n) ≢ name_of Current
temporary_current n num = files_apart (Temporary n) Current num tt (λ e. cc)

module _ (n : ℕ) (num : IsNumbered n) (manifest : List ℕ) (old mid : Facts) where
  abbrev new_current : List ℕ
  new_current = name_of (Manifest n) ++ 10 ∷ []

  -- the new MANIFEST wasn't written
  pub manifest_unwritten : (new : Facts) (e : DbError) → Writes old new (name_of (Manifest n)) manifest (Err e) → WritesSynced old new (name_of (Manifest n)) manifest (Err e) → LeavesDurable {T = Unit {0}} old new (Err e)
  manifest_unwritten new e w s = record {
    ok = λ f. tt;
    err = λ f. inl (w.others f (name_of Current) (λ is. manifest_current n num (sym is)), s.others f (name_of Current) (λ is. manifest_current n num (sym is)));
  }

  -- the names that an open writes are of known shapes, and none is the lock's
  pub manifest_spared : (new : Facts) {r : Result (Unit {0}) DbError} → Writes old new (name_of (Manifest n)) manifest r → WritesSynced old new (name_of (Manifest n)) manifest r → IsTrue new.faithful → SparesBeside n old new
  manifest_spared new w s f q spared = let named = spared.manifest in (w.others f q named, s.others f q named)

  module _ (w : Writes old mid (name_of (Manifest n)) manifest (Ok tt)) (s : WritesSynced old mid (name_of (Manifest n)) manifest (Ok tt)) where
    left_by_manifest : IsTrue mid.faithful → LeavesFile old mid (name_of Current)
    left_by_manifest f = (w.others f (name_of Current) (λ is. manifest_current n num (sym is)), s.others f (name_of Current) (λ is. manifest_current n num (sym is)))

    -- the new MANIFEST stays while `CURRENT` is written
    kept_by_current : (new : Facts) → IsTrue mid.faithful → (get new.files (name_of (Manifest n)) ≡ get mid.files (name_of (Manifest n))) → (new.synced (name_of (Manifest n)) ≡ mid.synced (name_of (Manifest n)))
        → HasSyncedCurrent new new_current → IsDurable new
    kept_by_current new f files synced current = (n, (manifest, current, files ∙ w.ok f, synced ∙ s.ok f))

    beside_both : (new : Facts) → (KeepsOthers mid.files new.files (name_of (Temporary n)) ⊎ SetsCurrent mid.files new.files (name_of (Temporary n)) new_current) → get new.files (name_of (Manifest n)) ≡ get mid.files (name_of (Manifest n))
    beside_both new (inl kept) = kept (name_of (Manifest n)) (manifest_temporary n num)
    beside_both new (inr set) = set.1 (name_of (Manifest n)) (manifest_temporary n num) (manifest_current n num)

    pub current_interrupted : (new : Facts) (e : DbError) → MakesCurrent mid new (name_of (Temporary n)) new_current (Err e) → MakesSynced mid new (name_of (Temporary n)) new_current (Err e) → LeavesDurable {T = Unit {0}} old new (Err e)
    current_interrupted new e m t = record {
      ok = λ f. tt;
      err = λ f.
          let g = m.call.faithful f in
          elim (t.err f (temporary_current n num)) [
            | inl left ↦ inl (leaves_both old mid new (name_of Current) (left_by_manifest g) left)
            | inr set ↦ inr (kept_by_current new g (beside_both new (m.err f)) (t.others f (name_of (Manifest n)) (manifest_temporary n num) (manifest_current n num)) set)
          ];
    }

    spared_both : (new : Facts) → (KeepsOthers mid.files new.files (name_of (Temporary n)) ⊎ SetsCurrent mid.files new.files (name_of (Temporary n)) new_current) → (q : List ℕ) → IsBeside n q → get new.files q ≡ get mid.files q
    spared_both new (inl kept) q spared = kept q spared.temporary
    spared_both new (inr set) q spared = set.1 q spared.temporary spared.current

    spared_beside : (new : Facts) {r : Result (Unit {0}) DbError} → MakesCurrent mid new (name_of (Temporary n)) new_current r → MakesSynced mid new (name_of (Temporary n)) new_current r → IsTrue new.faithful
        → (KeepsOthers mid.files new.files (name_of (Temporary n)) ⊎ SetsCurrent mid.files new.files (name_of (Temporary n)) new_current) → SparesBeside n old new
    spared_beside new m t f made q spared =
        let first = manifest_spared mid w s (m.call.faithful f) q spared in
        (spared_both new made q spared ∙ first.0, t.others f q spared.temporary spared.current ∙ first.1)

    pub current_spared : (new : Facts) (e : DbError) → MakesCurrent mid new (name_of (Temporary n)) new_current (Err e) → MakesSynced mid new (name_of (Temporary n)) new_current (Err e) → IsTrue new.faithful → SparesBeside n old new
    current_spared new e m t f = spared_beside new m t f (m.err f)

    -- ---- it is current, and the new log was made or not
    module _ (most : Facts) (m : MakesCurrent mid most (name_of (Temporary n)) new_current (Ok tt)) (t : MakesSynced mid most (name_of (Temporary n)) new_current (Ok tt)) where
      abbrev new_log : List ℕ
      new_log = name_of (Log (n + 1))

      module _ (next : IsNumbered (n + 1)) (new : Facts) where
        durable_at : IsTrue most.faithful → KeepsOthers most.files new.files new_log → SyncsOnly most.synced new.synced new_log → IsDurableAt n new
        durable_at f files synced =
            let current = files_apart Current (Log (n + 1)) tt next (λ e. cc) in
            let manifest_log = files_apart (Manifest n) (Log (n + 1)) num next (λ e. cc) in (
              manifest,
              (files (name_of Current) current ∙ (t.ok f).0, synced (name_of Current) current ∙ (t.ok f).1),
              files (name_of (Manifest n)) manifest_log ∙ beside_both most (inr (m.ok f)) ∙ w.ok (m.call.faithful f),
              synced (name_of (Manifest n)) manifest_log ∙ t.others f (name_of (Manifest n)) (manifest_temporary n num) (manifest_current n num) ∙ s.ok (m.call.faithful f),
            )

        log_others : (r : Result (Unit {0}) DbError) → Creates most new new_log r → IsTrue new.faithful → KeepsOthers most.files new.files new_log
        log_others (Ok x) c f q apart = ap (λ (fs : Files). get fs q) (c.ok f) ∙ get_other most.files new_log [] q apart
        log_others (Err e) c f q apart = elim (c.err f) [
          | inl same ↦ ap (λ (fs : Files). get fs q) same
          | inr made ↦ ap (λ (fs : Files). get fs q) made ∙ get_other most.files new_log [] q apart
        ]

        pub log_spared : (r : Result (Unit {0}) DbError) → Creates most new new_log r → (IsTrue new.faithful → SyncsOnly most.synced new.synced new_log) → IsTrue new.faithful → SparesBeside n old new
        log_spared r c synced f q spared =
            let at_most = c.call.faithful f in
            let log = spared.log in
            let first = spared_beside most m t at_most (inr (m.ok at_most)) q spared in
            (log_others r c f q log ∙ first.0, synced f q log ∙ first.1)

        pub log_durable_named : (r : Result (Unit {0}) DbError) → Creates most new new_log r → (IsTrue new.faithful → SyncsOnly most.synced new.synced new_log) → LeavesDurable old new r × (IsTrue new.faithful → OnOk r (HasDurable n new))
        log_durable_named (Ok x) c synced =
            let at : IsTrue new.faithful → IsDurableAt n new = λ f. durable_at (c.call.faithful f) (log_others (Ok x) c f) (synced f) in
            (record { ok = λ f. (n, at f); err = λ f. tt }, λ f. record { numbered = num; durable = at f })
        log_durable_named (Err e) c synced = (record { ok = λ f. tt; err = λ f. inr (n, durable_at (c.call.faithful f) (log_others (Err e) c f) (synced f)) }, λ f. tt)

-- ---- which files an open spares

beside_spared : (n : ℕ) (q : List ℕ) → IsNumbered n → IsNumbered (n + 1) → IsSpared q → IsBeside n q
beside_spared n q num next spared = record {
  current = spared Current tt (λ e. cc);
  manifest = spared (Manifest n) num (λ e. cc);
  log = spared (Log (n + 1)) next (λ e. cc);
  temporary = spared (Temporary n) num (λ e. cc);
}

pub spares_of : (n : ℕ) (old new : Facts) → IsNumbered n → IsNumbered (n + 1) → SparesBeside n old new → Spares old new
spares_of n old new num next spares q spared = spares q (beside_spared n q num next spared)

-- of a known shape, and none of those that it writes
beside_file : (n : ℕ) (file : FileName) → IsNumbered n → IsNumbered (n + 1) → IsFileName file → file ≢ Current → file ≢ Manifest n → file ≢ Log (n + 1) → file ≢ Temporary n → IsBeside n (name_of file)
beside_file n file num next is a b c d = record {
  current = files_apart file Current is tt a;
  manifest = files_apart file (Manifest n) is num b;
  log = files_apart file (Log (n + 1)) is next c;
  temporary = files_apart file (Temporary n) is num d;
}

pub spares_tables : (n : ℕ) (old new : Facts) → IsNumbered n → IsNumbered (n + 1) → SparesBeside n old new → SparesTables old new
spares_tables n old new num next spares k numbered = (
  spares (name_of (Table k)) (beside_file n (Table k) num next numbered (λ e. cc) (λ e. cc) (λ e. cc) (λ e. cc)),
  spares (name_of (OldTable k)) (beside_file n (OldTable k) num next numbered (λ e. cc) (λ e. cc) (λ e. cc) (λ e. cc)),
)

log_of : {a b : ℕ} → Log a ≡ Log b → a ≡ b
log_of e = cc

pub spares_log : (n : ℕ) (old new : Facts) (k : ℕ) → IsNumbered n → IsNumbered (n + 1) → SparesBeside n old new → IsNumbered k → k ≢ n + 1 → LeavesFile old new (name_of (Log k))
spares_log n old new k num next spares numbered other =
    spares (name_of (Log k)) (beside_file n (Log k) num next numbered (λ e. cc) (λ e. cc) (λ e. other (log_of e)) (λ e. cc))

-- ---- a record after the log

pub done_of : {P : Type 0} (r : Result (Unit {0}) StoreError) → is_err r ≡ false → OnOk r P → P
done_of (Ok x) test h = h
done_of (Err e) test h = absurd (cc)
