-- The calls by which an open writes.
use Rattle.std.proofs.Common.{Bool, true, false, cond, ◌≡◌, ◌≢◌, ◌⊎◌, ℕ, ◌<◌, List, [], ◌++◌, take, Option, Some, None, Result, Ok, Err, IfErr, OnOk, OnErr, IsTrue, inl, inr, refl, sym, ap, subst, ◌∙◌, arith}
use Rattle.std.specs.Cmp.Lexicographic.{slice_cmp, nat_list_cmp_total}
use Rattle.std.specs.Ordering.{is_eq, nat_cmp, eq_by_cmp}
use Rattle.std.specs.declared.cmp.Ordering.{Ordering}
use Rattle.std.specs.declared.cmp.Ordering.TheVariants.{Less, Equal, Greater}
use Rattle.std.specs.FinMap.{get, insert, remove, get-remove, slice_cmp-IsAntisymmetric, nat_cmp-IsAntisymmetric}
use Rattle.coding.specs.declared.error.DbError.{DbError}
use Rattle.coding.specs.declared.error.DbError.TheVariants.{OutOfMemory, Io}
use Rattle.coding.specs.declared.error.DbError.TheVariants as error
use Rattle.store.specs.Files.{Facts, Files, Synced, Addition, Move, Sync, Appends, AppendsBeginning, Renames, with_synced}
use Rattle.directory_writes.proofs.StoreCalls.{with_other}
use Rattle.store.specs.Calls.{Adds, Counts, Idles, Keeps, Changes}
use Rattle.store.specs.Stops.{KeepsBut, LeavesOnly, MayLeave}
use Rattle.store.proofs.Stopping.{leaves_both, leaves_so, noted_left, others_appended, others_both, others_synced}
use Rattle.store.specs.declared.error.StoreError.{StoreError}
use Rattle.store.specs.declared.error.StoreError.TheVariants as store_error
use Rattle.edits.specs.Names.{name_of}
use Rattle.edits.specs.declared.names.FileName.TheVariants.{Current}
use Rattle.recover.proofs.NamedFiles.{get_other, get_same}
use Rattle.directory_writes.specs.internal.Calls.{Creates as CreatesFile, IsRefusalOf, Touches}
use Rattle.recover.specs.Reading.{IsCounted}
use Rattle.opening.specs.internal.Calls.{Attempts, KeepsOthers, Writes, SetsCurrent, MakesCurrent}
use Rattle.opening.specs.internal.Renewing.{OnlyIt}

abbrev pub done_so : Result (Unit {0}) DbError
done_so = Ok tt

-- no lock was denied, taken or released
abbrev Unlocking : Facts → Facts → Type 0
Unlocking old new = (new.denials ≡ old.denials) × (new.locked ≡ old.locked)

pub went : done_so ≢ Err Io
went is = cc

-- ---- refusals

counted : {T : Type 0} (old new : Facts) (se : StoreError) (e : DbError) → Counts {T = T} old new (Err se) → IsRefusalOf se e → ((se ≡ store_error.Missing) → ⊥) → e ≡ Io → old.failures < new.failures
counted old new store_error.Memory e counts is there io = absurd (cc)
counted old new store_error.Missing e counts is there io = absurd (there refl)
counted old new store_error.Device e counts is there io = counts.device refl

uncounted : {T : Type 0} (old new : Facts) (se : StoreError) (e : DbError) → Counts {T = T} old new (Err se) → IsRefusalOf se e → ((se ≡ store_error.Missing) → ⊥) → (e ≡ Io → ⊥) → new.failures ≡ old.failures
uncounted old new store_error.Memory e counts is there other = counts.unfailed (λ k. cc)
uncounted old new store_error.Missing e counts is there other = absurd (there refl)
uncounted old new store_error.Device e counts is there other = absurd (other is)

named : (se : StoreError) (e : DbError) → IsRefusalOf se e → (e ≡ OutOfMemory) ⊎ (e ≡ Io)
named store_error.Memory e is = inl is
named store_error.Missing e is = inr is
named store_error.Device e is = inr is

-- a call that the store refused
pub refused : {T : Type 0} (old new : Facts) (se : StoreError) (e : DbError) → Counts {T = T} old new (Err se) → Unlocking old new → IsRefusalOf se e → ((se ≡ store_error.Missing) → ⊥) → Attempts {T = Unit {0}} old new (Err e)
refused {T} old new se e counts undenied is there = record {
  faithful = counts.faithful;
  failures = counts.failures;
  denials = undenied.0;
  locked = undenied.1;
  unfailed = λ other. uncounted {T = T} old new se e counts is there (λ io. other (ap (λ (x : DbError). Err x) io));
  io = λ io. (let same : e ≡ Io = cc in counted {T = T} old new se e counts is there same);
  errors = named se e is;
}

-- a call that the store answered
pub fine : (old new : Facts) → Counts {T = Unit {0}} old new (Ok tt) → Unlocking old new → Attempts {T = Unit {0}} old new (Ok tt)
fine old new counts undenied = record {
  faithful = counts.faithful;
  failures = counts.failures;
  denials = undenied.0;
  locked = undenied.1;
  unfailed = λ other. counts.unfailed (λ k. cc);
  io = λ io. absurd (cc);
  errors = tt;
}

-- The file of this name is empty, or a failure left it as it was; with what the call counts.
pub record Creates (old new : Facts) (name : List ℕ) (result : Result (Unit {0}) DbError) : Type 0 where
  pub call : Attempts old new result
  pub ok : IsTrue new.faithful → OnOk result (new.files ≡ insert old.files name [])
  pub err : IsTrue new.faithful → OnErr result ((new.files ≡ old.files) ⊎ (new.files ≡ insert old.files name []))

attempted : (old new : Facts) (r : Result (Unit {0}) DbError) → Touches old new → IsCounted old new r → IfErr r (λ e. (e ≡ OutOfMemory) ⊎ (e ≡ Io)) → Attempts old new r
attempted old new (Ok x) call counted refused = record {
  faithful = call.faithful;
  failures = call.failures;
  denials = call.denials;
  locked = call.locked;
  unfailed = λ other. counted;
  io = λ io. absurd (cc);
  errors = tt;
}
attempted old new (Err error.Io) call counted refused = record {
  faithful = call.faithful;
  failures = call.failures;
  denials = call.denials;
  locked = call.locked;
  unfailed = λ other. absurd (other refl);
  io = λ io. counted;
  errors = inr refl;
}
attempted old new (Err error.OutOfMemory) call counted refused = record {
  faithful = call.faithful;
  failures = call.failures;
  denials = call.denials;
  locked = call.locked;
  unfailed = λ other. counted;
  io = λ io. absurd (cc);
  errors = inl refl;
}
attempted old new (Err _) call counted refused = absurd (elim refused [ inl is ↦ cc | inr is ↦ cc ])

made_or_not : (old new : Facts) (name : List ℕ) (r : Result (Unit {0}) DbError) → IfErr r (λ e. (e ≡ OutOfMemory) ⊎ (e ≡ Io)) → CreatesFile old new name r → IsTrue new.faithful → OnErr r ((new.files ≡ old.files) ⊎ (new.files ≡ insert old.files name []))
made_or_not old new name (Ok x) refused creates f = tt
made_or_not old new name (Err e) refused creates f = elim refused [
  | inl memory ↦ inl (creates.memory f (ap (λ (x : DbError). Err x) memory)).0
  | inr io ↦ creates.io f (ap (λ (x : DbError). Err x) io)
]

-- what a call that makes a file is
pub created : (old new : Facts) (name : List ℕ) (r : Result (Unit {0}) DbError) → Touches old new → IsCounted old new r → IfErr r (λ e. (e ≡ OutOfMemory) ⊎ (e ≡ Io)) → CreatesFile old new name r → Creates old new name r
created old new name r call counted refused creates = record { call = attempted old new r call counted refused; ok = creates.ok; err = made_or_not old new name r refused creates }

-- one call after another
pub after : {T U : Type 0} (old mid new : Facts) (s : Result T DbError) (r : Result U DbError) → (s ≢ Err Io) → Attempts old mid s → Attempts mid new r → Attempts old new r
after old mid new s r unfailed first next = record {
  faithful = λ f. first.faithful (next.faithful f);
  failures = omega (arith, first.failures, next.failures);
  denials = next.denials ∙ first.denials;
  locked = next.locked ∙ first.locked;
  unfailed = λ other. next.unfailed other ∙ first.unfailed unfailed;
  io = λ io. (let rise : mid.failures < new.failures = next.io io in omega (arith, first.failures, rise));
  errors = next.errors;
}

-- ---- files

equal_of : (r : Ordering) → is_eq r ≡ true → r ≡ Equal
equal_of Less e = cc
equal_of Equal e = refl
equal_of Greater e = cc

removed_at : (b : Bool) (x : Option (List ℕ)) → (b ≡ true → ⊥) → cond b None x ≡ x
removed_at true x h = absurd (h refl)
removed_at false x h = refl

-- another file stays where one is removed
get_removed : (files : Files) (name q : List ℕ) → q ≢ name → get (remove files name) q ≡ get files q
get_removed files name q apart =
    get-remove nat_list_cmp_total files name q
    ∙ removed_at (eq_by_cmp (slice_cmp nat_cmp) q name) (get files q) (λ is. apart (slice_cmp-IsAntisymmetric nat_cmp-IsAntisymmetric q name (equal_of (slice_cmp nat_cmp q name) is)))

same_others : (old new : Files) (name : List ℕ) → new ≡ old → KeepsOthers old new name
same_others old new name is q apart = ap (λ (f : Files). get f q) is

put_others : (old new : Files) (name bytes : List ℕ) → new ≡ insert old name bytes → KeepsOthers old new name
put_others old new name bytes is q apart = ap (λ (f : Files). get f q) is ∙ get_other old name bytes q apart

both_others : (old mid new : Files) (name : List ℕ) → KeepsOthers old mid name → KeepsOthers mid new name → KeepsOthers old new name
both_others old mid new name first next q apart = next q apart ∙ first q apart

created_others : (old new : Files) (name : List ℕ) → (new ≡ old) ⊎ (new ≡ insert old name []) → KeepsOthers old new name
created_others old new name (inl is) = same_others old new name is
created_others old new name (inr is) = put_others old new name [] is

-- ---- writing a file

pub not_created : (old new : Facts) (name bytes : List ℕ) (e : DbError) → Creates old new name (Err e) → Writes old new name bytes (Err e)
not_created old new name bytes e c = record {
  call = c.call;
  ok = λ f. tt;
  others = λ f. created_others old.files new.files name (c.err f);
}

appended_others : (old new : Files) (name bytes : List ℕ) → AppendsBeginning old new name bytes → KeepsOthers old new name
appended_others old new name bytes (inl is) = same_others old new name is
appended_others old new name bytes (inr some) = put_others old new name (some.1.0 ++ take some.0 bytes) some.1.2

failed_others : (old new : Facts) (name bytes : List ℕ) (se : StoreError) → Changes {T = Unit {0}} old new (Err se) (λ o n. Appends o n name bytes) (λ o n. AppendsBeginning o n name bytes) → ((se ≡ store_error.Missing) → ⊥)
    → IsTrue new.faithful → KeepsOthers old.files new.files name
failed_others old new name bytes store_error.Memory c there f = same_others old.files new.files name (c.memory f refl)
failed_others old new name bytes store_error.Missing c there f = absurd (there refl)
failed_others old new name bytes store_error.Device c there f = appended_others old.files new.files name bytes (c.device f refl)

pub not_appended : (old mid new : Facts) (name bytes : List ℕ) (se : StoreError) (e : DbError) → Creates old mid name (Ok tt) → Counts {T = Unit {0}} mid new (Err se) → Unlocking mid new
    → Changes {T = Unit {0}} mid new (Err se) (λ o n. Appends o n name bytes) (λ o n. AppendsBeginning o n name bytes) → ((se ≡ store_error.Missing) → ⊥) → IsRefusalOf se e → Writes old new name bytes (Err e)
not_appended old mid new name bytes se e c counts undenied files there is =
    let call = refused {T = Unit {0}} mid new se e counts undenied is there in
    record {
      call = after old mid new done_so (Err e) went c.call call;
      ok = λ f. tt;
      others = λ f. both_others old.files mid.files new.files name (put_others old.files mid.files name [] (c.ok (call.faithful f))) (failed_others mid new name bytes se files there f);
    }

-- what stands in the file once it was appended to
appended_is : (old mid : Files) (name bytes : List ℕ) (new : Files) → mid ≡ insert old name [] → Appends mid new name bytes → get new name ≡ Some bytes
appended_is old mid name bytes new made a =
    let both : Some a.0 ≡ Some [] = sym a.1 ∙ ap (λ (f : Files). get f name) made ∙ get_same old name [] in
    let none : a.0 ≡ [] = cc in
    ap (λ (f : Files). get f name) a.2 ∙ get_same mid name (a.0 ++ bytes) ∙ ap (λ (b : List ℕ). Some (b ++ bytes)) none

appends_others : (old mid new : Files) (name bytes : List ℕ) → mid ≡ insert old name [] → Appends mid new name bytes → KeepsOthers old new name
appends_others old mid new name bytes made a = both_others old mid new name (put_others old mid name [] made) (put_others mid new name (a.0 ++ bytes) a.2)

pub not_synced : (old mid most new : Facts) (name bytes : List ℕ) (se : StoreError) (e : DbError) → Creates old mid name (Ok tt) → Counts {T = Unit {0}} mid most (Ok tt) → Unlocking mid most
    → (IsTrue most.faithful → Appends mid.files most.files name bytes) → Counts {T = Unit {0}} most new (Err se) → Unlocking most new → Keeps most new → ((se ≡ store_error.Missing) → ⊥) → IsRefusalOf se e → Writes old new name bytes (Err e)
not_synced old mid most new name bytes se e c done kept appended counts undenied same there is =
    let call = refused {T = Unit {0}} most new se e counts undenied is there in
    let first = after old mid most done_so done_so went c.call (fine mid most done kept) in
    record {
      call = after old most new done_so (Err e) went first call;
      ok = λ f. tt;
      others = λ f.
          let m = call.faithful f in
          both_others old.files most.files new.files name
          (appends_others old.files mid.files most.files name bytes (c.ok (done.faithful m)) (appended m))
          (same_others most.files new.files name (same f));
    }

pub file_written : (old mid most new : Facts) (name bytes : List ℕ) → Creates old mid name (Ok tt) → Counts {T = Unit {0}} mid most (Ok tt) → Unlocking mid most
    → (IsTrue most.faithful → Appends mid.files most.files name bytes) → Counts {T = Unit {0}} most new (Ok tt) → Unlocking most new → Keeps most new → Writes old new name bytes (Ok tt)
file_written old mid most new name bytes c done kept appended counts undenied same =
    let first = after old mid most done_so done_so went c.call (fine mid most done kept) in
    record {
      call = after old most new done_so done_so went first (fine most new counts undenied);
      ok = λ f. (let m = counts.faithful f in ap (λ (fs : Files). get fs name) (same f) ∙ appended_is old.files mid.files name bytes most.files (c.ok (done.faithful m)) (appended m));
      others = λ f.
          let m = counts.faithful f in
          both_others old.files most.files new.files name (appends_others old.files mid.files most.files name bytes (c.ok (done.faithful m)) (appended m)) (same_others most.files new.files name (same f));
    }

-- ---- making a file current

pub current_not_written : (old new : Facts) (temporary bytes : List ℕ) (e : DbError) → Writes old new temporary bytes (Err e) → MakesCurrent old new temporary bytes (Err e)
current_not_written old new temporary bytes e w = record { call = w.call; ok = λ f. tt; err = λ f. inl (w.others f) }

pub renamed_sets : (old mid new : Files) (temporary bytes : List ℕ) → get mid temporary ≡ Some bytes → KeepsOthers old mid temporary → Renames mid new temporary (name_of Current) → SetsCurrent old new temporary bytes
renamed_sets old mid new temporary bytes written others r =
    let both : Some r.0 ≡ Some bytes = sym r.1 ∙ written in (
      ap (λ (f : Files). get f (name_of Current)) r.2 ∙ get_same (remove mid temporary) (name_of Current) r.0 ∙ both,
      λ q apart other. ap (λ (f : Files). get f q) r.2 ∙ get_other (remove mid temporary) (name_of Current) r.0 q other ∙ get_removed mid temporary q apart ∙ others q apart,
    )

failed_rename : (old mid new : Facts) (temporary bytes : List ℕ) (se : StoreError) → Changes {T = Unit {0}} mid new (Err se) (λ o n. Renames o n temporary (name_of Current)) (λ o n. (n ≡ o) ⊎ Renames o n temporary (name_of Current)) → ((se ≡ store_error.Missing) → ⊥)
    → get mid.files temporary ≡ Some bytes → KeepsOthers old.files mid.files temporary → IsTrue new.faithful → KeepsOthers old.files new.files temporary ⊎ SetsCurrent old.files new.files temporary bytes
failed_rename old mid new temporary bytes store_error.Memory c there written others f =
    inl (both_others old.files mid.files new.files temporary others (same_others mid.files new.files temporary (c.memory f refl)))
failed_rename old mid new temporary bytes store_error.Missing c there written others f = absurd (there refl)
failed_rename old mid new temporary bytes store_error.Device c there written others f = elim (c.device f refl) [
  | inl same ↦ inl (both_others old.files mid.files new.files temporary others (same_others mid.files new.files temporary same))
  | inr done ↦ inr (renamed_sets old.files mid.files new.files temporary bytes written others done)
]

pub not_renamed : (old mid new : Facts) (temporary bytes : List ℕ) (se : StoreError) (e : DbError) → Writes old mid temporary bytes (Ok tt) → Counts {T = Unit {0}} mid new (Err se) → Unlocking mid new
    → Changes {T = Unit {0}} mid new (Err se) (λ o n. Renames o n temporary (name_of Current)) (λ o n. (n ≡ o) ⊎ Renames o n temporary (name_of Current)) → ((se ≡ store_error.Missing) → ⊥) → IsRefusalOf se e
    → MakesCurrent old new temporary bytes (Err e)
not_renamed old mid new temporary bytes se e w counts undenied files there is =
    let call = refused {T = Unit {0}} mid new se e counts undenied is there in
    record {
      call = after old mid new done_so (Err e) went w.call call;
      ok = λ f. tt;
      err = λ f. failed_rename old mid new temporary bytes se files there (w.ok (call.faithful f)) (w.others (call.faithful f)) f;
    }

pub current_made : (old mid new : Facts) (temporary bytes : List ℕ) → Writes old mid temporary bytes (Ok tt) → Counts {T = Unit {0}} mid new (Ok tt) → Unlocking mid new
    → (IsTrue new.faithful → Renames mid.files new.files temporary (name_of Current)) → MakesCurrent old new temporary bytes (Ok tt)
current_made old mid new temporary bytes w counts undenied renamed = record {
  call = after old mid new done_so done_so went w.call (fine mid new counts undenied);
  ok = λ f. renamed_sets old.files mid.files new.files temporary bytes (w.ok (counts.faithful f)) (w.others (counts.faithful f)) (renamed f);
  err = λ f. tt;
}

-- a sync of it changes no file
set_behind : (old mid new : Files) (temporary bytes : List ℕ) → new ≡ mid → SetsCurrent old mid temporary bytes → SetsCurrent old new temporary bytes
set_behind old mid new temporary bytes same = subst (λ (files : Files). SetsCurrent old files temporary bytes) (sym same)

pub current_kept : (old mid new : Facts) (temporary bytes : List ℕ) → MakesCurrent old mid temporary bytes (Ok tt) → Counts {T = Unit {0}} mid new (Ok tt) → Unlocking mid new → Keeps mid new → MakesCurrent old new temporary bytes (Ok tt)
current_kept old mid new temporary bytes m counts undenied same = record {
  call = after old mid new done_so done_so went m.call (fine mid new counts undenied);
  ok = λ f. set_behind old.files mid.files new.files temporary bytes (same f) (m.ok (counts.faithful f));
  err = λ f. tt;
}

pub current_not_kept : (old mid new : Facts) (temporary bytes : List ℕ) (se : StoreError) (e : DbError) → MakesCurrent old mid temporary bytes (Ok tt) → Counts {T = Unit {0}} mid new (Err se) → Unlocking mid new → Keeps mid new
    → ((se ≡ store_error.Missing) → ⊥) → IsRefusalOf se e → MakesCurrent old new temporary bytes (Err e)
current_not_kept old mid new temporary bytes se e m counts undenied same there is =
    let call = refused {T = Unit {0}} mid new se e counts undenied is there in
    record {
      call = after old mid new done_so (Err e) went m.call call;
      ok = λ f. tt;
      err = λ f. inr (set_behind old.files mid.files new.files temporary bytes (same f) (m.ok (call.faithful f)));
    }

-- ---- a process crash in the middle

pub appended_stops : (old mid new : Facts) (name bytes : List ℕ) → OnlyIt old mid name → Idles mid new ⊎ ((n : ℕ) × Adds mid new (Addition name (take n bytes))) → new.synced ≡ mid.synced → OnlyIt old new name
appended_stops old mid new name bytes h noted same =
    others_both old mid new (λ (q : List ℕ). q ≡ name) h
    (others_appended mid new name bytes (λ files left. appended_others mid.files files name bytes left) (λ q apart. ap (λ (s : Synced). s q) same) noted)

pub synced_stops : (old mid new : Facts) (name : List ℕ) (r : Result (Unit {0}) StoreError) → OnlyIt old mid name → OnOk r (Adds mid new (Sync name)) → OnErr r (new.calls ≡ mid.calls) → new.files ≡ mid.files
    → ((q : List ℕ) → (q ≡ name → ⊥) → new.synced q ≡ mid.synced q) → OnlyIt old new name
synced_stops old mid new name r h noted left same synced = others_both old mid new (λ (q : List ℕ). q ≡ name) h (others_synced mid new name r noted left same synced)

pub sync_others : (old new : Facts) (name : List ℕ) (r : Result (Unit {0}) StoreError) → OnOk r (new.synced ≡ with_synced old.synced name (get old.files name)) → OnErr r (new.synced ≡ old.synced) → (q : List ℕ) → (q ≡ name → ⊥)
    → new.synced q ≡ old.synced q
sync_others old new name (Ok x) done same q apart = ap (λ (s : Synced). s q) done ∙ with_other old.synced name q (get old.files name) apart
sync_others old new name (Err e) done same q apart = ap (λ (s : Synced). s q) same

-- `CURRENT` isn't set, or it is
abbrev pub MaySet : Files → List ℕ → List ℕ → Files → Type 0
MaySet old temporary bytes new = KeepsOthers old new temporary ⊎ SetsCurrent old new temporary bytes

pub unset_stops : (old new : Facts) (temporary bytes : List ℕ) → OnlyIt old new temporary → LeavesOnly old new (MaySet old.files temporary bytes)
unset_stops old new temporary bytes h = leaves_so old new (KeepsBut old.files (λ (q : List ℕ). q ≡ temporary)) (MaySet old.files temporary bytes) (λ files kept. inl kept) h.leaves

pub renamed_stops : (old mid new : Facts) (temporary bytes : List ℕ) → get mid.files temporary ≡ Some bytes → OnlyIt old mid temporary → Idles mid new ⊎ Adds mid new (Move temporary (name_of Current)) → LeavesOnly old new (MaySet old.files temporary bytes)
renamed_stops old mid new temporary bytes written h noted =
    leaves_both old mid new (MaySet old.files temporary bytes) (unset_stops old mid temporary bytes h)
    (leaves_so mid new (MayLeave (Move temporary (name_of Current)) mid.files) (MaySet old.files temporary bytes)
    (λ files left. elim left [
      | inl same ↦ inl (both_others old.files mid.files files temporary h.leaves.now (same_others mid.files files temporary same))
      | inr done ↦ inr (renamed_sets old.files mid.files files temporary bytes written h.leaves.now done)
    ])
    (noted_left mid new (Move temporary (name_of Current)) noted))
