-- Calls of the store, and what is synced by them.
use Rattle.std.proofs.Common.{Bool, true, false, cond, ◌≡◌, ◌≢◌, ◌⊎◌, ℕ, List, [], ◌∷◌, ◌++◌, length, take, Option, None, Ok, Err, IsTrue, inl, inr, refl, sym, ap, ◌∙◌, arith}
use Rattle.std.specs.Cmp.{tied_itself}
use Rattle.std.specs.Cmp.Lexicographic.{slice_cmp, nat_list_cmp_total}
use Rattle.std.specs.Ordering.{is_eq, nat_cmp, eq_by_cmp}
use Rattle.std.specs.FinMap.{get, insert}
use Rattle.std.proofs.lemmas.List.{take_all}
use Rattle.coding.specs.declared.error.DbError.{DbError}
use Rattle.store.specs.Files.{Call, Creation, Sync, disk_of, Facts, Files, Synced, Appends, AppendsBeginning, with_synced}
use Rattle.store.specs.Calls.{Adds, Idles, Keeps, KeepsSynced, Changes, ChangesSynced}
use Rattle.store.specs.declared.error.StoreError.{StoreError}
use Rattle.store.specs.declared.error.StoreError.TheVariants as store_error
use Rattle.store.specs.Losses.{behind_sync}
use Rattle.store.specs.Stops.{WritesOnly}
use Rattle.store.proofs.Staying.{behind_more}
use Rattle.store.proofs.Stopping.{others_noted}
use Rattle.recover.proofs.NamedFiles.{get_other, same_name}
use Rattle.table.specs.Writing.{SyncsOnly}
use Rattle.directory_writes.specs.internal.Calls.{Touches, IsRefusalOf, Creates, AppendsSynced}

-- ---- what is known of any store

pub touches_none : (facts : Facts) → Touches facts facts
touches_none facts = record { faithful = λ f. f; failures = omega arith; denials = refl; locked = refl }

pub touches_both : (old mid new : Facts) → Touches old mid → Touches mid new → Touches old new
touches_both old mid new first next = record {
  faithful = λ f. first.faithful (next.faithful f);
  failures = omega (arith, first.failures, next.failures);
  denials = next.denials ∙ first.denials;
  locked = next.locked ∙ first.locked;
}

-- ---- what is synced of one name

other_at : (b : Bool) (x y : Option (List ℕ)) → (b ≡ true → ⊥) → cond b x y ≡ y
other_at true x y h = absurd (h refl)
other_at false x y h = refl

pub with_other : (s : Synced) (name q : List ℕ) (content : Option (List ℕ)) → q ≢ name → with_synced s name content q ≡ s q
with_other s name q content apart =
    other_at (eq_by_cmp (slice_cmp nat_cmp) q name) content (s q) (λ is. apart (same_name q name is))

with_same : (s : Synced) (name : List ℕ) (content : Option (List ℕ)) → with_synced s name content name ≡ content
with_same s name content = ap (λ b. cond b content (s name)) (ap is_eq (tied_itself nat_list_cmp_total name))

only_with : (old new : Synced) (name : List ℕ) (content : Option (List ℕ)) → new ≡ with_synced old name content → SyncsOnly old new name
only_with old new name content is q apart = ap (λ (s : Synced). s q) is ∙ with_other old name q content apart

only_same : (old new : Synced) (name : List ℕ) → new ≡ old → SyncsOnly old new name
only_same old new name is q apart = ap (λ (s : Synced). s q) is

-- ---- an empty file

pub created : (old new : Facts) (name : List ℕ) → (IsTrue new.faithful → new.files ≡ insert old.files name []) → (IsTrue new.faithful → new.synced ≡ with_synced old.synced name None) → Creates old new name (Ok tt)
created old new name files synced = record {
  ok = files;
  io = λ f i. absurd (cc);
  memory = λ f i. absurd (cc);
  synced = λ f. only_with old.synced new.synced name None (synced f);
}

pub not_created : (old new : Facts) (name : List ℕ) (se : StoreError) (e : DbError)
    → Changes {T = Unit {0}} old new (Err se) (λ o n. n ≡ insert o name []) (λ o n. (n ≡ o) ⊎ (n ≡ insert o name []))
    → ChangesSynced {T = Unit {0}} old new (Err se) (λ s. with_synced s name None) (λ o n. n ≡ insert o name [])
    → IsRefusalOf se e → ((se ≡ store_error.Missing) → ⊥) → Creates old new name (Err e)
not_created old new name store_error.Memory e files synced is there = record {
  ok = λ f. tt;
  io = λ f i. absurd (cc);
  memory = λ f i. (files.memory f refl, synced.memory f refl);
  synced = λ f. only_same old.synced new.synced name (synced.memory f refl);
}
not_created old new name store_error.Missing e files synced is there = absurd (there refl)
not_created old new name store_error.Device e files synced is there = record {
  ok = λ f. tt;
  io = λ f i. files.device f refl;
  memory = λ f i. absurd (cc);
  synced = λ f. elim (synced.device f refl) [
    | inl same ↦ only_same old.synced new.synced name same.1
    | inr done ↦ only_with old.synced new.synced name None done.1
  ];
}

-- ---- bytes after a file

pub not_appended : (old new : Facts) (name bytes : List ℕ) (se : StoreError) (e : DbError)
    → Changes {T = Unit {0}} old new (Err se) (λ o n. Appends o n name bytes) (λ o n. AppendsBeginning o n name bytes) → KeepsSynced old new
    → IsRefusalOf se e → ((se ≡ store_error.Missing) → ⊥) → AppendsSynced old new name bytes (Err e)
not_appended old new name bytes store_error.Memory e files synced is there = record {
  ok = λ f. tt;
  io = λ f i. absurd (cc);
  memory = λ f i. files.memory f refl;
  unsynced = synced;
  others = λ f. only_same old.synced new.synced name (synced f);
}
not_appended old new name bytes store_error.Missing e files synced is there = absurd (there refl)
not_appended old new name bytes store_error.Device e files synced is there = record {
  ok = λ f. tt;
  io = λ f i. files.device f refl;
  memory = λ f i. absurd (cc);
  unsynced = synced;
  others = λ f. only_same old.synced new.synced name (synced f);
}

-- all of them are a beginning
whole_beginning : (old mid new : Files) (name bytes : List ℕ) → new ≡ mid → Appends old mid name bytes → AppendsBeginning old new name bytes
whole_beginning old mid new name bytes same a =
    let whole : take (length bytes) bytes ≡ bytes = take_all (length bytes) bytes (omega arith) in
    inr (length bytes, (a.0, a.1, same ∙ a.2 ∙ ap (λ (b : List ℕ). insert old name (a.0 ++ b)) (sym whole)))

pub not_synced : (old mid new : Facts) (name bytes : List ℕ) (se : StoreError) (e : DbError) → (IsTrue new.faithful → IsTrue mid.faithful)
    → (IsTrue mid.faithful → Appends old.files mid.files name bytes) → KeepsSynced old mid → Keeps mid new → (IsTrue new.faithful → new.synced ≡ mid.synced)
    → IsRefusalOf se e → ((se ≡ store_error.Missing) → ⊥) → ((se ≡ store_error.Memory) → ⊥) → AppendsSynced old new name bytes (Err e)
not_synced old mid new name bytes store_error.Memory e back done kept same unsynced is there memory = absurd (memory refl)
not_synced old mid new name bytes store_error.Missing e back done kept same unsynced is there memory = absurd (there refl)
not_synced old mid new name bytes store_error.Device e back done kept same unsynced is there memory = record {
  ok = λ f. tt;
  io = λ f i. whole_beginning old.files mid.files new.files name bytes (same f) (done (back f));
  memory = λ f i. absurd (cc);
  unsynced = λ f. unsynced f ∙ kept (back f);
  others = λ f. only_same old.synced new.synced name (unsynced f ∙ kept (back f));
}

pub appended : (old mid new : Facts) (name bytes : List ℕ) → (IsTrue new.faithful → IsTrue mid.faithful)
    → (IsTrue mid.faithful → Appends old.files mid.files name bytes) → KeepsSynced old mid → Keeps mid new
    → (IsTrue new.faithful → new.synced ≡ with_synced mid.synced name (get mid.files name)) → AppendsSynced old new name bytes (Ok tt)
appended old mid new name bytes back done kept same synced = record {
  ok = λ f. (
    let a = done (back f) in (a.0, a.1, same f ∙ a.2),
    ap (λ (s : Synced). s name) (synced f) ∙ with_same mid.synced name (get mid.files name) ∙ ap (λ (fs : Files). get fs name) (sym (same f)),
  );
  io = λ f i. absurd (cc);
  memory = λ f i. absurd (cc);
  unsynced = λ f. tt;
  others = λ f q apart. only_with mid.synced new.synced name (get mid.files name) (synced f) q apart ∙ ap (λ (s : Synced). s q) (kept (back f));
}

-- ---- a file that was made, and nothing else

made_other : (old new : Files) (name q : List ℕ) → (new ≡ old) ⊎ (new ≡ insert old name []) → q ≢ name → get new q ≡ get old q
made_other old new name q (inl is) apart = ap (λ (f : Files). get f q) is
made_other old new name q (inr is) apart = ap (λ (f : Files). get f q) is ∙ get_other old name [] q apart

pub created_only : (old new : Facts) (name : List ℕ) → SyncsOnly old.synced new.synced name → Idles old new ⊎ Adds old new (Creation name) → WritesOnly old new (λ (q : List ℕ). q ≡ name)
created_only old new name synced noted =
    others_noted old new (Creation name) (λ (q : List ℕ). q ≡ name) (λ q is. is) (λ files left q apart. made_other old.files files name q left apart) synced noted

-- nothing of it is synced
pub created_unsynced : (old new : Facts) (name : List ℕ) → new.synced ≡ with_synced old.synced name None → new.synced name ≡ None
created_unsynced old new name is = ap (λ (s : Synced). s name) is ∙ with_same old.synced name None

-- ---- the calls since the last sync

-- after a sync there are none
pub behind_added : (old new : Facts) (name : List ℕ) → Adds old new (Sync name) → behind_sync [] new.calls ≡ []
behind_added old new name adds =
    ap (λ (calls : List Call). behind_sync [] calls) adds.0 ∙ behind_more [] old.calls (record { found = disk_of old; change = Sync name } ∷ [])
