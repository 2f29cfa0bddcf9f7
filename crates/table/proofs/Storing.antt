-- What the calls that write a table do to the files of a store.
use Rattle.std.proofs.Common.{Bool, true, false, cond, ◌≡◌, ◌≢◌, ◌⊎◌, ℕ, List, [], ◌∷◌, ◌++◌, take, Option, Some, None, Result, Ok, Err, IsTrue, inl, inr, refl, sym, ap, ◌∙◌, arith}
use Rattle.std.specs.Cmp.{tied_itself}
use Rattle.std.specs.Cmp.Lexicographic.{slice_cmp, nat_list_cmp_total}
use Rattle.std.specs.Ordering.{is_eq, nat_cmp, eq_by_cmp}
use Rattle.std.specs.declared.cmp.Ordering.{Ordering}
use Rattle.std.specs.declared.cmp.Ordering.TheVariants.{Less, Equal, Greater}
use Rattle.std.specs.FinMap.{get, insert, get-insert, slice_cmp-IsAntisymmetric, nat_cmp-IsAntisymmetric}
use Rattle.coding.specs.declared.error.DbError.{DbError}
use Rattle.coding.specs.declared.error.DbError.TheVariants.{OutOfMemory, Io, Unsupported}
use Rattle.filter.specs.Builder.{GivesUpOnly}
use Rattle.store.specs.Files.{Facts, Files, Synced, Creation, Sync, Appends, AppendsBeginning, disk_of, with_synced}
use Rattle.store.specs.Calls.{Adds, Counts, FailsAsWrite, Changes, ChangesSynced, Keeps, KeepsSynced, Notes, NotesAppend, NotesSync}
use Rattle.store.specs.Losses.{behind_sync}
use Rattle.store.specs.Stops.{WritesOnly}
use Rattle.store.proofs.Staying.{behind_more}
use Rattle.store.proofs.Stopping.{others_appended, others_both, others_noted, others_same, others_synced}
use Rattle.store.specs.declared.error.StoreError.{StoreError}
use Rattle.store.specs.declared.error.StoreError.TheVariants as store_error
use Rattle.table.specs.Reading.{HasFile}
use Rattle.table.specs.Steps.{Appended}
use Rattle.table.specs.Writing.{KeepsOthers, SyncsOnly, Writes, WriteRefuses}

-- ---- look-ups

equal_of : (r : Ordering) → is_eq r ≡ true → r ≡ Equal
equal_of Less e = cc
equal_of Equal e = refl
equal_of Greater e = cc

other_at : (b : Bool) (x y : Option (List ℕ)) → (b ≡ true → ⊥) → cond b x y ≡ y
other_at true x y h = absurd (h refl)
other_at false x y h = refl

get_other : (files : Files) (name file other : List ℕ) → other ≢ name → get (insert files name file) other ≡ get files other
get_other files name file other apart =
    get-insert nat_list_cmp_total files name file other
    ∙ other_at (eq_by_cmp (slice_cmp nat_cmp) other name) (Some file) (get files other) (λ is. apart (slice_cmp-IsAntisymmetric nat_cmp-IsAntisymmetric other name (equal_of (slice_cmp nat_cmp other name) is)))

get_same : (files : Files) (name file : List ℕ) → get (insert files name file) name ≡ Some file
get_same files name file = get-insert nat_list_cmp_total files name file name ∙ ap (λ (b : Bool). cond b (Some file) (get files name)) (ap is_eq (tied_itself nat_list_cmp_total name))

same_others : (old new : Files) (name : List ℕ) → new ≡ old → KeepsOthers old new name
same_others old new name is other apart = ap (λ (f : Files). get f other) is

put_others : (old new : Files) (name bytes : List ℕ) → new ≡ insert old name bytes → KeepsOthers old new name
put_others old new name bytes is other apart = ap (λ (f : Files). get f other) is ∙ get_other old name bytes other apart

-- ---- what is synced

same_synced : (old new : Synced) (name : List ℕ) → new ≡ old → SyncsOnly old new name
same_synced old new name is other apart = ap (λ (s : Synced). s other) is

synced_one : (old new : Synced) (name : List ℕ) (content : Option (List ℕ)) → new ≡ with_synced old name content → SyncsOnly old new name
synced_one old new name content is other apart =
    ap (λ (s : Synced). s other) is
    ∙ other_at (eq_by_cmp (slice_cmp nat_cmp) other name) content (old other) (λ same. apart (slice_cmp-IsAntisymmetric nat_cmp-IsAntisymmetric other name (equal_of (slice_cmp nat_cmp other name) same)))

-- ---- the store's calls

-- what a call leaves beside the files: the denials and the lock, and how its failures are counted
abbrev Undenied : Facts → Facts → Type 0
Undenied old new = (new.denials ≡ old.denials) × (new.locked ≡ old.locked) × FailsAsWrite old new

abbrev OnlyThis : Facts → Facts → List ℕ → Type 0
OnlyThis old new name = WritesOnly old new (λ (other : List ℕ). other ≡ name)

writes : {T : Type 0} (old new : Facts) (name : List ℕ) (result : Result T StoreError) → Counts old new result → Undenied old new → (IsTrue new.faithful → KeepsOthers old.files new.files name)
    → (IsTrue new.faithful → SyncsOnly old.synced new.synced name) → ((IsTrue new.faithful → SyncsOnly old.synced new.synced name) → IsTrue new.faithful → OnlyThis old new name) → Writes old new name
writes old new name result counts undenied others synced calls = record { faithful = counts.faithful; failures = counts.failures; writes = undenied.2; denials = undenied.0; locked = undenied.1; others = others; synced = synced; calls = calls synced }

abbrev Made : List ℕ → Files → Files → Type 0
Made name old new = new ≡ insert old name []

abbrev MayBeMade : List ℕ → Files → Files → Type 0
MayBeMade name old new = (new ≡ old) ⊎ (new ≡ insert old name [])

abbrev Longer : List ℕ → List ℕ → Files → Files → Type 0
Longer name bytes old new = Appends old new name bytes

abbrev MayBeLonger : List ℕ → List ℕ → Files → Files → Type 0
MayBeLonger name bytes old new = AppendsBeginning old new name bytes

abbrev Unsynced : List ℕ → Synced → Synced
Unsynced name synced = with_synced synced name None

abbrev done : Result (Unit {0}) StoreError
done = Ok tt

made_others : (old new : Files) (name : List ℕ) → MayBeMade name old new → KeepsOthers old new name
made_others old new name (inl is) = same_others old new name is
made_others old new name (inr is) = put_others old new name [] is

longer_others : (old new : Files) (name bytes : List ℕ) → MayBeLonger name bytes old new → KeepsOthers old new name
longer_others old new name bytes (inl is) = same_others old new name is
longer_others old new name bytes (inr some) = put_others old new name (some.1.0 ++ take some.0 bytes) some.1.2

create_only : {r : Result (Unit {0}) StoreError} (old new : Facts) (name : List ℕ) → (IsTrue new.faithful → SyncsOnly old.synced new.synced name) → Notes old new r (Creation name) → IsTrue new.faithful → OnlyThis old new name
create_only old new name synced notes t =
    others_noted old new (Creation name) (λ (other : List ℕ). other ≡ name) (λ q is. is) (λ files left. made_others old.files files name left) (synced t) (notes.noted t)

append_only : {r : Result (Unit {0}) StoreError} (old new : Facts) (name bytes : List ℕ) → (IsTrue new.faithful → SyncsOnly old.synced new.synced name) → NotesAppend old new r name bytes → IsTrue new.faithful → OnlyThis old new name
append_only old new name bytes synced notes t = others_appended old new name bytes (λ files left. longer_others old.files files name bytes left) (synced t) (notes.noted t)

sync_only : (r : Result (Unit {0}) StoreError) (old new : Facts) (name : List ℕ) → (IsTrue new.faithful → SyncsOnly old.synced new.synced name) → NotesSync old new r (Sync name) → Keeps old new → IsTrue new.faithful → OnlyThis old new name
sync_only r old new name synced notes same t = others_synced old new name r (notes.ok t) (notes.err t) (same t) (synced t)

pub create_writes : (old new : Facts) (name : List ℕ) → Counts old new done → Undenied old new → Changes old new done (Made name) (MayBeMade name)
    → ChangesSynced old new done (Unsynced name) (Made name) → Notes old new done (Creation name) → Writes old new name
create_writes old new name counts undenied files synced notes =
    writes old new name done counts undenied (λ t. put_others old.files new.files name [] (files.ok t)) (λ t. synced_one old.synced new.synced name None (synced.ok t)) (λ s. create_only old new name s notes)

pub create_makes : (old new : Facts) (name : List ℕ) → Changes old new done (Made name) (MayBeMade name) → IsTrue new.faithful → HasFile new name []
create_makes old new name files t = ap (λ (f : Files). get f name) (files.ok t) ∙ get_same old.files name []

pub create_refused : (old new : Facts) (name : List ℕ) (e : StoreError) → Counts {T = Unit {0}} old new (Err e) → Undenied old new → Changes {T = Unit {0}} old new (Err e) (Made name) (MayBeMade name)
    → ChangesSynced {T = Unit {0}} old new (Err e) (Unsynced name) (Made name) → Notes {T = Unit {0}} old new (Err e) (Creation name) → (e ≡ store_error.Missing → ⊥) → Writes old new name
create_refused old new name store_error.Memory counts undenied files synced notes there =
    writes old new name _ counts undenied (λ t. same_others old.files new.files name (files.memory t refl)) (λ t. same_synced old.synced new.synced name (synced.memory t refl)) (λ s. create_only old new name s notes)
create_refused old new name store_error.Missing counts undenied files synced notes there = absurd (there refl)
create_refused old new name store_error.Device counts undenied files synced notes there =
    writes old new name _ counts undenied (λ t. made_others old.files new.files name (files.device t refl)) (λ t. elim (synced.device t refl) [
      | inl same ↦ same_synced old.synced new.synced name same.1
      | inr made ↦ synced_one old.synced new.synced name None made.1
    ]) (λ s. create_only old new name s notes)

pub append_writes : (old new : Facts) (name bytes : List ℕ) → Counts old new done → Undenied old new → Changes old new done (Longer name bytes) (MayBeLonger name bytes) → KeepsSynced old new → NotesAppend old new done name bytes → Writes old new name
append_writes old new name bytes counts undenied files synced notes =
    writes old new name done counts undenied (λ t. let a = files.ok t in put_others old.files new.files name (a.0 ++ bytes) a.2) (λ t. same_synced old.synced new.synced name (synced t)) (λ s. append_only old new name bytes s notes)

pub append_appends : (old new : Facts) (name bytes : List ℕ) → Changes old new done (Longer name bytes) (MayBeLonger name bytes) → Appended old new name bytes
append_appends old new name bytes files t before there =
    let a = files.ok t in
    let same : a.0 ≡ before = let e : Some a.0 ≡ Some before = sym a.1 ∙ there in cc in
    ap (λ (f : Files). get f name) a.2 ∙ get_same old.files name (a.0 ++ bytes) ∙ ap (λ (v : List ℕ). Some (v ++ bytes)) same

pub append_refused : (old new : Facts) (name bytes : List ℕ) (e : StoreError) → Counts {T = Unit {0}} old new (Err e) → Undenied old new → Changes {T = Unit {0}} old new (Err e) (Longer name bytes) (MayBeLonger name bytes)
    → KeepsSynced old new → NotesAppend {T = Unit {0}} old new (Err e) name bytes → (e ≡ store_error.Missing → ⊥) → Writes old new name
append_refused old new name bytes store_error.Memory counts undenied files synced notes there =
    writes old new name _ counts undenied (λ t. same_others old.files new.files name (files.memory t refl)) (λ t. same_synced old.synced new.synced name (synced t)) (λ s. append_only old new name bytes s notes)
append_refused old new name bytes store_error.Missing counts undenied files synced notes there = absurd (there refl)
append_refused old new name bytes store_error.Device counts undenied files synced notes there =
    writes old new name _ counts undenied (λ t. longer_others old.files new.files name bytes (files.device t refl)) (λ t. same_synced old.synced new.synced name (synced t)) (λ s. append_only old new name bytes s notes)

pub sync_writes : (old new : Facts) (name : List ℕ) → Counts old new done → Undenied old new → Keeps old new → (IsTrue new.faithful → new.synced ≡ with_synced old.synced name (get old.files name)) → NotesSync old new done (Sync name) → Writes old new name
sync_writes old new name counts undenied same synced notes =
    writes old new name done counts undenied (λ t. same_others old.files new.files name (same t)) (λ t. synced_one old.synced new.synced name (get old.files name) (synced t)) (λ s. sync_only done old new name s notes same)

pub sync_keeps : (old new : Facts) (name : List ℕ) → Keeps old new → (IsTrue new.faithful → new.synced ≡ with_synced old.synced name (get old.files name)) → IsTrue new.faithful → new.synced name ≡ get new.files name
sync_keeps old new name same synced t =
    ap (λ (s : Synced). s name) (synced t)
    ∙ ap (λ (b : Bool). cond b (get old.files name) (old.synced name)) (ap is_eq (tied_itself nat_list_cmp_total name))
    ∙ ap (λ (f : Files). get f name) (sym (same t))

-- after it no call waits for one
pub sync_ends : (old new : Facts) (name : List ℕ) → Adds old new (Sync name) → behind_sync [] new.calls ≡ []
sync_ends old new name adds = ap (behind_sync []) adds.0 ∙ behind_more [] old.calls (record { found = disk_of old; change = Sync name } ∷ [])

pub sync_refused : (old new : Facts) (name : List ℕ) (e : StoreError) → Counts {T = Unit {0}} old new (Err e) → Undenied old new → Keeps old new → (IsTrue new.faithful → new.synced ≡ old.synced) → NotesSync {T = Unit {0}} old new (Err e) (Sync name) → Writes old new name
sync_refused old new name e counts undenied same synced notes =
    writes old new name _ counts undenied (λ t. same_others old.files new.files name (same t)) (λ t. same_synced old.synced new.synced name (synced t)) (λ s. sync_only (Err e) old new name s notes same)

-- ---- one call after another

pub writes_none : (old : Facts) (name : List ℕ) → Writes old old name
writes_none old name = record { faithful = λ t. t; failures = omega arith; writes = omega arith; denials = refl; locked = refl; others = λ t other apart. refl; synced = λ t other apart. refl; calls = λ t. others_same old old _ refl refl refl }

pub writes_then : (a b c : Facts) (name : List ℕ) → Writes a b name → Writes b c name → Writes a c name
writes_then a b c name h k = record {
  faithful = λ t. h.faithful (k.faithful t);
  failures = omega (arith, h.failures, k.failures);
  writes = omega (arith, h.writes, k.writes);
  denials = k.denials ∙ h.denials;
  locked = k.locked ∙ h.locked;
  others = λ t other apart. k.others t other apart ∙ h.others (k.faithful t) other apart;
  synced = λ t other apart. k.synced t other apart ∙ h.synced (k.faithful t) other apart;
  calls = λ t. others_both a b c (λ (other : List ℕ). other ≡ name) (h.calls (k.faithful t)) (k.calls t);
}

pub refuses_more : (e : DbError) (old new : Facts) (P Q : Type 0) → (P → Q) → WriteRefuses e old new P → WriteRefuses e old new Q
refuses_more OutOfMemory old new P Q f h = h
refuses_more Io old new P Q f h = h
refuses_more (Unsupported what) old new P Q f h = f h
refuses_more _ old new P Q f h = absurd h

pub refuses_later : (e : DbError) (a b c : Facts) (P Q : Type 0) → (P → Q) → b.failures ≡ a.failures → WriteRefuses e b c P → WriteRefuses e a c Q
refuses_later OutOfMemory a b c P Q f same h = h ∙ same
refuses_later Io a b c P Q f same h = omega (arith, same, h)
refuses_later (Unsupported what) a b c P Q f same h = f h
refuses_later _ a b c P Q f same h = absurd h

-- a refusal before the store is called
pub gives_up : (e : DbError) (old new : Facts) (P Q : Type 0) → (P → Q) → new.failures ≡ old.failures → GivesUpOnly e P → WriteRefuses e old new Q
gives_up OutOfMemory old new P Q f same h = same
gives_up (Unsupported what) old new P Q f same h = f h
gives_up _ old new P Q f same h = absurd h

pub only_gives_up : (e : DbError) (P Q : Type 0) → (P → Q) → GivesUpOnly e P → GivesUpOnly e Q
only_gives_up OutOfMemory P Q f h = tt
only_gives_up (Unsupported what) P Q f h = f h
only_gives_up _ P Q f h = absurd h
