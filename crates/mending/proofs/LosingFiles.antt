-- What a power loss leaves while a file is replaced.
use Rattle.std.proofs.Common.{◌≡◌, ◌≢◌, ◌⊎◌, inl, inr, ℕ, Bool, true, cond, List, [], ◌∷◌, ◌++◌, length, take, Option, Some, None, is_some, if◌then◌else◌, Result, Ok, Err, OnOk, OnErr, IsTrue, refl, sym, ap, subst, ◌∙◌, append-nil, append_assoc, arith}
use Rattle.std.proofs.lemmas.List.{length-append}
use Rattle.std.specs.Cmp.Lexicographic.{slice_cmp}
use Rattle.std.specs.FinMap.{get, insert, remove}
use Rattle.std.specs.Option.{option_map_or}
use Rattle.std.specs.Ordering.{nat_cmp, eq_by_cmp}
use Rattle.store.specs.Calls.{Adds, ChangesSynced, Changes, Idles}
use Rattle.store.specs.Files.{Addition, Appends, Call, Creation, Facts, Files, Move, Renames, Sync, Synced, disk_of, lock_name, renamed, with_synced}
use Rattle.store.specs.Losses.{BeginsWith, IsLost, IsLostSince, Lost, LosesOnly, SyncsBeginnings, behind_sync, held_last}
use Rattle.store.specs.Stops.{WritesOnly, moment}
use Rattle.store.specs.declared.error.StoreError.{StoreError}
use Rattle.store.specs.declared.error.StoreError.TheVariants as store_error
use Rattle.store.proofs.LosingOn.{facts_at, keeps_at, loses_at, loses_both, loses_later, loses_noted, loses_read, loses_so, lost_here}
use Rattle.store.proofs.Staying.{behind_more, stays_on}
use Rattle.store.proofs.Stopping.{others_appended, others_both, others_noted, others_synced}
use Rattle.mending.specs.Losing.{HaveNamesStayed, IsDurable, LosesBy, MayReplaceWhole}
use Rattle.mending.proofs.Lost.{LeavesName, itself, left_before, left_held, left_now, left_on, left_stayed, not_same, same_or_not}
use Rattle.mending.proofs.Writing.{appended_others, created_others, get_other, get_removed, get_same, with_same, written}

abbrev pub OnlyIt : Facts → Facts → List ℕ → Type 0
OnlyIt old new name = WritesOnly old new (λ (q : List ℕ). q ≡ name)

with_other : (s : Synced) (name q : List ℕ) (content : Option (List ℕ)) → q ≢ name → with_synced s name content q ≡ s q
with_other s name q content apart = ap (λ (b : Bool). cond b content (s q)) (not_same q name apart)

-- ---- the temporary file

abbrev pub KeepsBeside : List ℕ → Files → Files → Type 0
KeepsBeside name before lost = (q : List ℕ) → q ≢ lock_name → q ≢ name → get lost q ≡ get before q

-- A loss while a file is written leaves the others as one left them before.
pub written_loses : (old new : Facts) (name : List ℕ) → OnlyIt old new name → SyncsBeginnings old → HaveNamesStayed old → LosesBy old new (KeepsBeside name)
written_loses old new name only sound stayed =
    let mine : List ℕ → Type 0 = λ q. q ≡ name in
    loses_at old new (λ lost. (before : Files) × Lost old (moment old) before × KeepsBeside name before lost) (λ m least most lost since.
    let past = facts_at new m in
    let k = keeps_at old new mine m only least in
    let b = left_before old lost (lock_name ∷ name ∷ []) sound (λ q apart.
    left_on old past lost q (k.files q apart.1.0) (k.synced q apart.1.0)
    (left_stayed past lost q (behind_sync [] past.calls) (stays_on old past mine q apart.1.0 k.carries (stayed q apart.0)) (lost_here past lost since))) in
    (b.0, b.1, λ q lock apart. b.2 q (lock, (apart, tt))))

-- ---- the file itself

-- It has these bytes, on disk. But for it and the temporary one all is as it was.
record IsSet (old new : Facts) (temporary name bytes : List ℕ) : Type 0 where
  there : get new.files name ≡ Some bytes
  kept : new.synced name ≡ Some bytes
  others : (q : List ℕ) → q ≢ temporary → q ≢ name → (get new.files q ≡ get old.files q) × (new.synced q ≡ old.synced q)

some_of : (o : Option (List ℕ)) → is_some o ≡ true → (x : List ℕ) × (o ≡ Some x)
some_of None e = absurd (cc)
some_of (Some x) e = (x, refl)

no_rest : (rest : List ℕ) → length rest ≡ 0 → rest ≡ []
no_rest [] e = refl
no_rest (x ∷ rest) e = absurd (omega (arith, e))

-- two that begin with each other are the same
both_begin : (a b : List ℕ) → BeginsWith a b → BeginsWith b a → a ≡ b
both_begin a b h k =
    let whole : length h.0 ≡ 0 = omega (arith, ap length h.1, ap length k.1, length-append b h.0, length-append a k.0) in
    h.1 ∙ ap (λ (rest : List ℕ). b ++ rest) (no_rest h.0 whole) ∙ append-nil b

same_some : (a b : List ℕ) → Some a ≡ Some b → a ≡ b
same_some a b e = cc

-- What is synced whole is left whole.
set_whole : (facts : Facts) (lost : Files) (name bytes : List ℕ) → get facts.files name ≡ Some bytes → facts.synced name ≡ Some bytes → LeavesName facts lost name → get lost name ≡ Some bytes
set_whole facts lost name bytes there kept left =
    let found = some_of (get lost name) (left.name ∙ ap is_some there) in
    let front = left.beginning found.0 found.1 in
    let held : front.0 ≡ bytes = same_some front.0 bytes (sym front.1 ∙ there) in
    found.1 ∙ ap Some (both_begin found.0 bytes (left.kept found.0 bytes found.1 kept) (subst (λ (b : List ℕ). BeginsWith b found.0) held front.2))

module _ (old : Facts) (temporary name bytes : List ℕ) (sound : SyncsBeginnings old) where
  abbrev pub Leaves : Files → Type 0
  Leaves lost = (before : Files) × Lost old (moment old) before × MayReplaceWhole before lost temporary name bytes

  -- all but the temporary file is left as before
  pub unset_left : (lost : Files) → ((q : List ℕ) → q ≢ temporary → LeavesName old lost q) → Leaves lost
  unset_left lost each =
      let b = left_before old lost (lock_name ∷ temporary ∷ []) sound (λ q apart. each q apart.1.0) in
      (b.0, b.1, λ q lock apart. inl (b.2 q (lock, (apart, tt))))

  set_left : (new : Facts) (lost : Files) → IsSet old new temporary name bytes → IsLost new.files [] (disk_of new) lost → Leaves lost
  set_left new lost set h =
      let b = left_before old lost (lock_name ∷ temporary ∷ name ∷ []) sound (λ q apart.
      let same = set.others q apart.1.0 apart.1.1.0 in
      left_on old new lost q same.0 same.1 (left_now new lost q h)) in
      let whole : get lost name ≡ Some bytes = set_whole new lost name bytes set.there set.kept (left_now new lost name h) in (
        b.0,
        b.1,
        λ q lock apart. elim (same_or_not q name) [
          | inl is ↦ inr (is, ap (λ (n : List ℕ). get lost n) is ∙ whole)
          | inr other ↦ inl (b.2 q (lock, (apart, (other, tt))))
        ],
      )

  pub unset_loses : (new : Facts) → OnlyIt old new temporary → HaveNamesStayed old → LosesOnly old new Leaves
  unset_loses new only stayed =
      loses_so old new (λ lost. (before : Files) × Lost old (moment old) before × KeepsBeside temporary before lost) Leaves
      (λ lost l. (l.0, l.1, λ q lock apart. inl (l.2 q lock apart))) (written_loses old new temporary only sound stayed)

-- ---- the rename

-- It was done or not, and is noted or not.
abbrev pub Moves : Facts → Facts → List ℕ → List ℕ → Type 0
Moves mid new from to = (Idles mid new ⊎ Adds mid new (Move from to))
    × (((new.files ≡ mid.files) × (new.synced ≡ mid.synced)) ⊎ (Renames mid.files new.files from to × (new.synced ≡ renamed mid.synced from to)))

pub moved_or_not : (mid new : Facts) (from to : List ℕ) (e : StoreError) → Changes {T = Unit {0}} mid new (Err e) (λ o n. Renames o n from to) (λ o n. (n ≡ o) ⊎ Renames o n from to)
    → ChangesSynced {T = Unit {0}} mid new (Err e) (λ s. renamed s from to) (λ o n. Renames o n from to) → Idles mid new ⊎ Adds mid new (Move from to) → ((e ≡ store_error.Missing) → ⊥) → IsTrue new.faithful → Moves mid new from to
moved_or_not mid new from to store_error.Memory files synced noted missing f = (noted, inl (files.memory f refl, synced.memory f refl))
moved_or_not mid new from to store_error.Missing files synced noted missing f = absurd (missing refl)
moved_or_not mid new from to store_error.Device files synced noted missing f = (noted, synced.device f refl)

moved_set : (old mid new : Facts) (temporary name bytes : List ℕ) → OnlyIt old mid temporary → IsDurable mid temporary bytes → Renames mid.files new.files temporary name → new.synced ≡ renamed mid.synced temporary name → IsSet old new temporary name bytes
moved_set old mid new temporary name bytes only w r synced =
    let s = mid.synced in
    record {
      there = ap (λ (fs : Files). get fs name) r.2 ∙ get_same (remove mid.files temporary) name r.0 ∙ sym r.1 ∙ w.there;
      kept = ap (λ (t : Synced). t name) synced ∙ with_same (with_synced s temporary None) name (s temporary) ∙ w.kept;
      others = λ q apart other. (
        ap (λ (fs : Files). get fs q) r.2 ∙ get_other (remove mid.files temporary) name r.0 q other ∙ get_removed mid.files temporary q apart ∙ only.leaves.now q apart,
        ap (λ (t : Synced). t q) synced ∙ with_other (with_synced s temporary None) name q (s temporary) other ∙ with_other s temporary q None apart ∙ only.synced q apart,
      );
    }

-- with its sync
set_synced : (old mid new : Facts) (temporary name bytes : List ℕ) → IsSet old mid temporary name bytes → new.files ≡ mid.files → new.synced ≡ with_synced mid.synced name (get mid.files name) → IsSet old new temporary name bytes
set_synced old mid new temporary name bytes s files synced = record {
  there = ap (λ (fs : Files). get fs name) files ∙ s.there;
  kept = ap (λ (t : Synced). t name) synced ∙ with_same mid.synced name (get mid.files name) ∙ s.there;
  others = λ q apart other. (
    ap (λ (fs : Files). get fs q) files ∙ (s.others q apart other).0,
    ap (λ (t : Synced). t q) synced ∙ with_other mid.synced name q (get mid.files name) other ∙ (s.others q apart other).1,
  );
}

-- what each file held last, under the names before the rename
module _ (mid new : Facts) (from to : List ℕ) (renames : Renames mid.files new.files from to) where
  abbrev it : Call
  it = record { found = disk_of mid; change = Move from to }

  goes_to : (q : List ℕ) (o : Option (List ℕ)) → (if eq_by_cmp (slice_cmp nat_cmp) q from then Some to else (if eq_by_cmp (slice_cmp nat_cmp) q to then None else Some q)) ≡ o
      → held_last (it ∷ []) (disk_of new) q ≡ option_map_or (held_last [] (disk_of new)) o (get mid.files q, mid.synced q)
  goes_to q o is = ap (λ (p : Option (List ℕ)). option_map_or (held_last [] (disk_of new)) p (get mid.files q, mid.synced q)) is

  within : (q : List ℕ) (o : Option (List ℕ)) → q ≢ from → (if eq_by_cmp (slice_cmp nat_cmp) q to then None else Some q) ≡ o
      → (if eq_by_cmp (slice_cmp nat_cmp) q from then Some to else (if eq_by_cmp (slice_cmp nat_cmp) q to then None else Some q)) ≡ o
  within q o apart is =
      ap (λ (b : Bool). if b then Some to else (if eq_by_cmp (slice_cmp nat_cmp) q to then None else Some q)) (not_same q from apart) ∙ is

  held_before : (q : List ℕ) → q ≢ from → (q ≢ to → new.synced q ≡ mid.synced q) → held_last (it ∷ []) (disk_of new) q ≡ (get mid.files q, mid.synced q)
  held_before q apart synced = elim (same_or_not q to) [
    | inl is ↦ goes_to q None (within q None apart (ap (λ (b : Bool). if b then None else Some q) (ap (λ (n : List ℕ). eq_by_cmp (slice_cmp nat_cmp) n to) is ∙ itself to)))
    | inr other ↦
        let files : get new.files q ≡ get mid.files q = ap (λ (fs : Files). get fs q) renames.2 ∙ get_other (remove mid.files from) to renames.0 q other ∙ get_removed mid.files from q apart in
        goes_to q (Some q) (within q (Some q) apart (ap (λ (b : Bool). if b then None else Some q) (not_same q to other))) ∙ (λ i. (files i, synced other i))
  ]

  pub before_left : (lost : Files) (q : List ℕ) → q ≢ from → (q ≢ to → new.synced q ≡ mid.synced q) → IsLost mid.files (it ∷ []) (disk_of new) lost → LeavesName mid lost q
  before_left lost q apart synced h = left_held mid mid.files (it ∷ []) (disk_of new) lost q refl (held_before q apart synced) h

synced_beside : (mid new : Facts) (from to q : List ℕ) → ((new.files ≡ mid.files) × (new.synced ≡ mid.synced)) ⊎ (Renames mid.files new.files from to × (new.synced ≡ renamed mid.synced from to)) → q ≢ from → q ≢ to → new.synced q ≡ mid.synced q
synced_beside mid new from to q (inl same) apart other = ap (λ (t : Synced). t q) same.1
synced_beside mid new from to q (inr done) apart other =
    ap (λ (t : Synced). t q) done.1 ∙ with_other (with_synced mid.synced from None) to q (mid.synced from) other ∙ with_other mid.synced from q None apart

moved_calls : (mid new : Facts) (change : _) → Idles mid new ⊎ Adds mid new change → (more : List Call) × (new.calls ≡ mid.calls ++ more)
moved_calls mid new change (inl idle) = ([], idle.0 ∙ sym (append-nil mid.calls))
moved_calls mid new change (inr adds) = (record { found = disk_of mid; change = change } ∷ [], adds.0)

behind_added : (old new : Facts) (name : List ℕ) → Adds old new (Sync name) → behind_sync [] new.calls ≡ []
behind_added old new name adds = ap (λ (calls : List Call). behind_sync [] calls) adds.0 ∙ behind_more [] old.calls (record { found = disk_of old; change = Sync name } ∷ [])

module _ (old mid new : Facts) (temporary name bytes : List ℕ) (sound : SyncsBeginnings old) (only : OnlyIt old mid temporary) (w : IsDurable mid temporary bytes) (moves : Moves mid new temporary name) where
  names_before : (lost : Files) → Adds mid new (Move temporary name) → IsLost mid.files (record { found = disk_of mid; change = Move temporary name } ∷ []) (disk_of new) lost → Leaves old temporary name bytes sound lost
  names_before lost adds h = unset_left old temporary name bytes sound lost (λ q apart.
      left_on old mid lost q (only.leaves.now q apart) (only.synced q apart)
      (before_left mid new temporary name adds.1 lost q apart (λ other. synced_beside mid new temporary name q moves.1 apart other) h))

  names_now : (lost : Files) → IsLost new.files [] (disk_of new) lost → Leaves old temporary name bytes sound lost
  names_now lost h = elim moves.1 [
    | inl same ↦ unset_left old temporary name bytes sound lost (λ q apart.
        left_on old new lost q (ap (λ (fs : Files). get fs q) same.0 ∙ only.leaves.now q apart) (ap (λ (t : Synced). t q) same.1 ∙ only.synced q apart) (left_now new lost q h))
    | inr done ↦ set_left old temporary name bytes sound new lost (moved_set old mid new temporary name bytes only w done.0 done.1) h
  ]

  moved_here : LosesOnly new new (Leaves old temporary name bytes sound)
  moved_here lost since =
      let h = lost_here new lost since in
      let At : List Call → Type 0 = λ calls. IsLostSince calls (disk_of new) lost in
      elim moves.0 [
        | inl idle ↦ names_now lost (subst At (ap (behind_sync []) idle.0 ∙ w.ends) h)
        | inr adds ↦
            let it : Call = record { found = disk_of mid; change = Move temporary name } in
            let calls : behind_sync [] new.calls ≡ it ∷ [] = ap (behind_sync []) adds.0 ∙ behind_more [] mid.calls (it ∷ []) ∙ ap (λ (cs : List Call). behind_sync cs (it ∷ [])) w.ends in
            elim (subst At calls h) [ inl first ↦ names_before lost adds first | inr last ↦ names_now lost last ]
      ]

  pub moved_loses : HaveNamesStayed old → LosesOnly old new (Leaves old temporary name bytes sound)
  moved_loses stayed =
      let P = Leaves old temporary name bytes sound in
      let before = unset_loses old temporary name bytes sound mid only stayed in
      let here = loses_later old mid only.leaves.more P only.leaves.calls before in
      let goes = moved_calls mid new (Move temporary name) moves.0 in
      loses_both old mid new goes.0 P goes.1 before (loses_noted mid new (Move temporary name) P moves.0 here moved_here)

  -- and its sync, whatever it answers
  pub kept_loses : (last : Facts) (r : Result (Unit {0}) StoreError) → Renames mid.files new.files temporary name → new.synced ≡ renamed mid.synced temporary name → OnOk r (Adds new last (Sync name)) → OnErr r (last.calls ≡ new.calls) → last.files ≡ new.files
      → OnOk r (last.synced ≡ with_synced new.synced name (get new.files name)) → OnErr r (last.synced ≡ new.synced) → HaveNamesStayed old → LosesOnly old last (Leaves old temporary name bytes sound)
  kept_loses last (Ok x) renames synced noted left same done undone stayed =
      let P = Leaves old temporary name bytes sound in
      let before = moved_loses stayed in
      let set = set_synced old new last temporary name bytes (moved_set old mid new temporary name bytes only w renames synced) same done in
      let goes = moved_calls mid new (Move temporary name) moves.0 in
      let all : new.calls ≡ old.calls ++ (only.leaves.more ++ goes.0) = goes.1 ∙ ap (λ (calls : List Call). calls ++ goes.0) only.leaves.calls ∙ append_assoc old.calls only.leaves.more goes.0 in
      let here = loses_later old new (only.leaves.more ++ goes.0) P all before in
      let behind : LosesOnly last last P = λ lost since.
      set_left old temporary name bytes sound last lost set (subst (λ (calls : List Call). IsLostSince calls (disk_of last) lost) (behind_added new last name noted) (lost_here last lost since)) in
      loses_both old new last (record { found = disk_of new; change = Sync name } ∷ []) P noted.0 before (loses_noted new last (Sync name) P (inr noted) here behind)
  kept_loses last (Err e) renames synced noted left same done undone stayed =
      let P = Leaves old temporary name bytes sound in
      let goes = moved_calls mid new (Move temporary name) moves.0 in
      let all : new.calls ≡ old.calls ++ (only.leaves.more ++ goes.0) = goes.1 ∙ ap (λ (calls : List Call). calls ++ goes.0) only.leaves.calls ∙ append_assoc old.calls only.leaves.more goes.0 in
      loses_read old new last (only.leaves.more ++ goes.0) P all left same undone (moved_loses stayed)

-- With both it is on disk.
pub made_durable : (old mid new last : Facts) (temporary name bytes : List ℕ) → OnlyIt old mid temporary → IsDurable mid temporary bytes → Renames mid.files new.files temporary name → new.synced ≡ renamed mid.synced temporary name
    → Adds new last (Sync name) → last.files ≡ new.files → last.synced ≡ with_synced new.synced name (get new.files name) → IsDurable last name bytes
made_durable old mid new last temporary name bytes only w renames synced adds same done =
    let set = set_synced old new last temporary name bytes (moved_set old mid new temporary name bytes only w renames synced) same done in
    record { there = set.there; kept = set.kept; ends = behind_added new last name adds }

-- ---- a file that is written anew

pub created_only : (old new : Facts) (name : List ℕ) → Idles old new ⊎ Adds old new (Creation name) → ((q : List ℕ) → q ≢ name → new.synced q ≡ old.synced q) → OnlyIt old new name
created_only old new name noted synced = others_noted old new (Creation name) (λ (q : List ℕ). q ≡ name) (λ q is. is) (λ files left q apart. created_others old.files files name left q apart) synced noted

pub created_synced : (old new : Facts) (name : List ℕ) (r : Result (Unit {0}) StoreError) → ((r ≡ Err store_error.Missing) → ⊥) → ChangesSynced old new r (λ s. with_synced s name None) (λ o n. n ≡ insert o name []) → IsTrue new.faithful → (q : List ℕ) → q ≢ name → new.synced q ≡ old.synced q
created_synced old new name (Ok x) missing h f q apart = ap (λ (t : Synced). t q) (h.ok f) ∙ with_other old.synced name q None apart
created_synced old new name (Err store_error.Memory) missing h f q apart = ap (λ (t : Synced). t q) (h.memory f refl)
created_synced old new name (Err store_error.Missing) missing h f q apart = absurd (missing refl)
created_synced old new name (Err store_error.Device) missing h f q apart = elim (h.device f refl) [
  | inl same ↦ ap (λ (t : Synced). t q) same.1
  | inr done ↦ ap (λ (t : Synced). t q) done.1 ∙ with_other old.synced name q None apart
]

pub appended_only : (old mid new : Facts) (name bytes : List ℕ) → OnlyIt old mid name → Idles mid new ⊎ ((n : ℕ) × Adds mid new (Addition name (take n bytes))) → new.synced ≡ mid.synced → OnlyIt old new name
appended_only old mid new name bytes h noted same =
    others_both old mid new (λ (q : List ℕ). q ≡ name) h
    (others_appended mid new name bytes (λ files left q apart. appended_others mid.files files name bytes left q apart) (λ q apart. ap (λ (s : Synced). s q) same) noted)

pub synced_only : (old mid new : Facts) (name : List ℕ) (r : Result (Unit {0}) StoreError) → OnlyIt old mid name → OnOk r (Adds mid new (Sync name)) → OnErr r (new.calls ≡ mid.calls) → new.files ≡ mid.files
    → OnOk r (new.synced ≡ with_synced mid.synced name (get mid.files name)) → OnErr r (new.synced ≡ mid.synced) → OnlyIt old new name
synced_only old mid new name r h noted left same done undone = others_both old mid new (λ (q : List ℕ). q ≡ name) h (others_synced mid new name r noted left same (beside r done undone))
  where
    beside : (s : Result (Unit {0}) StoreError) → OnOk s (new.synced ≡ with_synced mid.synced name (get mid.files name)) → OnErr s (new.synced ≡ mid.synced) → (q : List ℕ) → (q ≡ name → ⊥) → new.synced q ≡ mid.synced q
    beside (Ok x) is kept q apart = ap (λ (t : Synced). t q) is ∙ with_other mid.synced name q (get mid.files name) apart
    beside (Err e) is kept q apart = ap (λ (t : Synced). t q) kept

pub written_durable : (old mid most new : Facts) (name bytes : List ℕ) → mid.files ≡ insert old.files name [] → Appends mid.files most.files name bytes → new.files ≡ most.files → new.synced ≡ with_synced most.synced name (get most.files name)
    → Adds most new (Sync name) → IsDurable new name bytes
written_durable old mid most new name bytes made a same done adds =
    let there = written old.files mid.files most.files new.files name bytes made a same in
    record {
      there = there;
      kept = ap (λ (t : Synced). t name) done ∙ with_same most.synced name (get most.files name) ∙ sym (ap (λ (fs : Files). get fs name) same) ∙ there;
      ends = behind_added most new name adds;
    }
