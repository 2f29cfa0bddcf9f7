-- What a power loss leaves, with some files put back as they were.
use Rattle.std.proofs.Common.{◌≡◌, ◌≢◌, ◌⊎◌, ◌+◌, inl, inr, ℕ, Bool, true, false, cond, List, [], ◌∷◌, ◌++◌, length, take, drop, Option, Some, is_some, refl, sym, ap, subst, ◌∙◌, append-nil, arith}
use Rattle.std.proofs.lemmas.List.{drop_all, length-append, take_all}
use Rattle.std.specs.Cmp.{tied_itself}
use Rattle.std.specs.Cmp.Lexicographic.{slice_cmp, nat_list_cmp_total}
use Rattle.std.specs.FinMap.{get, contains_key}
use Rattle.std.specs.List.{AllByRecursion}
use Rattle.std.specs.Option.{option_map_or}
use Rattle.std.specs.Ordering.{is_eq, nat_cmp, eq_by_cmp}
use Rattle.store.specs.Files.{Call, Disk, Facts, Files, disk_of}
use Rattle.store.specs.Losses.{BeginsWith, HasStayed, IsCarriedBy, IsLost, IsLostSince, Lost, SyncsBeginning, SyncsBeginnings, behind_sync, disk_before, held_last}
use Rattle.store.specs.Past.{with_file}
use Rattle.store.specs.Stops.{moment}
use Rattle.store.proofs.LosingOn.{loses_both}
use Rattle.store.proofs.Stopping.{lost_earlier}
use Rattle.store.proofs.Undoing.{get-with_file}
use Rattle.mending.specs.Losing.{LosesBy}
use Rattle.mending.proofs.Writing.{same_name}

-- ---- names

pub itself : (name : List ℕ) → eq_by_cmp (slice_cmp nat_cmp) name name ≡ true
itself name = ap is_eq (tied_itself nat_list_cmp_total name)

pub same_or_not : (q name : List ℕ) → (q ≡ name) ⊎ (q ≢ name)
same_or_not q name = at (eq_by_cmp (slice_cmp nat_cmp) q name) refl
  where
    at : (b : Bool) → eq_by_cmp (slice_cmp nat_cmp) q name ≡ b → (q ≡ name) ⊎ (q ≢ name)
    at true is = inl (same_name q name is)
    at false is = inr (λ e. let bad : true ≡ false = sym (itself name) ∙ ap (λ (n : List ℕ). eq_by_cmp (slice_cmp nat_cmp) n name) (sym e) ∙ is in absurd cc)

pub not_same : (q name : List ℕ) → q ≢ name → eq_by_cmp (slice_cmp nat_cmp) q name ≡ false
not_same q name apart = at (eq_by_cmp (slice_cmp nat_cmp) q name) refl
  where
    at : (b : Bool) → eq_by_cmp (slice_cmp nat_cmp) q name ≡ b → b ≡ false
    at true is = absurd (apart (same_name q name is))
    at false is = refl

with_file_same : (files : Files) (name : List ℕ) (o : Option (List ℕ)) → get (with_file files name o) name ≡ o
with_file_same files name o = get-with_file files name o name ∙ ap (λ (b : Bool). cond b o (get files name)) (itself name)

with_file_other : (files : Files) (name : List ℕ) (o : Option (List ℕ)) (q : List ℕ) → q ≢ name → get (with_file files name o) q ≡ get files q
with_file_other files name o q apart = get-with_file files name o q ∙ ap (λ (b : Bool). cond b o (get files q)) (not_same q name apart)

-- ---- one file

-- what a loss leaves under one name
pub record LeavesName (facts : Facts) (lost : Files) (q : List ℕ) : Type 0 where
  pub name : contains_key lost q ≡ contains_key facts.files q
  pub beginning : (bytes : List ℕ) → get lost q ≡ Some bytes → (held : List ℕ) × (get facts.files q ≡ Some held) × BeginsWith held bytes
  pub kept : (bytes synced : List ℕ) → get lost q ≡ Some bytes → facts.synced q ≡ Some synced → BeginsWith bytes synced

-- of other files that have the same there
left_like : (facts : Facts) (lost files : Files) (q : List ℕ) → get files q ≡ get lost q → LeavesName facts lost q → LeavesName facts files q
left_like facts lost files q same left = record {
  name = ap is_some same ∙ left.name;
  beginning = λ bytes there. left.beginning bytes (sym same ∙ there);
  kept = λ bytes synced there is. left.kept bytes synced (sym same ∙ there) is;
}

-- and of another moment
pub left_on : (old new : Facts) (lost : Files) (q : List ℕ) → get new.files q ≡ get old.files q → new.synced q ≡ old.synced q → LeavesName new lost q → LeavesName old lost q
left_on old new lost q files synced left = record {
  name = left.name ∙ ap is_some files;
  beginning = λ bytes there. let b = left.beginning bytes there in (b.0, sym files ∙ b.1, b.2);
  kept = λ bytes kept there is. left.kept bytes kept there (synced ∙ is);
}

same_begins : (a b : List ℕ) → a ≡ b → BeginsWith a b
same_begins a b is = ([], is ∙ sym (append-nil b))

-- it is whole
left_whole : (facts : Facts) (files : Files) (q : List ℕ) → get files q ≡ get facts.files q → SyncsBeginning facts q → LeavesName facts files q
left_whole facts files q same sound = record {
  name = ap is_some same;
  beginning = λ bytes there. (bytes, sym same ∙ there, same_begins bytes bytes refl);
  kept = λ bytes synced there is. sound bytes synced (sym same ∙ there) is;
}

-- what goes on under its name holds now what it held last
held_carried : (calls : List Call) (now : Disk) (q : List ℕ) → IsCarriedBy calls q → held_last calls now q ≡ (get now.files q, now.synced q)
held_carried [] now q h = refl
held_carried (call ∷ calls) now q h =
    ap (λ (o : Option (List ℕ)). option_map_or (held_last calls now) o (get call.found.files q, call.found.synced q)) h.0 ∙ held_carried calls now q h.1

abbrev Held : Type 0
Held = Option (List ℕ) × Option (List ℕ)

-- it holds what another moment's disk has
pub left_held : (facts : Facts) (at : Files) (calls : List Call) (now : Disk) (lost : Files) (q : List ℕ) → contains_key at q ≡ contains_key facts.files q → held_last calls now q ≡ (get facts.files q, facts.synced q) → IsLost at calls now lost → LeavesName facts lost q
left_held facts at calls now lost q name same h = record {
  name = h.names q ∙ name;
  beginning = λ bytes there. let b = h.beginning q bytes there in (b.0, sym (ap (λ (p : Held). p.0) same) ∙ b.1, b.2);
  kept = λ bytes synced there is. h.kept q bytes synced there (ap (λ (p : Held). p.1) same ∙ is);
}

pub left_now : (facts : Facts) (lost : Files) (q : List ℕ) → IsLost facts.files [] (disk_of facts) lost → LeavesName facts lost q
left_now facts lost q h = left_held facts facts.files [] (disk_of facts) lost q refl refl h

-- one of the moments since the last sync
pub left_stayed : (facts : Facts) (lost : Files) (q : List ℕ) (calls : List Call) → HasStayed calls (contains_key facts.files q) q → IsLostSince calls (disk_of facts) lost → LeavesName facts lost q
left_stayed facts lost q [] s h = left_now facts lost q h
left_stayed facts lost q (call ∷ calls) s (inr later) = left_stayed facts lost q calls s.1 later
left_stayed facts lost q (call ∷ calls) s (inl h) = left_held facts call.found.files (call ∷ calls) (disk_of facts) lost q s.0.1 (held_carried (call ∷ calls) (disk_of facts) q s.0.0) h

-- ---- all of them

lost_now : (facts : Facts) (lost : Files) → IsLostSince (behind_sync [] facts.calls) (disk_of facts) lost → Lost facts (moment facts) lost
lost_now facts lost h =
    let n = length facts.calls in
    let front : take n facts.calls ≡ facts.calls = take_all n facts.calls (omega arith) in
    let rest : drop n facts.calls ≡ [] = drop_all n facts.calls (omega arith) in
    let A : List Call → Type 0 = λ cs. IsLostSince (behind_sync [] cs) (disk_of facts) lost in
    let B : List Call → Type 0 = λ cs. IsLostSince (behind_sync [] (take n facts.calls)) (disk_before cs (disk_of facts)) lost in
    (n, omega arith, omega arith, subst B (sym rest) (subst A (sym front) h))

since_last : (calls : List Call) (now : Disk) (lost : Files) → IsLost now.files [] now lost → IsLostSince calls now lost
since_last [] now lost h = h
since_last (call ∷ calls) now lost h = inr (since_last calls now lost h)

-- what is left under each name is a loss until the next call
lost_each : (facts : Facts) (files : Files) → ((q : List ℕ) → LeavesName facts files q) → Lost facts (moment facts) files
lost_each facts files each =
    let now : IsLost facts.files [] (disk_of facts) files = record {
      names = λ q. (each q).name;
      beginning = λ q bytes there. (each q).beginning bytes there;
      kept = λ q bytes synced there is. (each q).kept bytes synced there is;
    } in
    lost_now facts files (since_last (behind_sync [] facts.calls) (disk_of facts) files now)

-- with the files of these names as they were
restored : Files → Files → List (List ℕ) → Files
restored old lost [] = lost
restored old lost (name ∷ names) = with_file (restored old lost names) name (get old name)

abbrev pub Apart : List ℕ → List (List ℕ) → Type 0
Apart q names = AllByRecursion (λ (name : List ℕ). q ≢ name) names

restored_other : (old lost : Files) (names : List (List ℕ)) (q : List ℕ) → Apart q names → get (restored old lost names) q ≡ get lost q
unfolding restored
restored_other old lost [] q apart = refl
restored_other old lost (name ∷ names) q apart =
    with_file_other (restored old lost names) name (get old name) q apart.0 ∙ restored_other old lost names q apart.1

restored_each : (facts : Facts) (lost : Files) (names : List (List ℕ)) (q : List ℕ) → SyncsBeginnings facts → (Apart q names → LeavesName facts lost q) → LeavesName facts (restored facts.files lost names) q
unfolding restored
restored_each facts lost [] q sound each = each tt
restored_each facts lost (name ∷ names) q sound each = elim (same_or_not q name) [
  | inl is ↦
      let all = restored facts.files lost (name ∷ names) in
      left_whole facts all q (ap (λ (n : List ℕ). get all n) is ∙ with_file_same (restored facts.files lost names) name (get facts.files name) ∙ ap (λ (n : List ℕ). get facts.files n) (sym is)) (sound q)
  | inr apart ↦
      left_like facts (restored facts.files lost names) (restored facts.files lost (name ∷ names)) q (with_file_other (restored facts.files lost names) name (get facts.files name) q apart)
      (restored_each facts lost names q sound (λ others. each (apart, others)))
]

-- But for files of these names it is what a loss left before.
pub left_before : (facts : Facts) (lost : Files) (names : List (List ℕ)) → SyncsBeginnings facts → ((q : List ℕ) → Apart q names → LeavesName facts lost q)
    → (before : Files) × Lost facts (moment facts) before × ((q : List ℕ) → Apart q names → get lost q ≡ get before q)
left_before facts lost names sound each =
    let all = restored facts.files lost names in
    (all, lost_each facts all (λ q. restored_each facts lost names q sound (each q)), λ q apart. sym (restored_other facts.files lost names q apart))

-- ---- one call after the other

pub by_itself : (facts : Facts) (changes : Files → Files → Type 0) → ((files : Files) → changes files files) → LosesBy facts facts changes
by_itself facts changes none lost since = (lost, since, none lost)

pub by_so : (old new : Facts) (first second : Files → Files → Type 0) → ((before lost : Files) → first before lost → second before lost) → LosesBy old new first → LosesBy old new second
by_so old new first second so h lost since = let l = h lost since in (l.0, l.1, so l.0 lost l.2)

pub by_both : (a b c : Facts) (some more : List Call) (first second both : Files → Files → Type 0) → b.calls ≡ a.calls ++ some → c.calls ≡ b.calls ++ more → LosesBy a b first → LosesBy b c second
    → ((x y : Files) → first x y → both x y) → ((x y z : Files) → first x y → second y z → both x z) → LosesBy a c both
by_both a b c some more first second both calls goes h k one two =
    let le : moment b ≡ moment a + length some = ap length calls ∙ length-append a.calls some in
    let P : Files → Type 0 = λ lost. (before : Files) × Lost a (moment a) before × both before lost in
    loses_both a b c more P goes (by_so a b first both one h) (λ lost since.
    let last = k lost since in
    let early = h last.0 (lost_earlier b (moment a) (moment b) last.0 (omega (arith, le)) last.1) in
    (early.0, early.1, two early.0 last.0 lost early.2 last.2))
