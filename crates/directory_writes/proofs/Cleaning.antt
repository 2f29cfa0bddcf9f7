-- The removal of obsolete files.
use Rattle.std.proofs.Common.{◌≡◌, ◌≢◌, ◌⊎◌, ◌↔◌, ℕ, ◌+◌, ◌<◌, ◌&&◌, Bool, true, false, not, cond, List, [], ◌∷◌, ◌++◌, map, take, get_or, length, string_bytes, String, Option, Some, None, is_some, IsSome, Result, Ok, Err, IsTrue, MatchBool, inl, inr, refl, sym, ap, subst, ◌∙◌, arith}
use Rattle.std.proofs.Math.Bool.{beq}
use Rattle.std.specs.Option.{option_or}
use Rattle.std.specs.Prelude.{Contains}
use Rattle.std.specs.Result.{is_ok}
use Rattle.std.specs.Cmp.{tied_itself}
use Rattle.std.specs.Cmp.Lexicographic.{slice_cmp, nat_list_cmp_total}
use Rattle.std.specs.Ordering.{is_eq, nat_cmp, eq_by_cmp}
use Rattle.std.specs.FinMap.{get, remove, contains_key, get-remove}
use Rattle.std.specs.declared.alloc.Global.{Global}
use Rattle.std.proofs.lemmas.List.{take_more, map-append}
use Rattle.std.proofs.lemmas.List.Elements.{Contains-append_left, Contains-push, Contains-push_cases}
use Rattle.coding.specs.declared.error.DbError.{DbError}
use Rattle.store.specs.Files.{Files, Facts, Synced, Lists, Removes as StoreRemoves, with_synced}
use Rattle.store.specs.Calls.{Counts, ChangesSynced, Changes}
use Rattle.store.specs.declared.error.StoreError.{StoreError}
use Rattle.store.specs.declared.error.StoreError.TheVariants as store_error
use Rattle.edits.specs.Names.{name_of, IsFileName, IsNumbered}
use Rattle.edits.specs.declared.names.FileName.{FileName}
use Rattle.edits.specs.declared.names.FileName.TheVariants.{Current, Lock, Log, Manifest, Table, OldTable, Temporary}
use Rattle.edits.proofs.FileNames.{one_file}
use Rattle.versions.specs.declared.live.LiveNumbers.{LiveNumbers}
use Rattle.recover.proofs.NameScan.{name_listed, name_there, first_in, in_cons, in_none}
use Rattle.recover.proofs.NamedFiles.{same_name}
use Rattle.directory_writes.specs.internal.Calls.{Touches, LeavesFile}
use Rattle.recover.specs.Tables.{table_at}
use Rattle.directory_writes.specs.internal.Removal.{AreBoth, AreOlder, AreToClose, HasOtherTurn, HasTwo, IsLeft, IsListed, KeepsTable, ListsToClose, MayLose, RemovesNamed, RemovesDead, newer_number, older_number, table_number}
use Rattle.directory_writes.specs.Removal.{HasBoth, IsDead, IsLiveAmong, IsLiveFile}
use Rattle.directory_writes.specs.declared.removal.Removal.{Removal}

-- ---- one file

leaves : (old new : Facts) (name : List ℕ) → new.files ≡ old.files → new.synced ≡ old.synced → LeavesFile old new name
leaves old new name files synced = (ap (λ (fs : Files). get fs name) files, ap (λ (s : Synced). s name) synced)

leaves_both : (old mid new : Facts) (name : List ℕ) → LeavesFile old mid name → LeavesFile mid new name → LeavesFile old new name
leaves_both old mid new name a b = (b.0 ∙ a.0, b.1 ∙ a.1)

removed_at : (b : Bool) (files : Files) (s : Synced) (name q : List ℕ) → eq_by_cmp (slice_cmp nat_cmp) q name ≡ b
    → ((q ≡ name) × (cond b None (get files q) ≡ None)) ⊎ ((cond b None (get files q) ≡ get files q) × (cond b None (s q) ≡ s q))
removed_at true files s name q is = inl (same_name q name is, refl)
removed_at false files s name q is = inr (refl, refl)

-- it is gone, and all others stay
pub removed : (files : Files) (s : Synced) (name q : List ℕ) → ((q ≡ name) × (get (remove files name) q ≡ None)) ⊎ ((get (remove files name) q ≡ get files q) × (with_synced s name None q ≡ s q))
removed files s name q = elim (removed_at (eq_by_cmp (slice_cmp nat_cmp) q name) files s name q refl) [
  | inl gone ↦ inl (gone.0, get-remove nat_list_cmp_total files name q ∙ gone.1)
  | inr stays ↦ inr (get-remove nat_list_cmp_total files name q ∙ stays.0, stays.1)
]

gone_from : (files : Files) (name : List ℕ) → get (remove files name) name ≡ None
gone_from files name = get-remove nat_list_cmp_total files name name ∙ ap (λ (b : Bool). cond b None (get files name)) (ap is_eq (tied_itself nat_list_cmp_total name))

module _ (old new : Facts) (live : FileName → Type 0) (name : List ℕ) where
  dead_or_same : IsDead live name → (new.files ≡ remove old.files name) → (new.synced ≡ with_synced old.synced name None) → (q : List ℕ) → LeavesFile old new q ⊎ (IsDead live q × (get new.files q ≡ None))
  dead_or_same dead files synced q = elim (removed old.files old.synced name q) [
    | inl gone ↦ let P : List ℕ → Type 0 = λ n. IsDead live n in inr (subst P (sym gone.0) dead, ap (λ (fs : Files). get fs q) files ∙ gone.1)
    | inr stays ↦ inl (ap (λ (fs : Files). get fs q) files ∙ stays.0, ap (λ (s : Synced). s q) synced ∙ stays.1)
  ]

  named_here : (file : FileName) → Contains (name ∷ []) (name_of file) → name ≡ name_of file
  named_here file i = elim (in_cons name [] (name_of file) i) [
    | inl same ↦ same
    | inr later ↦ absurd (in_none (name_of file) later)
  ]

  -- the store was asked to remove it, and it is obsolete
  pub asked : (r : Result (Unit {0}) StoreError) → IsDead live name → Counts old new r
      → Changes old new r (λ o n. StoreRemoves o n name) (λ o n. (n ≡ o) ⊎ StoreRemoves o n name)
      → ChangesSynced old new r (λ s. with_synced s name None) (λ o n. StoreRemoves o n name)
      → r ≢ Err store_error.Missing → r ≢ Err store_error.Memory → RemovesNamed old new live (name ∷ []) (is_ok r)
  asked (Ok x) dead counts files synced missing memory = record {
    files = λ f q. dead_or_same dead (files.ok f).1 (synced.ok f) q;
    all = λ f whole file is i. inr (ap (get new.files) (sym (named_here file i)) ∙ ap (λ (fs : Files). get fs name) (files.ok f).1 ∙ gone_from old.files name);
    unfailed = λ still. refl;
    stood = λ whole. counts.unfailed (λ e. cc);
  }
  asked (Err store_error.Missing) dead counts files synced missing memory = absurd (missing refl)
  asked (Err store_error.Memory) dead counts files synced missing memory = absurd (memory refl)
  asked (Err store_error.Device) dead counts files synced missing memory = record {
    files = λ f q. elim (synced.device f refl) [
      | inl same ↦ inl (leaves old new q same.0 same.1)
      | inr done ↦ dead_or_same dead done.0.1 done.1 q
    ];
    all = λ f whole. absurd (let clash : false ≡ true = whole in cc);
    unfailed = λ still. (let rise : old.failures < new.failures = counts.device refl in absurd (omega (arith, rise, still)));
    stood = λ whole. absurd (let clash : false ≡ true = whole in cc);
  }

module _ (facts : Facts) (live : FileName → Type 0) (name : List ℕ) where
  same_all : (q : List ℕ) → LeavesFile facts facts q ⊎ (IsDead live q × (get facts.files q ≡ None))
  same_all q = inl (refl, refl)

  pub live_stays : (file : FileName) → IsFileName file → name ≡ name_of file → live file → RemovesNamed facts facts live (name ∷ []) true
  live_stays file is e alive = record {
    files = λ f. same_all;
    all = λ f whole other num i. inl (subst live (one_file file other is num (sym e ∙ named_here facts facts live name other i)) alive);
    unfailed = λ still. refl;
    stood = λ whole. refl;
  }

-- ---- one name after another

pub removes_none : (facts : Facts) (live : FileName → Type 0) → RemovesNamed facts facts live [] true
removes_none facts live = record {
  files = λ f q. inl (refl, refl);
  all = λ f whole file is i. absurd (in_none (name_of file) i);
  unfailed = λ still. refl;
  stood = λ whole. refl;
}

both_true : (a b : Bool) → (a && b) ≡ true → (a ≡ true) × (b ≡ true)
both_true true b e = (refl, e)
both_true false b e = absurd (let clash : false ≡ true = e in cc)

are_both : (a b : Bool) → a ≡ true → b ≡ true → (a && b) ≡ true
are_both true b e h = h
are_both false b e h = absurd (let clash : false ≡ true = e in cc)

pub gone_later : (mid new : Facts) (live : FileName → Type 0) (q : List ℕ) → LeavesFile mid new q ⊎ (IsDead live q × (get new.files q ≡ None)) → get mid.files q ≡ None → get new.files q ≡ None
gone_later mid new live q (inl same) gone = same.0 ∙ gone
gone_later mid new live q (inr dead) gone = dead.1

module _ (old mid new : Facts) (live : FileName → Type 0) (before : Touches old mid) (behind : Touches mid new) where
  pub removes_more : (names : List (List ℕ)) (name : List ℕ) (a b : Bool) → RemovesNamed old mid live names a → RemovesNamed mid new live (name ∷ []) b → RemovesNamed old new live (names ++ name ∷ []) (a && b)
  removes_more names name a b first next = record {
    files = λ f q. elim (first.files (behind.faithful f) q) [
      | inl same ↦ elim (next.files f q) [
        | inl still ↦ inl (leaves_both old mid new q same still)
        | inr dead ↦ inr dead
      ]
      | inr dead ↦ inr (dead.0, gone_later mid new live q (next.files f q) dead.1)
    ];
    all = λ f whole file is i.
        elim (Contains-push_cases names name (name_of file) i) [
          | inl earlier ↦ elim (first.all (behind.faithful f) (both_true a b whole).0 file is earlier) [
            | inl alive ↦ inl alive
            | inr gone ↦ inr (gone_later mid new live (name_of file) (next.files f (name_of file)) gone)
          ]
          | inr here ↦ let P : List ℕ → Type 0 = λ n. Contains (name ∷ []) n in next.all f (both_true a b whole).1 file is (subst P here (first_in name []))
        ];
    unfailed = λ still.
        let early : mid.failures ≡ old.failures = omega (arith, before.failures, behind.failures, still) in
        let late : new.failures ≡ mid.failures = omega (arith, before.failures, behind.failures, still) in
        are_both a b (first.unfailed early) (next.unfailed late);
    stood = λ whole. let both = both_true a b whole in next.stood both.1 ∙ first.stood both.0;
  }

-- ---- the turns

module _ (live : FileName → Type 0) (has_older : ℕ → Type 0) where
  -- the test of a turn
  pub other_turn : (last two : Bool) (file : FileName) → MatchBool two (HasTwo has_older file) (HasTwo has_older file → ⊥) → not (beq two last) ≡ true → HasOtherTurn has_older last file
  other_turn true true file has apart = absurd (let clash : false ≡ true = apart in cc)
  other_turn true false file has apart = has
  other_turn false true file has apart = has
  other_turn false false file has apart = absurd (let clash : false ≡ true = apart in cc)

  pub this_turn : (last two : Bool) (file : FileName) → MatchBool two (HasTwo has_older file) (HasTwo has_older file → ⊥) → not (beq two last) ≡ false → HasOtherTurn has_older last file → ⊥
  this_turn true true file has same other = other has
  this_turn true false file has same other = absurd (let clash : true ≡ false = same in cc)
  this_turn false true file has same other = absurd (let clash : true ≡ false = same in cc)
  this_turn false false file has same other = has other

  -- what isn't left is obsolete
  dead_of : (last : Bool) (q : List ℕ) → IsDead (IsLeft live has_older last) q → IsDead live q
  dead_of last q dead = (dead.0, dead.1, dead.2, λ alive. dead.3 (inl alive))

  gone_of : (old new : Facts) (last : Bool) (q : List ℕ) → LeavesFile old new q ⊎ (IsDead (IsLeft live has_older last) q × (get new.files q ≡ None)) → LeavesFile old new q ⊎ (IsDead live q × (get new.files q ≡ None))
  gone_of old new last q (inl same) = inl same
  gone_of old new last q (inr dead) = inr (dead_of last q dead.0, dead.1)

  pub first_turn : (old new : Facts) (names : List (List ℕ)) (c : Bool) → c ≡ false → RemovesNamed old new (IsLeft live has_older false) names c → RemovesNamed old new live names false
  first_turn old new names c failed r = record {
    files = λ f q. gone_of old new false q (r.files f q);
    all = λ f whole. absurd (let clash : false ≡ true = whole in cc);
    unfailed = λ still. sym failed ∙ r.unfailed still;
    stood = λ whole. absurd (let clash : false ≡ true = whole in cc);
  }

  module _ (old mid new : Facts) (names : List (List ℕ)) (before : Touches old mid) (behind : Touches mid new) (a b : Bool) (whole : a ≡ true)
      (first : RemovesNamed old mid (IsLeft live has_older false) names a) (next : RemovesNamed mid new (IsLeft live has_older true) names b) where
    pub after_both : IsTrue new.faithful → (q : List ℕ) → LeavesFile old new q ⊎ (IsDead live q × (get new.files q ≡ None))
    after_both f q = elim (first.files (behind.faithful f) q) [
      | inl same ↦ elim (gone_of mid new true q (next.files f q)) [
        | inl still ↦ inl (leaves_both old mid new q same still)
        | inr dead ↦ inr dead
      ]
      | inr dead ↦ inr (dead_of false q dead.0, gone_later mid new (IsLeft live has_older true) q (next.files f q) dead.1)
    ]

    pub both_turns : RemovesNamed old new live names b
    both_turns = record {
      files = after_both;
      all = λ f done file is i. elim (first.all (behind.faithful f) whole file is i) [
        | inl stays ↦ elim stays [
          | inl alive ↦ inl alive
          | inr two ↦ elim (next.all f done file is i) [
            | inl later ↦ elim later [
              | inl alive ↦ inl alive
              | inr single ↦ absurd (single two)
            ]
            | inr gone ↦ inr gone
          ]
        ]
        | inr gone ↦ inr (gone_later mid new (IsLeft live has_older true) (name_of file) (next.files f (name_of file)) gone)
      ];
      unfailed = λ still. next.unfailed (omega (arith, before.failures, behind.failures, still));
      stood = λ done. next.stood done ∙ first.stood whole;
    }

-- ---- what becomes of a table

either_alone : (newer older first second : Option (List ℕ)) → first ≡ newer → second ≡ None → (option_or first second ≡ option_or newer older) ⊎ (option_or first second ≡ None)
either_alone (Some bytes) older first second same none = inl (ap (λ (o : Option (List ℕ)). option_or o second) same)
either_alone None older first second same none = inr (λ i. option_or (same i) (none i))

pub read_newer : (newer older first second : Option (List ℕ)) → first ≡ newer → is_some newer ≡ true → option_or first second ≡ option_or newer older
read_newer (Some bytes) older first second same there = ap (λ (o : Option (List ℕ)). option_or o second) same
read_newer None older first second same there = absurd (let clash : false ≡ true = there in cc)

-- a file is as before, or may go and is gone
abbrev pub SameOrGone : Facts → Facts → Type 0 → List ℕ → Type 0
SameOrGone old new may name = (get new.files name ≡ get old.files name) ⊎ (may × (get new.files name ≡ None))

by_files : (in_use : ℕ → Type 0) (old new : Facts) (n : ℕ)
    → (get new.files (name_of (Table n)) ≡ get old.files (name_of (Table n))) ⊎ ((in_use n → ⊥) × (get new.files (name_of (Table n)) ≡ None) × (get new.files (name_of (OldTable n)) ≡ None))
    → SameOrGone old new (MayLose old.files in_use n) (name_of (OldTable n)) → KeepsTable old new in_use n
by_files in_use old new n (inl newer) (inl older) = inl (newer, older)
by_files in_use old new n (inl newer) (inr older) = elim older.0 [
  | inl unused ↦
      inr (inl (unused, either_alone (get old.files (name_of (Table n))) (get old.files (name_of (OldTable n))) (get new.files (name_of (Table n))) (get new.files (name_of (OldTable n))) newer older.1))
  | inr both ↦
      inr (inr (both, newer, read_newer (get old.files (name_of (Table n))) (get old.files (name_of (OldTable n))) (get new.files (name_of (Table n))) (get new.files (name_of (OldTable n))) newer both.0))
]
by_files in_use old new n (inr gone) older = inr (inl (gone.0, inr (λ i. option_or (gone.1 i) (gone.2 i))))

named_dead : (live : FileName → Type 0) (file : FileName) → IsFileName file → IsDead live (name_of file) → live file → ⊥
named_dead live file is dead alive = dead.3 (subst live (one_file file dead.0 is dead.1 dead.2) alive)

missing : (o : Option (List ℕ)) → (is_some o ≡ true → ⊥) → o ≡ None
missing None h = refl
missing (Some bytes) h = absurd (h refl)

-- these are the numbers of the tables that have a file under both names
abbrev pub Knows : Files → List ℕ → Type 0
Knows files both = (n : ℕ) → IsNumbered n → Contains both n ↔ HasBoth files n

module _ (numbers : LiveNumbers) (in_use : ℕ → Type 0) (names : List (List ℕ)) (both : List ℕ) (n : ℕ) (num : IsNumbered n) where
  abbrev lives : FileName → Type 0
  lives = IsLiveFile numbers in_use (λ k. Contains both k)

  abbrev has : ℕ → Type 0
  has k = Contains both k

  older_state : (old new : Facts) → Knows old.files both → LeavesFile old new (name_of (OldTable n)) ⊎ (IsDead lives (name_of (OldTable n)) × (get new.files (name_of (OldTable n)) ≡ None))
      → SameOrGone old new (MayLose old.files in_use n) (name_of (OldTable n))
  older_state old new knows (inl same) = inl same.0
  older_state old new knows (inr dead) = by (contains_key old.files (name_of (OldTable n))) (contains_key old.files (name_of (Table n))) refl refl
    where
      by : (t s : Bool) → contains_key old.files (name_of (OldTable n)) ≡ t → contains_key old.files (name_of (Table n)) ≡ s → SameOrGone old new (MayLose old.files in_use n) (name_of (OldTable n))
      by false s absent is = inl (dead.1 ∙ sym (missing (get old.files (name_of (OldTable n))) (λ there. let clash : true ≡ false = sym there ∙ absent in cc)))
      by true true there newer = inr (inr (newer, there), dead.1)
      by true false there single = inr (inl (λ used. named_dead lives (OldTable n) num dead.0 (used, λ i. let clash : true ≡ false = sym ((knows n num).0 i).0 ∙ single in cc)), dead.1)

  pub table_first : (old new : Facts) (c : Bool) → RemovesNamed old new (IsLeft lives has false) names c → Knows old.files both → IsTrue new.faithful → KeepsTable old new in_use n
  table_first old new c r knows f =
      by_files in_use old new n
      (elim (r.files f (name_of (Table n))) [
        | inl same ↦ inl same.0
        | inr dead ↦ by (named_dead (IsLeft lives has false) (Table n) num dead.0) dead.1 (contains_key old.files (name_of (Table n))) refl
      ])
      (older_state old new knows (gone_of lives has old new false (name_of (OldTable n)) (r.files f (name_of (OldTable n)))))
    where
      by : (IsLeft lives has false (Table n) → ⊥) → get new.files (name_of (Table n)) ≡ None → (s : Bool) → contains_key old.files (name_of (Table n)) ≡ s
          → (get new.files (name_of (Table n)) ≡ get old.files (name_of (Table n))) ⊎ ((in_use n → ⊥) × (get new.files (name_of (Table n)) ≡ None) × (get new.files (name_of (OldTable n)) ≡ None))
      by out gone false absent = inl (gone ∙ sym (missing (get old.files (name_of (Table n))) (λ there. let clash : true ≡ false = sym there ∙ absent in cc)))
      by out gone true newer =
          let absent : get old.files (name_of (OldTable n)) ≡ None = missing (get old.files (name_of (OldTable n))) (λ there. out (inr ((knows n num).1 (newer, there)))) in
          inr (λ used. out (inl used), gone, gone_later old new (IsLeft lives has false) (name_of (OldTable n)) (r.files f (name_of (OldTable n))) absent)

  module _ (old mid new : Facts) (behind : Touches mid new) (a b : Bool) (whole : a ≡ true) (first : RemovesNamed old mid (IsLeft lives has false) names a) (next : RemovesNamed mid new (IsLeft lives has true) names b)
      (after : IsTrue new.faithful → (q : List ℕ) → LeavesFile old new q ⊎ (IsDead lives q × (get new.files q ≡ None))) (knows : Knows old.files both) (lists : Lists old.files names) (f : IsTrue new.faithful) where
    older_gone : (in_use n → ⊥) → get new.files (name_of (OldTable n)) ≡ None
    older_gone unused = gone_later mid new (IsLeft lives has true) (name_of (OldTable n)) (next.files f (name_of (OldTable n))) (by (contains_key old.files (name_of (OldTable n))) refl)
      where
        by : (t : Bool) → contains_key old.files (name_of (OldTable n)) ≡ t → get mid.files (name_of (OldTable n)) ≡ None
        by true there = elim (first.all (behind.faithful f) whole (OldTable n) num (name_listed old.files names (name_of (OldTable n)) lists there)) [
          | inl left ↦ elim left [
            | inl used ↦ absurd (unused used.0)
            | inr two ↦ absurd two
          ]
          | inr gone ↦ gone
        ]
        by false absent =
            gone_later old mid (IsLeft lives has false) (name_of (OldTable n)) (first.files (behind.faithful f) (name_of (OldTable n)))
            (missing (get old.files (name_of (OldTable n))) (λ there. let clash : true ≡ false = sym there ∙ absent in cc))

    pub table_both : KeepsTable old new in_use n
    table_both =
        by_files in_use old new n
        (elim (after f (name_of (Table n))) [
          | inl same ↦ inl same.0
          | inr dead ↦ (let unused : in_use n → ⊥ = named_dead lives (Table n) num dead.0 in inr (unused, dead.1, older_gone unused))
        ])
        (older_state old new knows (after f (name_of (OldTable n))))

pub table_from : (in_use : ℕ → Type 0) (old mid new : Facts) (n : ℕ) → mid.files ≡ old.files → KeepsTable mid new in_use n → KeepsTable old new in_use n
table_from in_use old mid new n files (inl kept) =
    inl (kept.0 ∙ ap (λ (fs : Files). get fs (name_of (Table n))) files, kept.1 ∙ ap (λ (fs : Files). get fs (name_of (OldTable n))) files)
table_from in_use old mid new n files (inr (inl gone)) = inr (inl (
  gone.0,
  elim gone.1 [
    | inl same ↦ inl (same ∙ ap (λ (fs : Files). table_at fs n) files)
    | inr none ↦ inr none
  ],
))
table_from in_use old mid new n files (inr (inr two)) =
    inr (inr (subst (λ (fs : Files). HasBoth fs n) files two.0, two.1 ∙ ap (λ (fs : Files). get fs (name_of (Table n))) files, two.2 ∙ ap (λ (fs : Files). table_at fs n) files))

pub table_kept : (in_use : ℕ → Type 0) (old new : Facts) (n : ℕ) → new.files ≡ old.files → KeepsTable old new in_use n
table_kept in_use old new n files = inl (ap (λ (fs : Files). get fs (name_of (Table n))) files, ap (λ (fs : Files). get fs (name_of (OldTable n))) files)

-- ---- what is live, by the numbers and by the files

module _ (numbers : LiveNumbers) (in_use : ℕ → Type 0) (files : Files) (both : List ℕ) (knows : Knows files both) where
  pub same_live : (file : FileName) → IsFileName file → IsLiveFile numbers in_use (λ n. Contains both n) file ↔ IsLiveAmong files numbers in_use file
  same_live (OldTable n) is = (λ alive. (alive.0, λ has. alive.1 ((knows n is).1 has)), λ alive. (alive.0, λ i. alive.1 ((knows n is).0 i)))
  same_live (Table n) is = (λ alive. alive, λ alive. alive)
  same_live Current is = (λ alive. alive, λ alive. alive)
  same_live Lock is = (λ alive. alive, λ alive. alive)
  same_live (Log n) is = (λ alive. alive, λ alive. alive)
  same_live (Manifest n) is = (λ alive. alive, λ alive. alive)
  same_live (Temporary n) is = (λ alive. alive, λ alive. alive)

module _ (old new : Facts) (live other : FileName → Type 0) (same : IsTrue new.faithful → (file : FileName) → IsFileName file → live file ↔ other file) where
  pub removes_as : (removal : Removal) → RemovesDead old new live (Ok removal) → RemovesDead old new other (Ok removal)
  removes_as removal r = record {
    files = λ f q. elim (r.files f q) [
      | inl stays ↦ inl stays
      | inr dead ↦ inr ((dead.0.0, dead.0.1, dead.0.2, λ alive. dead.0.3 ((same f dead.0.0 dead.0.1).1 alive)), dead.1)
    ];
    all = λ f whole file is there. (same f file is).0 (r.all f whole file is there);
    unfailed = r.unfailed;
    stood = r.stood;
    err = r.err;
  }

pub knows_both : (files : Files) (names : List (List ℕ)) (older both : List ℕ) → Lists files names → AreOlder names older → AreBoth older names both → Knows files both
knows_both files names older both lists are has n num = (
  λ i. let one = (has n num).0 i in (name_there files names (name_of (Table n)) lists one.0, name_there files names (name_of (OldTable n)) lists ((are n num).0 one.1)),
  λ there. (has n num).1 (name_listed files names (name_of (Table n)) lists there.0, (are n num).1 (name_listed files names (name_of (OldTable n)) lists there.1)),
)

-- ---- the numbers of tables

older_of : (file : FileName) (n : ℕ) → older_number file ≡ Some n → file ≡ OldTable n
older_of (OldTable m) n e = let same : m ≡ n = cc in ap OldTable same
older_of Current n e = cc
older_of Lock n e = cc
older_of (Log m) n e = cc
older_of (Table m) n e = cc
older_of (Manifest m) n e = cc
older_of (Temporary m) n e = cc

pub no_numbers : AreOlder [] []
no_numbers n num = (λ i. absurd (in_none n i), λ i. absurd (in_none (name_of (OldTable n)) i))

pub other_name : (names : List (List ℕ)) (name : List ℕ) (numbers : List ℕ) → ((n : ℕ) → IsNumbered n → name ≡ name_of (OldTable n) → ⊥) → AreOlder names numbers → AreOlder (names ++ name ∷ []) numbers
other_name names name numbers other h n num = (
  λ i. Contains-append_left names (name ∷ []) (name_of (OldTable n)) ((h n num).0 i),
  λ i. elim (Contains-push_cases names name (name_of (OldTable n)) i) [
    | inl old ↦ (h n num).1 old
    | inr same ↦ absurd (other n num same)
  ],
)

pub no_older : (name : List ℕ) (file : FileName) → IsFileName file → name ≡ name_of file → older_number file ≡ None → (n : ℕ) → IsNumbered n → name ≡ name_of (OldTable n) → ⊥
no_older name file is e none n num same =
    let table : file ≡ OldTable n = one_file file (OldTable n) is num (sym e ∙ same) in
    let clash : None ≡ Some n = sym none ∙ ap older_number table in
    cc

pub older_name : (names : List (List ℕ)) (name : List ℕ) (numbers : List ℕ) (file : FileName) (m : ℕ) → IsFileName file → name ≡ name_of file → older_number file ≡ Some m
    → AreOlder names numbers → AreOlder (names ++ name ∷ []) (numbers ++ m ∷ [])
older_name names name numbers file m is e said h n num =
    let table : file ≡ OldTable m = older_of file m said in
    let here : name ≡ name_of (OldTable m) = e ∙ ap name_of table in
    let P : ℕ → Type 0 = λ k. Contains (names ++ name ∷ []) (name_of (OldTable k)) in
    let Q : List ℕ → Type 0 = λ q. Contains (names ++ name ∷ []) q in
    let R : ℕ → Type 0 = λ k. Contains (numbers ++ m ∷ []) k in
    let S : FileName → Type 0 = IsFileName in (
      λ i. elim (Contains-push_cases numbers m n i) [
        | inl old ↦ Contains-append_left names (name ∷ []) (name_of (OldTable n)) ((h n num).0 old)
        | inr same ↦ subst P same (subst Q here (Contains-push names name))
      ],
      λ i. elim (Contains-push_cases names name (name_of (OldTable n)) i) [
        | inl old ↦ Contains-append_left numbers (m ∷ []) n ((h n num).1 old)
        | inr same ↦
            let both : OldTable m ≡ OldTable n = one_file (OldTable m) (OldTable n) (subst S table is) num (sym here ∙ same) in
            let k : m ≡ n = cc in
            subst R k (Contains-push numbers m)
      ],
    )

-- ---- those that have both names

newer_of : (file : FileName) (n : ℕ) → newer_number file ≡ Some n → file ≡ Table n
newer_of (Table m) n e = let same : m ≡ n = cc in ap Table same
newer_of Current n e = cc
newer_of Lock n e = cc
newer_of (Log m) n e = cc
newer_of (OldTable m) n e = cc
newer_of (Manifest m) n e = cc
newer_of (Temporary m) n e = cc

pub none_both : (older : List ℕ) → AreBoth older [] []
none_both older n num = (λ i. absurd (in_none n i), λ has. absurd (in_none (name_of (Table n)) has.0))

-- a name that is none of such a table changes nothing
pub both_same : (older : List ℕ) (names : List (List ℕ)) (name : List ℕ) (numbers : List ℕ) → ((n : ℕ) → IsNumbered n → name ≡ name_of (Table n) → Contains older n → ⊥)
    → AreBoth older names numbers → AreBoth older (names ++ name ∷ []) numbers
both_same older names name numbers other h n num = (
  λ i. let one = (h n num).0 i in (Contains-append_left names (name ∷ []) (name_of (Table n)) one.0, one.1),
  λ has. elim (Contains-push_cases names name (name_of (Table n)) has.0) [
    | inl before ↦ (h n num).1 (before, has.1)
    | inr same ↦ absurd (other n num same has.1)
  ],
)

named_newer : (name : List ℕ) (file : FileName) → IsFileName file → name ≡ name_of file → (n : ℕ) → IsNumbered n → name ≡ name_of (Table n) → newer_number file ≡ Some n
named_newer name file is e n num same = ap newer_number (one_file file (Table n) is num (sym e ∙ same))

pub no_newer : (older : List ℕ) (name : List ℕ) (file : FileName) → IsFileName file → name ≡ name_of file → newer_number file ≡ None → (n : ℕ) → IsNumbered n → name ≡ name_of (Table n) → Contains older n → ⊥
no_newer older name file is e none n num same i = (let clash : None ≡ Some n = sym none ∙ named_newer name file is e n num same in cc)

pub single_newer : (older : List ℕ) (name : List ℕ) (file : FileName) (m : ℕ) → IsFileName file → name ≡ name_of file → newer_number file ≡ Some m → (Contains older m → ⊥)
    → (n : ℕ) → IsNumbered n → name ≡ name_of (Table n) → Contains older n → ⊥
single_newer older name file m is e said single n num same i =
    let two : Some m ≡ Some n = sym said ∙ named_newer name file is e n num same in
    let one : m ≡ n = cc in
    single (subst (λ (k : ℕ). Contains older k) (sym one) i)

pub both_more : (older : List ℕ) (names : List (List ℕ)) (name : List ℕ) (numbers : List ℕ) (file : FileName) (m : ℕ) → IsFileName file → name ≡ name_of file → newer_number file ≡ Some m → Contains older m
    → AreBoth older names numbers → AreBoth older (names ++ name ∷ []) (numbers ++ m ∷ [])
both_more older names name numbers file m is e said has_older h n num =
    let table : file ≡ Table m = newer_of file m said in
    let here : name ≡ name_of (Table m) = e ∙ ap name_of table in
    let P : ℕ → Type 0 = λ k. Contains (names ++ name ∷ []) (name_of (Table k)) × Contains older k in
    let Q : List ℕ → Type 0 = λ q. Contains (names ++ name ∷ []) q in
    let R : ℕ → Type 0 = λ k. Contains (numbers ++ m ∷ []) k in (
      λ i. elim (Contains-push_cases numbers m n i) [
        | inl before ↦ let one = (h n num).0 before in (Contains-append_left names (name ∷ []) (name_of (Table n)) one.0, one.1)
        | inr same ↦ subst P same (subst Q here (Contains-push names name), has_older)
      ],
      λ has. elim (Contains-push_cases names name (name_of (Table n)) has.0) [
        | inl before ↦ Contains-append_left numbers (m ∷ []) n ((h n num).1 (before, has.1))
        | inr same ↦
            let two : Some m ≡ Some n = sym said ∙ named_newer name file is e n num same in
            let k : m ≡ n = cc in
            subst R k (Contains-push numbers m)
      ],
    )

-- ---- those to close

-- what is listed with one name more
listed_more : (names : List (List ℕ)) (name : List ℕ) (n : ℕ) → IsListed (names ++ name ∷ []) n → IsListed names n ⊎ ((name ≡ name_of (Table n)) ⊎ (name ≡ name_of (OldTable n)))
listed_more names name n (inl newer) = elim (Contains-push_cases names name (name_of (Table n)) newer) [
  | inl before ↦ inl (inl before)
  | inr same ↦ inr (inl same)
]
listed_more names name n (inr older) = elim (Contains-push_cases names name (name_of (OldTable n)) older) [
  | inl before ↦ inl (inr before)
  | inr same ↦ inr (inr same)
]

pub named_number : (name : List ℕ) (file : FileName) → IsFileName file → name ≡ name_of file → (n : ℕ) → IsNumbered n → (name ≡ name_of (Table n)) ⊎ (name ≡ name_of (OldTable n)) → table_number file ≡ Some n
named_number name file is e n num (inl same) = ap table_number (one_file file (Table n) is num (sym e ∙ same))
named_number name file is e n num (inr same) = ap table_number (one_file file (OldTable n) is num (sym e ∙ same))

module _ (in_use : ℕ → Type 0) (both : List ℕ) where
  pub none_to_close : AreToClose in_use both [] []
  none_to_close n num may listed = elim listed [
    | inl newer ↦ absurd (in_none (name_of (Table n)) newer)
    | inr older ↦ absurd (in_none (name_of (OldTable n)) older)
  ]

  -- a name of a table that stays open, or of none
  pub close_same : (names : List (List ℕ)) (name : List ℕ) (numbers : List ℕ) → ((n : ℕ) → IsNumbered n → (in_use n → ⊥) ⊎ Contains both n → (name ≡ name_of (Table n)) ⊎ (name ≡ name_of (OldTable n)) → ⊥)
      → AreToClose in_use both names numbers → AreToClose in_use both (names ++ name ∷ []) numbers
  close_same names name numbers other h n num may listed = elim (listed_more names name n listed) [
    | inl before ↦ h n num may before
    | inr here ↦ absurd (other n num may here)
  ]

  pub no_table : (name : List ℕ) (file : FileName) → IsFileName file → name ≡ name_of file → table_number file ≡ None
      → (n : ℕ) → IsNumbered n → (in_use n → ⊥) ⊎ Contains both n → (name ≡ name_of (Table n)) ⊎ (name ≡ name_of (OldTable n)) → ⊥
  no_table name file is e none n num may here = (let clash : None ≡ Some n = sym none ∙ named_number name file is e n num here in cc)

  pub open_table : (name : List ℕ) (file : FileName) (m : ℕ) → IsFileName file → name ≡ name_of file → table_number file ≡ Some m → in_use m × (Contains both m → ⊥)
      → (n : ℕ) → IsNumbered n → (in_use n → ⊥) ⊎ Contains both n → (name ≡ name_of (Table n)) ⊎ (name ≡ name_of (OldTable n)) → ⊥
  open_table name file m is e said stays n num may here =
      let two : Some m ≡ Some n = sym said ∙ named_number name file is e n num here in
      let same : m ≡ n = cc in
      elim may [
        | inl free ↦ free (subst in_use same stays.0)
        | inr has ↦ stays.1 (subst (λ (k : ℕ). Contains both k) (sym same) has)
      ]

  pub close_more : (names : List (List ℕ)) (name : List ℕ) (numbers : List ℕ) (file : FileName) (m : ℕ) → IsFileName file → name ≡ name_of file → table_number file ≡ Some m
      → AreToClose in_use both names numbers → AreToClose in_use both (names ++ name ∷ []) (numbers ++ m ∷ [])
  close_more names name numbers file m is e said h n num may listed = elim (listed_more names name n listed) [
    | inl before ↦ Contains-append_left numbers (m ∷ []) n (h n num may before)
    | inr here ↦
        let two : Some m ≡ Some n = sym said ∙ named_number name file is e n num here in
        let same : m ≡ n = cc in
        subst (λ (k : ℕ). Contains (numbers ++ m ∷ []) k) same (Contains-push numbers m)
  ]

some_of : (a b : Option (List ℕ)) → IsSome (option_or a b) → (is_some a ≡ true) ⊎ (is_some b ≡ true)
some_of (Some bytes) b is = inl refl
some_of None b is = inr is

pub lists_to_close : (in_use : ℕ → Type 0) (old mid new : Facts) (names : List (List ℕ)) (both numbers : List ℕ) → Touches mid new → (IsTrue mid.faithful → Lists old.files names) → (IsTrue mid.faithful → Knows old.files both)
    → AreToClose in_use both names numbers → ListsToClose old new in_use numbers
lists_to_close in_use old mid new names both numbers call lists knows h f n num may there =
    let listing = lists (call.faithful f) in
    h n num (elim may [
      | inl free ↦ inl free
      | inr has ↦ inr ((knows (call.faithful f) n num).1 has)
    ]) (elim (some_of (get old.files (name_of (Table n))) (get old.files (name_of (OldTable n))) there) [
      | inl newer ↦ inl (name_listed old.files names (name_of (Table n)) listing newer)
      | inr older ↦ inr (name_listed old.files names (name_of (OldTable n)) listing older)
    ])

-- ---- all names

there_still : (old new : Facts) (live : FileName → Type 0) (q : List ℕ) → LeavesFile old new q ⊎ (IsDead live q × (get new.files q ≡ None)) → contains_key new.files q ≡ true → contains_key old.files q ≡ true
there_still old new live q (inl same) there = ap is_some (sym same.0) ∙ there
there_still old new live q (inr dead) there = (let clash : false ≡ true = ap is_some (sym dead.1) ∙ there in absurd (cc))

module _ (live : FileName → Type 0) (old mid new : Facts) (names : List (List ℕ)) (removal : Removal) (lists : IsTrue mid.faithful → Lists old.files names)
    (files : IsTrue mid.faithful → mid.files ≡ old.files) (synced : IsTrue mid.faithful → mid.synced ≡ old.synced) (unfailed : mid.failures ≡ old.failures)
    (call : Touches mid new) (r : RemovesNamed mid new live names removal.complete) where
  from_old : IsTrue new.faithful → (q : List ℕ) → LeavesFile old new q ⊎ (IsDead live q × (get new.files q ≡ None))
  from_old f q = elim (r.files f q) [
    | inl still ↦ inl (leaves_both old mid new q (leaves old mid q (files (call.faithful f)) (synced (call.faithful f))) still)
    | inr dead ↦ inr dead
  ]

  pub removes_all : RemovesDead old new live (Ok removal)
  removes_all = record {
    files = from_old;
    all = λ f whole file is there.
        let before = there_still old new live (name_of file) (from_old f (name_of file)) there in
        elim (r.all f whole file is (name_listed old.files names (name_of file) (lists (call.faithful f)) before)) [
          | inl alive ↦ alive
          | inr gone ↦ (let clash : false ≡ true = ap is_some (sym gone) ∙ there in absurd (cc))
        ];
    unfailed = λ still. r.unfailed (still ∙ sym unfailed);
    stood = λ whole. r.stood whole ∙ unfailed;
    err = λ f. tt;
  }

pub removes_refused : (old new : Facts) (live : FileName → Type 0) (e : DbError) → (IsTrue new.faithful → new.files ≡ old.files) → (IsTrue new.faithful → new.synced ≡ old.synced) → RemovesDead old new live (Err e)
removes_refused old new live e files synced = record {
  files = λ f q. inl (leaves old new q (files f) (synced f));
  all = λ f. tt;
  unfailed = tt;
  stood = tt;
  err = λ f. (files f, synced f);
}

-- ---- a loop over names

pub names_more : (xs : List (String Global)) (i : ℕ) (x : String Global) (bytes : List ℕ) → i < length xs → x ≡ get_or xs i x → bytes ≡ string_bytes x
    → map string_bytes (take i xs) ++ bytes ∷ [] ≡ map string_bytes (take (i + 1) xs)
names_more xs i x bytes lt is e =
    ap (λ (b : List ℕ). map string_bytes (take i xs) ++ b ∷ []) (e ∙ ap string_bytes is) ∙ sym (ap (map string_bytes) (take_more xs i x lt) ∙ map-append string_bytes (take i xs) (get_or xs i x ∷ []))

-- What is there after a removal is live by what is there.
module _ (numbers : LiveNumbers) (in_use : ℕ → Type 0) (old new : Facts) (removal : Removal) (r : RemovesDead old new (IsLiveAmong old.files numbers in_use) (Ok removal)) (f : IsTrue new.faithful) where
  still : (q : List ℕ) → contains_key new.files q ≡ true → contains_key old.files q ≡ true
  still q = there_still old new (IsLiveAmong old.files numbers in_use) q (r.files f q)

  live_still : (file : FileName) → IsLiveAmong old.files numbers in_use file → IsLiveAmong new.files numbers in_use file
  live_still (OldTable n) alive = (alive.0, λ has. alive.1 (still (name_of (Table n)) has.0, still (name_of (OldTable n)) has.1))
  live_still (Table n) alive = alive
  live_still Current alive = alive
  live_still Lock alive = alive
  live_still (Log n) alive = alive
  live_still (Manifest n) alive = alive
  live_still (Temporary n) alive = alive

  pub all_live : IsTrue removal.complete → (file : FileName) → IsFileName file → contains_key new.files (name_of file) ≡ true → IsLiveAmong new.files numbers in_use file
  all_live whole file is there = live_still file (r.all f whole file is there)
