-- What a power loss leaves between the rename of a file and the sync after it: the names of before,
-- or those of now.
use Rattle.std.proofs.Common.{◌≤◌, ◌≡◌, ◌≢◌, inl, inr, ℕ, Bool, true, false, cond, List, [], ◌∷◌, length, take, drop, Option, Some, None, if◌then◌else◌, refl, sym, ap, subst, ◌∙◌, arith}
use Rattle.std.proofs.lemmas.List.{drop_all, take_all}
use Rattle.std.specs.Cmp.Lexicographic.{nat_list_cmp_total}
use Rattle.std.specs.FinMap.{get, remove, get-remove}
use Rattle.std.specs.Option.{option_map_or}
use Rattle.store.specs.Calls.{Adds}
use Rattle.store.specs.Files.{Call, Facts, Files, Move, Synced, disk_of, renamed, with_synced}
use Rattle.store.specs.Losses.{IsLost, IsLostSince, Lost, LosesOnly, behind_sync, disk_before, held_last, same_name as is_same}
use Rattle.store.specs.Stops.{moment}
use Rattle.store.proofs.Staying.{behind_more}
use Rattle.recover.proofs.NamedFiles.{get_other, get_same, same_name}
use Rattle.directory_writes.proofs.StoreCalls.{with_other}
use Rattle.opening.proofs.LosingEdits.{itself, same_or_not, with_same}

-- ---- names

not_same : (q name : List ℕ) → q ≢ name → is_same q name ≡ false
not_same q name apart = at (is_same q name) refl
  where
    at : (b : Bool) → is_same q name ≡ b → b ≡ false
    at true is = absurd (apart (same_name q name is))
    at false is = refl

pub gone_other : (files : Files) (name q : List ℕ) → q ≢ name → get (remove files name) q ≡ get files q
gone_other files name q apart =
    get-remove nat_list_cmp_total files name q ∙ ap (λ (b : Bool). cond b None (get files q)) (not_same q name apart)

-- a loss after a sync
now_lost : (facts : Facts) (lost : Files) → behind_sync [] facts.calls ≡ [] → IsLost facts.files [] (disk_of facts) lost → Lost facts (moment facts) lost
now_lost facts lost none h =
    let n = length facts.calls in
    let front : take n facts.calls ≡ facts.calls = take_all n facts.calls (omega arith) in
    let rest : drop n facts.calls ≡ [] = drop_all n facts.calls (omega arith) in
    let A : List Call → Type 0 = λ cs. IsLostSince cs (disk_of facts) lost in
    let B : List Call → Type 0 = λ cs. IsLostSince (behind_sync [] (take n facts.calls)) (disk_before cs (disk_of facts)) lost in
    (n, omega arith, omega arith, subst B (sym rest) (subst A (sym (ap (behind_sync []) front ∙ none)) h))

-- ---- what the file of each name held last

module _ (old new : Facts) (from to : List ℕ) (adds : Adds old new (Move from to)) (synced : new.synced ≡ renamed old.synced from to) where
  abbrev it : Call
  it = record { found = disk_of old; change = Move from to }

  abbrev Held : Type 0
  Held = Option (List ℕ) × Option (List ℕ)

  now_to : (get new.files to ≡ get old.files from) × (new.synced to ≡ old.synced from)
  now_to = (
    ap (λ (fs : Files). get fs to) adds.1.2 ∙ get_same (remove old.files from) to adds.1.0 ∙ sym adds.1.1,
    ap (λ (s : Synced). s to) synced ∙ with_same (with_synced old.synced from None) to (old.synced from),
  )

  now_other : (q : List ℕ) → q ≢ from → q ≢ to → (get new.files q ≡ get old.files q) × (new.synced q ≡ old.synced q)
  now_other q first second = (
    ap (λ (fs : Files). get fs q) adds.1.2 ∙ get_other (remove old.files from) to adds.1.0 q second ∙ gone_other old.files from q first,
    ap (λ (s : Synced). s q) synced ∙ with_other (with_synced old.synced from None) to q (old.synced from) second ∙ with_other old.synced from q None first,
  )

  -- what goes on under which name
  goes_to : (q : List ℕ) (o : Option (List ℕ)) → (if is_same q from then Some to else (if is_same q to then None else Some q)) ≡ o
      → held_last (it ∷ []) (disk_of new) q ≡ option_map_or (held_last [] (disk_of new)) o (get old.files q, old.synced q)
  goes_to q o is = ap (λ (p : Option (List ℕ)). option_map_or (held_last [] (disk_of new)) p (get old.files q, old.synced q)) is

  held_before : (q : List ℕ) → held_last (it ∷ []) (disk_of new) q ≡ (get old.files q, old.synced q)
  held_before q = elim (same_or_not q from) [
    | inl is ↦
        let there : (if is_same q from then Some to else (if is_same q to then None else Some q)) ≡ Some to =
        ap (λ (b : Bool). if b then Some to else (if is_same q to then None else Some q)) (ap (λ (n : List ℕ). is_same n from) is ∙ itself from) in
        let same : Held = (get new.files to, new.synced to) in
        goes_to q (Some to) there ∙ (λ i. (now_to.0 i, now_to.1 i)) ∙ ap (λ (n : List ℕ). (get old.files n, old.synced n)) (sym is)
    | inr first ↦ elim (same_or_not q to) [
      | inl is ↦
          let there : (if is_same q from then Some to else (if is_same q to then None else Some q)) ≡ None =
          ap (λ (b : Bool). if b then Some to else (if is_same q to then None else Some q)) (not_same q from first)
          ∙ ap (λ (b : Bool). if b then None else Some q) (ap (λ (n : List ℕ). is_same n to) is ∙ itself to) in
          goes_to q None there
      | inr second ↦
          let there : (if is_same q from then Some to else (if is_same q to then None else Some q)) ≡ Some q =
          ap (λ (b : Bool). if b then Some to else (if is_same q to then None else Some q)) (not_same q from first)
          ∙ ap (λ (b : Bool). if b then None else Some q) (not_same q to second) in
          goes_to q (Some q) there ∙ (λ i. ((now_other q first second).0 i, (now_other q first second).1 i))
    ]
  ]

  -- with the names of before, the loss is one of before
  before_lost : (lost : Files) → IsLost old.files (it ∷ []) (disk_of new) lost → IsLost old.files [] (disk_of old) lost
  before_lost lost h = record {
    names = h.names;
    beginning = λ q bytes there. let b = h.beginning q bytes there in (b.0, sym (ap (λ (p : Held). p.0) (held_before q)) ∙ b.1, b.2);
    kept = λ q bytes s there is. h.kept q bytes s there (ap (λ (p : Held). p.1) (held_before q) ∙ is);
  }

  -- After a sync the file is renamed: a loss leaves what it left before, or what it would leave
  -- after a further sync.
  pub loses_renamed : (P : Files → Type 0) → behind_sync [] old.calls ≡ [] → LosesOnly old old P → ((lost : Files) → IsLost new.files [] (disk_of new) lost → P lost) → LosesOnly new new P
  loses_renamed P none before behind lost since =
      let least : length new.calls ≤ since.0 = since.1 in
      let front : take since.0 new.calls ≡ new.calls = take_all since.0 new.calls least in
      let rest : drop since.0 new.calls ≡ [] = drop_all since.0 new.calls least in
      let calls : behind_sync [] (take since.0 new.calls) ≡ it ∷ [] = ap (behind_sync []) (front ∙ adds.0) ∙ behind_more [] old.calls (it ∷ []) ∙ ap (λ (cs : List Call). behind_sync cs (it ∷ [])) none in
      let A : List Call → Type 0 = λ cs. IsLostSince cs (disk_before (drop since.0 new.calls) (disk_of new)) lost in
      let B : List Call → Type 0 = λ cs. IsLostSince (it ∷ []) (disk_before cs (disk_of new)) lost in
      elim (subst B rest (subst A calls since.3)) [
        | inl h ↦ before lost (now_lost old lost none (before_lost lost h))
        | inr h ↦ behind lost h
      ]
