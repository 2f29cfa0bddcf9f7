-- Which tables there are under which generation, through what is changed.
use Rattle.std.proofs.Common.{◌≡◌, ◌≢◌, ◌⊎◌, ◌<◌, ◌≤◌, ◌+◌, ◌^◌, ◌++◌, ◌∷◌, [], ℕ, Bool, true, false, cond, not, List, Option, Some, None, IfSome, IsSome, MatchBool, inl, inr, refl, sym, ap, subst, ◌∙◌, arith, append_assoc}
use Rattle.std.proofs.Math.Dec.{eqb}
use Rattle.std.proofs.lemmas.Bool.{cases_eq, cond_both, cond-true, eq-eqb, eqb-true}
use Rattle.std.specs.BTreeMap.{is_at}
use Rattle.std.specs.Cmp.{unsigned_tied}
use Rattle.std.specs.Map.{lookup}
use Rattle.std.specs.Map.Calls.{RetainsPairs}
use Rattle.std.specs.Option.{option_and_then, option_eq, option_map}
use Rattle.std.specs.Ordering.{is_eq, nat_cmp}
use Rattle.ikey.specs.declared.entry.Entry.{Entry}
use Rattle.ikey.specs.Sources.{IsNewerThan}
use Rattle.ikey.specs.Views.{AllUpTo, Among}
use Rattle.memtable.specs.Contents.{Contents}
use Rattle.memtables.specs.Changes.{HasMoreEntries, KeepsUsed}
use Rattle.memtables.specs.Memories.{AreMemories, Memories, inserts_of, older_at, sealed_inserts}
use Rattle.memtables.proofs.Batches.{bounded_more}
use Rattle.memtables.proofs.Searching.{among_split}

-- ---- keys

pub same_key : (k q : ℕ) → is_eq (nat_cmp k q) ≡ true → k ≡ q
same_key k q is = eqb-true k q (sym (unsigned_tied k q) ∙ is)

-- what a map has after an entry of it was put in or taken out
abbrev pub Updates : ℕ → Option Contents → List (ℕ × Contents) → List (ℕ × Contents) → Type 0
Updates k now old new = (q : ℕ) → older_at new q ≡ cond (is_eq (nat_cmp k q)) now (older_at old q)

pub updated_here : (k : ℕ) (now : Option Contents) (old new : List (ℕ × Contents)) → Updates k now old new → older_at new k ≡ now
updated_here k now old new updates = updates k ∙ cond-true (is_eq (nat_cmp k k)) now (older_at old k) (unsigned_tied k k ∙ eq-eqb k k refl)

pub updated_apart : (k q : ℕ) (now : Option Contents) (old new : List (ℕ × Contents)) → Updates k now old new → q ≢ k → older_at new q ≡ older_at old q
updated_apart k q now old new updates apart =
    updates q ∙ cond_both (is_eq (nat_cmp k q)) now (older_at old q) (λ (o : Option Contents). o ≡ older_at old q) (λ is. absurd (apart (sym (same_key k q is)))) (λ _. refl)

-- ---- the invariant

sealed_still : (sealed : Option ℕ) (old new : List (ℕ × Contents)) → ((generation : ℕ) → sealed ≡ Some generation → IsSome (older_at old generation) → IsSome (older_at new generation))
    → IfSome sealed (λ (generation : ℕ). IsSome (older_at old generation)) → IfSome sealed (λ (generation : ℕ). IsSome (older_at new generation))
sealed_still None old new keep is = tt
sealed_still (Some generation) old new keep is = keep generation refl is

up_to_more : (last : ℕ) (entries : List Entry) → AllUpTo last entries → AllUpTo (last + 1) entries
up_to_more last entries h e among = (let low = h e among in omega (arith, low))

-- a new entry is above all that is sealed
newer_added : (m : Memories) (inserts : List Entry) (key : List ℕ) (value : Option (List ℕ)) → inserts ≡ m.current.inserts ++ record { key = key; sequence = m.last + 1; value = value } ∷ []
    → AreMemories m → IsNewerThan inserts (sealed_inserts m)
newer_added m inserts key value is are a b i j same = elim (among_split m.current.inserts (record { key = key; sequence = m.last + 1; value = value } ∷ []) a (subst (λ (es : List Entry). Among es a) is i)) [
  | inl old ↦ are.newer a b old j same
  | inr new ↦ (let low : b.sequence ≤ m.last = sealed_bounded m.sealed b j in let at = added a new in omega (arith, low, at))
]
  where
    added : (a : Entry) → Among (record { key = key; sequence = m.last + 1; value = value } ∷ []) a → a.sequence ≡ m.last + 1
    added a (inl e) = ap (λ (x : Entry). x.sequence) e
    added a (inr e) = absurd e

    at_most : (o : Option Contents) → ((table : Contents) → o ≡ Some table → AllUpTo m.last table.inserts) → (b : Entry) → Among (inserts_of o) b → b.sequence ≤ m.last
    at_most None bound b j = absurd j
    at_most (Some table) bound b j = bound table refl b j

    sealed_bounded : (o : Option ℕ) → (b : Entry) → Among (inserts_of (option_and_then (older_at m.older) o)) b → b.sequence ≤ m.last
    sealed_bounded None b j = absurd j
    sealed_bounded (Some generation) b j = at_most (older_at m.older generation) (are.older generation) b j

pub invariant_added : (m : Memories) (table : Contents) (key : List ℕ) (value : Option (List ℕ)) → table.inserts ≡ m.current.inserts ++ record { key = key; sequence = m.last + 1; value = value } ∷ []
    → m.last + 1 < 2 ^ 56 → AreMemories m → AreMemories (record m { current = table; last = m.last + 1 })
invariant_added m table key value is fits are = record {
  newer = newer_added m table.inserts key value is are;
  current = subst (λ (es : List Entry). AllUpTo (m.last + 1) es) (sym is) (bounded_more m.current.inserts m.last key value are.current);
  older = λ generation older there. up_to_more m.last older.inserts (are.older generation older there);
  below = are.below;
  sealed = are.sealed;
  fits = fits;
}

sealed_same : (sealed : Option ℕ) (old new : List (ℕ × Contents)) → ((generation : ℕ) → sealed ≡ Some generation → older_at new generation ≡ older_at old generation)
    → inserts_of (option_and_then (older_at new) sealed) ≡ inserts_of (option_and_then (older_at old) sealed)
sealed_same None old new kept = refl
sealed_same (Some generation) old new kept = ap inserts_of (kept generation refl)

pub invariant_dropped : (m : Memories) (older : List (ℕ × Contents)) → ((generation : ℕ) → m.sealed ≡ Some generation → older_at older generation ≡ older_at m.older generation)
    → ((generation : ℕ) (table : Contents) → older_at older generation ≡ Some table → older_at m.older generation ≡ Some table) → AreMemories m → AreMemories (record m { older = older })
invariant_dropped m older kept from are = record {
  current = are.current;
  older = λ generation table is. are.older generation table (from generation table is);
  below = λ generation table is. are.below generation table (from generation table is);
  newer = subst (λ (es : List Entry). IsNewerThan m.current.inserts es) (sym (sealed_same m.sealed m.older older kept)) are.newer;
  sealed = sealed_still m.sealed m.older older (λ generation at is. subst (λ (o : Option Contents). IsSome o) (sym (kept generation at)) is) are.sealed;
  fits = are.fits;
}

pub invariant_alone : (table : Contents) (last generation : ℕ) (older : List (ℕ × Contents)) → older ≡ [] → AllUpTo last table.inserts → last < 2 ^ 56
    → AreMemories (record { current = table; last = last; generation = generation; sealed = None; older = older })
invariant_alone table last generation older none bound fits = record {
  current = bound;
  older = λ number found is. absurd (nothing number found is);
  below = λ number found is. absurd (nothing number found is);
  newer = λ a b i j key. absurd j;
  sealed = tt;
  fits = fits;
}
  where
    nothing : (number : ℕ) (found : Contents) → older_at older number ≡ Some found → ⊥
    nothing number found is = (let bad : None ≡ Some found = ap (λ (es : List (ℕ × Contents)). older_at es number) (sym none) ∙ is in cc)

-- ---- dropping

-- What is left under a generation of an older table: it is the same where it is of use, and else
-- none; none comes anew.
abbrev pub Keeps : (ℕ → Type 0) → Option Contents → Option Contents → ℕ → Type 0
Keeps used old new generation = (used generation → new ≡ old) × ((used generation → ⊥) → new ≡ None) × ((table : Contents) → new ≡ Some table → old ≡ Some table)

abbrev look : ℕ → List (ℕ × Contents) → Option Contents
look q entries = lookup (is_at (nat_cmp q)) entries

module _ (used : ℕ → Type 0) (q : ℕ) where
  kept_here : (here : Bool) (k : ℕ) (v w : Contents) (old new : Option Contents) → (here ≡ true → q ≡ k) → used k → w ≡ v → Keeps used old new q → Keeps used (cond here (Some v) old) (cond here (Some w) new) q
  kept_here true k v w old new one is same h = (λ _. ap Some same, λ out. absurd (out (subst used (sym (one refl)) is)), λ table e. sym (ap Some same) ∙ e)
  kept_here false k v w old new one is same h = h

  gone_here : (here : Bool) (k : ℕ) (v : Contents) (old new : Option Contents) → (here ≡ true → q ≡ k) → (used k → ⊥) → Keeps used old new q → Keeps used (cond here (Some v) old) new q
  gone_here true k v old new one out h =
      let away : used q → ⊥ = λ u. out (subst used (one refl) u) in
      let none : new ≡ None = h.1 away in
      (λ u. absurd (away u), λ _. none, λ table e. let bad : None ≡ Some table = sym none ∙ e in absurd cc)
  gone_here false k v old new one out h = h

  kept_step : (k : ℕ) (v w : Contents) (b : Bool) (rest old : List (ℕ × Contents)) → MatchBool b (used k) (used k → ⊥) → w ≡ v → Keeps used (look q old) (look q rest) q
      → Keeps used (cond (is_eq (nat_cmp q k)) (Some v) (look q old)) (look q (cond b ((k, w) ∷ rest) rest)) q
  kept_step k v w true rest old is same h = kept_here (is_eq (nat_cmp q k)) k v w (look q old) (look q rest) (same_key q k) is same h
  kept_step k v w false rest old is same h = gone_here (is_eq (nat_cmp q k)) k v (look q old) (look q rest) (same_key q k) is h

  pub kept_all : {F : Type 0} (T : F → ℕ → Contents → Bool → Contents → F → Type 0) (holds : F → Type 0) → ((f : F) (k : ℕ) (v : Contents) (b : Bool) (w : Contents) (g : F) → holds f → T f k v b w g → MatchBool b (used k) (used k → ⊥) × (w ≡ v) × holds g)
      → (f : F) (old new : List (ℕ × Contents)) → holds f → RetainsPairs T f old new → Keeps used (lookup (is_at (nat_cmp q)) old) (lookup (is_at (nat_cmp q)) new) q
  kept_all T holds tells f [] new same is = subst (λ (es : List (ℕ × Contents)). Keeps used None (look q es) q) (sym is) (λ _. refl, λ _. refl, λ table e. e)
  kept_all T holds tells f (e ∷ old) new same (b, w, g, rest, called, more, is) =
      let told = tells f e.0 e.1 b w g same called in
      subst (λ (es : List (ℕ × Contents)). Keeps used (look q (e ∷ old)) (look q es) q) (sym is)
      (kept_step e.0 e.1 w b rest old told.0 told.1 (kept_all T holds tells g old rest told.2 more))

-- the same of a test that stays as it was
pub kept_same : {F : Type 0} (T : F → ℕ → Contents → Bool → Contents → F → Type 0) (used : ℕ → Type 0) (f : F) → ((k : ℕ) (v : Contents) (b : Bool) (w : Contents) (g : F) → T f k v b w g → MatchBool b (used k) (used k → ⊥) × (w ≡ v) × (g ≡ f))
    → (old new : List (ℕ × Contents)) → RetainsPairs T f old new → (q : ℕ) → Keeps used (older_at old q) (older_at new q) q
kept_same {F} T used f tells old new is q =
    kept_all used q T (λ (g : F). g ≡ f) (λ e k v b w g same called. tells k v b w g (subst (λ (s : F). T s k v b w g) same called)) f old new refl is

-- after one was taken out
pub kept_others : (sealed : Option ℕ) (generation : ℕ) (old new : List (ℕ × Contents)) → (sealed ≡ Some generation → ⊥) → Updates generation None old new → (q : ℕ)
    → Keeps (λ (q : ℕ). (sealed ≡ Some q) ⊎ (q ≢ generation)) (older_at old q) (older_at new q) q
kept_others sealed generation old new open_one updates q = by (cases_eq q generation)
  where
    by : (q ≡ generation) ⊎ (q ≢ generation) → Keeps (λ (q : ℕ). (sealed ≡ Some q) ⊎ (q ≢ generation)) (older_at old q) (older_at new q) q
    by (inl same) =
        let none : older_at new q ≡ None = ap (older_at new) same ∙ updated_here generation None old new updates in (
          λ used. elim used [ inl is ↦ absurd (open_one (is ∙ ap Some same)) | inr apart ↦ absurd (apart same) ],
          λ _. none,
          λ table is. let bad : None ≡ Some table = sym none ∙ is in absurd cc,
        )
    by (inr apart) =
        let is = updated_apart generation q None old new updates apart in
        (λ _. is, λ out. absurd (out (inr apart)), λ table e. sym is ∙ e)

pub not_sealed : (sealed : Option ℕ) (generation : ℕ) → true ≡ not (option_eq eqb sealed (Some generation)) → sealed ≡ Some generation → ⊥
not_sealed sealed generation other is =
    let bad : true ≡ false = other ∙ ap (λ (s : Option ℕ). not (option_eq eqb s (Some generation))) is ∙ ap not (eq-eqb generation generation refl) in
    cc

pub keeps_used : (used : ℕ → Type 0) (m : Memories) (older : List (ℕ × Contents)) → ((q : ℕ) → Keeps used (older_at m.older q) (older_at older q) q) → KeepsUsed used m (record m { older = older })
keeps_used used m older h = record { others = refl; kept = λ q is. (h q).0 is; gone = λ q out. (h q).1 out }

pub invariant_used : (names : ℕ → Type 0) (m : Memories) (older : List (ℕ × Contents)) → ((q : ℕ) → Keeps (λ (q : ℕ). (m.sealed ≡ Some q) ⊎ names q) (older_at m.older q) (older_at older q) q) → AreMemories m → AreMemories (record m { older = older })
invariant_used names m older h are = invariant_dropped m older (λ q is. (h q).0 (inl is)) (λ q table is. (h q).2 table is) are

-- ---- writing

pub written_more : (first second third : Memories) (xs ys : List Entry) → HasMoreEntries first second xs → HasMoreEntries second third ys → HasMoreEntries first third (xs ++ ys)
written_more first second third xs ys one two = record {
  inserts = two.inserts ∙ ap (λ (es : List Entry). es ++ ys) one.inserts ∙ append_assoc first.current.inserts xs ys;
  others = two.others ∙ ap (λ (m : Memories). record m { current = third.current; last = third.last }) one.others;
}

-- ---- moves

-- where an older table is there as one with the same entries
pub moved_older : (k : ℕ) (was now : Contents) (old new : List (ℕ × Contents)) → older_at old k ≡ Some was → now.inserts ≡ was.inserts → Updates k (Some now) old new → (q : ℕ)
    → option_map (λ (table : Contents). table.inserts) (older_at new q) ≡ option_map (λ (table : Contents). table.inserts) (older_at old q)
moved_older k was now old new there same updates q = by (cases_eq q k)
  where
    by : (q ≡ k) ⊎ (q ≢ k) → option_map (λ (table : Contents). table.inserts) (older_at new q) ≡ option_map (λ (table : Contents). table.inserts) (older_at old q)
    by (inl is) =
        ap (λ (n : ℕ). option_map (λ (table : Contents). table.inserts) (older_at new n)) is
        ∙ ap (option_map (λ (table : Contents). table.inserts)) (updated_here k (Some now) old new updates)
        ∙ ap Some same
        ∙ sym (ap (λ (n : ℕ). option_map (λ (table : Contents). table.inserts) (older_at old n)) is ∙ ap (option_map (λ (table : Contents). table.inserts)) there)
    by (inr apart) = ap (option_map (λ (table : Contents). table.inserts)) (updated_apart k q (Some now) old new updates apart)

was_there : (old new : Option Contents) (table : Contents) → option_map (λ (table : Contents). table.inserts) new ≡ option_map (λ (table : Contents). table.inserts) old → new ≡ Some table → (before : Contents) × (old ≡ Some before) × (table.inserts ≡ before.inserts)
was_there None new table same is = absurd cc
was_there (Some before) None table same is = absurd cc
was_there (Some before) (Some after) table same is = (before, refl, (let one : after ≡ table = cc in let both : after.inserts ≡ before.inserts = cc in sym (ap (λ (t : Contents). t.inserts) one) ∙ both))

still_there : (old new : Option Contents) → option_map (λ (table : Contents). table.inserts) new ≡ option_map (λ (table : Contents). table.inserts) old → IsSome old → IsSome new
still_there None new same is = absurd (let bad : false ≡ true = is in cc)
still_there (Some before) None same is = absurd cc
still_there (Some before) (Some after) same is = is

inserts_same : (old new : Option Contents) → option_map (λ (table : Contents). table.inserts) new ≡ option_map (λ (table : Contents). table.inserts) old → inserts_of new ≡ inserts_of old
inserts_same None None same = refl
inserts_same None (Some after) same = absurd cc
inserts_same (Some before) None same = absurd cc
inserts_same (Some before) (Some after) same = (let both : after.inserts ≡ before.inserts = cc in both)

pub invariant_moved : (m : Memories) (older : List (ℕ × Contents)) → ((q : ℕ) → option_map (λ (table : Contents). table.inserts) (older_at older q) ≡ option_map (λ (table : Contents). table.inserts) (older_at m.older q))
    → AreMemories m → AreMemories (record m { older = older })
invariant_moved m older same are = record {
  current = are.current;
  older = λ q table is. (let was = was_there (older_at m.older q) (older_at older q) table (same q) is in subst (λ (es : List Entry). AllUpTo m.last es) (sym was.2) (are.older q was.0 was.1));
  below = λ q table is. (let was = was_there (older_at m.older q) (older_at older q) table (same q) is in are.below q was.0 was.1);
  sealed = sealed_still m.sealed m.older older (λ q at some. still_there (older_at m.older q) (older_at older q) (same q) some) are.sealed;
  newer = subst (λ (es : List Entry). IsNewerThan m.current.inserts es) (sym (sealed_as m.sealed)) are.newer;
  fits = are.fits;
}
  where
    sealed_as : (o : Option ℕ) → inserts_of (option_and_then (older_at older) o) ≡ inserts_of (option_and_then (older_at m.older) o)
    sealed_as None = refl
    sealed_as (Some q) = inserts_same (older_at m.older q) (older_at older q) (same q)
