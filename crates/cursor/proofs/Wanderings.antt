-- Moves that follow one another, and the place that a cursor stands on in between.
use Rattle.std.proofs.Common.{◌≡◌, ◌<◌, ℕ, zero, suc, Bool, true, false, IsTrue, List, [], ◌∷◌, Option, Some, None, Result, is_some, length, refl, sym, ap, ◌∙◌, subst, arith, inl, inr}
use Rattle.std.specs.List.{slice_get}
use Rattle.std.specs.FinMap.{IsAntisymmetric}
use Rattle.std.specs.Cmp.{IsTotalOrder}
use Rattle.coding.specs.declared.error.DbError.{DbError}
use Rattle.coding.specs.declared.error.DbError.TheVariants.{OutOfMemory, Corrupt}
use Rattle.store.specs.Files.{Facts}
use Rattle.table.specs.Reading.{Reads}
use Rattle.ikey.specs.Entries.{InternalEntry}
use Rattle.ikey.specs.Keys.{Key, IsKey}
use Rattle.cursor.specs.Places.{Cmp, Listed, Rises, within, index_before, to_next, to_prev}
use Rattle.cursor.specs.Cuts.{Cut, TornAt, TornSomewhere}
use Rattle.cursor.specs.Moves.{Moves, Stays, Refuses, place_after}
use Rattle.cursor.specs.Merging.{listed}
use Rattle.cursor.specs.Searches.{Wanders, SearchesOn, AnswersOn, LooksOn, SearchesBack, AnswersBack, LooksBack, RefusesKey}
use Rattle.cursor.proofs.Leading.{within_cases}
use Rattle.cursor.proofs.Turns.{stays_then, refuses_later}
use Rattle.cursor.proofs.Onwards.{hides_on, passes_on, takes_on, none_on}
use Rattle.cursor.proofs.Backwards.{looks_back, ends_back, front_back}

pub stays_still : {C S : Type 0} (facts : S → Facts) (keeps : C → S → S → Type 0) (limited : C → S → Type 0) (torn : C → S → Cut → Type 0) (leaves : (ℕ → Type 0) → S → S → Type 0) (over : C → ℕ → Type 0) → ((cursor : C) (source : S) → keeps cursor source source) → ((numbers : ℕ → Type 0) (source : S) → leaves numbers source source) → (cursor : C) (source : S) → Stays facts keeps limited torn leaves over cursor cursor source source
stays_still facts keeps limited torn leaves over still leaves_still cursor source = record {
  reads = record { faithful = λ t. t; files = λ t. refl; failures = omega arith; writes = refl; denials = refl; locked = refl; synced = λ f. refl; calls = λ f. refl };
  left = leaves_still (over cursor) source;
  others = λ f other. still other source;
  same = λ s t k. k;
  limit = λ f l. l;
  tear = λ f cut l. l;
  within = λ number o. o;
}

module _ {C S : Type 0} (facts : S → Facts) (lists : C → S → Listed → Type 0) (keeps : C → S → S → Type 0) (limited : C → S → Type 0) (torn : C → S → Cut → Type 0) (leaves : (ℕ → Type 0) → S → S → Type 0) (over : C → ℕ → Type 0) where
  pub wanders_still : ((cursor : C) (source : S) → keeps cursor source source) → ((numbers : ℕ → Type 0) (source : S) → leaves numbers source source) → (cursor : C) (source : S) → Wanders facts lists keeps limited torn leaves over cursor cursor source source
  wanders_still still leaves_still cursor source = record { stays = stays_still facts keeps limited torn leaves over still leaves_still cursor source; somewhere = λ f at l. (at.place, l) }

  pub wanders_then : ((cursor : C) (first second third : S) → keeps cursor first second → keeps cursor second third → keeps cursor first third)
      → ((numbers : ℕ → Type 0) (first second third : S) → leaves numbers first second → leaves numbers second third → leaves numbers first third)
      → ((fewer more : ℕ → Type 0) (old new : S) → ((number : ℕ) → fewer number → more number) → leaves fewer old new → leaves more old new)
      → (a b c : C) (s t u : S) → Wanders facts lists keeps limited torn leaves over a b s t → Wanders facts lists keeps limited torn leaves over b c t u → Wanders facts lists keeps limited torn leaves over a c s u
  wanders_then onward leaves_onward leaves_more a b c s t u h k = record {
    stays = stays_then facts keeps limited torn leaves over onward leaves_onward leaves_more a b c s t u h.stays k.stays;
    somewhere = λ f at l. let place = h.somewhere (k.stays.reads.faithful f) at l in k.somewhere f (listed at.entries place.0) place.1;
  }

  pub move_wanders : {T : Type 0} (old new : C) (before after : S) (result : Result T DbError) (to : Listed → Option ℕ) → Moves facts lists old new before after result to → Stays facts keeps limited torn leaves over old new before after
      → Wanders facts lists keeps limited torn leaves over old new before after
  move_wanders old new before after result to moves stays = record { stays = stays; somewhere = λ f at l. (place_after result (to at) at.place, moves f at l) }

  -- a refusal of a later move
  pub refused_then : (e : DbError) (a b : C) (s t : S) (u : Facts) → Wanders facts lists keeps limited torn leaves over a b s t → Reads (facts t) u
      → Refuses e (facts t) u (TornSomewhere lists torn b t) (limited b t) → Refuses e (facts s) u (TornSomewhere lists torn a s) (limited a s)
  refused_then e a b s t u h reads r =
      refuses_later e (facts s) (facts t) u (TornSomewhere lists torn b t) (TornSomewhere lists torn a s) (limited b t) (limited a s) h.stays.reads.failures
      (λ f there at l.
      let place = h.somewhere (reads.faithful f) at l in
      let torn_there = there (listed at.entries place.0) place.1 in
      (torn_there.0, h.stays.tear (reads.faithful f) torn_there.0 torn_there.1)) (λ f l. h.stays.limit (reads.faithful f) l) r

-- a refusal at one cut is one at some cut
pub refused_at : {C S : Type 0} (lists : C → S → Listed → Type 0) (torn : C → S → Cut → Type 0) (cut : Listed → Cut) (e : DbError) (old new : Facts) (a : C) (s : S) (limit : Type 0)
    → Refuses e old new (TornAt lists torn cut a s) limit → Refuses e old new (TornSomewhere lists torn a s) limit
refused_at lists torn cut e old new a s limit r =
    refuses_later e old old new (TornAt lists torn cut a s) (TornSomewhere lists torn a s) limit limit (omega arith) (λ f there at l. (cut at, there at l)) (λ f l. l) r

refuses_by_key : (e : DbError) (old new : Facts) (bytes : List ℕ) (damage limit : Type 0) → (IsTrue new.faithful → ((key : Key) → IsKey bytes key → ⊥) → damage) → RefusesKey e bytes → Refuses e old new damage limit
refuses_by_key OutOfMemory old new bytes damage limit d r = tt
refuses_by_key (Corrupt file what) old new bytes damage limit d r = λ f. d f r
refuses_by_key _ old new bytes damage limit d r = absurd r

get_there : {A : Type 0} (xs : List A) (i : ℕ) → i < length xs → (x : A) × (slice_get xs i ≡ Some x)
get_there [] i less = absurd (omega (arith, less))
get_there (x ∷ xs) zero less = (x, refl)
get_there (x ∷ xs) (suc i) less = get_there xs i (omega (arith, less))

some_or_none : (o : Option ℕ) → is_some o ≡ true → (i : ℕ) × (o ≡ Some i)
some_or_none None e = absurd cc
some_or_none (Some i) e = (i, refl)

module _ {C S : Type 0} (cmp : Cmp) (total : IsTotalOrder cmp) (exact : IsAntisymmetric cmp) (lists : C → S → Listed → Type 0) (stands : C → Bool)
    (rises : (cursor : C) (source : S) (at : Listed) → lists cursor source at → Rises cmp at.entries)
    (placed : (cursor : C) (source : S) (at : Listed) → lists cursor source at → stands cursor ≡ is_some at.place)
    (inside : (cursor : C) (source : S) (at : Listed) (index : ℕ) → lists cursor source at → at.place ≡ Some index → index < length at.entries) where
  -- a cursor that stands stands on an entry
  stands_there : (cursor : C) (source : S) (at : Listed) → lists cursor source at → stands cursor ≡ true → (i : ℕ) × (entry : InternalEntry) × (at.place ≡ Some i) × (slice_get at.entries i ≡ Some entry)
  stands_there cursor source at l t =
      let place = some_or_none at.place (sym (placed cursor source at l) ∙ t) in
      let entry = get_there at.entries place.0 (inside cursor source at place.0 l place.1) in
      (place.0, entry.0, place.1, entry.1)

  -- bytes that are no key are refused only where there is no list
  pub refused_key : (e : DbError) (facts : S → Facts) (keeps : C → S → S → Type 0) (limited : C → S → Type 0) (torn : C → S → Cut → Type 0) (leaves : (ℕ → Type 0) → S → S → Type 0) (over : C → ℕ → Type 0) (a b : C) (s t : S) (bytes : List ℕ) (limit : Type 0) → Wanders facts lists keeps limited torn leaves over a b s t → stands b ≡ true
      → ((at : Listed) (index : ℕ) (entry : InternalEntry) → lists b t at → at.place ≡ Some index → slice_get at.entries index ≡ Some entry → IsKey bytes entry.key)
      → RefusesKey e bytes → Refuses e (facts s) (facts t) (TornSomewhere lists torn a s) limit
  refused_key e facts keeps limited torn leaves over a b s t bytes limit h stand key r =
      refuses_by_key e (facts s) (facts t) bytes (TornSomewhere lists torn a s) limit
      (λ f none at l.
      let place = h.somewhere f at l in
      let there = stands_there b t (listed at.entries place.0) place.1 stand in
      absurd (none there.1.key (key (listed at.entries place.0) there.0 there.1 place.1 there.2 there.3))) r

  module _ (entries : List InternalEntry) (sequence : ℕ) (test : List ℕ → Bool) (n : ℕ) (c : C) (s : S) where
    -- ---- forth

    on_entry : lists c s (listed entries (within entries n)) → stands c ≡ true → (entry : InternalEntry) × (slice_get entries n ≡ Some entry) × (within entries n ≡ Some n)
    on_entry l t = elim (within_cases entries n) [
      | inl h ↦ let entry = get_there entries n h.0 in (entry.0, entry.1, h.1)
      | inr h ↦ let bad : true ≡ false = sym t ∙ (placed c s (listed entries (within entries n)) l ∙ ap is_some h.1) in absurd cc
    ]

    pub ended_on : (hides : Bool) (hidden : List ℕ) → lists c s (listed entries (within entries n)) → stands c ≡ false → SearchesOn cmp entries sequence test n hides hidden → AnswersOn cmp lists c s entries sequence test hidden false
    ended_on hides hidden l f h = elim (within_cases entries n) [
      | inl w ↦ let bad : false ≡ true = sym f ∙ (placed c s (listed entries (within entries n)) l ∙ ap is_some w.1) in absurd cc
      | inr w ↦ none_on cmp total exact entries (rises c s (listed entries (within entries n)) l) sequence test n hides hidden w.0 h
    ]

    module _ (bytes : List ℕ) (key : (at : Listed) (index : ℕ) (entry : InternalEntry) → lists c s at → at.place ≡ Some index → slice_get at.entries index ≡ Some entry → IsKey bytes entry.key)
        (hides now : Bool) (hidden hidden_now : List ℕ) (l : lists c s (listed entries (within entries n))) (t : stands c ≡ true) (h : SearchesOn cmp entries sequence test n hides hidden) where
      pub found_on : ((k : Key) → IsKey bytes k → LooksOn k sequence hides hidden now hidden_now true) → AnswersOn cmp lists c s entries sequence test hidden_now true
      found_on looks =
          let e = on_entry l t in
          takes_on cmp total exact entries (rises c s (listed entries (within entries n)) l) sequence test n hides hidden e.0 e.1 h lists c s hidden_now
          (subst (λ (place : Option ℕ). lists c s (listed entries place)) e.2 l) (looks e.0.key (key (listed entries (within entries n)) n e.0 l e.2 e.1))

      pub passed_on : ((k : Key) → IsKey bytes k → LooksOn k sequence hides hidden now hidden_now false) → (d : C) (u : S) → ((at : Listed) → lists c s at → lists d u (record at { place = to_next at }))
          → lists d u (listed entries (within entries (suc n))) × SearchesOn cmp entries sequence test (suc n) now hidden_now
      passed_on looks d u next =
          let e = on_entry l t in
          let r = rises c s (listed entries (within entries n)) l in (
            next (listed entries (Some n)) (subst (λ (place : Option ℕ). lists c s (listed entries place)) e.2 l),
            elim (looks e.0.key (key (listed entries (within entries n)) n e.0 l e.2 e.1)) [
              | inl p ↦ hides_on cmp total exact entries r sequence test n hides hidden e.0 e.1 h now hidden_now p
              | inr p ↦ passes_on cmp total exact entries r sequence test n hides now hidden hidden_now e.0 e.1 p h
            ],
          )

    -- ---- back

    before_entry : lists c s (listed entries (index_before n)) → stands c ≡ true → (m : ℕ) × (entry : InternalEntry) × (n ≡ suc m) × (slice_get entries m ≡ Some entry)
    before_entry l t = by n refl
      where
        by : (k : ℕ) → n ≡ k → (m : ℕ) × (entry : InternalEntry) × (n ≡ suc m) × (slice_get entries m ≡ Some entry)
        by zero e = let bad : true ≡ false = sym t ∙ (placed c s (listed entries (index_before n)) l ∙ ap (λ (i : ℕ). is_some (index_before i)) e) in absurd cc
        by (suc m) e =
            let entry = get_there entries m (inside c s (listed entries (index_before n)) m l (ap index_before e)) in
            (m, entry.0, e, entry.1)

    pub ended_back : (has : Bool) (found value : List ℕ) → lists c s (listed entries (index_before n)) → stands c ≡ false → SearchesBack cmp entries sequence test n has found value → AnswersBack cmp lists c s entries sequence test found value has
    ended_back has found value l f h = by n refl
      where
        by : (k : ℕ) → n ≡ k → AnswersBack cmp lists c s entries sequence test found value has
        by zero e =
            front_back cmp total exact entries (rises c s (listed entries (index_before n)) l) sequence test lists c s has found value
            (subst (λ (i : ℕ). SearchesBack cmp entries sequence test i has found value) e h) (subst (λ (i : ℕ). lists c s (listed entries (index_before i))) e l)
        by (suc m) e = let bad : false ≡ true = sym f ∙ (placed c s (listed entries (index_before n)) l ∙ ap (λ (i : ℕ). is_some (index_before i)) e) in absurd cc

    module _ (bytes here : List ℕ) (key : (at : Listed) (index : ℕ) (entry : InternalEntry) → lists c s at → at.place ≡ Some index → slice_get at.entries index ≡ Some entry → IsKey bytes entry.key)
        (worth : (at : Listed) (index : ℕ) (entry : InternalEntry) → lists c s at → at.place ≡ Some index → slice_get at.entries index ≡ Some entry → here ≡ entry.value)
        (has now : Bool) (found value found_now value_now : List ℕ) (l : lists c s (listed entries (index_before n))) (t : stands c ≡ true) (h : SearchesBack cmp entries sequence test n has found value) where
      pub found_back : ((k : Key) → IsKey bytes k → LooksBack k here sequence test has found value now found_now value_now true) → AnswersBack cmp lists c s entries sequence test found_now value_now true
      found_back looks =
          let e = before_entry l t in
          let is : index_before n ≡ Some e.0 = ap index_before e.2 in
          let look = looks e.1.key (key (listed entries (index_before n)) e.0 e.1 l is e.3) in
          let h_true = subst (λ (i : ℕ). SearchesBack cmp entries sequence test i true found value) e.2 (subst (λ (b : Bool). SearchesBack cmp entries sequence test n b found value) look.has_is h) in
          subst (λ (u : List ℕ). AnswersBack cmp lists c s entries sequence test u value_now true) (sym look.found_is)
          (subst (λ (w : List ℕ). AnswersBack cmp lists c s entries sequence test found w true) (sym look.value_is)
          (ends_back cmp total exact entries (rises c s (listed entries (index_before n)) l) sequence test e.0 e.1 e.3 lists c s found value h_true look.other
          (subst (λ (place : Option ℕ). lists c s (listed entries place)) is l)))

      pub passed_back : ((k : Key) → IsKey bytes k → LooksBack k here sequence test has found value now found_now value_now false) → (d : C) (u : S) → ((at : Listed) → lists c s at → lists d u (record at { place = to_prev at }))
          → (m : ℕ) × lists d u (listed entries (index_before m)) × SearchesBack cmp entries sequence test m now found_now value_now
      passed_back looks d u prev =
          let e = before_entry l t in
          let is : index_before n ≡ Some e.0 = ap index_before e.2 in
          let r = rises c s (listed entries (index_before n)) l in
          let look = looks e.1.key (key (listed entries (index_before n)) e.0 e.1 l is e.3) in (
            e.0,
            prev (listed entries (Some e.0)) (subst (λ (place : Option ℕ). lists c s (listed entries place)) is l),
            looks_back cmp total exact entries r sequence test e.0 e.1 e.3 has now found value found_now value_now (subst (λ (i : ℕ). SearchesBack cmp entries sequence test i has found value) e.2 h)
                (subst (λ (w : List ℕ). LooksBack e.1.key w sequence test has found value now found_now value_now false) (worth (listed entries (index_before n)) e.0 e.1 l is e.3) look),
          )
