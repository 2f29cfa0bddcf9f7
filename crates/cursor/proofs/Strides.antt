-- What a walk's moves lead to.
use Rattle.std.proofs.Common.{◌≡◌, ◌<◌, ℕ, suc, Bool, true, false, not, IsTrue, List, Option, Some, None, length, refl, sym, ap, ◌∙◌, subst, arith, inl, inr}
use Rattle.std.specs.List.{slice_get}
use Rattle.std.specs.Option.{option_and_then}
use Rattle.std.specs.FinMap.{IsAntisymmetric}
use Rattle.std.specs.Cmp.{IsTotalOrder}
use Rattle.std.proofs.lemmas.Option.{slice_get_within}
use Rattle.std.proofs.lemmas.Bool.{cases_lt}
use Rattle.coding.specs.declared.error.DbError.{DbError}
use Rattle.store.specs.Files.{Facts}
use Rattle.ikey.specs.Entries.{InternalEntry, Pair}
use Rattle.cursor.specs.declared.standing.Position.{Position}
use Rattle.cursor.specs.declared.standing.Position.TheVariants.{Here, Behind, Astray}
use Rattle.cursor.specs.Places.{Cmp, Listed, is_less, within, index_before, index_behind}
use Rattle.cursor.specs.Merging.{listed}
use Rattle.cursor.specs.Views.{IsViewList, IsVisible, KeysRise, Walked, passed, shown, walk_next, walk_prev}
use Rattle.cursor.specs.Cuts.{Cut, TornSomewhere}
use Rattle.cursor.specs.Moves.{Refuses}
use Rattle.cursor.specs.Searches.{Wanders, FoundOn, FoundBack, PassesLower}
use Rattle.cursor.specs.Standing.{StandsAt}
use Rattle.cursor.specs.Walks.{IsPlacedWalk, StandsOnPair, walked}
use Rattle.cursor.proofs.Orders.{is_less_of}
use Rattle.cursor.proofs.Leading.{within_some}
use Rattle.cursor.proofs.Turns.{refuses_later}
use Rattle.cursor.proofs.Befores.{no_less_itself, less_or_not}
use Rattle.cursor.proofs.Standings.{entry_place}
use Rattle.cursor.proofs.Pairings.{view_first, view_none_first, view_last, view_none_last, passed_at, all_pass, none_pass, keys_get}

module _ {C S : Type 0} (cmp : Cmp) (lists : C → S → Listed → Type 0) where
  pub stands_somewhere : (position : Position) (cursor : C) (source : S) (entries : List InternalEntry) (entry : InternalEntry) (value : List ℕ) → StandsAt cmp lists position cursor source entries entry value → (place : Option ℕ) × lists cursor source (listed entries place)
  stands_somewhere Here cursor source entries entry value h = (h.0, h.1)
  stands_somewhere Behind cursor source entries entry value h = (_, h.0)
  stands_somewhere Astray cursor source entries entry value h = h

  pub placed_somewhere : (cursor : C) (sequence : ℕ) (stands : Bool) (position : Position) (key value : List ℕ) (source : S) (entries : List InternalEntry) (at : Walked)
      → IsPlacedWalk cmp lists cursor sequence stands position key value source entries at → (place : Option ℕ) × lists cursor source (listed entries place)
  placed_somewhere cursor sequence true position key value source entries at h = stands_somewhere position cursor source entries h.entry value h.beneath
  placed_somewhere cursor sequence false position key value source entries at h = h.1

  -- after a refusal
  stayed_same : (cursor new : C) (sequence : ℕ) (stands : Bool) (position : Position) (key value kept : List ℕ) (source after : S) (entries : List InternalEntry) (at : Walked)
      → IsPlacedWalk cmp lists cursor sequence stands position key value source entries at → (place : Option ℕ) × lists new after (listed entries place)
      → IsPlacedWalk cmp lists new sequence stands Astray key kept after entries at
  stayed_same cursor new sequence true position key value kept source after entries at h l = record {
    index = h.index;
    entry = h.entry;
    place_is = h.place_is;
    pair_is = h.pair_is;
    visible = h.visible;
    key_is = h.key_is;
    beneath = l;
  }
  stayed_same cursor new sequence false position key value kept source after entries at h l = (h.0, l)

  pub stayed_placed : (cursor new : C) (sequence same : ℕ) (stands now : Bool) (position astray : Position) (key kept value now_value : List ℕ) (source after : S) (entries : List InternalEntry) (at : Walked)
      → same ≡ sequence → now ≡ stands → astray ≡ Astray → kept ≡ key
      → IsPlacedWalk cmp lists cursor sequence stands position key value source entries at → (place : Option ℕ) × lists new after (listed entries place)
      → IsPlacedWalk cmp lists new same now astray kept now_value after entries at
  stayed_placed cursor new sequence same stands now position astray key kept value now_value source after entries at s n a k h l =
      subst (λ (x : ℕ). IsPlacedWalk cmp lists new x now astray kept now_value after entries at) (sym s)
      (subst (λ (b : Bool). IsPlacedWalk cmp lists new sequence b astray kept now_value after entries at) (sym n)
      (subst (λ (p : Position). IsPlacedWalk cmp lists new sequence stands p kept now_value after entries at) (sym a)
      (subst (λ (u : List ℕ). IsPlacedWalk cmp lists new sequence stands Astray u now_value after entries at) (sym k)
      (stayed_same cursor new sequence stands position key value now_value source after entries at h l))))

  -- ---- what was found

  module _ (cursor : C) (source : S) (entries : List InternalEntry) (sequence : ℕ) (pairs : List Pair) (view : IsViewList cmp entries sequence pairs) (test : List ℕ → Bool) where
    pub placed_on : (key value found : List ℕ) → key ≡ found → FoundOn cmp lists cursor source entries sequence test found
        → IsPlacedWalk cmp lists cursor sequence true Here key value source entries (walked pairs (within pairs (passed test pairs)))
    placed_on key value found same h =
        let at : slice_get pairs (passed test pairs) ≡ Some (shown h.entry) = view_first cmp entries sequence pairs view test h.entry h.visible h.fails h.least in
        record {
          index = passed test pairs;
          entry = h.entry;
          place_is = within_some pairs (passed test pairs) (slice_get_within pairs (passed test pairs) (shown h.entry) at);
          pair_is = at;
          visible = h.visible;
          key_is = same ∙ h.key_is;
          beneath = (Some h.index, h.on, h.entry_is);
        }

    pub placed_none_on : (position : Position) (key value : List ℕ) → ((entry : InternalEntry) → IsVisible entries sequence entry → test entry.key.user ≡ true) → (place : Option ℕ) × lists cursor source (listed entries place)
        → IsPlacedWalk cmp lists cursor sequence false position key value source entries (walked pairs (within pairs (passed test pairs)))
    placed_none_on position key value all l = (view_none_first cmp entries sequence pairs view test all, l)

    pub placed_back : PassesLower cmp test → (key value found worth : List ℕ) → key ≡ found → value ≡ worth → FoundBack cmp lists cursor source entries sequence test found worth
        → IsPlacedWalk cmp lists cursor sequence true Behind key value source entries (walked pairs (index_before (passed test pairs)))
    placed_back lower key value found worth same is h =
        let at = view_last cmp entries sequence pairs view test lower h.entry h.visible h.passes h.greatest in
        record {
          index = at.0;
          entry = h.entry;
          place_is = ap index_before at.1;
          pair_is = at.2;
          visible = h.visible;
          key_is = same ∙ h.key_is;
          beneath = (h.beneath, is ∙ h.value_is);
        }

    pub placed_none_back : (position : Position) (key value : List ℕ) → ((entry : InternalEntry) → IsVisible entries sequence entry → test entry.key.user ≡ true → ⊥) → (place : Option ℕ) × lists cursor source (listed entries place)
        → IsPlacedWalk cmp lists cursor sequence false position key value source entries (walked pairs (index_before (passed test pairs)))
    placed_none_back position key value none l = (ap index_before (view_none_last cmp entries sequence pairs view test none), l)

-- ---- the whole walk

module _ {C S : Type 0} (cmp : Cmp) (lists : C → S → Listed → Type 0) where
  -- the walk, by its parts
  abbrev pub IsWalkOf : C → ℕ → Bool → Position → List ℕ → List ℕ → S → Walked → Type 0
  IsWalkOf cursor sequence stands position key value source at =
      (entries : List InternalEntry) × IsViewList cmp entries sequence at.pairs × IsPlacedWalk cmp lists cursor sequence stands position key value source entries at

  module _ (cursor : C) (sequence : ℕ) (stands : Bool) (position : Position) (key value : List ℕ) (source : S) where
    pub walk_somewhere : (at : Walked) (h : IsWalkOf cursor sequence stands position key value source at) → (place : Option ℕ) × lists cursor source (listed h.0 place)
    walk_somewhere at h = placed_somewhere cmp lists cursor sequence stands position key value source h.0 at h.2

    -- after a refusal
    pub refused_walk : (facts : S → Facts) (keeps : C → S → S → Type 0) (limited : C → S → Type 0) (torn : C → S → Cut → Type 0) (leaves : (ℕ → Type 0) → S → S → Type 0) (over : C → ℕ → Type 0) (new : C) (same : ℕ) (now : Bool) (astray : Position) (kept now_value : List ℕ) (after : S)
        → same ≡ sequence → now ≡ stands → astray ≡ Astray → kept ≡ key → Wanders facts lists keeps limited torn leaves over cursor new source after → IsTrue (facts after).faithful
        → (at : Walked) → IsWalkOf cursor sequence stands position key value source at → IsWalkOf new same now astray kept now_value after at
    refused_walk facts keeps limited torn leaves over new same now astray kept now_value after s n a k w t at h =
        let l = walk_somewhere at h in (
          h.0,
          subst (λ (x : ℕ). IsViewList cmp h.0 x at.pairs) (sym s) h.1,
          stayed_placed cmp lists cursor new sequence same stands now position astray key kept value now_value source after h.0 at s n a k h.2 (w.somewhere t (listed h.0 l.0) l.1),
        )

    pub refuses_walk : (torn : C → S → Cut → Type 0) (e : DbError) (old new : Facts) (limit : Type 0) → Refuses e old new (TornSomewhere lists torn cursor source) limit
        → Refuses e old new ((at : Walked) → IsWalkOf cursor sequence stands position key value source at → (cut : Cut) × torn cursor source cut) limit
    refuses_walk torn e old new limit r =
        refuses_later e old old new (TornSomewhere lists torn cursor source) ((at : Walked) → IsWalkOf cursor sequence stands position key value source at → (cut : Cut) × torn cursor source cut) limit limit (omega arith)
        (λ f there at h. let l = walk_somewhere at h in there (listed h.0 l.0) l.1) (λ f l. l) r

    pub arrived_walk : (old : ℕ) (entries : List InternalEntry) (at : Walked) (place to : Option ℕ) → IsViewList cmp entries old at.pairs → sequence ≡ old
        → IsPlacedWalk cmp lists cursor sequence stands position key value source entries (walked at.pairs place) → place ≡ to → IsWalkOf cursor sequence stands position key value source (record at { place = to })
    arrived_walk old entries at place to view s h e = (
      entries,
      subst (λ (x : ℕ). IsViewList cmp entries x at.pairs) (sym s) view,
      subst (λ (o : Option ℕ). IsPlacedWalk cmp lists cursor sequence stands position key value source entries (walked at.pairs o)) e h,
    )

  -- the pair at a walk's place, where the cursor beneath stands on its entry
  pub here_pair : (cursor : C) (sequence : ℕ) (stands : Bool) (key value worth : List ℕ) (source : S) (entries : List InternalEntry) (at : Walked) (index : ℕ) (pair : Pair)
      → ((there : Listed) (i : ℕ) (entry : InternalEntry) → lists cursor source there → there.place ≡ Some i → slice_get there.entries i ≡ Some entry → worth ≡ entry.value)
      → IsPlacedWalk cmp lists cursor sequence stands Here key value source entries at → at.place ≡ Some index → slice_get at.pairs index ≡ Some pair → (key ≡ pair.key) × (worth ≡ pair.value)
  here_pair cursor sequence false key value worth source entries at index pair has h e f = let bad : None ≡ Some index = sym h.0 ∙ e in absurd cc
  here_pair cursor sequence true key value worth source entries at index pair has h e f =
      let one : Some h.index ≡ Some index = sym h.place_is ∙ e in
      let is : h.index ≡ index = cc in
      let two : Some (shown h.entry) ≡ Some pair = sym h.pair_is ∙ (ap (slice_get at.pairs) is ∙ f) in
      let same : shown h.entry ≡ pair = cc in
      let place = entry_place entries h.beneath.0 h.entry h.beneath.2 in (
        h.key_is ∙ ap (λ (p : Pair). p.key) same,
        has (listed entries h.beneath.0) place.0 h.entry h.beneath.1 place.1 place.2 ∙ ap (λ (p : Pair). p.value) same,
      )

-- ---- where the moves lead

pub none_passed : (pairs : List Pair) → passed (λ (user : List ℕ). false) pairs ≡ 0
none_passed pairs = none_pass (λ (user : List ℕ). false) pairs (λ pair m. refl)

pub all_passed : (pairs : List Pair) → passed (λ (user : List ℕ). true) pairs ≡ length pairs
all_passed pairs = all_pass (λ (user : List ℕ). true) pairs (λ pair m. refl)

module _ (cmp : Cmp) (total : IsTotalOrder cmp) (exact : IsAntisymmetric cmp) (pairs : List Pair) (rise : KeysRise cmp pairs) (i : ℕ) (here : Pair) (at : slice_get pairs i ≡ Some here) where
  pub passed_below : passed (λ (user : List ℕ). is_less (cmp user here.key)) pairs ≡ i
  passed_below = sym (passed_at (λ (user : List ℕ). is_less (cmp user here.key)) pairs i
      (λ k pair less e. is_less_of (cmp pair.key here.key) (keys_get cmp pairs k i pair here rise less e at))
      (λ pair e. let same : Some pair ≡ Some here = sym e ∙ at in let is : pair ≡ here = cc in ap (λ (p : Pair). is_less (cmp p.key here.key)) is ∙ no_less_itself cmp total exact here.key)
      (let w = slice_get_within pairs i here at in omega (arith, w)))

  pub passed_up_to : passed (λ (user : List ℕ). not (is_less (cmp here.key user))) pairs ≡ suc i
  passed_up_to = sym (passed_at (λ (user : List ℕ). not (is_less (cmp here.key user))) pairs (suc i)
      (λ k pair less e. up_to k pair less e)
      (λ pair e. ap not (is_less_of (cmp here.key pair.key) (keys_get cmp pairs i (suc i) here pair rise (omega arith) at e)))
      (let w = slice_get_within pairs i here at in omega (arith, w)))
    where
      up_to : (k : ℕ) (pair : Pair) → k < suc i → slice_get pairs k ≡ Some pair → not (is_less (cmp here.key pair.key)) ≡ true
      up_to k pair less e = elim (cases_lt k i) [
        | inl l ↦ ap not (less_or_not cmp total exact pair.key here.key (keys_get cmp pairs k i pair here rise l e at))
        | inr ge ↦
            let is : k ≡ i = omega (arith, less, ge) in
            let same : Some pair ≡ Some here = sym e ∙ (ap (slice_get pairs) is ∙ at) in
            let one : pair ≡ here = cc in
            ap (λ (p : Pair). not (is_less (cmp here.key p.key))) one ∙ ap not (no_less_itself cmp total exact here.key)
      ]

-- from the pair that a walk stands on
module _ {C S : Type 0} (cmp : Cmp) (total : IsTotalOrder cmp) (exact : IsAntisymmetric cmp) (lists : C → S → Listed → Type 0) (cursor : C) (sequence : ℕ) (position : Position) (key value : List ℕ) (source : S) (entries : List InternalEntry) (at : Walked)
    (rise : KeysRise cmp at.pairs) (h : StandsOnPair cmp lists cursor sequence position key value source entries at) where
  pub next_passed : within at.pairs (passed (λ (user : List ℕ). not (is_less (cmp key user))) at.pairs) ≡ walk_next at
  next_passed =
      ap (λ (u : List ℕ). within at.pairs (passed (λ (user : List ℕ). not (is_less (cmp u user))) at.pairs)) h.key_is
      ∙ (ap (within at.pairs) (passed_up_to cmp total exact at.pairs rise h.index (shown h.entry) h.pair_is) ∙ sym (ap (option_and_then (index_behind at.pairs)) h.place_is))

  pub prev_passed : index_before (passed (λ (user : List ℕ). is_less (cmp user key)) at.pairs) ≡ walk_prev at
  prev_passed =
      ap (λ (u : List ℕ). index_before (passed (λ (user : List ℕ). is_less (cmp user u)) at.pairs)) h.key_is
      ∙ (ap index_before (passed_below cmp total exact at.pairs rise h.index (shown h.entry) h.pair_is) ∙ sym (ap (option_and_then index_before) h.place_is))
