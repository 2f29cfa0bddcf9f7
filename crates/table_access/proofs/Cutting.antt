-- Where a torn block lies to which a search over a table comes.
use Rattle.std.proofs.Common.{◌≡◌, ◌⊎◌, ◌<◌, ◌≤◌, ℕ, zero, suc, true, false, List, Option, Some, None, length, is_some, refl, sym, ap, ◌∙◌, subst, arith, inl, inr}
use Rattle.std.specs.Cmp.{IsTotalOrder}
use Rattle.std.specs.List.{slice_get}
use Rattle.std.specs.Option.{option_and_then}
use Rattle.std.proofs.lemmas.Bool.{cases_lt}
use Rattle.std.proofs.lemmas.Option.{get_or_from_slice_get}
use Rattle.block.specs.Places.{Placed}
use Rattle.cursor.specs.Cuts.{Cut, Front, End, Below, Above, is_in_front, next_cut, prev_cut}
use Rattle.cursor.specs.Places.{Cmp, Listed, first_from, index_before, index_behind, is_below, within}
use Rattle.cursor.proofs.Comparing.{below_is}
use Rattle.cursor.proofs.Cutting.{next_at, prev_at}
use Rattle.cursor.proofs.Leading.{leading_le, within_cases}
use Rattle.cursor.proofs.Singles.{pairs_length}
use Rattle.edits.specs.declared.field.PlacedTable.{PlacedTable}
use Rattle.ikey.specs.Below.{IsBelowInternal, internal_transitive}
use Rattle.ikey.specs.Keys.{Key, IsKey}
use Rattle.table_access.specs.declared.in_block.InBlock.{InBlock}
use Rattle.table_access.specs.TablePlaces.{ListsTable, joined, pairs_before}
use Rattle.table_access.specs.Tables.{Seen, IsOpenFrame}
use Rattle.table_access.specs.Telling.{CameTo, IsTornIn}
use Rattle.table_access.specs.Torn.{HasTorn, LacksBack, LacksOn, TornTable}
use Rattle.table_access.specs.TornLaws.{its_entry, its_file}
use Rattle.table_access.proofs.Denying.{BoundsRise, above_bound, bounds_rise, later_above}
use Rattle.table_access.proofs.Entering.{pair_at}
use Rattle.table_access.proofs.Filling.{bounds_front}
use Rattle.table_access.proofs.Passed.{came_passed, none_between}
use Rattle.table_access.proofs.Placing.{before_all, before_up, before_zero, some_at}
use Rattle.table_access.proofs.Splits.{SplitsAt, splits_as, splits_first, splits_key, splits_last, splits_next, splits_prev}
use Rattle.table_access.proofs.Stopping.{HasPassed}
use Rattle.table.specs.Frame.{Frame}
use Rattle.table.specs.Refusals.{IsFirstPlace}
use Rattle.table.specs.declared.handle.Place.{Place}

pub some_place : (place : Option ℕ) → is_some place ≡ true → (n : ℕ) × (place ≡ Some n)
some_place None e = absurd (let bad : false ≡ true = e in cc)
some_place (Some n) e = (n, refl)

same_before : (a b : ℕ) → index_before a ≡ index_before b → a ≡ b
same_before zero zero e = refl
same_before zero (suc b) e = absurd (let bad : None ≡ Some b = e in cc)
same_before (suc a) zero e = absurd (let bad : Some a ≡ None = e in cc)
same_before (suc a) (suc b) e = let s : a ≡ b = let t : Some a ≡ Some b = e in cc in ap suc s

module _ (cmp : Cmp) (total : IsTotalOrder cmp) (source : Seen) (placed : PlacedTable) (frame : Frame) (here : Option (InBlock Placed)) (at : Listed) (lists : ListsTable cmp source placed frame here at) where
  count : length (joined lists.groups) ≡ length at.entries
  count = pairs_length (joined lists.groups) at.entries lists.entries_are

  -- a block that is none, where so many entries lie before the cut
  lies : (cut : Cut) (index m : ℕ) → index < length frame.places → IsTornIn cmp placed lists.has.file frame index → pairs_before lists.groups index ≤ m → m ≤ pairs_before lists.groups (suc index) → SplitsAt cmp at.entries cut m
      → TornTable cmp source placed frame cut
  lies cut index m inside torn low high splits file has =
      subst (λ (f : List ℕ). HasTorn cmp placed f frame cut) (its_file cmp source placed frame here at lists file has) (record {
        index = index;
        inside = inside;
        torn = torn;
        front = λ k pairs n pair key less is pair_is key_is.
            let e = its_entry cmp source placed frame here at lists k pairs n pair key is pair_is key_is in
            let up = before_up lists.groups (suc k) index (omega (arith, less)) in
            let under = e.less in
            subst (λ (x : Key). is_in_front cmp cut x ≡ true) e.key_is ((splits e.place e.entry e.entry_is).0 (omega (arith, under, up, low)));
        back = λ k pairs n pair key less is pair_is key_is.
            let e = its_entry cmp source placed frame here at lists k pairs n pair key is pair_is key_is in
            let up = before_up lists.groups (suc index) k (omega (arith, less)) in
            let over = e.from in
            subst (λ (x : Key). is_in_front cmp cut x ≡ false) e.key_is ((splits e.place e.entry e.entry_is).1 (omega (arith, over, up, high)));
      })

  its_open : IsOpenFrame cmp lists.has.file frame
  its_open = lists.has.open_is

  -- ---- searches on

  module _ (passed : List ℕ → Type 0) (start : ℕ) (lacks : LacksOn cmp passed source placed frame start) where
    stops_passed : (index : ℕ) → start ≤ index → index < length frame.places → CameTo cmp passed placed lists.has.file frame start index → HasPassed passed lists.groups start index
    stops_passed index low inside came =
        let long = lists.has.same_length in
        came_passed cmp placed lists.has.file frame lists.groups lists.has.each passed start index came low (omega (arith, inside, long))

  pub torn_first : LacksOn cmp (λ (key : List ℕ). ⊥) source placed frame 0 → TornTable cmp source placed frame Front
  torn_first lacks =
      let stops = lacks lists.has.file lists.has.table its_open in
      let passed = stops_passed (λ (key : List ℕ). ⊥) 0 lacks stops.index stops.reached stops.inside stops.came in
      let long = lists.has.same_length in
      let inside = stops.inside in
      let none = none_between lists.groups 0 stops.index passed (omega (arith, inside, long)) in
      let begin = before_zero lists.groups in
      lies Front stops.index 0 stops.inside stops.torn (omega (arith, none, begin)) (omega arith) (splits_first cmp at.entries)

  -- after the entry on which it stands
  pub torn_next : (n start : ℕ) → at.place ≡ Some n → within (joined lists.groups) (pairs_before lists.groups start) ≡ option_and_then (index_behind (joined lists.groups)) at.place
      → LacksOn cmp (λ (key : List ℕ). ⊥) source placed frame start → TornTable cmp source placed frame (next_cut at)
  torn_next n start place_is follows lacks =
      let stops = lacks lists.has.file lists.has.table its_open in
      let passed = stops_passed (λ (key : List ℕ). ⊥) start lacks stops.index stops.reached stops.inside stops.came in
      let long = lists.has.same_length in
      let inside = stops.inside in
      let none = none_between lists.groups start stops.index passed (omega (arith, inside, long)) in
      let reached = stops.reached in
      let up = before_up lists.groups start (suc stops.index) (omega (arith, reached)) in
      let entry = some_at at.entries n (lists.inside n place_is) in
      let follows_n : within (joined lists.groups) (pairs_before lists.groups start) ≡ within (joined lists.groups) (suc n) = follows ∙ ap (option_and_then (index_behind (joined lists.groups))) place_is in
      let splits = splits_next cmp total at.entries lists.rises n entry.0 entry.1 in
      let m : ℕ = pairs_before lists.groups start in
      subst (λ (cut : Cut). TornTable cmp source placed frame cut) (sym (next_at at n entry.0 place_is entry.1))
      (lies (Above entry.0.key) stops.index m stops.inside stops.torn (omega (arith, none)) up (splits_as cmp at.entries (Above entry.0.key) (suc n) m
      (λ p fits less. elim (same_or_past follows_n) [ inl same ↦ omega (arith, less, same) | inr past ↦ (let a = past.1 in omega (arith, fits, a, count)) ])
      (λ p fits ge. elim (same_or_past follows_n) [ inl same ↦ omega (arith, ge, same) | inr past ↦ (let a = past.0 in absurd (omega (arith, fits, ge, a, count))) ]) splits))
    where
      same_or_past : {a b : ℕ} → within (joined lists.groups) a ≡ within (joined lists.groups) b → (a ≡ b) ⊎ ((length (joined lists.groups) ≤ a) × (length (joined lists.groups) ≤ b))
      same_or_past {a} {b} e = elim (within_cases (joined lists.groups) a) [
        | inl x ↦ elim (within_cases (joined lists.groups) b) [
          | inl y ↦ inl (let t : Some a ≡ Some b = sym x.1 ∙ e ∙ y.1 in cc)
          | inr y ↦ absurd (let t : Some a ≡ None = sym x.1 ∙ e ∙ y.1 in cc)
        ]
        | inr x ↦ elim (within_cases (joined lists.groups) b) [
          | inl y ↦ absurd (let t : None ≡ Some b = sym x.1 ∙ e ∙ y.1 in cc)
          | inr y ↦ inr (x.0, y.0)
        ]
      ]

  -- before the first entry that isn't below a key
  pub torn_key : (target : List ℕ) (key : Key) (start : ℕ) → IsKey target key → IsFirstPlace cmp target frame.places start → LacksOn cmp (λ (other : List ℕ). IsBelowInternal cmp other target) source placed frame start
      → TornTable cmp source placed frame (Below key)
  torn_key target key start is_key first lacks =
      let stops = lacks lists.has.file lists.has.table its_open in
      let below : List ℕ → Type 0 = λ (other : List ℕ). IsBelowInternal cmp other target in
      let passed = stops_passed below start lacks stops.index stops.reached stops.inside stops.came in
      let long = lists.has.same_length in
      let inside = stops.inside in
      let front = bounds_front cmp total target lists.has.file frame lists.groups start its_open.0 first lists.bounds in
      let place = some_at frame.places stops.index stops.inside in
      let m : ℕ = first_from cmp key at.entries in
      let splits = splits_key cmp total at.entries lists.rises key in
      lies (Below key) stops.index m stops.inside stops.torn
      (elim (cases_lt m (pairs_before lists.groups stops.index)) [
        | inr ge ↦ ge
        | inl less ↦
            let fits = before_up lists.groups stops.index (length lists.groups) (omega (arith, inside, long)) in
            let all = before_all lists.groups in
            let pair = some_at (joined lists.groups) m (omega (arith, less, fits, all)) in
            let entry = some_at at.entries m (omega (arith, less, fits, all, count)) in
            let its = pair_at (joined lists.groups) at.entries m pair.0 entry.0 lists.entries_are pair.1 entry.1 in
            let under : IsBelowInternal cmp pair.0.key target = elim (cases_lt m (pairs_before lists.groups start)) [
              | inl l ↦ front m pair.0 l pair.1
              | inr ge ↦ passed.all m pair.0 ge less pair.1
            ] in
            let yes_ : true ≡ is_in_front cmp (Below key) entry.0.key = below_is cmp pair.0.key target entry.0.key key true under its.key is_key in
            let bad : true ≡ false = yes_ ∙ (splits m entry.0 entry.1).1 (omega arith) in absurd cc
      ])
      (elim (cases_lt (pairs_before lists.groups (suc stops.index)) m) [
        | inr ge ↦ ge
        | inl less ↦
            let q : ℕ = pairs_before lists.groups (suc stops.index) in
            let whole = leading_fits m refl in
            let entry = some_at at.entries q (omega (arith, less, whole)) in
            let pair = some_at (joined lists.groups) q (omega (arith, less, whole, count)) in
            let its = pair_at (joined lists.groups) at.entries q pair.0 entry.0 lists.entries_are pair.1 entry.1 in
            let rise = bounds_rise cmp total its_open.0.index_is.1 frame.places its_open.0.index_is.3.2.rises its_open.0.index_is.4 in
            let above = above_bound cmp total frame.places lists.groups stops.index place.0 lists.bounds rise place.1 q pair.0 (omega arith) pair.1 in
            let not_below : IsBelowInternal cmp pair.0.key target → ⊥ = λ b. bound_not place.0 stops.index place.1 stops.reached stops.inside rise (internal_transitive cmp total place.0.key pair.0.key target above b) in
            let no_ : false ≡ is_in_front cmp (Below key) entry.0.key = below_is cmp pair.0.key target entry.0.key key false not_below its.key is_key in
            let bad : false ≡ true = no_ ∙ (splits q entry.0 entry.1).0 less in absurd cc
      ]) splits
    where
      leading_fits : (m : ℕ) → m ≡ first_from cmp key at.entries → m ≤ length at.entries
      leading_fits m e = let l = leading_le (is_below cmp key) at.entries in omega (arith, e, l)

      -- no bound from the first place on is below the target
      bound_not : (place : Place) (index : ℕ) → slice_get frame.places index ≡ Some place → start ≤ index → index < length frame.places → BoundsRise cmp total frame.places → IsBelowInternal cmp place.key target → ⊥
      bound_not place index is from inside rise below =
          let begin = some_at frame.places start (omega (arith, from, inside)) in
          first.found begin.0 (omega (arith, from, inside)) (subst (λ (q : Place). IsBelowInternal cmp q.key target) (sym (get_or_from_slice_get frame.places start begin.0 begin.0 begin.1)) (elim (cases_lt start index) [
            | inl less ↦ internal_transitive cmp total begin.0.key place.key target (later_above cmp total frame.places start index begin.0 place rise less begin.1 is) below
            | inr ge ↦
                let same : start ≡ index = omega (arith, ge, from) in
                let both : Some place ≡ Some begin.0 = sym is ∙ (ap (slice_get frame.places) (sym same) ∙ begin.1) in
                let one : place ≡ begin.0 = cc in
                subst (λ (q : Place). IsBelowInternal cmp q.key target) one below
          ]))

  -- ---- searches back

  lies_back : (cut : Cut) (end m : ℕ) → end ≤ length lists.groups → pairs_before lists.groups end ≡ m → SplitsAt cmp at.entries cut m → LacksBack cmp source placed frame end → TornTable cmp source placed frame cut
  lies_back cut end m fits m_is splits lacks =
      let stops = lacks lists.has.file lists.has.table its_open in
      let inside = stops.inside in
      let long = lists.has.same_length in
      let passed = came_passed cmp placed lists.has.file frame lists.groups lists.has.each (λ (key : List ℕ). ⊥) (suc stops.index) end (λ k low high. stops.came k (omega (arith, low)) high) (omega (arith, inside)) fits in
      let none = none_between lists.groups (suc stops.index) end passed fits in
      let up = before_up lists.groups stops.index end (omega (arith, inside)) in
      lies cut stops.index m (omega (arith, inside, fits, long)) stops.torn (omega (arith, up, m_is)) (omega (arith, none, m_is)) splits

  pub torn_last : (end : ℕ) → end ≡ length lists.groups → LacksBack cmp source placed frame end → TornTable cmp source placed frame End
  torn_last end e lacks =
      let all = before_all lists.groups in
      lies_back End end (length at.entries) (omega (arith, e)) (ap (pairs_before lists.groups) e ∙ all ∙ count) (splits_last cmp at.entries) lacks

  pub torn_prev : (n end : ℕ) → at.place ≡ Some n → end ≤ length lists.groups → index_before (pairs_before lists.groups end) ≡ option_and_then index_before at.place → LacksBack cmp source placed frame end
      → TornTable cmp source placed frame (prev_cut at)
  torn_prev n end place_is fits precedes lacks =
      let entry = some_at at.entries n (lists.inside n place_is) in
      let m_is : pairs_before lists.groups end ≡ n = same_before (pairs_before lists.groups end) n (precedes ∙ ap (option_and_then index_before) place_is) in
      subst (λ (cut : Cut). TornTable cmp source placed frame cut) (sym (prev_at at n entry.0 place_is entry.1))
      (lies_back (Below entry.0.key) end n fits m_is (splits_prev cmp total at.entries lists.rises n entry.0 entry.1) lacks)
