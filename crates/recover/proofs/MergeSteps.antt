-- What the steps of a merge of tables leave.
use Rattle.std.proofs.Common.{◌≡◌, inl, inr, ◌<◌, ◌≤◌, ◌+◌, ℕ, zero, suc, Bool, true, false, List, [], ◌∷◌, ◌++◌, length, Option, Some, None, get_or, IsTrue, refl, sym, ap, ◌∙◌, subst, arith}
use Rattle.std.proofs.lemmas.Bool.{cases_eq}
use Rattle.std.proofs.lemmas.List.{length-append}
use Rattle.std.proofs.lemmas.Option.{slice_get_within, slice_get_read}
use Rattle.std.specs.Prelude.{slice_get, slice_set}
use Rattle.std.specs.List.{AllByRecursion}
use Rattle.std.specs.FinMap.{IsAntisymmetric}
use Rattle.std.specs.Cmp.{IsTotalOrder}
use Rattle.edits.specs.Snapshot.{IsFollowedBy, AreInPlace}
use Rattle.edits.specs.declared.field.PlacedTable.{PlacedTable}
use Rattle.ikey.specs.Keys.{Key, IsKey}
use Rattle.ikey.specs.Orders.{Order}
use Rattle.ikey.specs.Sources.{ComesBefore}
use Rattle.ikey.specs.declared.entry.Entry.{Entry}
use Rattle.ikey.specs.declared.internal_key.InternalKey.{InternalKey}
use Rattle.store.specs.Files.{Files, Facts}
use Rattle.recover.specs.declared.merging.Against.{Against}
use Rattle.recover.specs.declared.merging.Lane.{Lane}
use Rattle.recover.specs.declared.merging.Last.{Last}
use Rattle.recover.specs.declared.merging.Merge.{Merge}
use Rattle.recover.specs.declared.report.TableSummary.{TableSummary}
use Rattle.recover.specs.declared.walking.Head.{Head}
use Rattle.recover.specs.declared.walking.TableWalk.{TableWalk}
use Rattle.recover.specs.internal.Checks.{content_of}
use Rattle.recover.specs.internal.Merging.{Came, AreByLevel, IsOldEntry, IsMerging, IsHeadBefore, IsLeastOf, IsPut, IsWithin, MayComeNext, WasMerged}
use Rattle.recover.specs.internal.MergeSteps.{stamps, IsAgainst, FitsTables, HoldsMerge, IsFresh, IsFilled, IsMid, AreRead, AllBeginBehind, AllBeginFrom, HasEnded}
use Rattle.recover.specs.internal.Parts.{IsUnchanged}
use Rattle.recover.specs.internal.Walking.{stamp, IsSmallest, IsPassed, Passes}
use Rattle.recover.specs.Ranges.{HasRange, HaveRanges}
use Rattle.recover.specs.Report.{table_summary}
use Rattle.recover.proofs.EntryOrder.{before_trans}
use Rattle.recover.proofs.Merged.{came_of, pass_on, pass_end, table_begins, all_good, set_same, set_other, behind_same, behind_other}
use Rattle.recover.proofs.MergeParts.{row_next, old_here}
use Rattle.recover.proofs.Refused.{unchanged_itself, unchanged_both}

-- ---- one entry is passed

-- a merge in its middle, of these parts
abbrev Mid : {K : Type 0} → Order → Files → List Entry → ℕ → List PlacedTable → List (Lane K) → Last → List Bool → List TableSummary → Type 0
Mid order files logged recorded tables lanes last begun summaries = (came : List Came) × IsMerging order files logged recorded tables lanes last begun summaries came

module _ {K : Type 0} (order : Order) (o : IsTotalOrder order.cmp) (exact : IsAntisymmetric order.cmp) (files : Files) (logged : List Entry) (recorded : ℕ) (tables : List PlacedTable) (lanes new : List (Lane K)) (last next : Last) (begun : List Bool) (summaries : List TableSummary)
    (index : ℕ) (lane moved : Lane K) (lane_is : slice_get lanes index ≡ Some lane) (stands : lane.stands ≡ true)
    (others : (j : ℕ) → (j ≡ index → ⊥) → slice_get new j ≡ slice_get lanes j) (moved_is : slice_get new index ≡ Some moved) (place_is : moved.place ≡ lane.place) (level_is : moved.level ≡ lane.level)
    (least : (j : ℕ) (other : Lane K) → slice_get lanes j ≡ Some other → other.stands ≡ true → IsHeadBefore order other.walk.head lane.walk.head → ⊥)
    (next_some : next.some ≡ true) (next_user : next.head.user.items ≡ lane.walk.head.user.items) (next_sequence : next.head.sequence ≡ lane.walk.head.sequence) (next_place : next.place ≡ lane.place) (next_level : next.level ≡ lane.level)
    (early : AllBeginBehind order tables begun (stamp lane.walk.head.user.items lane.walk.head.sequence))
    (may : MayComeNext last lane) (old : IsOldEntry logged recorded (stamp lane.walk.head.user.items lane.walk.head.sequence)) where
  behind : (place : ℕ) (placed : PlacedTable) (key : Key) → slice_get tables place ≡ Some placed → slice_get begun place ≡ Some false → IsKey placed.table.smallest key
      → ComesBefore order (stamp key.user key.sequence) (stamp lane.walk.head.user.items lane.walk.head.sequence) → ⊥
  behind place placed key at waits is before = early place key (placed, at, waits, is) before

  pub step_on : moved.stands ≡ true → ((placed : PlacedTable) → slice_get tables lane.place ≡ Some placed → IsPassed order files placed true lane.walk moved.walk)
      → Mid order files logged recorded tables lanes last begun summaries → Mid order files logged recorded tables new next begun summaries
  step_on up goes (came, m) =
      let l = m.lanes_are index lane lane_is stands in (
        came_of lane l.here ∷ came,
        pass_on order o files logged recorded tables lanes new last next begun summaries came m index lane moved lane_is stands others moved_is place_is level_is least next_some next_user next_sequence next_place next_level behind l
            (old_here order o files logged recorded tables lanes last begun summaries came m lane l old) (row_next order o files logged recorded tables lanes last begun summaries came m lane l exact may) up (goes l.placed l.placed_is l.passed l.here l.passes),
      )

  pub step_end : moved.stands ≡ false → ((placed : PlacedTable) → slice_get tables lane.place ≡ Some placed → IsPassed order files placed false lane.walk moved.walk) → (counted : List TableSummary)
      → ((placed : PlacedTable) → slice_get tables lane.place ≡ Some placed → slice_get counted lane.place ≡ Some (record { level = placed.level; number = placed.table.number; entries = moved.walk.passed }))
      → ((place : ℕ) → (place ≡ lane.place → ⊥) → slice_get counted place ≡ slice_get summaries place)
      → Mid order files logged recorded tables lanes last begun summaries → Mid order files logged recorded tables new next begun counted
  step_end down goes counted count elsewhere (came, m) =
      let l = m.lanes_are index lane lane_is stands in
      let ends = goes l.placed l.placed_is l.passed l.here l.passes in
      let e = ends.1 in
      let here : slice_get counted lane.place ≡ Some (table_summary (content_of l.placed (l.passed ++ l.here ∷ []))) =
      count l.placed l.placed_is ∙ (λ i. Some (record { level = l.placed.level; number = l.placed.table.number; entries = e i })) in (
        came_of lane l.here ∷ came,
        pass_end order o files logged recorded tables lanes new last next begun summaries came m index lane moved lane_is stands others moved_is place_is level_is least next_some next_user next_sequence next_place next_level behind l
            (old_here order o files logged recorded tables lanes last begun summaries came m lane l old) (row_next order o files logged recorded tables lanes last begun summaries came m lane l exact may) down ends.0 counted here elsewhere,
      )

-- what a walk has done, with what is known of its answer
pub goes_at : {K : Type 0} (order : Order) (a b : Facts) (tables : List PlacedTable) (n : ℕ) (placed : PlacedTable) (more wanted : Bool) (old new : TableWalk K) → b ≡ a → more ≡ wanted → slice_get tables n ≡ Some placed
    → IsPassed order b.files placed more old new → (p : PlacedTable) → slice_get tables n ≡ Some p → IsPassed order a.files p wanted old new
goes_at order a b tables n placed more wanted old new same is at h p there =
    let both : Some placed ≡ Some p = sym at ∙ there in
    let one : placed ≡ p = cc in
    subst (λ (f : Facts). IsPassed order f.files p wanted old new) same (subst (λ (q : PlacedTable). IsPassed order b.files q wanted old new) one (subst (λ (w : Bool). IsPassed order b.files placed w old new) is h))

-- the lane at the index of the least
pub least_at : {K : Type 0} (order : Order) (lanes : List (Lane K)) (index : ℕ) (lane : Lane K) → IsLeastOf order lanes (length lanes) (Some index) → slice_get lanes index ≡ Some lane
    → (lane.stands ≡ true) × ((j : ℕ) (other : Lane K) → slice_get lanes j ≡ Some other → other.stands ≡ true → IsHeadBefore order other.walk.head lane.walk.head → ⊥)
least_at {K} order lanes index lane h is =
    let same : h.0 ≡ lane = let both : Some h.0 ≡ Some lane = sym h.1 ∙ is in cc in
    let P : Lane K → Type 0 = λ a. (a.stands ≡ true) × ((j : ℕ) (other : Lane K) → slice_get lanes j ≡ Some other → other.stands ≡ true → IsHeadBefore order other.walk.head a.walk.head → ⊥) in
    subst P same (h.2, λ j other at up before. h.3 j other (slice_get_within lanes j other at) at up before)

pub summary_read : (summaries : List TableSummary) (place count : ℕ) (s : TableSummary) → length summaries ≡ count → place < count → s ≡ get_or summaries place s → slice_get summaries place ≡ Some s
summary_read summaries place count s long lt is = slice_get_read summaries (length summaries) place s refl (omega (arith, long, lt)) is

pub within_least : {K : Type 0} (order : Order) (lanes : List (Lane K)) (index : ℕ) → IsLeastOf order lanes (length lanes) (Some index) → index < length lanes
within_least order lanes index h = slice_get_within lanes index h.0 h.1

-- ---- what fits the tables

pub fits_lanes : {K : Type 0} (tables : List PlacedTable) (merge new : Merge K) → ((i : ℕ) (lane : Lane K) → slice_get new.lanes.items i ≡ Some lane → lane.place < length tables)
    → length new.begun.items ≡ length merge.begun.items → new.summaries.items ≡ merge.summaries.items → FitsTables tables merge → FitsTables tables new
fits_lanes {K} tables merge new lanes begun summaries h =
    let back = sym summaries in
    record {
      lanes = lanes;
      begun = begun ∙ h.begun;
      summaries = ap (λ (ss : List TableSummary). length ss) summaries ∙ h.summaries;
      of = λ place placed at. (let r = h.of place placed at in (r.0, ap (λ (ss : List TableSummary). slice_get ss place) summaries ∙ r.1));
    }

-- one lane has moved
pub lanes_moved : {K : Type 0} (tables : List PlacedTable) (lanes new : List (Lane K)) (index : ℕ) (lane moved : Lane K) → slice_get lanes index ≡ Some lane → slice_get new index ≡ Some moved → moved.place ≡ lane.place
    → ((j : ℕ) → (j ≡ index → ⊥) → slice_get new j ≡ slice_get lanes j) → ((i : ℕ) (l : Lane K) → slice_get lanes i ≡ Some l → l.place < length tables) → (i : ℕ) (l : Lane K) → slice_get new i ≡ Some l → l.place < length tables
lanes_moved tables lanes new index lane moved lane_is moved_is place others h i l at = elim (cases_eq i index) [
  | inl same ↦ (
      let both : Some l ≡ Some moved = sym at ∙ ap (slice_get new) same ∙ moved_is in
      let one : l ≡ moved = cc in
      let p : l.place ≡ lane.place = ap (λ (x : Lane _). x.place) one ∙ place in
      let lt = h index lane lane_is in
      omega (arith, p, lt))
  | inr other ↦ h i l (sym (others i other) ∙ at)
]

-- the summary of the table at this place is counted
pub counted_is : {K : Type 0} (tables : List PlacedTable) (merge : Merge K) (place n : ℕ) (old : TableSummary) → FitsTables tables merge → slice_get merge.summaries.items place ≡ Some old → (placed : PlacedTable) → slice_get tables place ≡ Some placed
    → slice_get (slice_set merge.summaries.items place (record { level = old.level; number = old.number; entries = n })) place ≡ Some (record { level = placed.level; number = placed.table.number; entries = n })
counted_is tables merge place n old h at placed there =
    let r = h.of place placed there in
    let both : Some old ≡ Some (record { level = placed.level; number = placed.table.number; entries = r.0 }) = sym at ∙ r.1 in
    let same : old ≡ record { level = placed.level; number = placed.table.number; entries = r.0 } = cc in
    set_same merge.summaries.items place (record { level = old.level; number = old.number; entries = n }) (slice_get_within merge.summaries.items place old at)
    ∙ (λ i. Some (record { level = (same i).level; number = (same i).number; entries = n }))

pub set_length : {A : Type 0} (xs : List A) (i : ℕ) (x : A) → length (slice_set xs i x) ≡ length xs
set_length [] i x = refl
set_length (y ∷ xs) zero x = refl
set_length (y ∷ xs) (suc i) x = let e = set_length xs i x in omega (arith, e)

-- of the table at this place so many entries are counted
pub fits_counted : {K : Type 0} (tables : List PlacedTable) (merge new : Merge K) (place n : ℕ) (old : TableSummary) → ((i : ℕ) (lane : Lane K) → slice_get new.lanes.items i ≡ Some lane → lane.place < length tables)
    → length new.begun.items ≡ length merge.begun.items → slice_get merge.summaries.items place ≡ Some old
    → new.summaries.items ≡ slice_set merge.summaries.items place (record { level = old.level; number = old.number; entries = n }) → FitsTables tables merge → FitsTables tables new
fits_counted {K} tables merge new place n old lanes begun at is h = record {
  lanes = lanes;
  begun = begun ∙ h.begun;
  summaries = ap (λ (ss : List TableSummary). length ss) is ∙ set_length merge.summaries.items place (record { level = old.level; number = old.number; entries = n }) ∙ h.summaries;
  of = λ p placed there. elim (cases_eq p place) [
    | inl same ↦ (n, ap (slice_get new.summaries.items) same ∙ ap (λ (ss : List TableSummary). slice_get ss place) is ∙ counted_is tables merge place n old h at placed (sym (ap (slice_get tables) same) ∙ there))
    | inr other ↦ (
        let r = h.of p placed there in
        (r.0, ap (λ (ss : List TableSummary). slice_get ss p) is ∙ set_other merge.summaries.items place p (record { level = old.level; number = old.number; entries = n }) other ∙ r.1))
  ];
}

pub lanes_put : {K : Type 0} (tables : List PlacedTable) (lanes new : List (Lane K)) (lane : Lane K) → IsPut lanes lane new → lane.place < length tables → ((i : ℕ) (l : Lane K) → slice_get lanes i ≡ Some l → l.place < length tables)
    → (i : ℕ) (l : Lane K) → slice_get new i ≡ Some l → l.place < length tables
lanes_put tables lanes new lane put lt h i l at = elim (cases_eq i put.0) [
  | inl same ↦ (
      let both : Some l ≡ Some lane = sym at ∙ ap (slice_get new) same ∙ put.1 in
      let one : l ≡ lane = cc in
      let p : l.place ≡ lane.place = ap (λ (x : Lane _). x.place) one in
      omega (arith, p, lt))
  | inr other ↦ h i l (sym (put.2 i other) ∙ at)
]

-- ---- which table is begun next

next_of : {K : Type 0} (order : Order) → IsTotalOrder order.cmp → (tables : List PlacedTable) (begun : List Bool) (lane : Lane K) (bound : Option InternalKey) → AllBeginFrom order tables begun bound
    → IsWithin order lane.walk.head bound → AllBeginBehind order tables begun (stamp lane.walk.head.user.items lane.walk.head.sequence)
next_of order o tables begun lane None none within place key waits before = none place key waits
next_of order o tables begun lane (Some bound) all within place key waits before =
    all place key waits (before_trans order o (stamp key.user key.sequence) (stamp lane.walk.head.user.items lane.walk.head.sequence) (stamp bound.user.now bound.sequence) before within)

-- the lane at the index that was looked at
pub next_at : {K : Type 0} (order : Order) → IsTotalOrder order.cmp → (tables : List PlacedTable) (begun : List Bool) (lanes : List (Lane K)) (index : ℕ) (here lane : Lane K) (bound : Option InternalKey) → AllBeginFrom order tables begun bound
    → index < length lanes → here ≡ get_or lanes index here → IsWithin order here.walk.head bound → slice_get lanes index ≡ Some lane → AllBeginBehind order tables begun (stamp lane.walk.head.user.items lane.walk.head.sequence)
next_at {K} order o tables begun lanes index here lane bound all lt is within at =
    let both : Some here ≡ Some lane = sym (slice_get_read lanes (length lanes) index here refl lt is) ∙ at in
    let same : here ≡ lane = cc in
    next_of order o tables begun lane bound all (subst (λ (l : Lane K). IsWithin order l.walk.head bound) same within)

pub ended_all : {K : Type 0} (bound : Option InternalKey) (xs lanes : List (Lane K)) → xs ≡ lanes → ((i : ℕ) (lane : Lane K) → i < length xs → slice_get xs i ≡ Some lane → lane.stands ≡ true → ⊥) → HasEnded bound lanes
ended_all {K} None xs lanes same none = λ i lane at up. let there : slice_get xs i ≡ Some lane = ap (λ (ls : List (Lane K)). slice_get ls i) same ∙ at in none i lane (slice_get_within xs i lane there) there up
ended_all (Some key) xs lanes same none = tt

pub ended_within : {K : Type 0} (order : Order) (bound : Option InternalKey) (head : Head) (lanes : List (Lane K)) → (IsWithin order head bound → ⊥) → HasEnded bound lanes
ended_within order None head lanes none = absurd (none tt)
ended_within order (Some key) head lanes none = tt

-- ---- a table is begun

pub begun_mid : {K : Type 0} (order : Order) → IsTotalOrder order.cmp → (files : Files) (logged : List Entry) (recorded : ℕ) (tables : List PlacedTable) (lanes new : List (Lane K)) (last : Last) (begun : List Bool) (summaries : List TableSummary)
    → (place : ℕ) (placed : PlacedTable) → slice_get tables place ≡ Some placed → slice_get begun place ≡ Some false → (lane : Lane K) → lane.place ≡ place → lane.level ≡ placed.level → lane.stands ≡ true
    → ((here : Entry) × Passes order files placed lane.walk [] here × IsSmallest placed here) → IsPut lanes lane new
    → Mid order files logged recorded tables lanes last begun summaries → Mid order files logged recorded tables new last (slice_set begun place true) summaries
begun_mid order o files logged recorded tables lanes new last begun summaries place placed at waits lane place_is level_is up (here, passes, small) put (came, m) = (
  came,
  table_begins order o files logged recorded tables lanes new last begun (slice_set begun place true) summaries came m place placed at waits lane place_is level_is up here passes small
      put.0 put.1 put.2 put.3 (set_same begun place true (slice_get_within begun place false waits)) (λ p other. set_other begun place p true other),
)

-- ---- no table was begun

pub fresh_mid : {K : Type 0} (order : Order) (files : Files) (against : Against) (merge : Merge K) → IsFresh against.tables.now merge → IsMid order files against merge
fresh_mid {K} order files against merge fresh = (
  [],
  record {
    row = tt;
    last_is = fresh.last;
    old = λ c i. absurd i;
    inside = λ c i. absurd i;
    came_open = λ c i. absurd i;
    lanes_are = λ i lane at st. absurd (none i lane at);
    apart = λ i j a b x y s t e. absurd (none i a x);
    open_are = λ i lane at st. absurd (none i lane at);
    waits = λ place placed key at waits is some before. (let bad : false ≡ true = sym fresh.last ∙ some in cc);
    due = λ place placed at. inl (fresh.begun place (slice_get_within against.tables.now place placed at));
  },
)
  where
    none : (i : ℕ) (lane : Lane K) → slice_get merge.lanes.items i ≡ Some lane → ⊥
    none i lane at = let bad : None ≡ Some lane = ap (λ (ls : List (Lane K)). slice_get ls i) (sym fresh.lanes) ∙ at in cc

-- the summary of a table of which no entry has come
abbrev Summary : PlacedTable → TableSummary
Summary placed = record { level = placed.level; number = placed.table.number; entries = 0 }

filled_at : {A : Type 0} (xs : List A) (x : A) (count place : ℕ) → length xs ≡ count → place ≡ count → slice_get (xs ++ x ∷ []) place ≡ Some x
filled_at xs x count place long same = ap (slice_get (xs ++ x ∷ [])) (same ∙ sym long) ∙ behind_same xs x

pub filled_none : (tables : List PlacedTable) (begun : List Bool) (summaries : List TableSummary) → begun ≡ [] → summaries ≡ [] → IsFilled tables 0 begun summaries
filled_none tables begun summaries b s = record {
  inside = omega arith;
  begun_long = ap (λ (bs : List Bool). length bs) b;
  unbegun = λ place lt. absurd (omega (arith, lt));
  long = ap (λ (ss : List TableSummary). length ss) s;
  of = λ place placed lt at. absurd (omega (arith, lt));
}

pub filled_more : (tables : List PlacedTable) (count : ℕ) (placed : PlacedTable) (begun more : List Bool) (summaries longer : List TableSummary) → count < length tables → placed ≡ get_or tables count placed → IsFilled tables count begun summaries
    → more ≡ begun ++ false ∷ [] → longer ≡ summaries ++ record { level = placed.level; number = placed.table.number; entries = 0 } ∷ [] → IsFilled tables (count + 1) more longer
filled_more tables count placed begun more summaries longer lt is h b s = record {
  inside = omega (arith, lt);
  begun_long = (let e = length-append begun (false ∷ []) in let l : length more ≡ length (begun ++ false ∷ []) = ap (λ (bs : List Bool). length bs) b in omega (arith, l, e, h.begun_long));
  unbegun = λ place le. elim (cases_eq place count) [
    | inl same ↦ ap (λ (bs : List Bool). slice_get bs place) b ∙ filled_at begun false count place h.begun_long same
    | inr other ↦ ap (λ (bs : List Bool). slice_get bs place) b ∙ behind_other begun false place (λ e. other (e ∙ h.begun_long)) ∙ h.unbegun place (omega (arith, le, other))
  ];
  long = (let e = length-append summaries (Summary placed ∷ []) in let l : length longer ≡ length (summaries ++ Summary placed ∷ []) = ap (λ (ss : List TableSummary). length ss) s in omega (arith, l, e, h.long));
  of = λ place p le at. elim (cases_eq place count) [
    | inl same ↦ (
        let here = slice_get_read tables (length tables) count placed refl lt is in
        let both : Some placed ≡ Some p = sym here ∙ ap (slice_get tables) (sym same) ∙ at in
        let one : placed ≡ p = cc in
        ap (λ (ss : List TableSummary). slice_get ss place) s ∙ filled_at summaries (Summary placed) count place h.long same ∙ (λ i. Some (Summary (one i))))
    | inr other ↦ ap (λ (ss : List TableSummary). slice_get ss place) s ∙ behind_other summaries (Summary placed) place (λ e. other (e ∙ h.long)) ∙ h.of place p (omega (arith, le, other)) at
  ];
}

pub filled_fits : {K : Type 0} (tables : List PlacedTable) (count : ℕ) (merge : Merge K) → length tables ≤ count → merge.lanes.items ≡ [] → IsFilled tables count merge.begun.items merge.summaries.items → FitsTables tables merge
filled_fits {K} tables count merge le none h = record {
  lanes = λ i lane at. (let bad : None ≡ Some lane = ap (λ (ls : List (Lane K)). slice_get ls i) (sym none) ∙ at in absurd cc);
  begun = omega (arith, h.begun_long, h.inside, le);
  summaries = omega (arith, h.long, h.inside, le);
  of = λ place placed at. (let lt = slice_get_within tables place placed at in (0, h.of place placed (omega (arith, lt, le)) at));
}

pub filled_fresh : {K : Type 0} (tables : List PlacedTable) (count : ℕ) (merge : Merge K) → length tables ≤ count → merge.lanes.items ≡ [] → merge.last.some ≡ false → IsFilled tables count merge.begun.items merge.summaries.items → IsFresh tables merge
filled_fresh tables count merge le none last h = record { lanes = none; last = last; begun = λ place lt. h.unbegun place (omega (arith, lt, le)) }

-- ---- several steps

pub holds_start : {K : Type 0} (order : Order) (against : Against) (a : Facts) (merge : Merge K) → FitsTables against.tables.now merge → (IsTrue a.faithful → IsMid order a.files against merge) → HoldsMerge order against a a merge
holds_start order against a merge fits mid = record { store = unchanged_itself a; still = refl; fits = fits; mid = mid }

pub holds_more : {K : Type 0} (order : Order) (against : Against) (a b c : Facts) (merge new : Merge K) → HoldsMerge order against a b merge → IsUnchanged b c → c.failures ≡ b.failures → FitsTables against.tables.now new
    → (IsTrue c.faithful → IsMid order b.files against new) → HoldsMerge order against a c new
holds_more order against a b c merge new h k still fits mid = record {
  store = unchanged_both a b c h.store k;
  still = still ∙ h.still;
  fits = fits;
  mid = λ t. subst (λ (fs : Files). IsMid order fs against new) (h.store.same (k.faithful t)) (mid t);
}

pub holds_mid : {K : Type 0} (order : Order) (against : Against) (a b : Facts) (merge : Merge K) → HoldsMerge order against a b merge → IsTrue b.faithful → IsMid order b.files against merge
holds_mid order against a b merge h t = subst (λ (fs : Files). IsMid order fs against merge) (sym (h.store.same t)) (h.mid t)

-- ---- the end

key_at_range : (order : Order) (tables : List PlacedTable) (place : ℕ) (placed : PlacedTable) → HaveRanges order tables → slice_get tables place ≡ Some placed → (key : Key) × IsKey placed.table.smallest key
key_at_range order tables place placed ranges at = elim (range_at_get tables place ranges at) [
  | inl one ↦ (one.0, one.1)
  | inr two ↦ (two.0, two.2)
]
  where
    range_at_get : (ts : List PlacedTable) (n : ℕ) → HaveRanges order ts → slice_get ts n ≡ Some placed → HasRange order placed.table
    range_at_get [] n h at = let bad : None ≡ Some placed = at in absurd cc
    range_at_get (t ∷ ts) zero h at = let same : t ≡ placed = let both : Some t ≡ Some placed = at in cc in subst (λ (p : PlacedTable). HasRange order p.table) same h.0
    range_at_get (t ∷ ts) (suc n) h at = range_at_get ts n h.2 at

-- each was begun, no lane stands: all were read
pub mid_whole : {K : Type 0} (order : Order) → IsTotalOrder order.cmp → (files : Files) (against : Against) (merge : Merge K) → IsAgainst order against → FitsTables against.tables.now merge
    → AllBeginFrom order against.tables.now merge.begun.items None → HasEnded None merge.lanes.items → IsMid order files against merge → AreRead order files against merge
mid_whole {K} order o files against merge sound fits none ended (came, m) =
    all_good order o files came m.row merge.summaries.items (stamps against.logged.now) against.recorded against.tables.now m.old (λ k placed at. done (0 + k) placed (let e : 0 + k ≡ k = omega arith in ap (slice_get against.tables.now) e ∙ at)) fits.summaries sound.levels sound.ranges
  where
    done : (place : ℕ) (placed : PlacedTable) → slice_get against.tables.now place ≡ Some placed
        → (entries : List Entry) × WasMerged order files came place placed entries × (slice_get merge.summaries.items place ≡ Some (table_summary (content_of placed entries)))
    done place placed at = elim (m.due place placed at) [
      | inl waits ↦ (let k = key_at_range order against.tables.now place placed sound.ranges at in absurd (none place k.0 (placed, at, waits, k.1)))
      | inr (inl (i, lane, is, st, there)) ↦ absurd (ended i lane is st)
      | inr (inr merged) ↦ merged
    ]

-- ---- the row of tables

-- tables by level and number are by level
pub levels_kept : (tables : List PlacedTable) → AreInPlace tables → AreByLevel tables
levels_kept [] h = tt
levels_kept (t ∷ tables) h = (behind_it tables h.0, levels_kept tables h.1)
  where
    behind_one : (u : PlacedTable) → IsFollowedBy t u → t.level ≤ u.level
    behind_one u (inl lower, other) = omega (arith, lower)
    behind_one u (inr same, other) = omega (arith, same.0)

    behind_it : (us : List PlacedTable) → AllByRecursion (IsFollowedBy t) us → AllByRecursion (λ (other : PlacedTable). t.level ≤ other.level) us
    behind_it [] all = tt
    behind_it (u ∷ us) all = (behind_one u all.0, behind_it us all.1)
