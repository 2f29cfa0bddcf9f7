-- Tables in the middle of their reading.
use Rattle.std.proofs.Common.{◌≡◌, ◌⊎◌, inl, inr, ◌<◌, ◌+◌, ℕ, zero, suc, Bool, true, false, List, [], ◌∷◌, ◌++◌, length, map, Option, Some, None, refl, sym, ap, ◌∙◌, subst, arith}
use Rattle.std.proofs.lemmas.Bool.{cases_eq}
use Rattle.std.proofs.lemmas.Option.{slice_get_within}
use Rattle.std.specs.Prelude.{slice_get, slice_set}
use Rattle.std.specs.FinMap.{IsAntisymmetric}
use Rattle.std.specs.Cmp.{IsTotalOrder}
use Rattle.std.specs.Ordering.{ordering_reverse}
use Rattle.std.specs.declared.cmp.Ordering.{Ordering}
use Rattle.std.specs.declared.cmp.Ordering.TheVariants.{Less, Equal, Greater}
use Rattle.edits.specs.declared.field.PlacedTable.{PlacedTable}
use Rattle.ikey.specs.Keys.{Key, IsKey}
use Rattle.ikey.specs.Orders.{Order}
use Rattle.ikey.specs.Sources.{ComesBefore}
use Rattle.ikey.specs.Views.{Among}
use Rattle.ikey.specs.declared.entry.Entry.{Entry}
use Rattle.store.specs.Files.{Files}
use Rattle.recover.specs.declared.merging.Lane.{Lane}
use Rattle.recover.specs.declared.merging.Last.{Last}
use Rattle.recover.specs.declared.report.TableSummary.{TableSummary}
use Rattle.recover.specs.declared.walking.Head.{Head}
use Rattle.recover.specs.internal.Checks.{content_of, AreGood}
use Rattle.recover.specs.internal.Merging.{Came, MayFollow, ComesBehind, HaveCome, IsOldEntry, IsOfTable, WasMerged, IsHeadBefore, IsLast, IsNotBefore, IsLane, IsDue, IsMerging, IsLeastOf, IsEnded, IsPut, AreByLevel}
use Rattle.recover.specs.internal.Walking.{stamp, IsHead, IsSmallest, Passes, GoesOn}
use Rattle.recover.specs.Report.{table_summary}
use Rattle.recover.specs.Ranges.{HaveRanges}
use Rattle.recover.specs.Tables.{TableContent, HasTable}
use Rattle.recover.proofs.Ages.{come_more, AreMerged, contents_of, good_of}
use Rattle.recover.proofs.EntryOrder.{before_trans}
use Rattle.recover.proofs.Passing.{passes_inside}
use Rattle.recover.proofs.WholeTables.{never_before}

-- ---- keys at hand

-- two entries of the same keys come as those do
pub same_before : (order : Order) (a b e f : Entry) → a.key ≡ e.key → a.sequence ≡ e.sequence → b.key ≡ f.key → b.sequence ≡ f.sequence → ComesBefore order a b → ComesBefore order e f
same_before order a b e f k s l t (inl less) =
    let P : List ℕ → Type 0 = λ x. order.cmp x f.key ≡ Less in
    let Q : List ℕ → Type 0 = λ y. order.cmp a.key y ≡ Less in
    inl (subst P k (subst Q l less))
same_before order a b e f k s l t (inr older) = inr (sym k ∙ older.0 ∙ l, omega (arith, s, t, older.1))

-- one that doesn't come before, and may follow, comes after
pub comes_behind : (order : Order) → IsTotalOrder order.cmp → IsAntisymmetric order.cmp → (a b : Came) → (ComesBefore order b.entry a.entry → ⊥) → MayFollow a b → ComesBehind order a b
comes_behind order o exact a b front follows = by (order.cmp a.entry.key b.entry.key) refl
  where
    by : (r : Ordering) → order.cmp a.entry.key b.entry.key ≡ r → ComesBehind order a b
    by Less e = inl e
    by Equal e = let same : a.entry.key ≡ b.entry.key = exact a.entry.key b.entry.key e in inr (same, follows same)
    by Greater e = absurd (front (inl (o.antisymm b.entry.key a.entry.key ∙ ap ordering_reverse e)))

-- ---- which comes next

module _ {K : Type 0} (order : Order) (o : IsTotalOrder order.cmp) (lanes : List (Lane K)) (index : ℕ) (lane : Lane K) (is : slice_get lanes index ≡ Some lane) where
  -- the next lane is this one, or one in front
  one_further : (j : ℕ) → j < index + 1 → (j ≡ index) ⊎ (j < index)
  one_further j lt = elim (cases_eq j index) [ inl same ↦ inl same | inr other ↦ inr (omega (arith, lt, other)) ]

  here_is : (j : ℕ) (other : Lane K) → slice_get lanes j ≡ Some other → j ≡ index → other ≡ lane
  here_is j other at same = let both : Some other ≡ Some lane = sym at ∙ ap (slice_get lanes) same ∙ is in cc

  -- it stands nowhere
  pub least_passed : lane.stands ≡ false → (best : Option ℕ) → IsLeastOf order lanes index best → IsLeastOf order lanes (index + 1) best
  least_passed down None h = λ j other lt at up. elim (one_further j lt) [
    | inl same ↦ (let bad : false ≡ true = sym down ∙ ap (λ (a : Lane K). a.stands) (sym (here_is j other at same)) ∙ up in absurd cc)
    | inr below ↦ h j other below at up
  ]
  least_passed down (Some b) h = (
    h.0,
    h.1,
    h.2,
    λ j other lt at up before. elim (one_further j lt) [
      | inl same ↦ (let bad : false ≡ true = sym down ∙ ap (λ (a : Lane K). a.stands) (sym (here_is j other at same)) ∙ up in absurd cc)
      | inr below ↦ h.3 j other below at up before
    ],
  )

  -- its key isn't before itself
  not_itself : (other : Lane K) → other ≡ lane → IsHeadBefore order other.walk.head lane.walk.head → ⊥
  not_itself other same before =
      let P : Lane K → Type 0 = λ a. IsHeadBefore order a.walk.head lane.walk.head in
      never_before order o (stamp lane.walk.head.user.items lane.walk.head.sequence) (subst P same before)

  -- it is the first that stands
  pub least_first : lane.stands ≡ true → IsLeastOf order lanes index None → IsLeastOf order lanes (index + 1) (Some index)
  least_first up h = (lane, is, up, λ j other lt at st before. elim (one_further j lt) [ inl same ↦ not_itself other (here_is j other at same) before | inr below ↦ h j other below at st ])

  module _ (b : ℕ) (best : Lane K) (best_is : slice_get lanes b ≡ Some best) where
    best_at : (h : IsLeastOf order lanes index (Some b)) → h.0 ≡ best
    best_at h = let both : Some h.0 ≡ Some best = sym h.1 ∙ best_is in cc

    -- it comes before the best
    pub least_lower : lane.stands ≡ true → IsHeadBefore order lane.walk.head best.walk.head → IsLeastOf order lanes index (Some b) → IsLeastOf order lanes (index + 1) (Some index)
    least_lower up lower h = (
      lane,
      is,
      up,
      λ j other lt at st before. elim (one_further j lt) [
        | inl same ↦ not_itself other (here_is j other at same) before
        | inr below ↦ (let P : Lane K → Type 0 = λ a. IsHeadBefore order other.walk.head a.walk.head → ⊥ in
            subst P (best_at h) (h.3 j other below at st) (before_trans order o (stamp other.walk.head.user.items other.walk.head.sequence) (stamp lane.walk.head.user.items lane.walk.head.sequence) (stamp best.walk.head.user.items best.walk.head.sequence) before lower))
      ],
    )

    -- it doesn't
    pub least_stays : (IsHeadBefore order lane.walk.head best.walk.head → ⊥) → IsLeastOf order lanes index (Some b) → IsLeastOf order lanes (index + 1) (Some b)
    least_stays higher h = (
      h.0,
      h.1,
      h.2,
      λ j other lt at st before. elim (one_further j lt) [
        | inl same ↦ (let P : Lane K → Type 0 = λ a. IsHeadBefore order a.walk.head best.walk.head in let Q : Lane K → Type 0 = λ a. IsHeadBefore order other.walk.head a.walk.head in higher (subst P (here_is j other at same) (subst Q (best_at h) before)))
        | inr below ↦ h.3 j other below at st before
      ],
    )

-- the best is none of these
pub least_nowhere : {K : Type 0} (order : Order) (lanes : List (Lane K)) (index b : ℕ) (T : Type 0) → slice_get lanes b ≡ None → IsLeastOf order lanes index (Some b) → T
least_nowhere order lanes index b T none h = let bad : None ≡ Some h.0 = sym none ∙ h.1 in absurd cc

-- ---- what came before

merged_more : (order : Order) (files : Files) (came : List Came) (x : Came) (place : ℕ) (placed : PlacedTable) (entries : List Entry) → WasMerged order files came place placed entries → WasMerged order files (x ∷ came) place placed entries
merged_more order files came x place placed entries h = record { has = h.has; come = λ e i. inr (h.come e i) }

among_push : (xs : List Entry) (x e : Entry) → Among (xs ++ x ∷ []) e → Among xs e ⊎ (e ≡ x)
among_push [] x e (inl same) = inr same
among_push [] x e (inr none) = absurd none
among_push (y ∷ xs) x e (inl same) = inl (inl same)
among_push (y ∷ xs) x e (inr i) = elim (among_push xs x e i) [ inl j ↦ inl (inr j) | inr same ↦ inr same ]

-- ---- one entry more

-- the entry at which a lane stands
abbrev pub came_of : {K : Type 0} → Lane K → Entry → Came
came_of lane here = record { place = lane.place; level = lane.level; entry = here }

-- the next one comes after the last
pub row_more : (order : Order) → IsTotalOrder order.cmp → IsAntisymmetric order.cmp → (last : Last) (came : List Came) (next : Came) → HaveCome order came → IsLast last came → IsNotBefore order last next.entry
    → (last.some ≡ true → (c : Came) → IsHead last.head c.entry → c.place ≡ last.place → c.level ≡ last.level → MayFollow c next) → HaveCome order (next ∷ came)
row_more order o exact last [] next h is front follows = ((λ a i. absurd i), tt)
row_more order o exact last (c ∷ before) next h is front follows =
    let behind : ComesBefore order next.entry c.entry → ⊥ = λ k. front is.0 (same_before order next.entry c.entry next.entry (stamp last.head.user.items last.head.sequence) refl refl is.1.0 is.1.1 k) in
    come_more order o before c next h (comes_behind order o exact c next behind (follows is.0 c is.1 is.2 is.3))

module _ {K : Type 0} (order : Order) (o : IsTotalOrder order.cmp) (files : Files) (logged : List Entry) (recorded : ℕ) (tables : List PlacedTable) (lanes new : List (Lane K)) (last next : Last) (begun : List Bool) (summaries : List TableSummary) (came : List Came)
    (m : IsMerging order files logged recorded tables lanes last begun summaries came) (index : ℕ) (lane moved : Lane K) (lane_is : slice_get lanes index ≡ Some lane) (stands : lane.stands ≡ true)
    (others : (j : ℕ) → (j ≡ index → ⊥) → slice_get new j ≡ slice_get lanes j) (moved_is : slice_get new index ≡ Some moved) (place_is : moved.place ≡ lane.place) (level_is : moved.level ≡ lane.level)
    (least : (j : ℕ) (other : Lane K) → slice_get lanes j ≡ Some other → other.stands ≡ true → IsHeadBefore order other.walk.head lane.walk.head → ⊥)
    (next_some : next.some ≡ true) (next_user : next.head.user.items ≡ lane.walk.head.user.items) (next_sequence : next.head.sequence ≡ lane.walk.head.sequence) (next_place : next.place ≡ lane.place) (next_level : next.level ≡ lane.level)
    (early : (place : ℕ) (placed : PlacedTable) (key : Key) → slice_get tables place ≡ Some placed → slice_get begun place ≡ Some false → IsKey placed.table.smallest key
    → ComesBefore order (stamp key.user key.sequence) (stamp lane.walk.head.user.items lane.walk.head.sequence) → ⊥)
    (l : IsLane order files tables last came lane) (old : IsOldEntry logged recorded l.here) (row : HaveCome order (came_of lane l.here ∷ came)) where
  abbrev More : List Came
  More = came_of lane l.here ∷ came

  of_table : IsOfTable order files tables (came_of lane l.here)
  of_table = record { placed = l.placed; placed_is = l.placed_is; level = l.level; inside = passes_inside order files l.placed lane.walk l.passed l.here l.passes }

  last_more : IsLast next More
  last_more = (next_some, (l.passes.head.0 ∙ sym next_user, l.passes.head.1 ∙ sym next_sequence), sym next_place, sym next_level)

  old_more : (c : Came) → Among More c → IsOldEntry logged recorded c.entry
  old_more c (inl same) = let P : Came → Type 0 = λ d. IsOldEntry logged recorded d.entry in subst P (sym same) old
  old_more c (inr i) = m.old c i

  inside_more : (c : Came) → Among More c → IsOfTable order files tables c
  inside_more c (inl same) = let P : Came → Type 0 = λ d. IsOfTable order files tables d in subst P (sym same) of_table
  inside_more c (inr i) = m.inside c i

  open_more : (c : Came) → Among More c → slice_get begun c.place ≡ Some true
  open_more c (inl same) = ap (λ (d : Came). slice_get begun d.place) same ∙ m.open_are index lane lane_is stands
  open_more c (inr i) = m.came_open c i

  waits_more : (place : ℕ) (placed : PlacedTable) (key : Key) → slice_get tables place ≡ Some placed → slice_get begun place ≡ Some false → IsKey placed.table.smallest key → IsNotBefore order next (stamp key.user key.sequence)
  waits_more place placed key at waits is some before =
      early place placed key at waits is (same_before order (stamp key.user key.sequence) (stamp next.head.user.items next.head.sequence) (stamp key.user key.sequence) (stamp lane.walk.head.user.items lane.walk.head.sequence) refl refl next_user next_sequence before)

  -- the head of a lane isn't before what came last
  not_before : (head : Head) → (IsHeadBefore order head lane.walk.head → ⊥) → IsNotBefore order next (stamp head.user.items head.sequence)
  not_before head none some before =
      none (same_before order (stamp head.user.items head.sequence) (stamp next.head.user.items next.head.sequence) (stamp head.user.items head.sequence) (stamp lane.walk.head.user.items lane.walk.head.sequence) refl refl next_user next_sequence before)

  same_lane : (j : ℕ) (other : Lane K) → (j ≡ index → ⊥) → slice_get new j ≡ Some other → slice_get lanes j ≡ Some other
  same_lane j other apart is = sym (others j apart) ∙ is

  other_lane : (j : ℕ) (other : Lane K) → (j ≡ index → ⊥) → slice_get lanes j ≡ Some other → other.stands ≡ true → IsLane order files tables next More other
  other_lane j other apart is up =
      let h = m.lanes_are j other is up in
      record {
        placed = h.placed;
        placed_is = h.placed_is;
        level = h.level;
        passed = h.passed;
        here = h.here;
        passes = h.passes;
        come = λ e i. inr (h.come e i);
        front = λ c i place. elim i [
          | inl same ↦ absurd (apart (m.apart j index other lane is lane_is up stands (sym place ∙ ap (λ (d : Came). d.place) same)))
          | inr k ↦ h.front c k place
        ];
        behind = not_before other.walk.head (least j other is up);
      }

  came_push : (e : Entry) → Among (l.passed ++ l.here ∷ []) e → Among More (record { place = lane.place; level = lane.level; entry = e })
  came_push e i = elim (among_push l.passed l.here e i) [
    | inl k ↦ inr (l.come e k)
    | inr same ↦ inl (λ n. record { place = lane.place; level = lane.level; entry = same n })
  ]

  moved_lane : GoesOn order files l.placed moved.walk l.passed l.here → IsLane order files tables next More moved
  moved_lane (n, passes, before) = record {
    placed = l.placed;
    placed_is = ap (slice_get tables) place_is ∙ l.placed_is;
    level = l.level ∙ sym level_is;
    passed = l.passed ++ l.here ∷ [];
    here = n;
    passes = passes;
    come = λ e i. (let p = sym place_is in let v = sym level_is in subst (λ (a : ℕ). Among More (record { place = a; level = moved.level; entry = e })) p (subst (λ (b : ℕ). Among More (record { place = lane.place; level = b; entry = e })) v (came_push e i)));
    front = λ c i place. elim i [
      | inl same ↦ (let P : Came → Type 0 = λ d. ComesBefore order d.entry n in subst P (sym same) before)
      | inr k ↦ before_trans order o c.entry l.here n (l.front c k (place ∙ place_is)) before
    ];
    behind = λ some back.
        let turned : ComesBefore order n l.here = same_before order (stamp moved.walk.head.user.items moved.walk.head.sequence) (stamp next.head.user.items next.head.sequence) n l.here (sym passes.head.0) (sym passes.head.1)
        (next_user ∙ sym l.passes.head.0) (next_sequence ∙ sym l.passes.head.1) back in
        never_before order o n (before_trans order o n l.here n turned before);
  }

  lane_at : (j : ℕ) (other : Lane K) → slice_get new j ≡ Some other → j ≡ index → other ≡ moved
  lane_at j other is same = let both : Some other ≡ Some moved = sym is ∙ ap (slice_get new) same ∙ moved_is in cc

  -- its table goes on
  pub pass_on : moved.stands ≡ true → GoesOn order files l.placed moved.walk l.passed l.here → IsMerging order files logged recorded tables new next begun summaries More
  pass_on up goes = record {
    row = row;
    last_is = last_more;
    old = old_more;
    inside = inside_more;
    came_open = open_more;
    lanes_are = λ j other is st. elim (cases_eq j index) [
      | inl same ↦ (let P : Lane K → Type 0 = λ a. IsLane order files tables next More a in subst P (sym (lane_at j other is same)) (moved_lane goes))
      | inr apart ↦ other_lane j other apart (same_lane j other apart is) st
    ];
    apart = λ i j a b x y s t e. apart_new i j a b x y s t e;
    open_are = λ j other is st. elim (cases_eq j index) [
      | inl same ↦ (let e = lane_at j other is same in ap (λ (a : Lane K). slice_get begun a.place) e ∙ ap (slice_get begun) place_is ∙ m.open_are index lane lane_is stands)
      | inr apart ↦ m.open_are j other (same_lane j other apart is) st
    ];
    waits = waits_more;
    due = λ place placed at. elim (m.due place placed at) [
      | inl waits ↦ inl waits
      | inr (inl (i, other, is, st, there)) ↦ elim (cases_eq i index) [
        | inl same ↦ (let both : Some other ≡ Some lane = sym is ∙ ap (slice_get lanes) same ∙ lane_is in let one : other ≡ lane = cc in inr (inl (index, moved, moved_is, up, place_is ∙ ap (λ (a : Lane K). a.place) (sym one) ∙ there)))
        | inr apart ↦ inr (inl (i, other, others i apart ∙ is, st, there))
      ]
      | inr (inr (entries, merged, count)) ↦ inr (inr (entries, merged_more order files came (came_of lane l.here) place placed entries merged, count))
    ];
  }
    where
      apart_new : (i j : ℕ) (a b : Lane K) → slice_get new i ≡ Some a → slice_get new j ≡ Some b → a.stands ≡ true → b.stands ≡ true → a.place ≡ b.place → i ≡ j
      apart_new i j a b x y s t e = elim (cases_eq i index) [
        | inl p ↦ elim (cases_eq j index) [
          | inl q ↦ p ∙ sym q
          | inr other ↦ (let f = ap (λ (c : Lane K). c.place) (lane_at i a x p) ∙ place_is in p ∙ m.apart index j lane b lane_is (same_lane j b other y) stands t (sym f ∙ e))
        ]
        | inr other ↦ elim (cases_eq j index) [
          | inl q ↦ (let f = ap (λ (c : Lane K). c.place) (lane_at j b y q) ∙ place_is in m.apart i index a lane (same_lane i a other x) lane_is s stands (e ∙ f) ∙ sym q)
          | inr apart ↦ m.apart i j a b (same_lane i a other x) (same_lane j b apart y) s t e
        ]
      ]

  -- that was its last one
  pub pass_end : moved.stands ≡ false → HasTable order files (content_of l.placed (l.passed ++ l.here ∷ [])) → (counted : List TableSummary)
      → slice_get counted lane.place ≡ Some (table_summary (content_of l.placed (l.passed ++ l.here ∷ []))) → ((place : ℕ) → (place ≡ lane.place → ⊥) → slice_get counted place ≡ slice_get summaries place)
      → IsMerging order files logged recorded tables new next begun counted More
  pass_end down has counted here elsewhere = record {
    row = row;
    last_is = last_more;
    old = old_more;
    inside = inside_more;
    came_open = open_more;
    lanes_are = λ j other is st. elim (cases_eq j index) [
      | inl same ↦ absurd (ended j other is same st)
      | inr apart ↦ other_lane j other apart (same_lane j other apart is) st
    ];
    apart = λ i j a b x y s t e. elim (cases_eq i index) [
      | inl p ↦ absurd (ended i a x p s)
      | inr other ↦ elim (cases_eq j index) [ inl q ↦ absurd (ended j b y q t) | inr apart ↦ m.apart i j a b (same_lane i a other x) (same_lane j b apart y) s t e ]
    ];
    open_are = λ j other is st. elim (cases_eq j index) [
      | inl same ↦ absurd (ended j other is same st)
      | inr apart ↦ m.open_are j other (same_lane j other apart is) st
    ];
    waits = waits_more;
    due = λ place placed at. elim (cases_eq place lane.place) [
      | inl same ↦ done place placed at same
      | inr away ↦ elim (m.due place placed at) [
        | inl waits ↦ inl waits
        | inr (inl (i, other, is, st, there)) ↦ elim (cases_eq i index) [
          | inl same ↦ (let both : Some other ≡ Some lane = sym is ∙ ap (slice_get lanes) same ∙ lane_is in let one : other ≡ lane = cc in absurd (away (sym there ∙ ap (λ (a : Lane K). a.place) one)))
          | inr apart ↦ inr (inl (i, other, others i apart ∙ is, st, there))
        ]
        | inr (inr (entries, merged, count)) ↦ inr (inr (entries, merged_more order files came (came_of lane l.here) place placed entries merged, elsewhere place away ∙ count))
      ]
    ];
  }
    where
      ended : (j : ℕ) (other : Lane K) → slice_get new j ≡ Some other → j ≡ index → other.stands ≡ true → ⊥
      ended j other is same st = let bad : false ≡ true = sym down ∙ ap (λ (a : Lane K). a.stands) (sym (lane_at j other is same)) ∙ st in absurd cc

      done : (place : ℕ) (placed : PlacedTable) → slice_get tables place ≡ Some placed → place ≡ lane.place → IsDue order files More new begun counted place placed
      done place placed at same =
          let both : Some placed ≡ Some l.placed = sym at ∙ ap (slice_get tables) same ∙ l.placed_is in
          let one : placed ≡ l.placed = cc in
          let es = l.passed ++ l.here ∷ [] in
          let D : ℕ → PlacedTable → Type 0 = λ n p. IsDue order files More new begun counted n p in
          let level = l.level in
          let merged : WasMerged order files More lane.place l.placed es = record { has = has; come = λ e i. (let back = sym level in subst (λ (v : ℕ). Among More (record { place = lane.place; level = v; entry = e })) back (came_push e i)) } in
          subst (λ (n : ℕ). D n placed) (sym same) (subst (λ (p : PlacedTable). D lane.place p) (sym one) (inr (inr (es, merged, here))))

-- ---- a table is begun

module _ {K : Type 0} (order : Order) (o : IsTotalOrder order.cmp) (files : Files) (logged : List Entry) (recorded : ℕ) (tables : List PlacedTable) (lanes new : List (Lane K)) (last : Last) (begun other_begun : List Bool) (summaries : List TableSummary)
    (came : List Came) (m : IsMerging order files logged recorded tables lanes last begun summaries came) (place : ℕ) (placed : PlacedTable) (at : slice_get tables place ≡ Some placed) (waits : slice_get begun place ≡ Some false)
    (lane : Lane K) (place_is : lane.place ≡ place) (level_is : lane.level ≡ placed.level) (up : lane.stands ≡ true) (here : Entry) (passes : Passes order files placed lane.walk [] here) (small : IsSmallest placed here)
    (index : ℕ) (lane_is : slice_get new index ≡ Some lane) (others : (j : ℕ) → (j ≡ index → ⊥) → slice_get new j ≡ slice_get lanes j) (free : (old : Lane K) → slice_get lanes index ≡ Some old → old.stands ≡ true → ⊥)
    (now_begun : slice_get other_begun place ≡ Some true) (same_begun : (p : ℕ) → (p ≡ place → ⊥) → slice_get other_begun p ≡ slice_get begun p) where
  is_lane : (j : ℕ) (other : Lane K) → slice_get new j ≡ Some other → j ≡ index → other ≡ lane
  is_lane j other is same = let both : Some other ≡ Some lane = sym is ∙ ap (slice_get new) same ∙ lane_is in cc

  old_lane : (j : ℕ) (other : Lane K) → slice_get new j ≡ Some other → (j ≡ index → ⊥) → slice_get lanes j ≡ Some other
  old_lane j other is apart = sym (others j apart) ∙ is

  -- what was begun is another table
  elsewhere : (p : ℕ) → slice_get begun p ≡ Some true → p ≡ place → ⊥
  elsewhere p is same = let bad : Some true ≡ Some false = sym is ∙ ap (slice_get begun) same ∙ waits in cc

  new_lane : IsLane order files tables last came lane
  new_lane = record {
    placed = placed;
    placed_is = ap (slice_get tables) place_is ∙ at;
    level = sym level_is;
    passed = [];
    here = here;
    passes = passes;
    come = λ e i. absurd i;
    front = λ c i same. absurd (elsewhere c.place (m.came_open c i) (same ∙ place_is));
    behind = λ some before. m.waits place placed small.0 at waits small.1 some
        (same_before order (stamp lane.walk.head.user.items lane.walk.head.sequence) (stamp last.head.user.items last.head.sequence) (stamp small.0.user small.0.sequence) (stamp last.head.user.items last.head.sequence)
        (sym passes.head.0 ∙ sym small.2) (sym passes.head.1 ∙ sym small.3) refl refl before);
  }

  pub table_begins : IsMerging order files logged recorded tables new last other_begun summaries came
  table_begins = record {
    row = m.row;
    last_is = m.last_is;
    old = m.old;
    inside = m.inside;
    came_open = λ c i. same_begun c.place (elsewhere c.place (m.came_open c i)) ∙ m.came_open c i;
    lanes_are = λ j other is st. elim (cases_eq j index) [
      | inl same ↦ (let P : Lane K → Type 0 = λ a. IsLane order files tables last came a in subst P (sym (is_lane j other is same)) new_lane)
      | inr apart ↦ m.lanes_are j other (old_lane j other is apart) st
    ];
    apart = apart_new;
    open_are = λ j other is st. elim (cases_eq j index) [
      | inl same ↦ ap (λ (a : Lane K). slice_get other_begun a.place) (is_lane j other is same) ∙ ap (slice_get other_begun) place_is ∙ now_begun
      | inr apart ↦ (let known = m.open_are j other (old_lane j other is apart) st in same_begun other.place (elsewhere other.place known) ∙ known)
    ];
    waits = λ p q key there is k. elim (cases_eq p place) [
      | inl same ↦ absurd (let bad : Some true ≡ Some false = sym now_begun ∙ ap (slice_get other_begun) (sym same) ∙ is in cc)
      | inr apart ↦ m.waits p q key there (sym (same_begun p apart) ∙ is) k
    ];
    due = λ p q there. elim (cases_eq p place) [
      | inl same ↦ inr (inl (index, lane, lane_is, up, place_is ∙ sym same))
      | inr apart ↦ elim (m.due p q there) [
        | inl unbegun ↦ inl (same_begun p apart ∙ unbegun)
        | inr (inl (i, other, is, st, that)) ↦ elim (cases_eq i index) [
          | inl same ↦ absurd (free other (sym (ap (slice_get lanes) same) ∙ is) st)
          | inr away ↦ inr (inl (i, other, others i away ∙ is, st, that))
        ]
        | inr (inr merged) ↦ inr (inr merged)
      ]
    ];
  }
    where
      apart_new : (i j : ℕ) (a b : Lane K) → slice_get new i ≡ Some a → slice_get new j ≡ Some b → a.stands ≡ true → b.stands ≡ true → a.place ≡ b.place → i ≡ j
      apart_new i j a b x y s t e = elim (cases_eq i index) [
        | inl p ↦ elim (cases_eq j index) [
          | inl q ↦ p ∙ sym q
          | inr other ↦ absurd (elsewhere b.place (m.open_are j b (old_lane j b y other) t) (sym e ∙ ap (λ (c : Lane K). c.place) (is_lane i a x p) ∙ place_is))
        ]
        | inr other ↦ elim (cases_eq j index) [
          | inl q ↦ absurd (elsewhere a.place (m.open_are i a (old_lane i a x other) s) (e ∙ ap (λ (c : Lane K). c.place) (is_lane j b y q) ∙ place_is))
          | inr away ↦ m.apart i j a b (old_lane i a x other) (old_lane j b y away) s t e
        ]
      ]

-- ---- the end

same_items : {A : Type 0} (xs ys : List A) → length xs ≡ length ys → ((k : ℕ) (y : A) → slice_get ys k ≡ Some y → slice_get xs k ≡ Some y) → xs ≡ ys
same_items [] [] long h = refl
same_items [] (y ∷ ys) long h = absurd (omega (arith, long))
same_items (x ∷ xs) [] long h = absurd (omega (arith, long))
same_items (x ∷ xs) (y ∷ ys) long h =
    let first : x ≡ y = let both : Some x ≡ Some y = h 0 y refl in cc in
    let rest = same_items xs ys (omega (arith, long)) (λ k z is. h (suc k) z is) in
    λ i. first i ∷ rest i

module _ (order : Order) (o : IsTotalOrder order.cmp) (files : Files) (came : List Came) (row : HaveCome order came) (summaries : List TableSummary) where
  abbrev pub IsDone : ℕ → PlacedTable → Type 0
  IsDone place placed = (entries : List Entry) × WasMerged order files came place placed entries × (slice_get summaries place ≡ Some (table_summary (content_of placed entries)))

  start : (at : ℕ) → at + 0 ≡ at
  start at = omega arith

  shift : (at k : ℕ) → at + suc k ≡ suc at + k
  shift at k = omega arith

  abbrev pub AreDone : ℕ → List PlacedTable → Type 0
  AreDone at left = (k : ℕ) (placed : PlacedTable) → slice_get left k ≡ Some placed → IsDone (at + k) placed

  pub first_done : (at : ℕ) (t : PlacedTable) (left : List PlacedTable) → AreDone at (t ∷ left) → IsDone at t
  first_done at t left f = subst (λ (n : ℕ). IsDone n t) (start at) (f 0 t refl)

  pub rest_done : (at : ℕ) (t : PlacedTable) (left : List PlacedTable) → AreDone at (t ∷ left) → AreDone (suc at) left
  rest_done at t left f k placed is = subst (λ (n : ℕ). IsDone n placed) (shift at k) (f (suc k) placed is)

  abbrev pub all_merged : (at : ℕ) (left : List PlacedTable) → AreDone at left → AreMerged order o files came row at left
  all_merged at [] f = tt
  all_merged at (t ∷ left) f = let first = first_done at t left f in ((first.0, first.1), all_merged (suc at) left (rest_done at t left f))

  counted_at : (at : ℕ) (left : List PlacedTable) (f : AreDone at left) (k : ℕ) (s : TableSummary)
      → slice_get (map table_summary (contents_of order o files came row at left (all_merged at left f))) k ≡ Some s → slice_get summaries (at + k) ≡ Some s
  counted_at at [] f k s is = let bad : None ≡ Some s = is in absurd cc
  counted_at at (t ∷ left) f zero s is = ap (slice_get summaries) (start at) ∙ (first_done at t left f).2 ∙ is
  counted_at at (t ∷ left) f (suc k) s is = ap (slice_get summaries) (shift at k) ∙ counted_at (suc at) left (rest_done at t left f) k s is

  long_contents : (at : ℕ) (left : List PlacedTable) (f : AreDone at left) → length (map table_summary (contents_of order o files came row at left (all_merged at left f))) ≡ length left
  long_contents at [] f = refl
  long_contents at (t ∷ left) f =
      let rest : length (map table_summary (contents_of order o files came row (suc at) left (all_merged (suc at) left (rest_done at t left f)))) ≡ length left = long_contents (suc at) left (rest_done at t left f) in
      omega (arith, rest)

  -- all tables are good, and each is counted
  pub all_good : (logged : List Entry) (recorded : ℕ) (tables : List PlacedTable) → ((c : Came) → Among came c → IsOldEntry logged recorded c.entry) → AreDone 0 tables → length summaries ≡ length tables → AreByLevel tables → HaveRanges order tables
      → (contents : List TableContent) × AreGood order files logged recorded tables contents × (summaries ≡ map table_summary contents)
  all_good logged recorded tables old f long levels ranges =
      let m = all_merged 0 tables f in
      let contents = contents_of order o files came row 0 tables m in (
        contents,
        good_of order o files came row logged recorded old 0 tables m levels ranges,
        same_items summaries (map table_summary contents) (long ∙ sym (long_contents 0 tables f)) (λ k y is. (let zero_is : 0 + k ≡ k = omega arith in ap (slice_get summaries) (sym zero_is) ∙ counted_at 0 tables f k y is)),
      )

-- ---- a lane is put

pub set_same : {A : Type 0} (xs : List A) (n : ℕ) (x : A) → n < length xs → slice_get (slice_set xs n x) n ≡ Some x
set_same [] n x h = absurd (omega (arith, h))
set_same (y ∷ xs) zero x h = refl
set_same (y ∷ xs) (suc n) x h = set_same xs n x (omega (arith, h))

pub set_other : {A : Type 0} (xs : List A) (n i : ℕ) (x : A) → (i ≡ n → ⊥) → slice_get (slice_set xs n x) i ≡ slice_get xs i
set_other [] n i x h = refl
set_other (y ∷ xs) zero zero x h = absurd (h refl)
set_other (y ∷ xs) zero (suc i) x h = refl
set_other (y ∷ xs) (suc n) zero x h = refl
set_other (y ∷ xs) (suc n) (suc i) x h = set_other xs n i x (λ e. h (ap suc e))

pub behind_same : {A : Type 0} (xs : List A) (x : A) → slice_get (xs ++ x ∷ []) (length xs) ≡ Some x
behind_same [] x = refl
behind_same (y ∷ xs) x = behind_same xs x

pub behind_other : {A : Type 0} (xs : List A) (x : A) (i : ℕ) → (i ≡ length xs → ⊥) → slice_get (xs ++ x ∷ []) i ≡ slice_get xs i
behind_other [] x zero h = absurd (h refl)
behind_other [] x (suc i) h = refl
behind_other (y ∷ xs) x zero h = refl
behind_other (y ∷ xs) x (suc i) h = behind_other xs x i (λ e. h (ap suc e))

pub put_in : {K : Type 0} (lanes : List (Lane K)) (index : ℕ) (lane : Lane K) → IsEnded lanes (Some index) → IsPut lanes lane (slice_set lanes index lane)
put_in {K} lanes index lane h = (index, set_same lanes index lane (slice_get_within lanes index h.0 h.1), (λ j other. set_other lanes index j lane other), ended)
  where
    ended : (old : Lane K) → slice_get lanes index ≡ Some old → old.stands ≡ true → ⊥
    ended old is up =
        let both : Some old ≡ Some h.0 = sym is ∙ h.1 in
        let same : old ≡ h.0 = cc in
        let bad : true ≡ false = sym up ∙ ap (λ (a : Lane K). a.stands) same ∙ h.2 in
        absurd cc

pub put_behind : {K : Type 0} (lanes new : List (Lane K)) (lane : Lane K) → new ≡ lanes ++ lane ∷ [] → IsPut lanes lane new
put_behind {K} lanes new lane e = (
  length lanes,
  ap (λ (ls : List (Lane K)). slice_get ls (length lanes)) e ∙ behind_same lanes lane,
  (λ j other. ap (λ (ls : List (Lane K)). slice_get ls j) e ∙ behind_other lanes lane j other),
  (λ old is up. (let lt : length lanes < length lanes = slice_get_within lanes (length lanes) old is in omega (arith, lt))),
)
