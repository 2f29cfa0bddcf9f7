-- One step of a merge of tables: what it finds, and why it is refused.
use Rattle.std.proofs.Common.{◌≡◌, inl, inr, ◌<◌, ℕ, zero, suc, Bool, true, false, List, [], ◌∷◌, map, Some, None, get_or, IsTrue, refl, sym, ap, ◌∙◌, subst, arith}
use Rattle.std.proofs.lemmas.Option.{slice_get_within, get_or_from_slice_get}
use Rattle.std.specs.Prelude.{slice_get}
use Rattle.std.specs.FinMap.{IsAntisymmetric}
use Rattle.std.specs.Cmp.{IsTotalOrder}
use Rattle.coding.specs.declared.error.Damage.{Damage}
use Rattle.coding.specs.declared.error.Damage.TheVariants as damage
use Rattle.coding.specs.declared.error.DbError.{DbError}
use Rattle.coding.specs.declared.error.DbError.TheVariants.{Corrupt}
use Rattle.coding.specs.declared.error.FileKind.{FileKind}
use Rattle.coding.specs.declared.error.FileKind.TheVariants as file
use Rattle.edits.specs.declared.field.PlacedTable.{PlacedTable}
use Rattle.ikey.specs.Orders.{Order}
use Rattle.ikey.specs.Sources.{ComesBefore}
use Rattle.ikey.specs.Views.{Among}
use Rattle.ikey.specs.declared.entry.Entry.{Entry}
use Rattle.store.specs.Files.{Files, Facts}
use Rattle.recover.specs.declared.logged.Logged.{Logged}
use Rattle.recover.specs.declared.merging.Against.{Against}
use Rattle.recover.specs.declared.merging.Lane.{Lane}
use Rattle.recover.specs.declared.merging.Last.{Last}
use Rattle.recover.specs.declared.merging.Merge.{Merge}
use Rattle.recover.specs.declared.report.TableSummary.{TableSummary}
use Rattle.recover.specs.internal.Checks.{Never, IsOnly, AreGood, AreOnly}
use Rattle.recover.specs.internal.Merging.{Came, IsNoNewer, HaveCome, IsOldEntry, IsOfTable, IsLast, IsNotBefore, IsLane, IsMerging, MayComeNext, BreaksNext, AreByLevel, IsLogged, Misplaces}
use Rattle.recover.specs.internal.MergeSteps.{stamps, IsAgainst, IsMid, AreRead, RefusesMerge}
use Rattle.recover.specs.internal.Parts.{IsUnchanged}
use Rattle.recover.specs.internal.Walking.{stamp, Passes, IsOnlyOf, IsToldOf}
use Rattle.recover.specs.Limits.{IsUnsupportedFile, AnyIsUnsupported, TellsUnsupported}
use Rattle.recover.specs.Reading.{RefusesDirectory}
use Rattle.recover.specs.Report.{IsLongTable, table_summary}
use Rattle.recover.specs.Tables.{TableContent}
use Rattle.recover.proofs.Ages.{not_recorded, not_older, not_behind}
use Rattle.recover.proofs.GoodTables.{only_at}
use Rattle.recover.proofs.Merged.{came_of, row_more, same_before}
use Rattle.recover.proofs.NotSupported.{any_at, told_later}
use Rattle.recover.proofs.PairChecks.{newer_from, newer_to}
use Rattle.recover.proofs.Passing.{passes_inside}
use Rattle.recover.proofs.Refused.{refuses_later, unchanged_itself}

-- ---- what is logged

among_stamps : (logged : List Logged) (i : ℕ) (a : Logged) → slice_get logged i ≡ Some a → Among (stamps logged) (stamp a.key.now a.sequence)
among_stamps [] i a is = let bad : None ≡ Some a = is in absurd cc
among_stamps (l ∷ logged) zero a is =
    let same : a ≡ l = let both : Some l ≡ Some a = is in cc in
    inl (λ i. stamp (same i).key.now (same i).sequence)
among_stamps (l ∷ logged) (suc i) a is = inr (among_stamps logged i a is)

stamped : (logged : List Logged) (s : Entry) → Among (stamps logged) s → (i : ℕ) × (a : Logged) × (slice_get logged i ≡ Some a) × (s ≡ stamp a.key.now a.sequence)
stamped [] s i = absurd i
stamped (l ∷ logged) s (inl same) = (0, l, refl, same)
stamped (l ∷ logged) s (inr i) = let r = stamped logged s i in (suc r.0, r.1, r.2, r.3)

-- each of the second has one of the first of its key and sequence number
abbrev Covers : List Entry → List Entry → Type 0
Covers xs ys = (y : Entry) → Among ys y → (x : Entry) × Among xs x × (x.key ≡ y.key) × (x.sequence ≡ y.sequence)

good_by : (order : Order) (files : Files) (xs ys : List Entry) (recorded : ℕ) (tables : List PlacedTable) (contents : List TableContent) → Covers xs ys → AreGood order files xs recorded tables contents → AreGood order files ys recorded tables contents
good_by order files xs ys recorded [] [] f g = tt
good_by order files xs ys recorded [] (c ∷ contents) f g = absurd g
good_by order files xs ys recorded (t ∷ tables) [] f g = absurd g
good_by order files xs ys recorded (t ∷ tables) (c ∷ contents) f g = (
  g.0,
  g.1,
  record {
    newer = newer_to ys c.entries (λ y e i j key. (let x = f y i in let lt = newer_from xs c.entries g.2.newer x.0 e x.1 j (x.2 ∙ key) in omega (arith, lt, x.3)));
    sequences = g.2.sequences;
  },
  g.3,
  good_by order files xs ys recorded tables contents f g.4,
)

pub logged_stamps : (order : Order) (entries : List Entry) (logged : List Logged) → IsLogged order entries logged → IsLogged order (stamps logged) logged
logged_stamps order entries logged h = record {
  sorted = h.sorted;
  all = λ s i. (let r = stamped logged s i in let e = r.3 in (r.0, r.1, r.2, (ap (λ (x : Entry). x.key) (sym e), ap (λ (x : Entry). x.sequence) (sym e))));
  only = λ i note at. (stamp note.key.now note.sequence, among_stamps logged i note at, (refl, refl));
}

good_stamps : (order : Order) (files : Files) (entries : List Entry) (logged : List Logged) (recorded : ℕ) (tables : List PlacedTable) (contents : List TableContent) → IsLogged order entries logged
    → AreGood order files entries recorded tables contents → AreGood order files (stamps logged) recorded tables contents
good_stamps order files entries logged recorded tables contents h =
    good_by order files entries (stamps logged) recorded tables contents (λ s i.
    let r = stamped logged s i in
    let o = h.only r.0 r.1 r.2 in
    (o.0, o.1, sym o.2.0 ∙ ap (λ (x : Entry). x.key) (sym r.3), sym o.2.1 ∙ ap (λ (x : Entry). x.sequence) (sym r.3)))

good_entries : (order : Order) (files : Files) (entries : List Entry) (logged : List Logged) (recorded : ℕ) (tables : List PlacedTable) (contents : List TableContent) → IsLogged order entries logged
    → AreGood order files (stamps logged) recorded tables contents → AreGood order files entries recorded tables contents
good_entries order files entries logged recorded tables contents h =
    good_by order files (stamps logged) entries recorded tables contents (λ e i.
    let r = h.all e i in
    (stamp r.1.key.now r.1.sequence, among_stamps logged r.0 r.1 r.2, r.3.0, r.3.1))

-- what was read is good beside the entries themselves
pub read_good : {K : Type 0} (order : Order) (files : Files) (against : Against) (entries : List Entry) (merge : Merge K) → IsLogged order entries against.logged.now → AreRead order files against merge
    → (contents : List TableContent) × AreGood order files entries against.recorded against.tables.now contents × (merge.summaries.items ≡ map table_summary contents)
read_good order files against entries merge h r = (r.0, good_entries order files entries against.logged.now against.recorded against.tables.now r.0 h r.1, r.2)

pub read_refused : (order : Order) (e : DbError) (a b : Facts) (against : Against) (entries : List Entry) → IsLogged order entries against.logged.now → RefusesMerge e order a b against
    → RefusesDirectory e a b (AreOnly Never order a.files entries against.recorded against.tables.now) (AreOnly (IsLongTable order) order a.files entries against.recorded against.tables.now)
read_refused order e a b against entries h r =
    let S : (List ℕ → Type 0) → Type 0 = λ is. AreOnly is order a.files (stamps against.logged.now) against.recorded against.tables.now in
    let E : (List ℕ → Type 0) → Type 0 = λ is. AreOnly is order a.files entries against.recorded against.tables.now in
    let each : (is : List ℕ → Type 0) → IsTrue b.faithful → S is → E is = λ is t only contents good. only contents (good_stamps order a.files entries against.logged.now against.recorded against.tables.now contents h good) in
    refuses_later e a a b (S Never) (S (IsLongTable order)) (E Never) (E (IsLongTable order)) (unchanged_itself a) (each Never) (each (IsLongTable order)) r

-- ---- the entry at which a lane stands

module _ {K : Type 0} (order : Order) (o : IsTotalOrder order.cmp) (files : Files) (logged : List Entry) (recorded : ℕ) (tables : List PlacedTable) (lanes : List (Lane K)) (last : Last) (begun : List Bool) (summaries : List TableSummary) (came : List Came)
    (m : IsMerging order files logged recorded tables lanes last begun summaries came) (lane : Lane K) (l : IsLane order files tables last came lane) where
  abbrev Next : Came
  Next = came_of lane l.here

  not_front : IsNotBefore order last l.here
  not_front some before =
      l.behind some (same_before order l.here (stamp last.head.user.items last.head.sequence) (stamp lane.walk.head.user.items lane.walk.head.sequence) (stamp last.head.user.items last.head.sequence) l.passes.head.0 l.passes.head.1 refl refl before)

  here_of : IsOfTable order files tables Next
  here_of = record { placed = l.placed; placed_is = l.placed_is; level = l.level; inside = passes_inside order files l.placed lane.walk l.passed l.here l.passes }

  pub row_next : IsAntisymmetric order.cmp → MayComeNext last lane → HaveCome order (came_of lane l.here ∷ came)
  row_next exact may = row_more order o exact last came Next m.row m.last_is not_front (λ some c head place level key.
      let n = may some (sym head.0 ∙ key ∙ l.passes.head.0) in
      let newer : l.here.sequence < c.entry.sequence = omega (arith, n.0, head.1, l.passes.head.1) in
      let p = sym place in
      let v = sym level in
      (newer, subst (λ (a : ℕ). IsNoNewer a c.place lane.level lane.place) v (subst (λ (b : ℕ). IsNoNewer last.level b lane.level lane.place) p n.1)))

  pub old_here : IsOldEntry logged recorded (stamp lane.walk.head.user.items lane.walk.head.sequence) → IsOldEntry logged recorded l.here
  old_here h = record {
    newer = λ s i key. (let lt = h.newer s i (key ∙ l.passes.head.0) in omega (arith, lt, l.passes.head.1));
    sequence = omega (arith, h.sequence, l.passes.head.1);
  }

  broken : (cs : List Came) → IsLast last cs → ((c : Came) → Among cs c → IsOfTable order files tables c) → ((c : Came) → Among cs c → c.place ≡ lane.place → ComesBefore order c.entry l.here) → AreByLevel tables → BreaksNext last lane
      → (contents : List TableContent) → AreGood order files logged recorded tables contents → ⊥
  broken [] none inside front levels b contents g = let bad : false ≡ true = sym none ∙ b.0 in cc
  broken (c ∷ before) is inside front levels b contents g =
      not_behind order files logged recorded o tables contents c Next levels (inside c (inl refl)) here_of (front c (inl refl))
      (λ k. not_front is.0 (same_before order l.here c.entry l.here (stamp last.head.user.items last.head.sequence) refl refl is.1.0 is.1.1 k)) (
        is.1.0 ∙ b.1 ∙ sym l.passes.head.0,
        λ n. (
            let p = is.2 in
            let v = is.3 in
            let newer : lane.walk.head.sequence < last.head.sequence = omega (arith, n.0, is.1.1, l.passes.head.1) in
            b.2 (newer, subst (λ (y : ℕ). IsNoNewer y last.place lane.level lane.place) v (subst (λ (x : ℕ). IsNoNewer c.level x lane.level lane.place) p n.1))),
      )
      g

  pub misplaced : AreByLevel tables → (e : DbError) → Misplaces logged recorded last lane e → (contents : List TableContent) → AreGood order files logged recorded tables contents → ⊥
  misplaced levels e (inl (is, above)) contents g = not_recorded order files logged recorded tables contents Next here_of (λ le. omega (arith, le, above, l.passes.head.1)) g
  misplaced levels e (inr (inl (is, (s, i, key, le)))) contents g =
      not_older order files logged recorded tables contents Next s here_of i (key ∙ sym l.passes.head.0) (λ lt. omega (arith, lt, le, l.passes.head.1)) g
  misplaced levels e (inr (inr (is, b))) contents g = broken came m.last_is m.inside l.front levels b contents g

-- ---- refusals

abbrev Only : (List ℕ → Type 0) → Order → Files → Against → Type 0
Only is order files against = AreOnly is order files (stamps against.logged.now) against.recorded against.tables.now

-- where other tables were read before
pub merge_later : (order : Order) (e : DbError) (a b c : Facts) (against : Against) → IsUnchanged a b → IsUnchanged b c → RefusesMerge e order b c against → RefusesMerge e order a c against
merge_later order e a b c against h k r =
    let each : (is : List ℕ → Type 0) → IsTrue c.faithful → Only is order b.files against → Only is order a.files against = λ is t only. subst (λ (fs : Files). Only is order fs against) (h.same (k.faithful t)) only in
    refuses_later e a b c (Only Never order b.files against) (Only (IsLongTable order) order b.files against) (Only Never order a.files against) (Only (IsLongTable order) order a.files against) h (each Never) (each (IsLongTable order)) r

pub told_merge_later : (order : Order) (e : DbError) (a b c : Facts) (against : Against) → IsUnchanged a b → IsUnchanged b c → TellsUnsupported e c (AnyIsUnsupported order b.files against.tables.now) → TellsUnsupported e c (AnyIsUnsupported order a.files against.tables.now)
told_merge_later order e a b c against h k r =
    told_later e c (AnyIsUnsupported order b.files against.tables.now) (AnyIsUnsupported order a.files against.tables.now)
    (λ t u. subst (λ (fs : Files). AnyIsUnsupported order fs against.tables.now) (h.same (k.faithful t)) u) r

only_get : (is : List ℕ → Type 0) (order : Order) (files : Files) (logged : List Entry) (recorded : ℕ) (tables : List PlacedTable) (n : ℕ) (placed : PlacedTable) → slice_get tables n ≡ Some placed → IsOnly is order files placed → AreOnly is order files logged recorded tables
only_get is order files logged recorded tables n placed at only =
    let same : get_or tables n placed ≡ placed = get_or_from_slice_get tables n placed placed at in
    only_at is order files logged recorded tables n placed (slice_get_within tables n placed at) (subst (λ (p : PlacedTable). IsOnly is order files p) (sym same) only)

any_get : (order : Order) (files : Files) (tables : List PlacedTable) (n : ℕ) (placed : PlacedTable) → slice_get tables n ≡ Some placed → IsUnsupportedFile order files placed → AnyIsUnsupported order files tables
any_get order files tables n placed at u =
    let same : get_or tables n placed ≡ placed = get_or_from_slice_get tables n placed placed at in
    any_at order files tables n placed (slice_get_within tables n placed at) (subst (λ (p : PlacedTable). IsUnsupportedFile order files p) (sym same) u)

-- the table of this place isn't read
pub table_refused : (order : Order) (e : DbError) (a b : Facts) (against : Against) (n : ℕ) (placed : PlacedTable) → slice_get against.tables.now n ≡ Some placed
    → RefusesDirectory e a b (IsOnly Never order a.files placed) (IsOnly (IsLongTable order) order a.files placed) → RefusesMerge e order a b against
table_refused order e a b against n placed at r =
    refuses_later e a a b (IsOnly Never order a.files placed) (IsOnly (IsLongTable order) order a.files placed) (Only Never order a.files against) (Only (IsLongTable order) order a.files against) (unchanged_itself a)
    (λ t only. only_get Never order a.files (stamps against.logged.now) against.recorded against.tables.now n placed at only)
    (λ t only. only_get (IsLongTable order) order a.files (stamps against.logged.now) against.recorded against.tables.now n placed at only) r

pub table_told : (order : Order) (e : DbError) (a b : Facts) (against : Against) (n : ℕ) (placed : PlacedTable) → slice_get against.tables.now n ≡ Some placed
    → TellsUnsupported e b (IsUnsupportedFile order a.files placed) → TellsUnsupported e b (AnyIsUnsupported order a.files against.tables.now)
table_told order e a b against n placed at r =
    told_later e b (IsUnsupportedFile order a.files placed) (AnyIsUnsupported order a.files against.tables.now) (λ t u. any_get order a.files against.tables.now n placed at u) r

-- the walk of this lane isn't read on
module _ {K : Type 0} (order : Order) (a b : Facts) (against : Against) (merge : Merge K) (index : ℕ) (lane : Lane K) (placed : PlacedTable) (lane_is : slice_get merge.lanes.items index ≡ Some lane) (stands : lane.stands ≡ true)
    (placed_is : slice_get against.tables.now lane.place ≡ Some placed) (mid : IsTrue b.faithful → IsMid order a.files against merge) where
  same_placed : (came : List Came) (l : IsLane order a.files against.tables.now merge.last came lane) → l.placed ≡ placed
  same_placed came l = let both : Some l.placed ≡ Some placed = sym l.placed_is ∙ placed_is in cc

  passes_here : IsTrue b.faithful → (passed : List Entry) × (here : Entry) × Passes order a.files placed lane.walk passed here
  passes_here t =
      let m = mid t in
      let l = m.1.lanes_are index lane lane_is stands in
      (l.passed, l.here, subst (λ (p : PlacedTable). Passes order a.files p lane.walk l.passed l.here) (same_placed m.0 l) l.passes)

  pub walk_refused : (e : DbError) → RefusesDirectory e a b (IsOnlyOf Never order a.files placed lane.walk) (IsOnlyOf (IsLongTable order) order a.files placed lane.walk) → RefusesMerge e order a b against
  walk_refused e r =
      table_refused order e a b against lane.place placed placed_is
      (refuses_later e a a b (IsOnlyOf Never order a.files placed lane.walk) (IsOnlyOf (IsLongTable order) order a.files placed lane.walk) (IsOnly Never order a.files placed) (IsOnly (IsLongTable order) order a.files placed) (unchanged_itself a)
      (λ t only. (let h = passes_here t in only h.0 h.1 h.2)) (λ t only. (let h = passes_here t in only h.0 h.1 h.2)) r)

  pub walk_told : (e : DbError) → TellsUnsupported e b (IsToldOf order a.files placed lane.walk) → TellsUnsupported e b (AnyIsUnsupported order a.files against.tables.now)
  walk_told e r =
      table_told order e a b against lane.place placed placed_is
      (told_later e b (IsToldOf order a.files placed lane.walk) (IsUnsupportedFile order a.files placed) (λ t told. (let h = passes_here t in told h.0 h.1 h.2)) r)

-- ---- an entry that may not stand where it does

corrupt_of : {K : Type 0} (entries : List Entry) (recorded : ℕ) (last : Last) (lane : Lane K) (e : DbError) → Misplaces entries recorded last lane e → (file : FileKind) × (what : Damage) × (e ≡ Corrupt file what)
corrupt_of entries recorded last lane e (inl h) = (file.Table, damage.Number, h.0)
corrupt_of entries recorded last lane e (inr (inl h)) = (file.Log, damage.Order, h.0)
corrupt_of entries recorded last lane e (inr (inr h)) = (file.Table, damage.Order, h.0)

pub judge_refused : {K : Type 0} (order : Order) → IsTotalOrder order.cmp → (e : DbError) (a b : Facts) (against : Against) (merge : Merge K) (index : ℕ) (lane : Lane K) → IsAgainst order against → slice_get merge.lanes.items index ≡ Some lane
    → lane.stands ≡ true → (IsTrue b.faithful → IsMid order a.files against merge) → Misplaces (stamps against.logged.now) against.recorded merge.last lane e → RefusesMerge e order a b against
judge_refused order o e a b against merge index lane sound at stands mid h =
    let c = corrupt_of (stamps against.logged.now) against.recorded merge.last lane e h in
    subst (λ (x : DbError). RefusesMerge x order a b against) (sym c.2) (λ t contents g.
    let m = mid t in
    let l = m.1.lanes_are index lane at stands in
    absurd (misplaced order o a.files (stamps against.logged.now) against.recorded against.tables.now merge.lanes.items merge.last merge.begun.items merge.summaries.items m.0 m.1 lane l sound.levels e h contents g))

pub judge_told : {K : Type 0} (entries : List Entry) (recorded : ℕ) (last : Last) (lane : Lane K) (e : DbError) (b : Facts) (W : Type 0) → Misplaces entries recorded last lane e → TellsUnsupported e b W
judge_told entries recorded last lane e b W h = let c = corrupt_of entries recorded last lane e h in subst (λ (x : DbError). TellsUnsupported x b W) (sym c.2) tt
