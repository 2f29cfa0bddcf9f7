-- Outputs instead of inputs.
use Rattle.std.proofs.Common.{◌≡◌, inl, inr, List, [], ◌∷◌, ◌++◌, ℕ, ◌<◌, ◌≤◌, is_some, refl, sym, ap, ◌∙◌, subst, arith}
use Rattle.ikey.specs.Orders.{Order}
use Rattle.store.specs.Files.{Files}
use Rattle.edits.specs.declared.field.Field.{Field}
use Rattle.edits.specs.declared.layout.Layout.{Layout}
use Rattle.ikey.specs.declared.entry.Entry.{Entry}
use Rattle.ikey.specs.Views.{Among}
use Rattle.ikey.specs.Sources.{ComesBefore, AreSorted, SameEntries}
use Rattle.recover.specs.Tables.{TableContent, HasTable, HasTables, InTables, tabled, LieApart, AreNewer, AreTwoTables, AreTables}
use Rattle.recover.specs.Logs.{IsLive, logged}
use Rattle.recover.specs.Directory.{HasManifest, Directory, IsConsistent}
use Rattle.recover.specs.internal.Changes.{AgreeBeside, IsCompaction, compacted, CompactionLaw}
use Rattle.recover.specs.Replacing.{AreParted}
use Rattle.recover.proofs.Keeping.{keep_tables, keep_logs, live_of, same_live, all_live}
use Rattle.recover.proofs.Adding.{among_split}
use Rattle.recover.proofs.Memberships.{among_front, among_back, from_tabled, to_tabled, each_table, one_of_tables, in_part, from_rest, among_contents, among_chosen, among_rest}

-- ---- two tables in any part

rest_tables : (order : Order) (contents chosen rest : List TableContent) → AreParted contents chosen rest → AreTables order contents → AreTables order rest
rest_tables order [] chosen rest h k = let P : List TableContent → Type 0 = λ ts. AreTables order ts in subst P (sym h.1) tt
rest_tables order (c ∷ contents) chosen rest (inl h) k = rest_tables order contents h.0 rest h.2 k.1
rest_tables order (c ∷ contents) chosen rest (inr h) k =
    let P : List TableContent → Type 0 = λ ts. AreTables order ts in
    subst P (sym h.1) (λ other i. k.0 other (from_rest contents chosen h.0 other h.2 i), rest_tables order contents chosen h.0 h.2 k.1)

parted_tables : (order : Order) (contents chosen rest : List TableContent) → AreParted contents chosen rest → AreTables order chosen → AreTables order rest
    → ((c r : TableContent) → InTables chosen c → InTables rest r → AreTwoTables order c r × AreTwoTables order r c) → AreTables order contents
parted_tables order [] chosen rest h k l both = tt
parted_tables order (c ∷ contents) chosen rest (inl h) k l both =
    let P : List TableContent → Type 0 = λ ts. AreTables order ts in
    let Q : List TableContent → Type 0 = λ ts. (x r : TableContent) → InTables ts x → InTables rest r → AreTwoTables order x r × AreTwoTables order r x in
    let k' : AreTables order (c ∷ h.0) = subst P h.1 k in
    let both' : (x r : TableContent) → InTables (c ∷ h.0) x → InTables rest r → AreTwoTables order x r × AreTwoTables order r x = subst Q h.1 both in
    let each : (other : TableContent) → InTables contents other → AreTwoTables order c other = λ other i.
    elim (in_part contents h.0 rest other h.2 i) [
      | inl j ↦ k'.0 other j
      | inr j ↦ (both' c other (inl refl) j).0
    ] in
    (each, parted_tables order contents h.0 rest h.2 k'.1 l (λ x r i j. both' x r (inr i) j))
parted_tables order (c ∷ contents) chosen rest (inr h) k l both =
    let P : List TableContent → Type 0 = λ ts. AreTables order ts in
    let Q : List TableContent → Type 0 = λ ts. (x r : TableContent) → InTables chosen x → InTables ts r → AreTwoTables order x r × AreTwoTables order r x in
    let l' : AreTables order (c ∷ h.0) = subst P h.1 l in
    let both' : (x r : TableContent) → InTables chosen x → InTables (c ∷ h.0) r → AreTwoTables order x r × AreTwoTables order r x = subst Q h.1 both in
    let each : (other : TableContent) → InTables contents other → AreTwoTables order c other = λ other i.
    elim (in_part contents chosen h.0 other h.2 i) [
      | inl j ↦ (both' other c j (inl refl)).1
      | inr j ↦ l'.0 other j
    ] in
    (each, parted_tables order contents chosen h.0 h.2 k l'.1 (λ x r i j. both' x r i (inr j)))

-- ---- tables of one level, in order

sorted_back : (order : Order) (xs ys : List Entry) → AreSorted order (xs ++ ys) → AreSorted order ys
sorted_back order [] ys h = h
sorted_back order (x ∷ xs) ys h = sorted_back order xs ys h.1

sorted_before : (order : Order) (xs ys : List Entry) (e f : Entry) → AreSorted order (xs ++ ys) → Among xs e → Among ys f → ComesBefore order e f
sorted_before order [] ys e f h i j = absurd i
sorted_before order (x ∷ xs) ys e f h (inl s) j = let P : Entry → Type 0 = λ g. ComesBefore order g f in subst P (sym s) (h.0 f (among_back xs ys f j))
sorted_before order (x ∷ xs) ys e f h (inr i) j = sorted_before order xs ys e f h.1 i j

level_tables : (order : Order) (level : ℕ) (contents : List TableContent) → 0 < level → ((content : TableContent) → InTables contents content → content.placed.level ≡ level) → AreSorted order (tabled contents) → AreTables order contents
level_tables order level [] some levels h = tt
level_tables order level (c ∷ contents) some levels h =
    let here : c.placed.level ≡ level = levels c (inl refl) in
    let each : (other : TableContent) → InTables contents other → AreTwoTables order c other = λ other i.
    let there : other.placed.level ≡ level = levels other (inr i) in (
      λ lt. absurd (omega (arith, lt, here, there)),
      λ same pos. inl (λ e f p q. sorted_before order c.entries (tabled contents) e f h p (to_tabled contents other f i q)),
      λ a b. absurd (omega (arith, a, here, some)),
    ) in
    (each, level_tables order level contents some (λ o i. levels o (inr i)) (sorted_back order c.entries (tabled contents) h))

-- ---- all of it

module _ (order : Order) (old new : Files) (d : Directory) (edits : List (List Field)) (next : Layout) (inputs rest outputs contents : List TableContent) (level : ℕ)
    (h : IsConsistent order old d) (m : HasManifest order new d.manifest edits next) (a : AgreeBeside old new d)
    (has : (output : TableContent) → InTables outputs output → HasTable order new output) (c : IsCompaction order d next inputs rest outputs contents level) where
  -- an entry of an output is one of an input
  from_input : (output : TableContent) (e : Entry) → InTables outputs output → Among output.entries e → (input : TableContent) × InTables inputs input × Among input.entries e
  from_input output e i p = from_tabled inputs e (c.taken e (to_tabled outputs output e i p))

  newer_than : (stays output : TableContent) → InTables rest stays → InTables outputs output → stays.placed.level < level → AreNewer stays output
  newer_than stays output i j lt e f p q key = let t = from_input output f j q in c.replaceable.newer stays t.0 i t.1 lt e f p t.2 key

  older_than : (stays output : TableContent) → InTables rest stays → InTables outputs output → level < stays.placed.level → AreNewer output stays
  older_than stays output i j lt e f p q key = let t = from_input output e j p in c.replaceable.older stays t.0 i t.1 lt e f t.2 q key

  beside : (stays output : TableContent) → InTables rest stays → InTables outputs output → stays.placed.level ≡ level → LieApart order stays output
  beside stays output i j same =
      elim (c.replaceable.beside stays i same) [
        | inl below ↦ inl (λ e f p q. below e f p (c.taken f (to_tabled outputs output f j q)))
        | inr above ↦ inr (λ e f p q. above e f p (c.taken f (to_tabled outputs output f j q)))
      ]

  turned : (x y : TableContent) → LieApart order x y → LieApart order y x
  turned x y (inl k) = inr (λ e f p q. k f e q p)
  turned x y (inr k) = inl (λ e f p q. k f e q p)

  two : (o r : TableContent) → InTables outputs o → InTables rest r → AreTwoTables order o r × AreTwoTables order r o
  two o r i j =
      let at : o.placed.level ≡ level = c.levels o i in
      let first : AreTwoTables order o r = (
        λ lt. older_than r o j i (omega (arith, lt, at)),
        λ same pos. turned r o (beside r o j i (omega (arith, same, at))),
        λ x y. absurd (omega (arith, x, at, c.positive)),
      ) in
      let second : AreTwoTables order r o = (
        λ lt. newer_than r o j i (omega (arith, lt, at)),
        λ same pos. beside r o j i (omega (arith, same, at)),
        λ x y. absurd (omega (arith, y, at, c.positive)),
      ) in
      (first, second)

  has_all : HasTables order new contents
  has_all =
      let each : (t : TableContent) → InTables contents t → HasTable order new t = λ t i.
      elim (in_part contents outputs rest t c.new_tables i) [
        | inl j ↦ has t j
        | inr j ↦ one_of_tables order new d.tables t (keep_tables order old new d.tables a.tables h.tables) (from_rest d.tables inputs rest t c.old_tables j)
      ] in
      each_table order new contents each

  -- an entry of the new tables is one of the old ones
  was_tabled : (e : Entry) → Among (tabled contents) e → Among (tabled d.tables) e
  was_tabled e i =
      elim (among_contents contents outputs rest e c.new_tables i) [
        | inl j ↦ among_chosen d.tables inputs rest e c.old_tables (c.taken e j)
        | inr j ↦ among_rest d.tables inputs rest e c.old_tables j
      ]

  consistent : IsConsistent order new (compacted d edits next contents)
  consistent = record {
    manifest = m;
    tables = has_all;
    placed = c.tables;
    logs = keep_logs old new d.logs (λ n num i. a.logs n num (live_of d.layout d.logs n h.live i)) h.logs;
    live = all_live d.layout next d.logs (sym c.log_number) (sym c.previous_log_number) h.live;
    rising = h.rising;
    all = λ n num live there.
        let was : IsLive d.layout n = same_live next d.layout n c.log_number c.previous_log_number live in
        h.all n num was (ap is_some (sym (a.logs n num was)) ∙ there);
    apart = parted_tables order contents outputs rest c.new_tables (level_tables order level outputs c.positive c.levels c.sorted) (rest_tables order d.tables inputs rest c.old_tables h.apart) two;
    newer = λ e f i j key. h.newer e f i (was_tabled f j) key;
    sequences = h.sequences;
    recorded = λ f i. let le : f.sequence ≤ d.layout.last_sequence = h.recorded f (was_tabled f i) in omega (arith, le, c.last_sequence);
  }

-- the entries of two parts and those after them
three : (contents chosen rest : List TableContent) (logs : List Entry) → AreParted contents chosen rest → SameEntries (tabled contents ++ logs) (tabled chosen ++ (tabled rest ++ logs))
three contents chosen rest logs h e = (to, from)
  where
    to : Among (tabled contents ++ logs) e → Among (tabled chosen ++ (tabled rest ++ logs)) e
    to i =
        elim (among_split (tabled contents) logs e i) [
          | inl j ↦ elim (among_contents contents chosen rest e h j) [
            | inl k ↦ among_front (tabled chosen) (tabled rest ++ logs) e k
            | inr k ↦ among_back (tabled chosen) (tabled rest ++ logs) e (among_front (tabled rest) logs e k)
          ]
          | inr j ↦ among_back (tabled chosen) (tabled rest ++ logs) e (among_back (tabled rest) logs e j)
        ]

    from : Among (tabled chosen ++ (tabled rest ++ logs)) e → Among (tabled contents ++ logs) e
    from i =
        elim (among_split (tabled chosen) (tabled rest ++ logs) e i) [
          | inl j ↦ among_front (tabled contents) logs e (among_chosen contents chosen rest e h j)
          | inr j ↦ elim (among_split (tabled rest) logs e j) [
            | inl k ↦ among_front (tabled contents) logs e (among_rest contents chosen rest e h k)
            | inr k ↦ among_back (tabled contents) logs e k
          ]
        ]

pub compact : CompactionLaw
compact order old new d edits next inputs rest outputs contents level h m a has c = (
  consistent order old new d edits next inputs rest outputs contents level h m a has c,
  three d.tables inputs rest (logged d.logs) c.old_tables,
  three contents outputs rest (logged d.logs) c.new_tables,
  omega (arith, c.last_sequence),
)
