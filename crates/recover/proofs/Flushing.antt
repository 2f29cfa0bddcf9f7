-- A table of level 0 instead of sealed logs.
use Rattle.std.proofs.Common.{◌≡◌, ◌⊎◌, inl, inr, Bool, true, false, cond, List, [], ◌∷◌, ◌++◌, ℕ, ◌<◌, ◌≤◌, max, map, is_some, refl, sym, ap, ◌∙◌, subst, arith}
use Rattle.std.specs.List.{AllByRecursion}
use Rattle.std.specs.FinMap.{contains_key}
use Rattle.std.proofs.lemmas.Bool.Decides.{nat_tests}
use Rattle.ikey.specs.Orders.{Order}
use Rattle.store.specs.Files.{Files}
use Rattle.edits.specs.Layout.{is_before, inserted}
use Rattle.edits.specs.Names.{name_of, IsNumbered}
use Rattle.edits.specs.Snapshot.{IsKept, AreInPlace, IsFollowedBy, WasRead}
use Rattle.edits.specs.declared.field.Field.{Field}
use Rattle.edits.specs.declared.field.PlacedTable.{PlacedTable}
use Rattle.edits.specs.declared.layout.Layout.{Layout}
use Rattle.edits.specs.declared.names.FileName.TheVariants.{Log}
use Rattle.edits.proofs.Kept.{kept_layout}
use Rattle.ikey.specs.declared.entry.Entry.{Entry}
use Rattle.recover.specs.Entries.{greatest, RiseAbove}
use Rattle.ikey.specs.Views.{Among}
use Rattle.recover.specs.Tables.{TableContent, HasTable, HasTables, InTables, tabled, AreNewer, AreTwoTables, AreTables}
use Rattle.recover.specs.Logs.{LogContent, HasLogs, IsLive, InLogs, NumbersRise, logged}
use Rattle.recover.specs.Directory.{AreEdits, HasManifest, Directory, IsConsistent, entries_in, used_in}
use Rattle.recover.specs.internal.Changes.{AgreeBeside, with_content, IsFlush, flushed, FlushLaw}
use Rattle.recover.proofs.Keeping.{keep_tables, keep_logs, live_of}
use Rattle.recover.proofs.Adding.{among_split, above, below_last, above_low, logged-append, greatest-append, logs_back}
use Rattle.recover.proofs.Memberships.{among_front, among_back, up_to_greatest, from_tabled, to_tabled, each_table, one_of_tables, in_with, new_in_with, old_in_with, placed_with}

-- ---- the order of the tables

were_read : (records : List (List ℕ)) (edits : List (List Field)) → AreEdits records edits → AllByRecursion WasRead edits
were_read [] [] h = tt
were_read (r ∷ records) (e ∷ edits) h = ((r, h.0), were_read records edits h.1)
were_read [] (e ∷ edits) h = absurd h
were_read (r ∷ records) [] h = absurd h

pub kept_by : (order : Order) (files : Files) (number : ℕ) (edits : List (List Field)) (layout : Layout) → HasManifest order files number edits layout → IsKept layout
kept_by order files number edits layout h = kept_layout order.name edits layout (were_read h.spelled.records edits h.spelled.spelled) h.spelled.folded

-- after a table of a deeper level all are
deeper : (c : TableContent) (contents : List TableContent) (other : TableContent) → AllByRecursion (IsFollowedBy c.placed) (map (λ (t : TableContent). t.placed) contents) → 0 < c.placed.level → InTables contents other → 0 < other.placed.level
deeper c [] other h some i = absurd i
deeper c (x ∷ contents) other h some (inl e) =
    let here : c.placed.level ≤ x.placed.level = elim h.0.0 [ inl lt ↦ omega (arith, lt) | inr same ↦ omega (arith, same.0) ] in
    omega (arith, here, some, ap (λ (t : TableContent). t.placed.level) e)
deeper c (x ∷ contents) other h some (inr i) = deeper c contents other h.1 some i

goes_before : (new c : TableContent) → new.placed.level ≡ 0 → c.placed.table.number < new.placed.table.number → is_before new.placed c.placed ≡ true → 0 < c.placed.level
goes_before new c zero above is = grind (arith, nat_tests)

-- ---- two tables

-- the new table after another
behind_other : (order : Order) (c new : TableContent) → new.placed.level ≡ 0 → AreNewer new c → AreTwoTables order c new
behind_other order c new zero newer = (λ lt. absurd (omega (arith, lt, zero)), λ same some. absurd (omega (arith, same, some, zero)), λ a b. newer)

-- before one of a deeper level
before_deeper : (order : Order) (new c : TableContent) → new.placed.level ≡ 0 → 0 < c.placed.level → AreNewer new c → AreTwoTables order new c
before_deeper order new c zero deep newer = (λ lt. newer, λ same some. absurd (omega (arith, some, zero)), λ a b. absurd (omega (arith, b, deep)))

tables_with : (order : Order) (new : TableContent) (contents : List TableContent) → new.placed.level ≡ 0 → AreInPlace (map (λ (t : TableContent). t.placed) contents)
    → ((other : TableContent) → InTables contents other → other.placed.table.number < new.placed.table.number) → ((other : TableContent) → InTables contents other → AreNewer new other)
    → AreTables order contents → AreTables order (with_content new contents)
tables_with order new [] zero place above newer h = (λ other i. absurd i, tt)
tables_with order new (c ∷ contents) zero place above newer h = by (tables_with order new contents zero place.1 (λ o i. above o (inr i)) (λ o i. newer o (inr i)) h.1) (is_before new.placed c.placed) refl
  where
    by : AreTables order (with_content new contents) → (b : Bool) → is_before new.placed c.placed ≡ b → AreTables order (cond b (new ∷ c ∷ contents) (c ∷ with_content new contents))
    by rest true is =
        let deep = goes_before new c zero (above c (inl refl)) is in
        let each : (other : TableContent) → InTables (c ∷ contents) other → AreTwoTables order new other = λ other i.
        before_deeper order new other zero (elim i [ inl e ↦ omega (arith, deep, ap (λ (t : TableContent). t.placed.level) e) | inr j ↦ deeper c contents other place.0 deep j ]) (newer other i) in
        (each, h)
    by rest false is =
        let each : (other : TableContent) → InTables (with_content new contents) other → AreTwoTables order c other = λ other i.
        elim (in_with new contents other i) [
          | inl e ↦ let P : TableContent → Type 0 = λ t. AreTwoTables order c t in subst P (sym e) (behind_other order c new zero (newer c (inl refl)))
          | inr j ↦ h.0 other j
        ] in
        (each, rest)

-- ---- the logs

rise_front : (low : ℕ) (xs ys : List Entry) (e f : Entry) → RiseAbove low (xs ++ ys) → Among xs f → Among ys e → f.sequence < e.sequence
rise_front low [] ys e f h i j = absurd i
rise_front low (x ∷ xs) ys e f h (inl s) j =
    let lt : x.sequence < e.sequence = above x.sequence (xs ++ ys) e h.1 (among_back xs ys e j) in omega (arith, lt, ap (λ (g : Entry). g.sequence) s)
rise_front low (x ∷ xs) ys e f h (inr i) j = rise_front x.sequence xs ys e f h.1 i j

pub rise_back : (low : ℕ) (xs ys : List Entry) → RiseAbove low (xs ++ ys) → RiseAbove low ys
rise_back low [] ys h = h
rise_back low (x ∷ xs) ys h = lower ys (rise_back x.sequence xs ys h.1)
  where
    lower : (es : List Entry) → RiseAbove x.sequence es → RiseAbove low es
    lower [] k = tt
    lower (y ∷ es) k = (omega (arith, k.0, h.0), k.1)

in_last : (xs : List LogContent) (last : LogContent) (n : ℕ) → InLogs (xs ++ last ∷ []) n → InLogs xs n ⊎ (n ≡ last.number)
in_last [] last n (inl e) = inr e
in_last [] last n (inr i) = absurd i
in_last (x ∷ xs) last n (inl e) = inl (inl e)
in_last (x ∷ xs) last n (inr i) = elim (in_last xs last n i) [ inl j ↦ inl (inr j) | inr e ↦ inr e ]

-- ---- all of it

module _ (order : Order) (old new : Files) (d : Directory) (edits : List (List Field)) (next : Layout) (content : TableContent) (sealed : List LogContent) (current : LogContent)
    (h : IsConsistent order old d) (m : HasManifest order new d.manifest edits next) (a : AgreeBeside old new d) (has : HasTable order new content) (f : IsFlush d next content sealed current) where
  whole : logged d.logs ≡ logged sealed ++ logged (current ∷ [])
  whole = ap logged f.logs ∙ logged-append sealed (current ∷ [])

  rises : RiseAbove 0 (logged sealed ++ logged (current ∷ []))
  rises = let P : List Entry → Type 0 = λ es. RiseAbove 0 es in subst P whole h.sequences

  to_logged : (e : Entry) → Among (logged sealed ++ logged (current ∷ [])) e → Among (logged d.logs) e
  to_logged e i = let P : List Entry → Type 0 = λ es. Among es e in subst P (sym whole) i

  from_logged : (e : Entry) → Among (logged d.logs) e → Among (logged sealed ++ logged (current ∷ [])) e
  from_logged e i = let P : List Entry → Type 0 = λ es. Among es e in subst P whole i

  was_logged : (e : Entry) → Among content.entries e → Among (logged d.logs) e
  was_logged e i = to_logged e (among_front (logged sealed) (logged (current ∷ [])) e ((f.entries e).0 i))

  newer_content : (other : TableContent) → InTables d.tables other → AreNewer content other
  newer_content other i e g p q key = h.newer e g (was_logged e p) (to_tabled d.tables other g i q) key

  has_all : HasTables order new (with_content content d.tables)
  has_all =
      let each : (t : TableContent) → InTables (with_content content d.tables) t → HasTable order new t = λ t i.
      elim (in_with content d.tables t i) [
        | inl e ↦ let P : TableContent → Type 0 = λ c. HasTable order new c in subst P (sym e) has
        | inr j ↦ one_of_tables order new d.tables t (keep_tables order old new d.tables a.tables h.tables) j
      ] in
      each_table order new (with_content content d.tables) each

  logs_there : HasLogs new d.logs
  logs_there = keep_logs old new d.logs (λ n num i. a.logs n num (live_of d.layout d.logs n h.live i)) h.logs

  all_there : (n : ℕ) → IsNumbered n → IsLive next n → contains_key new (name_of (Log n)) ≡ true → InLogs (current ∷ []) n
  all_there n num (inr p) there = absurd (omega (arith, p.0, p.1, f.previous_log_number))
  all_there n num (inl le) there =
      let live : IsLive d.layout n = inl (omega (arith, le, f.log_number, f.forward)) in
      let P : List LogContent → Type 0 = λ cs. InLogs cs n in
      let N : List LogContent → Type 0 = λ cs. NumbersRise 0 cs in
      elim (in_last sealed current n (subst P f.logs (h.all n num live (ap is_some (sym (a.logs n num live)) ∙ there)))) [
        | inl i ↦ let lt : n < current.number = below_last 0 sealed current n (subst N f.logs h.rising) i in absurd (omega (arith, lt, le, f.log_number))
        | inr e ↦ inl e
      ]

  newer_too : (e g : Entry) → Among (logged (current ∷ [])) e → Among (tabled (with_content content d.tables)) g → e.key ≡ g.key → g.sequence < e.sequence
  newer_too e g i j key =
      let t = from_tabled (with_content content d.tables) g j in
      elim (in_with content d.tables t.0 t.1) [
        | inl s ↦ let P : TableContent → Type 0 = λ c. Among c.entries g in rise_front 0 (logged sealed) (logged (current ∷ [])) e g rises ((f.entries g).0 (subst P s t.2)) i
        | inr k ↦ h.newer e g (to_logged e (among_back (logged sealed) (logged (current ∷ [])) e i)) (to_tabled d.tables t.0 g k t.2) key
      ]

  recorded_too : (g : Entry) → Among (tabled (with_content content d.tables)) g → g.sequence ≤ next.last_sequence
  recorded_too g j =
      let t = from_tabled (with_content content d.tables) g j in
      elim (in_with content d.tables t.0 t.1) [
        | inl s ↦
            let P : TableContent → Type 0 = λ c. Among c.entries g in
            let le : g.sequence ≤ greatest (logged d.logs) = up_to_greatest (logged d.logs) g (was_logged g (subst P s t.2)) in
            omega (arith, le, f.last_sequence)
        | inr k ↦ let le : g.sequence ≤ d.layout.last_sequence = h.recorded g (to_tabled d.tables t.0 g k t.2) in omega (arith, le, f.last_sequence)
      ]

  consistent : IsConsistent order new (flushed d edits next content current)
  consistent =
      let Q : List LogContent → Type 0 = λ cs. HasLogs new cs in
      let N : List LogContent → Type 0 = λ cs. NumbersRise 0 cs in
      let I : List PlacedTable → Type 0 = λ ts. AreInPlace ts in
      record {
        manifest = m;
        tables = has_all;
        placed = placed_with content d.tables ∙ ap (λ (ts : List PlacedTable). inserted content.placed ts) h.placed ∙ sym f.tables;
        logs = logs_back new sealed (current ∷ []) (subst Q f.logs logs_there);
        live = (inl (omega (arith, f.log_number)), tt);
        rising = (above_low 0 sealed current (subst N f.logs h.rising), tt);
        all = all_there;
        apart = tables_with order content d.tables f.level (subst I (sym h.placed) (kept_by order old d.manifest d.edits d.layout h.manifest).in_place) f.above newer_content h.apart;
        newer = newer_too;
        sequences = rise_back 0 (logged sealed) (logged (current ∷ [])) rises;
        recorded = recorded_too;
      }

  to_old : (e : Entry) → Among (entries_in (flushed d edits next content current)) e → Among (entries_in d) e
  to_old e i =
      elim (among_split (tabled (with_content content d.tables)) (logged (current ∷ [])) e i) [
        | inl j ↦
            let t = from_tabled (with_content content d.tables) e j in
            elim (in_with content d.tables t.0 t.1) [
              | inl s ↦ let P : TableContent → Type 0 = λ c. Among c.entries e in among_back (tabled d.tables) (logged d.logs) e (was_logged e (subst P s t.2))
              | inr k ↦ among_front (tabled d.tables) (logged d.logs) e (to_tabled d.tables t.0 e k t.2)
            ]
        | inr j ↦ among_back (tabled d.tables) (logged d.logs) e (to_logged e (among_back (logged sealed) (logged (current ∷ [])) e j))
      ]

  to_new : (e : Entry) → Among (entries_in d) e → Among (entries_in (flushed d edits next content current)) e
  to_new e i =
      let ts = tabled (with_content content d.tables) in
      let ls = logged (current ∷ []) in
      elim (among_split (tabled d.tables) (logged d.logs) e i) [
        | inl j ↦ let t = from_tabled d.tables e j in among_front ts ls e (to_tabled (with_content content d.tables) t.0 e (old_in_with content d.tables t.0 t.1) t.2)
        | inr j ↦ elim (among_split (logged sealed) ls e (from_logged e j)) [
          | inl k ↦ among_front ts ls e (to_tabled (with_content content d.tables) content e (new_in_with content d.tables) ((f.entries e).1 k))
          | inr k ↦ among_back ts ls e k
        ]
      ]

  used_too : used_in (flushed d edits next content current) ≡ used_in d
  used_too =
      let top : greatest (logged d.logs) ≡ max (greatest (logged sealed)) (greatest (logged (current ∷ []))) = ap greatest whole ∙ greatest-append (logged sealed) (logged (current ∷ [])) in
      omega (arith, top, f.last_sequence)

pub flush : FlushLaw
flush order old new d edits next content sealed current h m a has f = (
  consistent order old new d edits next content sealed current h m a has f,
  λ e. (to_old order old new d edits next content sealed current h m a has f e, to_new order old new d edits next content sealed current h m a has f e),
  used_too order old new d edits next content sealed current h m a has f,
)
