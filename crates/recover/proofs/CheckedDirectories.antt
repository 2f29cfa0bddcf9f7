-- A directory whose tables were checked.
use Rattle.std.proofs.Common.{◌≡◌, inl, inr, ◌≤◌, ℕ, List, [], ◌∷◌, map, true, false, is_some, None, IsTrue, refl, sym, ap, ◌∙◌, subst, arith}
use Rattle.std.specs.Prelude.{Result, Ok, Err, IfErr}
use Rattle.recover.specs.declared.report.Report.{Report}
use Rattle.std.specs.List.{AllByRecursion}
use Rattle.coding.specs.declared.error.DbError.{DbError}
use Rattle.ikey.specs.Orders.{Order}
use Rattle.ikey.specs.declared.entry.Entry.{Entry}
use Rattle.store.specs.Files.{Files, Facts}
use Rattle.edits.specs.declared.field.PlacedTable.{PlacedTable}
use Rattle.recover.specs.declared.listing.Listing.{Listing}
use Rattle.recover.specs.declared.reading.Recovered.{Recovered}
use Rattle.recover.specs.declared.report.Summary.{Summary}
use Rattle.recover.specs.declared.report.TableSummary.{TableSummary}
use Rattle.recover.specs.internal.Checks.{Never, IsOlder, AreGood, AreOnly}
use Rattle.recover.specs.Directory.{Directory, IsConsistent, IsEmpty, used_in}
use Rattle.ikey.specs.Views.{Among}
use Rattle.recover.specs.Logs.{LogContent}
use Rattle.recover.specs.internal.Parts.{IsUnchanged, RefusesBytes}
use Rattle.recover.specs.Reading.{IsListing, Recovers, RefusesDirectory, IsInconsistent, IsBeyondReading}
use Rattle.recover.specs.Limits.{PassesLimit}
use Rattle.recover.specs.Report.{IsSummary, IsLongTable, AnyHasBytes, table_summary, log_summary}
use Rattle.recover.specs.Tables.{TableContent, HasTables, InTables, AreTables}
use Rattle.recover.proofs.Memberships.{from_tabled, to_tabled}
use Rattle.recover.proofs.PairChecks.{newer_from, newer_to}
use Rattle.recover.proofs.Refused.{refuses_later, refuses_bytes}
use Rattle.recover.proofs.SaidNumbers.{beyond_past}
use Rattle.recover.proofs.WholeReading.{recovered_parts}

-- ---- checked tables are those of a consistent directory

good_tables : (order : Order) (files : Files) (logs : List Entry) (recorded : ℕ) (tables : List PlacedTable) (contents : List TableContent) → AreGood order files logs recorded tables contents → HasTables order files contents × AreTables order contents
good_tables order files logs recorded [] [] h = (tt, tt)
good_tables order files logs recorded [] (c ∷ contents) h = absurd h
good_tables order files logs recorded (t ∷ tables) [] h = absurd h
good_tables order files logs recorded (t ∷ tables) (c ∷ contents) h = let rest = good_tables order files logs recorded tables contents h.4 in ((h.1, rest.0), (h.3, rest.1))

good_placed : (order : Order) (files : Files) (logs : List Entry) (recorded : ℕ) (tables : List PlacedTable) (contents : List TableContent) → AreGood order files logs recorded tables contents → map (λ (c : TableContent). c.placed) contents ≡ tables
good_placed order files logs recorded [] [] h = refl
good_placed order files logs recorded [] (c ∷ contents) h = absurd h
good_placed order files logs recorded (t ∷ tables) [] h = absurd h
good_placed order files logs recorded (t ∷ tables) (c ∷ contents) h = let first = h.0 in let rest = good_placed order files logs recorded tables contents h.4 in λ i. first i ∷ rest i

good_older : (order : Order) (files : Files) (logs : List Entry) (recorded : ℕ) (tables : List PlacedTable) (contents : List TableContent) → AreGood order files logs recorded tables contents → (c : TableContent) → InTables contents c → IsOlder logs recorded c
good_older order files logs recorded [] [] h c i = absurd i
good_older order files logs recorded [] (x ∷ contents) h c i = absurd h
good_older order files logs recorded (t ∷ tables) [] h c i = absurd h
good_older order files logs recorded (t ∷ tables) (x ∷ contents) h c (inl e) = subst (λ (y : TableContent). IsOlder logs recorded y) (sym e) h.2
good_older order files logs recorded (t ∷ tables) (x ∷ contents) h c (inr i) = good_older order files logs recorded tables contents h.4 c i

all_up_to : (recorded : ℕ) (es : List Entry) → AllByRecursion (λ (e : Entry). e.sequence ≤ recorded) es → (e : Entry) → Among es e → e.sequence ≤ recorded
all_up_to recorded [] h e i = absurd i
all_up_to recorded (x ∷ es) h e (inl same) = omega (arith, h.0, ap (λ (y : Entry). y.sequence) same)
all_up_to recorded (x ∷ es) h e (inr i) = all_up_to recorded es h.1 e i

up_to_all : (recorded : ℕ) (es : List Entry) → ((e : Entry) → Among es e → e.sequence ≤ recorded) → AllByRecursion (λ (e : Entry). e.sequence ≤ recorded) es
up_to_all recorded [] h = tt
up_to_all recorded (x ∷ es) h = (h x (inl refl), up_to_all recorded es (λ e i. h e (inr i)))

-- the parts of what was read and checked
parts_of_reading : (order : Order) (files : Files) (recovered : Recovered) → Recovers order files recovered → List TableContent → Directory
parts_of_reading order files recovered r contents = record { manifest = r.number; edits = r.edits; layout = recovered.layout; tables = contents; logs = r.contents }

pub checked_directory : (order : Order) (files : Files) (recovered : Recovered) (contents : List TableContent) (r : Recovers order files recovered)
    → AreGood order files recovered.entries.items recovered.layout.last_sequence recovered.layout.tables.items contents
    → (d : Directory) × IsConsistent order files d × (used_in d ≡ recovered.used) × (d.tables ≡ contents) × (d.logs ≡ r.contents)
unfolding parts_of_reading
checked_directory order files recovered contents r g =
    let both = good_tables order files recovered.entries.items recovered.layout.last_sequence recovered.layout.tables.items contents g in
    let older = good_older order files recovered.entries.items recovered.layout.last_sequence recovered.layout.tables.items contents g in (
      parts_of_reading order files recovered r contents,
      record {
        manifest = r.manifest;
        tables = both.0;
        placed = good_placed order files recovered.entries.items recovered.layout.last_sequence recovered.layout.tables.items contents g;
        logs = r.live.logs;
        live = r.live.live;
        rising = r.live.rising;
        all = r.live.all;
        apart = both.1;
        newer = λ e f i j key.
            let t = from_tabled contents f j in
            newer_from recovered.entries.items t.0.entries (older t.0 t.1).newer e f (subst (λ (es : List Entry). Among es e) (sym r.entries) i) t.2 key;
        sequences = r.live.sequences;
        recorded = λ f j. let t = from_tabled contents f j in all_up_to recovered.layout.last_sequence t.0.entries (older t.0 t.1).sequences f t.2;
      },
      sym r.used,
      refl,
      refl,
    )

pub good_report : (order : Order) (files : Files) (recovered : Recovered) (summaries : List TableSummary) (summary : Summary) → Recovers order files recovered
    → ((contents : List TableContent) × AreGood order files recovered.entries.items recovered.layout.last_sequence recovered.layout.tables.items contents × (summaries ≡ map table_summary contents))
    → summary.last_sequence ≡ recovered.used → summary.tables.items ≡ summaries → summary.logs.items ≡ recovered.logs.items → (d : Directory) × IsConsistent order files d × IsSummary d summary
good_report order files recovered summaries summary r f last tables logs =
    let d = checked_directory order files recovered f.0 r f.1 in (
      d.0,
      d.1,
      record {
        last_sequence = last ∙ sym d.2;
        tables = tables ∙ f.2 ∙ ap (λ (cs : List TableContent). map table_summary cs) (sym d.3);
        logs = logs ∙ r.logs ∙ ap (λ (ls : List LogContent). map log_summary ls) (sym d.4);
      },
    )

-- ---- those of a consistent directory are good

good_from : (order : Order) (files : Files) (logs : List Entry) (recorded : ℕ) (tables : List PlacedTable) (contents : List TableContent) → map (λ (c : TableContent). c.placed) contents ≡ tables → HasTables order files contents → AreTables order contents
    → ((c : TableContent) → InTables contents c → IsOlder logs recorded c) → AreGood order files logs recorded tables contents
good_from order files logs recorded [] [] e h k older = tt
good_from order files logs recorded [] (c ∷ contents) e h k older = cc
good_from order files logs recorded (t ∷ tables) [] e h k older = cc
good_from order files logs recorded (t ∷ tables) (c ∷ contents) e h k older =
    let first : c.placed ≡ t = cc in
    let rest : map (λ (x : TableContent). x.placed) contents ≡ tables = cc in
    (first, h.0, older c (inl refl), k.0, good_from order files logs recorded tables contents rest h.1 k.1 (λ o i. older o (inr i)))

directory_good : (order : Order) (files : Files) (recovered : Recovered) (d : Directory) → Recovers order files recovered → IsConsistent order files d
    → AreGood order files recovered.entries.items recovered.layout.last_sequence recovered.layout.tables.items d.tables
directory_good order files recovered d r h =
    let parts = recovered_parts order files recovered d r h in
    let older : (c : TableContent) → InTables d.tables c → IsOlder recovered.entries.items recovered.layout.last_sequence c = λ c i.
    record {
      newer = newer_to recovered.entries.items c.entries (λ e f j k key. h.newer e f (subst (λ (es : List Entry). Among es e) (sym parts.1) j) (to_tabled d.tables c f i k) key);
      sequences = up_to_all recovered.layout.last_sequence c.entries (λ f k. let le : f.sequence ≤ d.layout.last_sequence = h.recorded f (to_tabled d.tables c f i k) in omega (arith, le, parts.0.last_sequence));
    } in
    good_from order files recovered.entries.items recovered.layout.last_sequence recovered.layout.tables.items d.tables (h.placed ∙ parts.0.tables) h.tables h.apart older

-- ---- refusals

-- neither empty nor consistent, or not within the limits
abbrev pub IsDamagedAll : Order → Files → Type 0
IsDamagedAll order files = (IsEmpty files → ⊥) × IsInconsistent order files

abbrev pub IsRefused : Order → Files → Type 0
IsRefused order files = (IsEmpty files → ⊥) × PassesLimit order files

pub current_there : (files : Files) (listing : Listing) → IsListing files listing → listing.has_current ≡ true → IsEmpty files → ⊥
current_there files listing l there e = let t : is_some {T = List ℕ} None ≡ true = ap is_some (sym e.current) ∙ sym l.current ∙ there in cc

pub not_none : (order : Order) (e : DbError) (a b : Facts) (listing : Listing) → IsUnchanged a b → (IsTrue b.faithful → IsListing a.files listing) → listing.has_current ≡ false
    → RefusesBytes e ((o : Order) (files : Files) → IsListing files listing → listing.has_current ≡ false → (IsEmpty files → ⊥) × IsInconsistent o files) ⊥ → RefusesDirectory e a b (IsDamagedAll order a.files) (IsRefused order a.files)
not_none order e a b listing h l none r =
    refuses_bytes e a b ((o : Order) (files : Files) → IsListing files listing → listing.has_current ≡ false → (IsEmpty files → ⊥) × IsInconsistent o files) ⊥ (IsDamagedAll order a.files) (IsRefused order a.files)
    (λ t all. all order a.files (l t) none) (λ t z. absurd z) r

pub not_read : (order : Order) (e : DbError) (a b c : Facts) (listing : Listing) → IsUnchanged a b → IsUnchanged b c → (IsTrue b.faithful → IsListing a.files listing) → listing.has_current ≡ true
    → RefusesDirectory e b c (IsListing b.files listing → IsInconsistent order b.files) (IsBeyondReading order b.files) → RefusesDirectory e a c (IsDamagedAll order a.files) (IsRefused order a.files)
not_read order e a b c listing h k l there r =
    refuses_later e a b c (IsListing b.files listing → IsInconsistent order b.files) (IsBeyondReading order b.files) (IsDamagedAll order a.files) (IsRefused order a.files) h
    (λ t none.
    let t' = k.faithful t in
    let here = subst (λ (fs : Files). IsListing fs listing → IsInconsistent order fs) (h.same t') none in
    (current_there a.files listing (l t') there, λ d g. here (l t') d g))
    (λ t beyond.
    let t' = k.faithful t in
    let here = subst (λ (fs : Files). IsBeyondReading order fs) (h.same t') beyond in
    (current_there a.files listing (l t') there, λ d g. inl (beyond_past order a.files d.manifest d.edits d.layout here g.manifest)))
    r

pub not_whole : (order : Order) (e : DbError) (a b c : Facts) (listing : Listing) (recovered : Recovered) → IsUnchanged a b → IsUnchanged b c → (IsTrue b.faithful → IsListing a.files listing) → listing.has_current ≡ true
    → (IsTrue b.faithful → Recovers order a.files recovered)
    → RefusesDirectory e b c (AreOnly Never order b.files recovered.entries.items recovered.layout.last_sequence recovered.layout.tables.items)
    (AreOnly (IsLongTable order) order b.files recovered.entries.items recovered.layout.last_sequence recovered.layout.tables.items)
    → RefusesDirectory e a c (IsDamagedAll order a.files) (IsRefused order a.files)
not_whole order e a b c listing recovered h k l there found r =
    let U : (List ℕ → Type 0) → Files → Type 0 = λ so fs. AreOnly so order fs recovered.entries.items recovered.layout.last_sequence recovered.layout.tables.items in
    let each : (so : List ℕ → Type 0) → IsTrue c.faithful → U so b.files → (d : Directory) → IsConsistent order a.files d → AnyHasBytes so a.files d.tables = λ so t only d g.
    let t' = k.faithful t in
    subst (U so) (h.same t') only d.tables (directory_good order a.files recovered d (found t') g) in
    refuses_later e a b c (U Never b.files) (U (IsLongTable order) b.files) (IsDamagedAll order a.files) (IsRefused order a.files) h
    (λ t only. (current_there a.files listing (l (k.faithful t)) there, λ d g. (each Never t only d g).2.2))
    (λ t only. (current_there a.files listing (l (k.faithful t)) there, λ d g. inr (each (IsLongTable order) t only d g))) r

pub none_result : (order : Order) (a b : Facts) (listing : Listing) (result : Result Report DbError) → IsUnchanged a b → (IsTrue b.faithful → IsListing a.files listing) → listing.has_current ≡ false
    → IfErr result (λ e. RefusesBytes e ((o : Order) (files : Files) → IsListing files listing → listing.has_current ≡ false → (IsEmpty files → ⊥) × IsInconsistent o files) ⊥)
    → IfErr result (λ e. RefusesDirectory e a b (IsDamagedAll order a.files) (IsRefused order a.files))
none_result order a b listing (Ok report) h l none r = tt
none_result order a b listing (Err e) h l none r = not_none order e a b listing h l none r

-- what was recovered, over the files at the start
pub recovered_before : (order : Order) (a b c : Facts) (listing : Listing) (recovered : Recovered) → IsUnchanged a b → IsUnchanged b c → (IsTrue b.faithful → IsListing a.files listing)
    → (IsTrue c.faithful → IsListing b.files listing → Recovers order b.files recovered) → IsTrue c.faithful → Recovers order a.files recovered
recovered_before order a b c listing recovered h k l found t =
    let t' = k.faithful t in
    let same : b.files ≡ a.files = h.same t' in
    subst (λ (fs : Files). Recovers order fs recovered) same (found t (subst (λ (fs : Files). IsListing fs listing) (sym same) (l t')))
