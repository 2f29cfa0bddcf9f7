-- The entries of one file of a directory: that of a table, or of a log.
use Rattle.std.proofs.Common.{◌≡◌, inl, inr, ℕ, max, List, [], ◌∷◌, map, IsTrue, Contains, refl, sym, ap, ◌∙◌, subst, arith}
use Rattle.coding.specs.declared.error.DbError.{DbError}
use Rattle.ikey.specs.Orders.{Order}
use Rattle.ikey.specs.declared.entry.Entry.{Entry}
use Rattle.store.specs.Files.{Files, Facts}
use Rattle.edits.specs.declared.field.PlacedTable.{PlacedTable}
use Rattle.edits.specs.declared.layout.Layout.{Layout}
use Rattle.recover.specs.declared.manifest.Manifest.{Manifest}
use Rattle.recover.specs.declared.origins.Origin.{Origin}
use Rattle.recover.specs.declared.origins.Origin.TheVariants.{Table, Log}
use Rattle.recover.specs.internal.Checks.{Never, IsOnly, content_of}
use Rattle.recover.specs.Directory.{Directory, IsConsistent}
use Rattle.recover.specs.Entries.{RiseAbove, greatest}
use Rattle.recover.specs.Limits.{TellsUnsupported}
use Rattle.recover.specs.Logs.{LogContent, HasLog, HasLogs, InLogs, IsLive, batch_entries, logged}
use Rattle.recover.specs.Origins.{HasEntries, HasNoEntries, PassesLimitAt, IsPlacedAt, IsOriginRead, IsUnreadable, IsUnsupportedAt, IsBeyondOrigin}
use Rattle.recover.specs.internal.Parts.{IsUnchanged, SaysManifest}
use Rattle.recover.specs.Reading.{HasNoManifest, RefusesDirectory, IsBeyondReading}
use Rattle.recover.specs.Report.{IsLongTable, HasBytes, AnyHasBytes}
use Rattle.recover.specs.Tables.{TableContent, HasTable, HasTables, InTables}
use Rattle.recover.proofs.Keeping.{live_of, same_live}
use Rattle.recover.proofs.NameScan.{first_in, next_in, in_cons, in_none}
use Rattle.recover.proofs.NotSupported.{told_later}
use Rattle.recover.proofs.OneMeaning.{same_manifest, same_log_file, same_table_content}
use Rattle.recover.proofs.NewLogs.{log_there}
use Rattle.recover.proofs.Refused.{refuses_later, unchanged_itself}
use Rattle.recover.proofs.Replayed.{rise_split}
use Rattle.recover.proofs.SaidNumbers.{beyond_past}

-- ---- one of the tables

abbrev placed_of : List TableContent → List PlacedTable
placed_of contents = map (λ (content : TableContent). content.placed) contents

to_placed : (contents : List TableContent) (content : TableContent) → InTables contents content → Contains (placed_of contents) content.placed
to_placed [] content i = absurd i
to_placed (c ∷ contents) content (inl e) =
    let P : PlacedTable → Type 0 = λ p. Contains (placed_of (c ∷ contents)) p in
    subst P (ap (λ (t : TableContent). t.placed) (sym e)) (first_in c.placed (placed_of contents))
to_placed (c ∷ contents) content (inr i) = next_in c.placed (placed_of contents) content.placed (to_placed contents content i)

from_placed : (order : Order) (files : Files) (contents : List TableContent) (placed : PlacedTable) → HasTables order files contents → Contains (placed_of contents) placed
    → (content : TableContent) × InTables contents content × (content.placed ≡ placed) × HasTable order files content
from_placed order files [] placed h i = absurd (in_none placed i)
from_placed order files (c ∷ contents) placed h i =
    elim (in_cons c.placed (placed_of contents) placed i) [
      | inl e ↦ (c, inl refl, e, h.0)
      | inr j ↦ let rest = from_placed order files contents placed h.1 j in (rest.0, inr rest.1, rest.2, rest.3)
    ]

-- ---- one of the logs

log_in : (files : Files) (logs : List LogContent) (log : LogContent) → HasLogs files logs → Contains logs log → HasLog files log
log_in files [] log h i = absurd (in_none log i)
log_in files (c ∷ logs) log h i =
    elim (in_cons c logs log i) [
      | inl e ↦ subst (λ (l : LogContent). HasLog files l) e h.0
      | inr j ↦ log_in files logs log h.1 j
    ]

number_in_logs : (logs : List LogContent) (log : LogContent) → Contains logs log → InLogs logs log.number
number_in_logs [] log i = absurd (in_none log i)
number_in_logs (c ∷ logs) log i =
    elim (in_cons c logs log i) [
      | inl e ↦ inl (ap (λ (l : LogContent). l.number) (sym e))
      | inr j ↦ inr (number_in_logs logs log j)
    ]

log_of_number : (logs : List LogContent) (n : ℕ) → InLogs logs n → (log : LogContent) × Contains logs log × (log.number ≡ n)
log_of_number [] n i = absurd i
log_of_number (c ∷ logs) n (inl e) = (c, first_in c logs, sym e)
log_of_number (c ∷ logs) n (inr i) = let rest = log_of_number logs n i in (rest.0, next_in c logs rest.0 rest.1, rest.2)

rise_from_none : (low : ℕ) (es : List Entry) → RiseAbove low es → RiseAbove 0 es
rise_from_none low [] h = tt
rise_from_none low (e ∷ es) h = (omega (arith, h.0), h.1)

rise_in : (low : ℕ) (logs : List LogContent) (log : LogContent) → RiseAbove low (logged logs) → Contains logs log → RiseAbove 0 (batch_entries log.batches)
rise_in low [] log h i = absurd (in_none log i)
rise_in low (c ∷ logs) log h i =
    let parts = rise_split low (batch_entries c.batches) (logged logs) h in
    elim (in_cons c logs log i) [
      | inl e ↦ subst (λ (l : LogContent). RiseAbove 0 (batch_entries l.batches)) e (rise_from_none low (batch_entries c.batches) parts.0)
      | inr j ↦ rise_in (max low (greatest (batch_entries c.batches))) logs log parts.1 j
    ]

-- ---- what was read is what the directory has

pub read_of : (order : Order) (files : Files) (manifest : Manifest) (origin : Origin) (entries : List Entry) → SaysManifest order files manifest → IsOriginRead order files manifest.layout origin entries
    → (d : Directory) → IsConsistent order files d → HasEntries d origin entries
read_of order files manifest (Table level number) entries says r d h =
    let s = (same_manifest order files d.manifest says.0 d.edits says.1 d.layout manifest.layout h.manifest says.2).2 in
    let tables = h.placed ∙ s.tables in
    let at = r.1 in
    let one = from_placed order files d.tables r.0 h.tables (subst (λ (ps : List PlacedTable). Contains ps r.0) (sym tables) at.0) in
    let same = same_table_content order files one.0 (content_of r.0 entries) one.2 one.3 r.2 in
    (one.0, one.1, ap (λ (p : PlacedTable). p.level) one.2 ∙ at.1, ap (λ (p : PlacedTable). p.table.number) one.2 ∙ at.2, ap (λ (t : TableContent). t.entries) (sym same))
read_of order files manifest (Log number) entries says r d h =
    let s = (same_manifest order files d.manifest says.0 d.edits says.1 d.layout manifest.layout h.manifest says.2).2 in
    let log = r.1.0 in
    let there = log_there files (log ∷ []) log.number (r.1.2, tt) (inl refl) in
    let live : IsLive manifest.layout log.number = subst (λ (n : ℕ). IsLive manifest.layout n) (sym r.1.1) r.0 in
    let one = log_of_number d.logs log.number (h.all log.number there.0 (same_live manifest.layout d.layout log.number (sym s.log_number) (sym s.previous_log_number) live) there.1) in
    let same = same_log_file files log one.0 (sym one.2) r.1.2 (log_in files d.logs one.0 h.logs one.1) in
    (one.0, one.1, one.2 ∙ r.1.1, r.1.3 ∙ ap batch_entries same)

-- ---- refusals

pub no_table : (order : Order) (e : DbError) (a b : Facts) (layout : Layout) (level number : ℕ) (read : PlacedTable) → IsPlacedAt layout level number read
    → RefusesDirectory e a b (IsOnly Never order a.files read) (IsOnly (IsLongTable order) order a.files read)
    → RefusesDirectory e a b (IsUnreadable Never order a.files layout (Table level number)) (IsUnreadable (IsLongTable order) order a.files layout (Table level number))
no_table order e a b layout level number read at refused =
    refuses_later e a a b (IsOnly Never order a.files read) (IsOnly (IsLongTable order) order a.files read)
    (IsUnreadable Never order a.files layout (Table level number)) (IsUnreadable (IsLongTable order) order a.files layout (Table level number)) (unchanged_itself a)
    (λ t only placed i. (read, at, only)) (λ t only placed i. (read, at, only)) refused

pub no_manifest : (order : Order) (e : DbError) (a b : Facts) (origin : Origin) → RefusesDirectory e a b (HasNoManifest order a.files) (IsBeyondReading order a.files)
    → RefusesDirectory e a b (HasNoEntries order a.files origin) (PassesLimitAt order a.files origin)
no_manifest order e a b origin refused =
    refuses_later e a a b (HasNoManifest order a.files) (IsBeyondReading order a.files) (HasNoEntries order a.files origin) (PassesLimitAt order a.files origin) (unchanged_itself a)
    (λ t none d entries h i. none d.manifest d.edits d.layout h.manifest)
    (λ t beyond d entries h i. inl (beyond_past order a.files d.manifest d.edits d.layout beyond h.manifest)) refused

-- where a consistent directory has such a file, bytes of one of its tables are so
unreadable_in : (is : List ℕ → Type 0) (order : Order) (files : Files) (manifest : Manifest) (origin : Origin) → SaysManifest order files manifest → IsUnreadable is order files manifest.layout origin
    → (d : Directory) (entries : List Entry) → IsConsistent order files d → HasEntries d origin entries → AnyHasBytes is files d.tables
unreadable_in is order files manifest (Table level number) says none d entries h has =
    let s = (same_manifest order files d.manifest says.0 d.edits says.1 d.layout manifest.layout h.manifest says.2).2 in
    let tables = h.placed ∙ s.tables in
    let content = has.0 in
    let here : Contains manifest.layout.tables.items content.placed = subst (λ (ps : List PlacedTable). Contains ps content.placed) tables (to_placed d.tables content has.1) in
    let read = none content.placed (here, has.2, has.3) in
    let one = from_placed order files d.tables read.0 h.tables (subst (λ (ps : List PlacedTable). Contains ps read.0) (sym tables) read.1.0) in
    let same : one.0 ≡ content_of read.0 one.0.entries = (let e = one.2 in λ i. record { placed = e i; entries = one.0.entries }) in
    let bytes = read.2 one.0.entries (subst (λ (t : TableContent). HasTable order files t) same one.3) in
    (one.0, one.1, subst (λ (t : TableContent). HasBytes is files t) (sym same) bytes)
unreadable_in is order files manifest (Log number) says none d entries h has =
    let s = (same_manifest order files d.manifest says.0 d.edits says.1 d.layout manifest.layout h.manifest says.2).2 in
    let log = has.0 in
    let live : IsLive d.layout log.number = live_of d.layout d.logs log.number h.live (number_in_logs d.logs log has.1) in
    let mine : IsLive manifest.layout number = subst (λ (n : ℕ). IsLive manifest.layout n) has.2 (same_live d.layout manifest.layout log.number s.log_number s.previous_log_number live) in
    absurd (none log mine has.2 (log_in files d.logs log h.logs has.1) (rise_in 0 d.logs log h.sequences has.1))

pub not_read : (order : Order) (e : DbError) (a b c : Facts) (manifest : Manifest) (origin : Origin) → IsUnchanged a b → IsUnchanged b c → (IsTrue b.faithful → SaysManifest order a.files manifest)
    → RefusesDirectory e b c (IsUnreadable Never order b.files manifest.layout origin) (IsUnreadable (IsLongTable order) order b.files manifest.layout origin)
    → RefusesDirectory e a c (HasNoEntries order a.files origin) (PassesLimitAt order a.files origin)
not_read order e a b c manifest origin h k says refused =
    let U : (List ℕ → Type 0) → Files → Type 0 = λ is fs. IsUnreadable is order fs manifest.layout origin in
    let each : (is : List ℕ → Type 0) → IsTrue c.faithful → U is b.files → (d : Directory) (entries : List Entry) → IsConsistent order a.files d → HasEntries d origin entries → AnyHasBytes is a.files d.tables = λ is t none d entries g has.
    let t' = k.faithful t in
    unreadable_in is order a.files manifest origin (says t') (subst (U is) (h.same t') none) d entries g has in
    refuses_later e a b c (U Never b.files) (U (IsLongTable order) b.files) (HasNoEntries order a.files origin) (PassesLimitAt order a.files origin) h
    (λ t none d entries g has. (each Never t none d entries g has).2.2)
    (λ t none d entries g has. inr (each (IsLongTable order) t none d entries g has)) refused

pub told_origin : (order : Order) (e : DbError) (a b c : Facts) (manifest : Manifest) (origin : Origin) → IsUnchanged a b → IsUnchanged b c → (IsTrue b.faithful → SaysManifest order a.files manifest)
    → TellsUnsupported e c (IsUnsupportedAt order b.files manifest.layout origin) → TellsUnsupported e c (IsBeyondOrigin order a.files origin)
told_origin order e a b c manifest origin h k says told =
    told_later e c (IsUnsupportedAt order b.files manifest.layout origin) (IsBeyondOrigin order a.files origin) (λ t u.
    let t' = k.faithful t in
    let m = says t' in
    let F : Files → Type 0 = λ fs. IsUnsupportedAt order fs manifest.layout origin in
    inr (m.0, m.1, manifest.layout, m.2, subst F (h.same t') u)) told
