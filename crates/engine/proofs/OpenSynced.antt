-- What is synced after an open.
use Rattle.std.proofs.Common.{◌≡◌, ◌<◌, ◌≤◌, ℕ, Bool, true, false, None, is_some, IsSome, List, [], ◌∷◌, ◌++◌, Contains, Some, Option, refl, sym, ap, subst, ◌∙◌, arith, string_bytes}
use Rattle.std.specs.FinMap.{get, contains_key}
use Rattle.std.specs.Option.{option_or}
use Rattle.directory_writes.proofs.JobTables.{contains_among, content_at}
use Rattle.directory_writes.specs.Differing.{DiffersInTables}
use Rattle.directory_writes.specs.Replacing.{placed_in}
use Rattle.edits.specs.Names.{name_of, IsNumbered}
use Rattle.edits.specs.declared.field.PlacedTable.{PlacedTable}
use Rattle.edits.specs.declared.names.FileName.TheVariants.{Current, Log, Manifest, OldTable, Table}
use Rattle.ikey.specs.Orders.{Order}
use Rattle.ikey.specs.declared.entry.Entry.{Entry}
use Rattle.opening.specs.Losses.{BeginsSpared, IsKept}
use Rattle.opening.specs.declared.beginning.Begun.{Begun}
use Rattle.opening.specs.internal.Begun.{BeginsSynced, HasBegun, IsBegun}
use Rattle.opening.specs.internal.Durable.{HasDurable}
use Rattle.recover.proofs.Memberships.{one_of_tables}
use Rattle.recover.specs.Logs.{HasLog, HasLogs, LogContent}
use Rattle.recover.specs.Tables.{TableContent, table_at}
use Rattle.store.specs.Files.{Facts, Files}
use Rattle.versions.specs.Levels.{ListsSameTables}
use Rattle.engine.proofs.Compacting.{all_contains, version_number}
use Rattle.engine.proofs.Synced.{opened_synced}
use Rattle.engine.specs.internal.Synced.{HaveNames, IsSyncedBut}

last_log : (files : Files) (before : List LogContent) (last : LogContent) → HasLogs files (before ++ last ∷ []) → HasLog files last
last_log files [] last h = h.0
last_log files (content ∷ before) last h = last_log files before last h.1

-- a table that is there in the one is in the other
table_too : (files whole : Files) (n : ℕ) → DiffersInTables files whole → IsSome (table_at whole n) → IsSome (table_at files n)
table_too files whole n differs there = at (get whole (name_of (Table n))) (get files (name_of (Table n))) (get whole (name_of (OldTable n))) (get files (name_of (OldTable n))) (differs.names (name_of (Table n))) (differs.names (name_of (OldTable n))) there
  where
    at : (a b c d : Option (List ℕ)) → is_some a ≡ is_some b → is_some c ≡ is_some d → IsSome (option_or a c) → IsSome (option_or b d)
    at (Some x) (Some y) c d one other there = refl
    at (Some x) None c d one other there = absurd (let clash : true ≡ false = one in cc)
    at None (Some y) c d one other there = refl
    at None None c d one other there = sym other ∙ there

-- a file that holds what is synced of it
kept_as : (facts : Facts) (name bytes : List ℕ) → get facts.files name ≡ Some bytes → facts.synced name ≡ Some bytes → IsKept facts name
kept_as facts name bytes is synced other there = synced ∙ sym is ∙ there

absent : (b : Bool) → (b ≡ true → ⊥) → b ≡ false
absent true h = absurd (h refl)
absent false h = refl

-- The undamaged directory says which files there are; but for those of tables they are its own.
module _ {K : Type 0} (order : Order) (old facts : Facts) (after : Files) (differs : DiffersInTables facts.files after) (begun : Begun K) (tables : List TableContent) (entries : List Entry) (used : ℕ) (w : IsBegun order begun) (has : HasBegun order after begun tables entries used)
    (durable : HasDurable begun.directory.manifest.number facts) (synced : BeginsSynced old facts begun.log begun.directory) (since : BeginsSpared facts (string_bytes begun.log.name)) where
  listed : ListsSameTables (placed_in has.log.directory.tables) begun.version.value.tables
  listed = subst (λ (contents : List TableContent). ListsSameTables (placed_in contents) begun.version.value.tables) has.log.in_tables has.version

  -- each table of the version is there, with a number below that of the MANIFEST
  table_there : (p : PlacedTable) → Contains begun.version.value.tables p → IsSome (table_at facts.files p.table.number)
  table_there p there =
      let tables_now = has.log.directory.tables in
      let content = content_at tables_now p (contains_among (placed_in tables_now) p (all_contains (Contains (placed_in tables_now)) begun.version.value.tables p listed.only there)) in
      let held = one_of_tables order after tables_now content.0 has.log.consistent.tables content.1 in
      subst (λ (q : PlacedTable). IsSome (table_at facts.files q.table.number)) content.2
      (table_too facts.files after content.0.placed.table.number differs (subst (λ (o : Option (List ℕ)). IsSome o) (sym held.there) refl))

  named : (p : PlacedTable) → Contains begun.version.value.tables p → IsNumbered p.table.number × (p.table.number < begun.directory.numbers.next)
  named p there = version_number order after has.log.directory begun.directory.numbers.next has.log.directory.tables begun.version.value.tables p.table.number has.log.consistent has.knows.free refl listed (p, there, refl)

  names : HaveNames begun.log begun.directory begun.version.value.tables
  names =
      let last = last_log after has.logs.sealed has.logs.current (subst (HasLogs after) has.logs.logs has.log.consistent.logs) in
      let number = has.logs.number in
      let numbered : IsNumbered begun.log.number = subst IsNumbered number last.numbered in
      let there : get after (name_of (Log begun.log.number)) ≡ Some last.bytes = subst (λ (n : ℕ). get after (name_of (Log n)) ≡ Some last.bytes) number last.there in
      record {
        last = (numbered, has.knows.free.listed (Log begun.log.number) numbered (ap is_some there), w.named);
        front = synced.logs.front;
        forward = has.knows.forward;
        begun = synced.since;
        manifest = (subst IsNumbered (sym has.knows.number) has.log.consistent.manifest.numbered, has.knows.named ∙ ap (λ (n : ℕ). name_of (Manifest n)) (sym has.knows.number));
        placed = named;
      }

  -- there is no log with a number that is still to be drawn
  undrawn : (n : ℕ) → IsNumbered n → begun.directory.numbers.next ≤ n → contains_key facts.files (name_of (Log n)) ≡ false
  undrawn n num from = absent (contains_key facts.files (name_of (Log n))) (λ there. (let less : n < begun.directory.numbers.next = has.knows.free.listed (Log n) num (differs.names (name_of (Log n)) ∙ there) in omega (arith, less, from)))

  pub begun_synced : IsSyncedBut facts begun.log begun.directory begun.version.value.tables
  begun_synced =
      let current = durable.durable.1 in
      opened_synced facts begun.log begun.directory begun.version.value.tables synced.logs names (kept_as facts (name_of Current) _ current.0 current.1)
      (kept_as facts (name_of (Manifest begun.directory.manifest.number)) durable.durable.0 durable.durable.2 durable.durable.3)
      (λ p there. synced.found p.table.number (named p there).0 (table_there p there)) since undrawn
