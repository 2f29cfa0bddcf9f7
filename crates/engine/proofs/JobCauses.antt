-- Why a compaction under way is refused that meets a limit of reading, or damage.
use Rattle.std.proofs.Common.{◌≡◌, ◌⊎◌, ◌≤◌, ◌^◌, ◌++◌, ℕ, Bool, true, false, List, map, Contains, Some, inl, inr, refl, sym, ap, subst, ◌∙◌, arith}
use Rattle.std.proofs.lemmas.List.{length-append, length-map}
use Rattle.std.proofs.lemmas.List.Sorted.{Contains-permutation}
use Rattle.std.specs.Cmp.{IsTotalOrder}
use Rattle.cache.specs.Tables.{table_at}
use Rattle.compact.specs.Rooms.{AreLarge}
use Rattle.edits.specs.declared.field.PlacedTable.{PlacedTable}
use Rattle.ikey.proofs.SearchedSources.{among_front}
use Rattle.ikey.specs.Entries.{entry_of}
use Rattle.ikey.specs.Orders.{Order}
use Rattle.ikey.specs.Views.{Among}
use Rattle.ikey.specs.declared.entry.Entry.{Entry}
use Rattle.running_job.specs.declared.open_job.OpenJob.{OpenJob}
use Rattle.memtables.specs.Memories.{logged_in}
use Rattle.recover.proofs.Memberships.{among_chosen, from_chosen, one_of_tables}
use Rattle.recover.specs.Directory.{Directory}
use Rattle.recover.specs.Tables.{HasTable, InTables, IsTableFile, TableContent, tabled}
use Rattle.db_cursor.specs.Scans.{IsOnePastLimit}
use Rattle.table_access.specs.Tables.{Seen}
use Rattle.table_access.specs.Values.{IsTablePastLimit}
use Rattle.store.specs.Files.{Files}
use Rattle.directory_writes.proofs.JobTables.{contains_among, content_at}
use Rattle.directory_writes.specs.Replacing.{placed_in}
use Rattle.versions.specs.Levels.{ListsSameTables}
use Rattle.engine.specs.internal.Compacting.{IsCompacting}
use Rattle.engine.specs.OpenDb.{OpenDb, whole_of}
use Rattle.engine.specs.internal.Standing.{entries_of, IsServing}
use Rattle.machine.specs.Machine.{Machine, entry_count, weight}
use Rattle.engine.specs.internal.Pieces.{IsHardToRead}
use Rattle.engine.proofs.JobBounds.{count_within, merged_apart, room_apart_within}
use Rattle.engine.proofs.Compacting.{all_contains}
use Rattle.engine.proofs.Reading.{has_placed, long_table}

-- ---- what a compaction meets

-- what a table of the directory passes a limit with is in the first directory, or its file may be
-- damaged
pub limited_in : {K : Type 0} {g : _} (order : Order) (old : Seen) (db : OpenDb K g) (m : Machine) (serving : IsServing order old db m) (content : TableContent) → InTables serving.log.directory.directory.tables content
    → (placed : PlacedTable) → content.placed ≡ placed → (file : List ℕ) → table_at old.facts.files placed.table.number ≡ Some file → IsTablePastLimit order.cmp file → IsHardToRead m
limited_in order old db m serving content i placed is file there past = at m.over_limit refl m.damaged refl
  where
    none : m.over_limit ≡ false → m.damaged ≡ false → ⊥
    none within undamaged =
        let d = serving.log.directory.directory in
        let has : HasTable order serving.ideal content = one_of_tables order serving.ideal d.tables content serving.log.directory.consistent.tables i in
        let whole : table_at serving.ideal content.placed.table.number ≡ table_at old.facts.files content.placed.table.number = ap (λ (fs : Files). table_at fs content.placed.table.number) (serving.origin.undamaged undamaged) in
        let here : table_at serving.ideal content.placed.table.number ≡ Some file = whole ∙ ap (λ (p : PlacedTable). table_at old.facts.files p.table.number) is ∙ there in
        let both : Some has.bytes ≡ Some file = sym has.there ∙ here in
        let same : has.bytes ≡ file = cc in
        serving.readable.limits within d serving.log.directory.consistent (inr (content, i, (file, here, long_table order file content.entries (subst (λ (bytes : List ℕ). IsTableFile order bytes content.entries) same has.spelled) past)))

    at : (b : Bool) → m.over_limit ≡ b → (c : Bool) → m.damaged ≡ c → IsHardToRead m
    at true known c damage = inl known
    at false known true damage = inr damage
    at false known false damage = absurd (none known damage)

module _ {K : Type 0} {g : _} (order : Order) (total : IsTotalOrder order.cmp) (old : Seen) (db : OpenDb K g) (m : Machine) (serving : IsServing order old db m) (work : OpenJob K g)
    (c : IsCompacting order m.damaged (whole_of old db) serving.ideal db.directory.numbers.next db.snapshots db.iterators serving.log.directory.directory work) where
  abbrev d : Directory
  d = serving.log.directory.directory

  -- what it compacts was there
  merged_within : (entry : Entry) → Among (map entry_of (c.came ++ c.left)) entry → Among (entries_of serving.contents db) entry
  merged_within entry i =
      let in_inputs = (c.running.may.entries entry).0 i in
      let in_tables = among_chosen d.tables c.running.inputs c.running.rest entry c.running.planned.parted in_inputs in
      among_front (tabled serving.contents) (logged_in db.memory) entry (subst (λ (cs : List TableContent). Among (tabled cs) entry) (sym serving.log.directory.in_tables) in_tables)

  -- what is too large for a block is as heavy
  pub job_heavy : AreLarge (map entry_of (c.came ++ c.left)) → 2 ^ 29 ≤ weight m
  job_heavy large =
      let apart = merged_apart order total (whole_of old db) work c.came c.left c.running.may.stands c.running.may.own_sequences in
      let within = room_apart_within (entry_count m) (weight m) (map entry_of (c.came ++ c.left)) (entries_of serving.contents db) apart merged_within serving.accounted in
      omega (arith, large, within)

  -- no more came than there are
  pub job_counted : work.merged ≤ entry_count m
  job_counted =
      let apart = merged_apart order total (whole_of old db) work c.came c.left c.running.may.stands c.running.may.own_sequences in
      let within = count_within (entry_count m) (weight m) (map entry_of (c.came ++ c.left)) (entries_of serving.contents db) apart merged_within serving.accounted in
      let counted = c.running.may.counted in
      omega (arith, counted, within, length-map (c.came ++ c.left) entry_of, length-append c.came c.left)

  -- its inputs are tables of the version
  pub inputs_listed : (placed : PlacedTable) → Contains work.job.plan.inputs.items placed → Contains db.tables placed
  inputs_listed placed i =
      let content = content_at c.running.inputs placed (contains_among (placed_in c.running.inputs) placed (Contains-permutation work.job.plan.inputs.items (placed_in c.running.inputs) placed c.running.planned.planned i)) in
      let there = from_chosen d.tables c.running.inputs c.running.rest content.0 c.running.planned.parted content.1 in
      let listed = subst (λ (cs : List TableContent). ListsSameTables (placed_in cs) db.tables) serving.log.directory.in_tables serving.tables.version in
      subst (λ (p : PlacedTable). Contains db.tables p) content.2 (all_contains (Contains db.tables) (placed_in d.tables) content.0.placed listed.all (has_placed d.tables content.0 there))

  -- the same of an input that passes one
  pub job_limited : IsOnePastLimit order.cmp work.job.plan.inputs.items (whole_of old db) → IsHardToRead m
  job_limited past =
      let placed = past.0 in
      let content = content_at c.running.inputs placed (contains_among (placed_in c.running.inputs) placed (Contains-permutation work.job.plan.inputs.items (placed_in c.running.inputs) placed c.running.planned.planned past.1)) in
      limited_in order old db m serving content.0 (from_chosen d.tables c.running.inputs c.running.rest content.0 c.running.planned.parted content.1) placed content.2 past.2 past.3 past.4

-- what isn't so of an undamaged directory
pub not_whole : (m : Machine) → (m.damaged ≡ false → ⊥) → m.damaged ≡ true
not_whole m none = at m.damaged refl
  where
    at : (b : Bool) → m.damaged ≡ b → m.damaged ≡ true
    at true is = is
    at false is = absurd (none is)

pub hard_or : (m : Machine) (P : Type 0) → (m.damaged ≡ false → IsHardToRead m ⊎ P) → IsHardToRead m ⊎ P
hard_or m P else = at m.damaged refl
  where
    at : (b : Bool) → m.damaged ≡ b → IsHardToRead m ⊎ P
    at true is = inl (inr is)
    at false is = else is
