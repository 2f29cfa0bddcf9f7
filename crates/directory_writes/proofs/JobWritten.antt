-- Tables that a directory hasn't may be written.
use Rattle.std.proofs.Common.{◌≡◌, ◌<◌, ◌≤◌, ◌^◌, ℕ, Bool, true, false, MatchOption, Option, Some, None, List, [], ◌∷◌, map, IsTrue, is_some, inl, inr, refl, sym, ap, subst, ◌∙◌, arith}
use Rattle.std.proofs.lemmas.Bool.{cases_lt}
use Rattle.std.specs.FinMap.{get, contains_key}
use Rattle.std.specs.List.{AllByRecursion}
use Rattle.std.specs.Option.{option_or}
use Rattle.ikey.specs.Orders.{Order}
use Rattle.store.specs.Files.{Files, Facts}
use Rattle.edits.specs.Layout.{fields_of, is_used}
use Rattle.edits.specs.Names.{name_of, IsFileName, IsNumbered}
use Rattle.edits.specs.declared.field.Field.{Field}
use Rattle.edits.specs.declared.field.Field.TheVariants as field
use Rattle.edits.specs.declared.field.PlacedTable.{PlacedTable}
use Rattle.edits.specs.declared.layout.Layout.{Layout}
use Rattle.edits.specs.declared.names.FileName.{FileName}
use Rattle.edits.specs.declared.names.FileName.TheVariants.{Current, Log, Table, OldTable, Manifest}
use Rattle.edits.proofs.FileNames.{one_file}
use Rattle.edits.proofs.Orders.{unused as unused_numbers}
use Rattle.versions.proofs.Pairs.{among_contained}
use Rattle.versions.proofs.Sets.{used_in}
use Rattle.recover.specs.Tables.{TableContent, table_at}
use Rattle.recover.specs.Directory.{Directory, IsConsistent}
use Rattle.recover.specs.internal.Changes.{AgreeBeside, ManifestEndsAt}
use Rattle.recover.specs.Numbers.{IsFree, NamesBelow, number_of}
use Rattle.recover.specs.internal.Laws.{Agree}
use Rattle.recover.proofs.Adding.{table_of}
use Rattle.recover.proofs.Keeping.{keep_manifest, free_change}
use Rattle.compact.specs.Outputs.{Filling, TablesWritten, AreNumbered, IsMineUpTo, IsNext, IsNumberAtHand, WritesTables}
use Rattle.directory_writes.specs.Replacing.{OwnsNone}
use Rattle.directory_writes.specs.internal.JobWrites.{KeepsOtherTables, JobWritesLaw, FreeNumberLaw}
use Rattle.directory_writes.proofs.JobTables.{number_apart}
use Rattle.directory_writes.proofs.TableFiles.{below_placed, end_kept}

-- ---- numbers

below_up : (n m : ℕ) (f : Field) → n ≤ m → NamesBelow n f → NamesBelow m f
below_up n m (field.Comparator name) le h = tt
below_up n m (field.LogNumber k) le h = omega (arith, h, le)
below_up n m (field.NextFileNumber k) le h = tt
below_up n m (field.LastSequence k) le h = tt
below_up n m (field.CompactPointer level key) le h = tt
below_up n m (field.DeletedFile level k) le h = omega (arith, h, le)
below_up n m (field.NewFile placed) le h = omega (arith, h, le)
below_up n m (field.PreviousLogNumber k) le h = omega (arith, h, le)

all_below_up : (n m : ℕ) (fields : List Field) → n ≤ m → AllByRecursion (NamesBelow n) fields → AllByRecursion (NamesBelow m) fields
all_below_up n m [] le h = tt
all_below_up n m (f ∷ fields) le h = (below_up n m f le h.0, all_below_up n m fields le h.1)

pub free_number : FreeNumberLaw
free_number order files d next number h free le = by (is_used number d.layout.tables.items) refl
  where
    by : (b : Bool) → is_used number d.layout.tables.items ≡ b → is_used number d.layout.tables.items ≡ false
    by true e =
        let P : List PlacedTable → Type 0 = λ ts. is_used number ts ≡ true in
        let items = map (λ (content : TableContent). content.placed) d.tables in
        let u = used_in number items (subst P (sym h.placed) e) in
        let below = below_placed order files d next h free u.0 (among_contained u.0 items u.1.0 u.1.1 u.1.2) in
        absurd (omega (arith, below, u.2, le))
    by false e = e

-- ---- files

module _ (order : Order) (old new : Facts) (mine : ℕ → Type 0) (f : IsTrue new.faithful) (w : WritesTables old new mine) (numbered : (number : ℕ) → mine number → IsNumbered number) where
  -- the file is none of these tables
  abbrev IsOther : FileName → Type 0
  IsOther file = (number : ℕ) → mine number → file ≡ Table number → ⊥

  other_stays : (file : FileName) → IsFileName file → IsOther file → get new.files (name_of file) ≡ get old.files (name_of file)
  other_stays file is other = w.others f (name_of file) (λ number m e. other number m (one_file file (Table number) is (numbered number m) e))

  current_stays : get new.files (name_of Current) ≡ get old.files (name_of Current)
  current_stays = other_stays Current tt (λ number m e. cc)

  manifest_stays : (n : ℕ) → IsNumbered n → get new.files (name_of (Manifest n)) ≡ get old.files (name_of (Manifest n))
  manifest_stays n is = other_stays (Manifest n) is (λ number m e. cc)

  table_stays : (n : ℕ) → IsNumbered n → (mine n → ⊥) → table_at new.files n ≡ table_at old.files n
  table_stays n is other =
      let newer = other_stays (Table n) is (λ number m e. (let same : n ≡ number = cc in other (subst mine (sym same) m))) in
      let older = other_stays (OldTable n) is (λ number m e. cc) in
      λ i. option_or (newer i) (older i)

  there_before : (file : FileName) → IsFileName file → IsOther file → contains_key new.files (name_of file) ≡ true → contains_key old.files (name_of file) ≡ true
  there_before file is other there = ap is_some (sym (other_stays file is other)) ∙ there

  -- a file that is there has a number below what is free
  below_more : (next more : ℕ) → next ≤ more → ((number : ℕ) → mine number → number < more) → IsFree order old.files next → (file : FileName) → IsFileName file → contains_key new.files (name_of file) ≡ true → number_of file < more
  below_more next more le below free file is there =
      elim (cases_lt (number_of file) more) [
        | inl lt ↦ lt
        | inr ge ↦
            let lt : number_of file < next = free.listed file is (there_before file is (λ number m e. (let small = below number m in let same : number_of file ≡ number = ap number_of e in omega (arith, small, same, ge))) there) in
            omega (arith, lt, le)
      ]

  free_then : (next more : ℕ) → next ≤ more → ((number : ℕ) → mine number → number < more) → IsFree order old.files next → IsFree order new.files more
  free_then next more le below free = record {
    some = (let one = free.some in omega (arith, one, le));
    listed = below_more next more le below free;
    recorded = λ m edits layout has.
        let r = free.recorded m edits layout (keep_manifest order new.files old.files m edits layout (sym current_stays) (sym (manifest_stays m has.numbered)) has) in
        (omega (arith, r.0, le), omega (arith, r.1, le), omega (arith, r.2, le), all_below_up next more (fields_of edits) le r.3);
  }

  module _ (d : Directory) (h : IsConsistent order old.files d) (unused : (number : ℕ) → mine number → is_used number d.layout.tables.items ≡ false) where
    agree : Agree old.files new.files d
    agree = record {
      current = current_stays;
      manifest = manifest_stays d.manifest h.manifest.numbered;
      logs = λ n is live. other_stays (Log n) is (λ number m e. cc);
      tables = λ content i. table_stays content.placed.table.number (table_of order old.files d.tables content h.tables i)
          (λ m. let P : List PlacedTable → Type 0 = λ ts. is_used content.placed.table.number ts ≡ false in
          number_apart content.placed.table.number d.tables content (unused_numbers content.placed.table.number _ (subst P (sym h.placed) (unused content.placed.table.number m))) i refl);
    }

    manifest_ends : (position : ℕ) (edits : List (List Field)) (layout : Layout) → ManifestEndsAt order old.files d.manifest position edits layout → ManifestEndsAt order new.files d.manifest position edits layout
    manifest_ends position edits layout e = record {
      manifest = record {
        numbered = e.manifest.numbered;
        current = current_stays ∙ e.manifest.current;
        bytes = e.manifest.bytes;
        there = manifest_stays d.manifest e.manifest.numbered ∙ e.manifest.there;
        spelled = e.manifest.spelled;
      };
      clean = e.clean;
      length = e.length;
    }

    pub beside_written : AgreeBeside old.files new.files d
    beside_written = record { logs = agree.logs; tables = agree.tables }

    pub keeps_others : (next more : ℕ) → next ≤ more → ((number : ℕ) → mine number → number < more) → IsFree order old.files next → KeepsOtherTables order old.files new.files mine more d
    keeps_others next more le below free = record {
      consistent = free_change order old.files new.files d agree h;
      log = end_kept order old.files new.files d h beside_written;
      manifest = manifest_ends;
      tables = table_stays;
      free = free_then next more le below free;
    }

-- ---- what a job writes

-- the number at hand is one below the next
pub hand_below : (w : TablesWritten) (next number : ℕ) → AreNumbered w next → IsNumberAtHand w number → (0 < number) × (number < next)
hand_below w next number h at = by w.at_hand h.at_hand at
  where
    by : (o : Option Filling) → MatchOption o (Unit {0}) (IsNext w.closed next) → MatchOption o ⊥ (λ t. number ≡ t.number) → (0 < number) × (number < next)
    by None k e = absurd e
    by (Some t) k e = (omega (arith, k.number.0, e), omega (arith, k.number.1, e))

module _ (order : Order) (files : Files) (w : TablesWritten) (next more : ℕ) (d : Directory) (le : next ≤ more) (fits : more < 2 ^ 64) (h : IsConsistent order files d) (free : IsFree order files next)
    (are : AreNumbered w next) (none : OwnsNone w d.layout.tables.items) where
  pub mine_numbered : (number : ℕ) → IsMineUpTo w next more number → IsNumbered number
  mine_numbered number (inl at) = let b = hand_below w next number are at in (b.0, omega (arith, b.1, le, fits))
  mine_numbered number (inr drawn) = (let one = free.some in omega (arith, one, drawn.0), omega (arith, drawn.1, fits))

  mine_below : (number : ℕ) → IsMineUpTo w next more number → number < more
  mine_below number (inl at) = let b = hand_below w next number are at in omega (arith, b.1, le)
  mine_below number (inr drawn) = drawn.1

  mine_unused : (number : ℕ) → IsMineUpTo w next more number → is_used number d.layout.tables.items ≡ false
  mine_unused number (inl at) = none number (inl at)
  mine_unused number (inr drawn) = free_number order files d next number h free drawn.0

pub job_writes : JobWritesLaw
job_writes order old new w next more d f writes le fits h free are none =
    keeps_others order old new (IsMineUpTo w next more) f writes (mine_numbered order old.files w next more d le fits h free are none) d h
    (mine_unused order old.files w next more d le fits h free are none) next more le (mine_below order old.files w next more d le fits h free are none) free
