-- What calls say of a directory, said of one that differs from it in tables alone.
use Rattle.std.proofs.Common.{◌≡◌, ◌++◌, ℕ, List, [], ◌∷◌, Result, Ok, Err, IfOk, inl, inr, refl, sym, ap, subst, ◌∙◌}
use Rattle.std.specs.FinMap.{get}
use Rattle.std.specs.Option.{option_or}
use Rattle.coding.specs.declared.error.DbError.{DbError}
use Rattle.store.specs.Files.{Files, Facts}
use Rattle.ikey.specs.Orders.{Order}
use Rattle.ikey.specs.declared.entry.Entry.{Entry}
use Rattle.edits.specs.Names.{name_of, IsNumbered}
use Rattle.edits.specs.declared.field.Field.{Field}
use Rattle.edits.specs.declared.field.PlacedTable.{PlacedTable}
use Rattle.edits.specs.declared.field.TableFile.{TableFile}
use Rattle.edits.specs.declared.layout.Layout.{Layout}
use Rattle.edits.specs.declared.names.FileName.TheVariants.{Table, OldTable}
use Rattle.table.specs.Writing.{Writes}
use Rattle.compact.specs.Outputs.{IsMineUpTo, WritesTables}
use Rattle.recover.specs.Tables.{HasTable, TableContent, table_at}
use Rattle.recover.specs.Report.{IsLongTable, HasBytes}
use Rattle.recover.specs.internal.Changes.{ManifestEndsAt}
use Rattle.recover.specs.Numbers.{IsFree}
use Rattle.directory_writes.specs.Differing.{DiffersInTables, IsSameChange, with_files}
use Rattle.directory_writes.specs.internal.Calls.{Touches}
use Rattle.directory_writes.specs.internal.Each.{AppendsEditEachLaw, WritesEachLaw, WritesTablesEachLaw}
use Rattle.directory_writes.specs.internal.Level0.{IsLevel0}
use Rattle.directory_writes.specs.internal.Manifest.{AppendsEdit, CanAddEdit}
use Rattle.directory_writes.proofs.SameChanges.{also, differs_after, differs_back, ends_too, free_agree, free_too, manifest_too, same_files}

-- ---- which files are written

-- each file that stays stays there too
abbrev pub StaysToo : Files → Files → Files → Files → Type 0
StaysToo old new whole after = (name : List ℕ) → get new name ≡ get old name → get after name ≡ get whole name

module _ (old new : Facts) (whole after : Files) (stays : StaysToo old.files new.files whole after) where
  pub writes_too : (name : List ℕ) → Writes old new name → Writes (with_files old whole) (with_files new after) name
  writes_too name w = record {
    faithful = w.faithful;
    failures = w.failures;
    writes = w.writes;
    denials = w.denials;
    locked = w.locked;
    others = λ f q apart. stays q (w.others f q apart);
    synced = w.synced;
    calls = λ f. record { leaves = record { more = []; calls = refl; during = λ files none. absurd none; now = λ q apart. stays q (w.others f q apart) }; calls = tt; synced = w.synced f };
  }

  pub writes_tables_too : (mine : ℕ → Type 0) → WritesTables old new mine → WritesTables (with_files old whole) (with_files new after) mine
  writes_tables_too mine w = record {
    faithful = w.faithful;
    failures = w.failures;
    writes = w.writes;
    denials = w.denials;
    locked = w.locked;
    others = λ f q apart. stays q (w.others f q apart);
    synced = w.synced;
    calls = λ f. record {
      leaves = record { more = []; calls = refl; during = λ files none. absurd none; now = λ q apart. stays q (w.others f q (λ number is same. apart (number, is, same))) };
      calls = tt;
      synced = λ q apart. w.synced f q (λ number is same. apart (number, is, same));
    };
  }

  pub touches_too : Touches old new → Touches (with_files old whole) (with_files new after)
  touches_too t = record { faithful = t.faithful; failures = t.failures; denials = t.denials; locked = t.locked }

pub writes_each : WritesEachLaw
writes_each old new name f w whole after d c = writes_too old new whole after c.stays name w

pub writes_tables_each : WritesTablesEachLaw
writes_tables_each old new w next more f writes whole after d c = writes_tables_too old new whole after c.stays (IsMineUpTo w next more) writes

-- ---- the MANIFEST

if_ok_so : {T E : Type 0} (r : Result T E) (P Q : T → Type 0) → IfOk r P → ((x : T) → P x → Q x) → IfOk r Q
if_ok_so (Ok x) P Q h so = so x h
if_ok_so (Err e) P Q h so = tt

can_too : (order : Order) (files whole : Files) → DiffersInTables files whole → (number : ℕ) (name : List ℕ) (end : ℕ) (edits : List (List Field)) (layout : Layout) (edit : List Field) (next : Layout)
    → CanAddEdit order whole number name end edits layout edit next → CanAddEdit order files number name end edits layout edit next
can_too order files whole d number name end edits layout edit next can =
    record { named = can.named; ends = ends_too order whole files (differs_back files whole d) number end edits layout can.ends; folded = can.folded }

module _ (order : Order) (old new : Facts) (whole after : Files) (before : DiffersInTables old.files whole) (behind : DiffersInTables new.files after) (stays : StaysToo old.files new.files whole after)
    (number : ℕ) (name : List ℕ) (end : ℕ) (edit : List Field) (result : Result ℕ DbError) where
  pub edit_too : AppendsEdit order old new number name end edit result → AppendsEdit order (with_files old whole) (with_files new after) number name end edit result
  edit_too a = record {
    ok = λ f. if_ok_so result
        (λ n. (edits : List (List Field)) (layout next : Layout) → CanAddEdit order old.files number name end edits layout edit next → ManifestEndsAt order new.files number n (edits ++ edit ∷ []) next)
        (λ n. (edits : List (List Field)) (layout next : Layout) → CanAddEdit order whole number name end edits layout edit next → ManifestEndsAt order after number n (edits ++ edit ∷ []) next) (a.ok f)
        (λ n h edits layout next can.
        ends_too order new.files after behind number n (edits ++ edit ∷ []) next (h edits layout next (can_too order old.files whole before number name end edits layout edit next can)));
    device = λ f is edits layout next can. elim (a.device f is edits layout next (can_too order old.files whole before number name end edits layout edit next can)) [
      | inl has ↦ inl (manifest_too order new.files after behind number edits layout has)
      | inr has ↦ inr (manifest_too order new.files after behind number (edits ++ edit ∷ []) next has)
    ];
    memory = λ f is. same_files after whole (λ q. stays q (ap (λ (fs : Files). get fs q) (a.memory f is)));
    others = λ f q apart. stays q (a.others f q apart);
    free = λ f edits layout next can n free recorded.
        free_too order new.files after behind n
        (a.free f edits layout next (can_too order old.files whole before number name end edits layout edit next can) n (free_too order whole old.files (differs_back old.files whole before) n free) recorded);
  }

pub edit_each : AppendsEditEachLaw
edit_each order old new number name end edit result f a whole after d c =
    edit_too order old new whole after d (differs_after old.files new.files whole after d c) c.stays number name end edit result a

-- ---- a table that is new

pub table_agrees : (files whole : Files) (n : ℕ) → get whole (name_of (Table n)) ≡ get files (name_of (Table n)) → get whole (name_of (OldTable n)) ≡ get files (name_of (OldTable n)) → table_at whole n ≡ table_at files n
table_agrees files whole n newer older = λ i. option_or (newer i) (older i)

pub table_too : (order : Order) (files whole : Files) (content : TableContent) → table_at whole content.placed.table.number ≡ table_at files content.placed.table.number → HasTable order files content → HasTable order whole content
table_too order files whole content same h =
    record { numbered = h.numbered; bytes = h.bytes; there = same ∙ h.there; size = h.size; spelled = h.spelled; sorted = h.sorted; smallest = h.smallest; largest = h.largest }

pub short_too : (order : Order) (files whole : Files) (content : TableContent) → table_at whole content.placed.table.number ≡ table_at files content.placed.table.number
    → (HasBytes (IsLongTable order) files content → ⊥) → HasBytes (IsLongTable order) whole content → ⊥
short_too order files whole content same short (bytes, there, long) = short (bytes, sym same ∙ there, long)

pub level0_too : (order : Order) (files whole : Files) (n : ℕ) (entries : List Entry) (table : TableFile) → table_at whole n ≡ table_at files n → IsLevel0 order files n entries table → IsLevel0 order whole n entries table
level0_too order files whole n entries table same h =
    let number : h.content.placed.table.number ≡ n = ap (λ (p : PlacedTable). p.table.number) h.placed ∙ h.number_is in
    let here : table_at whole h.content.placed.table.number ≡ table_at files h.content.placed.table.number = subst (λ (k : ℕ). table_at whole k ≡ table_at files k) (sym number) same in
    record {
      content = h.content;
      placed = h.placed;
      number_is = h.number_is;
      same = h.same;
      has = table_too order files whole h.content here h.has;
      short = short_too order files whole h.content here h.short;
    }

-- a table whose number was free is the same after a change that was done to both
pub free_table : (order : Order) (old new whole after : Files) (n : ℕ) → IsNumbered n → DiffersInTables old whole → IsSameChange old new whole after → IsFree order whole n → table_at after n ≡ table_at new n
free_table order old new whole after n num d c free =
    let at = also old new whole after d c in
    table_agrees new after n (at (name_of (Table n)) (free_agree order old whole n d free (Table n) num refl)) (at (name_of (OldTable n)) (free_agree order old whole n d free (OldTable n) num refl))
