-- Opening a table by its number, from opening the file of a name.
use Rattle.std.proofs.Common.{◌≡◌, ℕ, List, Some, Ok, Err, ap, sym, subst, ◌∙◌, arith}
use Rattle.std.specs.declared.cmp.Ordering.{Ordering}
use Rattle.std.specs.FinMap.{get}
use Rattle.coding.specs.declared.error.DbError.{DbError}
use Rattle.coding.specs.declared.error.DbError.TheVariants.{OutOfMemory, Io, Corrupt, Unsupported}
use Rattle.store.specs.Files.{Facts}
use Rattle.table.specs.Frame.{Frame, Opened, IsFrame, IsOversized}
use Rattle.table.specs.Reading.{Reads, Finds, Answers, Refuses}
use Rattle.table.specs.Refusals.{IsFrameDamaged, IsFrameUnsupported}
use Rattle.cache.specs.Tables.{FindsName, IsNameOf, OpensTable, RefusesTable}

pub refuses_table : (e : DbError) (old mid new : Facts) (number : ℕ) (name : List ℕ) (damaged unsupported : List ℕ → Type 0)
    → Reads old mid → mid.failures ≡ old.failures → Reads mid new → FindsName old mid number name → Refuses e mid new name damaged unsupported → RefusesTable e old new number damaged unsupported
refuses_table OutOfMemory old mid new number name damaged unsupported first stood second finds h = h ∙ stood
refuses_table Io old mid new number name damaged unsupported first stood second finds h = let a = first.failures in omega (arith, a, h)
refuses_table (Corrupt kind what) old mid new number name damaged unsupported first stood second finds h = λ t file there.
    let m = second.faithful t in h t file (ap (λ files. get files name) (first.files m) ∙ sym (finds m) ∙ there)
refuses_table (Unsupported what) old mid new number name damaged unsupported first stood second finds h = λ t file there.
    let m = second.faithful t in h t file (ap (λ files. get files name) (first.files m) ∙ sym (finds m) ∙ there)
refuses_table e old mid new number name damaged unsupported first stood second finds h = absurd h

pub reads_both : (old mid new : Facts) → Reads old mid → Reads mid new → Reads old new
reads_both old mid new first second =
    let a = first.failures in
    let b = second.failures in
    record {
      faithful = λ t. first.faithful (second.faithful t);
      files = λ t. second.files t ∙ first.files (second.faithful t);
      failures = omega (arith, a, b);
      writes = second.writes ∙ first.writes;
      denials = second.denials ∙ first.denials;
      locked = second.locked ∙ first.locked;
      synced = λ t. second.synced t ∙ first.synced (second.faithful t);
      calls = λ t. second.calls t ∙ first.calls (second.faithful t);
    }

pub not_opened : (cmp : List ℕ → List ℕ → Ordering) (e : DbError) (old mid new : Facts) (number : ℕ) (name : List ℕ) → Reads old mid → mid.failures ≡ old.failures → Reads mid new → FindsName old mid number name
    → Refuses e mid new name (IsFrameDamaged cmp) IsFrameUnsupported
    → Refuses e mid new name (λ file. (frame : Frame) → IsFrame cmp file frame → ⊥) (λ file. (frame : Frame) (is : IsFrame cmp file frame) → IsOversized cmp file frame is) → OpensTable cmp old new number (Err e)
not_opened cmp e old mid new number name first stood second finds told refused = record {
  reads = reads_both old mid new first second;
  found = tt;
  named = tt;
  stood = tt;
  told = refuses_table e old mid new number name (IsFrameDamaged cmp) IsFrameUnsupported first stood second finds told;
  refused = refuses_table e old mid new number name _ _ first stood second finds refused;
}

pub opened : (cmp : List ℕ → List ℕ → Ordering) (old mid new : Facts) (number : ℕ) (name : List ℕ) (table : Opened) → Reads old mid → mid.failures ≡ old.failures → Reads mid new → new.failures ≡ mid.failures
    → FindsName old mid number name → IsNameOf number name → table.name ≡ name → Finds mid new name (λ file. IsFrame cmp file table.frame) → Answers mid new name (λ file. IsFrameUnsupported file → ⊥) → OpensTable cmp old new number (Ok table)
opened cmp old mid new number name table first stood second still finds its named found supported = record {
  reads = reads_both old mid new first second;
  found = λ t.
      let m = second.faithful t in
      let f = found t in
      let there : get old.files name ≡ Some f.0 = ap (λ files. get files name) (sym (first.files m)) ∙ f.1 in
      (f.0, finds m ∙ there, ap (get old.files) named ∙ there, f.2, supported t f.0 f.1);
  named = subst (IsNameOf number) (sym named) its;
  stood = still ∙ stood;
  told = tt;
  refused = tt;
}
