-- What a power loss leaves of what is synced, in each directory that differs in tables alone.
use Rattle.std.proofs.Common.{◌≡◌, ℕ, List, Option, Some, None, is_some, inl, inr, refl, sym, ap, ◌∙◌}
use Rattle.std.specs.FinMap.{get}
use Rattle.std.specs.Option.{option_or}
use Rattle.store.specs.Files.{Facts, Files}
use Rattle.edits.specs.Names.{name_of}
use Rattle.edits.specs.declared.names.FileName.TheVariants.{Current, Log, Manifest, Table, OldTable}
use Rattle.recover.specs.Tables.{table_at}
use Rattle.recover.specs.internal.Laws.{FreeChangeLaw}
use Rattle.recover.proofs.Keeping.{keep_logs, keep_manifest, keep_tables}
use Rattle.directory_writes.specs.Differing.{DiffersInTables, IsSameChange}
use Rattle.directory_writes.proofs.Cleaning.{read_newer}
use Rattle.directory_writes.proofs.SameChanges.{differs_after, log_other}
use Rattle.opening.specs.Losses.{CutEachLaw, IsKept, IsTableKept, KeptEachLaw}
use Rattle.opening.proofs.Cutting.{cut_among, cut_live, cut_logs, cut_rise, cut_rising, read_same, still_there}
use Rattle.opening.proofs.Losing.{lost_now, same_at}

-- a file that is kept is there as it was
abbrev StaysKept : Facts → Files → List ℕ → Type 0
StaysKept facts lost q = IsKept facts q → get lost q ≡ get facts.files q

module _ (facts : Facts) (lost whole after : Files) (d : DiffersInTables facts.files whole) (c : IsSameChange facts.files lost whole after) where
  table_found : (n : ℕ) (o : Option (List ℕ)) → get facts.files (name_of (Table n)) ≡ o → StaysKept facts lost (name_of (Table n))
      → (get facts.files (name_of (Table n)) ≡ None → StaysKept facts lost (name_of (OldTable n))) → IsTableKept facts n → table_at after n ≡ table_at whole n
  table_found n None is new old kept =
      let newer = c.stays (name_of (Table n)) (new kept.0) in
      let older = c.stays (name_of (OldTable n)) (old is (kept.1 is)) in
      λ i. option_or (newer i) (older i)
  table_found n (Some file) is new old kept =
      read_newer (get whole (name_of (Table n))) (get whole (name_of (OldTable n))) (get after (name_of (Table n))) (get after (name_of (OldTable n)))
      (c.stays (name_of (Table n)) (new kept.0)) (d.names (name_of (Table n)) ∙ ap is_some is)

  -- the table reads the same there
  table_there : (n : ℕ) → StaysKept facts lost (name_of (Table n)) → (get facts.files (name_of (Table n)) ≡ None → StaysKept facts lost (name_of (OldTable n))) → IsTableKept facts n
      → table_at after n ≡ table_at whole n
  table_there n new old kept = table_found n (get facts.files (name_of (Table n))) refl new old kept

pub kept_each : FreeChangeLaw → KeptEachLaw
kept_each law order facts d lost ends h whole after differs c good k =
    let now = lost_now facts lost ends h in
    law order whole after d (record {
      current = c.stays (name_of Current) (same_at facts lost (name_of Current) now k.current);
      manifest = c.stays (name_of (Manifest d.manifest)) (same_at facts lost (name_of (Manifest d.manifest)) now k.manifest);
      logs = λ n num live. c.stays (name_of (Log n)) (same_at facts lost (name_of (Log n)) now (k.logs n num live));
      tables = λ content among. elim (k.tables content among) [
        | inl kept ↦
            let n = content.placed.table.number in
            table_there facts lost whole after differs c n (same_at facts lost (name_of (Table n)) now) (λ is. same_at facts lost (name_of (OldTable n)) now) kept
        | inr left ↦ left
      ];
    }) good

pub cut_each : CutEachLaw
cut_each order facts d lost h whole after differs c good k =
    let behind = differs_after facts.files lost whole after differs c in
    let here = keep_logs whole facts.files d.logs (λ n num i. sym (differs.others (name_of (Log n)) (log_other n num))) good.logs in
    let left = cut_logs facts d lost d.logs h good.live here in (
      left.cuts,
      left.are,
      record {
        manifest = keep_manifest order whole after d.manifest d.edits d.layout (c.stays (name_of Current) (read_same facts d lost (name_of Current) h (inl refl) k.current))
            (c.stays (name_of (Manifest d.manifest)) (read_same facts d lost (name_of (Manifest d.manifest)) h (inr (inl refl)) k.manifest)) good.manifest;
        tables = keep_tables order whole after d.tables
            (λ content among. elim (k.tables content among) [
              | inl kept ↦
                  let n = content.placed.table.number in
                  table_there facts lost whole after differs c n (read_same facts d lost (name_of (Table n)) h (inr (inr (content, among, inl refl))))
                  (λ is. read_same facts d lost (name_of (OldTable n)) h (inr (inr (content, among, inr (refl, is))))) kept
              | inr left ↦ left
            ]) good.tables;
        placed = good.placed;
        logs = keep_logs lost after left.cuts (λ n num i. behind.others (name_of (Log n)) (log_other n num)) left.there;
        live = cut_live facts d.layout d.logs left.cuts left.are good.live;
        rising = cut_rising facts 0 d.logs left.cuts left.are good.rising;
        all = λ n num live there.
            let present = sym (behind.names (name_of (Log n))) ∙ there in
            left.all n (good.all n num live (differs.names (name_of (Log n)) ∙ still_there facts d lost n h (n, num, live, refl) present)) present;
        apart = good.apart;
        newer = λ e f i j same. good.newer e f (cut_among facts d.logs left.cuts left.are e i) j same;
        sequences = cut_rise facts d.logs left.cuts left.are 0 good.sequences;
        recorded = good.recorded;
      },
    )
