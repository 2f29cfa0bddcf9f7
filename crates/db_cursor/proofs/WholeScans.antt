-- What scans over contents that tables may have say of those that they have.
use Rattle.std.proofs.Common.{◌≡◌, ℕ, Bool, IsTrue, List, Option, Result, IfErr, sym, ap, ◌∙◌, subst}
use Rattle.std.specs.Cmp.{IsTotalOrder}
use Rattle.std.specs.Prelude.{slice_get}
use Rattle.coding.specs.declared.error.DbError.{DbError}
use Rattle.cursor.specs.declared.merge.Merge.{Merge}
use Rattle.cursor.specs.Moves.{Refuses}
use Rattle.cursor.specs.Places.{Cmp}
use Rattle.cursor.specs.Views.{Walked}
use Rattle.cursor.specs.Walks.{key_before, walk_after, walked}
use Rattle.edits.specs.declared.field.PlacedTable.{PlacedTable}
use Rattle.ikey.specs.declared.key_order.KeyOrder.{Ghosts}
use Rattle.ikey.specs.Entries.{Pair}
use Rattle.ikey.specs.Orders.{Order}
use Rattle.db_cursor.specs.declared.scan.Scan.{Scan}
use Rattle.db_cursor.specs.declared.source_cursor.SourceCursor.{SourceCursor}
use Rattle.db_cursor.specs.internal.Scanning.{IsScanned, TakesBack}
use Rattle.db_cursor.specs.Scans.{BeginsScan, IsOneTornFile, IsScan, IsScanLimited, MayBeginScan, tables_of}
use Rattle.db_cursor.specs.Whole.{Whole}
use Rattle.db_cursor.proofs.Untorn.{intact_scan, may_of}
use Rattle.db_cursor.proofs.NewScans.{version_intact}
use Rattle.db_cursor.proofs.ScanSteps.{if_refuses}
use Rattle.table_access.specs.Possible.{MayBeTable}
use Rattle.table_access.proofs.Wholes.{may_be}
use Rattle.version_laws.proofs.Fitting.{may_have}

-- a new scan
pub begins_whole : {K : Type 0} {g : Ghosts K} (order : Order) → IsTotalOrder order.cmp → (whole : Whole) (tables : List PlacedTable) (sequence : ℕ) (scan : Scan K g) → tables_of scan ≡ tables → MayBeginScan order tables sequence whole scan
    → BeginsScan order tables sequence whole scan
begins_whole order total whole tables sequence scan over may contents view below sound has newer seen =
    let b = may contents view below sound (may_have (MayBeTable order.cmp) order (λ placed file kept table. may_be order.cmp total placed file kept table) whole.seen.facts.files tables contents has) newer seen in (
      b.0,
      b.1,
      intact_scan order.cmp scan whole _ b.2
          (λ cut t. version_intact order total whole tables contents sound has cut (subst (λ (ts : List PlacedTable). IsOneTornFile order.cmp ts whole cut) over (b.2.torn cut t))),
    )

-- a move
module _ {K : Type 0} {g : Ghosts K} (cmp : Cmp) (to : Walked → Option ℕ) (before after : Whole) (old new : Scan K g) (result : Result (Unit {0}) DbError) (moved : IsScanned cmp to before after old new result) where
  pub moves_whole : IsTrue after.seen.facts.faithful → (at : Walked) → IsScan cmp old before at → IsScan cmp new after (walk_after result (to at) at)
  moves_whole t at h = intact_scan cmp new after _ (moved.moves t at (may_of cmp old before at h)) (λ cut torn. h.intact cut (moved.tear t cut torn))

  pub refused_whole : IfErr result (λ e. Refuses e before.seen.facts after.seen.facts ((at : Walked) → IsScan cmp old before at → ⊥) (IsScanLimited cmp old before))
  refused_whole = if_refuses result before.seen.facts after.seen.facts _ _ _ (λ damaged at h. let torn = damaged at (may_of cmp old before at h) in h.intact torn.0 torn.1) moved.refused

-- a move that is taken back
pub back_whole : {K : Type 0} {g : Ghosts K} (cmp : Cmp) (stood : Bool) (old new : Scan K g) → new.walk.cursor ≡ old.walk.cursor → TakesBack cmp stood old new → (first : Scan K g) (before after : Whole) (pairs : List Pair) (from to : Option ℕ)
    → IsScan cmp first before (walked pairs from) → IsScan cmp old after (walked pairs to)
    → first.walk.stands ≡ stood → old.walk.sequence ≡ first.walk.sequence → key_before old.walk ≡ first.walk.here.key.items
    → IsScan cmp new after (walked pairs from)
back_whole {K} {g} cmp stood old new cursor back first before after pairs from to h k stands sequence key =
    intact_scan cmp new after (walked pairs from)
    (back first before after pairs from to (may_of cmp first before (walked pairs from) h) (may_of cmp old after (walked pairs to) k) stands sequence key)
    (λ cut t. k.intact cut (t.0, t.1, ap (λ (m : Merge K (SourceCursor K g)). slice_get m.children.items t.0) (sym cursor) ∙ t.2, t.3))
