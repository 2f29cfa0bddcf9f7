-- A scan whose last move is taken back.
use Rattle.std.proofs.Common.{◌≡◌, ℕ, Bool, List, sym, ap, ◌∙◌, subst, inl, inr, arith}
use Rattle.std.specs.Prelude.{slice_get}
use Rattle.cursor.specs.declared.merge.Merge.{Merge}
use Rattle.cursor.specs.declared.standing.Position.{Position}
use Rattle.cursor.specs.declared.standing.Position.TheVariants.{Astray}
use Rattle.cursor.specs.Merging.{KeepsAll}
use Rattle.cursor.specs.Places.{Cmp}
use Rattle.cursor.specs.Views.{IsViewList}
use Rattle.cursor.specs.Walks.{IsPlacedWalk, key_before, walked}
use Rattle.ikey.specs.declared.key_order.KeyOrder.{Ghosts}
use Rattle.level_cursor.specs.InRows.{ListsNumber}
use Rattle.db_cursor.specs.declared.scan.Scan.{Scan}
use Rattle.db_cursor.specs.declared.source_cursor.SourceCursor.{SourceCursor}
use Rattle.db_cursor.specs.Places.{KeepsSource, OneGoesOver}
use Rattle.db_cursor.specs.internal.Scanning.{TakesBack, ReadsAs}
use Rattle.db_cursor.specs.Scans.{IsOnePastLimit, IsOneTornFile, KeepsScan, ListsMerged, reads_table}
use Rattle.db_cursor.specs.Whole.{Whole}
use Rattle.db_cursor.proofs.ReadTables.{read_after, read_before, table_before}
use Rattle.db_cursor.proofs.Sights.{walks_again}

pub taken_back : {K : Type 0} {g : Ghosts K} (cmp : Cmp) (stood : Bool) (old new : Scan K g) → new.walk.cursor ≡ old.walk.cursor → new.walk.sequence ≡ old.walk.sequence → new.walk.stands ≡ stood → new.walk.position ≡ Astray
    → new.walk.here.key.items ≡ key_before old.walk → ReadsAs old new → TakesBack cmp stood old new
taken_back {K} {g} cmp stood old new cursor sequence stands position key reads first before after pairs from to h k stood_is seq left =
    let n = new.walk.sequence in
    let earlier = subst (λ (m : ℕ). IsPlacedWalk cmp (ListsMerged cmp) first.walk.cursor m first.walk.stands first.walk.position first.walk.here.key.items first.walk.here.value.items before h.walk.0 (walked pairs from)) (sym (sequence ∙ seq)) h.walk.2 in
    let there = subst (λ (m : ℕ). IsPlacedWalk cmp (ListsMerged cmp) old.walk.cursor m old.walk.stands old.walk.position old.walk.here.key.items old.walk.here.value.items after k.walk.0 (walked pairs to)) (sym sequence) k.walk.2 in
    let now = subst (λ (m : Merge K (SourceCursor K g)). IsPlacedWalk cmp (ListsMerged cmp) m n old.walk.stands old.walk.position old.walk.here.key.items old.walk.here.value.items after k.walk.0 (walked pairs to)) (sym cursor) there in
    let view = subst (λ (m : ℕ). IsViewList cmp k.walk.0 m pairs) (sym sequence) k.walk.1 in
    let again = walks_again cmp (ListsMerged cmp) first.walk.cursor new.walk.cursor n first.walk.stands old.walk.stands first.walk.position old.walk.position first.walk.here.key.items first.walk.here.value.items old.walk.here.key.items old.walk.here.value.items new.walk.here.value.items
    before after (ListsMerged cmp) h.walk.0 k.walk.0 pairs from to view earlier now in
    let keyed = subst (λ (bytes : List ℕ). IsPlacedWalk cmp (ListsMerged cmp) new.walk.cursor n first.walk.stands Astray bytes new.walk.here.value.items after k.walk.0 (walked pairs from)) (sym (key ∙ left)) again in
    let standing = subst (λ (b : Bool). IsPlacedWalk cmp (ListsMerged cmp) new.walk.cursor n b Astray new.walk.here.key.items new.walk.here.value.items after k.walk.0 (walked pairs from)) (sym (stands ∙ sym stood_is)) keyed in
    record {
      there = λ generation is. k.there generation (read_before old new reads generation is);
      bound = λ s t w. subst (λ (m : Merge K (SourceCursor K g)). KeepsAll (KeepsSource cmp) m.children.items s t) (sym cursor) (k.bound s t (keeps_before w));
      limits = λ l. subst (λ (v : _). IsOnePastLimit cmp v.value.tables after) (sym reads.version) (k.limits (l.0, l.1, ap (λ (m : Merge K (SourceCursor K g)). slice_get m.children.items l.0) (sym cursor) ∙ l.2, l.3));
      torn = λ cut l. subst (λ (v : _). IsOneTornFile cmp v.value.tables after cut) (sym reads.version) (k.torn cut (l.0, l.1, ap (λ (m : Merge K (SourceCursor K g)). slice_get m.children.items l.0) (sym cursor) ∙ l.2, l.3));
      walk = (
        k.walk.0,
        view,
        subst (λ (p : Position). IsPlacedWalk cmp (ListsMerged cmp) new.walk.cursor n new.walk.stands p new.walk.here.key.items new.walk.here.value.items after k.walk.0 (walked pairs from)) (sym position) standing,
      );
    }
  where
    used : (number : ℕ) → reads_table old number → reads_table new number
    used number (inl h) = inl (subst (λ (v : _). ListsNumber v.value.tables number) (sym reads.version) h)
    used number (inr h) = inr (h.0, h.1, ap (λ (m : Merge K (SourceCursor K g)). slice_get m.children.items h.0) cursor ∙ h.2, h.3)

    keeps_before : {s t : Whole} → KeepsScan cmp new s t → KeepsScan cmp old s t
    keeps_before w = record {
      memory = λ place is le. w.memory place (read_after old new reads place.generation is) (omega (arith, le, sequence));
      files = λ number is. w.files number (used number is);
      sound = w.sound;
    }

-- it goes over no other tables than before
pub tables_back : {K : Type 0} {g : Ghosts K} (old new : Scan K g) → new.walk.cursor ≡ old.walk.cursor → ReadsAs old new → (number : ℕ) → reads_table new number → reads_table old number
tables_back {K} {g} old new cursor reads =
    table_before old new reads (λ number over. subst (λ (m : Merge K (SourceCursor K g)). OneGoesOver m.children.items number) cursor over)
