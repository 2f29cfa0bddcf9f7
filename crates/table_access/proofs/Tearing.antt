-- At which block a search over a table is refused as damaged.
use Rattle.std.proofs.Common.{◌≡◌, ◌⊎◌, ◌<◌, ◌≤◌, ◌-◌, ℕ, List, Some, arith, length, IsTrue, sym, ◌∙◌, subst, inl, inr}
use Rattle.block.specs.Places.{Placed}
use Rattle.cache.specs.Tables.{RefusesTable}
use Rattle.coding.specs.declared.error.DbError.{DbError}
use Rattle.coding.specs.declared.error.DbError.TheVariants.{OutOfMemory, Io, Corrupt, Unsupported}
use Rattle.coding.specs.declared.error.Damage.{Damage}
use Rattle.coding.specs.declared.error.FileKind.{FileKind}
use Rattle.cursor.specs.Moves.{Refuses}
use Rattle.cursor.specs.Places.{Cmp}
use Rattle.edits.specs.declared.field.PlacedTable.{PlacedTable}
use Rattle.ikey.specs.Below.{IsBelowInternal}
use Rattle.ikey.specs.Entries.{Pair}
use Rattle.ikey.specs.Keys.{IsFirstKey}
use Rattle.store.specs.Files.{Facts}
use Rattle.table_access.specs.Ends.{HasEnds}
use Rattle.table_access.specs.Torn.{LacksBack, LacksBlock, LacksOn}
use Rattle.table_access.specs.Tables.{Seen, Carries, HasIntact, HasSoundTable, IsBlockDamaged, IsBlockUnsupported, Only, SaysOf}
use Rattle.table_access.specs.Telling.{IfCorrupt, IsFirstFound, IsTornIn, StopsTorn, TornOfKey}
use Rattle.table_access.specs.Values.{StandsOnNone}
use Rattle.table_access.proofs.Carrying.{still_has}
use Rattle.table_access.proofs.Coming.{IsComing}
use Rattle.table_access.proofs.Searching.{IsSearchingBack}
use Rattle.table_access.proofs.TableSeeking.{all_at}
use Rattle.table.specs.Frame.{Frame, IsFrame}
use Rattle.table.specs.Intact.{IsWithin, floor_of}
use Rattle.table.specs.Refusals.{IsFirstPlace, IsFrameDamaged, IsFrameUnsupported}
use Rattle.table.specs.Table.{HasBlock}
use Rattle.table.specs.declared.handle.Place.{Place}
use Rattle.table.proofs.DataBlocks.{one_data}

-- ---- a block

pub torn_block : (cmp : Cmp) (old new : Seen) (placed : PlacedTable) (frame : Frame) (index : ℕ) → (e : DbError)
    → RefusesTable e old.facts new.facts placed.table.number (λ file. HasSoundTable cmp old placed.table.number file → IsBlockDamaged cmp index file) (λ file. HasSoundTable cmp old placed.table.number file → IsBlockUnsupported cmp index file)
    → IfCorrupt e (SaysOf cmp old new placed.table.number (λ file. IsFrame cmp file frame → IsTornIn cmp placed file frame index))
torn_block cmp old new placed frame index (Corrupt kind what) h = λ t file has is pairs intact.
    elim (h t file has.file_is has) [
      | inl damaged ↦ damaged.0 frame is
      | inr torn ↦ (torn frame is).0 pairs intact.intact
    ]
torn_block cmp old new placed frame index e h = tt

-- without the edit's keys, where it is an end
pub torn_ends : (cmp : Cmp) (old new : Seen) (placed : PlacedTable) (frame : Frame) (index count : ℕ) (pairs : List Pair) → SaysOf cmp old new placed.table.number (HasIntact cmp index pairs) → count ≡ length frame.places
    → (HasEnds placed count index pairs → ⊥) → SaysOf cmp old new placed.table.number (λ file. IsFrame cmp file frame → IsTornIn cmp placed file frame index)
torn_ends cmp old new placed frame index count pairs says count_is none t file has is others intact =
    let mine = says t file has frame is in
    let both : Some intact.intact.place ≡ Some mine.place = sym intact.intact.place_is ∙ mine.place_is in
    let place : intact.intact.place ≡ mine.place = cc in
    let theirs = subst (λ (p : Place). HasBlock cmp file p.handle others) place intact.intact.has in
    let same = one_data cmp file mine.place.handle others pairs theirs mine.has in
    none (subst (λ (n : ℕ). HasEnds placed n index pairs) (sym count_is) (subst (HasEnds placed (length frame.places) index) same intact.ends))

-- ---- a search

-- a refusal of a later call, said of the state before
refused_later : (e : DbError) (a b c : Facts) (damaged damage limited : Type 0) → a.failures ≤ b.failures → (IsTrue c.faithful → damaged → damage) → Refuses e b c damaged limited → Refuses e a c damage limited
refused_later OutOfMemory a b c damaged damage limited le d h = tt
refused_later Io a b c damaged damage limited le d h = omega (arith, le, h)
refused_later (Corrupt kind what) a b c damaged damage limited le d h = λ t. d t (h t)
refused_later (Unsupported what) a b c damaged damage limited le d h = λ t. elim (h t) [ inl none ↦ inl (d t none) | inr past ↦ inr past ]
refused_later e a b c damaged damage limited le d h = absurd h

pub torn_there : (cmp : Cmp) (passed : List ℕ → Type 0) (old now new : Seen) (placed : PlacedTable) (frame : Frame) (start index : ℕ) (e : DbError) → index < length frame.places → IsComing cmp passed old now placed frame start index → Carries cmp (Only placed.table.number) now new
    → IfCorrupt e (SaysOf cmp now new placed.table.number (λ file. IsFrame cmp file frame → IsTornIn cmp placed file frame index))
    → IfCorrupt e (SaysOf cmp old new placed.table.number (λ file. IsFrame cmp file frame → StopsTorn cmp passed placed file frame start))
torn_there cmp passed old now new placed frame start index (Corrupt kind what) inside s carries h = λ t file has is.
    let m = carries.reads.faithful t in
    record {
      index = index;
      reached = s.reached;
      inside = inside;
      came = s.came m file has is;
      torn = h t file (still_has cmp old now placed.table.number file s.searching.carries m has) is;
    }
torn_there cmp passed old now new placed frame start index e inside s carries h = tt

pub refused_there : (cmp : Cmp) (passed : List ℕ → Type 0) (old now new : Seen) (placed : PlacedTable) (frame : Frame) (start index : ℕ) (limited : Type 0) (e : DbError) → index < length frame.places → IsComing cmp passed old now placed frame start index → Carries cmp (Only placed.table.number) now new
    → Refuses e now.facts new.facts (LacksBlock cmp now placed frame index) limited → Refuses e old.facts new.facts (LacksOn cmp passed old placed frame start) limited
refused_there cmp passed old now new placed frame start index limited e inside s carries h =
    let f = s.searching.carries.reads.failures in
    refused_later e old.facts now.facts new.facts (LacksBlock cmp now placed frame index) (LacksOn cmp passed old placed frame start) limited (omega (arith, f)) (λ t lacks file has open_is.
    let m = carries.reads.faithful t in
    record {
      index = index;
      reached = s.reached;
      inside = inside;
      came = s.came m file has open_is.0;
      torn = lacks file (still_has cmp old now placed.table.number file s.searching.carries m has) open_is;
    }) h

pub refused_back : (cmp : Cmp) (old now new : Seen) (placed : PlacedTable) (frame : Frame) (end step index : ℕ) (limited : Type 0) (e : DbError) → step < end → index ≡ end - step - 1 → IsSearchingBack cmp old now placed frame end step → Carries cmp (Only placed.table.number) now new
    → Refuses e now.facts new.facts (LacksBlock cmp now placed frame index) limited → Refuses e old.facts new.facts (LacksBack cmp old placed frame end) limited
refused_back cmp old now new placed frame end step index limited e less index_is s carries h =
    let f = s.carries.reads.failures in
    refused_later e old.facts now.facts new.facts (LacksBlock cmp now placed frame index) (LacksBack cmp old placed frame end) limited (omega (arith, f)) (λ t lacks file has open_is.
    let m = carries.reads.faithful t in
    record {
      index = index;
      inside = omega (arith, less, index_is);
      came = λ k from high. s.came m file has open_is.0 k (omega (arith, from, index_is)) high;
      torn = lacks file (still_has cmp old now placed.table.number file s.carries m has) open_is;
    }) h

-- ---- a look-up

abbrev pub WhyTorn : Cmp → Seen → Seen → PlacedTable → List ℕ → ℕ → Type 0
WhyTorn cmp old new placed key sequence = SaysOf cmp old new placed.table.number (λ file. IsFrameDamaged cmp file ⊎ TornOfKey cmp placed key sequence file)

pub torn_frame : (cmp : Cmp) (old new : Seen) (placed : PlacedTable) (key : List ℕ) (sequence : ℕ) (e : DbError) → RefusesTable e old.facts new.facts placed.table.number (IsFrameDamaged cmp) IsFrameUnsupported
    → IfCorrupt e (WhyTorn cmp old new placed key sequence)
torn_frame cmp old new placed key sequence (Corrupt kind what) h = λ t file has. inl (h t file has.file_is)
torn_frame cmp old new placed key sequence e h = tt

module _ {numbers : ℕ → Type 0} (cmp : Cmp) (old mid new : Seen) (placed : PlacedTable) (frame : Frame) (key : List ℕ) (sequence : ℕ) (first : Carries cmp numbers old mid) (second : Carries cmp numbers mid new) (target : List ℕ) (start : ℕ)
    (target_is : IsFirstKey key sequence target) (start_is : IsFirstPlace cmp target frame.places start) (says : IsTrue mid.facts.faithful → (file : List ℕ) → HasSoundTable cmp old placed.table.number file → IsFrame cmp file frame) where
  pub torn_search : (e : DbError) → IfCorrupt e (SaysOf cmp mid new placed.table.number (λ file. IsFrame cmp file frame → StopsTorn cmp (λ (other : List ℕ). IsBelowInternal cmp other target) placed file frame start))
      → IfCorrupt e (WhyTorn cmp old new placed key sequence)
  torn_search (Corrupt kind what) h = λ t file has.
      let m = second.reads.faithful t in
      let is = says m file has in
      inr (record { frame = frame; frame_is = is; target = target; start = start; target_is = target_is; start_is = start_is; stops = h t file (still_has cmp old mid placed.table.number file first m has) is })
  torn_search e h = tt

  -- no block that is one has a key that is none
  pub torn_value : (index : ℕ) (cursor : Placed) (e : DbError) (kind : FileKind) (what : Damage)
      → SaysOf cmp mid new placed.table.number (λ file. IsFrame cmp file frame → IsFirstFound cmp (λ (other : List ℕ). IsBelowInternal cmp other target) placed file frame start index cursor.pairs cursor.place)
      → (e ≡ OutOfMemory) ⊎ ((e ≡ Corrupt kind what) × StandsOnNone cursor) → IfCorrupt e (WhyTorn cmp old new placed key sequence)
  torn_value index cursor e kind what came (inl memory) = subst (λ (r : DbError). IfCorrupt r (WhyTorn cmp old new placed key sequence)) (sym memory) tt
  torn_value index cursor e kind what came (inr corrupt) = subst (λ (r : DbError). IfCorrupt r (WhyTorn cmp old new placed key sequence)) (sym corrupt.0) (λ t file has.
      let m = second.reads.faithful t in
      let found = came t file (still_has cmp old mid placed.table.number file first m has) (says m file has) in
      let within = all_at (IsWithin cmp (floor_of frame.places index) found.intact.intact.place.key) cursor.pairs found.inside found.pair found.intact.intact.within found.pair_is in
      absurd (corrupt.1 found.inside found.pair within.key found.place_is found.pair_is within.is))
