-- What an iterator goes over, and what it answers to a move (LevelDB's include/leveldb/iterator.h).
use Rattle.std.specs.Prelude.{◌≡◌, ℕ, Bool, true, IsTrue, List, Option, Some, None, if◌then◌else◌, Result, Ok, Err, IfErr, OnErr, MatchOption}
use Rattle.std.specs.declared.cmp.Ordering.{Ordering}
use Rattle.coding.specs.declared.error.DbError.{DbError}
use Rattle.coding.specs.declared.error.DbError.TheVariants as error
use Rattle.cursor.specs.Cuts.{Cut}
use Rattle.cursor.specs.Moves.{Refuses}
use Rattle.memtables.specs.Places.{LeavesMemories}
use Rattle.db_cursor.specs.Scans.{IsOneTornFile, IsScanLimited, KeepsUpTo, reads_table, tables_of}
use Rattle.db_cursor.specs.Whole.{Whole}
use Rattle.db_cursor.specs.declared.scan.Scan.{Scan}
use Rattle.table_access.specs.Tables.{Carries}
use Rattle.table.specs.Reading.{IsStill, Reads}
use Rattle.reader.specs.internal.Iterators.{IsWalk, MayBeWalk}
use Rattle.ikey.specs.Views.{Contents as View}
use Rattle.machine.specs.Machine.{Walk}
use Rattle.machine.specs.Views.{AreSortedPairs}
use Rattle.machine.specs.Walks.{place_after, pair_at}
use Rattle.machine.specs.Causes.{Motion, lacks_place, needs_place}

-- A new iterator goes over the pairs of the map, in the order of their keys, and has no place.
abbrev pub BeginsWalk : {K : Type 0} {g : _} → (List ℕ → List ℕ → Ordering) → Bool → View → Whole → Scan K g → Type 0
BeginsWalk cmp limited map whole iterator =
    (pairs : List (List ℕ × List ℕ)) × AreSortedPairs cmp map pairs × IsWalk cmp limited whole iterator (record { pairs = pairs; place = None })

-- An iterator that is a walk over the one is the same walk over the other.
abbrev pub KeepsWalks : {K : Type 0} {g : _} → (List ℕ → List ℕ → Ordering) → Scan K g → Whole → Whole → Type 0
KeepsWalks cmp scan old new = (limited : Bool) (walk : Walk) → IsWalk cmp limited old scan walk → IsWalk cmp limited new scan walk

-- Over each map that its tables may have, it goes over the pairs of that map.
abbrev pub MayBeginWalk : {K : Type 0} {g : _} → (List ℕ → List ℕ → Ordering) → View → Whole → Scan K g → Type 0
MayBeginWalk cmp map whole iterator = (pairs : List (List ℕ × List ℕ)) × AreSortedPairs cmp map pairs × MayBeWalk cmp whole iterator (record { pairs = pairs; place = None })

-- An iterator that may be a walk over the one may be it over the other.
abbrev pub KeepsMayBe : {K : Type 0} {g : _} → (List ℕ → List ℕ → Ordering) → Scan K g → Whole → Whole → Type 0
KeepsMayBe cmp scan old new = (walk : Walk) → MayBeWalk cmp old scan walk → MayBeWalk cmp new scan walk

-- what an iterator answers from: its sequence number, and the key on which it stands
abbrev pub standing : {K : Type 0} {g : _} → Scan K g → ℕ × Option (List ℕ)
standing scan = (scan.walk.sequence, if scan.walk.stands then Some scan.walk.here.key.items else None)

-- what a read may be refused for
abbrev pub IsReadError : DbError → Type 0
IsReadError error.OutOfMemory = Unit {0}
IsReadError error.Io = Unit {0}
IsReadError (error.Corrupt file what) = Unit {0}
IsReadError (error.Unsupported what) = Unit {0}
IsReadError _ = ⊥

-- a move may fail so too, and a step since it has no place
abbrev pub MayRefuseMotion : Motion → DbError → Type 0
MayRefuseMotion motion error.NoPlace = needs_place motion ≡ true
MayRefuseMotion motion e = IsReadError e

-- Where a move has led an iterator that was this walk: to the place of the motion, with the pair
-- there, or, refused, to where it stood.
abbrev pub MovesTo : {K : Type 0} {g : _} → (List ℕ → List ℕ → Ordering) → Motion → Bool → Whole → Scan K g → Walk → Result (Option (List ℕ × List ℕ)) DbError → Type 0
MovesTo cmp motion limited after new walk (Ok pair) =
    IsWalk cmp limited after new (record walk { place = place_after cmp motion walk }) × (pair ≡ pair_at walk.pairs (place_after cmp motion walk))
MovesTo cmp motion limited after new walk (Err e) = IsWalk cmp limited after new walk

-- The same of one that may be this walk.
abbrev pub MayMoveTo : {K : Type 0} {g : _} → (List ℕ → List ℕ → Ordering) → Motion → Whole → Scan K g → Walk → Result (Option (List ℕ × List ℕ)) DbError → Type 0
MayMoveTo cmp motion after new walk (Ok pair) =
    MayBeWalk cmp after new (record walk { place = place_after cmp motion walk }) × (pair ≡ pair_at walk.pairs (place_after cmp motion walk))
MayMoveTo cmp motion after new walk (Err e) = MayBeWalk cmp after new walk

-- whichever walk it may be, the file of one of its tables is torn
abbrev pub HasTornFile : {K : Type 0} {g : _} → (List ℕ → List ℕ → Ordering) → Whole → Scan K g → Type 0
HasTornFile cmp whole iterator = (walk : Walk) → MayBeWalk cmp whole iterator walk → (cut : Cut) × IsOneTornFile cmp (tables_of iterator) whole cut

-- no walk is what the iterator stands for
abbrev pub IsNoWalk : {K : Type 0} {g : _} → (List ℕ → List ℕ → Ordering) → Whole → Scan K g → Type 0
IsNoWalk cmp whole iterator = (limited : Bool) (walk : Walk) → IsWalk cmp limited whole iterator walk → ⊥

-- What a move of an iterator does, which only reads.
pub record IsMoved {K : Type 0} {g : _} (cmp : List ℕ → List ℕ → Ordering) (motion : Motion) (before after : Whole) (old new : Scan K g) (result : Result (Option (List ℕ × List ℕ)) DbError) : Type 0 where
  -- whatever the store returns
  pub memory : LeavesMemories before.memory after.memory
  pub reads : Reads before.seen.facts after.seen.facts
  -- what it keeps anew is of tables that the iterator reads
  pub carries : Carries cmp (λ number. reads_table old number) before.seen after.seen
  pub still : IsStill before.seen.facts after.seen.facts result
  -- its version stays, and it reads no other tables
  pub version : tables_of new ≡ tables_of old
  pub tables : (number : ℕ) → reads_table new number → reads_table old number
  pub stayed : OnErr result (standing new ≡ standing old)
  pub allowed : IfErr result (MayRefuseMotion motion)
  -- no place to step from
  pub placeless : MatchOption (lacks_place old.walk.stands motion) (Unit {0}) (λ cause. (result ≡ Err cause) × (new ≡ old) × (after ≡ before))
  pub placed : lacks_place old.walk.stands motion ≡ None → IfErr result IsReadError
  pub refused : lacks_place old.walk.stands motion ≡ None → IfErr result (λ e. Refuses e before.seen.facts after.seen.facts (IsNoWalk cmp before old) (IsScanLimited cmp old before))
  pub torn : lacks_place old.walk.stands motion ≡ None → IfErr result (λ e. Refuses e before.seen.facts after.seen.facts (HasTornFile cmp before old) (IsScanLimited cmp old before))
  -- while it is faithful
  pub keeps : IsTrue after.seen.facts.faithful → (sequence : ℕ) → KeepsUpTo cmp sequence before after
  pub moves : IsTrue after.seen.facts.faithful → lacks_place old.walk.stands motion ≡ None → (limited : Bool) (walk : Walk) → IsWalk cmp limited before old walk
      → MovesTo cmp motion limited after new walk result
  -- whichever pairs its tables may have
  pub may_move : IsTrue after.seen.facts.faithful → lacks_place old.walk.stands motion ≡ None → (walk : Walk) → MayBeWalk cmp before old walk → MayMoveTo cmp motion after new walk result
