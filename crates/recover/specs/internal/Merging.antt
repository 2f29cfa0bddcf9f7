-- What tables that are merged say of one another.
use Rattle.std.specs.Prelude.{◌≡◌, ◌⊎◌, ◌<◌, ◌≤◌, ℕ, Bool, true, false, List, [], ◌∷◌, Option, Some, None, slice_get}
use Rattle.std.specs.List.{AllByRecursion}
use Rattle.std.specs.Ordering.{nat_cmp, then_cmp, on}
use Rattle.std.specs.declared.cmp.Ordering.{Ordering}
use Rattle.std.specs.declared.cmp.Ordering.TheVariants.{Less}
use Rattle.coding.specs.declared.error.DbError.{DbError}
use Rattle.coding.specs.declared.error.DbError.TheVariants.{Corrupt}
use Rattle.coding.specs.declared.error.Damage.TheVariants as damage
use Rattle.coding.specs.declared.error.FileKind.TheVariants as file
use Rattle.edits.specs.declared.field.PlacedTable.{PlacedTable}
use Rattle.ikey.specs.Keys.{Key, IsKey}
use Rattle.ikey.specs.Orders.{Order}
use Rattle.ikey.specs.Sources.{ComesBefore}
use Rattle.ikey.specs.declared.entry.Entry.{Entry}
use Rattle.ikey.specs.declared.internal_key.InternalKey.{InternalKey}
use Rattle.ikey.specs.Views.{Among}
use Rattle.store.specs.Files.{Files}
use Rattle.recover.specs.declared.logged.Logged.{Logged}
use Rattle.recover.specs.declared.merging.Lane.{Lane}
use Rattle.recover.specs.declared.merging.Last.{Last}
use Rattle.recover.specs.declared.report.TableSummary.{TableSummary}
use Rattle.recover.specs.declared.walking.Head.{Head}
use Rattle.recover.specs.internal.Checks.{content_of}
use Rattle.recover.specs.internal.Walking.{stamp, IsHead, Passes}
use Rattle.recover.specs.Report.{table_summary}
use Rattle.recover.specs.Tables.{HasTable}

-- an entry, and the table that it came from, by its place in the row and its level
pub record Came : Type 0 where
  pub place : ℕ
  pub level : ℕ
  pub entry : Entry

-- of two tables, each by its level and its place, the second isn't one that has to be newer
abbrev pub IsNoNewer : ℕ → ℕ → ℕ → ℕ → Type 0
IsNoNewer level place other_level other = (level < other_level) ⊎ ((level ≡ other_level) × ((0 < level) ⊎ (other ≤ place)))

-- where both are of one key the second is older, and its table no newer one
abbrev pub MayFollow : Came → Came → Type 0
MayFollow a b = a.entry.key ≡ b.entry.key → (b.entry.sequence < a.entry.sequence) × IsNoNewer a.level a.place b.level b.place

-- both are of one key, and that isn't so
abbrev pub IsBroken : Came → Came → Type 0
IsBroken a b = (a.entry.key ≡ b.entry.key) × ((b.entry.sequence < a.entry.sequence) × IsNoNewer a.level a.place b.level b.place → ⊥)

-- the second comes after the first: its key does, or it is of the same key and may follow
abbrev pub ComesBehind : Order → Came → Came → Type 0
ComesBehind order a b =
    (order.cmp a.entry.key b.entry.key ≡ Less) ⊎ ((a.entry.key ≡ b.entry.key) × ((b.entry.sequence < a.entry.sequence) × IsNoNewer a.level a.place b.level b.place))

-- what came, the last first: each after all that came before it
abbrev pub HaveCome : Order → List Came → Type 0
HaveCome order [] = Unit {0}
HaveCome order (last ∷ before) = ((a : Came) → Among before a → ComesBehind order a last) × HaveCome order before

-- the entry is older than all that is logged of its key, and its sequence number is recorded
pub record IsOldEntry (logged : List Entry) (recorded : ℕ) (entry : Entry) : Type 0 where
  pub newer : (l : Entry) → Among logged l → l.key ≡ entry.key → entry.sequence < l.sequence
  pub sequence : entry.sequence ≤ recorded

-- it is of the table at its place, whatever entries that has
pub record IsOfTable (order : Order) (files : Files) (tables : List PlacedTable) (came : Came) : Type 0 where
  pub placed : PlacedTable
  pub placed_is : slice_get tables came.place ≡ Some placed
  pub level : placed.level ≡ came.level
  pub inside : (entries : List Entry) → HasTable order files (content_of placed entries) → Among entries came.entry

-- the table at this place was read to its end, and its entries have come
pub record WasMerged (order : Order) (files : Files) (came : List Came) (place : ℕ) (placed : PlacedTable) (entries : List Entry) : Type 0 where
  pub has : HasTable order files (content_of placed entries)
  pub come : (entry : Entry) → Among entries entry → Among came (record { place = place; level = placed.level; entry = entry })

-- no table stands after one of a deeper level
abbrev pub AreByLevel : List PlacedTable → Type 0
AreByLevel [] = Unit {0}
AreByLevel (placed ∷ tables) = AllByRecursion (λ (other : PlacedTable). placed.level ≤ other.level) tables × AreByLevel tables

-- ---- tables in the middle of their reading

-- the entry at hand comes before the other
abbrev pub IsHeadBefore : Order → Head → Head → Type 0
IsHeadBefore order a b = ComesBefore order (stamp a.user.items a.sequence) (stamp b.user.items b.sequence)

-- the entry came last, if one did
abbrev pub IsLast : Last → List Came → Type 0
IsLast last [] = last.some ≡ false
IsLast last (c ∷ before) = (last.some ≡ true) × IsHead last.head c.entry × (c.place ≡ last.place) × (c.level ≡ last.level)

-- what an entry of this key and sequence number doesn't stand before, if it is there
abbrev pub IsNotBefore : Order → Last → Entry → Type 0
IsNotBefore order last entry = last.some ≡ true → ComesBefore order entry (stamp last.head.user.items last.head.sequence) → ⊥

-- The lane stands on this entry of the table at its place, whose first entries have come.
pub record IsLane {K : Type 0} (order : Order) (files : Files) (tables : List PlacedTable) (last : Last) (came : List Came) (lane : Lane K) : Type 0 where
  pub placed : PlacedTable
  pub placed_is : slice_get tables lane.place ≡ Some placed
  pub level : placed.level ≡ lane.level
  pub passed : List Entry
  pub here : Entry
  pub passes : Passes order files placed lane.walk passed here
  pub come : (entry : Entry) → Among passed entry → Among came (record { place = lane.place; level = lane.level; entry = entry })
  pub front : (c : Came) → Among came c → c.place ≡ lane.place → ComesBefore order c.entry here
  pub behind : IsNotBefore order last (stamp lane.walk.head.user.items lane.walk.head.sequence)

abbrev pub AreLanes : {K : Type 0} → Order → Files → List PlacedTable → Last → List Came → List (Lane K) → Type 0
AreLanes {K} order files tables last came lanes = (i : ℕ) (lane : Lane K) → slice_get lanes i ≡ Some lane → lane.stands ≡ true → IsLane order files tables last came lane

-- a lane stands on an entry of the table at this place
abbrev pub HasLane : {K : Type 0} → List (Lane K) → ℕ → Type 0
HasLane {K} lanes place = (i : ℕ) × (lane : Lane K) × (slice_get lanes i ≡ Some lane) × (lane.stands ≡ true) × (lane.place ≡ place)

-- the table at this place wasn't begun, is being read, or was read to its end and counted
abbrev pub IsDue : {K : Type 0} → Order → Files → List Came → List (Lane K) → List Bool → List TableSummary → ℕ → PlacedTable → Type 0
IsDue order files came lanes begun summaries place placed =
    (slice_get begun place ≡ Some false) ⊎ (HasLane lanes place
    ⊎ ((entries : List Entry) × WasMerged order files came place placed entries × (slice_get summaries place ≡ Some (table_summary (content_of placed entries)))))

-- What holds between two entries.
pub record IsMerging {K : Type 0} (order : Order) (files : Files) (logged : List Entry) (recorded : ℕ) (tables : List PlacedTable) (lanes : List (Lane K)) (last : Last) (begun : List Bool) (summaries : List TableSummary) (came : List Came) : Type 0 where
  pub row : HaveCome order came
  pub last_is : IsLast last came
  pub old : (c : Came) → Among came c → IsOldEntry logged recorded c.entry
  pub inside : (c : Came) → Among came c → IsOfTable order files tables c
  pub came_open : (c : Came) → Among came c → slice_get begun c.place ≡ Some true
  pub lanes_are : AreLanes order files tables last came lanes
  -- each of another table, that was begun
  pub apart : (i j : ℕ) (a b : Lane K) → slice_get lanes i ≡ Some a → slice_get lanes j ≡ Some b → a.stands ≡ true → b.stands ≡ true → a.place ≡ b.place → i ≡ j
  pub open_are : (i : ℕ) (lane : Lane K) → slice_get lanes i ≡ Some lane → lane.stands ≡ true → slice_get begun lane.place ≡ Some true
  pub waits : (place : ℕ) (placed : PlacedTable) (key : Key) → slice_get tables place ≡ Some placed → slice_get begun place ≡ Some false → IsKey placed.table.smallest key → IsNotBefore order last (stamp key.user key.sequence)
  pub due : (place : ℕ) (placed : PlacedTable) → slice_get tables place ≡ Some placed → IsDue order files came lanes begun summaries place placed

-- ---- which entry comes next

-- of the first lanes, so many, none stands; or the one at this index stands, and none that does
-- comes before it
abbrev pub IsLeastOf : {K : Type 0} → Order → List (Lane K) → ℕ → Option ℕ → Type 0
IsLeastOf {K} order lanes count None = (i : ℕ) (lane : Lane K) → i < count → slice_get lanes i ≡ Some lane → lane.stands ≡ true → ⊥
IsLeastOf {K} order lanes count (Some at) =
    (lane : Lane K) × (slice_get lanes at ≡ Some lane) × (lane.stands ≡ true)
    × ((j : ℕ) (other : Lane K) → j < count → slice_get lanes j ≡ Some other → other.stands ≡ true → IsHeadBefore order other.walk.head lane.walk.head → ⊥)

-- after the last entry, before which it doesn't stand, the one at which the lane stands may come
abbrev pub MayComeNext : {K : Type 0} → Last → Lane K → Type 0
MayComeNext last lane = last.some ≡ true → last.head.user.items ≡ lane.walk.head.user.items
    → (lane.walk.head.sequence < last.head.sequence) × IsNoNewer last.level last.place lane.level lane.place

abbrev pub BreaksNext : {K : Type 0} → Last → Lane K → Type 0
BreaksNext last lane = (last.some ≡ true) × (last.head.user.items ≡ lane.walk.head.user.items)
    × ((lane.walk.head.sequence < last.head.sequence) × IsNoNewer last.level last.place lane.level lane.place → ⊥)

-- ---- lanes

-- the lane at this index, if it is one, has ended
abbrev pub IsEnded : {K : Type 0} → List (Lane K) → Option ℕ → Type 0
IsEnded lanes None = Unit {0}
IsEnded {K} lanes (Some index) = (lane : Lane K) × (slice_get lanes index ≡ Some lane) × (lane.stands ≡ false)

-- a lane was put where none stood
abbrev pub IsPut : {K : Type 0} → List (Lane K) → Lane K → List (Lane K) → Type 0
IsPut {K} lanes lane new =
    (index : ℕ) × (slice_get new index ≡ Some lane) × ((j : ℕ) → (j ≡ index → ⊥) → slice_get new j ≡ slice_get lanes j)
    × ((old : Lane K) → slice_get lanes index ≡ Some old → old.stands ≡ true → ⊥)

-- ---- what is logged

-- by key, then by sequence number
abbrev pub age_cmp : (List ℕ → List ℕ → Ordering) → Logged → Logged → Ordering
age_cmp cmp = then_cmp (on (λ (l : Logged). l.key.now) cmp) (on (λ (l : Logged). l.sequence) nat_cmp)

-- of each two the one in front has the lower key, or the same one and no greater sequence number
abbrev pub AreByAge : Order → List Logged → Type 0
AreByAge order logged = (i j : ℕ) (a b : Logged) → i < j → slice_get logged i ≡ Some a → slice_get logged j ≡ Some b
    → (order.cmp a.key.now b.key.now ≡ Less) ⊎ ((a.key.now ≡ b.key.now) × (a.sequence ≤ b.sequence))

-- the key and the sequence number are those of the entry
abbrev pub IsNoteOf : Entry → Logged → Type 0
IsNoteOf entry note = (note.key.now ≡ entry.key) × (note.sequence ≡ entry.sequence)

-- of each of the entries, in their order
abbrev pub AreNotesOf : List Entry → List Logged → Type 0
AreNotesOf [] [] = Unit {0}
AreNotesOf [] (note ∷ notes) = ⊥
AreNotesOf (entry ∷ entries) [] = ⊥
AreNotesOf (entry ∷ entries) (note ∷ notes) = IsNoteOf entry note × AreNotesOf entries notes

-- what is logged, by key, the older of one key first
pub record IsLogged (order : Order) (entries : List Entry) (logged : List Logged) : Type 0 where
  pub sorted : AreByAge order logged
  pub all : (entry : Entry) → Among entries entry → (i : ℕ) × (note : Logged) × (slice_get logged i ≡ Some note) × IsNoteOf entry note
  pub only : (i : ℕ) (note : Logged) → slice_get logged i ≡ Some note → (entry : Entry) × Among entries entry × IsNoteOf entry note

-- all that is logged of the key is newer
abbrev pub IsOlderThanAll : List Logged → List ℕ → ℕ → Type 0
IsOlderThanAll logged key sequence =
    (i : ℕ) (note : Logged) → slice_get logged i ≡ Some note → note.key.now ≡ key → sequence < note.sequence

-- something that is logged of the key isn't
abbrev pub IsNotOlder : List Logged → List ℕ → ℕ → Type 0
IsNotOlder logged key sequence =
    (i : ℕ) × (note : Logged) × (slice_get logged i ≡ Some note) × (note.key.now ≡ key) × (note.sequence ≤ sequence)

-- ---- which table is begun next

-- the table at this place wasn't begun, and has this smallest key
abbrev pub DoesWait : List PlacedTable → List Bool → ℕ → Key → Type 0
DoesWait tables begun place key =
    (placed : PlacedTable) × (slice_get tables place ≡ Some placed) × (slice_get begun place ≡ Some false) × IsKey placed.table.smallest key

-- the key at hand comes before the bound, if there is one
abbrev pub IsWithin : Order → Head → Option InternalKey → Type 0
IsWithin order head None = Unit {0}
IsWithin order head (Some key) = ComesBefore order (stamp head.user.items head.sequence) (stamp key.user.now key.sequence)

-- ---- an entry that stands where it may not

-- an entry of this key and sequence number isn't older than one of these
abbrev pub IsNotOldEntry : List Entry → List ℕ → ℕ → Type 0
IsNotOldEntry entries key sequence = (l : Entry) × Among entries l × (l.key ≡ key) × (l.sequence ≤ sequence)

-- The entry at which the lane stands is newer than the recorded sequence number, or not older than
-- what is logged of its key, or breaks the order of the entries. Each is refused by an error of its
-- own.
abbrev pub Misplaces : {K : Type 0} → List Entry → ℕ → Last → Lane K → DbError → Type 0
Misplaces entries recorded last lane error =
    ((error ≡ Corrupt file.Table damage.Number) × (recorded < lane.walk.head.sequence))
    ⊎ (((error ≡ Corrupt file.Log damage.Order) × IsNotOldEntry entries lane.walk.head.user.items lane.walk.head.sequence)
    ⊎ ((error ≡ Corrupt file.Table damage.Order) × BreaksNext last lane))
