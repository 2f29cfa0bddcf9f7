-- Where the children of a merge go, and which of their entries is the best.
use Rattle.std.specs.Prelude.{◌≡◌, ◌<◌, ℕ, Bool, true, false, List, Option, Some, None, Result, Ok, Err, length, slice_get, option_and_then}
use Rattle.std.specs.declared.cmp.Ordering.TheVariants.{Less}
use Rattle.coding.specs.declared.error.DbError.{DbError}
use Rattle.ikey.specs.Entries.{InternalEntry}
use Rattle.ikey.specs.Keys.{Key, IsKey, key_cmp}
use Rattle.cursor.specs.declared.child.Child.{Child}
use Rattle.cursor.specs.declared.child.Side.{Side}
use Rattle.cursor.specs.declared.child.Side.TheVariants as side
use Rattle.cursor.specs.declared.child.Motion.{Motion}
use Rattle.cursor.specs.declared.child.Motion.TheVariants.{First, Last, Seek, Ahead, Behind}
use Rattle.cursor.specs.declared.children.End.{End}
use Rattle.cursor.specs.declared.children.End.TheVariants.{Least, Greatest}
use Rattle.cursor.specs.Cuts.{Cut, Front, End as EndCut, Below}
use Rattle.cursor.specs.Places.{Cmp, Listed, is_less, is_below, within, index_before}
use Rattle.ikey.specs.Views.{Among}
use Rattle.cursor.specs.Merging.{IsUnion, IsMerge, Each, listed, ahead, behind}

-- Where a motion leads in a list. The key is the one that is sought, or that of the merge's entry.
abbrev pub place_of : Cmp → Motion → Key → List InternalEntry → Option ℕ
place_of cmp First key list = within list 0
place_of cmp Last key list = index_before (length list)
place_of cmp (Seek target) key list = ahead (is_below cmp key) list
place_of cmp (Ahead target) key list = ahead (is_below cmp key) list
place_of cmp (Behind target) key list = behind (is_below cmp key) list

-- the cut to which it leads
abbrev pub motion_cut : Motion → Key → Cut
motion_cut First key = Front
motion_cut Last key = EndCut
motion_cut (Seek target) key = Below key
motion_cut (Ahead target) key = Below key
motion_cut (Behind target) key = Below key

-- a target is the key at which a merge stands, where the child is astray
abbrev pub AimsTurn : Side → List ℕ → Key → Type 0
AimsTurn from target place = from ≡ side.Astray → IsKey target place

-- the motion goes to this goal, for a child on this side of a merge at this key
abbrev pub Aims : Motion → Side → Key → Key → Type 0
Aims First from place goal = Unit {0}
Aims Last from place goal = Unit {0}
Aims (Seek target) from place goal = IsKey target.now goal
Aims (Ahead target) from place goal = (goal ≡ place) × AimsTurn from target.now place
Aims (Behind target) from place goal = (goal ≡ place) × AimsTurn from target.now place

abbrev pub IsJump : Motion → Type 0
IsJump First = Unit {0}
IsJump Last = Unit {0}
IsJump (Seek target) = Unit {0}
IsJump (Ahead target) = ⊥
IsJump (Behind target) = ⊥

-- a jump goes to this goal; other motions are no jumps
abbrev pub AimsJump : Motion → Key → Type 0
AimsJump First goal = Unit {0}
AimsJump Last goal = Unit {0}
AimsJump (Seek target) goal = IsKey target.now goal
AimsJump (Ahead target) goal = ⊥
AimsJump (Behind target) goal = ⊥

-- the same of all children
abbrev pub AimsAll : {C : Type 0} → Motion → List (Child C) → Key → Key → Type 0
AimsAll {C} motion children place goal = (i : ℕ) (child : Child C) → slice_get children i ≡ Some child → Aims motion child.side place goal

-- all children but one have gone there
abbrev pub HaveGone : {C S : Type 0} → Cmp → (C → S → Listed → Type 0) → Motion → Key → List (Child C) → Option ℕ → S → List (List InternalEntry) → Type 0
HaveGone cmp lists motion goal children left_out source all =
    Each children all (λ i child list. (Some i ≡ left_out → ⊥) → lists child.cursor source (listed list (place_of cmp motion goal list)))

-- ---- the best entry

abbrev pub entry_at : List InternalEntry → Option ℕ → Option InternalEntry
entry_at list place = option_and_then (slice_get list) place

-- the one key is better than the other
abbrev pub better_key : Cmp → End → Key → Key → Bool
better_key cmp Least key other = is_less (key_cmp cmp key other)
better_key cmp Greatest key other = is_less (key_cmp cmp other key)

-- of the entries at these places of the first n lists, that of this list is the best
abbrev pub IsBest : Cmp → End → List (List InternalEntry) → (List InternalEntry → Option ℕ) → ℕ → Option ℕ → Type 0
IsBest cmp end all to n None = (i : ℕ) (list : List InternalEntry) → i < n → slice_get all i ≡ Some list → to list ≡ None
IsBest cmp end all to n (Some best) =
    (list : List InternalEntry) × (entry : InternalEntry) × (slice_get all best ≡ Some list) × (entry_at list (to list) ≡ Some entry)
    × ((i : ℕ) (other : List InternalEntry) (rival : InternalEntry) → i < n → slice_get all i ≡ Some other → entry_at other (to other) ≡ Some rival → better_key cmp end rival.key entry.key ≡ false)

-- all children stand at such places
abbrev pub StandAt : {C S : Type 0} → (C → S → Listed → Type 0) → List (Child C) → S → List (List InternalEntry) → (List InternalEntry → Option ℕ) → Type 0
StandAt lists children source all to = Each children all (λ i child list. lists child.cursor source (listed list (to list)))

-- this is the key of the entry on which the child of this index stands
abbrev pub HasKey : {C S : Type 0} → (C → S → Listed → Type 0) → List (Child C) → S → ℕ → List ℕ → Type 0
HasKey {C} lists children source index key =
    (child : Child C) (at : Listed) (n : ℕ) (entry : InternalEntry) → slice_get children index ≡ Some child → lists child.cursor source at → at.place ≡ Some n → slice_get at.entries n ≡ Some entry → IsKey key entry.key

-- the first entry that fails a test, or the last that passes it
abbrev pub end_place : End → (InternalEntry → Bool) → List InternalEntry → Option ℕ
end_place Least test = ahead test
end_place Greatest test = behind test

-- what stands before an entry that passes the test passes it
abbrev pub IsInitial : Cmp → (InternalEntry → Bool) → List InternalEntry → Type 0
IsInitial cmp test union =
    (entry later : InternalEntry) → Among union entry → Among union later → key_cmp cmp entry.key later.key ≡ Less → test later ≡ true → test entry ≡ true

-- the same children, all on this side
pub record HasSides {C : Type 0} (side : Side) (old new : List (Child C)) : Type 0 where
  pub same_length : length new ≡ length old
  pub each : (i : ℕ) (child : Child C) → slice_get new i ≡ Some child → (before : Child C) × (slice_get old i ≡ Some before) × (child ≡ record before { side = side })

-- the same cursors, whatever their sides
abbrev pub HasCursors : {C : Type 0} → List (Child C) → List (Child C) → Type 0
HasCursors {C} old new = (i : ℕ) (child : Child C) → slice_get new i ≡ Some child → (before : Child C) × (slice_get old i ≡ Some before) × (child.cursor ≡ before.cursor)

-- the end of what was passed at which a jump leaves the children
abbrev pub end_of : Motion → End
end_of First = Least
end_of Last = Greatest
end_of (Seek target) = Least
end_of (Ahead target) = Least
end_of (Behind target) = Greatest

-- the side of the children beside the best of them
abbrev pub side_beside : Option ℕ → End → Side
side_beside None end = side.Astray
side_beside (Some best) Least = side.Ahead
side_beside (Some best) Greatest = side.Behind

-- The children stand where their best entry is the union's entry at this place: at an end of what
-- passes some test.
pub record Arrives {C S : Type 0} (cmp : Cmp) (lists : C → S → Listed → Type 0) (end : End) (children : List (Child C)) (source : S) (union : List InternalEntry) (place : Option ℕ) : Type 0 where
  pub all : List (List InternalEntry)
  pub test : InternalEntry → Bool
  pub union_is : IsUnion cmp all union
  pub initial : IsInitial cmp test union
  pub stand : StandAt lists children source all (end_place end test)
  pub place_is : place ≡ end_place end test union

-- What a move of all children of a merge leads to: they arrive, or it is refused, and the merge
-- stands as it stood.
abbrev pub Leads : {C S T : Type 0} → Cmp → (C → S → Listed → Type 0) → End → List (Child C) → Option ℕ → List ℕ → S → Listed → Option ℕ → Result T DbError → Type 0
Leads cmp lists end children current target source at place (Ok done) = Arrives cmp lists end children source at.entries place
Leads cmp lists end children current target source at place (Err error) = IsMerge cmp lists children current target source at

-- the list and the place after a move with this result
abbrev pub after_jump : {T : Type 0} → Result T DbError → Option ℕ → Listed → Listed
after_jump (Ok done) place at = record at { place = place }
after_jump (Err error) place at = at

-- the child that stands on the merge's entry after a move with this result
abbrev pub current_after : Result (Option ℕ) DbError → Option ℕ → Option ℕ
current_after (Ok new) old = new
current_after (Err error) old = old

-- A merge, whose target is the key of its entry, whether a child is astray or none.
abbrev pub IsKept : {C S : Type 0} → Cmp → (C → S → Listed → Type 0) → List (Child C) → Option ℕ → List ℕ → S → Listed → Type 0
IsKept cmp lists children current target source at =
    IsMerge cmp lists children current target source at
    × ((index : ℕ) (entry : InternalEntry) → at.place ≡ Some index → slice_get at.entries index ≡ Some entry → IsKey target entry.key)
