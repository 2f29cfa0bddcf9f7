-- The choice of entries while they come in order, one at a time.
use Rattle.std.specs.Prelude.{◌≡◌, ◌<◌, ◌≤◌, ◌⊎◌, ℕ, Bool, None, List, [], ◌∷◌, ◌++◌, map, length, slice_index}
use Rattle.std.specs.declared.cmp.Ordering.{Ordering}
use Rattle.std.specs.declared.cmp.Ordering.TheVariants.{Less}
use Rattle.ikey.specs.declared.entry.Entry.{Entry}
use Rattle.compact.specs.declared.selection.Choice.{Choice}
use Rattle.compact.specs.declared.selection.Choice.TheVariants.{Leave, Write}
use Rattle.ikey.specs.Views.{Among}
use Rattle.compact.specs.Lists.{IsPartWith}
use Rattle.compact.specs.Needed.{IsSeenBySome, IsNeeded, AreNeeded}

-- ---- the order in which entries come

-- of another key before this one's, or of the same key and newer
abbrev pub Precedes : (List ℕ → List ℕ → Ordering) → Entry → Entry → Type 0
Precedes cmp entry next = (cmp entry.key next.key ≡ Less) ⊎ ((entry.key ≡ next.key) × (next.sequence < entry.sequence))

-- all of these precede it
abbrev pub ComesBehind : (List ℕ → List ℕ → Ordering) → List Entry → Entry → Type 0
ComesBehind cmp entries next = (entry : Entry) → Among entries entry → Precedes cmp entry next

-- ---- what is kept between two entries

pub record Choosing : Type 0 where
  -- the sequence numbers whose views must be kept, none below the one before
  pub snapshots : List ℕ
  -- the user key at hand
  pub key : List ℕ
  -- how many of the snapshots are below all entries of this key that came
  pub unseen : ℕ
  -- the sequence numbers of the deletes of this key that will be needed if a put of it is, the
  -- newest first
  pub waiting : List ℕ
  -- those that the last entry showed to be needed
  pub released : List ℕ

abbrev pub delete_of : List ℕ → ℕ → Entry
delete_of key sequence = record { key = key; sequence = sequence; value = None }

-- what is to be written on behalf of an entry
abbrev pub written_for : Choice → List ℕ → Entry → List Entry
written_for Leave released entry = []
written_for Write released entry = map (delete_of entry.key) released ++ entry ∷ []

-- These entries came, and these of them were chosen: all that are needed, as far as one can tell.
pub record IsChosen (deep : List ℕ → Bool) (c : Choosing) (came chosen : List Entry) : Type 0 where
  pub needed : AreNeeded came c.snapshots deep chosen
  -- of the snapshots the first ones see no entry of the key at hand, and the others do
  pub within : c.unseen ≤ length c.snapshots
  pub below : (k : ℕ) → k < c.unseen → (entry : Entry) → Among came entry → entry.key ≡ c.key → slice_index c.snapshots k < entry.sequence
  pub above : (k : ℕ) → c.unseen ≤ k → k < length c.snapshots → (entry : Entry) × Among came entry × (entry.key ≡ c.key) × (entry.sequence ≤ slice_index c.snapshots k)
  -- after the last entry of this key that was chosen, what the snapshots see are the deletes that
  -- wait
  pub settled : List Entry
  pub others : List Entry
  pub parts : came ≡ settled ++ others
  pub settled_chosen : IsPartWith (IsNeeded came c.snapshots deep) settled chosen
  pub settled_needed : (entry : Entry) → Among settled entry → entry.key ≡ c.key → IsSeenBySome came c.snapshots entry → IsNeeded came c.snapshots deep entry
  pub others_waiting : IsPartWith (IsSeenBySome came c.snapshots) others (map (delete_of c.key) c.waiting)
  pub others_open : (entry : Entry) → Among others entry → IsNeeded came c.snapshots deep entry → ⊥

-- And they came in order: the key at hand is that of the last.
pub record Chooses (cmp : List ℕ → List ℕ → Ordering) (deep : List ℕ → Bool) (c : Choosing) (came chosen : List Entry) : Type 0 where
  pub chosen_is : IsChosen deep c came chosen
  pub last : (entry : Entry) → Among came entry → (cmp entry.key c.key ≡ Less) ⊎ (entry.key ≡ c.key)
  pub at_hand : (came ≡ []) ⊎ ((entry : Entry) × Among came entry × (entry.key ≡ c.key))
