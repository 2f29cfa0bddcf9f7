-- Entries as sets, and what a reader sees of them at a sequence number (LevelDB's doc/index.md,
-- "Snapshots").
use Rattle.std.specs.Prelude.{◌≡◌, ◌⊎◌, ◌<◌, ◌≤◌, ℕ, Option, None, List, [], ◌∷◌}
use Rattle.std.proofs.Common.{inl, inr, sym, ap, ◌∙◌}
use Rattle.std.specs.Ordering.{nat_cmp}
use Rattle.std.specs.Cmp.Lexicographic.{slice_cmp}
use Rattle.std.specs.FinMap.{FinMap, get}
use Rattle.ikey.specs.declared.entry.Entry.{Entry}

-- it is one of the list
abbrev pub Among : {A : Type 0} → List A → A → Type 0
Among [] x = ⊥
Among (first ∷ list) x = (x ≡ first) ⊎ Among list x

-- keys to values
abbrev pub Contents : Type 0
Contents = FinMap (slice_cmp nat_cmp) (List ℕ)

-- of the entries of its key up to this sequence number the entry has the greatest
pub record IsNewest (entries : List Entry) (sequence : ℕ) (entry : Entry) : Type 0 where
  pub member : Among entries entry
  pub seen : entry.sequence ≤ sequence
  pub greatest : (other : Entry) → Among entries other → other.key ≡ entry.key → other.sequence ≤ sequence → other.sequence ≤ entry.sequence

-- no entry of the key is seen
abbrev pub IsUnseen : List Entry → ℕ → List ℕ → Type 0
IsUnseen entries sequence key = (entry : Entry) → Among entries entry → entry.key ≡ key → sequence < entry.sequence

-- The map has of each key what its newest entry up to this sequence number put.
pub record IsView (entries : List Entry) (sequence : ℕ) (map : Contents) : Type 0 where
  pub found : (entry : Entry) → IsNewest entries sequence entry → get map entry.key ≡ entry.value
  pub missing : (key : List ℕ) → IsUnseen entries sequence key → get map key ≡ None

-- no sequence number is above this one
abbrev pub AllUpTo : ℕ → List Entry → Type 0
AllUpTo sequence entries = (entry : Entry) → Among entries entry → entry.sequence ≤ sequence

-- what the newest entry of the key put, or nothing
abbrev pub IsValueAt : List Entry → ℕ → List ℕ → Option (List ℕ) → Type 0
IsValueAt entries sequence key value =
    ((entry : Entry) × IsNewest entries sequence entry × (entry.key ≡ key) × (value ≡ entry.value)) ⊎ (IsUnseen entries sequence key × (value ≡ None))

-- a view answers so
pub view-value : (entries : List Entry) (sequence : ℕ) (map : Contents) (key : List ℕ) (value : Option (List ℕ)) → IsView entries sequence map → IsValueAt entries sequence key value → value ≡ get map key
view-value entries sequence map key value view (inl h) = h.3 ∙ sym (view.found h.0 h.1) ∙ ap (get map) h.2
view-value entries sequence map key value view (inr h) = h.1 ∙ sym (view.missing key h.0)
