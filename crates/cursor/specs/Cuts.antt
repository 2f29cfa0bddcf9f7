-- Cuts between the entries of a list, and moves that come to one where a block is torn.
use Rattle.std.specs.Prelude.{◌≡◌, Bool, true, false, not, List, Option, Some, None, slice_get, option_and_then}
use Rattle.ikey.specs.Entries.{InternalEntry}
use Rattle.ikey.specs.Keys.{Key, key_cmp}
use Rattle.ikey.specs.Views.{Among}
use Rattle.cursor.specs.Places.{Cmp, Listed, is_less}

-- before all entries, after all, or beside a key
pub data Cut : Type 0 where
  Front : Cut
  End : Cut
  Below : Key → Cut
  Above : Key → Cut

-- the key lies before the cut
abbrev pub is_in_front : Cmp → Cut → Key → Bool
is_in_front cmp Front key = false
is_in_front cmp End key = true
is_in_front cmp (Below place) key = is_less (key_cmp cmp key place)
is_in_front cmp (Above place) key = not (is_less (key_cmp cmp place key))

-- the same entries lie before both cuts
abbrev pub SameCut : Cmp → List InternalEntry → Cut → Cut → Type 0
SameCut cmp entries a b = (entry : InternalEntry) → Among entries entry → is_in_front cmp a entry.key ≡ is_in_front cmp b entry.key

-- ---- where the moves lead to

abbrev pub behind_entry : Option InternalEntry → Cut
behind_entry None = Front
behind_entry (Some entry) = Above entry.key

abbrev pub in_front_of_entry : Option InternalEntry → Cut
in_front_of_entry None = End
in_front_of_entry (Some entry) = Below entry.key

abbrev pub first_cut : Listed → Cut
first_cut at = Front

abbrev pub last_cut : Listed → Cut
last_cut at = End

abbrev pub key_cut : Key → Listed → Cut
key_cut key at = Below key

abbrev pub next_cut : Listed → Cut
next_cut at = behind_entry (option_and_then (slice_get at.entries) at.place)

abbrev pub prev_cut : Listed → Cut
prev_cut at = in_front_of_entry (option_and_then (slice_get at.entries) at.place)

-- ---- torn blocks

-- in each list and at each place that cursor and source are, a torn block lies at this cut
abbrev pub TornAt : {C S : Type 0} → (C → S → Listed → Type 0) → (C → S → Cut → Type 0) → (Listed → Cut) → C → S → Type 0
TornAt lists torn cut cursor source = (at : Listed) → lists cursor source at → torn cursor source (cut at)

-- at some cut
abbrev pub TornSomewhere : {C S : Type 0} → (C → S → Listed → Type 0) → (C → S → Cut → Type 0) → C → S → Type 0
TornSomewhere lists torn cursor source = (at : Listed) → lists cursor source at → (cut : Cut) × torn cursor source cut
