-- Which pairs of a directory are asked for.
use Rattle.std.specs.Prelude.{◌≡◌, ℕ, Bool, if◌then◌else◌, List, reverse, take, Option, Some, None}
use Rattle.ikey.specs.Orders.{Order}
use Rattle.ikey.specs.Views.{Contents, IsView}
use Rattle.store.specs.Files.{Files}
use Rattle.recover.specs.Directory.{Directory, IsConsistent, entries_in, used_in}
use Rattle.machine.specs.Views.{AreSortedPairs}
use Rattle.engine.specs.Ranges.{Cmp, Pair, pairs_within}
use Rattle.browse.specs.declared.choice.Choice.{Choice}

-- the files are a consistent directory, and this is its map at its last sequence
abbrev pub MeansMap : Order → Files → Contents → Type 0
MeansMap order files map = (d : Directory) × IsConsistent order files d × IsView (entries_in d) (used_in d) map

-- in their order, or from the last to the first
abbrev pub turned : Bool → List Pair → List Pair
turned backwards pairs = if backwards then reverse pairs else pairs

-- no more than this many, where there is a number
abbrev pub at_most : Option ℕ → List Pair → List Pair
at_most None pairs = pairs
at_most (Some most) pairs = take most pairs

-- what is asked for, of all pairs in the order of their keys
abbrev pub chosen_of : Cmp → Choice → List Pair → List Pair
chosen_of cmp choice pairs = at_most choice.most (turned choice.backwards (pairs_within cmp choice.keys pairs))

-- of the map these pairs are asked for
abbrev pub IsChosen : Cmp → Choice → Contents → List Pair → Type 0
IsChosen cmp choice map chosen = (pairs : List Pair) × AreSortedPairs cmp map pairs × (chosen ≡ chosen_of cmp choice pairs)
