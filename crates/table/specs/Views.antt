-- Pairs as the code has them.
use Rattle.std.specs.Prelude.{List, map}
use Rattle.table.specs.declared.pair.KeyValue.{KeyValue}
use Rattle.ikey.specs.Entries.{Pair}

abbrev pub pair_of : KeyValue → Pair
pair_of added = record { key = added.key; value = added.value }

abbrev pub pairs_of : List KeyValue → List Pair
pairs_of added = map pair_of added
