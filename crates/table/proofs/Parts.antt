-- What stands in the file of a table that is being written, as pairs are added.
use Rattle.std.proofs.Common.{◌≡◌, ◌≤◌, ◌+◌, ◌^◌, ℕ, Bool, List, [], ◌∷◌, ◌++◌, Option, Some, None, length, refl, sym, ap, ◌∙◌, subst, append_assoc, append-nil, arith}
use Rattle.std.proofs.lemmas.List.{length-append}
use Rattle.std.specs.List.{AllByRecursion}
use Rattle.std.specs.Option.{ForSome}
use Rattle.std.specs.declared.cmp.Ordering.{Ordering}
use Rattle.block.specs.Written.{last_key}
use Rattle.block.proofs.BuilderLaws.{above_push}
use Rattle.filter.specs.Blocks.{filter_index}
use Rattle.filter.specs.Builder.{with_hash}
use Rattle.filter.specs.Hash.{hash_of}
use Rattle.ikey.specs.Below.{IsBelowInternal}
use Rattle.ikey.specs.Entries.{Pair}
use Rattle.ikey.specs.Keys.{Key, IsKey}
use Rattle.store.specs.Files.{Facts}
use Rattle.table.specs.declared.handle.Handle.{Handle}
use Rattle.table.specs.declared.handle.Place.{Place}
use Rattle.table.specs.Building.{Building, AreInLine, AreEnded, IsPart, last_added, data_length}
use Rattle.table.specs.Steps.{IsPushed, IsEnded}
use Rattle.table.specs.Stored.{stored, end_of}
use Rattle.table.proofs.DataBlocks.{joined, joined_more}
use Rattle.table.proofs.Growing.{stored_here, data_on, data_push, length-stored}
use Rattle.table.proofs.Hashed.{adds_push, all_pushed}
use Rattle.table.proofs.Indexes.{places_more}
use Rattle.table.proofs.Rising.{last_push, last_append}

all_push : (P : Pair → Type 0) (pairs : List Pair) (pair : Pair) → AllByRecursion P pairs → P pair → AllByRecursion P (pairs ++ pair ∷ [])
all_push P [] pair h p = (p, tt)
all_push P (other ∷ pairs) pair h p = (h.0, all_push P pairs pair h.1 p)

line_push : (offset : ℕ) (places : List Place) (place : Place) (end : ℕ) → AreInLine offset places end → place.handle.offset ≡ end → place.handle.size ≤ 2 ^ 30
    → AreInLine offset (places ++ place ∷ []) (end_of place.handle)
line_push offset [] place end h at short = (at ∙ sym h, short, refl)
line_push offset (other ∷ places) place end h at short = (h.0, h.1, line_push (end_of other.handle) places place end h.2 at short)

ended_push : (places : List Place) (blocks : List (List Pair)) (place : Place) (pairs : List Pair) → AreEnded places blocks → last_key pairs ≡ Some place.key → AreEnded (places ++ place ∷ []) (blocks ++ pairs ∷ [])
ended_push [] [] place pairs h e = (e, tt)
ended_push [] (other ∷ blocks) place pairs h e = absurd h
ended_push (other ∷ places) [] place pairs h e = absurd h
ended_push (other ∷ places) (others ∷ blocks) place pairs h e = (h.0, ended_push places blocks place pairs h.1 e)

-- ---- before the first pair

pub begun : (cmp : List ℕ → List ℕ → Ordering) (name : List ℕ) (block_bytes : ℕ) (created : Bool)
    → IsPart cmp (record { name = name; block_bytes = block_bytes; created = created; offset = 0; index = []; block = []; hashes = [] }) [] []
begun cmp name block_bytes created = record {
  blocks = [];
  places = [];
  index_is = tt;
  data_is = tt;
  line = refl;
  long = refl;
  ended = tt;
  ended_hashes = [];
  hashed = refl;
  block_hashed = refl;
  all = refl;
  rises = tt;
  keys = tt;
  last = refl;
  block_short = omega arith;
  index_short = omega arith;
}

-- ---- when the file is created

pub created_part : (cmp : List ℕ → List ℕ → Ordering) (b : Building) (created : Bool) (file : List ℕ) (pairs : List Pair) → IsPart cmp b file pairs → IsPart cmp (record b { created = created }) file pairs
created_part cmp b created file pairs h = record {
  blocks = h.blocks;
  places = h.places;
  index_is = h.index_is;
  data_is = h.data_is;
  line = h.line;
  long = h.long;
  ended = h.ended;
  ended_hashes = h.ended_hashes;
  hashed = h.hashed;
  block_hashed = h.block_hashed;
  all = h.all;
  rises = h.rises;
  keys = h.keys;
  last = h.last;
  block_short = h.block_short;
  index_short = h.index_short;
}

-- ---- when a pair is pushed

pushed_part : (cmp : List ℕ → List ℕ → Ordering) (b : Building) (file : List ℕ) (pairs : List Pair) (pair : Pair) (key : Key) → ForSome (last_added b) (λ (last : List ℕ). IsBelowInternal cmp last pair.key)
    → IsKey pair.key key → data_length (b.block ++ pair ∷ []) ≤ 2 ^ 30 → (h : IsPart cmp b file pairs)
    → IsPart cmp (record b { block = b.block ++ pair ∷ []; hashes = with_hash b.hashes (filter_index b.offset) (hash_of key.user) }) file (pairs ++ pair ∷ [])
pushed_part cmp b file pairs pair key rises is short h = record {
  blocks = h.blocks;
  places = h.places;
  index_is = h.index_is;
  data_is = h.data_is;
  line = h.line;
  long = h.long;
  ended = h.ended;
  ended_hashes = h.ended_hashes;
  hashed = h.hashed;
  block_hashed = adds_push h.ended_hashes b.hashes b.offset b.block pair key is h.block_hashed;
  all = ap (λ (v : List Pair). v ++ pair ∷ []) h.all ∙ append_assoc (joined h.blocks) b.block (pair ∷ []);
  rises = above_push (IsBelowInternal cmp) None pairs pair h.rises (subst (λ (o : Option (List ℕ)). ForSome o (λ (last : List ℕ). IsBelowInternal cmp last pair.key)) (sym h.last) rises);
  keys = all_push (λ (p : Pair). (k : Key) × IsKey p.key k) pairs pair h.keys (key, is);
  last = last_push pairs pair ∙ sym (last_append None b.index (b.block ++ pair ∷ []) pair.key (last_push b.block pair));
  block_short = short;
  index_short = h.index_short;
}

pub pushed : (cmp : List ℕ → List ℕ → Ordering) (b new : Building) (file : List ℕ) (pairs : List Pair) (pair : Pair) → ForSome (last_added b) (λ (last : List ℕ). IsBelowInternal cmp last pair.key)
    → IsPushed b new pair → IsPart cmp b file pairs → IsPart cmp new file (pairs ++ pair ∷ [])
pushed cmp b new file pairs pair rises p h =
    subst (λ (v : Building). IsPart cmp v file (pairs ++ pair ∷ [])) (sym p.new_is) (pushed_part cmp b file pairs pair p.key rises p.key_is p.short h)

-- ---- when a block is ended

ended_part : (cmp : List ℕ → List ℕ → Ordering) (old new : Building) (before after : Facts) (file : List ℕ) (pairs : List Pair) (e : IsEnded cmp old new before after) → IsPart cmp old file pairs
    → IsPart cmp (record old { offset = old.offset + (length e.bytes + 5); index = old.index ++ e.place ∷ []; block = [] }) (file ++ stored e.bytes) pairs
ended_part cmp old new before after file pairs e h =
    let handle : Handle = record { offset = old.offset; size = length e.bytes } in
    let place : Place = record { key = e.place.key; handle = handle } in
    let short : length e.bytes ≤ 2 ^ 30 = omega (arith, e.size_is, h.block_short) in
    let whole : file ++ stored e.bytes ≡ file ++ (stored e.bytes ++ []) = ap (λ (v : List ℕ). file ++ v) (sym (append-nil (stored e.bytes))) in
    record {
      blocks = h.blocks ++ old.block ∷ [];
      places = h.places ++ place ∷ [];
      index_is = places_more old.index h.places e.place place h.index_is refl e.value_is;
      data_is = data_push cmp (file ++ stored e.bytes) h.places h.blocks place old.block (data_on cmp file (stored e.bytes) h.places h.blocks h.data_is)
          (e.bytes, stored_here (file ++ stored e.bytes) file [] e.bytes handle whole (sym h.long) refl, e.block_is);
      line = line_push 0 h.places place old.offset h.line refl short;
      long = omega (arith, h.long, length-append file (stored e.bytes), length-stored e.bytes);
      ended = ended_push h.places h.blocks place old.block h.ended e.key_is;
      ended_hashes = old.hashes;
      hashed = all_pushed [] h.ended_hashes old.hashes h.places h.blocks place old.block h.hashed h.block_hashed;
      block_hashed = refl;
      all = h.all ∙ sym (append-nil (joined (h.blocks ++ old.block ∷ [])) ∙ joined_more h.blocks old.block);
      rises = h.rises;
      keys = h.keys;
      last = ap last_key h.all ∙ last_append None (joined h.blocks) old.block e.place.key e.key_is ∙ sym (ap last_key (append-nil (old.index ++ e.place ∷ [])) ∙ last_push old.index e.place);
      block_short = omega arith;
      index_short = e.short;
    }

pub ended : (cmp : List ℕ → List ℕ → Ordering) (old new : Building) (before after : Facts) (file : List ℕ) (pairs : List Pair) (e : IsEnded cmp old new before after) → IsPart cmp old file pairs
    → IsPart cmp new (file ++ stored e.bytes) pairs
ended cmp old new before after file pairs e h = subst (λ (v : Building). IsPart cmp v (file ++ stored e.bytes) pairs) (sym e.new_is) (ended_part cmp old new before after file pairs e h)
