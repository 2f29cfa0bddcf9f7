-- Steps of an iteration over a table.
use Rattle.std.proofs.Common.{◌≡◌, ◌<◌, ◌≤◌, ◌+◌, ℕ, zero, suc, Bool, true, false, MatchBool, List, [], ◌∷◌, ◌++◌, length, Some, None, refl, sym, ap, ◌∙◌, subst, arith}
use Rattle.std.proofs.lemmas.List.{append-nil}
use Rattle.std.proofs.lemmas.Bool.{cond_below}
use Rattle.std.specs.Prelude.{slice_get, option_and_then, is_some}
use Rattle.std.specs.declared.cmp.Ordering.{Ordering}
use Rattle.block.specs.Places.{Placed, within, index_behind}
use Rattle.coding.specs.declared.error.DbError.{DbError}
use Rattle.coding.specs.declared.error.DbError.TheVariants.{OutOfMemory, Io, Corrupt, Unsupported}
use Rattle.ikey.specs.Below.{same_key}
use Rattle.ikey.specs.Entries.{InternalEntry, Pair}
use Rattle.ikey.specs.Keys.{Key, IsKey}
use Rattle.ikey.specs.Orders.{Order}
use Rattle.ikey.specs.Sources.{ComesBefore}
use Rattle.store.specs.Files.{Facts}
use Rattle.table.specs.Blocks.{IsCheckedAt, IsWrongAt, IsBegun}
use Rattle.table.specs.Frame.{IsFrame, Opened}
use Rattle.table.specs.Intact.{IsUnsupportedAt}
use Rattle.table.specs.Reading.{Reads, Finds, Answers, Refuses}
use Rattle.table.specs.Refusals.{IsUnsupported, IsOfOne}
use Rattle.table.specs.Table.{IsTable}
use Rattle.table.proofs.Begun.{begun_more, wrong_none, unsupported_one}
use Rattle.table.proofs.Walks.{stood, not_stood, within_yes}
use Rattle.table.proofs.Steps.{reads_then, file_on, same_file}
use Rattle.recover.specs.internal.Walking.{stamp, IsKeyAt, IsHere, IsPairAt, HasMore, AddsPairs}
use Rattle.recover.specs.internal.Checks.{first_key}

-- ---- pairs

-- the cursor's words about the key at hand
abbrev pub Says : Placed → List ℕ → Type 0
Says block bytes = (index : ℕ) (pair : Pair) → block.place ≡ Some index → slice_get block.pairs index ≡ Some pair → bytes ≡ pair.key

pub is_at_by : (block : Placed) (bytes key : List ℕ) (b : Bool) → Says block bytes → MatchBool b (bytes ≡ key) (bytes ≡ key → ⊥)
    → MatchBool b ((at : ℕ) (pair : Pair) → IsPairAt block at pair → pair.key ≡ key) ((at : ℕ) (pair : Pair) → IsPairAt block at pair → pair.key ≡ key → ⊥)
is_at_by block bytes key true says h = λ at pair is. sym (says at pair is.0 is.1) ∙ h
is_at_by block bytes key false says h = λ at pair is k. h (says at pair is.0 is.1 ∙ k)

pair_there : (xs : List Pair) (n : ℕ) → n < length xs → (x : Pair) × (slice_get xs n ≡ Some x)
pair_there [] n lt = absurd (omega (arith, lt))
pair_there (x ∷ xs) zero lt = (x, refl)
pair_there (x ∷ xs) (suc n) lt = pair_there xs n (omega (arith, lt))

-- what unpacks is the key at hand
pub key_here : (block : Placed) (at : ℕ) (bytes : List ℕ) (key : Key) → IsHere block at → Says block bytes → IsKey bytes key → IsKeyAt block.pairs at key
key_here block at bytes key here says is = let p = pair_there block.pairs at here.1 in (p.0, p.1, subst (λ (b : List ℕ). IsKey b key) (says at p.0 here.0 p.1) is)

-- what doesn't is none
pub no_key_here : (block : Placed) (at : ℕ) (bytes : List ℕ) → IsHere block at → Says block bytes → ((key : Key) → IsKey bytes key → ⊥) → (key : Key) → IsKeyAt block.pairs at key → ⊥
no_key_here block at bytes here says none key is = none key (subst (λ (b : List ℕ). IsKey b key) (sym (says at is.0 here.0 is.1)) is.2)

-- the first key is this one; it isn't
pub first_by : (pairs : List Pair) (key : List ℕ) → 0 < length pairs → ((pair : Pair) → slice_get pairs 0 ≡ Some pair → pair.key ≡ key) → first_key pairs ≡ Some key
first_by [] key some all = absurd (omega (arith, some))
first_by (p ∷ pairs) key some all = ap (λ (k : List ℕ). Some k) (all p refl)

pub not_first_by : (pairs : List Pair) (key : List ℕ) → ((pair : Pair) → slice_get pairs 0 ≡ Some pair → pair.key ≡ key → ⊥) → first_key pairs ≡ Some key → ⊥
not_first_by [] key none e = let bad : None ≡ Some key = e in absurd cc
not_first_by (p ∷ pairs) key none e = none p refl (let both : Some p.key ≡ Some key = e in cc)

-- a step leads to the next pair
pub stepped : (old new : Placed) (n : ℕ) → HasMore old → old.place ≡ Some n → new ≡ record old { place = option_and_then (index_behind old.pairs) old.place } → (new.pairs ≡ old.pairs) × IsHere new (n + 1)
stepped old new n more place step =
    let both : Some more.0 ≡ Some n = sym more.1 ∙ place in
    let same : more.0 ≡ n = cc in
    let lt : suc n < length old.pairs = omega (arith, same, more.2) in
    let e : suc n ≡ n + 1 = omega arith in
    let there : within old.pairs (suc n) ≡ Some (suc n) = sym (cond_below (suc n) (length old.pairs) (Some (suc n)) None lt) in
    let pairs : new.pairs ≡ old.pairs = ap (λ (p : Placed). p.pairs) step in
    let at : new.place ≡ Some (n + 1) = ap (λ (p : Placed). p.place) step ∙ ap (option_and_then (index_behind old.pairs)) place ∙ there ∙ ap (λ (m : ℕ). Some m) e in
    (pairs, (at, subst (λ (ps : List Pair). n + 1 < length ps) (sym pairs) (omega (arith, lt))))

-- a cursor that was put on the first pair
pub first_stands : (pairs : List Pair) (block : Placed) → block ≡ record { pairs = pairs; place = within pairs 0 } → is_some (within pairs 0) ≡ true → IsHere block 0
first_stands pairs block e stands =
    let some : 0 < length pairs = stood pairs 0 stands in
    (ap (λ (b : Placed). b.place) e ∙ within_yes pairs 0 some, subst (λ (b : Placed). 0 < length b.pairs) (sym e) some)

pub none_within : (pairs : List Pair) → is_some (within pairs 0) ≡ false → pairs ≡ []
none_within pairs none = empty pairs (not_stood pairs 0 none)
  where
    empty : (xs : List Pair) → length xs ≤ 0 → xs ≡ []
    empty [] few = refl
    empty (x ∷ xs) few = absurd (omega (arith, few))

one_key_at : (pairs : List Pair) (at : ℕ) (k l : Key) → IsKeyAt pairs at k → IsKeyAt pairs at l → k ≡ l
one_key_at pairs at k l h j =
    let both : Some h.0 ≡ Some j.0 = sym h.1 ∙ j.1 in
    let same : h.0 ≡ j.0 = cc in
    same_key j.0.key k l (subst (λ (p : Pair). IsKey p.key k) same h.2) j.2

pub no_front : (order : Order) (pairs : List Pair) (at : ℕ) (head user : List ℕ) (sequence : ℕ) (k : Key) → IsKeyAt pairs at k → user ≡ head → (ComesBefore order (stamp user sequence) (stamp k.user k.sequence) → ⊥)
    → (key : Key) → IsKeyAt pairs at key → ComesBefore order (stamp head sequence) (stamp key.user key.sequence) → ⊥
no_front order pairs at head user sequence k is e none key other before =
    let same : key ≡ k = one_key_at pairs at key k other is in
    let P : Key → Type 0 = λ l. ComesBefore order (stamp head sequence) (stamp l.user l.sequence) in
    let Q : List ℕ → Type 0 = λ u. ComesBefore order (stamp u sequence) (stamp k.user k.sequence) in
    none (subst Q (sym e) (subst P same before))

-- ---- blocks without pairs are passed over

-- up to this block none had pairs
pub record HasSkipped (cmp : List ℕ → List ℕ → Ordering) (old now : Facts) (table : Opened) (next index : ℕ) : Type 0 where
  pub reads : Reads old now
  pub stood : now.failures ≡ old.failures
  pub begun : Answers old now table.name (λ (file : List ℕ). (found : List Pair) → IsBegun cmp file table.frame next found → IsBegun cmp file table.frame index found)

pub skipped_none : (cmp : List ℕ → List ℕ → Ordering) (facts : Facts) (table : Opened) (next : ℕ) → HasSkipped cmp facts facts table next next
skipped_none cmp facts table next = record {
  reads = record { faithful = λ t. t; files = λ t. refl; failures = omega arith; writes = refl; denials = refl; locked = refl; synced = λ t. refl; calls = λ t. refl };
  stood = refl;
  begun = λ t file there found h. h;
}

-- the block of this index has these pairs
pub block_more : (cmp : List ℕ → List ℕ → Ordering) (old now new : Facts) (table : Opened) (next index : ℕ) (pairs : List Pair) → HasSkipped cmp old now table next index → Reads now new
    → Finds now new table.name (λ (file : List ℕ). IsCheckedAt cmp file table.frame index pairs)
    → Answers old new table.name (λ (file : List ℕ). (found : List Pair) → IsBegun cmp file table.frame next found → IsBegun cmp file table.frame (index + 1) (found ++ pairs))
block_more cmp old now new table next index pairs h reads block t file there found begun =
    let b = block t in
    let here = file_on old now table.name file h.reads (reads.faithful t) there in
    let is = subst (λ (x : List ℕ). IsCheckedAt cmp x table.frame index pairs) (same_file now table.name b.0 file b.1 here) b.2 in
    begun_more cmp file table.frame index found pairs (h.begun (reads.faithful t) file there found begun) is

pub skipped_more : (cmp : List ℕ → List ℕ → Ordering) (old now new : Facts) (table : Opened) (next index : ℕ) (pairs : List Pair) → HasSkipped cmp old now table next index → Reads now new → new.failures ≡ now.failures
    → Finds now new table.name (λ (file : List ℕ). IsCheckedAt cmp file table.frame index pairs) → pairs ≡ [] → HasSkipped cmp old new table next (index + 1)
skipped_more cmp old now new table next index pairs h reads still block none = record {
  reads = reads_then old now new h.reads reads;
  stood = still ∙ h.stood;
  begun = λ t file there found begun.
      let more = block_more cmp old now new table next index pairs h reads block t file there found begun in
      let e : found ++ pairs ≡ found = ap (λ (ps : List Pair). found ++ ps) none ∙ append-nil found in
      subst (λ (ps : List Pair). IsBegun cmp file table.frame (index + 1) ps) e more;
}

pub skipped_all : (cmp : List ℕ → List ℕ → Ordering) (old now : Facts) (table : Opened) (next index : ℕ) → HasSkipped cmp old now table next index → length table.frame.places ≤ index
    → Answers old now table.name (λ (file : List ℕ). AddsPairs cmp file table.frame next (length table.frame.places) [])
skipped_all cmp old now table next index h past t file there found begun =
    let b = h.begun t file there found begun in
    let le = b.within in
    let same : index ≡ length table.frame.places = omega (arith, past, le) in
    subst (λ (ps : List Pair). IsBegun cmp file table.frame (length table.frame.places) ps) (sym (append-nil found)) (subst (λ (n : ℕ). IsBegun cmp file table.frame n found) same b)

-- a block isn't read
pub skipped_not : (cmp : List ℕ → List ℕ → Ordering) (e : DbError) (old now new : Facts) (table : Opened) (next index : ℕ) → index < length table.frame.places → HasSkipped cmp old now table next index → Reads now new
    → Refuses e now new table.name (λ (file : List ℕ). IsWrongAt cmp file table.frame index) (λ (file : List ℕ). IsUnsupportedAt file table.frame.places index)
    → Refuses e old new table.name (λ (file : List ℕ). (entries : List InternalEntry) → IsFrame cmp file table.frame → IsTable cmp file entries → ⊥) (λ (file : List ℕ). IsOfOne (IsUnsupported file) table.frame.places)
skipped_not cmp OutOfMemory old now new table next index lt h reads r = r ∙ h.stood
skipped_not cmp Io old now new table next index lt h reads r = omega (arith, h.reads.failures, r)
skipped_not cmp (Corrupt kind what) old now new table next index lt h reads r = λ t file there entries frame is.
    wrong_none cmp file table.frame index entries lt frame (r t file (file_on old now table.name file h.reads (reads.faithful t) there)) is
skipped_not cmp (Unsupported what) old now new table next index lt h reads r = λ t file there. unsupported_one file table.frame.places index (r t file (file_on old now table.name file h.reads (reads.faithful t) there))
skipped_not cmp _ old now new table next index lt h reads r = absurd r
