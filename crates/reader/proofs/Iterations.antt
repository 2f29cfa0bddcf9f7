-- An iterator through a move of its scan.
use Rattle.std.proofs.Common.{◌≡◌, ◌⊎◌, ℕ, ◌≤◌, Bool, true, false, cond, List, Option, Some, None, Result, Ok, Err, IfErr, MatchOption, IsTrue, IsSome, inl, inr, refl, sym, ap, subst, ◌∙◌, arith}
use Rattle.std.specs.declared.cmp.Ordering.{Ordering}
use Rattle.cache.specs.Tables.{table_at}
use Rattle.coding.specs.declared.error.DbError.{DbError}
use Rattle.edits.specs.Names.{IsNumbered}
use Rattle.coding.specs.declared.error.DbError.TheVariants as error
use Rattle.cursor.specs.Moves.{Refuses}
use Rattle.cursor.specs.Views.{Walked}
use Rattle.cursor.specs.Walks.{key_before}
use Rattle.db_cursor.specs.Pairs.{pair_on}
use Rattle.db_cursor.specs.internal.Scanning.{IsScanned, ReadsAs, TakesBack}
use Rattle.level_cursor.specs.InRows.{ListsNumber}
use Rattle.db_cursor.specs.Scans.{IsOnePastLimit, IsScan, IsScanLimited, MayBeScan, reads_table, tables_of}
use Rattle.db_cursor.proofs.ScanSteps.{if_refuses}
use Rattle.db_cursor.proofs.Untorn.{may_of}
use Rattle.db_cursor.proofs.WholeScans.{back_whole, moves_whole, refused_whole}
use Rattle.db_cursor.specs.Whole.{Whole}
use Rattle.db_cursor.specs.declared.scan.Scan.{Scan}
use Rattle.store.specs.Files.{Facts}
use Rattle.reader.specs.internal.Iterators.{walked_of, destination}
use Rattle.machine.specs.Machine.{Walk}
use Rattle.reader.specs.Moving.{HasTornFile, IsMoved, IsNoWalk, IsReadError, MayRefuseMotion}
use Rattle.machine.specs.Walks.{place_after}
use Rattle.machine.specs.Causes.{Motion, needs_place, lacks_place}
use Rattle.reader.proofs.Walking.{destination_is, pair_is}

abbrev Order : Type 0
Order = List ℕ → List ℕ → Ordering

-- ---- no place to step from

abbrev HasNone : Option DbError → Type 0
HasNone o = o ≡ None

pub has_place : (motion : Motion) (stood : Bool) → (needs_place motion ≡ false) ⊎ (stood ≡ true) → lacks_place stood motion ≡ None
has_place motion stood (inl free) = ap (λ (b : Bool). cond b (cond stood None (Some error.NoPlace)) None) free
has_place motion stood (inr stands) = ap (λ (b : Bool). cond (needs_place motion) (cond b None (Some error.NoPlace)) None) stands ∙ at (needs_place motion)
  where
    at : (b : Bool) → HasNone (cond b None None)
    at true = refl
    at false = refl

not_lacking : (o : Option DbError) (P : DbError → Type 0) → o ≡ None → MatchOption o (Unit {0}) P
not_lacking None P is = tt
not_lacking (Some cause) P is = absurd (cc)

-- ---- refusals

refuses_as : (e : DbError) (old new : Facts) (damaged other limited : Type 0) → (damaged → other) → Refuses e old new damaged limited → Refuses e old new other limited
refuses_as error.OutOfMemory old new damaged other limited goes h = tt
refuses_as error.Io old new damaged other limited goes h = h
refuses_as (error.Corrupt file what) old new damaged other limited goes h = λ f. goes (h f)
refuses_as (error.Unsupported what) old new damaged other limited goes h = λ f. elim (h f) [ inl d ↦ inl (goes d) | inr l ↦ inr l ]
refuses_as _ old new damaged other limited goes h = absurd h

may_refuse : (motion : Motion) (e : DbError) (old new : Facts) (damaged limited : Type 0) → Refuses e old new damaged limited → MayRefuseMotion motion e
may_refuse motion error.OutOfMemory old new damaged limited h = tt
may_refuse motion error.Io old new damaged limited h = tt
may_refuse motion (error.Corrupt file what) old new damaged limited h = tt
may_refuse motion (error.Unsupported what) old new damaged limited h = tt
may_refuse motion _ old new damaged limited h = absurd h

is_read_error : (e : DbError) (old new : Facts) (damaged limited : Type 0) → Refuses e old new damaged limited → IsReadError e
is_read_error error.OutOfMemory old new damaged limited h = tt
is_read_error error.Io old new damaged limited h = tt
is_read_error (error.Corrupt file what) old new damaged limited h = tt
is_read_error (error.Unsupported what) old new damaged limited h = tt
is_read_error _ old new damaged limited h = absurd h

-- ---- moves

abbrev SameStanding : ℕ × Option (List ℕ) → ℕ × Option (List ℕ) → Type 0
SameStanding a b = a ≡ b

same_standing : (sequence other : ℕ) (stands stood : Bool) (key was : List ℕ) → sequence ≡ other → stands ≡ stood → key ≡ was → SameStanding (sequence, cond stands (Some key) None) (other, cond stood (Some was) None)
same_standing sequence other stands stood key was s b k = λ i. (s i, cond (b i) (Some (k i)) None)

module _ {K : Type 0} {g : _} (cmp : Order) (motion : Motion) (before after : Whole) (old new : Scan K g) (placed : lacks_place old.walk.stands motion ≡ None) where
  bound_on : (result : Result (Unit {0}) DbError) (scan : Scan K g) → IsScanned cmp (destination cmp motion) before after old new result → scan.walk.sequence ≡ new.walk.sequence → old.walk.sequence ≤ before.memory.last → scan.walk.sequence ≤ after.memory.last
  bound_on result scan w same bound = omega (arith, same, bound, w.sequence, w.memory.last)

  -- what is past a limit of reading was so before
  past_before : (result : Result (Unit {0}) DbError) (scan : Scan K g) → IsScanned cmp (destination cmp motion) before after old new result → ReadsAs old scan → IsTrue after.seen.facts.faithful → IsOnePastLimit cmp (tables_of scan) after → IsOnePastLimit cmp (tables_of old) before
  past_before result scan w alike f past =
      let there : IsOnePastLimit cmp (tables_of old) after = subst (λ (v : _). IsOnePastLimit cmp v.value.tables after) alike.version past in
      (there.0, there.1, there.2, ap (λ files. table_at files there.0.table.number) (sym (w.reads.files f)) ∙ there.3, there.4)

  -- it reads no other tables, and they are still there
  tables_on : (result : Result (Unit {0}) DbError) (scan : Scan K g) → IsScanned cmp (destination cmp motion) before after old new result → ReadsAs old scan → ((number : ℕ) → reads_table scan number → reads_table new number) → IsTrue after.seen.facts.faithful
      → ((number : ℕ) → reads_table old number → ListsNumber (tables_of old) number × IsNumbered number × IsSome (table_at before.seen.facts.files number))
      → (number : ℕ) → reads_table scan number → ListsNumber (tables_of scan) number × IsNumbered number × IsSome (table_at after.seen.facts.files number)
  tables_on result scan w alike within f tables number read =
      let there = tables number (w.tables number (within number read)) in (
        subst (λ (v : _). ListsNumber v.value.tables number) (sym alike.version) there.0,
        there.1,
        subst (λ files. IsSome (table_at files number)) (sym (w.reads.files f)) there.2,
      )

  -- where it is refused as damaged, the file of one of its tables is torn
  torn_of : (result : Result (Unit {0}) DbError) → IsScanned cmp (destination cmp motion) before after old new result
      → IfErr result (λ e. Refuses e before.seen.facts after.seen.facts (HasTornFile cmp before old) (IsScanLimited cmp old before))
  torn_of result w = if_refuses result before.seen.facts after.seen.facts _ _ _ (λ damaged walk h. let one = damaged (walked_of walk) h.scan in (one.0, h.scan.torn one.0 one.1)) w.refused

  pub moved_err : (e : DbError) → IsScanned cmp (destination cmp motion) before after old new (Err e) → IsMoved cmp motion before after old new (Err e)
  moved_err e w = record {
    memory = w.memory;
    reads = w.reads;
    carries = w.carries;
    still = w.still;
    stayed = same_standing new.walk.sequence old.walk.sequence new.walk.stands old.walk.stands new.walk.here.key.items old.walk.here.key.items w.sequence w.stayed.0 w.stayed.1;
    version = ap (λ v. v.value.tables) w.reads_as.version;
    tables = w.tables;
    allowed = may_refuse motion e before.seen.facts after.seen.facts _ _ w.refused;
    placeless = not_lacking (lacks_place old.walk.stands motion) _ placed;
    placed = λ none. is_read_error e before.seen.facts after.seen.facts _ _ w.refused;
    refused = λ none. refuses_as e before.seen.facts after.seen.facts ((at : Walked) → IsScan cmp old before at → ⊥) (IsNoWalk cmp before old) (IsScanLimited cmp old before)
        (λ none_is limited walk is. none_is (walked_of walk) is.scan) (refused_whole cmp (destination cmp motion) before after old new (Err e) w);
    torn = λ none. torn_of (Err e) w;
    may_move = λ f none m h. record { bound = bound_on (Err e) new w refl h.bound; scan = w.moves f (walked_of m) h.scan };
    keeps = w.keeps;
    moves = λ f none limited m h. record { bound = bound_on (Err e) new w refl h.bound; scan = moves_whole cmp (destination cmp motion) before after old new (Err e) w f (walked_of m) h.scan; limits = λ is past. h.limits is (past_before (Err e) new w w.reads_as f past); tables = tables_on (Err e) new w w.reads_as (λ number read. read) f h.tables };
  }

  pub moved_ok : (pair : Option (List ℕ × List ℕ)) → ((at : Walked) → MayBeScan cmp new after at → pair ≡ pair_on at) → IsScanned cmp (destination cmp motion) before after old new (Ok tt)
      → IsMoved cmp motion before after old new (Ok pair)
  moved_ok pair reads w = record {
    memory = w.memory;
    reads = w.reads;
    carries = w.carries;
    still = w.still;
    stayed = tt;
    version = ap (λ v. v.value.tables) w.reads_as.version;
    tables = w.tables;
    allowed = tt;
    placeless = not_lacking (lacks_place old.walk.stands motion) _ placed;
    placed = λ none. tt;
    refused = λ none. tt;
    torn = λ none. tt;
    may_move = λ f none m h.
        let there : Walk = record m { place = place_after cmp motion m } in
        let on : MayBeScan cmp new after (walked_of there) =
        subst (λ (place : Option ℕ). MayBeScan cmp new after (record (walked_of m) { place = place })) (destination_is cmp motion m) (w.moves f (walked_of m) h.scan) in
        (record { bound = bound_on (Ok tt) new w refl h.bound; scan = on }, reads (walked_of there) on ∙ pair_is there);
    keeps = w.keeps;
    moves = λ f none limited m h.
        let there : Walk = record m { place = place_after cmp motion m } in
        let on : IsScan cmp new after (walked_of there) =
        subst (λ (place : Option ℕ). IsScan cmp new after (record (walked_of m) { place = place })) (destination_is cmp motion m) (moves_whole cmp (destination cmp motion) before after old new (Ok tt) w f (walked_of m) h.scan) in
        (record { bound = bound_on (Ok tt) new w refl h.bound; scan = on; limits = λ is past. h.limits is (past_before (Ok tt) new w w.reads_as f past); tables = tables_on (Ok tt) new w w.reads_as (λ number read. read) f h.tables }, reads (walked_of there) (may_of cmp new after (walked_of there) on) ∙ pair_is there);
  }

  -- the pair found no memory, and the move was taken back
  pub taken_back : (stood : Bool) (back : Scan K g) → stood ≡ old.walk.stands → back.walk.cursor ≡ new.walk.cursor → TakesBack cmp stood new back → back.walk.sequence ≡ new.walk.sequence → back.walk.stands ≡ stood → back.walk.here.key.items ≡ key_before new.walk → ReadsAs new back
      → ((number : ℕ) → reads_table back number → reads_table new number) → IsScanned cmp (destination cmp motion) before after old new (Ok tt) → IsMoved cmp motion before after old back (Err error.OutOfMemory)
  taken_back stood back was cursor again sequence stands key alike fewer w = record {
    memory = w.memory;
    reads = w.reads;
    carries = w.carries;
    still = w.still;
    stayed = same_standing back.walk.sequence old.walk.sequence back.walk.stands old.walk.stands back.walk.here.key.items old.walk.here.key.items (sequence ∙ w.sequence) (stands ∙ was) (key ∙ w.left);
    version = ap (λ v. v.value.tables) both.version;
    tables = λ number read. w.tables number (fewer number read);
    allowed = tt;
    placeless = not_lacking (lacks_place old.walk.stands motion) _ placed;
    placed = λ none. tt;
    refused = λ none. tt;
    torn = λ none. tt;
    may_move = λ f none m h. record {
      bound = bound_on (Ok tt) back w sequence h.bound;
      scan = again old before after (walked_of m).pairs m.place (destination cmp motion (walked_of m)) h.scan (w.moves f (walked_of m) h.scan) (sym was) w.sequence w.left;
    };
    keeps = w.keeps;
    moves = λ f none limited m h. record {
      bound = bound_on (Ok tt) back w sequence h.bound;
      scan = back_whole cmp stood new back cursor again old before after (walked_of m).pairs m.place (destination cmp motion (walked_of m)) h.scan
          (moves_whole cmp (destination cmp motion) before after old new (Ok tt) w f (walked_of m) h.scan) (sym was) w.sequence w.left;
      limits = λ is past. h.limits is (past_before (Ok tt) back w both f past);
      tables = tables_on (Ok tt) back w both fewer f h.tables;
    };
  }
    where
      both : ReadsAs old back
      both = record { generation = alike.generation ∙ w.reads_as.generation; sealed = alike.sealed ∙ w.reads_as.sealed; version = alike.version ∙ w.reads_as.version }
