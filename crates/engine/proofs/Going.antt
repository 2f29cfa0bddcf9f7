-- Steps of the machine after the moves of an iterator.
use Rattle.std.proofs.Common.{◌≡◌, ◌⊎◌, inl, inr, ℕ, ◌<◌, ◌≤◌, Bool, true, false, cond, IsTrue, List, [], Option, Some, None, IsSome, is_some, MatchOption, MatchResult, Ok, Err, IfErr, Result, refl, sym, ap, subst, ◌∙◌, arith}
use Rattle.std.specs.Bool.{nat_eq}
use Rattle.std.specs.BTreeMap.{BTreeMap}
use Rattle.std.specs.Cmp.{IsTotalOrder}
use Rattle.std.specs.FinMap.{IsAntisymmetric}
use Rattle.std.specs.Map.{lookup}
use Rattle.std.specs.Option.{option_map, option_or, unwrap_or}
use Rattle.std.specs.Ordering.{nat_cmp, is_eq}
use Rattle.std.specs.declared.cmp.Ordering.{Ordering}
use Rattle.coding.specs.declared.error.DbError.{DbError}
use Rattle.coding.specs.declared.error.DbError.TheVariants as error
use Rattle.cursor.specs.Moves.{Refuses}
use Rattle.ikey.specs.Orders.{Order}
use Rattle.memtables.specs.PlaceLaws.{left_logged}
use Rattle.db_cursor.specs.internal.Scanning.{ScanIsKept}
use Rattle.db_cursor.specs.Scans.{IsScanLimited, ListsMerged, tables_of}
use Rattle.db_cursor.specs.Whole.{Whole}
use Rattle.memtables.specs.Memories.{Memories}
use Rattle.db_cursor.specs.declared.scan.Scan.{Scan}
use Rattle.version_laws.specs.Laws.{VersionLaw}
use Rattle.table_access.specs.Tables.{Seen}
use Rattle.table.specs.Reading.{IsStill}
use Rattle.store.specs.Files.{Facts, Files}
use Rattle.cache.specs.Tables.{table_at}
use Rattle.edits.specs.declared.field.PlacedTable.{PlacedTable}
use Rattle.level_cursor.specs.InRows.{ListsNumber}
use Rattle.machine.specs.declared.command.Answer.{Answer}
use Rattle.machine.specs.declared.command.Answer.TheVariants.{Pair, Refused}
use Rattle.engine.specs.declared.ids.Ids.{Ids}
use Rattle.engine.specs.Causes.{IsCausedIn, open_status}
use Rattle.engine.specs.Stands.{no_ids}
use Rattle.opening.specs.Refusals.{IsMet}
use Rattle.engine.specs.internal.Leading.{LeadsOpen}
use Rattle.engine.specs.Follows.{pair_answer}
use Rattle.engine.specs.OpenDb.{OpenDb, whole_of}
use Rattle.reader.specs.internal.Iterators.{IsWalk, MayBeWalk, walked_of}
use Rattle.engine.specs.Reads.{kept_at}
use Rattle.engine.specs.internal.Live.{IsBoth, AreLive, IsLiveWalk}
use Rattle.machine.specs.Machine.{Machine, Walk, walk_under}
use Rattle.engine.specs.internal.Pieces.{IsHardToRead}
use Rattle.reader.specs.Moving.{IsMoved, IsNoWalk, IsReadError, MayMoveTo, MayRefuseMotion, standing}
use Rattle.engine.specs.Outcomes.{DbOutcome, IsSame, Keeps, MayRefuseMove}
use Rattle.machine.specs.Serving.{◌≈◌, Counted, ReadRefused}
use Rattle.engine.specs.internal.Standing.{IsServing, StandsOpen}
use Rattle.machine.specs.Causes.{no_iterator, status_of, Motion, lacks_place, needs_place, move_cause}
use Rattle.machine.specs.Walks.{place_after, pair_at, moved, Moves}
use Rattle.engine.proofs.Compacting.{HaveKnown, have_same, have_updated, known_itself}
use Rattle.engine.proofs.LiveIds.{same_id, live_again, live_changed, live_replaced, both_then}
use Rattle.engine.proofs.Origins.{whole_walk}
use Rattle.engine.proofs.Reading.{read_by, stands_read}
use Rattle.engine.proofs.Steps.{denies_none, by_cause, without_cause, serving_of}
use Rattle.engine.proofs.ViewSteps.{Updates, cause_whole, iterator_known, stands_anew, stands_beside}
use Rattle.reader.proofs.Walking.{stands_is}

-- ---- there is no such iterator

pub not_walked : {K : Type 0} {g : _} → (order : Order) (source : Seen) (ids : Ids) (db : OpenDb K g) (open_ones : BTreeMap ℕ (Scan K g)) (id : ℕ) (motion : Motion) → db.broken ≡ false → is_some (kept_at db.iterators id) ≡ false
    → ((q : ℕ) → kept_at open_ones q ≡ kept_at db.iterators q) → LeadsOpen order source source ids db (record db { iterators = open_ones }) (λ m n. Moves order m id motion (Refused error.NoIterator) n)
not_walked order source ids db open_ones id motion is gone same = record {
  faithful = λ f. f;
  moved = λ f m s.
      let walks : AreLive (IsLiveWalk order.cmp m.over_limit m.damaged (whole_of source db)) open_ones m.iterators = λ q. subst (λ (o : Option (Scan _ _)). IsBoth (IsLiveWalk order.cmp m.over_limit m.damaged (whole_of source db)) o (lookup (nat_eq q) m.iterators)) (sym (same q)) ((serving_of order source ids db m is s).iterators q) in (
        m,
        by_cause (move_cause (status_of m) id motion) m error.NoIterator ⊥
            (cause_whole order source ids db m (option_or (no_iterator (status_of m) id) (lacks_place (is_some (walk_under m id).place) motion)) is s
            ∙ ap (λ (o : Option DbError). option_or o (lacks_place (is_some (walk_under m id).place) motion)) (iterator_known order source ids db m is s id false gone)),
        stands_anew order source ids db db.snapshots open_ones m is (λ q. refl) (have_same db.iterators open_ones db.tables same) walks s,
      );
}

-- ---- the walk of an iterator

walk_at : {X : Type 0} (Is : X → Walk → Type 0) (o : Option X) (live : Option Walk) (iterator : X) → o ≡ Some iterator → IsBoth Is o live → Is iterator (unwrap_or live (record { pairs = []; place = None }))
walk_at Is None live iterator is h = absurd (cc)
walk_at Is (Some x) None iterator is h = absurd h
walk_at {X} Is (Some x) (Some walk) iterator is h = (let same : x ≡ iterator = cc in subst (λ (i : X). Is i walk) same h)

-- the same place is lacked
lacks_same : {K : Type 0} {g : _} (order : Order) (limited damaged : Bool) (whole : Whole) (scan : Scan K g) (walk : Walk) (motion : Motion) → IsLiveWalk order.cmp limited damaged whole scan walk → lacks_place (is_some walk.place) motion ≡ lacks_place scan.walk.stands motion
lacks_same order limited damaged whole scan walk motion h =
    sym (ap (λ (b : Bool). lacks_place b motion) (stands_is order.cmp (ListsMerged order.cmp) scan.walk.cursor scan.walk.sequence scan.walk.stands scan.walk.position scan.walk.here.key.items scan.walk.here.value.items whole h.may.scan.walk.0 (walked_of walk) h.may.scan.walk.2))

-- ---- limits of reading

module _ {K : Type 0} {g : _} (order : Order) (source : Seen) (db : OpenDb K g) (m : Machine) (version : VersionLaw) (total : IsTotalOrder order.cmp) (exact : IsAntisymmetric order.cmp) (serving : IsServing order source db m) where
  -- An iterator passes one only where the directory of the machine does.
  over_limit : (b : Bool) → m.over_limit ≡ b → (b ≡ false → ⊥) → m.over_limit ≡ true
  over_limit true is none = is
  over_limit false is none = absurd (none refl)

  no_walk : m.damaged ≡ false → (scan : Scan K g) (walk : Walk) → IsLiveWalk order.cmp m.over_limit m.damaged (whole_of source db) scan walk → IsNoWalk order.cmp (whole_of source db) scan → ⊥
  no_walk whole scan walk h none = none m.over_limit walk (whole_walk order.cmp m.over_limit m.damaged (whole_of source db) scan walk whole h)

  damage : (b : Bool) → m.damaged ≡ b → (scan : Scan K g) (walk : Walk) → IsLiveWalk order.cmp m.over_limit m.damaged (whole_of source db) scan walk → IsNoWalk order.cmp (whole_of source db) scan → m.damaged ≡ true
  damage true is scan walk h none = is
  damage false whole scan walk h none = absurd (no_walk whole scan walk h none)

  hard : (b : Bool) → m.damaged ≡ b → (scan : Scan K g) (walk : Walk) → IsLiveWalk order.cmp m.over_limit m.damaged (whole_of source db) scan walk
      → IsNoWalk order.cmp (whole_of source db) scan ⊎ IsScanLimited order.cmp scan (whole_of source db) → IsHardToRead m
  hard true is scan walk h r = inr is
  hard false whole scan walk h (inl none) = absurd (no_walk whole scan walk h none)
  hard false whole scan walk h (inr limited) = inl (over_limit m.over_limit refl (λ is. h.limits is whole (h.may.scan.limits limited)))

  -- why a move is refused, the machine allows
  pub read_refused : (new : Facts) (scan : Scan K g) (walk : Walk) (e : DbError) → IsTrue new.faithful → m.failures ≡ source.facts.failures → IsLiveWalk order.cmp m.over_limit m.damaged (whole_of source db) scan walk
      → Refuses e source.facts new (IsNoWalk order.cmp (whole_of source db) scan) (IsScanLimited order.cmp scan (whole_of source db)) → ReadRefused m e (read_by new m)
  read_refused new scan walk error.OutOfMemory f counts h r = refl
  read_refused new scan walk error.Io f counts h r = ((let rise : source.facts.failures < new.failures = r in omega (arith, counts, rise)), refl)
  read_refused new scan walk (error.Corrupt file what) f counts h r = (damage m.damaged refl scan walk h (r f), refl)
  read_refused new scan walk (error.Unsupported what) f counts h r = (hard m.damaged refl scan walk h (r f), refl)
  read_refused new scan walk _ f counts h r = absurd r

-- ---- a move

abbrev SameMove : Result (Option (List ℕ × List ℕ)) DbError → Result (Option (List ℕ × List ℕ)) DbError → Type 0
SameMove a b = a ≡ b

-- a step without a place has this result
abbrev Placeless : {X : Type 0} → Option DbError → Result (Option (List ℕ × List ℕ)) DbError → X → X → Whole → Whole → Type 0
Placeless o result old new before after = MatchOption o (Unit {0}) (λ cause. (result ≡ Err cause) × (new ≡ old) × (after ≡ before))

placed_somewhere : {X : Type 0} (o : Option DbError) (pair : Option (List ℕ × List ℕ)) (old new : X) (before after : Whole) → Placeless o (Ok pair) old new before after → o ≡ None
placed_somewhere None pair old new before after h = refl
placed_somewhere (Some cause) pair old new before after h = absurd (let bad : SameMove (Ok pair) (Err cause) = h.0 in cc)

module _ {K : Type 0} {g : _} (order : Order) (kept : (scan : Scan K g) → ScanIsKept order.cmp scan) (version : VersionLaw) (total : IsTotalOrder order.cmp) (exact : IsAntisymmetric order.cmp)
    (source new : Seen) (ids : Ids) (db : OpenDb K g) (memory : Memories) (open_ones : BTreeMap ℕ (Scan K g)) (id : ℕ) (motion : Motion) (was now : Scan K g)
    (is : db.broken ≡ false) (there : kept_at db.iterators id ≡ Some was) (updates : Updates id (Some now) db.iterators open_ones) where
  abbrev before : Whole
  before = whole_of source db

  abbrev after : Whole
  after = record { seen = new; memory = memory }

  -- the database after the move, but for its iterators
  abbrev read_db : OpenDb K g
  read_db = record db { memory = memory }

  -- its version is what it was
  have_now : tables_of now ≡ tables_of was → HaveKnown db.iterators db.tables open_ones
  have_now same = have_updated db.iterators open_ones db.tables id (Some now) (λ one is_now. let it : now ≡ one = cc in inl (id, was, there, ap tables_of (sym it) ∙ same)) updates

  walk_known : (m : Machine) → StandsOpen order source ids db m → IsLiveWalk order.cmp m.over_limit m.damaged before was (walk_under m id)
  walk_known m s = walk_at (IsLiveWalk order.cmp m.over_limit m.damaged before) (kept_at db.iterators id) (lookup (nat_eq id) m.iterators) was there ((serving_of order source ids db m is s).iterators id)

  move_at : (m : Machine) (o : Option DbError) → StandsOpen order source ids db m → lacks_place was.walk.stands motion ≡ o → move_cause (status_of m) id motion ≡ o
  move_at m o s known =
      cause_whole order source ids db m (option_or (no_iterator (status_of m) id) (lacks_place (is_some (walk_under m id).place) motion)) is s
      ∙ ap (λ (x : Option DbError). option_or x (lacks_place (is_some (walk_under m id).place) motion)) (iterator_known order source ids db m is s id true (ap is_some there))
      ∙ lacks_same order m.over_limit m.damaged before was (walk_under m id) motion (walk_known m s) ∙ known

  -- a walk of the one that was is such a walk of the one that is, to which it may be moved
  goes_on : (r : Result (Option (List ℕ × List ℕ)) DbError) → IsMoved order.cmp motion before after was now r → IsTrue new.facts.faithful → lacks_place was.walk.stands motion ≡ None → (limited damaged : Bool) (walk there_walk : Walk)
      → MayBeWalk order.cmp after now there_walk → (IsWalk order.cmp limited before was walk → IsWalk order.cmp limited after now there_walk)
      → IsLiveWalk order.cmp limited damaged before was walk → IsLiveWalk order.cmp limited damaged after now there_walk
  goes_on r h f free limited damaged walk there_walk may whole known = record {
    may = may;
    limits = λ within is. (whole (whole_walk order.cmp limited damaged before was walk is known)).limits within;
    intact = λ is. (whole (whole_walk order.cmp limited damaged before was walk is known)).scan.intact;
    tables = λ number read.
        let old_one = known.tables number (h.tables number read) in (
          subst (λ (ts : List PlacedTable). ListsNumber ts number) (sym h.version) old_one.0,
          old_one.1,
          subst (λ (fs : Files). IsSome (table_at fs number)) (sym (h.reads.files f)) old_one.2,
        );
  }

  stands_on : (result : Result (Option (List ℕ × List ℕ)) DbError) → IsMoved order.cmp motion before after was now result → IsTrue new.facts.faithful → (m : Machine) → StandsOpen order source ids db m → StandsOpen order new ids read_db (read_by new.facts m)
  stands_on result h f m s = stands_read order kept source new ids db memory m h.carries (λ number kept_now. elim (h.carries.gathered number kept_now) [ inl before ↦ inl before | inr reads ↦ inr (inr (id, was, there, reads)) ]) f h.memory s

  counts_on : (result : Result (Option (List ℕ × List ℕ)) DbError) (answer : Answer) (place : Option ℕ) → IsMoved order.cmp motion before after was now result → (m : Machine) → StandsOpen order source ids db m → Counted m answer (read_by new.facts m)
  counts_on result answer place h m s = denies_none m (read_by new.facts m) answer (let same : m.failures ≡ source.facts.failures = s.counts.failures in let rise : source.facts.failures ≤ new.facts.failures = h.reads.failures in omega (arith, same, rise)) (h.reads.denials ∙ sym s.counts.denials)

  pub walked : (pair : Option (List ℕ × List ℕ)) → IsMoved order.cmp motion before after was now (Ok pair) → LeadsOpen order source new ids db (record db { memory = memory; iterators = open_ones }) (λ m n. Moves order m id motion (Pair pair) n)
  walked pair h = record {
    faithful = h.reads.faithful;
    moved = λ f m s.
        let place = place_after order.cmp motion (walk_under m id) in
        let n : Machine = read_by new.facts (moved m id place) in
        let free : lacks_place was.walk.stands motion ≡ None = placed_somewhere (lacks_place was.walk.stands motion) pair was now before after h.placeless in
        let known = walk_known m s in
        let goes : MayMoveTo order.cmp motion after now (walk_under m id) (Ok pair) = h.may_move f free (walk_under m id) known.may in
        let there_walk : Walk = record (walk_under m id) { place = place } in
        let live = goes_on (Ok pair) h f free m.over_limit m.damaged (walk_under m id) there_walk goes.0 (λ whole. (h.moves f free m.over_limit (walk_under m id) whole).0) known in
        let stands = stands_on (Ok pair) h f m s in
        let counted = counts_on (Ok pair) (Pair pair) place h m s in
        let serving = serving_of order new ids read_db (read_by new.facts m) is stands in (
          n,
          without_cause (move_cause (status_of m) id motion) m n (Pair pair) ((pair ≡ pair_at (walk_under m id).pairs place) × (n ≈ moved m id place)) (move_at m None s free)
              (record { failures = counted.failures; denials = counted.denials; undenied = counted.undenied }) (goes.1, refl),
          stands_beside order new ids ids read_db db.snapshots open_ones (read_by new.facts m) m.snapshots n.iterators m.last_snapshot m.last_iterator is stands s.ids.0 s.ids.1 (known_itself db.snapshots memory.last) (have_now h.version) serving.snapshots
              (live_replaced (IsLiveWalk order.cmp m.over_limit m.damaged after) id db.iterators open_ones m.iterators now there_walk updates live serving.iterators),
        );
  }

  -- it was refused, and has stayed
  stays_there : (e : DbError) → IsMoved order.cmp motion before after was now (Err e) → IsTrue new.facts.faithful → lacks_place was.walk.stands motion ≡ None → (m : Machine) → StandsOpen order source ids db m
      → StandsOpen order new ids (record db { memory = memory; iterators = open_ones }) (read_by new.facts m)
  stays_there e h f free m s =
      let stands = stands_on (Err e) h f m s in
      let serving = serving_of order new ids read_db (read_by new.facts m) is stands in
      let both : IsBoth (IsLiveWalk order.cmp m.over_limit m.damaged before) (Some was) (lookup (nat_eq id) m.iterators) =
      subst (λ (o : Option (Scan K g)). IsBoth (IsLiveWalk order.cmp m.over_limit m.damaged before) o (lookup (nat_eq id) m.iterators)) there ((serving_of order source ids db m is s).iterators id) in
      stands_beside order new ids ids read_db db.snapshots open_ones (read_by new.facts m) m.snapshots m.iterators m.last_snapshot m.last_iterator is stands s.ids.0 s.ids.1 (known_itself db.snapshots memory.last) (have_now h.version) serving.snapshots
      (live_again (IsLiveWalk order.cmp m.over_limit m.damaged after) id db.iterators open_ones m.iterators now
      (both_then (IsLiveWalk order.cmp m.over_limit m.damaged before) (IsLiveWalk order.cmp m.over_limit m.damaged after) was now (lookup (nat_eq id) m.iterators) (λ walk known. goes_on (Err e) h f free m.over_limit m.damaged walk walk (h.may_move f free walk known.may) (h.moves f free m.over_limit walk) known) both) updates serving.iterators)

  -- there was no place to step from, and nothing was done
  same_there : now ≡ was → after ≡ before → (m : Machine) → StandsOpen order source ids db m → StandsOpen order new ids (record db { memory = memory; iterators = open_ones }) m
  same_there same whole m s =
      let serving = serving_of order source ids db m is s in
      subst (λ (w : Whole). StandsOpen order w.seen ids (record db { memory = w.memory; iterators = open_ones }) m) (sym whole)
      (stands_anew order source ids db db.snapshots open_ones m is (λ q. refl) (have_now (ap tables_of same))
      (live_changed (IsLiveWalk order.cmp m.over_limit m.damaged before) id db.iterators open_ones m.iterators was now there (λ walk known. subst (λ (i : Scan K g). IsLiveWalk order.cmp m.over_limit m.damaged before i walk) (sym same) known) updates serving.iterators) s)

  pub stood : (e : DbError) → IsMoved order.cmp motion before after was now (Err e) → LeadsOpen order source new ids db (record db { memory = memory; iterators = open_ones }) (λ m n. Moves order m id motion (Refused e) n)
  stood e h = record { faithful = h.reads.faithful; moved = λ f m s. at f m s (lacks_place was.walk.stands motion) refl h.placeless }
    where
      at : IsTrue new.facts.faithful → (m : Machine) → StandsOpen order source ids db m → (o : Option DbError) → lacks_place was.walk.stands motion ≡ o → Placeless o (Err e) was now before after
          → (n : Machine) × Moves order m id motion (Refused e) n × StandsOpen order new ids (record db { memory = memory; iterators = open_ones }) n
      at f m s None known free = (
        read_by new.facts m,
        without_cause (move_cause (status_of m) id motion) m (read_by new.facts m) (Refused e) (ReadRefused m e (read_by new.facts m)) (move_at m None s known) (counts_on (Err e) (Refused e) None h m s)
            (read_refused order source db m version total exact (serving_of order source ids db m is s) new.facts was (walk_under m id) e f s.counts.failures (walk_known m s) (h.refused known)),
        stays_there e h f known m s,
      )
      at f m s (Some cause) known same = (
        m,
        by_cause (move_cause (status_of m) id motion) m e _ (move_at m (Some cause) s known ∙ ap Some (let refused : SameMove (Err e) (Err cause) = same.0 in let back : cause ≡ e = cc in back)),
        same_there same.1 same.2 m s,
      )

  pub walks : (r : Result (Option (List ℕ × List ℕ)) DbError) → IsMoved order.cmp motion before after was now r → LeadsOpen order source new ids db (record db { memory = memory; iterators = open_ones }) (λ m n. Moves order m id motion (pair_answer r) n)
  walks (Ok pair) h = walked pair h
  walks (Err e) h = stood e h

-- ---- whatever the store returns

abbrev Lacks : Option DbError → DbError → Type 0
Lacks o cause = o ≡ Some cause

-- what a place that is lacked is refused as
not_io : (stands : Bool) (motion : Motion) (cause : DbError) → lacks_place stands motion ≡ Some cause → cause ≡ error.Io → ⊥
not_io stands motion cause known io = at stands (needs_place motion) known
  where
    at : (b c : Bool) → Lacks (cond c (cond b None (Some error.NoPlace)) None) cause → ⊥
    at b false is = cc
    at true true is = cc
    at false true is = cc

may_refuse : (motion : Motion) (e : DbError) → MayRefuseMotion motion e → MayRefuseMove motion e
may_refuse motion error.OutOfMemory h = tt
may_refuse motion error.Io h = tt
may_refuse motion (error.Corrupt file what) h = tt
may_refuse motion (error.Unsupported what) h = tt
may_refuse motion error.NoPlace h = h
may_refuse motion _ h = absurd h

module _ {K : Type 0} {g : _} (cmp : List ℕ → List ℕ → Ordering) (source new : Seen) (db : OpenDb K g) (memory : Memories) (open_ones : BTreeMap ℕ (Scan K g)) (id : ℕ) (motion : Motion) (was now : Scan K g)
    (there : kept_at db.iterators id ≡ Some was) (updates : Updates id (Some now) db.iterators open_ones) where
  -- a refusal leaves all that is answered from
  leaves_same : (e : DbError) → IsMoved cmp motion (whole_of source db) (record { seen = new; memory = memory }) was now (Err e) → IsSame db (record db { memory = memory; iterators = open_ones })
  leaves_same e h = record {
    entries = left_logged db.memory memory h.memory;
    sequence = h.memory.last;
    tables = refl;
    log = refl;
    snapshots = λ q. refl;
    iterators = λ q. ap (option_map standing) (updates q) ∙ at q (is_eq (nat_cmp id q)) refl;
  }
    where
      at : (q : ℕ) (b : Bool) → is_eq (nat_cmp id q) ≡ b → option_map standing (cond b (Some now) (kept_at db.iterators q)) ≡ option_map standing (kept_at db.iterators q)
      at q false known = refl
      at q true known =
          let same : q ≡ id = same_id id q known in
          ap Some h.stayed ∙ sym (ap (option_map standing) (ap (kept_at db.iterators) same ∙ there))

  fails_on_io : (r : Result (Option (List ℕ × List ℕ)) DbError) → IsMoved cmp motion (whole_of source db) (record { seen = new; memory = memory }) was now r → r ≡ Err error.Io → source.facts.failures < new.facts.failures
  fails_on_io r h io = at (lacks_place was.walk.stands motion) refl
    where
      at : (o : Option DbError) → lacks_place was.walk.stands motion ≡ o → source.facts.failures < new.facts.failures
      at None known = subst (λ (x : Result (Option (List ℕ × List ℕ)) DbError). IfErr x (λ e. Refuses e source.facts new.facts (IsNoWalk cmp (whole_of source db) was) (IsScanLimited cmp was (whole_of source db)))) io (h.refused known)
      at (Some cause) known =
          let none : Placeless (Some cause) r was now (whole_of source db) (record { seen = new; memory = memory }) = subst (λ (o : Option DbError). Placeless o r was now (whole_of source db) (record { seen = new; memory = memory })) known h.placeless in
          absurd (not_io was.walk.stands motion cause known (let same : SameMove (Err cause) (Err error.Io) = sym none.0 ∙ io in let is : cause ≡ error.Io = cc in is))

  still_of : (r : Result (Option (List ℕ × List ℕ)) DbError) → IsStill source.facts new.facts r → r ≡ Err error.OutOfMemory → new.facts.failures ≡ source.facts.failures
  still_of r still is = subst (λ (x : Result (Option (List ℕ × List ℕ)) DbError). IsStill source.facts new.facts x) is still

  pub move_outcome : (r : Result (Option (List ℕ × List ℕ)) DbError) → IsMoved cmp motion (whole_of source db) (record { seen = new; memory = memory }) was now r
      → DbOutcome (MayRefuseMove motion) source.facts new.facts db (record db { memory = memory; iterators = open_ones }) r
  move_outcome r h = record {
    failures = h.reads.failures;
    denials = h.reads.denials;
    io = fails_on_io r h;
    memory = still_of r h.still;
    allowed = at r h.allowed;
    refused = keeps r h;
  }
    where
      at : (x : Result (Option (List ℕ × List ℕ)) DbError) → IfErr x (MayRefuseMotion motion) → MatchResult x (λ y. Unit {0}) (MayRefuseMove motion)
      at (Ok pair) k = tt
      at (Err e) k = may_refuse motion e k

      keeps : (x : Result (Option (List ℕ × List ℕ)) DbError) → IsMoved cmp motion (whole_of source db) (record { seen = new; memory = memory }) was now x
          → MatchResult x (λ y. Unit {0}) (λ e. Keeps source.facts new.facts db (record db { memory = memory; iterators = open_ones }))
      keeps (Ok pair) k = tt
      keeps (Err e) k = (leaves_same e k, inl refl)

is_met : (e : DbError) → IsReadError e → IsMet e
is_met error.OutOfMemory h = tt
is_met error.Io h = tt
is_met (error.Corrupt file what) h = tt
is_met (error.Unsupported what) h = tt
is_met _ h = absurd h

-- what refuses a move is what has to
pub move_caused : {K S : Type 0} {g : _} → (db : OpenDb K g) (id : ℕ) (motion : Motion) (was now : Scan K g) (before after : Whole) (old new : S) (unmoved : Type 0) (r : Result (Option (List ℕ × List ℕ)) DbError) → db.broken ≡ false → kept_at db.iterators id ≡ Some was
    → (lacks_place was.walk.stands motion ≡ None → IfErr r IsReadError) → Placeless (lacks_place was.walk.stands motion) r was now before after → MatchOption (lacks_place was.walk.stands motion) (Unit {0}) (λ _. unmoved) → (unmoved → new ≡ old)
    → IsCausedIn (move_cause (open_status no_ids db) id motion) old new r
move_caused {K} {S} {g} db id motion was now before after old new unmoved r whole there met lacking undone goes =
    let status = open_status no_ids db in
    let cause : move_cause status id motion ≡ lacks_place was.walk.stands motion =
    ap (λ (b : Bool). option_or (cond b (Some error.Broken) None) (option_or (no_iterator status id) (lacks_place (status.stands id) motion))) whole
    ∙ ap (λ (o : Option (Scan K g)). option_or (cond (is_some o) None (Some error.NoIterator)) (lacks_place (unwrap_or (option_map (λ (iterator : Scan K g). iterator.walk.stands) o) false) motion)) there in
    subst (λ (o : Option DbError). IsCausedIn o old new r) (sym cause) (at (lacks_place was.walk.stands motion) refl lacking undone)
  where
    at : (o : Option DbError) → lacks_place was.walk.stands motion ≡ o → Placeless o r was now before after → MatchOption o (Unit {0}) (λ _. unmoved) → IsCausedIn o old new r
    at None known p u = λ e is. is_met e (subst (λ (x : Result (Option (List ℕ × List ℕ)) DbError). IfErr x IsReadError) is (met known))
    at (Some cause) known p u = (p.0, goes u)
