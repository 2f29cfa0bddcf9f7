-- Counting from the files of a store to its files.
use Rattle.std.proofs.Common.{◌≡◌, ◌⊎◌, ℕ, ◌+◌, true, false, List, [], ◌∷◌, ◌++◌, take, Option, Some, None, MatchOption, MatchResult, IsTrue, Result, Ok, Err, inl, inr, refl, sym, ap, subst, ◌∙◌, append-nil}
use Rattle.batch.specs.declared.operation.Operation.{Operation}
use Rattle.coding.specs.declared.error.DbError.{DbError}
use Rattle.coding.specs.declared.error.DbError.TheVariants as error
use Rattle.ikey.specs.Orders.{Order}
use Rattle.ikey.specs.Views.{Contents}
use Rattle.machine.specs.Access.{accepted}
use Rattle.machine.specs.Causes.{iterate_cause, open_cause, status_of}
use Rattle.machine.specs.Lifetime.{Closes, Interrupted, OpenAnswered, OpenRefused, Opens, Settles}
use Rattle.machine.specs.Machine.{Machine, after_batch, current}
use Rattle.machine.specs.Serving.{◌≈◌, ReadRefused}
use Rattle.machine.specs.declared.command.Answer.TheVariants.{Done, Refused as Denied}
use Rattle.machine.specs.declared.command.Mode.TheVariants.{Any}
use Rattle.store.specs.Files.{Facts, Files}
use Rattle.engine.specs.Follows.{Leads}
use Rattle.engine.specs.FromFiles.{EndsLaw, FirstOfMapLaw, StartsLaw}
use Rattle.engine.specs.Headline.{Holds, HoldsAccepted, IsLast}
use Rattle.engine.specs.Ranges.{RefusesScan, Scans, walked}
use Rattle.engine.specs.Stands.{no_ids}
use Rattle.engine.specs.declared.ids.Ids.{Ids}
use Rattle.engine.specs.declared.ranges.KeyRange.{KeyRange}
use Rattle.engine.specs.internal.Standing.{StandsClosed}
use Rattle.counter.specs.Counts.{CountsAndCloses, CountsEach, CountsOver, HoldsTally, IsTally, StandsShut}
use Rattle.counter.proofs.Counting.{either, pushed, served}

-- ---- what stays

-- The map is as it was, and what is in doubt, and whether there was damage.
pub record Stays (old new : Machine) : Type 0 where
  pub map : current new ≡ current old
  pub doubt : new.in_doubt ≡ old.in_doubt
  pub damaged : new.damaged ≡ old.damaged

stays_itself : (m : Machine) → Stays m m
stays_itself m = record { map = refl; doubt = refl; damaged = refl }

stays_as : (old target new : Machine) → Stays old target → (new ≈ target) → Stays old new
stays_as old target new s e = record {
  map = ap current e ∙ s.map;
  doubt = ap (λ (m : Machine). m.in_doubt) e ∙ s.doubt;
  damaged = ap (λ (m : Machine). m.damaged) e ∙ s.damaged;
}

stays_still : (old new : Machine) → (new ≈ old) → Stays old new
stays_still old new e = stays_as old old new (stays_itself old) e

-- ---- opening

settled_as : (o : Option (List Operation)) (A : Type 0) (B : List Operation → Type 0) → o ≡ None → MatchOption o A B → A
settled_as None A B none a = a
settled_as (Some operations) A B none b = absurd (let never : ⊥ = (cc) in never)

opened_as : (m n : Machine) → m.in_doubt ≡ None → Opens m Any Done n → Stays m n
opened_as m n certain h =
    let opened = served (open_cause (status_of m)) (OpenAnswered m Any Done n) _ (λ e q. (let same : Done ≡ Denied e = q.0 in (let never : ⊥ = (cc) in never))) h.1 in
    let settled = opened.1.0 in
    let same : settled ≡ m = settled_as m.in_doubt _ _ certain opened.1.1 in
    stays_as m (record settled { made = true; opened = true; numbers = n.numbers }) n
    (record { map = ap current same; doubt = ap (λ (x : Machine). x.in_doubt) same; damaged = ap (λ (x : Machine). x.damaged) same }) opened.1.3

read_stays : (m n : Machine) (e : DbError) → ReadRefused m e n → Stays m n
read_stays m n error.OutOfMemory h = stays_still m n h
read_stays m n error.Io h = stays_still m n h.1
read_stays m n (error.Corrupt file what) h = stays_still m n h.1
read_stays m n (error.Unsupported limit) h = stays_still m n h.1
read_stays m n _ h = absurd h

interrupted : (m n : Machine) → Interrupted m n → Stays m n
interrupted m n h = stays_as m (record m { made = n.made; numbers = n.numbers }) n (record { map = refl; doubt = refl; damaged = refl }) h.2

unopened : (m n : Machine) (e : DbError) → OpenRefused m Any e n → Stays m n
unopened m n error.OutOfMemory h = interrupted m n h
unopened m n error.Io h = interrupted m n h.1
unopened m n error.NoDatabase h = stays_still m n h.2
unopened m n error.Exists h = stays_still m n h.2
unopened m n error.Locked h = stays_still m n h.1
unopened m n error.NumbersSpent h = stays_still m n h.1
unopened m n (error.Corrupt file what) h = stays_still m n h.1
unopened m n (error.Unsupported limit) h = stays_still m n h.1
unopened m n _ h = absurd h

refused_open : (m n : Machine) (e : DbError) → Opens m Any (Denied e) n → Stays m n
refused_open m n e h = either (open_cause (status_of m)) (OpenRefused m Any e n) (Stays m n) _ (unopened m n e) (λ c q. stays_still m n q.1) h.1

-- ---- what is counted stays so

pub counts_on : (names : List (List ℕ)) (count : ℕ) (m at n : Machine) → CountsEach names count m at → Stays at n → CountsEach names count m n
counts_on names count m at n c s = record {
  counted = λ had is. subst (λ (map : Contents). IsTally (had ++ take count names) map) (sym s.map) (c.counted had is);
  doubt = λ had is. elim (c.doubt had is) [
    | inl same ↦ inl (s.doubt ∙ same)
    | inr next ↦
        let Q : Option (List Operation) → Contents → Type 0 = λ o map. MatchOption o ⊥ (λ operations. IsTally (had ++ take (count + 1) names) (after_batch map operations)) in
        inr (subst (λ (o : Option (List Operation)). Q o (current n)) (sym s.doubt) (subst (λ (map : Contents). Q at.in_doubt map) (sym s.map) next))
  ];
  damaged = s.damaged ∙ c.damaged;
}

-- ---- a scan

walked_stays : (m : Machine) → Stays m (walked m)
walked_stays m = record { map = refl; doubt = refl; damaged = refl }

stays_then : (m at n : Machine) → Stays m at → Stays at n → Stays m n
stays_then m at n a b = record { map = b.map ∙ a.map; doubt = b.doubt ∙ a.doubt; damaged = b.damaged ∙ a.damaged }

refused_scan : (order : Order) (m n : Machine) (e : DbError) → RefusesScan order m None e n → Stays m n
refused_scan order m n e (inl h) = either (iterate_cause (status_of m) None) (ReadRefused m e n) (Stays m n) _ (read_stays m n e) (λ c q. stays_still m n q.1) h.1
refused_scan order m n e (inr h) = stays_then m h.0 n (stays_as m (walked m) h.0 (walked_stays m) h.1) (read_stays h.0 n e h.2)

pub scan_stays : {T : Type 0} (order : Order) (keys : KeyRange) (limit : ℕ) (items : T → List (List ℕ × List ℕ)) (m n : Machine) (result : Result T DbError)
    → MatchResult result (λ found. Scans order m keys None limit (items found) n) (λ e. RefusesScan order m None e n) → Stays m n
scan_stays order keys limit items m n (Ok found) h = stays_as m (walked m) n (walked_stays m) h.3
scan_stays order keys limit items m n (Err e) h = refused_scan order m n e h

-- ---- closing

pub leads_shut : {a : Facts} {P : Machine → Type 0} {M : Machine → Machine → Type 0} (order : Order) (b : Facts) (given : Ids) → Leads a b P (StandsClosed order b given) M → Leads a b P (StandsShut order b) M
leads_shut order b given h = record { faithful = h.faithful; moved = λ f m before. let after = h.moved f m before in (after.0, after.1, (given, after.2)) }

-- ---- at the end

holding : (order : Order) (files : Files) (names : List (List ℕ)) (m : Machine) → Holds order files m → IsTally names (current m) → HoldsTally order files names
holding order files names m h tally = record { map = current m; shows = record { entries = h.entries; used = m.used; directory = h.directory; view = h.view }; tally = tally }

map_with : (m : Machine) (operations : List Operation) → current (accepted m operations false) ≡ after_batch (current m) operations
map_with m [] = refl
map_with m (operation ∷ operations) = pushed m.base m.batches (operation ∷ operations)

module _ (order : Order) (files : Files) (now more : List (List ℕ)) (m : Machine) (tally : IsTally now (current m)) where
  held_at : (o : Option (List Operation)) → MatchOption o (Holds order files m) (λ batch. Holds order files m ⊎ Holds order files (accepted m batch false))
      → (o ≡ None) ⊎ MatchOption o ⊥ (λ operations. IsTally more (after_batch (current m) operations)) → HoldsTally order files now ⊎ HoldsTally order files more
  held_at None h doubt = inl (holding order files now m h tally)
  held_at (Some operations) (inl h) doubt = inl (holding order files now m h tally)
  held_at (Some operations) (inr h) (inl none) = absurd (let never : ⊥ = (cc) in never)
  held_at (Some operations) (inr h) (inr next) = inr (holding order files more (accepted m operations false) h (subst (λ (map : Contents). IsTally more map) (sym (map_with m operations)) next))

-- ---- from files to files

module _ (order : Order) (old new : Facts) (names : List (List ℕ)) (ids : Ids) (fresh : no_ids ≡ ids) (one_of : FirstOfMapLaw) (starts : StartsLaw) (ends : EndsLaw) where
  pub over_done : (mid : Facts) (Stands : Machine → Type 0) (count : ℕ) → Leads old mid (StandsClosed order old ids) Stands (λ m n. Opens m Any Done n)
      → Leads mid new Stands (StandsShut order new) (CountsAndCloses names count) → CountsOver order old new names count
  over_done mid Stands count opened run faithful had h =
      let first = one_of order old h.map h.shows in
      let before = subst (λ (i : Ids). StandsClosed order old i first.0) fresh (starts order old first.0 first.2 first.1) in
      let certain = first.1.accepted.1 in
      let open_at = opened.moved (run.faithful faithful) first.0 before in
      let start = opened_as first.0 open_at.0 certain open_at.1 in
      let tally : IsTally had (current open_at.0) = subst (λ (map : Contents). IsTally had map) (sym (start.map ∙ first.3)) h.tally in
      let shut = run.moved faithful open_at.0 open_at.2 in
      let ended = shut.1.0 in
      let counts = shut.1.1 in
      let last = ends order new shut.2.0 ended shut.0 (counts.damaged ∙ start.damaged ∙ first.2) (inr shut.1.2) shut.2.1 in
      held_at order new.files (had ++ take count names) (had ++ take (count + 1) names) ended (counts.counted had tally) ended.in_doubt last.holds
      (elim (counts.doubt had tally) [ inl same ↦ inl (same ∙ start.doubt ∙ certain) | inr next ↦ inr next ])

  pub over_refused : (e : DbError) → Leads old new (StandsClosed order old ids) (StandsClosed order new ids) (λ m n. Opens m Any (Denied e) n) → CountsOver order old new names 0
  over_refused e refused faithful had h =
      let first = one_of order old h.map h.shows in
      let before = subst (λ (i : Ids). StandsClosed order old i first.0) fresh (starts order old first.0 first.2 first.1) in
      let certain = first.1.accepted.1 in
      let after = refused.moved faithful first.0 before in
      let stays = refused_open first.0 after.0 e after.1 in
      let tally : IsTally (had ++ []) (current after.0) = subst (λ (map : Contents). IsTally (had ++ []) map) (sym (stays.map ∙ first.3)) (subst (λ (xs : List (List ℕ)). IsTally xs h.map) (sym (append-nil had)) h.tally) in
      let last = ends order new ids after.0 after.0 (stays.damaged ∙ first.2) (inl (after.2.opened, refl)) after.2 in
      held_at order new.files (had ++ []) (had ++ take 1 names) after.0 tally after.0.in_doubt last.holds (inl (stays.doubt ∙ certain))
