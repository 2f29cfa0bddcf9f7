-- What a power loss leaves in the middle of an open, call by call, while it renews the directory:
-- what it left before the open.
use Rattle.std.proofs.Common.{◌≡◌, ◌≢◌, ◌<◌, ◌≤◌, ◌+◌, ◌++◌, ◌∷◌, ℕ, false, true, List, [], Option, Some, None, is_some, string_bytes, inl, inr, refl, sym, ap, subst, ◌∙◌, arith, append_assoc}
use Rattle.std.specs.FinMap.{contains_key, get, remove}
use Rattle.directory_writes.proofs.StoreCalls.{behind_added}
use Rattle.directory_writes.specs.internal.Calls.{LeavesFile}
use Rattle.edits.specs.Names.{IsFileName, IsNumbered, name_of}
use Rattle.edits.specs.declared.names.FileName.{FileName}
use Rattle.edits.specs.declared.names.FileName.TheVariants.{Current, Log, Manifest, OldTable, Table, Temporary}
use Rattle.ikey.specs.Orders.{Order}
use Rattle.machine.specs.Machine.{Machine}
use Rattle.opening.proofs.Losing.{same_at}
use Rattle.opening.proofs.LosingNames.{gone_other, loses_renamed}
use Rattle.opening.proofs.Reopening.{files_apart, next_of, numbered_of}
use Rattle.opening.proofs.Uncut.{IsSet, kept_by, renamed_set, set_synced}
use Rattle.opening.specs.declared.finding.Found.{Found}
use Rattle.opening.specs.declared.rewriting.Rewrite.{Rewrite}
use Rattle.opening.specs.internal.Opening.{Finds, IsRewrite, IsUsable}
use Rattle.opening.specs.internal.Renewing.{IsRenamed, IsWritten, Makes, OnlyIt, Renews, RenewsBy, RenewsFound, SetsThen, StartsNew, SyncsThen}
use Rattle.recover.proofs.OneMeaning.{same_current}
use Rattle.recover.specs.Numbers.{number_of}
use Rattle.store.proofs.LosingOn.{loses_both, loses_later, loses_noted, loses_read, lost_here}
use Rattle.store.specs.Calls.{Adds, Idles}
use Rattle.store.specs.Files.{Call, Change, Creation, Disk, Facts, Files, Move, Sync, disk_of}
use Rattle.store.specs.Losses.{BeginsWith, IsLost, IsLostSince, LosesOnly, Lost, SyncsBeginnings, behind_sync}
use Rattle.store.specs.Stops.{moment}
use Rattle.engine.proofs.HoldingOn.{holds_beside, holds_log, holds_renewed, live_renewed, spares_before}
use Rattle.engine.proofs.LosingFirst.{goes_on}
use Rattle.engine.proofs.LostEarlier.{lost_log, lost_set, lost_started, lost_written, sound_same, unset, unset_beside, unset_current, unset_other}
use Rattle.engine.proofs.ReopeningSteps.{left_stays, on_idle, stays_still, stays_through, whole_first}
use Rattle.engine.specs.Losses.{HoldsFirst, SparesBelow}
use Rattle.engine.specs.Reopening.{LeavesFirst, LosesOn, StaysFound, StaysOrGoes}

-- After a sync a loss has the names of now.
pub named_now : (facts : Facts) (lost : Files) → behind_sync [] facts.calls ≡ [] → Lost facts (moment facts) lost → IsLost facts.files [] (disk_of facts) lost
named_now facts lost ends h = subst (λ (calls : List Call). IsLostSince calls (disk_of facts) lost) ends (lost_here facts lost h)

-- What is synced whole it has left whole.
pub whole_now : (facts : Facts) (lost : Files) (q bytes : List ℕ) → IsLost facts.files [] (disk_of facts) lost → get facts.files q ≡ Some bytes → facts.synced q ≡ Some bytes → get lost q ≡ Some bytes
whole_now facts lost q bytes h there kept = same_at facts lost q h (kept_by facts q bytes there kept) ∙ there

-- ---- some calls, from one moment to another

-- They go on, and a loss at each moment of them leaves this; and what was there before is as it
-- was, or gone.
pub record Goes (since : Facts) (bound : ℕ) (P : Files → Type 0) (old new : Facts) : Type 0 where
  pub more : List Call
  pub calls : new.calls ≡ old.calls ++ more
  pub loses : LosesOnly old new P
  pub stays : StaysFound since new bound

module _ (since : Facts) (bound : ℕ) (P : Files → Type 0) where
  -- until the next call
  pub goes_here : (old new : Facts) → Goes since bound P old new → LosesOnly new new P
  goes_here old new g = loses_later old new g.more P g.calls g.loses

  pub goes_both : (old mid new : Facts) → Goes since bound P old mid → Goes since bound P mid new → Goes since bound P old new
  goes_both old mid new g h = record {
    more = g.more ++ h.more;
    calls = h.calls ∙ ap (λ (calls : List Call). calls ++ h.more) g.calls ∙ append_assoc old.calls g.more h.more;
    loses = loses_both old mid new h.more P h.calls g.loses h.loses;
    stays = h.stays;
  }

  -- one call more
  pub goes_added : (old mid new : Facts) (change : Change) → Goes since bound P old mid → Adds mid new change → LosesOnly new new P → StaysFound since new bound → Goes since bound P old new
  goes_added old mid new change g adds behind stays =
      let call : Call = record { found = disk_of mid; change = change } in
      record {
        more = g.more ++ call ∷ [];
        calls = adds.0 ∙ ap (λ (calls : List Call). calls ++ call ∷ []) g.calls ∙ append_assoc old.calls g.more (call ∷ []);
        loses = loses_both old mid new (call ∷ []) P adds.0 g.loses (loses_noted mid new change P (inr adds) (goes_here old mid g) behind);
        stays = stays;
      }

  -- no more of them
  pub goes_idle : (old mid new : Facts) → Goes since bound P old mid → Idles mid new → Goes since bound P old new
  goes_idle old mid new g idle =
      let files : new.files ≡ mid.files = ap (λ (disk : Disk). disk.files) idle.1 in
      let synced : new.synced ≡ mid.synced = ap (λ (disk : Disk). disk.synced) idle.1 in
      record {
        more = g.more;
        calls = idle.0 ∙ g.calls;
        loses = loses_read old mid new g.more P g.calls idle.0 files synced g.loses;
        stays = stays_still since mid new bound files synced g.stays;
      }

-- ---- an open

module _ (order : Order) (since : Facts) (bound : ℕ) (m : Machine) (old : Facts) (sound : SyncsBeginnings old) (stays : StaysFound since old bound) (here : LosesOnly old old (LeavesFirst order since bound m))
    (found : Found) (rewrite : Rewrite) (usable : IsUsable order found) (finds : Finds order old.files found) (planned : IsRewrite order found rewrite) where
  abbrev P : Files → Type 0
  P = LeavesFirst order since bound m

  abbrev k : ℕ
  k = found.number

  abbrev manifest : List ℕ
  manifest = name_of (Manifest k)

  abbrev temporary : List ℕ
  temporary = name_of (Temporary k)

  abbrev log : List ℕ
  log = name_of (Log (k + 1))

  abbrev content : List ℕ
  content = rewrite.manifest.items

  abbrev current : List ℕ
  current = rewrite.current.items

  numbered : IsNumbered k
  numbered = numbered_of found usable

  next : IsNumbered (k + 1)
  next = next_of found usable

  -- the files of now
  whole : HoldsFirst order old.files m
  whole = whole_first order since old bound m sound stays here

  -- what is there has a lower number
  lacks : (file : FileName) → IsFileName file → (number_of file < k → ⊥) → contains_key old.files (name_of file) ≡ false
  lacks file is above = at (get old.files (name_of file)) refl
    where
      at : (o : Option (List ℕ)) → get old.files (name_of file) ≡ o → contains_key old.files (name_of file) ≡ false
      at None none = ap is_some none
      at (Some bytes) there = absurd (above (finds.number.0.listed file is (ap is_some there)))

  none_of_manifest : contains_key old.files manifest ≡ false
  none_of_manifest = lacks (Manifest k) numbered (λ less. omega (arith, less))

  none_of_temporary : contains_key old.files temporary ≡ false
  none_of_temporary = lacks (Temporary k) numbered (λ less. omega (arith, less))

  none_of_log : contains_key old.files log ≡ false
  none_of_log = lacks (Log (k + 1)) next (λ less. omega (arith, less))

  never : {T : Type 0} (o : Option (List ℕ)) (bytes : List ℕ) → o ≡ None → o ≡ Some bytes → T
  never o bytes none some = absurd (let bad : None ≡ Some bytes = sym none ∙ some in cc)

  -- `CURRENT` names none from there on
  named_below : (n : ℕ) → IsNumbered n → get old.files (name_of Current) ≡ Some (name_of (Manifest n) ++ 10 ∷ []) → n < k
  named_below n num is = elim whole.holds.directory [
    | inl none ↦ never (get old.files (name_of Current)) _ none.0.current is
    | inr some ↦
        let one = some.1.manifest in
        let same : n ≡ some.0.manifest = same_current old.files n some.0.manifest num one.numbered is one.current in
        let fewer : some.0.manifest < k = finds.number.0.listed (Manifest some.0.manifest) one.numbered (ap is_some one.there) in
        omega (arith, same, fewer)
  ]

  least : bound ≤ k
  least = elim stays.from [
    | inl none ↦ omega (arith, none)
    | inr named ↦
        let fewer : named.0 < k = named_below named.0 named.1.0 named.1.1 in
        let most : bound ≤ named.0 = named.2 in
        omega (arith, fewer, most)
  ]

  log_is : {a b : ℕ} → Log a ≡ Log b → a ≡ b
  log_is e = cc

  -- ---- files that no directory reads are there beside

  -- it is no table and no log
  abbrev IsNoData : FileName → Type 0
  IsNoData file = (n : ℕ) → (Table n ≢ file) × (OldTable n ≢ file) × (Log n ≢ file)

  no_manifest : (n : ℕ) → IsNoData (Manifest n)
  no_manifest n i = (λ e. cc, λ e. cc, λ e. cc)

  no_temporary : (n : ℕ) → IsNoData (Temporary n)
  no_temporary n i = (λ e. cc, λ e. cc, λ e. cc)

  no_current_data : IsNoData Current
  no_current_data i = (λ e. cc, λ e. cc, λ e. cc)

  -- a loss without such a file spares as much
  spares_without : (file : FileName) → IsFileName file → IsNoData file → (lost : Files) → SparesBelow since bound lost → SparesBelow since bound (remove lost (name_of file))
  spares_without file is none lost spares = spares_before since old bound (remove lost (name_of file)) lost stays.each (λ n num below.
      let apart = none n in (
        inl (gone_other lost (name_of file) (name_of (Table n)) (files_apart (Table n) file num is apart.0)),
        inl (gone_other lost (name_of file) (name_of (OldTable n)) (files_apart (OldTable n) file num is apart.1)),
        inl (gone_other lost (name_of file) (name_of (Log n)) (files_apart (Log n) file num is apart.2)),
      )) spares

  -- calls that write such a file alone leave what was there
  stays_beside : (a b : Facts) (file : FileName) → IsFileName file → IsNoData file → Current ≢ file → OnlyIt a b (name_of file) → StaysFound since a bound → StaysFound since b bound
  stays_beside a b file is none apart only h =
      let left : (other : FileName) → IsFileName other → other ≢ file → StaysOrGoes a b (name_of other) = λ other num beside.
      let q = files_apart other file num is beside in left_stays a b (name_of other) (only.leaves.now (name_of other) q, only.synced (name_of other) q) in
      stays_through since a b bound (only.leaves.now (name_of Current) (files_apart Current file tt is apart)) (λ n num below.
      let other = none n in (left (Table n) num other.0, left (OldTable n) num other.1, left (Log n) num other.2)) h

  -- ---- the new MANIFEST

  pub started_first : (mid : Facts) → OnlyIt old mid manifest → StartsNew old mid manifest → LosesOnly old mid P
  started_first mid only starts lost h = elim (lost_started old mid manifest none_of_manifest only.synced starts lost h) [
    | inl left ↦ here lost left
    | inr left ↦ (λ spares. holds_beside order m (Manifest k) numbered tt lost (here (remove lost manifest) left (spares_without (Manifest k) numbered (no_manifest k) lost spares)))
  ]

  goes_started : (mid : Facts) → OnlyIt old mid manifest → StartsNew old mid manifest → Goes since bound P old mid
  goes_started mid only starts = record {
    more = only.leaves.more;
    calls = only.leaves.calls;
    loses = started_first mid only starts;
    stays = stays_beside old mid (Manifest k) numbered (no_manifest k) (λ e. cc) only stays;
  }

  -- ---- the temporary file

  module _ (mid : Facts) (wrote : IsWritten old mid manifest content) (started : Goes since bound P old mid) where
    none_written : contains_key mid.files temporary ≡ false
    none_written = ap is_some (wrote.only.leaves.now temporary (files_apart (Temporary k) (Manifest k) numbered numbered (λ e. cc))) ∙ none_of_temporary

    here_written : LosesOnly mid mid P
    here_written = goes_here since bound P old mid started

    written_first : (front : Facts) → OnlyIt mid front temporary → LosesOnly mid front P
    written_first front only lost h spares =
        holds_beside order m (Temporary k) numbered tt lost
        (here_written (remove lost temporary) (lost_written mid front temporary wrote.ends none_written only lost h) (spares_without (Temporary k) numbered (no_temporary k) lost spares))

    goes_written : (front : Facts) → OnlyIt mid front temporary → Goes since bound P mid front
    goes_written front only = record {
      more = only.leaves.more;
      calls = only.leaves.calls;
      loses = written_first front only;
      stays = stays_beside mid front (Temporary k) numbered (no_temporary k) (λ e. cc) only started.stays;
    }

    -- ---- `CURRENT` is replaced

    -- what is so of a file that neither is written
    left_written : (file : FileName) → IsFileName file → file ≢ Manifest k → LeavesFile old mid (name_of file)
    left_written file is apart =
        let q = files_apart file (Manifest k) is numbered apart in
        (wrote.only.leaves.now (name_of file) q, wrote.only.synced (name_of file) q)

    -- The file of the MANIFEST that `CURRENT` names before that, or `CURRENT`, where there is none.
    record IsRead : Type 0 where
      file : FileName
      numbered_file : IsFileName file
      other : file ≢ Temporary k
      older : file ≢ Manifest k
      no_data : IsNoData file
      named : (n : ℕ) → IsNumbered n → get old.files (name_of Current) ≡ Some (name_of (Manifest n) ++ 10 ∷ []) → name_of (Manifest n) ≡ name_of file

    manifest_is : {a b : ℕ} → Manifest a ≡ Manifest b → a ≡ b
    manifest_is e = cc

    read : IsRead
    read = elim whole.holds.directory [
      | inl none ↦ record {
        file = Current;
        numbered_file = tt;
        other = λ e. cc;
        older = λ e. cc;
        no_data = no_current_data;
        named = λ n num is. never (get old.files (name_of Current)) _ none.0.current is;
      }
      | inr some ↦
          let one = some.1.manifest in
          let fewer : some.0.manifest < k = finds.number.0.listed (Manifest some.0.manifest) one.numbered (ap is_some one.there) in
          record {
            file = Manifest some.0.manifest;
            numbered_file = one.numbered;
            other = λ e. cc;
            older = λ e. (let same = manifest_is e in omega (arith, same, fewer));
            no_data = no_manifest some.0.manifest;
            named = λ n num is. ap (λ (i : ℕ). name_of (Manifest i)) (same_current old.files n some.0.manifest num one.numbered is one.current);
          }
    ]

    module _ (then : Facts) (set : IsSet mid then temporary current) where
      left_set : (file : FileName) → IsFileName file → file ≢ Temporary k → file ≢ Current → LeavesFile mid then (name_of file)
      left_set file is a b = set.others (name_of file) (files_apart file (Temporary k) is numbered a) (files_apart file Current is tt b)

      left_both : (file : FileName) → IsFileName file → file ≢ Manifest k → file ≢ Temporary k → file ≢ Current → LeavesFile old then (name_of file)
      left_both file is a b c =
          let first = left_written file is a in
          let second = left_set file is b c in
          (second.0 ∙ first.0, second.1 ∙ first.1)

      manifest_set : LeavesFile mid then manifest
      manifest_set = left_set (Manifest k) numbered (λ e. cc) (λ e. cc)

      -- what a loss has of it, with the names of now
      lost_current : (lost : Files) → IsLost then.files [] (disk_of then) lost → get lost (name_of Current) ≡ Some current
      lost_current lost h = whole_now then lost (name_of Current) current h set.current.0 set.current.1

      lost_manifest : (lost : Files) → IsLost then.files [] (disk_of then) lost → get lost manifest ≡ Some content
      lost_manifest lost h = whole_now then lost manifest content h (manifest_set.0 ∙ wrote.there) (manifest_set.1 ∙ wrote.kept)

      -- one of these is what a loss left before it
      module _ (lost : Files) (h : IsLost then.files [] (disk_of then) lost) where
        abbrev other_name : List ℕ
        other_name = name_of read.file

        abbrev before : Files
        before = unset mid lost temporary other_name

        before_left : Lost mid (moment mid) before
        before_left =
            lost_set mid then temporary current other_name set none_written
            (sound_same old mid (name_of Current) (left_written Current tt (λ e. cc)).0 (left_written Current tt (λ e. cc)).1 (sound (name_of Current))) lost h

        -- tables and logs are as the loss has them
        beside_data : (file : FileName) → IsFileName file → file ≢ Temporary k → file ≢ Current → file ≢ read.file → get before (name_of file) ≡ get lost (name_of file)
        beside_data file is a b c = unset_beside mid lost temporary other_name (name_of file) (files_apart file (Temporary k) is numbered a) (files_apart file Current is tt b) (files_apart file read.file is read.numbered_file c)

        data_same : (n : ℕ) → IsNumbered n → (get before (name_of (Table n)) ≡ get lost (name_of (Table n))) × (get before (name_of (OldTable n)) ≡ get lost (name_of (OldTable n))) × (get before (name_of (Log n)) ≡ get lost (name_of (Log n)))
        data_same n num =
            let none = read.no_data n in (
              beside_data (Table n) num (λ e. cc) (λ e. cc) none.0,
              beside_data (OldTable n) num (λ e. cc) (λ e. cc) none.1,
              beside_data (Log n) num (λ e. cc) (λ e. cc) none.2,
            )

        current_same : get before (name_of Current) ≡ get old.files (name_of Current)
        current_same = unset_current mid lost temporary other_name ∙ (left_written Current tt (λ e. cc)).0

        manifest_same : (n : ℕ) → IsNumbered n → get old.files (name_of Current) ≡ Some (name_of (Manifest n) ++ 10 ∷ []) → get before (name_of (Manifest n)) ≡ get old.files (name_of (Manifest n))
        manifest_same n num is =
            let same = read.named n num is in
            ap (λ (q : List ℕ). get before q) same ∙ unset_other mid lost temporary other_name ∙ (left_written read.file read.numbered_file read.older).0 ∙ ap (λ (q : List ℕ). get old.files q) (sym same)

        logs_begin : (n : ℕ) (bytes : List ℕ) → IsNumbered n → get before (name_of (Log n)) ≡ Some bytes → (held : List ℕ) × (get old.files (name_of (Log n)) ≡ Some held) × BeginsWith held bytes
        logs_begin n bytes num there =
            let b = h.beginning (name_of (Log n)) bytes (sym (data_same n num).2 ∙ there) in
            (b.0, sym (left_both (Log n) num (λ e. cc) (λ e. cc) (λ e. cc)).0 ∙ b.1, b.2)

        pub set_first : P lost
        set_first spares =
            let spared = spares_before since old bound before lost stays.each (λ n num below. let same = data_same n num in (inl same.0, inl same.1, inl same.2)) spares in
            holds_renewed order old.files found rewrite usable finds planned before lost current_same manifest_same (lost_current lost h) (lost_manifest lost h)
            (λ n num. let same = data_same n num in (sym same.0, sym same.1, sym same.2)) logs_begin m whole (here_written before before_left spared)

      -- and of what was there before all stays
      pub stays_set : StaysFound since then bound
      stays_set = record {
        from = inr (k, (numbered, set.current.0 ∙ ap Some planned.current), least);
        each = λ n num below.
            let left : (file : FileName) → IsFileName file → file ≢ Temporary k → file ≢ Current → StaysOrGoes mid then (name_of file) = λ file is a b. left_stays mid then (name_of file) (left_set file is a b) in
            let was = started.stays.each n num below in (
              goes_through (name_of (Table n)) was.0 (left (Table n) num (λ e. cc) (λ e. cc)),
              goes_through (name_of (OldTable n)) was.1 (left (OldTable n) num (λ e. cc) (λ e. cc)),
              goes_through (name_of (Log n)) was.2 (left (Log n) num (λ e. cc) (λ e. cc)),
            );
      }
        where
          goes_through : (q : List ℕ) → StaysOrGoes since mid q → StaysOrGoes mid then q → StaysOrGoes since then q
          goes_through q was left = goes_on since mid then q was left

      -- ---- the new log is made, after the sync of `CURRENT`

      module _ (ends : behind_sync [] then.calls ≡ []) (behind : LosesOnly then then P) where
        no_log : contains_key then.files log ≡ false
        no_log = ap is_some (left_both (Log (k + 1)) next (λ e. cc) (λ e. cc) (λ e. cc)).0 ∙ none_of_log

        below_log : (n : ℕ) → n < bound → Log n ≢ Log (k + 1)
        below_log n below e = (let same = log_is e in let most = least in omega (arith, same, most, below))

        other_log : (lost : Files) (file : FileName) → IsFileName file → file ≢ Log (k + 1) → get (remove lost log) (name_of file) ≡ get lost (name_of file)
        other_log lost file is apart = gone_other lost log (name_of file) (files_apart file (Log (k + 1)) is next apart)

        spares_log : (lost : Files) → SparesBelow since bound lost → SparesBelow since bound (remove lost log)
        spares_log lost spares = spares_before since then bound (remove lost log) lost stays_set.each (λ n num below. (
          inl (other_log lost (Table n) num (λ e. cc)),
          inl (other_log lost (OldTable n) num (λ e. cc)),
          inl (other_log lost (Log n) num (below_log n below)),
        )) spares

        -- where the loss has it
        log_first : (lost : Files) → Lost then (moment then) (remove lost log) → get lost log ≡ Some [] → P lost
        log_first lost left empty spares =
            let named = named_now then (remove lost log) ends left in
            let is = lost_current (remove lost log) named in
            holds_log order m (k + 1) next lost empty
            (λ n num there.
            let was : contains_key old.files (name_of (Log n)) ≡ true = sym (ap is_some (left_both (Log n) num (λ e. cc) (λ e. cc) (λ e. cc)).0) ∙ sym (named.names (name_of (Log n))) ∙ there in
            let fewer : n < k = finds.number.0.listed (Log n) num was in
            omega (arith, fewer))
            (λ d good. live_renewed order old.files found rewrite usable finds planned (remove lost log) d good is (lost_manifest (remove lost log) named))
            (ap is_some (sym (other_log lost Current tt (λ e. cc)) ∙ is))
            (behind (remove lost log) left (spares_log lost spares))

        made_first : (new : Facts) → OnlyIt then new log → Adds then new (Creation log) → LosesOnly then new P
        made_first new only adds lost h = elim (lost_log then new log ends no_log adds only.synced lost h) [ inl left ↦ behind lost left | inr both ↦ log_first lost both.0 both.1 ]

        stays_made : (new : Facts) → OnlyIt then new log → StaysFound since new bound
        stays_made new only =
            let left : (file : FileName) → IsFileName file → file ≢ Log (k + 1) → StaysOrGoes then new (name_of file) = λ file is apart.
            let q = files_apart file (Log (k + 1)) is next apart in left_stays then new (name_of file) (only.leaves.now (name_of file) q, only.synced (name_of file) q) in
            stays_through since then new bound (only.leaves.now (name_of Current) (files_apart Current (Log (k + 1)) tt next (λ e. cc)))
            (λ n num below. (left (Table n) num (λ e. cc), left (OldTable n) num (λ e. cc), left (Log n) num (below_log n below))) stays_set

        goes_made : (new : Facts) → OnlyIt then new log → Adds then new (Creation log) → Goes since bound P then new
        goes_made new only adds = record { more = only.leaves.more; calls = only.leaves.calls; loses = made_first new only adds; stays = stays_made new only }

    -- ---- from the rename on

    -- the log is made, or not
    goes_log : (last new : Facts) → IsSet mid last temporary current → behind_sync [] last.calls ≡ [] → Goes since bound P mid last → Makes last new log → Goes since bound P mid new
    goes_log last new set ends g makes = elim makes.1 [
      | inl idle ↦ goes_idle since bound P mid last new g idle
      | inr adds ↦ goes_both since bound P mid last new g (goes_made last set ends (goes_here since bound P mid last g) new makes.0 adds)
    ]

    goes_renamed : (front third new : Facts) → IsWritten mid front temporary current → IsRenamed front third temporary → SyncsThen third new (λ (last : Facts). Makes last new log) → Goes since bound P mid new
    goes_renamed front third new temp ren syncs =
        let set = renamed_set mid front third temporary current temp ren.0.1 ren.1 in
        let g = goes_written front temp.only in
        let now : LosesOnly third third P = loses_renamed front third temporary (name_of Current) ren.0 ren.1 P temp.ends (goes_here since bound P mid front g) (λ lost h. set_first third set lost h) in
        let moved = goes_added since bound P mid front third (Move temporary (name_of Current)) g ren.0 now (stays_set third set) in
        elim syncs [
          | inl idle ↦ goes_idle since bound P mid third new moved idle
          | inr synced ↦
              let last = synced.0 in
              let sync = synced.1 in
              let kept = set_synced mid third last temporary current set sync.0.1 sync.1 in
              let ends = behind_added third last (name_of Current) sync.0 in
              let behind : LosesOnly last last P = λ lost h. set_first last kept lost (named_now last lost ends h) in
              goes_log last new kept ends (goes_added since bound P mid third last (Sync (name_of Current)) moved sync.0 behind (stays_set last kept)) synced.2
        ]

  -- ---- all the calls

  pub renews_goes : (new : Facts) → Renews old new manifest content temporary current log → Goes since bound P old new
  renews_goes new r =
      let started = goes_started r.mid r.only (r.starts none_of_manifest) in
      elim r.goes [
        | inl idle ↦ goes_idle since bound P old r.mid new started idle
        | inr wrote ↦ goes_both since bound P old r.mid new started (sets_goes r.mid new wrote.0 started wrote.1)
      ]
    where
      sets_goes : (mid new : Facts) → (wrote : IsWritten old mid manifest content) → Goes since bound P old mid → SetsThen mid new temporary current (λ (last : Facts). Makes last new log) → Goes since bound P mid new
      sets_goes mid new wrote started sets = elim sets.goes [
        | inl idle ↦ goes_idle since bound P mid sets.mid new (goes_written mid wrote started sets.mid sets.only) idle
        | inr temp ↦ elim temp.1 [
          | inl idle ↦ goes_idle since bound P mid sets.mid new (goes_written mid wrote started sets.mid sets.only) idle
          | inr ren ↦ goes_renamed mid wrote started sets.mid ren.0 new temp.0 ren.1 ren.2
        ]
      ]

-- ---- any open

renews_found : (order : Order) (old new : Facts) → SyncsBeginnings old → RenewsFound order old new → LosesOn order old new
renews_found order old new sound r since bound m stays here =
    let p = r.planned in
    let content = r.rewrite.manifest.items in
    let current = r.rewrite.current.items in
    let k = r.found.number in
    let A : List ℕ → Type 0 = λ name. Renews old new name content (string_bytes r.rewrite.temporary_name) current (string_bytes r.rewrite.log_name) in
    let B : List ℕ → Type 0 = λ name. Renews old new (name_of (Manifest k)) content name current (string_bytes r.rewrite.log_name) in
    let C : List ℕ → Type 0 = λ name. Renews old new (name_of (Manifest k)) content (name_of (Temporary k)) current name in
    let g = renews_goes order since bound m old sound stays here r.found r.rewrite r.usable r.finds p new (subst C p.log_name (subst B p.temporary_name (subst A p.manifest_name r.renews))) in
    (g.loses, g.stays)

pub renews_on : (order : Order) (old new : Facts) → SyncsBeginnings old → RenewsBy order old new → LosesOn order old new
renews_on order old new sound (inl idle) = on_idle order old new idle
renews_on order old new sound (inr r) = renews_found order old new sound r
