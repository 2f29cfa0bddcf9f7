-- A power loss between two calls of an open database.
use Rattle.std.proofs.Common.{◌≡◌, ◌⊎◌, inl, inr, ℕ, Bool, true, false, List, [], ◌∷◌, Option, Some, None, is_some, refl, sym, ap, subst, ◌∙◌}
use Rattle.std.specs.FinMap.{get, contains_key}
use Rattle.std.specs.Option.{option_or}
use Rattle.edits.specs.Names.{name_of, IsFileName, IsNumbered}
use Rattle.edits.specs.declared.layout.Layout.{Layout}
use Rattle.edits.specs.declared.names.FileName.{FileName}
use Rattle.edits.specs.declared.names.FileName.TheVariants.{Current, Lock, Log, Manifest, OldTable, Table, Temporary}
use Rattle.edits.proofs.FileNames.{one_file}
use Rattle.ikey.specs.Orders.{Order}
use Rattle.recover.specs.Directory.{Directory, IsConsistent}
use Rattle.recover.specs.Logs.{AreLive, HasLogs, InLogs, IsLive, LogContent}
use Rattle.recover.specs.Tables.{HasTables, InTables, TableContent, table_at}
use Rattle.store.specs.Files.{Call, Disk, Facts, Files, disk_of}
use Rattle.store.specs.Losses.{Lost, StaysNamed, behind_sync, held_last}
use Rattle.store.specs.Stops.{moment}
use Rattle.mending.specs.Cutting.{IsReadable}
use Rattle.mending.specs.Mending.{IsLogged, number_of}
use Rattle.mending.specs.Plans.{IsMine}
use Rattle.mending.specs.declared.ends.Ends.{Ends}
use Rattle.mending.proofs.AppliedCuts.{logged_name, logged_number}
use Rattle.mending.proofs.Leaving.{mine_logged}
use Rattle.mended_losses.specs.Between.{AreAsGood, BetweenLaw, IsHeldOpen, IsTableSafe, LeavesNoChance, files_of, logs_of}
use Rattle.mended_losses.specs.Consistent.{Covers}
use Rattle.mended_losses.specs.Laws.{AreMendedBy}
use Rattle.mended_losses.specs.Losses.{HoledLost, IsHoledLost, IsMoment, IsSince}
use Rattle.mended_losses.specs.Reading.{AreNamed, EndsWhole, HasFile, HasName, HoldsLogs, IsBeside, LeavesWritten, WasLog}
use Rattle.mended_losses.proofs.Consistent.{consistent_again, same_table}
use Rattle.mended_losses.proofs.Gathered.{none_of}
use Rattle.mended_losses.proofs.Moments.{begun_at, holed_names, holed_now, lost_names, lost_now, now_moment, sound_at, stayed_at}
use Rattle.mended_losses.proofs.OneLoss.{each_moment, same_some}

-- ---- names

abbrev is_read : FileName → Bool
is_read Current = true
is_read Lock = false
is_read (Log n) = false
is_read (Table n) = true
is_read (OldTable n) = true
is_read (Manifest n) = false
is_read (Temporary n) = false

unlike : (a b : FileName) → is_read a ≡ true → is_read b ≡ false → a ≡ b → ⊥
unlike a b is_on is_off same = (let bad : true ≡ false = sym is_on ∙ ap is_read same ∙ is_off in cc)

logged_unread : (file : FileName) → IsLogged file → is_read file ≡ false
logged_unread (Log n) h = refl
logged_unread (Manifest n) h = refl
logged_unread Current h = absurd h
logged_unread Lock h = absurd h
logged_unread (Table n) h = absurd h
logged_unread (OldTable n) h = absurd h
logged_unread (Temporary n) h = absurd h

beside_of : (number : ℕ) (layout : Layout) (other : FileName) → IsNumbered number → IsFileName other → is_read other ≡ true → IsBeside number layout (name_of other)
beside_of number layout other numbered named read = (
  λ e. unlike other Lock read refl (one_file other Lock named tt e),
  λ file mine.
      let logged = mine_logged number layout file numbered mine in (
        λ e. unlike other (Temporary (number_of file)) read refl (one_file other (Temporary (number_of file)) named (logged_number file logged) e),
        λ e. unlike other file read (logged_unread file logged) (one_file other file named (logged_name file logged) e),
      ),
)

-- ---- logs

log_named : (logs : List LogContent) (file : FileName) → HasFile (files_of logs) file → (n : ℕ) × InLogs logs n × (file ≡ Log n)
log_named [] file h = absurd h
log_named (content ∷ contents) file (inl e) = (content.number, inl refl, e)
log_named (content ∷ contents) file (inr h) = let p = log_named contents file h in (p.0, inr p.1, p.2)

named_log : (logs : List LogContent) (n : ℕ) → InLogs logs n → HasFile (files_of logs) (Log n)
named_log [] n h = absurd h
named_log (content ∷ contents) n (inl e) = inl (ap (λ (k : ℕ). Log k) e)
named_log (content ∷ contents) n (inr h) = inr (named_log contents n h)

log_there : (files : Files) (logs : List LogContent) (n : ℕ) → HasLogs files logs → InLogs logs n → IsNumbered n × (bytes : List ℕ) × (get files (name_of (Log n)) ≡ Some bytes) × IsReadable bytes
log_there files [] n h among = absurd among
log_there files (content ∷ contents) n h (inl e) = (
  subst IsNumbered (sym e) h.0.numbered,
  h.0.bytes,
  ap (λ (k : ℕ). get files (name_of (Log k))) e ∙ h.0.there,
  (h.0.spelled.records, content.tail, h.0.spelled.log),
)
log_there files (content ∷ contents) n h (inr later) = log_there files contents n h.1 later

log_live : (layout : Layout) (logs : List LogContent) (n : ℕ) → AreLive layout logs → InLogs logs n → IsLive layout n
log_live layout [] n h among = absurd among
log_live layout (content ∷ contents) n h (inl e) = subst (λ (k : ℕ). IsLive layout k) (sym e) h.0
log_live layout (content ∷ contents) n h (inr later) = log_live layout contents n h.1 later

-- ---- tables

table_numbered : (order : Order) (files : Files) (contents : List TableContent) (content : TableContent) → HasTables order files contents → InTables contents content → IsNumbered content.placed.table.number
table_numbered order files [] content h among = absurd among
table_numbered order files (first ∷ contents) content h (inl e) = subst (λ (c : TableContent). IsNumbered c.placed.table.number) (sym e) h.0.numbered
table_numbered order files (first ∷ contents) content h (inr later) = table_numbered order files contents content h.1 later

abbrev newer_of : TableContent → List ℕ
newer_of content = name_of (Table content.placed.table.number)

abbrev older_of : TableContent → List ℕ
older_of content = name_of (OldTable content.placed.table.number)

abbrev IsOf : Files → TableContent → List ℕ → Type 0
IsOf files content q = (q ≡ newer_of content) ⊎ ((q ≡ older_of content) × (get files (newer_of content) ≡ None))

abbrev AreOf : Files → TableContent → List (List ℕ) → Type 0
AreOf files content names = HasName names (newer_of content) × (get files (newer_of content) ≡ None → HasName names (older_of content))

-- the names of the files that are read as these tables
record AreTheirs (files : Files) (contents : List TableContent) (names : List (List ℕ)) : Type 0 where
  each : (q : List ℕ) → HasName names q → (content : TableContent) × InTables contents content × IsOf files content q
  all : (content : TableContent) → InTables contents content → AreOf files content names

names_first : (files : Files) (first : TableContent) (contents : List TableContent) (names : List (List ℕ)) (o : Option (List ℕ)) → get files (newer_of first) ≡ o → AreTheirs files contents names → (all : List (List ℕ)) × AreTheirs files (first ∷ contents) all
names_first files first contents names (Some bytes) is h = (
  newer_of first ∷ names,
  record {
    each = λ q one. elim one [
      | inl e ↦ (first, inl refl, inl e)
      | inr later ↦ let p = h.each q later in (p.0, inr p.1, p.2)
    ];
    all = λ content one. elim one [
      | inl e ↦ (
        inl (ap newer_of e),
        λ none. absurd (let bad : None ≡ Some bytes = sym none ∙ ap (λ (c : TableContent). get files (newer_of c)) e ∙ is in cc),
      )
      | inr later ↦ let p = h.all content later in (inr p.0, λ none. inr (p.1 none))
    ];
  },
)
names_first files first contents names None is h = (
  newer_of first ∷ older_of first ∷ names,
  record {
    each = λ q one. elim one [
      | inl e ↦ (first, inl refl, inl e)
      | inr more ↦ elim more [
        | inl e ↦ (first, inl refl, inr (e, is))
        | inr later ↦ let p = h.each q later in (p.0, inr p.1, p.2)
      ]
    ];
    all = λ content one. elim one [
      | inl e ↦ (inl (ap newer_of e), λ none. inr (inl (ap older_of e)))
      | inr later ↦ let p = h.all content later in (inr (inr p.0), λ none. inr (inr (p.1 none)))
    ];
  },
)

names_of : (files : Files) (contents : List TableContent) → (names : List (List ℕ)) × AreTheirs files contents names
names_of files [] = ([], record { each = λ q one. absurd one; all = λ content one. absurd one })
names_of files (first ∷ contents) =
    let p = names_of files contents in
    names_first files first contents p.0 (get files (newer_of first)) refl p.1

-- ---- the files at a moment

module _ (order : Order) (ends : Ends) (facts : Facts) (d : Directory) (lost mended : Files) (c : IsConsistent order facts.files d) (o : IsHeldOpen facts lost d) (written : LeavesNoChance facts lost d) (h : HoledLost facts (moment facts) lost)
    (m : AreMendedBy order.name ends d.manifest d.layout lost mended) where
  abbrev since_sync : List Call
  since_sync = behind_sync [] facts.calls

  abbrev their_names : (names : List (List ℕ)) × AreTheirs facts.files d.tables names
  their_names = names_of facts.files d.tables

  abbrev others : List (List ℕ)
  others = name_of Current ∷ their_names.0

  -- ---- names

  mine_each : (file : FileName) → HasFile (logs_of d) file → IsMine d.manifest d.layout file
  mine_each file (inl e) = subst (λ (f : FileName). IsMine d.manifest d.layout f) (sym e) refl
  mine_each file (inr later) =
      let p = log_named d.logs file later in
      let numbered : IsNumbered p.0 = (log_there facts.files d.logs p.0 c.logs p.1).0 in
      let live : IsLive d.layout p.0 = log_live d.layout d.logs p.0 c.live p.1 in
      subst (λ (f : FileName). IsMine d.manifest d.layout f) (sym p.2) (numbered, live)

  beside_table : (q : List ℕ) → (content : TableContent) × InTables d.tables content × IsOf facts.files content q → IsBeside d.manifest d.layout q
  beside_table q p =
      let n : ℕ = p.0.placed.table.number in
      let numbered : IsNumbered n = table_numbered order facts.files d.tables p.0 c.tables p.1 in
      elim p.2 [
        | inl e ↦ subst (λ (r : List ℕ). IsBeside d.manifest d.layout r) (sym e) (beside_of d.manifest d.layout (Table n) c.manifest.numbered numbered refl)
        | inr e ↦ subst (λ (r : List ℕ). IsBeside d.manifest d.layout r) (sym e.0) (beside_of d.manifest d.layout (OldTable n) c.manifest.numbered numbered refl)
      ]

  beside_each : (q : List ℕ) → HasName others q → IsBeside d.manifest d.layout q
  beside_each q (inl e) = subst (λ (r : List ℕ). IsBeside d.manifest d.layout r) (sym e) (beside_of d.manifest d.layout Current c.manifest.numbered tt refl)
  beside_each q (inr later) = beside_table q (their_names.1.each q later)

  all_named : AreNamed d.manifest d.layout (logs_of d) others
  all_named = record { mine = mine_each; beside = beside_each }

  -- ---- a log

  abbrev Holds : FileName → Type 0
  Holds file = (held : List ℕ) → get facts.files (name_of file) ≡ Some held → IsReadable held

  readable_each : (file : FileName) → HasFile (logs_of d) file → Holds file
  readable_each file (inl e) = subst Holds (sym e) (λ held is.
      let same : c.manifest.bytes ≡ held = same_some c.manifest.bytes held (sym c.manifest.there ∙ is) in
      subst IsReadable same (c.manifest.spelled.records, c.manifest.spelled.tail, c.manifest.spelled.log))
  readable_each file (inr later) =
      let p = log_named d.logs file later in
      let there = log_there facts.files d.logs p.0 c.logs p.1 in
      subst Holds (sym p.2) (λ held is. subst IsReadable (same_some there.1 held (sym there.2 ∙ is)) there.3)

  abbrev Ended : FileName → Type 0
  Ended file = (held synced : List ℕ) → get facts.files (name_of file) ≡ Some held → facts.synced (name_of file) ≡ Some synced → EndsWhole held synced

  ends_each : (file : FileName) → HasFile (logs_of d) file → Ended file
  ends_each file (inl e) = subst Ended (sym e) (λ held synced is k. inl (same_some synced held (sym k ∙ o.manifest.1 held is)))
  ends_each file (inr later) =
      let p = log_named d.logs file later in
      subst Ended (sym p.2) (λ held synced is k. (o.logs p.0 p.1).ends held synced is k)

  module _ (at : Files) (since : List Call) (one : IsSince since_sync (disk_of facts) at since) (holed : IsHoledLost at since (disk_of facts) lost) where
    abbrev IsNow : List ℕ → Type 0
    IsNow q = held_last since (disk_of facts) q ≡ (get facts.files q, facts.synced q)

    stays : (q : List ℕ) → StaysNamed facts q → IsNow q
    stays q named = stayed_at since_sync (contains_key facts.files q) (disk_of facts) at since q named one

    holds_now : (q held : List ℕ) → IsNow q → (held_last since (disk_of facts) q).0 ≡ Some held → get facts.files q ≡ Some held
    holds_now q held now is = sym (ap (λ (p : Option (List ℕ) × Option (List ℕ)). p.0) now) ∙ is

    synced_now : (q : List ℕ) → IsNow q → (held_last since (disk_of facts) q).1 ≡ facts.synced q
    synced_now q now = ap (λ (p : Option (List ℕ) × Option (List ℕ)). p.1) now

    abbrev Known : FileName → Type 0
    Known file = (bytes : List ℕ) → get lost (name_of file) ≡ Some bytes → IsNow (name_of file)

    known_each : (file : FileName) → HasFile (logs_of d) file → Known file
    known_each file (inl e) = subst Known (sym e) (λ bytes there. stays (name_of (Manifest d.manifest)) o.manifest.0)
    known_each file (inr later) =
        let p = log_named d.logs file later in
        let q : List ℕ = name_of (Log p.0) in
        subst Known (sym p.2) (λ bytes there. begun_at since_sync (contains_key facts.files q) (facts.synced q) (disk_of facts) at since q (o.logs p.0 p.1).named one (sym (holed.names q) ∙ ap is_some there))

    was_each : (file : FileName) (bytes held : List ℕ) → HasFile (logs_of d) file → get lost (name_of file) ≡ Some bytes → (held_last since (disk_of facts) (name_of file)).0 ≡ Some held
        → WasLog held (held_last since (disk_of facts) (name_of file)).1
    was_each file bytes held among there is =
        let q : List ℕ = name_of file in
        let now = known_each file among bytes there in
        let here = holds_now q held now is in
        let log = readable_each file among held here in
        let was : WasLog held (facts.synced q) =
        record { records = log.0; tail = log.1; log = log.2; synced = λ synced k. (o.fronts.1 q held synced here k, ends_each file among held synced here k) } in
        subst (λ (k : Option (List ℕ)). WasLog held k) (sym (synced_now q now)) was

    written_each : LeavesWritten since (disk_of facts) lost (logs_of d)
    written_each file bytes held among there is = written file bytes held among there (holds_now (name_of file) held (known_each file among bytes there) is)

    -- ---- another file

    abbrev LeftWhole : List ℕ → Type 0
    LeftWhole q = (held : List ℕ) → (held_last since (disk_of facts) q).0 ≡ Some held
        → ((held_last since (disk_of facts) q).1 ≡ Some held) ⊎ ((bytes : List ℕ) → get lost q ≡ Some bytes → bytes ≡ held)

    whole_newer : (n : ℕ) → IsTableSafe facts lost n → LeftWhole (name_of (Table n))
    whole_newer n safe held is =
        let q : List ℕ = name_of (Table n) in
        let now = stays q safe.newer in
        let here = holds_now q held now is in
        elim safe.whole [
          | inl kept ↦ inl (synced_now q now ∙ kept.0 held here)
          | inr left ↦ inr (λ bytes there.
              let a : table_at lost n ≡ Some bytes = ap (λ (x : Option (List ℕ)). option_or x (get lost (name_of (OldTable n)))) there in
              let b : table_at facts.files n ≡ Some held = ap (λ (x : Option (List ℕ)). option_or x (get facts.files (name_of (OldTable n)))) here in
              same_some bytes held (sym a ∙ left ∙ b))
        ]

    gone : (n : ℕ) → IsTableSafe facts lost n → get facts.files (name_of (Table n)) ≡ None → get lost (name_of (Table n)) ≡ None
    gone n safe none =
        let q : List ℕ = name_of (Table n) in
        none_of (get lost q) (holed_names since_sync (disk_of facts) lost q safe.newer (holed_now facts lost h) ∙ ap is_some none)

    whole_older : (n : ℕ) → IsTableSafe facts lost n → get facts.files (name_of (Table n)) ≡ None → LeftWhole (name_of (OldTable n))
    whole_older n safe none held is =
        let q : List ℕ = name_of (OldTable n) in
        let now = stays q (safe.older none) in
        let here = holds_now q held now is in
        elim safe.whole [
          | inl kept ↦ inl (synced_now q now ∙ kept.1 none held here)
          | inr left ↦ inr (λ bytes there.
              let a : table_at lost n ≡ get lost q = ap (λ (x : Option (List ℕ)). option_or x (get lost q)) (gone n safe none) in
              let b : table_at facts.files n ≡ get facts.files q = ap (λ (x : Option (List ℕ)). option_or x (get facts.files q)) none in
              same_some bytes held (sym there ∙ sym a ∙ left ∙ b ∙ here))
        ]

    whole_table : (q : List ℕ) → (content : TableContent) × InTables d.tables content × IsOf facts.files content q → LeftWhole q
    whole_table q p =
        let n : ℕ = p.0.placed.table.number in
        let safe = o.tables p.0 p.1 in
        elim p.2 [
          | inl e ↦ subst LeftWhole (sym e) (whole_newer n safe)
          | inr e ↦ subst LeftWhole (sym e.0) (whole_older n safe e.1)
        ]

    whole_current : LeftWhole (name_of Current)
    whole_current held is =
        let now = stays (name_of Current) o.current.0 in
        inl (synced_now (name_of Current) now ∙ o.current.1 held (holds_now (name_of Current) held now is))

    whole_each : (q : List ℕ) → HasName others q → LeftWhole q
    whole_each q (inl e) = subst LeftWhole (sym e) whole_current
    whole_each q (inr later) = whole_table q (their_names.1.each q later)

    holds_here : HoldsLogs since (disk_of facts) lost (logs_of d) others × LeavesWritten since (disk_of facts) lost (logs_of d)
    holds_here = (
      record {
        sound = λ q held synced a b. sound_at since_sync (disk_of facts) at since q held synced o.fronts one a b;
        were = was_each;
        whole = λ q held other is. whole_each q other held is;
      },
      written_each,
    )

  -- ---- at any moment since the last sync

  abbrev HoldsAt : List Call → Disk → Type 0
  HoldsAt since now = HoldsLogs since now lost (logs_of d) others × LeavesWritten since now lost (logs_of d)

  holds_at : (at : Files) (since : List Call) (now : Disk) → IsMoment facts (moment facts) at since now → IsHoledLost at since now lost → HoldsAt since now
  holds_at at since now when holed =
      let p = now_moment facts at since now when in
      let here : IsHoledLost at since (disk_of facts) lost = subst (λ (disk : Disk). IsHoledLost at since disk lost) p.0 holed in
      subst (λ (disk : Disk). HoldsAt since disk) (sym p.0) (holds_here at since p.1 here)

  -- ---- the mended files

  newer_none : (plain : Files) (content : TableContent) → InTables d.tables content → contains_key plain (newer_of content) ≡ contains_key facts.files (newer_of content) → get plain (newer_of content) ≡ None → get facts.files (newer_of content) ≡ None
  newer_none plain content among same none = none_of (get facts.files (newer_of content)) (sym same ∙ ap is_some none)

  pub between : (plain : Files) × Lost facts (moment facts) plain × AreAsGood order d lost mended plain
  between =
      let p = each_moment facts (moment facts) lost mended order.name ends d.manifest d.layout (logs_of d) others h m all_named holds_at in
      let plain : Files = p.0 in
      let left : (q : List ℕ) → HasName others q → get plain q ≡ get lost q = λ q other.
      let beside = beside_each q other in
      elim (m.0.each q beside.0 (λ file mine e. (beside.1 file mine).0 e)) [
        | inl same ↦ sym (p.2.same q other) ∙ same
        | inr cut ↦ absurd ((beside.1 cut.file cut.mine).1 cut.named)
      ] in
      let plain_none : (content : TableContent) → InTables d.tables content → get plain (newer_of content) ≡ None → get facts.files (newer_of content) ≡ None =
      λ content among none. newer_none plain content among (lost_names since_sync (disk_of facts) plain (newer_of content) (o.tables content among).newer (lost_now facts plain p.1)) none in
      let lost_none : (content : TableContent) → InTables d.tables content → get lost (newer_of content) ≡ None → get facts.files (newer_of content) ≡ None =
      λ content among none. newer_none lost content among (holed_names since_sync (disk_of facts) lost (newer_of content) (o.tables content among).newer (holed_now facts lost h)) none in (
        plain,
        p.1,
        record {
          same = λ logs some good.
              let covers : Covers plain (record d { logs = logs }) (logs_of d) others =
              record {
                manifest = inl refl;
                each = λ n among. inr (named_log d.logs n (some n among));
                current = inl refl;
                tables = λ content among.
                    let all = their_names.1.all content among in
                    (inr all.0, λ none. inr (all.1 (plain_none content among none)));
              } in
              consistent_again order mended plain d.manifest d.layout (logs_of d) others (record d { logs = logs }) c.manifest.numbered p.2 covers good;
          tables = λ content among.
              let all = their_names.1.all content among in
              same_table (get plain (newer_of content)) (get plain (older_of content)) (get lost (newer_of content)) (get lost (older_of content)) (left (newer_of content) (inr all.0)) (λ none. left (older_of content) (inr (all.1 (lost_none content among none))));
        },
      )

pub between_calls : BetweenLaw
between_calls order ends facts d lost mended c o written h m = between order ends facts d lost mended c o written h m
