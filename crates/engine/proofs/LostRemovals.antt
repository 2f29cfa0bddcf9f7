-- What a power loss leaves of files that nothing reads, while they are written or removed: what it
-- left at the beginning.
use Rattle.std.proofs.Common.{◌≡◌, ◌≢◌, ◌⊎◌, inl, inr, ℕ, false, List, [], ◌∷◌, ◌++◌, Some, None, is_some, refl, sym, ap, subst, ◌∙◌}
use Rattle.std.specs.FinMap.{get, contains_key}
use Rattle.std.specs.List.{AllByRecursion}
use Rattle.store.specs.Calls.{Adds, Idles}
use Rattle.store.specs.Files.{Call, Creation, Disk, Facts, Files, disk_of}
use Rattle.store.specs.Losses.{BeginsWith, IsLost, IsLostSince, Lost, SyncsBeginnings, behind_sync, held_last}
use Rattle.store.specs.Past.{with_file}
use Rattle.store.specs.Stops.{WritesOnly, moment}
use Rattle.store.proofs.LosingOn.{KeepsAt, facts_at, keeps_at, loses_at, lost_here}
use Rattle.store.proofs.Staying.{behind_more, stays_behind, stays_on}
use Rattle.directory_writes.proofs.StoreCalls.{behind_added}
use Rattle.opening.proofs.Losing.{both_begin, none_of, some_of}
use Rattle.opening.proofs.LosingEdits.{same_or_not}
use Rattle.opening.proofs.Spared.{ReadsLeft, reads_left}
use Rattle.engine.proofs.LosingBegun.{lost_now}
use Rattle.engine.proofs.LostEarlier.{Held, carried_each, left_behind, left_like, left_on, left_whole, lost_each, made_files, made_other, making, since_made, with_file_other, with_file_same}
use Rattle.engine.specs.internal.Logs.{SyncsEach}

-- it is one of these names
abbrev pub IsAmong : List ℕ → List (List ℕ) → Type 0
IsAmong name [] = ⊥
IsAmong name (other ∷ names) = (name ≡ other) ⊎ IsAmong name names

-- What a loss has left in the middle of it, but for files that nothing reads, which are as they
-- were, is what a loss left at the beginning.
pub record IsTaken (then : Facts) (log : List ℕ) (dead : List ℕ → Type 0) (reads : List (List ℕ)) (lost : Files) : Type 0 where
  pub before : Files
  pub left : Lost then (moment then) before
  pub read : AllByRecursion (λ (q : List ℕ). get before q ≡ get lost q) reads
  pub each : (q : List ℕ) → (get before q ≡ get lost q) ⊎ (get before q ≡ get then.files q)
  -- what isn't dead is there where it was, and whole where it was synced whole
  pub names : (q : List ℕ) → (dead q → ⊥) → (q ≡ log → ⊥) → contains_key lost q ≡ contains_key then.files q
  pub kept : (q bytes : List ℕ) → (dead q → ⊥) → (q ≡ log → ⊥) → get then.files q ≡ Some bytes → then.synced q ≡ Some bytes → get lost q ≡ Some bytes

-- These files, but that those of these names are as the loss has left them.
abbrev with_read : Files → Files → List (List ℕ) → Files
with_read files lost [] = files
with_read files lost (name ∷ names) = with_file (with_read files lost names) name (get lost name)

read_still : (files lost : Files) (name q : List ℕ) → get files q ≡ get lost q → get (with_file files name (get lost name)) q ≡ get lost q
read_still files lost name q same = elim (same_or_not q name) [
  | inl is ↦ ap (λ (n : List ℕ). get (with_file files name (get lost name)) n) is ∙ with_file_same files name (get lost name) ∙ ap (λ (n : List ℕ). get lost n) (sym is)
  | inr apart ↦ with_file_other files name (get lost name) q apart ∙ same
]

all_still : (files lost : Files) (name : List ℕ) (names : List (List ℕ)) → AllByRecursion (λ (q : List ℕ). get files q ≡ get lost q) names → AllByRecursion (λ (q : List ℕ). get (with_file files name (get lost name)) q ≡ get lost q) names
all_still files lost name [] h = tt
all_still files lost name (other ∷ names) h = (read_still files lost name other h.0, all_still files lost name names h.1)

all_read : (files lost : Files) (names : List (List ℕ)) → AllByRecursion (λ (q : List ℕ). get (with_read files lost names) q ≡ get lost q) names
all_read files lost [] = tt
all_read files lost (name ∷ names) = (with_file_same (with_read files lost names) name (get lost name), all_still (with_read files lost names) lost name names (all_read files lost names))

one_of : (P : List ℕ → Type 0) (names : List (List ℕ)) (q : List ℕ) → IsAmong q names → AllByRecursion P names → P q
one_of P [] q among h = absurd among
one_of P (name ∷ names) q (inl is) h = subst P (sym is) h.0
one_of P (name ∷ names) q (inr among) h = one_of P names q among h.1

-- it is as the loss has left it, and isn't dead, or as it was
read_or_whole : (files lost : Files) (dead : List ℕ → Type 0) (names : List (List ℕ)) → AllByRecursion (λ (q : List ℕ). dead q → ⊥) names → (q : List ℕ)
    → ((get (with_read files lost names) q ≡ get lost q) × (dead q → ⊥)) ⊎ (get (with_read files lost names) q ≡ get files q)
read_or_whole files lost dead [] alive q = inr refl
read_or_whole files lost dead (name ∷ names) alive q = elim (same_or_not q name) [
  | inl is ↦ inl (
    ap (λ (n : List ℕ). get (with_read files lost (name ∷ names)) n) is ∙ with_file_same (with_read files lost names) name (get lost name) ∙ ap (λ (n : List ℕ). get lost n) (sym is),
    λ gone. alive.0 (subst dead is gone),
  )
  | inr apart ↦
      let same = with_file_other (with_read files lost names) name (get lost name) q apart in
      elim (read_or_whole files lost dead names alive.1 q) [ inl read ↦ inl (same ∙ read.0, read.1) | inr whole ↦ inr (same ∙ whole) ]
]

pub left_kept : (facts : Facts) (lost : Files) (q bytes : List ℕ) → ReadsLeft facts lost q → get facts.files q ≡ Some bytes → facts.synced q ≡ Some bytes → get lost q ≡ Some bytes
left_kept facts lost q bytes left there kept =
    let some = some_of (get lost q) (left.name ∙ ap is_some there) in
    let begun = left.begun.beginning some.0 some.1 in
    let same : begun.0 ≡ bytes = (let both : Some begun.0 ≡ Some bytes = sym begun.1 ∙ there in cc) in
    some.1 ∙ ap Some (both_begin some.0 bytes (left.begun.kept some.0 bytes some.1 kept) (subst (λ (b : List ℕ). BeginsWith b some.0) same begun.2))

-- ---- the files that are read as the loss has left them, and the others as they were

module _ (then : Facts) (log : List ℕ) (dead : List ℕ → Type 0) (reads : List (List ℕ)) (sound : SyncsBeginnings then) (alive : AllByRecursion (λ (q : List ℕ). dead q → ⊥) reads) (lost : Files) where
  abbrev restored : Files
  restored = with_read then.files lost reads

  restored_at : (q : List ℕ) → ((dead q → ⊥) → ReadsLeft then lost q) → ReadsLeft then restored q
  restored_at q left = elim (read_or_whole then.files lost dead reads alive q) [
    | inl read ↦ left_like then lost restored q read.0 (left read.1)
    | inr whole ↦ left_whole then restored q whole (sound q)
  ]

  taken_by : ((q : List ℕ) → (dead q → ⊥) → q ≢ log → ReadsLeft then lost q) → Lost then (moment then) restored → IsTaken then log dead reads lost
  taken_by others left = record {
    before = restored;
    left = left;
    read = all_read then.files lost reads;
    each = λ q. elim (read_or_whole then.files lost dead reads alive q) [ inl read ↦ inl read.0 | inr whole ↦ inr whole ];
    names = λ q live apart. (others q live apart).name;
    kept = λ q bytes live apart there kept. left_kept then lost q bytes (others q live apart) there kept;
  }

  -- the names are those of the beginning
  taken_here : ((q : List ℕ) → (dead q → ⊥) → ReadsLeft then lost q) → IsTaken then log dead reads lost
  taken_here others = taken_by (λ q live apart. others q live) (lost_each then restored (λ q. restored_at q (others q)))

-- ---- after a sync

-- After it calls write files alone that nothing reads.
lost_removed_here : (then new : Facts) (log : List ℕ) (dead : List ℕ → Type 0) (reads : List (List ℕ)) → behind_sync [] then.calls ≡ [] → SyncsBeginnings then → WritesOnly then new dead → AllByRecursion (λ (q : List ℕ). dead q → ⊥) reads
    → (lost : Files) → Lost new (moment then) lost → IsTaken then log dead reads lost
lost_removed_here then new log dead reads ends sound writes alive =
    loses_at then new (IsTaken then log dead reads) (λ m least most lost at.
    let now = facts_at new m in
    let k = keeps_at then new dead m writes least in
    taken_here then log dead reads sound alive lost (λ q live.
    left_on then now lost q (k.files q live) (k.synced q live) (reads_left now lost q (behind_sync [] now.calls) (stays_on then now dead q live k.carries (stays_behind then q ends)) (lost_here now lost at))))

-- ---- after the creation of a log, which came after a sync

-- A log was made, which wasn't there, after a sync and no other call.
pub record IsMadeAlone (last then : Facts) (log : List ℕ) : Type 0 where
  pub ends : behind_sync [] last.calls ≡ []
  pub lacks : contains_key last.files log ≡ false
  pub adds : Adds last then (Creation log)

module _ (last then : Facts) (log : List ℕ) (dead : List ℕ → Type 0) (reads : List (List ℕ)) (alone : IsMadeAlone last then log) (sound : SyncsBeginnings then) (alive : AllByRecursion (λ (q : List ℕ). dead q → ⊥) reads) (log_read : IsAmong log reads) (lost : Files) where
  abbrev kept_files : Files
  kept_files = restored then log dead reads sound alive lost

  abbrev made : Call
  made = making last log

  log_restored : get kept_files log ≡ get lost log
  log_restored = one_of (λ (q : List ℕ). get kept_files q ≡ get lost q) reads log log_read (all_read then.files lost reads)

  made_since : behind_sync [] then.calls ≡ made ∷ []
  made_since = ap (behind_sync []) alone.adds.0 ∙ behind_more [] last.calls (made ∷ []) ∙ ap (λ (calls : List Call). behind_sync calls (made ∷ [])) alone.ends

  -- the names are those that it found
  taken_before : ((q : List ℕ) → (dead q → ⊥) → q ≢ log → ReadsLeft then lost q) → get lost log ≡ None → IsTaken then log dead reads lost
  taken_before others gone =
      let none : (q : List ℕ) → q ≡ log → get kept_files q ≡ None = λ q is. ap (λ (n : List ℕ). get kept_files n) is ∙ log_restored ∙ gone in
      let each : (q : List ℕ) → q ≢ log → ReadsLeft then kept_files q = λ q apart. restored_at then log dead reads sound alive lost q (λ live. others q live apart) in
      let found : IsLost last.files (made ∷ []) (disk_of then) kept_files = record {
        names = λ q. elim (same_or_not q log) [
          | inl is ↦ ap is_some (none q is) ∙ sym (ap (λ (n : List ℕ). contains_key last.files n) is ∙ alone.lacks)
          | inr apart ↦ (each q apart).name ∙ ap is_some (made_files last log then alone.adds q apart)
        ];
        beginning = λ q bytes there. elim (same_or_not q log) [
          | inl is ↦ absurd (let bad : None ≡ Some bytes = sym (none q is) ∙ there in cc)
          | inr apart ↦ let b = (each q apart).begun.beginning bytes there in (b.0, ap (λ (p : Held). p.0) (made_other last log [] (disk_of then) q apart tt) ∙ b.1, b.2)
        ];
        kept = λ q bytes synced there is. elim (same_or_not q log) [
          | inl same ↦ absurd (let bad : None ≡ Some bytes = sym (none q same) ∙ there in cc)
          | inr apart ↦ (each q apart).begun.kept bytes synced there (sym (ap (λ (p : Held). p.1) (made_other last log [] (disk_of then) q apart tt)) ∙ is)
        ];
      } in
      taken_by then log dead reads sound alive lost others (lost_now then kept_files (subst (λ (calls : List Call). IsLostSince calls (disk_of then) kept_files) (sym made_since) (inl found)))

  -- at a moment after it
  taken_at : (now : Facts) → KeepsAt then now dead → IsLostSince (behind_sync [] now.calls) (disk_of now) lost → IsTaken then log dead reads lost
  taken_at now k h =
      let c = k.carries in
      let behind : IsLostSince (behind_sync [] c.more) (disk_of now) lost → IsTaken then log dead reads lost = λ later.
      taken_here then log dead reads sound alive lost (λ q live. left_on then now lost q (k.files q live) (k.synced q live) (left_behind last then now log dead alone.adds c lost later q live)) in
      elim (since_made last then now log dead alone.adds c lost h) [
        | inl both ↦ elim (subst (λ (calls : List Call). IsLostSince (calls ++ made ∷ c.more) (disk_of now) lost) alone.ends both.1) [
          | inl found ↦
              let held : (q : List ℕ) → (dead q → ⊥) → q ≢ log → held_last (made ∷ c.more) (disk_of now) q ≡ (get now.files q, now.synced q) = λ q live apart. made_other last log c.more (disk_of now) q apart (carried_each then.files dead c.more q live c.each) in
              let others : (q : List ℕ) → (dead q → ⊥) → q ≢ log → ReadsLeft then lost q = λ q live apart. record {
                name = found.names q ∙ sym (ap is_some (made_files last log then alone.adds q apart));
                begun = record {
                  beginning = λ bytes there. let b = found.beginning q bytes there in (b.0, sym (k.files q live) ∙ sym (ap (λ (p : Held). p.0) (held q live apart)) ∙ b.1, b.2);
                  kept = λ bytes synced there is. found.kept q bytes synced there (ap (λ (p : Held). p.1) (held q live apart) ∙ k.synced q live ∙ is);
                };
              } in
              taken_before others (none_of (get lost log) (found.names log ∙ alone.lacks))
          | inr later ↦ behind (subst (λ (calls : List Call). IsLostSince calls (disk_of now) lost) (sym both.0) later)
        ]
        | inr later ↦ behind later
      ]

-- After it calls write files alone that nothing reads.
lost_removed_made : (last then new : Facts) (log : List ℕ) (dead : List ℕ → Type 0) (reads : List (List ℕ)) → IsMadeAlone last then log → SyncsBeginnings then → WritesOnly then new dead → AllByRecursion (λ (q : List ℕ). dead q → ⊥) reads → IsAmong log reads
    → (lost : Files) → Lost new (moment then) lost → IsTaken then log dead reads lost
lost_removed_made last then new log dead reads alone sound writes alive log_read =
    loses_at then new (IsTaken then log dead reads) (λ m least most lost at.
    taken_at last then log dead reads alone sound alive log_read lost (facts_at new m) (keeps_at then new dead m writes least) (lost_here (facts_at new m) lost at))

-- ---- after either

-- The last call was a sync, or made the log alone after one.
abbrev pub EndsAfresh : Facts → List ℕ → Type 0
EndsAfresh facts log = (behind_sync [] facts.calls ≡ []) ⊎ ((last : Facts) × IsMadeAlone last facts log)

pub lost_removed : (then new : Facts) (log : List ℕ) (dead : List ℕ → Type 0) (reads : List (List ℕ)) → EndsAfresh then log → SyncsBeginnings then → WritesOnly then new dead → AllByRecursion (λ (q : List ℕ). dead q → ⊥) reads → IsAmong log reads
    → (lost : Files) → Lost new (moment then) lost → IsTaken then log dead reads lost
lost_removed then new log dead reads (inl ends) sound writes alive log_read = lost_removed_here then new log dead reads ends sound writes alive
lost_removed then new log dead reads (inr log_made) sound writes alive log_read = lost_removed_made log_made.0 then new log dead reads log_made.1 sound writes alive log_read

-- ---- after syncs of some files

ends_each : (names : List (List ℕ)) (old new : Facts) → behind_sync [] old.calls ≡ [] → SyncsEach names old new → behind_sync [] new.calls ≡ []
ends_each [] old new ends idle = ap (behind_sync []) idle.0 ∙ ends
ends_each (name ∷ names) old new ends h = ends_each names h.0 new (behind_added old h.0 name h.1) h.3

-- There was none, and nothing has changed, or the last call was one.
pub synced_or_idle : (names : List (List ℕ)) (old new : Facts) → SyncsEach names old new → Idles old new ⊎ (behind_sync [] new.calls ≡ [])
synced_or_idle [] old new idle = inl idle
synced_or_idle (name ∷ names) old new h = inr (ends_each names h.0 new (behind_added old h.0 name h.1) h.3)

pub afresh_each : (names : List (List ℕ)) (old new : Facts) (log : List ℕ) → SyncsEach names old new → EndsAfresh old log → EndsAfresh new log
afresh_each names old new log h afresh = elim (synced_or_idle names old new h) [
  | inr ends ↦ inl ends
  | inl idle ↦ elim afresh [
    | inl ends ↦ inl (ap (behind_sync []) idle.0 ∙ ends)
    | inr log_made ↦ inr (log_made.0, record { ends = log_made.1.ends; lacks = log_made.1.lacks; adds = (idle.0 ∙ log_made.1.adds.0, ap (λ (disk : Disk). disk.files) idle.1 ∙ log_made.1.adds.1) })
  ]
]
