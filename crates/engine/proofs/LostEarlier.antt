-- What a power loss leaves of a later moment, and of an earlier one.
use Rattle.std.proofs.Common.{◌≡◌, ◌≢◌, ◌⊎◌, inl, inr, ℕ, Bool, true, false, List, [], ◌∷◌, ◌++◌, length, Option, Some, None, is_some, cond, refl, sym, ap, subst, ◌∙◌, append-nil, append_assoc, arith}
use Rattle.std.specs.FinMap.{get, remove, contains_key}
use Rattle.std.specs.List.{AllByRecursion}
use Rattle.std.specs.Option.{option_map_or}
use Rattle.store.specs.Calls.{Adds}
use Rattle.store.specs.Files.{Call, Creation, Disk, Facts, Files, disk_of}
use Rattle.store.specs.Losses.{BeginsWith, CarriesBut, HasStayed, IsCarriedBy, IsLost, IsLostSince, Lost, LosesOnly, SyncsBeginning, behind_sync, held_last, is_sync, name_behind, same_name as is_same}
use Rattle.store.specs.Past.{with_file}
use Rattle.store.specs.Stops.{moment}
use Rattle.store.proofs.Carrying.{unnamed_stays}
use Rattle.store.proofs.LosingOn.{KeepsAt, facts_at, keeps_at, loses_at, loses_both, loses_noted, loses_same, lost_here}
use Rattle.store.proofs.Stopping.{others_same}
use Rattle.store.proofs.Staying.{behind_more, stays_behind, stays_on}
use Rattle.store.proofs.Undoing.{get-with_file}
use Rattle.edits.specs.Names.{name_of}
use Rattle.edits.specs.declared.names.FileName.TheVariants.{Current}
use Rattle.recover.proofs.NamedFiles.{get_other, get_same}
use Rattle.opening.specs.Losses.{IsKept}
use Rattle.opening.specs.internal.Renewing.{OnlyIt, StartsNew}
use Rattle.opening.proofs.Losing.{some_of}
use Rattle.opening.proofs.LosingEdits.{itself, same_or_not}
use Rattle.opening.proofs.LosingNames.{gone_other}
use Rattle.opening.proofs.Spared.{IsBegun, ReadsLeft, now_left, reads_left}
use Rattle.opening.proofs.Uncut.{IsSet}
use Rattle.engine.proofs.LosingBegun.{lost_now}

-- ---- what is synced

same_begins : (a b : List ℕ) → a ≡ b → BeginsWith a b
same_begins a b is = ([], is ∙ sym (append-nil b))

pub begins_both : (a b c : List ℕ) → BeginsWith a b → BeginsWith b c → BeginsWith a c
begins_both a b c h k = (k.0 ++ h.0, h.1 ∙ ap (λ (bytes : List ℕ). bytes ++ h.0) k.1 ∙ append_assoc c k.0 h.0)

-- the same holds if the file is synced whole
pub sound_kept : (facts : Facts) (q : List ℕ) → IsKept facts q → SyncsBeginning facts q
sound_kept facts q kept held synced there is = (let both : Some held ≡ Some synced = sym (kept held there) ∙ is in let same : held ≡ synced = cc in same_begins held synced same)

-- and where nothing of it has changed
pub sound_same : (old new : Facts) (q : List ℕ) → get new.files q ≡ get old.files q → new.synced q ≡ old.synced q → SyncsBeginning old q → SyncsBeginning new q
sound_same old new q files synced sound held kept there is = sound held kept (sym files ∙ there) (sym synced ∙ is)

-- and where a loss has left something of it
sound_begun : (facts : Facts) (lost : Files) (q : List ℕ) → IsBegun facts lost q → contains_key lost q ≡ true → SyncsBeginning facts q
sound_begun facts lost q begun there held synced was is =
    let some = some_of (get lost q) there in
    let front = begun.beginning some.0 some.1 in
    let same : front.0 ≡ held = (let both : Some front.0 ≡ Some held = sym front.1 ∙ was in cc) in
    begins_both held some.0 synced (subst (λ (b : List ℕ). BeginsWith b some.0) same front.2) (begun.kept some.0 synced some.1 is)

-- which it does under the names of now
pub sound_left : (facts : Facts) (lost : Files) (q : List ℕ) → IsLost facts.files [] (disk_of facts) lost → contains_key lost q ≡ true → SyncsBeginning facts q
sound_left facts lost q h there = sound_begun facts lost q (now_left facts lost q h).begun there

-- ---- one file instead of another

pub with_file_same : (files : Files) (name : List ℕ) (o : Option (List ℕ)) → get (with_file files name o) name ≡ o
with_file_same files name o = get-with_file files name o name ∙ ap (λ (b : Bool). cond b o (get files name)) (itself name)

pub with_file_other : (files : Files) (name : List ℕ) (o : Option (List ℕ)) (q : List ℕ) → q ≢ name → get (with_file files name o) q ≡ get files q
with_file_other files name None q apart = gone_other files name q apart
with_file_other files name (Some bytes) q apart = get_other files name bytes q apart

gone_same : (files : Files) (name : List ℕ) → get (remove files name) name ≡ None
gone_same files name = with_file_same files name None

-- ---- one name

-- the same is left of other files, where they have the same there
pub left_like : (facts : Facts) (lost files : Files) (q : List ℕ) → get files q ≡ get lost q → ReadsLeft facts lost q → ReadsLeft facts files q
left_like facts lost files q same left = record {
  name = ap is_some same ∙ left.name;
  begun = record {
    beginning = λ bytes there. left.begun.beginning bytes (sym same ∙ there);
    kept = λ bytes synced there is. left.begun.kept bytes synced (sym same ∙ there) is;
  };
}

-- and of other facts
pub left_on : (old new : Facts) (lost : Files) (q : List ℕ) → get new.files q ≡ get old.files q → new.synced q ≡ old.synced q → ReadsLeft new lost q → ReadsLeft old lost q
left_on old new lost q files synced left = record {
  name = left.name ∙ ap is_some files;
  begun = record {
    beginning = λ bytes there. let b = left.begun.beginning bytes there in (b.0, sym files ∙ b.1, b.2);
    kept = λ bytes kept there is. left.begun.kept bytes kept there (synced ∙ is);
  };
}

-- it is missing in both
left_gone : (facts : Facts) (files : Files) (q : List ℕ) → get files q ≡ None → contains_key facts.files q ≡ false → ReadsLeft facts files q
left_gone facts files q gone lacks = record {
  name = ap is_some gone ∙ sym lacks;
  begun = record {
    beginning = λ bytes there. absurd (let bad : None ≡ Some bytes = sym gone ∙ there in cc);
    kept = λ bytes synced there is. absurd (let bad : None ≡ Some bytes = sym gone ∙ there in cc);
  };
}

-- it is whole
pub left_whole : (facts : Facts) (files : Files) (q : List ℕ) → get files q ≡ get facts.files q → SyncsBeginning facts q → ReadsLeft facts files q
left_whole facts files q same sound = record {
  name = ap is_some same;
  begun = record {
    beginning = λ bytes there. (bytes, sym same ∙ there, same_begins bytes bytes refl);
    kept = λ bytes synced there is. sound bytes synced (sym same ∙ there) is;
  };
}

-- ---- each name

-- the names of now are among those that a loss may leave
pub since_last : (calls : List Call) (now : Disk) (lost : Files) → IsLost now.files [] now lost → IsLostSince calls now lost
since_last [] now lost h = h
since_last (call ∷ calls) now lost h = inr (since_last calls now lost h)

-- what is left under each name is a loss until the next call
pub lost_each : (facts : Facts) (files : Files) → ((q : List ℕ) → ReadsLeft facts files q) → Lost facts (moment facts) files
lost_each facts files each =
    let now : IsLost facts.files [] (disk_of facts) files = record {
      names = λ q. (each q).name;
      beginning = λ q bytes there. (each q).begun.beginning bytes there;
      kept = λ q bytes synced there is. (each q).begun.kept bytes synced there is;
    } in
    lost_now facts files (since_last (behind_sync [] facts.calls) (disk_of facts) files now)

-- without any loss what is there is left
pub whole_lost : (facts : Facts) → ((q : List ℕ) → SyncsBeginning facts q) → Lost facts (moment facts) facts.files
whole_lost facts sound = lost_each facts facts.files (λ q. left_whole facts facts.files q refl (sound q))

-- with the file removed that came since
without : (a then : Facts) (name : List ℕ) (lost : Files) → contains_key a.files name ≡ false → ((q : List ℕ) → q ≢ name → get then.files q ≡ get a.files q) → ((q : List ℕ) → q ≢ name → then.synced q ≡ a.synced q)
    → ((q : List ℕ) → q ≢ name → ReadsLeft then lost q) → Lost a (moment a) (remove lost name)
without a then name lost lacks files synced each = lost_each a (remove lost name) (λ q. elim (same_or_not q name) [
  | inl is ↦ left_gone a (remove lost name) q (ap (λ (n : List ℕ). get (remove lost name) n) is ∙ gone_same lost name) (ap (λ (n : List ℕ). contains_key a.files n) is ∙ lacks)
  | inr apart ↦ left_like a lost (remove lost name) q (gone_other lost name q apart) (left_on a then lost q (files q apart) (synced q apart) (each q apart))
])

-- ---- one new file is written, after a sync

-- With it removed, what a loss leaves is what one left at the beginning.
pub lost_written : (a b : Facts) (name : List ℕ) → behind_sync [] a.calls ≡ [] → contains_key a.files name ≡ false → OnlyIt a b name → (lost : Files) → Lost b (moment a) lost → Lost a (moment a) (remove lost name)
lost_written a b name none lacks only =
    let mine : List ℕ → Type 0 = λ q. q ≡ name in
    loses_at a b (λ lost. Lost a (moment a) (remove lost name)) (λ m least most lost at.
    let then = facts_at b m in
    let k = keeps_at a b mine m only least in
    without a then name lost lacks k.files k.synced (λ q apart.
    reads_left then lost q (behind_sync [] then.calls) (stays_on a then mine q apart k.carries (stays_behind a q none)) (lost_here then lost at)))

-- ---- how the calls go on

-- without a sync among them all is kept, with one all that was before is forgotten
abbrev Either : List Call → Type 0
Either more = ((since : List Call) → behind_sync since more ≡ since ++ more) ⊎ ((since : List Call) → behind_sync since more ≡ behind_sync [] more)

either_sync : (more : List Call) → Either more
either_sync [] = inl (λ since. sym (append-nil since))
either_sync (call ∷ more) = at (is_sync call.change) refl (either_sync more)
  where
    at : (b : Bool) → is_sync call.change ≡ b → Either more → Either (call ∷ more)
    at true is rest =
        let forgets : (since : List Call) → behind_sync since (call ∷ more) ≡ behind_sync [] more = λ since. ap (λ (b : Bool). behind_sync (cond b [] (since ++ call ∷ [])) more) is in
        inr (λ since. forgets since ∙ sym (forgets []))
    at false is rest =
        let goes : (since : List Call) → behind_sync since (call ∷ more) ≡ behind_sync (since ++ call ∷ []) more = λ since. ap (λ (b : Bool). behind_sync (cond b [] (since ++ call ∷ [])) more) is in
        elim rest [
          | inl all ↦ inl (λ since. goes since ∙ all (since ++ call ∷ []) ∙ append_assoc since (call ∷ []) more)
          | inr none ↦ inr (λ since. goes since ∙ none (since ++ call ∷ []) ∙ sym (none (call ∷ [])) ∙ sym (goes []))
        ]

-- ---- what the file of each name held last

abbrev pub Held : Type 0
Held = Option (List ℕ) × Option (List ℕ)

same_behind : (f g : List ℕ → Held) (o : Option (List ℕ)) (found : Held) → ((q : List ℕ) → f q ≡ g q) → option_map_or f o found ≡ option_map_or g o found
same_behind f g None found same = refl
same_behind f g (Some q) found same = same q

-- of the calls in front it is the same, where each file that is there after them holds last what it
-- holds there
held_front : (front after : List Call) (now then : Disk) → ((q : List ℕ) → held_last after now q ≡ (get then.files q, then.synced q)) → (q : List ℕ) → held_last (front ++ after) now q ≡ held_last front then q
held_front [] after now then same q = same q
held_front (call ∷ front) after now then same q =
    same_behind (held_last (front ++ after) now) (held_last front then) (name_behind call.change q) (get call.found.files q, call.found.synced q) (λ p. held_front front after now then same p)

-- what goes on under its name holds now what it held last
held_carried : (calls : List Call) (now : Disk) (q : List ℕ) → IsCarriedBy calls q → held_last calls now q ≡ (get now.files q, now.synced q)
held_carried [] now q h = refl
held_carried (call ∷ calls) now q h =
    ap (λ (o : Option (List ℕ)). option_map_or (held_last calls now) o (get call.found.files q, call.found.synced q)) h.0 ∙ held_carried calls now q h.1

-- a loss with the same names, where each file held last the same
lost_front : (at lost : Files) (calls front : List Call) (now then : Disk) → ((q : List ℕ) → held_last calls now q ≡ held_last front then q) → IsLost at calls now lost → IsLost at front then lost
lost_front at lost calls front now then same h = record {
  names = h.names;
  beginning = λ q bytes there. let b = h.beginning q bytes there in (b.0, sym (ap (λ (p : Held). p.0) (same q)) ∙ b.1, b.2);
  kept = λ q bytes synced there is. h.kept q bytes synced there (ap (λ (p : Held). p.1) (same q) ∙ is);
}

-- The names as an earlier call found them, or what is said of the later calls.
since_front : (front after : List Call) (now then : Disk) (lost : Files) (rest : Type 0) → ((q : List ℕ) → held_last after now q ≡ (get then.files q, then.synced q))
    → (IsLostSince after now lost → IsLostSince [] then lost ⊎ rest) → IsLostSince (front ++ after) now lost → IsLostSince front then lost ⊎ rest
since_front [] after now then lost rest same behind h = behind h
since_front (call ∷ front) after now then lost rest same behind (inl h) = inl (inl (lost_front call.found.files lost (call ∷ front ++ after) (call ∷ front) now then (λ q. held_front (call ∷ front) after now then same q) h))
since_front (call ∷ front) after now then lost rest same behind (inr h) = elim (since_front front after now then lost rest same behind h) [ inl before ↦ inl (inr before) | inr later ↦ inr later ]

-- ---- a file that is made, and what is written after it

-- The call that makes it, and some that carry the names of the others.
module _ (a : Facts) (name : List ℕ) where
  abbrev pub making : Call
  making = record { found = disk_of a; change = Creation name }

  goes_behind : (more : List Call) (now : Disk) (q : List ℕ) (o : Option (List ℕ)) → name_behind (Creation name) q ≡ o → held_last (making ∷ more) now q ≡ option_map_or (held_last more now) o (get a.files q, a.synced q)
  goes_behind more now q o is = ap (λ (p : Option (List ℕ)). option_map_or (held_last more now) p (get a.files q, a.synced q)) is

  -- files of other names go on after it
  pub made_other : (more : List Call) (now : Disk) (q : List ℕ) → q ≢ name → IsCarriedBy more q → held_last (making ∷ more) now q ≡ (get now.files q, now.synced q)
  made_other more now q apart carried = goes_behind more now q (Some q) (unnamed_stays (Creation name) q apart) ∙ held_carried more now q carried

  -- the one of this name ends
  made_itself : (more : List Call) (now : Disk) (q : List ℕ) → q ≡ name → held_last (making ∷ more) now q ≡ (get a.files q, a.synced q)
  made_itself more now q is = goes_behind more now q None (ap (λ (b : Bool). cond b None (Some q)) (ap (λ (n : List ℕ). is_same n name) is ∙ itself name))

  -- so that each held last what it holds before it
  made_held : (more : List Call) (now : Disk) → ((q : List ℕ) → q ≢ name → IsCarriedBy more q) → ((q : List ℕ) → q ≢ name → (get now.files q ≡ get a.files q) × (now.synced q ≡ a.synced q))
      → (q : List ℕ) → held_last (making ∷ more) now q ≡ (get a.files q, a.synced q)
  made_held more now carried same q = elim (same_or_not q name) [
    | inl is ↦ made_itself more now q is
    | inr apart ↦ made_other more now q apart (carried q apart) ∙ (λ i. ((same q apart).0 i, (same q apart).1 i))
  ]

  -- the others are as they were
  pub made_files : (made : Facts) → Adds a made (Creation name) → (q : List ℕ) → q ≢ name → get made.files q ≡ get a.files q
  made_files made adds q apart = ap (λ (files : Files). get files q) adds.1 ∙ get_other a.files name [] q apart

-- after it come calls that carry the names of the files that aren't mine
abbrev pub Each : Files → (List ℕ → Type 0) → List Call → Type 0
Each files mine calls = AllByRecursion (λ (call : Call). (q : List ℕ) → (mine q → ⊥) → (name_behind call.change q ≡ Some q) × (contains_key call.found.files q ≡ contains_key files q)) calls

pub carried_each : (files : Files) (mine : List ℕ → Type 0) (calls : List Call) (q : List ℕ) → (mine q → ⊥) → Each files mine calls → IsCarriedBy calls q
carried_each files mine [] q apart h = tt
carried_each files mine (call ∷ calls) q apart h = ((h.0 q apart).0, carried_each files mine calls q apart h.1)

module _ (a made now : Facts) (name : List ℕ) (mine : List ℕ → Type 0) (adds : Adds a made (Creation name)) (c : CarriesBut made now mine) where
  calls_behind : behind_sync [] now.calls ≡ behind_sync (behind_sync [] a.calls ++ making a name ∷ []) c.more
  calls_behind =
      ap (behind_sync []) c.calls ∙ behind_more [] made.calls c.more
      ∙ ap (λ (calls : List Call). behind_sync calls c.more) (ap (behind_sync []) adds.0 ∙ behind_more [] a.calls (making a name ∷ []))

  -- Since it no sync came, or one did.
  pub since_made : (lost : Files) → IsLostSince (behind_sync [] now.calls) (disk_of now) lost
      → ((behind_sync [] c.more ≡ c.more) × IsLostSince (behind_sync [] a.calls ++ making a name ∷ c.more) (disk_of now) lost) ⊎ IsLostSince (behind_sync [] c.more) (disk_of now) lost
  since_made lost h = elim (either_sync c.more) [
    | inl all ↦ inl (all [], subst (λ (calls : List Call). IsLostSince calls (disk_of now) lost) (calls_behind ∙ all (behind_sync [] a.calls ++ making a name ∷ []) ∙ append_assoc (behind_sync [] a.calls) (making a name ∷ []) c.more) h)
    | inr none ↦ inr (subst (λ (calls : List Call). IsLostSince calls (disk_of now) lost) (calls_behind ∙ none (behind_sync [] a.calls ++ making a name ∷ [])) h)
  ]

  -- after it each of the others is left under its name
  pub left_behind : (lost : Files) → IsLostSince (behind_sync [] c.more) (disk_of now) lost → (q : List ℕ) → (mine q → ⊥) → ReadsLeft now lost q
  left_behind lost h q apart =
      let first : Facts = record made { calls = [] } in
      let second : Facts = record now { calls = c.more } in
      let stays : HasStayed (behind_sync [] c.more) (contains_key now.files q) q =
      stays_on first second mine q apart (record { more = c.more; calls = refl; each = c.each; now = c.now; synced = c.synced }) tt in
      reads_left now lost q (behind_sync [] c.more) stays h

-- ---- one new file is begun and written

-- at a moment after its creation
started_at : (a made now : Facts) (name : List ℕ) → contains_key a.files name ≡ false → Adds a made (Creation name) → ((q : List ℕ) → q ≢ name → made.synced q ≡ a.synced q) → KeepsAt made now (λ (q : List ℕ). q ≡ name)
    → (lost : Files) → IsLostSince (behind_sync [] now.calls) (disk_of now) lost → Lost a (moment a) lost ⊎ Lost a (moment a) (remove lost name)
started_at a made now name lacks adds synced k lost h =
    let mine : List ℕ → Type 0 = λ q. q ≡ name in
    let c = k.carries in
    let files : (q : List ℕ) → q ≢ name → get now.files q ≡ get a.files q = λ q apart. k.files q apart ∙ made_files a name made adds q apart in
    let kept : (q : List ℕ) → q ≢ name → now.synced q ≡ a.synced q = λ q apart. k.synced q apart ∙ synced q apart in
    let behind : IsLostSince (behind_sync [] c.more) (disk_of now) lost → Lost a (moment a) (remove lost name) = λ later. without a now name lost lacks files kept (λ q apart. left_behind a made now name mine adds c lost later q apart) in
    let held : (q : List ℕ) → held_last (making a name ∷ c.more) (disk_of now) q ≡ (get a.files q, a.synced q) =
    made_held a name c.more (disk_of now) (λ q apart. carried_each made.files mine c.more q apart c.each) (λ q apart. (files q apart, kept q apart)) in
    elim (since_made a made now name mine adds c lost h) [
      | inl both ↦
          let base : IsLostSince (making a name ∷ c.more) (disk_of now) lost → IsLostSince [] (disk_of a) lost ⊎ Lost a (moment a) (remove lost name) = λ all. elim all [
            | inl found ↦ inl (lost_front a.files lost (making a name ∷ c.more) [] (disk_of now) (disk_of a) held found)
            | inr later ↦ inr (behind (subst (λ (calls : List Call). IsLostSince calls (disk_of now) lost) (sym both.0) later))
          ] in
          elim (since_front (behind_sync [] a.calls) (making a name ∷ c.more) (disk_of now) (disk_of a) lost (Lost a (moment a) (remove lost name)) held base both.1) [
            | inl front ↦ inl (lost_now a lost front)
            | inr later ↦ inr later
          ]
      | inr later ↦ inr (behind later)
    ]

-- it was so before it, the file removed or not
abbrev IsEarlier : Facts → List ℕ → Files → Type 0
IsEarlier a name lost = Lost a (moment a) lost ⊎ Lost a (moment a) (remove lost name)

started_behind : (a made b : Facts) (name : List ℕ) → contains_key a.files name ≡ false → Adds a made (Creation name) → ((q : List ℕ) → q ≢ name → made.synced q ≡ a.synced q) → OnlyIt made b name → LosesOnly made b (IsEarlier a name)
started_behind a made b name lacks adds synced only =
    loses_at made b (IsEarlier a name) (λ m least most lost at.
    started_at a made (facts_at b m) name lacks adds synced (keeps_at made b (λ (q : List ℕ). q ≡ name) m only least) lost (lost_here (facts_at b m) lost at))

-- What a loss leaves is what one left at the beginning, or is so without the file.
pub lost_started : (a b : Facts) (name : List ℕ) → contains_key a.files name ≡ false → ((q : List ℕ) → q ≢ name → b.synced q ≡ a.synced q) → StartsNew a b name → (lost : Files) → Lost b (moment a) lost
    → Lost a (moment a) lost ⊎ Lost a (moment a) (remove lost name)
lost_started a b name lacks synced (inl idle) lost h =
    inl (loses_same a b (λ (files : Files). Lost a (moment a) files) idle.0 (ap (λ (disk : Disk). disk.files) idle.1) (ap (λ (disk : Disk). disk.synced) idle.1) (λ files earlier. earlier) lost h)
lost_started a b name lacks synced (inr starts) lost h =
    let made = starts.0 in
    let adds = starts.1 in
    let only = starts.2 in
    let kept : (q : List ℕ) → q ≢ name → made.synced q ≡ a.synced q = λ q apart. sym (only.synced q apart) ∙ synced q apart in
    let P : Files → Type 0 = IsEarlier a name in
    let here : LosesOnly made made P = started_behind a made made name lacks adds kept (others_same made made (λ (q : List ℕ). q ≡ name) refl refl refl) in
    loses_both a made b only.leaves.more P only.leaves.calls (loses_noted a made (Creation name) P (inr adds) (λ files earlier. inl earlier) here) (started_behind a made b name lacks adds kept only) lost h

-- ---- one empty file is made, after a sync

none_begins : (bytes : List ℕ) → BeginsWith [] bytes → bytes ≡ []
none_begins [] h = refl
none_begins (x ∷ bytes) h = absurd (let long : 0 ≡ length (x ∷ bytes ++ h.0) = ap length h.1 in omega (arith, long))

left_empty : (facts : Facts) (lost : Files) (name : List ℕ) → get facts.files name ≡ Some [] → ReadsLeft facts lost name → get lost name ≡ Some []
left_empty facts lost name there left =
    let some = some_of (get lost name) (left.name ∙ ap is_some there) in
    let begun = left.begun.beginning some.0 some.1 in
    let none : begun.0 ≡ [] = (let both : Some begun.0 ≡ Some [] = sym begun.1 ∙ there in cc) in
    some.1 ∙ ap Some (none_begins some.0 (subst (λ (bytes : List ℕ). BeginsWith bytes some.0) none begun.2))

-- What a loss leaves is what one left at the beginning, or is so without the file, which is empty.
pub lost_log : (a b : Facts) (name : List ℕ) → behind_sync [] a.calls ≡ [] → contains_key a.files name ≡ false → Adds a b (Creation name) → ((q : List ℕ) → q ≢ name → b.synced q ≡ a.synced q) → (lost : Files) → Lost b (moment a) lost
    → Lost a (moment a) lost ⊎ (Lost a (moment a) (remove lost name) × (get lost name ≡ Some []))
lost_log a b name none lacks adds synced =
    let call : Call = making a name in
    let P : Files → Type 0 = λ lost. Lost a (moment a) lost ⊎ (Lost a (moment a) (remove lost name) × (get lost name ≡ Some [])) in
    let files : (q : List ℕ) → q ≢ name → get b.files q ≡ get a.files q = made_files a name b adds in
    let empty : get b.files name ≡ Some [] = ap (λ (fs : Files). get fs name) adds.1 ∙ get_same a.files name [] in
    let calls : behind_sync [] b.calls ≡ call ∷ [] = ap (behind_sync []) adds.0 ∙ behind_more [] a.calls (call ∷ []) ∙ ap (λ (cs : List Call). behind_sync cs (call ∷ [])) none in
    let held : (q : List ℕ) → held_last (call ∷ []) (disk_of b) q ≡ (get a.files q, a.synced q) = made_held a name [] (disk_of b) (λ q apart. tt) (λ q apart. (files q apart, synced q apart)) in
    loses_noted a b (Creation name) P (inr adds) (λ lost h. inl h) (λ lost h.
    elim (subst (λ (cs : List Call). IsLostSince cs (disk_of b) lost) calls (lost_here b lost h)) [
      | inl found ↦ inl (lost_now a lost (since_last (behind_sync [] a.calls) (disk_of a) lost (lost_front a.files lost (call ∷ []) [] (disk_of b) (disk_of a) held found)))
      | inr now ↦ inr (without a b name lost lacks files synced (λ q apart. now_left b lost q now), left_empty b lost name empty (now_left b lost name now))
    ])

-- ---- `CURRENT` is set

-- without the temporary file, and with `CURRENT` and one file more as they were
abbrev pub unset : Facts → Files → List ℕ → List ℕ → Files
unset mid lost temporary other = with_file (with_file (remove lost temporary) (name_of Current) (get mid.files (name_of Current))) other (get mid.files other)

pub unset_other : (mid : Facts) (lost : Files) (temporary other : List ℕ) → get (unset mid lost temporary other) other ≡ get mid.files other
unset_other mid lost temporary other = with_file_same (with_file (remove lost temporary) (name_of Current) (get mid.files (name_of Current))) other (get mid.files other)

pub unset_current : (mid : Facts) (lost : Files) (temporary other : List ℕ) → get (unset mid lost temporary other) (name_of Current) ≡ get mid.files (name_of Current)
unset_current mid lost temporary other = elim (same_or_not (name_of Current) other) [
  | inl is ↦ ap (λ (q : List ℕ). get (unset mid lost temporary other) q) is ∙ unset_other mid lost temporary other ∙ ap (λ (q : List ℕ). get mid.files q) (sym is)
  | inr apart ↦
      with_file_other (with_file (remove lost temporary) (name_of Current) (get mid.files (name_of Current))) other (get mid.files other) (name_of Current) apart
      ∙ with_file_same (remove lost temporary) (name_of Current) (get mid.files (name_of Current))
]

but_temporary : (mid : Facts) (lost : Files) (temporary other q : List ℕ) → q ≢ name_of Current → q ≢ other → get (unset mid lost temporary other) q ≡ get (remove lost temporary) q
but_temporary mid lost temporary other q first second =
    with_file_other (with_file (remove lost temporary) (name_of Current) (get mid.files (name_of Current))) other (get mid.files other) q second
    ∙ with_file_other (remove lost temporary) (name_of Current) (get mid.files (name_of Current)) q first

pub unset_beside : (mid : Facts) (lost : Files) (temporary other q : List ℕ) → q ≢ temporary → q ≢ name_of Current → q ≢ other → get (unset mid lost temporary other) q ≡ get lost q
unset_beside mid lost temporary other q apart first second = but_temporary mid lost temporary other q first second ∙ gone_other lost temporary q apart

module _ (mid then : Facts) (temporary bytes other : List ℕ) (set : IsSet mid then temporary bytes) (lacks : contains_key mid.files temporary ≡ false) (sound : SyncsBeginning mid (name_of Current)) (lost : Files)
    (h : IsLost then.files [] (disk_of then) lost) where
  -- of what is there what is synced is a beginning, since the loss has it
  set_sound : (q : List ℕ) → SyncsBeginning mid q
  set_sound q = elim (same_or_not q (name_of Current)) [
    | inl is ↦ subst (λ (n : List ℕ). SyncsBeginning mid n) (sym is) sound
    | inr first ↦ elim (same_or_not q temporary) [
      | inl is ↦ λ held synced there kept. absurd (let bad : true ≡ false = sym (ap is_some there) ∙ ap (λ (n : List ℕ). contains_key mid.files n) is ∙ lacks in cc)
      | inr apart ↦ λ held synced there kept.
          let same = set.others q apart first in
          let was : get then.files q ≡ Some held = same.0 ∙ there in
          sound_left then lost q h (h.names q ∙ ap is_some was) held synced was (same.1 ∙ kept)
    ]
  ]

  set_each : (q : List ℕ) → ReadsLeft mid (unset mid lost temporary other) q
  set_each q = elim (same_or_not q other) [
    | inl is ↦
        let same : get (unset mid lost temporary other) q ≡ get mid.files q = ap (λ (n : List ℕ). get (unset mid lost temporary other) n) is ∙ unset_other mid lost temporary other ∙ ap (λ (n : List ℕ). get mid.files n) (sym is) in
        left_whole mid (unset mid lost temporary other) q same (set_sound q)
    | inr second ↦ elim (same_or_not q (name_of Current)) [
      | inl is ↦
          let same : get (unset mid lost temporary other) q ≡ get mid.files q = ap (λ (n : List ℕ). get (unset mid lost temporary other) n) is ∙ unset_current mid lost temporary other ∙ ap (λ (n : List ℕ). get mid.files n) (sym is) in
          left_whole mid (unset mid lost temporary other) q same (set_sound q)
      | inr first ↦ elim (same_or_not q temporary) [
        | inl is ↦
            let gone : get (unset mid lost temporary other) q ≡ None = but_temporary mid lost temporary other q first second ∙ ap (λ (n : List ℕ). get (remove lost temporary) n) is ∙ gone_same lost temporary in
            left_gone mid (unset mid lost temporary other) q gone (ap (λ (n : List ℕ). contains_key mid.files n) is ∙ lacks)
        | inr apart ↦
            let same = set.others q apart first in
            left_like mid lost (unset mid lost temporary other) q (unset_beside mid lost temporary other q apart first second) (left_on mid then lost q same.0 same.1 (now_left then lost q h))
      ]
    ]
  ]

-- It is a loss before that, if the loss has the names of now.
pub lost_set : (mid then : Facts) (temporary bytes other : List ℕ) → IsSet mid then temporary bytes → contains_key mid.files temporary ≡ false → SyncsBeginning mid (name_of Current) → (lost : Files)
    → IsLost then.files [] (disk_of then) lost → Lost mid (moment mid) (unset mid lost temporary other)
lost_set mid then temporary bytes other set lacks sound lost h = lost_each mid (unset mid lost temporary other) (set_each mid then temporary bytes other set lacks sound lost h)
