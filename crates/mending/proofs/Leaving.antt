-- What mending leaves of a directory.
use Rattle.std.proofs.Common.{Bool, true, false, cond, ◌≡◌, ◌≢◌, ◌≤◌, ℕ, List, [], ◌∷◌, Option, Some, None, IsTrue, inl, inr, refl, sym, ap, subst, ◌∙◌, arith}
use Rattle.std.specs.List.{AllByRecursion}
use Rattle.std.specs.FinMap.{get, contains_key, insert}
use Rattle.store.specs.Files.{Files, Facts, MayLock, lock_name}
use Rattle.store.specs.Stops.{LeavesOnly}
use Rattle.coding.specs.declared.error.DbError.{DbError}
use Rattle.coding.specs.declared.error.DbError.TheVariants.{OutOfMemory, Io, Locked, Corrupt, Unsupported}
use Rattle.mending.specs.Calls.{Reads, RefusesMend}
use Rattle.mending.specs.Replacing.{Writes}
use Rattle.store.proofs.Stopping.{leaves_both, leaves_so, leaves_same}
use Rattle.edits.specs.Names.{name_of, IsNumbered}
use Rattle.edits.specs.declared.layout.Layout.{Layout}
use Rattle.edits.specs.declared.names.FileName.{FileName}
use Rattle.edits.specs.declared.names.FileName.TheVariants.{Current, Lock, Log, Table, OldTable, Manifest, Temporary}
use Rattle.edits.proofs.FileNames.{one_file}
use Rattle.mending.specs.Cutting.{IsReadable}
use Rattle.mending.specs.Plans.{IsPlain, IsSound, IsMine, HasCutOf, ArePlanned, HasLayout, IsPlan}
use Rattle.mending.specs.Mending.{temporary_of, IsLogged, HasFront, AreBetween, AreBetweenLost, AreDone, IsCutThere, MendsOnly, KeepsAll, MayMend, MayMendLost, AreMended}
use Rattle.mending.specs.declared.ends.Ends.{Ends}
use Rattle.mending.specs.declared.finding.Cut.{Cut}
use Rattle.mending.proofs.AppliedCuts.{apart_from}
use Rattle.mending.proofs.Writing.{get_other}

abbrev IsGood : Ends → Files → ℕ → Layout → Cut → Type 0
IsGood ends files number layout cut = IsMine number layout cut.file × IsSound ends files cut.file cut

-- ---- in the middle

cut_there : (ends : Ends) (old files : Files) (number : ℕ) (layout : Layout) (cuts : List Cut) (q : List ℕ) → AllByRecursion (IsGood ends old number layout) cuts → HasFront cuts q (get files q) → IsCutThere ends old files number layout q
cut_there ends old files number layout [] q all h = absurd h
cut_there ends old files number layout (c ∷ cuts) q all (inl h) =
    let sound = all.0.1 in
    record {
      file = c.file;
      mine = all.0.0;
      named = h.0;
      bytes = sound.1;
      held = ap (λ (r : List ℕ). get old r) h.0 ∙ sound.2;
      front = c.front.items;
      there = h.1;
      cut = sound.3;
      readable = sound.4;
    }
cut_there ends old files number layout (c ∷ cuts) q all (inr h) = cut_there ends old files number layout cuts q all.1 h

apart_all : (ends : Ends) (old : Files) (number : ℕ) (layout : Layout) (cuts : List Cut) (q : List ℕ) → AllByRecursion (IsGood ends old number layout) cuts → ((file : FileName) → IsMine number layout file → q ≡ temporary_of file → ⊥)
    → AllByRecursion (λ (cut : Cut). q ≢ temporary_of cut.file) cuts
apart_all ends old number layout [] q all apart = tt
apart_all ends old number layout (c ∷ cuts) q all apart = (apart c.file all.0.0, apart_all ends old number layout cuts q all.1 apart)

pub mended_only : (name : List ℕ) (ends : Ends) (old before files : Files) (number : ℕ) (layout : Layout) (cuts : List Cut) → IsNumbered number → HasLayout name ends old number layout → ArePlanned ends old number layout cuts
    → AreBetweenLost cuts before files → MendsOnly name ends old before files number layout
mended_only name ends old before files number layout cuts numbered has planned between = record {
  numbered = numbered;
  has = has;
  each = λ q locked apart. elim (between q locked (apart_all ends old number layout cuts q planned.sound apart)) [
    | inl same ↦ inl same
    | inr front ↦ inr (cut_there ends old files number layout cuts q planned.sound front)
  ];
}

-- ---- at the end

front_readable : (ends : Ends) (old : Files) (number : ℕ) (layout : Layout) (cuts : List Cut) (q bytes : List ℕ) (content : Option (List ℕ)) → AllByRecursion (IsGood ends old number layout) cuts → HasFront cuts q content → content ≡ Some bytes → IsReadable bytes
front_readable ends old number layout [] q bytes content all h e = absurd h
front_readable ends old number layout (c ∷ cuts) q bytes content all (inl h) e =
    let both : Some c.front.items ≡ Some bytes = sym h.1 ∙ e in
    let same : c.front.items ≡ bytes = cc in
    subst IsReadable same all.0.1.4
front_readable ends old number layout (c ∷ cuts) q bytes content all (inr h) e = front_readable ends old number layout cuts q bytes content all.1 h e

done_of : (cuts done : List Cut) (files : Files) (file : FileName) → AreDone cuts done files → HasCutOf done file → HasFront cuts (name_of file) (get files (name_of file))
done_of cuts [] files file h k = absurd k
done_of cuts (c ∷ done) files file h (inl e) = subst (λ (f : FileName). HasFront cuts (name_of f) (get files (name_of f))) e h.0
done_of cuts (c ∷ done) files file h (inr k) = done_of cuts done files file h.1 k

pub mine_logged : (number : ℕ) (layout : Layout) (file : FileName) → IsNumbered number → IsMine number layout file → IsLogged file
mine_logged number layout (Manifest n) numbered mine = subst IsNumbered (sym mine) numbered
mine_logged number layout (Log n) numbered mine = mine.0
mine_logged number layout Current numbered mine = absurd mine
mine_logged number layout Lock numbered mine = absurd mine
mine_logged number layout (Table n) numbered mine = absurd mine
mine_logged number layout (OldTable n) numbered mine = absurd mine
mine_logged number layout (Temporary n) numbered mine = absurd mine

pub plain_now : (ends : Ends) (old files : Files) (number : ℕ) (layout : Layout) (cuts : List Cut) → IsNumbered number → ArePlanned ends old number layout cuts → AreBetween cuts old files → AreDone cuts cuts files
    → (file : FileName) → IsMine number layout file → IsPlain files file
plain_now ends old files number layout cuts numbered planned between done file mine bytes there =
    let q = name_of file in
    let apart = apart_all ends old number layout cuts q planned.sound (λ other theirs e. apart_from file other (mine_logged number layout file numbered mine) (mine_logged number layout other numbered theirs) e) in
    elim (between q apart) [
      | inl same ↦ elim (planned.rest file mine) [
        | inl plain ↦ plain bytes (sym same ∙ there)
        | inr has ↦ front_readable ends old number layout cuts q bytes (get files q) planned.sound (done_of cuts cuts files file done has) there
      ]
      | inr front ↦ front_readable ends old number layout cuts q bytes (get files q) planned.sound front there
    ]

-- ---- by the plan

kept_all : (old files : Files) (cuts : List Cut) → cuts ≡ [] → AreBetweenLost cuts old files → KeepsAll old files
kept_all old files cuts none between q locked = elim (subst (λ (cs : List Cut). AreBetweenLost cs old files) none between q locked tt) [ inl same ↦ same | inr front ↦ absurd front ]

but_lock : (cuts : List Cut) (old files : Files) → AreBetween cuts old files → AreBetweenLost cuts old files
but_lock cuts old files between q locked apart = between q apart

-- what a power loss leaves
pub plan_lost : (name : List ℕ) (ends : Ends) (old before lost : Files) (manifest : Option ℕ) (cuts : List Cut) → IsPlan name ends old manifest cuts → AreBetweenLost cuts before lost → MayMendLost name ends old before lost
plan_lost name ends old before lost None cuts plan between = inl (kept_all before lost cuts plan.1 between)
plan_lost name ends old before lost (Some number) cuts plan between = inr (number, plan.1, mended_only name ends old before lost number plan.1 cuts plan.0.2.0 plan.2 plan.3 between)

pub plan_may : (name : List ℕ) (ends : Ends) (old files : Files) (manifest : Option ℕ) (cuts : List Cut) → IsPlan name ends old manifest cuts → AreBetween cuts old files → MayMend name ends old files
plan_may name ends old files None cuts plan between = inl (kept_all old files cuts plan.1 (but_lock cuts old files between))
plan_may name ends old files (Some number) cuts plan between = inr (number, plan.1, mended_only name ends old old files number plan.1 cuts plan.0.2.0 plan.2 plan.3 (but_lock cuts old files between))

pub plan_mends : (name : List ℕ) (ends : Ends) (old files : Files) (manifest : Option ℕ) (cuts : List Cut) → IsPlan name ends old manifest cuts → AreBetween cuts old files → AreDone cuts cuts files → AreMended name ends old files manifest
plan_mends name ends old files None cuts plan between done = kept_all old files cuts plan.1 (but_lock cuts old files between)
plan_mends name ends old files (Some number) cuts plan between done =
    (plan.0, plan.1, mended_only name ends old old files number plan.1 cuts plan.0.2.0 plan.2 plan.3 (but_lock cuts old files between), plain_now ends old files number plan.1 cuts plan.0.2.0 plan.3 between done)

-- ---- behind the lock

pub locked_keeps : (old mid : Files) → MayLock old mid → KeepsAll old mid
locked_keeps old mid (inl same) q locked = ap (λ (f : Files). get f q) same
locked_keeps old mid (inr made) q locked = ap (λ (f : Files). get f q) made ∙ made_other (contains_key old lock_name)
  where
    made_other : (there : Bool) → get (cond there old (insert old lock_name [])) q ≡ get old q
    made_other true = refl
    made_other false = get_other old lock_name [] q locked

pub lock_apart : (file : FileName) → IsLogged file → name_of file ≢ lock_name
lock_apart (Log n) h e = let both : Log n ≡ Lock = one_file (Log n) Lock h tt e in cc
lock_apart (Manifest n) h e = let both : Manifest n ≡ Lock = one_file (Manifest n) Lock h tt e in cc
lock_apart Current h e = absurd h
lock_apart Lock h e = absurd h
lock_apart (Table n) h e = absurd h
lock_apart (OldTable n) h e = absurd h
lock_apart (Temporary n) h e = absurd h

current_apart : name_of Current ≢ lock_name
current_apart e = let both : Current ≡ Lock = one_file Current Lock tt tt e in cc

layout_behind : (name : List ℕ) (ends : Ends) (old mid : Files) (number : ℕ) (layout : Layout) → IsNumbered number → KeepsAll old mid → HasLayout name ends mid number layout → HasLayout name ends old number layout
layout_behind name ends old mid number layout numbered kept h = record {
  bytes = h.bytes;
  front = h.front;
  held = sym (kept (name_of (Manifest number)) (lock_apart (Manifest number) numbered)) ∙ h.held;
  becomes = h.becomes;
  says = h.says;
}

cut_behind : (ends : Ends) (old mid files : Files) (number : ℕ) (layout : Layout) (q : List ℕ) → q ≢ lock_name → KeepsAll old mid → IsCutThere ends mid files number layout q → IsCutThere ends old files number layout q
cut_behind ends old mid files number layout q locked kept h = record {
  file = h.file;
  mine = h.mine;
  named = h.named;
  bytes = h.bytes;
  held = sym (kept q locked) ∙ h.held;
  front = h.front;
  there = h.there;
  cut = h.cut;
  readable = h.readable;
}

only_behind : (name : List ℕ) (ends : Ends) (old mid before after files : Files) (number : ℕ) (layout : Layout) → KeepsAll old mid → KeepsAll before after → MendsOnly name ends mid after files number layout → MendsOnly name ends old before files number layout
only_behind name ends old mid before after files number layout kept same h = record {
  numbered = h.numbered;
  has = layout_behind name ends old mid number layout h.numbered kept h.has;
  each = λ q locked apart. elim (h.each q locked apart) [
    | inl there ↦ inl (there ∙ same q locked)
    | inr cut ↦ inr (cut_behind ends old mid files number layout q locked kept cut)
  ];
}

pub lost_behind : (name : List ℕ) (ends : Ends) (old mid before after files : Files) → KeepsAll old mid → KeepsAll before after → MayMendLost name ends mid after files → MayMendLost name ends old before files
lost_behind name ends old mid before after files kept same (inl all) = inl (λ q locked. all q locked ∙ same q locked)
lost_behind name ends old mid before after files kept same (inr some) = inr (some.0, some.1, only_behind name ends old mid before after files some.0 some.1 kept same some.2)

pub may_behind : (name : List ℕ) (ends : Ends) (old mid files : Files) → KeepsAll old mid → MayMend name ends mid files → MayMend name ends old files
may_behind name ends old mid files kept h = lost_behind name ends old mid old mid files kept kept h

pub mended_behind : (name : List ℕ) (ends : Ends) (old mid files : Files) (manifest : Option ℕ) → KeepsAll old mid → AreMended name ends mid files manifest → AreMended name ends old files manifest
mended_behind name ends old mid files None kept h = λ q locked. h q locked ∙ kept q locked
mended_behind name ends old mid files (Some number) kept h =
    ((h.0.0, sym (kept (name_of Current) current_apart) ∙ h.0.1, h.0.2), h.1, only_behind name ends old mid old mid files number h.1 kept kept h.2, h.3)

-- ---- the whole

pub writes_of : (old new : Facts) → Reads old new → Writes old new
writes_of old new r = record { faithful = r.faithful; failures = r.failures; denials = r.denials; locked = r.locked }

pub read_stops : (name : List ℕ) (ends : Ends) (old mid : Facts) → Reads old mid → IsTrue mid.faithful → LeavesOnly old mid (MayMend name ends old.files)
read_stops name ends old mid r f = leaves_same old mid (MayMend name ends old.files) (r.calls f) (r.same f) (inl (λ q locked. refl))

pub locked_stops : (name : List ℕ) (ends : Ends) (old mid new : Facts) (manifest : Option ℕ) (cuts : List Cut) → Reads old mid → IsTrue mid.faithful → IsPlan name ends old.files manifest cuts → LeavesOnly mid new (AreBetween cuts mid.files)
    → LeavesOnly old new (MayMend name ends old.files)
locked_stops name ends old mid new manifest cuts r f plan h =
    leaves_both old mid new (MayMend name ends old.files) (read_stops name ends old mid r f)
    (leaves_so mid new (AreBetween cuts mid.files) (MayMend name ends old.files)
    (λ files between. plan_may name ends old.files files manifest cuts plan (subst (λ (fs : Files). AreBetween cuts fs files) (r.same f) between)) h)

pub locked_mends : (name : List ℕ) (ends : Ends) (old mid new : Facts) (manifest : Option ℕ) (cuts : List Cut) → Reads old mid → IsTrue mid.faithful → IsPlan name ends old.files manifest cuts → LeavesOnly mid new (AreBetween cuts mid.files)
    → AreDone cuts cuts new.files → AreMended name ends old.files new.files manifest
locked_mends name ends old mid new manifest cuts r f plan h done =
    plan_mends name ends old.files new.files manifest cuts plan (subst (λ (fs : Files). AreBetween cuts fs new.files) (r.same f) h.now) done

pub lock_stops : (name : List ℕ) (ends : Ends) (old mid : Facts) → LeavesOnly old mid (MayLock old.files) → LeavesOnly old mid (MayMend name ends old.files)
lock_stops name ends old mid h = leaves_so old mid (MayLock old.files) (MayMend name ends old.files) (λ files may. inl (locked_keeps old.files files may)) h

pub mend_stops : (name : List ℕ) (ends : Ends) (old a b new : Facts) → MayLock old.files a.files → LeavesOnly old a (MayLock old.files) → LeavesOnly a b (MayMend name ends a.files) → (new.files ≡ b.files) × (new.calls ≡ b.calls) × (new.synced ≡ b.synced)
    → LeavesOnly old new (MayMend name ends old.files)
mend_stops name ends old a b new may lock h same =
    let P = MayMend name ends old.files in
    let second = leaves_so a b (MayMend name ends a.files) P (λ files m. may_behind name ends old.files a.files files (locked_keeps old.files a.files may) m) h in
    let both = leaves_both old a b P (lock_stops name ends old a lock) second in
    leaves_both old b new P both (leaves_same b new P same.1 same.0 both.now)

pub mend_mends : (name : List ℕ) (ends : Ends) (old a b new : Facts) (manifest : Option ℕ) → MayLock old.files a.files → AreMended name ends a.files b.files manifest → (new.files ≡ b.files) × (new.calls ≡ b.calls) × (new.synced ≡ b.synced) → AreMended name ends old.files new.files manifest
mend_mends name ends old a b new manifest may h same =
    subst (λ (fs : Files). AreMended name ends old.files fs manifest) (sym same.0) (mended_behind name ends old.files a.files b.files manifest (locked_keeps old.files a.files may) h)

-- a refusal with the lock in front and behind
pub refuses_around : (e : DbError) (old a b new : Facts) (D U D' U' : Type 0) → old.failures ≤ a.failures → b.failures ≤ new.failures → old.denials ≤ a.denials → new.denials ≡ b.denials → (IsTrue new.faithful → IsTrue b.faithful)
    → (IsTrue b.faithful → D → D') → (IsTrue b.faithful → U → U') → RefusesMend e a b D U → RefusesMend e old new D' U'
refuses_around OutOfMemory old a b new D U D' U' le more few same back f g h = tt
refuses_around Io old a b new D U D' U' le more few same back f g h = omega (arith, le, more, h)
refuses_around Locked old a b new D U D' U' le more few same back f g h = omega (arith, few, same, h)
refuses_around (Corrupt file what) old a b new D U D' U' le more few same back f g h = λ t. f (back t) (h (back t))
refuses_around (Unsupported what) old a b new D U D' U' le more few same back f g h = λ t. g (back t) (h (back t))
refuses_around _ old a b new D U D' U' le more few same back f g h = absurd h
