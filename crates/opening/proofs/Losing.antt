-- What a power loss leaves of what is synced.
use Rattle.std.proofs.Common.{◌≡◌, ◌≤◌, ℕ, Bool, true, false, if◌then◌else◌, List, [], ◌∷◌, ◌++◌, length, take, drop, Option, Some, None, is_some, inl, inr, refl, sym, ap, subst, ◌∙◌, arith}
use Rattle.std.proofs.lemmas.List.{append-nil, drop_all, length-append, take_all}
use Rattle.std.specs.FinMap.{get}
use Rattle.std.specs.Option.{option_or}
use Rattle.store.specs.Files.{Facts, Files, Call, disk_of}
use Rattle.store.specs.Losses.{IsLost, IsLostSince, Lost, BeginsWith, behind_sync, disk_before, is_sync}
use Rattle.store.specs.Stops.{moment}
use Rattle.edits.specs.Names.{name_of}
use Rattle.edits.specs.declared.names.FileName.TheVariants.{Current, Log, Manifest, Table, OldTable}
use Rattle.recover.specs.Directory.{Directory}
use Rattle.recover.specs.Tables.{table_at}
use Rattle.recover.specs.internal.Laws.{Agree, FreeChangeLaw}
use Rattle.opening.specs.Losses.{EndsInSync, IsKept, IsKeptWhole, IsTableKept, KeptLaw}

-- ---- after a sync

behind_end : (since calls : List Call) (call : Call) → is_sync call.change ≡ true → behind_sync since (calls ++ call ∷ []) ≡ []
behind_end since [] call is = ap (λ (b : Bool). if b then [] else since ++ call ∷ []) is
behind_end since (first ∷ calls) call is = behind_end (if is_sync first.change then [] else since ++ first ∷ []) calls call is

behind_now : (facts : Facts) → EndsInSync facts → behind_sync [] facts.calls ≡ []
behind_now facts ends = ap (behind_sync []) ends.2 ∙ behind_end [] ends.0 ends.1 ends.3

-- the names are those of now
pub lost_now : (facts : Facts) (lost : Files) → EndsInSync facts → Lost facts (moment facts) lost → IsLost facts.files [] (disk_of facts) lost
lost_now facts lost ends h =
    let least : length facts.calls ≤ h.0 = h.1 in
    let front : take h.0 facts.calls ≡ facts.calls = take_all h.0 facts.calls least in
    let rest : drop h.0 facts.calls ≡ [] = drop_all h.0 facts.calls least in
    let A : List Call → Type 0 = λ calls. IsLostSince (behind_sync [] calls) (disk_before (drop h.0 facts.calls) (disk_of facts)) lost in
    let B : List Call → Type 0 = λ calls. IsLostSince (behind_sync [] facts.calls) (disk_before calls (disk_of facts)) lost in
    let C : List Call → Type 0 = λ calls. IsLostSince calls (disk_of facts) lost in
    subst C (behind_now facts ends) (subst B rest (subst A front h.3))

-- ---- a file that is synced whole

pub none_of : (o : Option (List ℕ)) → is_some o ≡ false → o ≡ None
none_of None e = refl
none_of (Some x) e = absurd (cc)

pub some_of : (o : Option (List ℕ)) → is_some o ≡ true → (x : List ℕ) × (o ≡ Some x)
some_of None e = absurd (cc)
some_of (Some x) e = (x, refl)

no_rest : (rest : List ℕ) → length rest ≡ 0 → rest ≡ []
no_rest [] e = refl
no_rest (x ∷ rest) e = absurd (omega (arith, e))

-- two that begin with each other are the same
pub both_begin : (a b : List ℕ) → BeginsWith a b → BeginsWith b a → a ≡ b
both_begin a b h k =
    let whole : length h.0 ≡ 0 = omega (arith, ap length h.1, ap length k.1, length-append b h.0, length-append a k.0) in
    h.1 ∙ ap (λ (rest : List ℕ). b ++ rest) (no_rest h.0 whole) ∙ append-nil b

same_of : (facts : Facts) (lost : Files) (q : List ℕ) (o : Option (List ℕ)) → IsLost facts.files [] (disk_of facts) lost → IsKept facts q → get facts.files q ≡ o → get lost q ≡ o
same_of facts lost q None h kept is = none_of (get lost q) (h.names q ∙ ap is_some is)
same_of facts lost q (Some bytes) h kept is =
    let there = some_of (get lost q) (h.names q ∙ ap is_some is) in
    let begun = h.beginning q there.0 there.1 in
    let held : begun.0 ≡ bytes = (let both : Some begun.0 ≡ Some bytes = sym begun.1 ∙ is in cc) in
    let front : BeginsWith bytes there.0 = subst (λ (b : List ℕ). BeginsWith b there.0) held begun.2 in
    there.1 ∙ ap Some (both_begin there.0 bytes (h.kept q there.0 bytes there.1 (kept bytes is)) front)

pub same_at : (facts : Facts) (lost : Files) (q : List ℕ) → IsLost facts.files [] (disk_of facts) lost → IsKept facts q → get lost q ≡ get facts.files q
same_at facts lost q h kept = same_of facts lost q (get facts.files q) h kept refl

-- ---- a directory of such files

table_found : (facts : Facts) (lost : Files) (n : ℕ) (o : Option (List ℕ)) → get facts.files (name_of (Table n)) ≡ o → IsLost facts.files [] (disk_of facts) lost → IsTableKept facts n → table_at lost n ≡ table_at facts.files n
table_found facts lost n None is h kept =
    let first = same_at facts lost (name_of (Table n)) h kept.0 in
    let second = same_at facts lost (name_of (OldTable n)) h (kept.1 is) in
    λ i. option_or (first i) (second i)
table_found facts lost n (Some file) is h kept =
    let first : get lost (name_of (Table n)) ≡ Some file = same_at facts lost (name_of (Table n)) h kept.0 ∙ is in
    let there : table_at lost n ≡ Some file = ap (λ (o : Option (List ℕ)). option_or o (get lost (name_of (OldTable n)))) first in
    let was : table_at facts.files n ≡ Some file = ap (λ (o : Option (List ℕ)). option_or o (get facts.files (name_of (OldTable n)))) is in
    there ∙ sym was

-- the table reads the same
pub table_lost : (facts : Facts) (lost : Files) (n : ℕ) → IsLost facts.files [] (disk_of facts) lost → IsTableKept facts n → table_at lost n ≡ table_at facts.files n
table_lost facts lost n h kept = table_found facts lost n (get facts.files (name_of (Table n))) refl h kept

pub agree_lost : (facts : Facts) (lost : Files) (d : Directory) → IsLost facts.files [] (disk_of facts) lost → IsKeptWhole facts lost d → Agree facts.files lost d
agree_lost facts lost d h k = record {
  current = same_at facts lost (name_of Current) h k.current;
  manifest = same_at facts lost (name_of (Manifest d.manifest)) h k.manifest;
  logs = λ n num live. same_at facts lost (name_of (Log n)) h (k.logs n num live);
  tables = λ content among. elim (k.tables content among) [
    | inl kept ↦ table_lost facts lost content.placed.table.number h kept
    | inr left ↦ left
  ];
}

pub kept_whole : FreeChangeLaw → KeptLaw
kept_whole law order facts d lost c k ends h = law order facts.files lost d (agree_lost facts lost d (lost_now facts lost ends h) k) c
