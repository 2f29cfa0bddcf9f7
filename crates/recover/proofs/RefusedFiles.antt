-- Files that are refused before they are decoded: a `CURRENT` that is too long, and what is no log.
use Rattle.std.proofs.Common.{◌≡◌, ◌<◌, ◌≤◌, ◌^◌, ℕ, List, [], ◌∷◌, ◌++◌, length, Some, IsTrue, sym, ap, ◌∙◌, arith}
use Rattle.std.specs.FinMap.{get}
use Rattle.std.specs.Fmt.{decimal}
use Rattle.std.proofs.lemmas.Fmt.{length-decimal-le}
use Rattle.std.proofs.lemmas.List.{length-append}
use Rattle.coding.specs.declared.error.DbError.{DbError}
use Rattle.ikey.specs.Orders.{Order}
use Rattle.edits.specs.Names.{name_of, IsNumbered}
use Rattle.edits.specs.declared.names.FileName.TheVariants.{Current, Log, Manifest}
use Rattle.edits.proofs.FileNames.{length-padded}
use Rattle.store.specs.Files.{Files, Facts}
use Rattle.recover.specs.Entries.{RiseAbove}
use Rattle.recover.specs.Logs.{LogContent, HasLog, batch_entries}
use Rattle.recover.specs.internal.Parts.{IsUnchanged, HoldsNoLog}
use Rattle.recover.specs.Reading.{HasNoManifest, RefusesDirectory, IsBeyondReading}
use Rattle.recover.proofs.OneMeaning.{same_current}
use Rattle.recover.proofs.Refused.{unchanged_itself, refuses_later}

-- ---- `CURRENT`

digits_fit : (n : ℕ) → n < 2 ^ 64 → length (decimal n) ≤ 20
digits_fit n small = length-decimal-le 20 n (omega arith) (omega (arith, small)) small

name_fits : (n : ℕ) → IsNumbered n → length (name_of (Manifest n) ++ 10 ∷ []) ≤ 64
name_fits n numbered = omega (arith, length-append (name_of (Manifest n)) (10 ∷ []), length-padded n, digits_fit n numbered.1)

pub current_refused : (order : Order) (a b : Facts) (e : DbError)
    → RefusesDirectory e a b ((bytes : List ℕ) → get a.files (name_of Current) ≡ Some bytes → length bytes ≤ 64 → ⊥) ⊥
    → RefusesDirectory e a b (HasNoManifest order a.files) (IsBeyondReading order a.files)
current_refused order a b e refused =
    refuses_later e a a b ((bytes : List ℕ) → get a.files (name_of Current) ≡ Some bytes → length bytes ≤ 64 → ⊥) ⊥ (HasNoManifest order a.files) (IsBeyondReading order a.files) (unchanged_itself a)
    (λ t none n edits layout m. none (name_of (Manifest n) ++ 10 ∷ []) m.current (name_fits n m.numbered))
    (λ t u. absurd u) refused

-- ---- the MANIFEST that it names

pub manifest_no_log : (order : Order) (a b c : Facts) (e : DbError) (number : ℕ) (current name : List ℕ) → IsUnchanged a b → IsUnchanged b c
    → IsNumbered number → current ≡ name_of (Manifest number) ++ 10 ∷ [] → (IsTrue b.faithful → get a.files (name_of Current) ≡ Some current) → name ≡ name_of (Manifest number)
    → RefusesDirectory e b c (HoldsNoLog b.files name) ⊥ → RefusesDirectory e a c (HasNoManifest order a.files) (IsBeyondReading order a.files)
manifest_no_log order a b c e number current name h g numbered spelled first named refused =
    refuses_later e a b c (HoldsNoLog b.files name) ⊥ (HasNoManifest order a.files) (IsBeyondReading order a.files) h
    (λ t none n edits layout m.
    let same : n ≡ number = same_current a.files n number m.numbered numbered m.current (first (g.faithful t) ∙ ap Some spelled) in
    let is : name ≡ name_of (Manifest n) = named ∙ ap (λ (k : ℕ). name_of (Manifest k)) (sym same) in
    let there : get b.files name ≡ Some m.bytes = ap (get b.files) is ∙ ap (λ (files : Files). get files (name_of (Manifest n))) (h.same (g.faithful t)) ∙ m.there in
    none m.bytes m.spelled.records m.spelled.tail there m.spelled.log)
    (λ t u. absurd u) refused

-- ---- a log

pub content_refused : (a b : Facts) (n low : ℕ) (name : List ℕ) (e : DbError) → name ≡ name_of (Log n) → RefusesDirectory e a b (HoldsNoLog a.files name) ⊥
    → RefusesDirectory e a b ((content : LogContent) → content.number ≡ n → HasLog a.files content → RiseAbove low (batch_entries content.batches) → ⊥) ⊥
content_refused a b n low name e named refused =
    refuses_later e a a b (HoldsNoLog a.files name) ⊥ ((content : LogContent) → content.number ≡ n → HasLog a.files content → RiseAbove low (batch_entries content.batches) → ⊥) ⊥ (unchanged_itself a)
    (λ t none content number log rise.
    let is : name ≡ name_of (Log content.number) = named ∙ ap (λ (k : ℕ). name_of (Log k)) (sym number) in
    none log.bytes log.spelled.records content.tail (ap (get a.files) is ∙ log.there) log.spelled.log)
    (λ t u. u) refused
