-- What adding an entry does, step by step.
use Rattle.std.proofs.Common.{◌≡◌, ℕ, List, [], ◌∷◌, ◌++◌, Option, Some, None, Bool, true, false, is_some, IsTrue, refl, sym, ap, ◌∙◌, subst, append-nil}
use Rattle.std.specs.Option.{ForSome, IsSome}
use Rattle.std.specs.Prelude.{MatchBool}
use Rattle.std.specs.declared.cmp.Ordering.{Ordering}
use Rattle.block.specs.Written.{last_key}
use Rattle.ikey.specs.Below.{IsBelowInternal}
use Rattle.ikey.specs.Entries.{Pair}
use Rattle.store.specs.Files.{Facts}
use Rattle.table.specs.Building.{Building, IsPart, HasPart, Builds, last_added}
use Rattle.table.specs.Reading.{HasFile}
use Rattle.table.specs.Steps.{IsPushed, IsEnded}
use Rattle.table.specs.Stored.{stored}
use Rattle.table.specs.Writing.{Writes}
use Rattle.table.proofs.Parts.{created_part, pushed, ended}
use Rattle.table.proofs.Rising.{last_push, last_append}
use Rattle.table.proofs.Storing.{writes_then}

-- ---- the last key

pub pushed_last : (old new : Building) (pair : Pair) → IsPushed old new pair → last_key new.block ≡ Some pair.key
pushed_last old new pair p = ap (λ (v : Building). last_key v.block) p.new_is ∙ last_push old.block pair

pub last_pushed : (old new : Building) (pair : Pair) → IsPushed old new pair → last_added new ≡ Some pair.key
last_pushed old new pair p = ap last_added p.new_is ∙ last_append None old.index (old.block ++ pair ∷ []) pair.key (last_push old.block pair)

pub some_pushed : (old new : Building) (pair : Pair) → IsPushed old new pair → IsSome (last_key new.block)
some_pushed old new pair p = ap is_some (pushed_last old new pair p)

pub last_ended : (cmp : List ℕ → List ℕ → Ordering) (old new : Building) (before after : Facts) (key : List ℕ) → IsEnded cmp old new before after → last_key old.block ≡ Some key → last_added new ≡ Some key
last_ended cmp old new before after key e last =
    ap last_added e.new_is ∙ ap last_key (append-nil (old.index ++ e.place ∷ [])) ∙ last_push old.index e.place ∙ sym e.key_is ∙ last

-- ---- the store

pub writes_both : (a b c : Facts) (old made next : Building) → made ≡ record old { created = made.created } → next.name ≡ made.name → Writes a b old.name → Writes b c next.name → Writes a c old.name
writes_both a b c old made next kept named first second =
    let same : next.name ≡ old.name = named ∙ ap (λ (v : Building). v.name) kept in
    writes_then a b c old.name first (subst (Writes b c) same second)

-- ---- the file

-- the file is there, and holds what it should
abbrev Holds : (List ℕ → List ℕ → Ordering) → Building → Facts → List Pair → Type 0
Holds cmp b facts pairs = (file : List ℕ) × (b.created ≡ true) × HasFile facts b.name file × IsPart cmp b file pairs

there_if : (created : Bool) (here : Type 0) (file : List ℕ) (last : Option (List ℕ)) → MatchBool created here ((file ≡ []) × (last ≡ None)) → IsSome last → (created ≡ true) × here
there_if true here file last h some = (refl, h)
there_if false here file last h some = let t : false ≡ true = sym (ap is_some h.1) ∙ some in cc

pub there : (b : Building) (facts : Facts) (file : List ℕ) → HasPart b facts file → IsSome (last_added b) → (b.created ≡ true) × HasFile facts b.name file
there b facts file h some = there_if b.created (HasFile facts b.name file) file (last_added b) h some

pub builds : (cmp : List ℕ → List ℕ → Ordering) (b : Building) (facts : Facts) (pairs : List Pair) → Holds cmp b facts pairs → Builds cmp b facts pairs
builds cmp b facts pairs h = (h.0, subst (λ (t : Bool). MatchBool t (HasFile facts b.name h.0) ((h.0 ≡ []) × (last_added b ≡ None))) (sym h.1) h.2, h.3)

pub holds_pushed : (cmp : List ℕ → List ℕ → Ordering) (a b : Facts) (old made new : Building) (pairs : List Pair) (pair : Pair) → made ≡ record old { created = made.created }
    → ((file : List ℕ) → HasPart old a file → (made.created ≡ true) × HasFile b old.name file) → ForSome (last_added old) (λ (last : List ℕ). IsBelowInternal cmp last pair.key) → IsPushed made new pair
    → Builds cmp old a pairs → Holds cmp new b (pairs ++ pair ∷ [])
holds_pushed cmp a b old made new pairs pair kept create rises p h =
    let file = h.0 in
    let there = create file h.1 in
    let part : IsPart cmp made file pairs = subst (λ (v : Building). IsPart cmp v file pairs) (sym kept) (created_part cmp old made.created file pairs h.2) in
    let rises : ForSome (last_added made) (λ (last : List ℕ). IsBelowInternal cmp last pair.key) = subst (λ (v : Building). ForSome (last_added v) (λ (last : List ℕ). IsBelowInternal cmp last pair.key)) (sym kept) rises in
    let name : old.name ≡ new.name = sym (ap (λ (v : Building). v.name) p.new_is ∙ ap (λ (v : Building). v.name) kept) in (
      file,
      ap (λ (v : Building). v.created) p.new_is ∙ there.0,
      subst (λ (n : List ℕ). HasFile b n file) name there.1,
      pushed cmp made new file pairs pair rises p part,
    )

pub holds_ended : (cmp : List ℕ → List ℕ → Ordering) (a b : Facts) (old new : Building) (pairs : List Pair) → IsTrue b.faithful → IsEnded cmp old new a b → Holds cmp old a pairs → Holds cmp new b pairs
holds_ended cmp a b old new pairs t e h = (
  h.0 ++ stored e.bytes,
  ap (λ (v : Building). v.created) e.new_is ∙ h.1,
  subst (λ (n : List ℕ). HasFile b n (h.0 ++ stored e.bytes)) (sym (ap (λ (v : Building). v.name) e.new_is)) (e.appended t h.0 h.2),
  ended cmp old new a b h.0 pairs e h.3,
)

-- ---- the last block

-- the whole of the data blocks stands in the file
abbrev Whole : (List ℕ → List ℕ → Ordering) → Building → Building → Facts → List Pair → Type 0
Whole cmp old new facts pairs = (file : List ℕ) × HasFile facts old.name file × IsPart cmp new file pairs

pub whole_as_it_is : (cmp : List ℕ → List ℕ → Ordering) (b : Building) (facts : Facts) (pairs : List Pair) → IsSome (last_added b) → Builds cmp b facts pairs → Whole cmp b b facts pairs
whole_as_it_is cmp b facts pairs some h = (h.0, (there b facts h.0 h.1 some).1, h.2)

pub whole_ended : (cmp : List ℕ → List ℕ → Ordering) (a b : Facts) (old new : Building) (pairs : List Pair) → IsTrue b.faithful → IsEnded cmp old new a b → IsSome (last_added old) → Builds cmp old a pairs → Whole cmp old new b pairs
whole_ended cmp a b old new pairs t e some h =
    let held = there old a h.0 h.1 some in
    (h.0 ++ stored e.bytes, e.appended t h.0 held.1, ended cmp old new a b h.0 pairs e h.2)
