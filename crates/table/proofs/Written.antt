-- What is left of a table that was finished.
use Rattle.std.proofs.Common.{◌≡◌, ◌≤◌, ◌+◌, ◌^◌, ℕ, List, [], ◌++◌, is_some, IsTrue, length, ap, ◌∙◌, subst, arith}
use Rattle.std.proofs.lemmas.List.{length-append}
use Rattle.std.specs.Cmp.{IsTotalOrder}
use Rattle.std.specs.Option.{IsSome}
use Rattle.std.specs.declared.cmp.Ordering.{Ordering}
use Rattle.block.specs.Block.{IsBlock}
use Rattle.block.specs.Written.{IsWritten as IsBlockWritten}
use Rattle.block.proofs.BuilderLaws.{length-block}
use Rattle.filter.specs.Builder.{IsWritten}
use Rattle.ikey.specs.Below.{IsBelowInternal}
use Rattle.ikey.specs.Entries.{Pair}
use Rattle.store.specs.Files.{Facts}
use Rattle.table.specs.Building.{Building, IsPart, Builds, last_added, index_length}
use Rattle.table.specs.Reading.{HasFile}
use Rattle.table.specs.Steps.{Appended}
use Rattle.table.specs.Writing.{Writes, AreEnds, IsTableOf}
use Rattle.table.proofs.Finishing.{WrittenLaw, finished}
use Rattle.table.proofs.Hashed.{AddedLaw}
use Rattle.table.proofs.Storing.{writes_then}

-- what ending the last block leaves
abbrev pub LeavesWhole : (List ℕ → List ℕ → Ordering) → Building → Building → Facts → Facts → Type 0
LeavesWhole cmp old new a b = (pairs : List Pair) → IsTrue b.faithful → IsSome (last_added old) → Builds cmp old a pairs → (file : List ℕ) × HasFile b old.name file × IsPart cmp new file pairs

pub length-index : (interval : ℕ) (pairs : List Pair) (index : List ℕ) → interval ≡ 1 → IsBlockWritten interval pairs index → length index ≡ index_length pairs
length-index interval pairs index one w = length-block 1 pairs index (subst (λ (n : ℕ). IsBlockWritten n pairs index) one w)

pub ends_put : (out old tail new : List ℕ) → old ≡ [] → new ≡ old ++ tail → out ≡ new → out ≡ tail
ends_put out old tail new none e same = same ∙ e ∙ ap (λ (v : List ℕ). v ++ tail) none

pub writes_on : (a b d : Facts) (name other : List ℕ) → other ≡ name → Writes a b name → Writes b d other → Writes a d name
writes_on a b d name other same first second = writes_then a b d name first (subst (Writes b d) same second)

pub written : (cmp : List ℕ → List ℕ → Ordering) → IsTotalOrder cmp → AddedLaw → WrittenLaw → (old new : Building) (a b d : Facts) (name filter index out tail : List ℕ)
    → LeavesWhole cmp old new a b → new.block ≡ [] → IsSome (last_added old) → IsWritten new.hashes filter → length filter ≤ 2 ^ 30 → IsBlock (IsBelowInternal cmp) index new.index → length index ≡ index_length new.index
    → AreEnds new.offset filter index tail → out ≡ tail → name ≡ old.name → (IsTrue d.faithful → IsTrue b.faithful) → Appended b d name out
    → (pairs : List Pair) → IsTrue d.faithful → Builds cmp old a pairs → (file : List ℕ) × HasFile d old.name file × (new.offset + length out ≡ length file) × IsTableOf cmp file pairs
written cmp order added read old new a b d name filter index out tail leaves no_block some filter_is short index_is long ends same named faithful appended pairs t h =
    let whole = leaves pairs (faithful t) some h in
    let part = whole.2 in
    let put : Appended b d old.name tail = subst (λ (n : List ℕ). Appended b d n tail) named (subst (λ (x : List ℕ). Appended b d name x) same appended) in (
      whole.0 ++ tail,
      put t whole.0 whole.1,
      omega (arith, length-append whole.0 tail, part.long, ap length same),
      finished cmp order added read new whole.0 filter index tail pairs part ends no_block filter_is short index_is (omega (arith, long, part.index_short)) (ap is_some h.2.last ∙ some),
    )
