-- Entries whose sequence numbers rise.
use Rattle.std.proofs.Common.{◌≡◌, ◌+◌, ◌<◌, ◌≤◌, ℕ, List, [], ◌∷◌, ◌++◌, sym, arith}
use Rattle.std.specs.List.{AllByRecursion}
use Rattle.ikey.specs.declared.entry.Entry.{Entry}
use Rattle.memtable.specs.Newest.{AllDiffer}
use Rattle.memtable.proofs.Orders.{all-append, all-map, all-among, among-all}

differ-push : (entries : List Entry) (entry : Entry) → AllDiffer entries → AllByRecursion (λ (other : Entry). other.sequence < entry.sequence) entries → AllDiffer (entries ++ entry ∷ [])
differ-push [] entry differ below = ((λ other member k s. absurd member), tt)
differ-push (first ∷ entries) entry differ below =
    let P = λ (other : Entry). other.key ≡ first.key → other.sequence ≡ first.sequence → ⊥ in (
      (λ other. among-all P (entries ++ entry ∷ []) other
          (all-append P entries (entry ∷ []) (all-among P entries differ.0) ((λ k s. absurd (omega (arith, s, below.0))), tt))),
      differ-push entries entry differ.1 below.1,
    )

pub rising-push : (entries : List Entry) (entry : Entry) (index : ℕ) → entry.sequence ≡ index → AllDiffer entries × AllByRecursion (λ (other : Entry). other.sequence < index) entries
    → AllDiffer (entries ++ entry ∷ []) × AllByRecursion (λ (other : Entry). other.sequence < index + 1) (entries ++ entry ∷ [])
rising-push entries entry index is h = (
  differ-push entries entry h.0 (all-map (λ (other : Entry). other.sequence < index) (λ (other : Entry). other.sequence < entry.sequence) entries (λ other b. omega (arith, b, is)) h.1),
  all-append (λ (other : Entry). other.sequence < index + 1) entries (entry ∷ [])
      (all-map (λ (other : Entry). other.sequence < index) (λ (other : Entry). other.sequence < index + 1) entries (λ other b. omega (arith, b)) h.1) (omega (arith, is), tt),
)
