use Rattle.std.proofs.Common.{rules, ◌≡◌, ◌≢◌, ◌<◌, ◌≤◌, ◌+◌, ◌^◌, ◌++◌, ℕ, List, length, take, drop, inl, sym, ap, ◌∙◌, arith}
use Rattle.std.proofs.lemmas.Result.{err_from_is_err_and}
use Rattle.table.specs.Refusals.{IsUnsupported}
use Rattle.table.specs.Stored.{IsStored, end_of, trailer_of_type}
use Rattle.table.proofs.Steps.{finds_second, refuses_block, refuses_later, refuses_more}
use Rattle.table.proofs.StoredBlocks.{no_block, not_inside, other_block}
use Rattle.table.proofs.reading.read_stored.Goals as goal

pub returns-in_err-count-clause-refused : goal.returns-in_err-count-clause-refused
returns-in_err-count-clause-refused g c =
    let handle = c.args.handle in
    let p = err_from_is_err_and c.from_residual.result c.from_residual.ensures.1 in
    rw (p.1, p.2)
    (refuses_more _ _ _ c.args.name.now (λ (file : List ℕ). length file < end_of handle) (λ (file : List ℕ). ((block : List ℕ) → IsStored file handle block → ⊥) × (IsUnsupported file handle → ⊥))
    (λ (file : List ℕ). (end_of handle ≤ length file) × (2 ^ 30 < handle.size)) (λ (file : List ℕ). IsUnsupported file handle)
    (λ file short. not_inside file handle short) (λ file long. inl long) c.in_err-count.ensures.refused)

pub returns-in_err-bytes-clause-refused : goal.returns-in_err-bytes-clause-refused
returns-in_err-bytes-clause-refused g c =
    let handle = c.args.handle in
    let count : c.in_ok-count.count ≡ handle.size + 5 = c.in_ok-count.ensures.count in
    let p = err_from_is_err_and c.from_residual-in_err-bytes.result c.from_residual-in_err-bytes.ensures.1 in
    rw (p.1, p.2)
    (refuses_later _ (g.S.Store.facts c.args.store.now) (g.S.Store.facts c.known_length.new.store) _ c.args.name.now
    (λ (file : List ℕ). length file < handle.offset + c.in_ok-count.count) (λ (file : List ℕ). ((block : List ℕ) → IsStored file handle block → ⊥) × (IsUnsupported file handle → ⊥))
    (λ (file : List ℕ). ⊥) (λ (file : List ℕ). IsUnsupported file handle)
    (λ file short. not_inside file handle (omega (arith, short, count))) (λ file none. absurd none)
    c.in_ok-count.ensures.stood c.known_length.ensures.reads c.read_part.ensures.reads c.in_err-bytes.ensures.refused)

pub returns-in-Err-clause-refused : goal.returns-in-Err-clause-refused
returns-in-Err-clause-refused g c =
    let old = g.S.Store.facts c.args.store.now in
    let mid = g.S.Store.facts c.known_length.new.store in
    let new = g.S.Store.facts c.read_part.new.store in
    let handle = c.args.handle in
    let bytes : List ℕ = c.in_ok-bytes.bytes.items in
    let seen : List ℕ = c.deref.result.now in
    let same : seen ≡ bytes = search rules in
    let count : c.in_ok-count.count ≡ handle.size + 5 = c.in_ok-count.ensures.count in
    let long : length bytes ≡ c.in_ok-count.count = c.in_ok-bytes.ensures.length in
    rw (c.refuse_stored.ensures.same, c.refuse_stored.ensures.value)
    (refuses_block c.in-Err.e old new c.args.name.now (λ (file : List ℕ). bytes ≡ take c.in_ok-count.count (drop handle.offset file))
    (λ (file : List ℕ). ((block : List ℕ) → IsStored file handle block → ⊥) × (IsUnsupported file handle → ⊥)) (λ (file : List ℕ). IsUnsupported file handle)
    ((kind : ℕ) (block : List ℕ) → seen ≡ block ++ trailer_of_type kind block → ⊥) ((kind : ℕ) × (block : List ℕ) × (kind ≢ 0) × (seen ≡ block ++ trailer_of_type kind block))
    (λ file is none. no_block file bytes handle (is ∙ ap (λ (n : ℕ). take n (drop handle.offset file)) count) c.in_ok-count.ensures.short (λ kind block h. none kind block (same ∙ h)))
    (λ file is other. other_block file bytes handle (is ∙ ap (λ (n : ℕ). take n (drop handle.offset file)) count) (long ∙ count) (other.0, other.1, other.2, sym same ∙ other.3))
    (c.in_ok-bytes.ensures.stood ∙ c.in_ok-count.ensures.stood)
    (finds_second old mid new c.args.name.now (λ (file : List ℕ). bytes ≡ take c.in_ok-count.count (drop handle.offset file)) c.known_length.ensures.reads c.read_part.ensures.reads c.in_ok-bytes.ensures.found)
    c.in-Err.ensures.refused)
