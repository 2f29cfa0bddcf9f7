use Rattle.std.proofs.Common.{arith, ◌≡◌, ◌-◌, ℕ, List, length, take, drop}
use Rattle.store.specs.Files.{Facts}
use Rattle.table.specs.Frame.{HasFooter}
use Rattle.table.specs.declared.handle.Handle.{Handle}
use Rattle.table.proofs.Footers.{footer_found, no_footer}
use Rattle.table.proofs.Steps.{finds_first, finds_second, finds_both, known}
use Rattle.table.proofs.frame.read_ends.Goals as goal

pub returns-in-Ok-clause-found : goal.returns-in-Ok-clause-found
returns-in-Ok-clause-found g c =
    let bytes : List ℕ = c.in_ok-bytes.bytes.items in
    let len : ℕ = c.in_ok-len.len in
    let a : Facts = g.S.Store.facts c.args.store.now in
    let b : Facts = g.S.Store.facts c.file_length.new.store in
    let d : Facts = g.S.Store.facts c.read_part.new.store in
    finds_both a d c.args.name.now (λ (file : List ℕ). len ≡ length file) (λ (file : List ℕ). bytes ≡ take 48 (drop (len - 48) file))
    (λ (file : List ℕ). HasFooter file (len - 48) c.in-Ok.footer.metaindex c.in-Ok.footer.index)
    (λ file l b. footer_found file bytes (len - 48) _ _ (omega (arith, l)) b (omega (arith, l)) (rw c.deref.ensures.value at c.in-Ok.ensures.found))
    (finds_first a b d c.args.name.now (λ (file : List ℕ). len ≡ length file) c.in_ok-bytes.ensures.reads c.in_ok-len.ensures.found)
    (finds_second a b d c.args.name.now (λ (file : List ℕ). bytes ≡ take 48 (drop (len - 48) file)) c.in_ok-len.ensures.reads c.in_ok-bytes.ensures.reads c.in_ok-bytes.ensures.found)

pub returns-clause-refused : goal.returns-clause-refused
returns-clause-refused g c =
    let bytes : List ℕ = c.in_ok-bytes.bytes.items in
    let len : ℕ = c.in_ok-len.len in
    let a : Facts = g.S.Store.facts c.args.store.now in
    let b : Facts = g.S.Store.facts c.file_length.new.store in
    let d : Facts = g.S.Store.facts c.read_part.new.store in
    rw (c.refuse_footer.ensures.same, c.refuse_footer.ensures.value)
    (known a d c.args.name.now (λ (file : List ℕ). (len ≡ length file) × (bytes ≡ take 48 (drop (len - 48) file)))
    (λ (file : List ℕ). (before : ℕ) (metaindex index : Handle) → HasFooter file before metaindex index → ⊥)
    (λ file h. no_footer file bytes (len - 48) h.1 (omega (arith, h.0)) (λ m i k. c.in-Err.ensures.refused m i (rw c.deref.ensures.value k)))
    (finds_both a d c.args.name.now (λ (file : List ℕ). len ≡ length file) (λ (file : List ℕ). bytes ≡ take 48 (drop (len - 48) file))
    (λ (file : List ℕ). (len ≡ length file) × (bytes ≡ take 48 (drop (len - 48) file))) (λ file l b. (l, b))
    (finds_first a b d c.args.name.now (λ (file : List ℕ). len ≡ length file) c.in_ok-bytes.ensures.reads c.in_ok-len.ensures.found)
    (finds_second a b d c.args.name.now (λ (file : List ℕ). bytes ≡ take 48 (drop (len - 48) file)) c.in_ok-len.ensures.reads c.in_ok-bytes.ensures.reads c.in_ok-bytes.ensures.found)))
