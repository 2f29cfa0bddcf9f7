use Rattle.std.proofs.Common.{◌≡◌, ◌+◌, ◌++◌, ◌∷◌, [], ℕ, List, length, replicate, sym, ap, ◌∙◌, append_assoc, arith}
use Rattle.std.proofs.lemmas.List.{length-append, length-replicate}
use Rattle.filter.specs.Bloom.{IsArray}
use Rattle.filter.proofs.Arrays.{made_array, made_filter}
use Rattle.filter.proofs.Written.{end-written, written-back, zeroes-behind, made-longer, not-empty}
use Rattle.filter.proofs.bloom.put_filter.Goals as goal

pub returns : goal.returns
returns c =
    let old = c.args.out.now.items in
    let all = c.deref_mut.result.now in
    let start = c.len-start.result in
    let n = c.array_length.result in
    let array = c.set_keys.new.array in
    let at : start ≡ length old = c.len-start.ensures ∙ c.args.out.now.ok.0 in
    let behind : c.saturating_add-behind.result ≡ length old + n = omega (arith, c.saturating_add-behind.ensures, at, c.in_ok-resize.ensures.len, c.resize.new.self.ok.0, c.resize.new.self.small) in
    let sized : c.resize.new.self.items ≡ old ++ replicate n 0 = made-longer old c.resize.new.self.items _ c.saturating_add-behind.result n c.in_ok-resize.ensures.items c.args.out.now.ok.0 behind in
    let is : all ≡ old ++ replicate n 0 = c.deref_mut.ensures.value ∙ sized in
    let zeroes = zeroes-behind old all start n at is in
    let long : length array ≡ n = omega (arith, c.set_keys.auto.array, ap (λ (v : List ℕ). length v) zeroes, length-replicate {A = ℕ} n 0) in
    let made : IsArray c.args.hashes.now array = made_array c.args.hashes.now _ array n zeroes c.array_length.ensures long c.set_keys.ensures.set c.set_keys.ensures.only in
    let written = end-written old array all start n at is long in
    let kept = written-back _ c.resize.new.self.items c.resize.new.self.len (sym c.resize.new.self.ok.0) (omega (arith, ap (λ (v : List ℕ). length v) written, length-append old array, long, c.resize.new.self.ok.0, ap (λ (v : List ℕ). length v) sized, length-append old (replicate n 0), length-replicate {A = ℕ} n 0)) in
    (array ++ 6 ∷ [], made_filter c.args.hashes.now array (not-empty (length c.args.hashes.now) c.if-is_empty.ensures) made, c.in_ok-push.ensures.items ∙ ap (λ (v : List ℕ). v ++ 6 ∷ []) (kept ∙ written) ∙ append_assoc old array (6 ∷ []))
