use Rattle.std.proofs.Common.{rules, ◌≡◌, ◌<◌, ◌++◌, List, ℕ, [], ◌∷◌, map, string_bytes, sym, ap, ◌∙◌, arith}
use Rattle.std.proofs.lemmas.List.{append-nil, map-append}
use Rattle.opening.specs.internal.Begun.{names_of_log}
use Rattle.opening.proofs.Fronts.{some_name}
use Rattle.opening.proofs.rewriting.push_name.Goals as goal

pub returns-then-log-eq0 : goal.returns-then-log-eq0
returns-then-log-eq0 c = sym (append-nil _) ∙ ap (λ (n : ℕ). map string_bytes c.args.names.now.items ++ names_of_log n) (sym c.if-log-eq0.true)

pub returns : goal.returns
returns c =
    let added : c.push.new.self.items ≡ c.args.names.now.items ++ c.in_ok-name.name ∷ [] = search rules in
    let some : 0 < c.args.log.now.number = omega (arith, c.if-log-eq0.false) in
    ap (map string_bytes) added ∙ map-append string_bytes c.args.names.now.items (c.in_ok-name.name ∷ [])
    ∙ ap (λ (n : List (List ℕ)). map string_bytes c.args.names.now.items ++ n) (ap (λ (n : List ℕ). n ∷ []) c.in_ok-name.ensures ∙ sym (some_name c.args.log.now.number some))
