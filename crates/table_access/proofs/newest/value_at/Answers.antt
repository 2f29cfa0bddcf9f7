use Rattle.std.proofs.Common.{List, ℕ, Some, sym, ap, subst, ◌∙◌}
use Rattle.ikey.specs.Below.{same_key}
use Rattle.ikey.specs.Entries.{value_of}
use Rattle.ikey.specs.KeyViews.{key_of}
use Rattle.ikey.specs.Keys.{Key, IsKey}
use Rattle.table_access.proofs.newest.value_at.Goals as goal

pub returns-then-not-same_bytes-clause-found : goal.returns-then-not-same_bytes-clause-found
returns-then-not-same_bytes-clause-found g c = λ index pair entry at there is same.
    let bytes = c.key.ensures index pair at there in
    let keys = same_key c.key.result.now (key_of c.in-Some.found) entry.key c.in-Some.ensures.found (subst (λ (b : List ℕ). IsKey b entry.key) (sym bytes) is.key) in
    c.if-not-same_bytes.ensures (ap (λ (k : Key). k.user) keys ∙ same)

pub returns-in-Delete-clause-found : goal.returns-in-Delete-clause-found
returns-in-Delete-clause-found g c = λ index pair entry at there is.
    let bytes = c.key.ensures index pair at there in
    let keys = same_key c.key.result.now (key_of c.in-Some.found) entry.key c.in-Some.ensures.found (subst (λ (b : List ℕ). IsKey b entry.key) (sym bytes) is.key) in
    (sym (ap (λ (k : Key). k.user) keys) ∙ c.if-not-same_bytes.ensures, ap (λ k. value_of k entry.value) (sym c.in-Delete.is ∙ ap (λ (k : Key). k.kind) keys))

pub returns-in_ok-value-in-Put-clause-found : goal.returns-in_ok-value-in-Put-clause-found
returns-in_ok-value-in-Put-clause-found g c = λ index pair entry at there is.
    let bytes = c.key.ensures index pair at there in
    let keys = same_key c.key.result.now (key_of c.in-Some.found) entry.key c.in-Some.ensures.found (subst (λ (b : List ℕ). IsKey b entry.key) (sym bytes) is.key) in (
      sym (ap (λ (k : Key). k.user) keys) ∙ c.if-not-same_bytes.ensures,
      ap Some (c.in_ok-value-in-Put.ensures ∙ c.value.ensures index pair at there ∙ is.value) ∙ ap (λ k. value_of k entry.value) (sym c.in-Put.is ∙ ap (λ (k : Key). k.kind) keys),
    )

pub returns-then-not-same_bytes-clause-keyed : goal.returns-then-not-same_bytes-clause-keyed
returns-then-not-same_bytes-clause-keyed g c = λ index pair at there.
    (key_of c.in-Some.found, subst (λ (b : List ℕ). IsKey b (key_of c.in-Some.found)) (c.key.ensures index pair at there) c.in-Some.ensures.found)

pub returns-in-Delete-clause-keyed : goal.returns-in-Delete-clause-keyed
returns-in-Delete-clause-keyed g c = λ index pair at there.
    (key_of c.in-Some.found, subst (λ (b : List ℕ). IsKey b (key_of c.in-Some.found)) (c.key.ensures index pair at there) c.in-Some.ensures.found)

pub returns-in_ok-value-in-Put-clause-keyed : goal.returns-in_ok-value-in-Put-clause-keyed
returns-in_ok-value-in-Put-clause-keyed g c = λ index pair at there.
    (key_of c.in-Some.found, subst (λ (b : List ℕ). IsKey b (key_of c.in-Some.found)) (c.key.ensures index pair at there) c.in-Some.ensures.found)
