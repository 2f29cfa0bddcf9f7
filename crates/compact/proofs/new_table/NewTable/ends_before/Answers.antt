use Rattle.std.proofs.Common.{◌≡◌, ℕ, List, sym, ap, not, subst, ◌∙◌, arith}
use Rattle.ikey.specs.Keys.{Key, IsKey}
use Rattle.ikey.specs.KeyViews.{key_of}
use Rattle.ikey.specs.Below.{same_key}
use Rattle.table.proofs.Comparing.{same_lists, ne_lists}
use Rattle.compact.specs.Outputs.{Filling}
use Rattle.table.specs.Building.{data_size}
use Rattle.compact.proofs.new_table.NewTable.ends_before.Goals as goal

pub returns-then-eq : goal.returns-then-eq
returns-then-eq g c = λ le key is.
    ap (λ (x : Key). x.user) (same_key c.self.inside.largest.items key (key_of c.in-Some.last) (subst (λ (f : Filling). IsKey f.largest key) (sym c.self.view_is) is)
    (subst (λ (bytes : List ℕ). IsKey bytes (key_of c.in-Some.last)) c.as_slice.ensures.value c.in-Some.ensures.found)) ∙ same_lists _ _ c.if-eq.ensures

pub returns : goal.returns
returns g c = (
  (let size : c.size.result ≡ data_size c.args.self.now.building = c.size.ensures ∙ ap (λ (f : Filling). data_size f.building) c.self.view_is in omega (arith, size, c.if-size-file_bytes.false)),
  λ key is e. ne_lists _ _ (ap not c.if-eq.ensures) (sym (ap (λ (x : Key). x.user) (same_key c.self.inside.largest.items key (key_of c.in-Some.last) (subst (λ (f : Filling). IsKey f.largest key) (sym c.self.view_is) is)
      (subst (λ (bytes : List ℕ). IsKey bytes (key_of c.in-Some.last)) c.as_slice.ensures.value c.in-Some.ensures.found))) ∙ e),
)
