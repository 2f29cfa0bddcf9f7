-- A call takes out what is held, and puts it back.
use Rattle.std.proofs.Common.{◌≡◌, ℤ, pos, Option, Some, None, refl, sym, subst}
use Rattle.wachuspi.specs.Handles.{Served}

pub served_open : {A : Type 0} (promise : A → A → ℤ → Type 0) (old new : Option A) (x y : A) (code : ℤ)
    → old ≡ Some x → new ≡ Some y → promise x y code → Served promise old new code
served_open promise old new x y code was is kept =
    subst (λ o. Served promise o new code) (sym was) (subst (λ n. Served promise (Some x) n code) (sym is) kept)

pub served_closed : {A : Type 0} (promise : A → A → ℤ → Type 0) (old new : Option A) (code : ℤ)
    → old ≡ None → new ≡ None → code ≡ pos 65 → Served promise old new code
served_closed promise old new code was is said = subst (λ o. Served promise o new code) (sym was) (is, said)
