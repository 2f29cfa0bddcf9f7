use Rattle.std.proofs.Common.{◌≡◌, ◌∙◌, ◌++◌, ap, subst, take, length, min, ℕ, List, arith}
use Rattle.std.proofs.Math.Seq.{take-append_seam}
use Rattle.std.proofs.lemmas.List.{length-take-le, take_min}
use Rattle.store.proofs.trouble.ShortName.of.Goals as goal

-- the front of a name, in front of other bytes
front_of_name : (name front rest : List ℕ) (m : ℕ) → m ≡ min 48 (length name) → front ≡ take m name → take m (front ++ rest) ≡ take 48 name
front_of_name name front rest m least same =
    let long : length front ≡ m = ap length same ∙ length-take-le m name (omega (arith, least)) in
    subst (λ n. take n (front ++ rest) ≡ front) long (take-append_seam front rest) ∙ same ∙ ap (λ n. take n name) least ∙ take_min 48 name

pub returns : goal.returns
returns c =
    front_of_name c.args.name.now c.copy_from_slice.new.self _ c.min-length.result (omega (arith, c.min-length.ensures))
    (c.copy_from_slice.ensures.after ∙ ap (take c.min-length.result) c.as_bytes.ensures.value)
