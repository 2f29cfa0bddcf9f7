-- Lines and commands one after the other.
use Rattle.std.proofs.Common.{◌≡◌, ℕ, List, [], ◌∷◌, ◌++◌, refl, sym, ap, ◌∙◌, subst, append_assoc, append-nil, true, false}
use Rattle.std.specs.Prelude.{Option, Some, None, IfSome, IsSomeAnd}
use Rattle.coding.specs.declared.error.DbError.TheVariants.{BadLine}
use Rattle.store.specs.Files.{Facts}
use Rattle.ikey.specs.Orders.{Order}
use Rattle.machine.specs.declared.command.Op.{Op}
use Rattle.machine.specs.declared.command.Answer.{Answer}
use Rattle.machine.specs.declared.command.Answer.TheVariants.{Refused}
use Rattle.engine.specs.declared.session.Session.{Session}
use Rattle.machine.specs.Machine.{Machine}
use Rattle.machine.specs.Step.{Run}
use Rattle.engine.specs.Follows.{Follows}
use Rattle.engine.specs.Outcomes.{AreAnswersTo}
use Rattle.engine.specs.Applied.{AllApplied}
use Rattle.script.specs.Script.{line_of}
use Rattle.script.specs.Drive.{lines_of, AreSaid, commands_of, text_of, TakesLine, LeavesLines}

run_then : (order : Order) (m k n : Machine) (cs ds : List Op) (xs ys : List Answer) → Run order m cs xs k → Run order k ds ys n → Run order m (cs ++ ds) (xs ++ ys) n
run_then order m k n [] ds [] ys run next = subst (λ (x : Machine). Run order x ds ys n) run next
run_then order m k n (c ∷ cs) ds (x ∷ xs) ys run next = (run.0, run.1, run_then order run.0 k n cs ds xs ys run.2 next)
run_then order m k n [] ds (x ∷ xs) ys run next = absurd run
run_then order m k n (c ∷ cs) ds [] ys run next = absurd run

pub answers_then : (cs ds : List Op) (xs ys : List Answer) → AreAnswersTo cs xs → AreAnswersTo ds ys → AreAnswersTo (cs ++ ds) (xs ++ ys)
answers_then [] ds [] ys h g = g
answers_then (c ∷ cs) ds (x ∷ xs) ys h g = (h.0, answers_then cs ds xs ys h.1 g)
answers_then [] ds (x ∷ xs) ys h g = absurd h
answers_then (c ∷ cs) ds [] ys h g = absurd h

pub applied_then : {S K : Type 0} {g : _} (order : Order) (facts : S → Facts) (a b c : Session S K g) (cs ds : List Op) (xs ys : List Answer)
    → AllApplied order facts cs xs a b → AllApplied order facts ds ys b c → AllApplied order facts (cs ++ ds) (xs ++ ys) a c
applied_then {S} {K} {g} order facts a b c [] ds [] ys h rest = subst (λ (s : Session S K g). AllApplied order facts ds ys s c) h rest
applied_then order facts a b c (d ∷ cs) ds (x ∷ xs) ys h g = (h.0, h.1, applied_then order facts h.0 b c cs ds xs ys h.2 g)
applied_then order facts a b c [] ds (x ∷ xs) ys h g = absurd h
applied_then order facts a b c (d ∷ cs) ds [] ys h g = absurd h

pub said_then : (ls ms : List (List ℕ)) (s t : List (Option Op)) → AreSaid ls s → AreSaid ms t → AreSaid (ls ++ ms) (s ++ t)
said_then [] ms [] t h g = g
said_then (l ∷ ls) ms (c ∷ s) t h g = (h.0, said_then ls ms s t h.1 g)
said_then [] ms (c ∷ s) t h g = absurd h
said_then (l ∷ ls) ms [] t h g = absurd h

pub commands_then : (s t : List (Option Op)) → commands_of (s ++ t) ≡ commands_of s ++ commands_of t
commands_then [] t = refl
commands_then (None ∷ s) t = commands_then s t
commands_then (Some c ∷ s) t = ap (λ (cs : List Op). c ∷ cs) (commands_then s t)

more_text : (line x y z : List ℕ) → x ≡ y ++ z → line ++ 10 ∷ x ≡ (line ++ 10 ∷ y) ++ z
more_text line x y z e = ap (λ (t : List ℕ). line ++ 10 ∷ t) e ∙ sym (append_assoc line (10 ∷ y) z)

pub text_then : (s t : List (Option Op)) (xs ys : List Answer) → AreAnswersTo (commands_of s) xs → text_of (s ++ t) (xs ++ ys) ≡ text_of s xs ++ text_of t ys
text_then [] t [] ys h = refl
text_then [] t (x ∷ xs) ys h = absurd h
text_then (None ∷ s) t xs ys h = more_text (line_of (Refused BadLine)) (text_of (s ++ t) (xs ++ ys)) (text_of s xs) (text_of t ys) (text_then s t xs ys h)
text_then (Some c ∷ s) t (x ∷ xs) ys h = more_text (line_of x) (text_of (s ++ t) (xs ++ ys)) (text_of s xs) (text_of t ys) (text_then s t xs ys h.1)
text_then (Some c ∷ s) t [] ys h = absurd h

pub follows_then : {S K : Type 0} {g : _} (order : Order) (facts : S → Facts) (a b c : Session S K g) (cs ds : List Op) (xs ys : List Answer)
    → Follows order facts a b (λ m n. Run order m cs xs n) → Follows order facts b c (λ m n. Run order m ds ys n) → Follows order facts a c (λ m n. Run order m (cs ++ ds) (xs ++ ys) n)
follows_then order facts a b c cs ds xs ys one two = record {
  faithful = λ h. one.faithful (two.faithful h);
  moved = λ h m stands.
      let p = one.moved (two.faithful h) m stands in
      let q = two.moved h p.0 p.2 in
      (q.0, run_then order m p.0 q.0 cs ds xs ys p.1 q.1, q.2);
}

-- ---- lines that are left

pub leaves_all : (script : Option (List ℕ)) → LeavesLines script script []
leaves_all None = tt
leaves_all (Some bytes) = refl

pub leaves_fewer : (script left next : Option (List ℕ)) (lines : List (List ℕ)) (line : List ℕ) → LeavesLines script left lines → TakesLine left next true line → LeavesLines script next (lines ++ line ∷ [])
leaves_fewer None left next lines line h g = tt
leaves_fewer (Some bytes) None next lines line h g = absurd h
leaves_fewer (Some bytes) (Some rest) next lines line h g =
    subst (λ (o : Option (List ℕ)). IsSomeAnd o (λ later. lines_of bytes ≡ (lines ++ line ∷ []) ++ lines_of later)) (sym g.1)
    (h ∙ ap (λ (ls : List (List ℕ)). lines ++ ls) g.2 ∙ sym (append_assoc lines (line ∷ []) (lines_of g.0)))

pub leaves_none : (script left next : Option (List ℕ)) (lines : List (List ℕ)) (line : List ℕ) → LeavesLines script left lines → TakesLine left next false line → IfSome script (λ bytes. lines_of bytes ≡ lines)
leaves_none None left next lines line h g = tt
leaves_none (Some bytes) None next lines line h g = absurd h
leaves_none (Some bytes) (Some rest) next lines line h g = h ∙ ap (λ (r : List ℕ). lines ++ lines_of r) g ∙ append-nil lines

pub leaves_some : (script left : Option (List ℕ)) (lines : List (List ℕ)) → LeavesLines script left lines → IfSome script (λ bytes. (later : List (List ℕ)) × (lines_of bytes ≡ lines ++ later))
leaves_some None left lines h = tt
leaves_some (Some bytes) None lines h = absurd h
leaves_some (Some bytes) (Some rest) lines h = (lines_of rest, h)
