-- What a power loss leaves of the batches in logs: all of those in logs that are synced whole, and
-- the first of the others.
use Rattle.std.proofs.Common.{◌≡◌, ◌⊎◌, inl, inr, ℕ, ◌+◌, ◌<◌, List, [], ◌∷◌, ◌++◌, length, length-append, Some, None, true, is_some, refl, sym, ap, subst, ◌∙◌, arith, append_assoc, append-nil}
use Rattle.std.proofs.lemmas.List.{nil_from_length}
use Rattle.std.specs.FinMap.{get, contains_key}
use Rattle.std.specs.List.{AllByRecursion}
use Rattle.edits.specs.Names.{name_of}
use Rattle.edits.specs.declared.names.FileName.TheVariants.{Log}
use Rattle.opening.proofs.Cutting.{cut_rising}
use Rattle.opening.specs.Losses.{AreCut, IsCut, IsKept}
use Rattle.recover.proofs.OneMeaning.{in_above, same_log_file}
use Rattle.recover.specs.Logs.{Batch, HasLog, HasLogs, InLogs, LogContent, NumbersRise}
use Rattle.store.specs.Files.{Facts, Files}
use Rattle.engine.proofs.RecentBatches.{no_batches}
use Rattle.engine.specs.internal.Recent.{AreEmptyBehind, batches_in}

-- of each of two a beginning is the other
one_list : (a b x y : List Batch) → a ≡ b ++ x → b ≡ a ++ y → a ≡ b
one_list a b x y first second =
    let longer : length a ≡ length b + length x = ap length first ∙ length-append b x in
    let shorter : length b ≡ length a + length y = ap length second ∙ length-append a y in
    let none : x ≡ [] = nil_from_length x (omega (arith, longer, shorter)) in
    first ∙ ap (λ (more : List Batch). b ++ more) none ∙ append-nil b

-- The log is synced whole, or the loss left it as it was.
abbrev pub IsLeft : Facts → Files → LogContent → Type 0
IsLeft facts lost log = IsKept facts (name_of (Log log.number)) ⊎ (get lost (name_of (Log log.number)) ≡ get facts.files (name_of (Log log.number)))

module _ (facts : Facts) (lost : Files) where
  -- it has all its batches
  left_batches : (whole cut : LogContent) → HasLog facts.files whole → HasLog lost cut → IsCut facts whole cut → IsLeft facts lost whole → cut.batches ≡ whole.batches
  left_batches whole cut has after is (inl kept) =
      let more = is.kept has.bytes whole.batches whole.tail (kept has.bytes has.there) has.spelled in
      one_list cut.batches whole.batches more.0 is.lost more.1 is.batches
  left_batches whole cut has after is (inr same) =
      let there : get lost (name_of (Log whole.number)) ≡ Some after.bytes = subst (λ (n : ℕ). get lost (name_of (Log n)) ≡ Some after.bytes) is.number after.there in
      let before : get facts.files (name_of (Log cut.number)) ≡ Some after.bytes = subst (λ (n : ℕ). get facts.files (name_of (Log n)) ≡ Some after.bytes) (sym is.number) (sym same ∙ there) in
      let held : HasLog facts.files cut = record { bytes = after.bytes; numbered = after.numbered; there = before; spelled = after.spelled } in
      same_log_file facts.files cut whole is.number held has

  -- it isn't gone
  left_there : (whole : LogContent) (cuts : List LogContent) → HasLog facts.files whole → facts.synced (name_of (Log whole.number)) ≡ None → NumbersRise whole.number cuts
      → (contains_key lost (name_of (Log whole.number)) ≡ true → InLogs cuts whole.number) → IsLeft facts lost whole → ⊥
  left_there whole cuts has none rising all (inl kept) = let bad : Some has.bytes ≡ None = sym (kept has.bytes has.there) ∙ none in absurd cc
  left_there whole cuts has none rising all (inr same) =
      let above : whole.number < whole.number = in_above whole.number cuts whole.number rising (all (ap is_some (same ∙ has.there))) in
      absurd (omega (arith, above))

  -- The cuts of logs that are left, and of others after them.
  pub record LeftFront (wholes rest cuts : List LogContent) : Type 0 where
    pub behind : List LogContent
    pub batches : batches_in cuts ≡ batches_in wholes ++ batches_in behind
    pub cut : AreCut facts rest behind

  pub left_front : (low : ℕ) (wholes rest cuts : List LogContent) → AreCut facts (wholes ++ rest) cuts → HasLogs facts.files (wholes ++ rest) → HasLogs lost cuts → NumbersRise low (wholes ++ rest)
      → ((n : ℕ) → InLogs (wholes ++ rest) n → contains_key lost (name_of (Log n)) ≡ true → InLogs cuts n) → AllByRecursion (IsLeft facts lost) wholes → LeftFront wholes rest cuts
  left_front low [] rest cuts cut has after rising all left = record { behind = cuts; batches = refl; cut = cut }
  left_front low (whole ∷ wholes) rest cuts (inr gone) has after rising all left =
      absurd (left_there whole cuts has.0 gone.0 (cut_rising facts whole.number (wholes ++ rest) cuts gone.1 rising.1) (λ present. all whole.number (inl refl) present) left.0)
  left_front low (whole ∷ wholes) rest cuts (inl one) has after rising all left =
      let there : HasLogs lost (one.0 ∷ one.1) = subst (HasLogs lost) one.2 after in
      let here : one.0.batches ≡ whole.batches = left_batches whole one.0 has.0 there.0 one.3 left.0 in
      let all_behind : (n : ℕ) → InLogs (wholes ++ rest) n → contains_key lost (name_of (Log n)) ≡ true → InLogs one.1 n = λ n i present. elim (subst (λ (logs : List LogContent). InLogs logs n) one.2 (all n (inr i) present)) [
        | inl is ↦
            let above : whole.number < n = in_above whole.number (wholes ++ rest) n rising.1 i in
            let same : one.0.number ≡ whole.number = one.3.number in
            absurd (omega (arith, above, is, same))
        | inr later ↦ later
      ] in
      let others = left_front whole.number wholes rest one.1 one.4 has.1 there.1 rising.1 all_behind left.1 in
      record {
        behind = others.behind;
        batches = ap batches_in one.2 ∙ (λ i. here i ++ others.batches i) ∙ sym (append_assoc whole.batches (batches_in wholes) (batches_in others.behind));
        cut = others.cut;
      }

-- ---- logs that may be cut

empty_front : (a b : List Batch) → a ++ b ≡ [] → a ≡ []
empty_front [] b is = refl
empty_front (x ∷ a) b is = cc

-- of logs without batches nothing is left
pub empty_cuts : (facts : Facts) (wholes cuts : List LogContent) → AllByRecursion (λ (log : LogContent). log.batches ≡ []) wholes → AreCut facts wholes cuts → batches_in cuts ≡ []
empty_cuts facts [] [] none c = refl
empty_cuts facts [] (cut ∷ cuts) none c = absurd c
empty_cuts facts (whole ∷ wholes) cuts none (inr gone) = empty_cuts facts wholes cuts none.1 gone.1
empty_cuts facts (whole ∷ wholes) cuts none (inl one) =
    let here : one.0.batches ≡ [] = empty_front one.0.batches one.3.lost (sym one.3.batches ∙ none.0) in
    ap batches_in one.2 ∙ ap (λ (bs : List Batch). bs ++ batches_in one.1) here ∙ empty_cuts facts wholes one.1 none.1 one.4

-- where only the first has any, the first of these are
pub front_cuts : (facts : Facts) (wholes cuts : List LogContent) → AreEmptyBehind wholes → AreCut facts wholes cuts → (gone : List Batch) × (batches_in wholes ≡ batches_in cuts ++ gone)
front_cuts facts [] [] none c = ([], refl)
front_cuts facts [] (cut ∷ cuts) none c = absurd c
front_cuts facts (whole ∷ wholes) cuts none (inr lost) = (batches_in (whole ∷ wholes), ap (λ (bs : List Batch). bs ++ batches_in (whole ∷ wholes)) (sym (empty_cuts facts wholes cuts none lost.1)))
front_cuts facts (whole ∷ wholes) cuts none (inl one) =
    let before : batches_in (whole ∷ wholes) ≡ whole.batches = ap (λ (bs : List Batch). whole.batches ++ bs) (no_batches wholes none) ∙ append-nil whole.batches in
    let after : batches_in cuts ≡ one.0.batches = ap batches_in one.2 ∙ ap (λ (bs : List Batch). one.0.batches ++ bs) (empty_cuts facts wholes one.1 none one.4) ∙ append-nil one.0.batches in
    (one.3.lost, before ∙ one.3.batches ∙ ap (λ (bs : List Batch). bs ++ one.3.lost) (sym after))
