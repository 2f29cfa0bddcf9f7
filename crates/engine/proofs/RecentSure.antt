-- How many of the accepted batches are left whatever a power loss takes.
use Rattle.std.proofs.Common.{◌≡◌, ◌⊎◌, inl, inr, ℕ, ◌+◌, ◌<◌, ◌≤◌, Bool, true, false, if◌then◌else◌, List, [], ◌∷◌, ◌++◌, length, length-append, Some, None, refl, sym, ap, subst, ◌∙◌, arith, append-nil}
use Rattle.edits.specs.Names.{name_of}
use Rattle.edits.specs.declared.names.FileName.TheVariants.{Log}
use Rattle.opening.specs.Durable.{IsSynced}
use Rattle.opening.specs.Losses.{AreCut, IsKept}
use Rattle.recover.specs.Logs.{Batch, HasLog, HasLogs, InLogs, LogContent}
use Rattle.store.specs.Files.{Facts}
use Rattle.engine.proofs.RecentBatches.{batches-append}
use Rattle.engine.specs.internal.Logs.{LeavesOrSyncs}
use Rattle.engine.specs.internal.Recent.{AreSure, HaveSynced, batches_in}

-- none of them, in any case
none_synced : (facts : Facts) (logs : List LogContent) → HaveSynced facts logs 0
none_synced facts [] = refl
none_synced facts (log ∷ logs) = inl refl

-- ---- what a loss leaves

front_length : (a b c : List Batch) → a ≡ b ++ c → length b ≤ length a
front_length a b c is = (let sum = length-append b c in let long = ap length is in omega (arith, sum, long))

-- those that are synced are left
synced_left : (facts : Facts) (wholes cuts : List LogContent) (count : ℕ) → HaveSynced facts wholes count → AreCut facts wholes cuts → count ≤ length (batches_in cuts)
synced_left facts [] cuts count none c = omega (arith, none)
synced_left facts (whole ∷ wholes) cuts count (inl none) c = omega (arith, none)
synced_left facts (whole ∷ wholes) cuts count (inr s) (inr gone) = let bad : Some s.0 ≡ None = sym s.3 ∙ gone.0 in absurd cc
synced_left facts (whole ∷ wholes) cuts count (inr s) (inl one) =
    let more = one.3.kept s.0 s.1 s.2 s.3 s.4 in
    let least : length s.1 ≤ length one.0.batches = front_length one.0.batches s.1 more.0 more.1 in
    let whole_cut : length (batches_in cuts) ≡ length one.0.batches + length (batches_in one.1) = ap (λ (logs : List LogContent). length (batches_in logs)) one.2 ∙ length-append one.0.batches (batches_in one.1) in
    let enough : count ≤ length s.1 = s.5 in
    omega (arith, least, whole_cut, enough)

pub sure_left : (facts : Facts) (from : ℕ) (kept doubted cuts : List LogContent) (count : ℕ) → AreSure facts from kept doubted count → AreCut facts doubted cuts → count ≤ from + length (batches_in kept ++ batches_in cuts)
sure_left facts from kept doubted cuts count h c =
    let sum = length-append (batches_in kept) (batches_in cuts) in
    let left : h.others ≤ length (batches_in cuts) = synced_left facts doubted cuts h.others h.synced c in
    let within : count ≤ from + (length (batches_in kept) + h.others) = h.within in
    omega (arith, sum, left, within)

-- ---- what keeps them

-- what is before these logs
pub sure_front : (facts : Facts) (from : ℕ) (kept doubted : List LogContent) (count : ℕ) → count ≤ from → AreSure facts from kept doubted count
sure_front facts from kept doubted count le = record { others = 0; synced = none_synced facts doubted; within = omega (arith, le) }

-- what is synced of each is as before, or all of it
synced_still : (old new : Facts) (logs : List LogContent) (count : ℕ) → HasLogs new.files logs → ((n : ℕ) → InLogs logs n → LeavesOrSyncs old new (name_of (Log n))) → HaveSynced old logs count → HaveSynced new logs count
synced_still old new [] count has leaves h = h
synced_still old new (log ∷ logs) count has leaves (inl none) = inl none
synced_still old new (log ∷ logs) count has leaves (inr s) = elim (leaves log.number (inl refl)) [
  | inl same ↦ inr (s.0, s.1, s.2, same ∙ s.3, s.4, s.5, s.6)
  | inr whole ↦ inr (has.0.bytes, log.batches, log.tail, whole ∙ has.0.there, has.0.spelled, s.6, s.6)
]

pub sure_still : (old new : Facts) (from : ℕ) (kept doubted : List LogContent) (count : ℕ) → HasLogs new.files doubted → ((n : ℕ) → InLogs doubted n → LeavesOrSyncs old new (name_of (Log n))) → AreSure old from kept doubted count
    → AreSure new from kept doubted count
sure_still old new from kept doubted count has leaves h = record { others = h.others; synced = synced_still old new doubted h.others has leaves h.synced; within = h.within }

synced_same : (old new : Facts) (logs : List LogContent) (count : ℕ) → ((n : ℕ) → InLogs logs n → new.synced (name_of (Log n)) ≡ old.synced (name_of (Log n))) → HaveSynced old logs count → HaveSynced new logs count
synced_same old new [] count same h = h
synced_same old new (log ∷ logs) count same (inl none) = inl none
synced_same old new (log ∷ logs) count same (inr s) = inr (s.0, s.1, s.2, same log.number (inl refl) ∙ s.3, s.4, s.5, s.6)

-- the same of them is synced
pub sure_same : (old new : Facts) (from : ℕ) (kept doubted : List LogContent) (count : ℕ) → ((n : ℕ) → InLogs doubted n → new.synced (name_of (Log n)) ≡ old.synced (name_of (Log n))) → AreSure old from kept doubted count → AreSure new from kept doubted count
sure_same old new from kept doubted count same h = record { others = h.others; synced = synced_same old new doubted h.others same h.synced; within = h.within }

-- one more log after them
pub sure_sealed : (facts : Facts) (from : ℕ) (kept doubted : List LogContent) (log : LogContent) (count : ℕ) → AreSure facts from kept doubted count → AreSure facts from kept (doubted ++ log ∷ []) count
sure_sealed facts from kept [] log count h = record { others = h.others; synced = inl h.synced; within = h.within }
sure_sealed facts from kept (first ∷ doubted) log count h = record { others = h.others; synced = h.synced; within = h.within }

length_in : (first : LogContent) (logs : List LogContent) → length (batches_in (first ∷ logs)) ≡ length first.batches + length (batches_in logs)
length_in first logs = length-append first.batches (batches_in logs)

-- no more are synced than there are
synced_within : (facts : Facts) (logs : List LogContent) (count : ℕ) → HaveSynced facts logs count → count ≤ length (batches_in logs)
synced_within facts [] count none = omega (arith, none)
synced_within facts (log ∷ logs) count (inl none) = omega (arith, none)
synced_within facts (log ∷ logs) count (inr s) = (let sum = length_in log logs in let within : count ≤ length log.batches = s.6 in omega (arith, sum, within))

-- the first of them is the last, or stands before it
first_or_last : (kept doubted since : List LogContent) (last : LogContent) → kept ++ doubted ≡ since ++ last ∷ [] → 0 < length doubted
    → ((since ≡ kept) × (doubted ≡ last ∷ [])) ⊎ ((between : List LogContent) × (0 < length between) × (since ≡ kept ++ between) × (doubted ≡ between ++ last ∷ []))
first_or_last [] [] since last is some = absurd (omega (arith, some))
first_or_last [] (x ∷ doubted) [] last is some = inl (refl, is)
first_or_last [] (x ∷ doubted) (y ∷ since) last is some = inr (y ∷ since, omega arith, refl, is)
first_or_last (x ∷ kept) doubted [] last is some =
    let long : length (x ∷ kept) + length doubted ≡ 1 = sym (length-append (x ∷ kept) doubted) ∙ ap length is in
    absurd (omega (arith, long, some))
first_or_last (x ∷ kept) doubted (y ∷ since) last is some =
    let first : x ≡ y = cc in
    let later : kept ++ doubted ≡ since ++ last ∷ [] = cc in
    elim (first_or_last kept doubted since last later some) [
      | inl here ↦ inl ((λ i. sym first i ∷ here.0 i), here.1)
      | inr there ↦ inr (there.0, there.1, (λ i. sym first i ∷ there.2 i), there.3)
    ]

front_synced : (facts : Facts) (between : List LogContent) (last : LogContent) (count : ℕ) → 0 < length between → HaveSynced facts (between ++ last ∷ []) count → count ≤ length (batches_in between)
front_synced facts [] last count some h = absurd (omega (arith, some))
front_synced facts (first ∷ between) last count some (inl none) = omega (arith, none)
front_synced facts (first ∷ between) last count some (inr s) = (let sum = length_in first between in let within : count ≤ length first.batches = s.6 in omega (arith, sum, within))

-- Those before the last are synced whole, and of the last one nothing less is synced than was; it
-- has no batch less.
sure_written : (old new : Facts) (from : ℕ) (kept doubted since : List LogContent) (last more : LogContent) (count : ℕ) → kept ++ doubted ≡ since ++ last ∷ [] → 0 < length doubted → more.number ≡ last.number
    → length last.batches ≤ length more.batches → new.synced (name_of (Log last.number)) ≡ old.synced (name_of (Log last.number)) → AreSure old from kept doubted count → AreSure new from since (more ∷ []) count
sure_written old new from kept doubted since last more count parts some number longer same h = elim (first_or_last kept doubted since last parts some) [
  | inl here ↦
      let had : HaveSynced old (last ∷ []) h.others = subst (λ (logs : List LogContent). HaveSynced old logs h.others) here.1 h.synced in
      let long : length (batches_in since) ≡ length (batches_in kept) = ap (λ (logs : List LogContent). length (batches_in logs)) here.0 in
      let was : count ≤ from + (length (batches_in kept) + h.others) = h.within in
      record { others = h.others; synced = goes had; within = omega (arith, long, was) }
  | inr there ↦
      let long : length (batches_in since) ≡ length (batches_in kept) + length (batches_in there.0) = ap (λ (logs : List LogContent). length (batches_in logs)) there.2 ∙ ap length (batches-append kept there.0) ∙ length-append (batches_in kept) (batches_in there.0) in
      let least : h.others ≤ length (batches_in there.0) = front_synced old there.0 last h.others there.1 (subst (λ (logs : List LogContent). HaveSynced old logs h.others) there.3 h.synced) in
      let was : count ≤ from + (length (batches_in kept) + h.others) = h.within in
      record { others = 0; synced = inl refl; within = omega (arith, long, least, was) }
]
  where
    goes : HaveSynced old (last ∷ []) h.others → HaveSynced new (more ∷ []) h.others
    goes (inl none) = inl none
    goes (inr s) = inr (s.0, s.1, s.2, ap (λ (n : ℕ). new.synced (name_of (Log n))) number ∙ same ∙ s.3, s.4, s.5, (let within : h.others ≤ length last.batches = s.6 in omega (arith, within, longer)))

-- Where the last one is synced whole, too, all are sure.
sure_synced : (facts : Facts) (from : ℕ) (kept : List LogContent) (last : LogContent) → HasLog facts.files last → IsKept facts (name_of (Log last.number)) → AreSure facts from kept (last ∷ []) (from + length (batches_in (kept ++ last ∷ [])))
sure_synced facts from kept last has whole =
    let sum : length (batches_in (kept ++ last ∷ [])) ≡ length (batches_in kept) + length (last.batches ++ []) = ap length (batches-append kept (last ∷ [])) ∙ length-append (batches_in kept) (last.batches ++ []) in
    let one : length (last.batches ++ []) ≡ length last.batches = ap length (append-nil last.batches) in
    record { others = length last.batches; synced = inr (has.bytes, last.batches, last.tail, whole has.bytes has.there, has.spelled, omega arith, omega arith); within = omega (arith, sum, one) }

-- The file of this name is synced where that was asked for, and else the same of it is.
abbrev pub SyncsLast : Bool → Facts → Facts → List ℕ → Type 0
SyncsLast true old new name = IsSynced new name
SyncsLast false old new name = new.synced name ≡ old.synced name

-- The same holds of the log to which a batch was appended, which has more then.
abbrev pub SyncsMore : Bool → Facts → Facts → LogContent → LogContent → Type 0
SyncsMore true old new last more = HasLog new.files more × IsKept new (name_of (Log more.number))
SyncsMore false old new last more = new.synced (name_of (Log last.number)) ≡ old.synced (name_of (Log last.number))

-- So many are sure after a write: with sync all that there are then.
pub sure_behind : (sync : Bool) (old new : Facts) (from : ℕ) (kept doubted since : List LogContent) (last more : LogContent) (count all now : ℕ) → kept ++ doubted ≡ since ++ last ∷ [] → 0 < length doubted → more.number ≡ last.number
    → length last.batches ≤ length more.batches → from + length (batches_in (since ++ more ∷ [])) ≡ all → now ≡ (if sync then all else count) → SyncsMore sync old new last more → AreSure old from kept doubted count → AreSure new from since (more ∷ []) now
sure_behind true old new from kept doubted since last more count all now parts some number longer whole is syncs h = subst (AreSure new from since (more ∷ [])) (whole ∙ sym is) (sure_synced new from since more syncs.0 syncs.1)
sure_behind false old new from kept doubted since last more count all now parts some number longer whole is same h =
    subst (AreSure new from since (more ∷ [])) (sym is) (sure_written old new from kept doubted since last more count parts some number longer same h)

-- Those before the last lie in a table.
pub sure_flushed : (facts : Facts) (from : ℕ) (kept doubted since : List LogContent) (last : LogContent) (count : ℕ) → kept ++ doubted ≡ since ++ last ∷ [] → 0 < length doubted → AreSure facts from kept doubted count
    → AreSure facts (from + length (batches_in since)) [] (last ∷ []) count
sure_flushed facts from kept doubted since last count parts some h = elim (first_or_last kept doubted since last parts some) [
  | inl here ↦
      let had : HaveSynced facts (last ∷ []) h.others = subst (λ (logs : List LogContent). HaveSynced facts logs h.others) here.1 h.synced in
      let long : length (batches_in since) ≡ length (batches_in kept) = ap (λ (logs : List LogContent). length (batches_in logs)) here.0 in
      let was : count ≤ from + (length (batches_in kept) + h.others) = h.within in
      record { others = h.others; synced = had; within = omega (arith, long, was) }
  | inr there ↦
      let long : length (batches_in since) ≡ length (batches_in kept) + length (batches_in there.0) = ap (λ (logs : List LogContent). length (batches_in logs)) there.2 ∙ ap length (batches-append kept there.0) ∙ length-append (batches_in kept) (batches_in there.0) in
      let least : h.others ≤ length (batches_in there.0) = front_synced facts there.0 last h.others there.1 (subst (λ (logs : List LogContent). HaveSynced facts logs h.others) there.3 h.synced) in
      let was : count ≤ from + (length (batches_in kept) + h.others) = h.within in
      record { others = 0; synced = inl refl; within = omega (arith, long, least, was) }
]
