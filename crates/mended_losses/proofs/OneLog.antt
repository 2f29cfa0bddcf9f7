-- One log of which a power loss left zeros.
use Rattle.std.proofs.Common.{◌≡◌, ℕ, zero, suc, ◌≤◌, ◌⊎◌, inl, inr, List, [], ◌∷◌, ◌++◌, length, take, drop, slice_index, Option, Some, refl, sym, ap, subst, ◌∙◌, append-nil, arith}
use Rattle.std.proofs.lemmas.List.{length-append, take-append-drop}
use Rattle.logfile.specs.Log.{IsLog}
use Rattle.logfile.specs.Mending.{IsCutTo, IsHoled, ReadsAsCut}
use Rattle.logfile.proofs.Cutting.{cut_none}
use Rattle.logfile.proofs.Holes.{holed_log}
use Rattle.logfile.proofs.Longest.{longest_cut}
use Rattle.store.specs.Losses.{BeginsWith}
use Rattle.mending.specs.Cutting.{Becomes, IsCut, IsReadable}
use Rattle.mending.specs.declared.ends.Ends.{Ends}
use Rattle.mending.proofs.Fronts.{at_of, no_log_there, one_cut_front}
use Rattle.mended_losses.specs.Laws.{MendedLogLaw, PlainLossLaw, ReadsAsPrefix}
use Rattle.mended_losses.specs.Reading.{WasLog, WasWritten}

-- ---- prefixes

nothing_taken : (n : ℕ) → take {A = ℕ} n [] ≡ []
nothing_taken zero = refl
nothing_taken (suc n) = refl

take_over : (n : ℕ) (a rest : List ℕ) → length a ≤ n → (k : ℕ) × (take n (a ++ rest) ≡ a ++ take k rest)
take_over n [] rest le = (n, refl)
take_over zero (x ∷ a) rest le = absurd (omega (arith, le))
take_over (suc n) (x ∷ a) rest le = let more = take_over n a rest (omega (arith, le)) in (more.0, ap (λ (xs : List ℕ). x ∷ xs) more.1)

no_more : (rest : List ℕ) → length rest ≡ 0 → rest ≡ []
no_more [] e = refl
no_more (x ∷ rest) e = absurd (omega (arith, e))

-- no longer than what it begins with
pub same_long : (bytes held : List ℕ) → BeginsWith bytes held → length bytes ≤ length held → bytes ≡ held
same_long bytes held b le =
    let none : length b.0 ≡ 0 = omega (arith, ap length b.1, length-append held b.0, le) in
    b.1 ∙ ap (λ (rest : List ℕ). held ++ rest) (no_more b.0 none) ∙ append-nil held

-- ---- a prefix has no zeros that weren't there

each_prefix : (bytes rest : List ℕ) (i : ℕ) → (slice_index bytes i ≡ slice_index (bytes ++ rest) i) ⊎ (slice_index bytes i ≡ 0)
each_prefix [] rest zero = inr refl
each_prefix [] rest (suc i) = inr refl
each_prefix (x ∷ bytes) rest zero = inl refl
each_prefix (x ∷ bytes) rest (suc i) = each_prefix bytes rest i

prefix_holed : (held bytes : List ℕ) → BeginsWith held bytes → IsHoled held bytes
prefix_holed held bytes b = record {
  short = omega (arith, ap length b.1, length-append bytes b.0);
  each = λ i. subst (λ (v : List ℕ). (slice_index bytes i ≡ slice_index v i) ⊎ (slice_index bytes i ≡ 0)) (sym b.1) (each_prefix bytes b.0 i);
}

pub plain_holed : PlainLossLaw
plain_holed at since now lost h = record {
  names = h.names;
  holed = λ q bytes there. let b = h.beginning q bytes there in (b.0, b.1, prefix_holed b.0 bytes b.2);
  kept = h.kept;
}

-- ---- it reads as what was held, cut off

cut_off : (held bytes synced : List ℕ) → BeginsWith held synced → BeginsWith bytes synced → BeginsWith (take (length bytes) held) synced
cut_off held bytes synced h b =
    let long : length synced ≤ length bytes = omega (arith, ap length b.1, length-append synced b.0) in
    let over = take_over (length bytes) synced h.0 long in
    (take over.0 h.0, ap (λ (v : List ℕ). take (length bytes) v) h.1 ∙ over.1)

-- what of these bytes is synced is left
abbrev Keeps : Option (List ℕ) → List ℕ → Type 0
Keeps kept bytes = (synced : List ℕ) → kept ≡ Some synced → BeginsWith bytes synced

whole_left : (ends : Ends) (held bytes front : List ℕ) (kept : Option (List ℕ)) → WasLog held kept → Keeps kept bytes → Becomes ends bytes front → ReadsAsCut held bytes → ReadsAsPrefix held kept front
whole_left ends held bytes front kept was keeps b r = elim b.how [
  | inl is ↦ (
    take (length bytes) held,
    (drop (length bytes) held, sym (take-append-drop (length bytes) held)),
    λ synced k. cut_off held bytes synced (was.synced synced k).0 (keeps synced k),
    (r.records, r.tail, subst (λ (v : List ℕ). IsLog v r.records r.tail) (sym is) r.log, r.cut),
  )
  | inr cut ↦ absurd (no_log_there ends bytes front cut (r.records, r.tail, r.log))
]

-- ---- it is cut

all_synced : (held bytes synced : List ℕ) (kept : Option (List ℕ)) → WasLog held kept → IsHoled held bytes → (c : IsCutTo held bytes) → synced ≡ held → BeginsWith bytes synced → ⊥
all_synced held bytes synced kept was holed c is b =
    let same : bytes ≡ held = same_long bytes held (subst (λ (v : List ℕ). BeginsWith bytes v) is b) holed.short in
    cut_none bytes c.front was.records was.tail c.at (subst (λ (v : List ℕ). IsLog v was.records was.tail) (sym same) was.log)

cut_left : (ends : Ends) (held bytes front : List ℕ) (kept : Option (List ℕ)) → WasLog held kept → IsHoled held bytes → Keeps kept bytes → IsReadable front → IsCut ends bytes front → IsCutTo held bytes → ReadsAsPrefix held kept front
cut_left ends held bytes front kept was holed keeps readable cut c =
    let same : front ≡ c.front = one_cut_front bytes front c.front (at_of ends bytes front cut) c.at in (
      front,
      (c.more, c.begins ∙ ap (λ (v : List ℕ). v ++ c.more) (sym same)),
      λ synced k.
          let b = keeps synced k in
          elim (was.synced synced k).1 [
            | inl all ↦ absurd (all_synced held bytes synced kept was holed c all b)
            | inr whole ↦ let l = longest_cut bytes c.front synced b.0 whole.0 c.at b.1 whole.1 in (l.0, same ∙ l.1)
          ],
      (readable.0, readable.1, readable.2, readable.2),
    )

cut_or_not : (ends : Ends) (held bytes front : List ℕ) (kept : Option (List ℕ)) → WasLog held kept → IsHoled held bytes → Keeps kept bytes → Becomes ends bytes front → IsCutTo held bytes → ReadsAsPrefix held kept front
cut_or_not ends held bytes front kept was holed keeps b c = elim b.how [
  | inl is ↦ (let r = subst IsReadable is b.readable in absurd (cut_none bytes c.front r.0 r.1 c.at r.2))
  | inr cut ↦ cut_left ends held bytes front kept was holed keeps b.readable cut c
]

pub one_log : MendedLogLaw
one_log ends held bytes front kept was written holed keeps b = elim (holed_log held bytes was.records was.tail was.log holed written.there written.all_bytes) [
  | inl reads ↦ whole_left ends held bytes front kept was keeps b reads
  | inr cut ↦ cut_or_not ends held bytes front kept was holed keeps b cut
]
