-- What a power loss leaves of a log, with zeros at its end. It reads as the log cut off at the same
-- place, or is mended to a prefix of it.
use Rattle.std.proofs.Common.{◌≡◌, ℕ, ◌+◌, ◌-◌, ◌<◌, ◌≤◌, ◌⊎◌, inl, inr, false, List, ◌++◌, length, replicate, take, drop, get_or, refl, sym, ap, ◌∙◌, subst, arith}
use Rattle.std.proofs.Math.ListN.{get_or-eq_default}
use Rattle.std.proofs.lemmas.Bool.{cases_lt}
use Rattle.std.proofs.lemmas.List.{length-append, length-replicate, length-drop, take-append-drop, take_at, get_or-take, get_or-drop, get_or-append-add, get_or_append_left, get_or-replicate, ext_get_or}
use Rattle.coding.proofs.Fronts.{same_front}
use Rattle.logfile.specs.Log.{data_of, fragment_bytes, length_said, IsLog}
use Rattle.logfile.specs.Appends.{room_behind}
use Rattle.logfile.specs.declared.record.Tail.{Tail}
use Rattle.logfile.specs.Mending.{IsZeroed, IsHoled, IsBroken, IsBrokenOff, AreWritten, AreAllBytes, ReadsAsCut, IsCutTo, IsMendedTo}
use Rattle.logfile.proofs.LogLaws.{length-fragment, said}
use Rattle.logfile.proofs.Steps.{zeros_from}
use Rattle.logfile.proofs.Longest.{blocks_split}
use Rattle.logfile.proofs.Holes.{length_taken, HasHead, head_of, holed_log}
use Rattle.logfile.proofs.Cutting.{bad_fragment, broken_wide, broken_long, broken_there}

-- ---- byte by byte

-- Up to a place the bytes of both are the same, and behind it those are zeros.
record Fades (kept : ℕ) (held bytes : List ℕ) : Type 0 where
  same : (i : ℕ) → i < kept → get_or bytes i 0 ≡ get_or held i 0
  none : (i : ℕ) → kept ≤ i → get_or bytes i 0 ≡ 0
  short : length bytes ≤ length held

abbrev zeros_list : ℕ → List ℕ
zeros_list n = replicate n 0

zero_at : (n i : ℕ) → (i < n) ⊎ (n ≤ i) → get_or (zeros_list n) i 0 ≡ 0
zero_at n i (inl lt) = get_or-replicate n i 0 0 lt
zero_at n i (inr le) = get_or-eq_default (zeros_list n) 0 (omega (arith, le, length-replicate {A = ℕ} n 0))

fades_of : (held bytes : List ℕ) (z : IsZeroed held bytes) → Fades z.kept held bytes
fades_of held bytes z =
    let front = take z.kept held in
    let size : length front ≡ z.kept = length_taken z.kept held (omega (arith, z.fits)) in
    record {
      same = λ i lt. ap (λ (v : List ℕ). get_or v i 0) z.parts ∙ get_or_append_left front (replicate z.zeros 0) 0 i (omega (arith, lt, size)) ∙ get_or-take z.kept held i 0 lt;
      none = λ i le.
          let j = i - z.kept in
          let place : i ≡ length front + j = omega (arith, le, size) in
          ap (λ (v : List ℕ). get_or v i 0) z.parts ∙ ap (λ (k : ℕ). get_or (front ++ replicate z.zeros 0) k 0) place ∙ get_or-append-add front (replicate z.zeros 0) j 0 ∙ zero_at z.zeros j (cases_lt j z.zeros);
      short = omega (arith, ap length z.parts, length-append front (replicate z.zeros 0), size, length-replicate {A = ℕ} z.zeros 0, z.fits);
    }

fades_behind : (n kept : ℕ) (held bytes : List ℕ) → Fades kept held bytes → Fades (kept - n) (drop n held) (drop n bytes)
fades_behind n kept held bytes h = record {
  same = λ i lt. get_or-drop n bytes i 0 ∙ h.same (n + i) (omega (arith, lt)) ∙ sym (get_or-drop n held i 0);
  none = λ i le. get_or-drop n bytes i 0 ∙ h.none (n + i) (omega (arith, le));
  short = omega (arith, h.short, length-drop n bytes, length-drop n held);
}

same_front_cells : (kept n : ℕ) (held bytes : List ℕ) → Fades kept held bytes → n ≤ kept → n ≤ length bytes → take n bytes ≡ take n held
same_front_cells kept n held bytes h fits there =
    let one = length_taken n bytes there in
    let two = length_taken n held (omega (arith, there, h.short)) in
    ext_get_or 0 (take n bytes) (take n held) (one ∙ sym two)
    (λ i lt. get_or-take n bytes i 0 (omega (arith, lt, one)) ∙ h.same i (omega (arith, lt, one, fits)) ∙ sym (get_or-take n held i 0 (omega (arith, lt, one))))

zeros_behind : (kept n : ℕ) (held bytes : List ℕ) → Fades kept held bytes → kept ≤ n → drop n bytes ≡ replicate (length bytes - n) 0
zeros_behind kept n held bytes h le =
    zeros_from (drop n bytes) (λ i lt. get_or-drop n bytes i 0 ∙ h.none (n + i) (omega (arith, le))) ∙ ap (λ (k : ℕ). replicate k 0) (length-drop n bytes)

-- a fragment that was written is there where all of its bytes are
bad_within : (kept room : ℕ) (held rest : List ℕ) → room ≤ 32768 → Fades kept held rest → 7 + length_said rest ≤ length rest → 7 + length_said rest ≤ kept → HasHead room held → IsBroken room rest → ⊥
bad_within kept room held rest little h there all (inr k) bad =
    omega (arith, k.0, there, h.short, h.same 4 (omega (arith, all)), h.same 5 (omega (arith, all)))
bad_within kept room held rest little h there all (inl k) bad =
    let f = k.0 in
    let says : length_said rest ≡ length_said held = omega (arith, h.same 4 (omega (arith, all)), h.same 5 (omega (arith, all))) in
    let size : length_said held ≡ length (data_of f) = ap length_said k.2 ∙ said f k.1 (omega (arith, k.3, little)) in
    let n = 7 + length (data_of f) in
    let front : take n rest ≡ fragment_bytes f =
    same_front_cells kept n held rest h (omega (arith, all, says, size)) (omega (arith, there, says, size)) ∙ ap (take n) k.2 ∙ take_at (fragment_bytes f) k.1 n (length-fragment f) in
    bad_fragment room f (drop n rest) rest little k.3 (sym (take-append-drop n rest) ∙ ap (λ (v : List ℕ). v ++ drop n rest) front) bad

step_bad : (kept room : ℕ) (held rest : List ℕ) → room ≤ 32768 → Fades kept held rest → 7 + length_said rest ≤ length rest → HasHead room held → IsBroken room rest → (kept < 7 + length_said rest) ⊎ (7 + length_said rest ≤ kept) → IsBrokenOff room rest
step_bad kept room held rest little h there head bad (inl part) = (bad, zeros_behind kept (6 + length_said rest) held rest h (omega (arith, part)))
step_bad kept room held rest little h there head bad (inr all) = absurd (bad_within kept room held rest little h there all head bad)

cell_of : (held bytes : List ℕ) (kept i : ℕ) → Fades kept held bytes → (i < kept) ⊎ (kept ≤ i) → (get_or bytes i 0 ≡ get_or held i 0) ⊎ (get_or bytes i 0 ≡ 0)
cell_of held bytes kept i h (inl lt) = inl (h.same i lt)
cell_of held bytes kept i h (inr le) = inr (h.none i le)

-- ---- all of it

holed_of : (held bytes : List ℕ) (kept : ℕ) → Fades kept held bytes → IsHoled held bytes
holed_of held bytes kept h = record { short = h.short; each = λ i. cell_of held bytes kept i h (cases_lt i kept) }

off_at : (held bytes : List ℕ) (records : List (List ℕ)) (tail : Tail) (kept : ℕ) → IsLog held records tail → Fades kept held bytes → (c : IsCutTo held bytes) → IsBrokenOff (room_behind c.front) c.at.rest
off_at held bytes records tail kept log h c =
    let at = length c.front in
    let room = room_behind c.front in
    let fits : at ≤ length bytes = omega (arith, ap length c.at.parts, length-append c.front c.at.rest) in
    let bytes_same = same_front (take at bytes) c.front (drop at bytes) c.at.rest (length_taken at bytes fits) (take-append-drop at bytes ∙ c.at.parts) in
    let held_same = same_front (take at held) c.front (drop at held) c.more (length_taken at held (omega (arith, fits, h.short))) (take-append-drop at held ∙ c.begins) in
    let moved : Fades (kept - at) c.more c.at.rest =
    subst (λ (v : List ℕ). Fades (kept - at) v c.at.rest) held_same.1 (subst (λ (v : List ℕ). Fades (kept - at) (drop at held) v) bytes_same.1 (fades_behind at kept held bytes h)) in
    let on = blocks_split c.front c.more held c.at.fragments log.fragments false log.cut room refl refl c.begins c.at.whole log.blocks in
    let long : 7 ≤ length c.more = omega (arith, broken_long room c.at.rest c.at.broken, moved.short) in
    let head = head_of room c.more on.0 log.cut (broken_wide room c.at.rest c.at.broken) long on.1 in
    step_bad (kept - at) room c.more c.at.rest (omega arith) moved (broken_there room c.at.rest c.at.broken) head c.at.broken (cases_lt (kept - at) (7 + length_said c.at.rest))

mended_of : (held bytes : List ℕ) (records : List (List ℕ)) (tail : Tail) (kept : ℕ) → IsLog held records tail → Fades kept held bytes → ReadsAsCut held bytes ⊎ IsCutTo held bytes → ReadsAsCut held bytes ⊎ IsMendedTo held bytes
mended_of held bytes records tail kept log h (inl r) = inl r
mended_of held bytes records tail kept log h (inr c) =
    inr (record {
      front = c.front;
      more = c.more;
      mended = record { fragments = c.at.fragments; rest = c.at.rest; parts = c.at.parts; whole = c.at.whole; broken = off_at held bytes records tail kept log h c };
      begins = c.begins;
    })

pub zeroed_log : (held bytes : List ℕ) (records : List (List ℕ)) (tail : Tail) → IsLog held records tail → IsZeroed held bytes → AreWritten held bytes → AreAllBytes bytes → ReadsAsCut held bytes ⊎ IsMendedTo held bytes
zeroed_log held bytes records tail log z w each =
    let h = fades_of held bytes z in
    mended_of held bytes records tail z.kept log h (holed_log held bytes records tail log (holed_of held bytes z.kept h) w each)
