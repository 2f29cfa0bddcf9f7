-- What a power loss leaves of a log. It reads as the log cut off at the same place, or its first
-- damage follows a prefix of it.
use Rattle.std.proofs.Common.{◌≡◌, ℕ, zero, suc, ◌+◌, ◌<◌, ◌≤◌, ◌⊎◌, inl, inr, Bool, true, false, List, [], ◌∷◌, ◌++◌, length, take, drop, get_or, refl, sym, ap, ◌∙◌, subst, append_assoc, arith}
use Rattle.std.proofs.Math.ListN.{get_or-eq_default}
use Rattle.std.proofs.lemmas.Bool.{cases_lt, cases_eq}
use Rattle.std.proofs.lemmas.List.{length-append, length-take, length-drop, take-append-drop, take_at, take_all, append-nil, get_or-take, get_or-drop, get_or_append_left, ext_get_or}
use Rattle.coding.specs.Checksum.{checksum, masked}
use Rattle.logfile.specs.declared.kind.Kind.{Kind as FragmentKind}
use Rattle.logfile.specs.declared.kind.Kind.TheVariants.{Full, First, Middle, Last}
use Rattle.logfile.specs.Kinds.{number_of_kind, made}
use Rattle.logfile.specs.Log.{Fragment, full, first, middle, last, type_of, data_of, fragment_bytes, length_said, IsEnding, IsLogBlock, AreBlocks, IsLog}
use Rattle.logfile.specs.Appends.{room_behind}
use Rattle.logfile.specs.declared.record.Tail.{Tail}
use Rattle.logfile.specs.declared.record.Tail.TheVariants.{Clean}
use Rattle.logfile.proofs.Parts.{between}
use Rattle.logfile.specs.Faults.{sum_said, covered_said, IsWhole}
use Rattle.logfile.specs.Mending.{IsHoled, IsBroken, AreWritten, AreAllBytes, ReadsAsCut, IsCutTo}
use Rattle.logfile.proofs.LogLaws.{length-fragment, said, same_blocks}
use Rattle.logfile.proofs.Steps.{zeros_from, zeros_of}
use Rattle.logfile.proofs.Appends.{Follows, within, beyond, blocks_append}
use Rattle.logfile.proofs.Headers.{made_fragment, stored_at_said, length_at_said, data_of-made}
use Rattle.logfile.proofs.LeadingOn.{LeadsOn, nothing_there, zeros_lead_each, fragment_leads, regroup, take_two}
use Rattle.logfile.proofs.Longest.{blocks_split}

-- ---- byte by byte

-- Each byte is the same, or zero.
record Holes (held bytes : List ℕ) : Type 0 where
  each : (i : ℕ) → (get_or bytes i 0 ≡ get_or held i 0) ⊎ (get_or bytes i 0 ≡ 0)
  short : length bytes ≤ length held

pub length_taken : (n : ℕ) (xs : List ℕ) → n ≤ length xs → length (take n xs) ≡ n
length_taken n xs fits = omega (arith, length-take n xs, fits)

moved_cell : (n i : ℕ) (held bytes : List ℕ) → (get_or bytes (n + i) 0 ≡ get_or held (n + i) 0) ⊎ (get_or bytes (n + i) 0 ≡ 0)
    → (get_or (drop n bytes) i 0 ≡ get_or (drop n held) i 0) ⊎ (get_or (drop n bytes) i 0 ≡ 0)
moved_cell n i held bytes (inl e) = inl (get_or-drop n bytes i 0 ∙ e ∙ sym (get_or-drop n held i 0))
moved_cell n i held bytes (inr e) = inr (get_or-drop n bytes i 0 ∙ e)

fades_behind : (n : ℕ) (held bytes : List ℕ) → Holes held bytes → Holes (drop n held) (drop n bytes)
fades_behind n held bytes h = record {
  each = λ i. moved_cell n i held bytes (h.each (n + i));
  short = omega (arith, h.short, length-drop n bytes, length-drop n held);
}

cell_by : (held bytes : List ℕ) (i : ℕ) → (get_or bytes i 0 ≡ get_or held i 0) ⊎ (get_or bytes i 0 ≡ 0) → get_or bytes i 0 ≤ get_or held i 0
cell_by held bytes i (inl e) = omega (arith, e)
cell_by held bytes i (inr e) = omega (arith, e)

cell : (held bytes : List ℕ) (i : ℕ) → Holes held bytes → get_or bytes i 0 ≤ get_or held i 0
cell held bytes i h = cell_by held bytes i (h.each i)

cells_less : (held bytes : List ℕ) → Holes held bytes → length_said bytes ≤ length_said held
cells_less held bytes h = omega (arith, cell held bytes 4 h, cell held bytes 5 h)

-- ---- what was held, at a place

-- a fragment, or the beginning of one
abbrev pub HasHead : ℕ → List ℕ → Type 0
HasHead room held = ((f : Fragment) × (x : List ℕ) × (held ≡ fragment_bytes f ++ x) × (7 + length (data_of f) ≤ room)) ⊎ ((length held < 7 + length_said held) × (7 + length_said held ≤ room))

head_of_block : (room : ℕ) (fs : List Fragment) (cut : Bool) (block behind held : List ℕ) → 7 ≤ room → 7 ≤ length block → held ≡ block ++ behind → (cut ≡ true → behind ≡ []) → IsLogBlock room fs cut block → HasHead room held
head_of_block room [] false block behind held wide some e q (inl h) = absurd (omega (arith, some, ap length h))
head_of_block room [] false block behind held wide some e q (inr h) = absurd (omega (arith, wide, h.0))
head_of_block room [] true block behind held wide some e q (inl h) = absurd (omega (arith, wide, h.0))
head_of_block room [] true block behind held wide some e q (inr (inl h)) = absurd (omega (arith, some, h.2))
head_of_block room [] true block behind held wide some e q (inr (inr h)) =
    let same : block ≡ held = sym (e ∙ ap (λ (v : List ℕ). block ++ v) (q refl) ∙ append-nil block) in
    inr (subst (λ (v : List ℕ). (length v < 7 + length_said v) × (7 + length_said v ≤ room)) same (h.1, h.2))
head_of_block room (f ∷ fs) cut block behind held wide some e q h =
    inl (f, h.0 ++ behind, e ∙ ap (λ (v : List ℕ). v ++ behind) h.1 ∙ append_assoc (fragment_bytes f) h.0 behind, h.2)

pub head_of : (room : ℕ) (held : List ℕ) (fs : List Fragment) (cut : Bool) → 7 ≤ room → 7 ≤ length held → Follows room held fs cut → HasHead room held
head_of room held fs cut wide some (within small h) = head_of_block room fs cut held [] held wide some (sym (append-nil held)) (λ q. refl) h
head_of room held fs cut wide some (beyond block rest here others e q size h next) =
    head_of_block room here false block rest held wide (omega (arith, size, wide)) e (λ p. absurd cc) h

head_fits : (room : ℕ) (held : List ℕ) → room ≤ 32768 → HasHead room held → 7 + length_said held ≤ room
head_fits room held little (inl h) = omega (arith, h.3, ap length_said h.2, said h.0 h.1 (omega (arith, h.3, little)))
head_fits room held little (inr h) = h.1

-- where no header fits there are zeros
narrow_block : (room : ℕ) (fs : List Fragment) (cut : Bool) (block : List ℕ) → room < 7 → IsLogBlock room fs cut block → (i : ℕ) → i < length block → get_or block i 0 ≡ 0
narrow_block room [] false block small (inl h) i lt = absurd (omega (arith, lt, ap length h))
narrow_block room [] false block small (inr h) i lt = zeros_of block room h.1 i lt
narrow_block room [] true block small (inl h) i lt = zeros_of block (length block) h.3 i lt
narrow_block room [] true block small (inr (inl h)) i lt = absurd (omega (arith, small, h.0))
narrow_block room [] true block small (inr (inr h)) i lt = absurd (omega (arith, small, h.0, h.2))
narrow_block room (f ∷ fs) cut block small h i lt = absurd (omega (arith, small, h.2))

narrow_of : (room : ℕ) (held : List ℕ) (fs : List Fragment) (cut : Bool) → room < 7 → Follows room held fs cut → (i : ℕ) → i < room → i < length held → get_or held i 0 ≡ 0
narrow_of room held fs cut small (within short h) i lt there = narrow_block room fs cut held small h i there
narrow_of room held fs cut small (beyond block rest here others e q size h next) i lt there =
    ap (λ (v : List ℕ). get_or v i 0) e ∙ get_or_append_left block rest 0 i (omega (arith, lt, size)) ∙ narrow_block room here false block small h i (omega (arith, lt, size))

-- ---- one step

abbrev IsDone : ℕ → List ℕ → List ℕ → Type 0
IsDone room held rest = (cut : Bool) × Follows room rest [] cut × Follows room (take (length rest) held) [] cut

record IsOver (room : ℕ) (held rest : List ℕ) : Type 0 where
  n : ℕ
  some : 0 < n
  there : n ≤ length rest
  same : take n rest ≡ take n held
  leads : LeadsOn room (take n rest)

abbrev Outcome : ℕ → List ℕ → List ℕ → Type 0
Outcome room held rest = IsDone room held rest ⊎ (IsOver room held rest ⊎ IsBroken room rest)

ends : (room : ℕ) (rest : List ℕ) → length rest < room → IsEnding true room rest → Follows room rest [] true
ends room rest small h = within small h

narrow_zero : (room : ℕ) (held rest : List ℕ) → Holes held rest → ((i : ℕ) → i < room → i < length held → get_or held i 0 ≡ 0) → (i : ℕ) → i < room → i < length rest → get_or rest i 0 ≡ 0
narrow_zero room held rest h zeros i lt there = omega (arith, cell held rest i h, zeros i lt (omega (arith, there, h.short)))

cut_zeros : (room : ℕ) (rest : List ℕ) → room < 7 → 0 < length rest → length rest < room → ((i : ℕ) → i < length rest → get_or rest i 0 ≡ 0) → Follows room rest [] true
cut_zeros room rest small some part zeros = ends room rest part (inl (small, some, part, zeros_from rest zeros))

step_narrow : (room : ℕ) (held rest : List ℕ) → 0 < room → room < 7 → 0 < length rest → Holes held rest → ((i : ℕ) → i < room → i < length held → get_or held i 0 ≡ 0)
    → (length rest < room) ⊎ (room ≤ length rest) → Outcome room held rest
step_narrow room held rest wide small some h zeros (inl part) =
    let size = length_taken (length rest) held h.short in
    inl (
      true,
      cut_zeros room rest small some part (λ i lt. narrow_zero room held rest h zeros i (omega (arith, lt, part)) lt),
      cut_zeros room (take (length rest) held) small (omega (arith, size, some)) (omega (arith, size, part))
          (λ i lt. get_or-take (length rest) held i 0 (omega (arith, lt, size)) ∙ zeros i (omega (arith, lt, size, part)) (omega (arith, lt, size, h.short))),
    )
step_narrow room held rest wide small some h zeros (inr all) =
    let one = length_taken room rest all in
    let two = length_taken room held (omega (arith, all, h.short)) in
    let mine : (i : ℕ) → i < length (take room rest) → get_or (take room rest) i 0 ≡ 0 =
    λ i lt. get_or-take room rest i 0 (omega (arith, lt, one)) ∙ narrow_zero room held rest h zeros i (omega (arith, lt, one)) (omega (arith, lt, one, all)) in
    inr (inl (record {
      n = room;
      some = wide;
      there = all;
      same = ext_get_or 0 (take room rest) (take room held) (one ∙ sym two)
          (λ i lt. mine i lt ∙ sym (get_or-take room held i 0 (omega (arith, lt, one)) ∙ zeros i (omega (arith, lt, one)) (omega (arith, lt, one, all, h.short))));
      leads = zeros_lead_each room (take room rest) small one mine;
    }))

-- whether a header and its data are a fragment
none_of : (number : ℕ) → (number ≡ 1 → ⊥) → (number ≡ 2 → ⊥) → (number ≡ 3 → ⊥) → (number ≡ 4 → ⊥) → (f : Fragment) → type_of f ≡ number → ⊥
none_of number a b c d (full x) e = a (sym e)
none_of number a b c d (first x) e = b (sym e)
none_of number a b c d (middle x) e = c (sym e)
none_of number a b c d (last x) e = d (sym e)

which_kind : (number : ℕ) → (number ≡ 1) ⊎ (number ≡ 1 → ⊥) → (number ≡ 2) ⊎ (number ≡ 2 → ⊥) → (number ≡ 3) ⊎ (number ≡ 3 → ⊥) → (number ≡ 4) ⊎ (number ≡ 4 → ⊥)
    → ((kind : FragmentKind) × (number_of_kind kind ≡ number)) ⊎ ((f : Fragment) → type_of f ≡ number → ⊥)
which_kind number (inl e) b c d = inl (Full, sym e)
which_kind number (inr a) (inl e) c d = inl (First, sym e)
which_kind number (inr a) (inr b) (inl e) d = inl (Middle, sym e)
which_kind number (inr a) (inr b) (inr c) (inl e) = inl (Last, sym e)
which_kind number (inr a) (inr b) (inr c) (inr d) = inr (none_of number a b c d)

kind_or_none : (number : ℕ) → ((kind : FragmentKind) × (number_of_kind kind ≡ number)) ⊎ ((f : Fragment) → type_of f ≡ number → ⊥)
kind_or_none number = which_kind number (cases_eq number 1) (cases_eq number 2) (cases_eq number 3) (cases_eq number 4)

byte_taken : (n i : ℕ) (xs : List ℕ) → ((j : ℕ) → get_or xs j 0 < 256) → (i < n) ⊎ (n ≤ i) → get_or (take n xs) i 0 < 256
byte_taken n i xs each (inl lt) = omega (arith, get_or-take n xs i 0 lt, each i)
byte_taken n i xs each (inr le) = omega (arith, get_or-eq_default (take n xs) 0 {n = i} (omega (arith, le, length-take n xs)))

abbrev HasFragment : ℕ → List ℕ → Type 0
HasFragment len rest = (f : Fragment) × (x : List ℕ) × (rest ≡ fragment_bytes f ++ x) × (length (data_of f) ≡ len)

judged_kind : (room len : ℕ) (rest : List ℕ) → ((i : ℕ) → get_or (take room rest) i 0 < 256) → IsWhole room (take room rest) → len ≡ length_said (take room rest)
    → sum_said (take room rest) ≡ masked (checksum (covered_said (take room rest)))
    → ((kind : FragmentKind) × (number_of_kind kind ≡ get_or (take room rest) 6 0)) ⊎ ((f : Fragment) → type_of f ≡ get_or (take room rest) 6 0 → ⊥) → HasFragment len rest ⊎ IsBroken room rest
judged_kind room len rest each w is sum (inr none) = inr (inr (w, sum, none))
judged_kind room len rest each w is sum (inl (kind, number)) =
    let y = take room rest in
    let d = take len (drop 7 y) in
    let there : len ≤ length (drop 7 y) = omega (arith, w, is, length-drop 7 y) in
    let sums : sum_said y ≡ masked (checksum (get_or y 6 0 ∷ d)) = sum ∙ ap (λ (n : ℕ). masked (checksum (get_or y 6 0 ∷ take n (drop 7 y)))) (sym is) in
    let e = made_fragment y kind len each (omega (arith, w.2)) (is ∙ sym (length_at_said y)) there number (stored_at_said y ∙ sums) in
    inl (made kind d, _, regroup (made kind d) (drop len (drop 7 y)) rest room e, ap length (data_of-made kind d) ∙ length_taken len (drop 7 y) there)

judged_sum : (room len : ℕ) (rest : List ℕ) → ((i : ℕ) → get_or (take room rest) i 0 < 256) → IsWhole room (take room rest) → len ≡ length_said (take room rest)
    → (sum_said (take room rest) ≡ masked (checksum (covered_said (take room rest)))) ⊎ (sum_said (take room rest) ≡ masked (checksum (covered_said (take room rest))) → ⊥) → HasFragment len rest ⊎ IsBroken room rest
judged_sum room len rest each w is (inr other) = inr (inl (w, other))
judged_sum room len rest each w is (inl sum) = judged_kind room len rest each w is sum (kind_or_none (get_or (take room rest) 6 0))

judged : (room : ℕ) (rest : List ℕ) → ((i : ℕ) → get_or rest i 0 < 256) → 7 + length_said rest ≤ room → 7 + length_said rest ≤ length rest → HasFragment (length_said rest) rest ⊎ IsBroken room rest
judged room rest each fits there =
    let y = take room rest in
    let says : length_said rest ≡ length_said y = omega (arith, get_or-take room rest 4 0 (omega (arith, fits)), get_or-take room rest 5 0 (omega (arith, fits))) in
    let size : 7 + length_said y ≤ length y = omega (arith, length-take room rest, fits, there, says) in
    judged_sum room (length_said rest) rest (λ i. byte_taken room i rest each (cases_lt i room)) (omega (arith, fits, says), size, omega (arith, size)) says (cases_eq (sum_said y) (masked (checksum (covered_said y))))

over_fragment : (room len : ℕ) (held rest : List ℕ) (f : Fragment) (x more : List ℕ) → rest ≡ fragment_bytes f ++ x → held ≡ fragment_bytes f ++ more → 7 + length (data_of f) ≤ room → IsOver room held rest
over_fragment room len held rest f x more e g fits =
    let n = 7 + length (data_of f) in
    let one : take n rest ≡ fragment_bytes f = ap (take n) e ∙ take_at (fragment_bytes f) x n (length-fragment f) in
    let two : take n held ≡ fragment_bytes f = ap (take n) g ∙ take_at (fragment_bytes f) more n (length-fragment f) in
    record {
      n = n;
      some = omega arith;
      there = omega (arith, ap length e, length-append (fragment_bytes f) x, length-fragment f);
      same = one ∙ sym two;
      leads = fragment_leads room f (take n rest) fits one;
    }

step_judged : (room : ℕ) (held rest : List ℕ) → room ≤ 32768 → Holes held rest → 7 + length_said rest ≤ room → 7 + length_said rest ≤ length rest → HasHead room held
    → ((f : Fragment) (x : List ℕ) → rest ≡ fragment_bytes f ++ x → 7 + length (data_of f) ≤ room → (more : List ℕ) × (held ≡ fragment_bytes f ++ more))
    → HasFragment (length_said rest) rest ⊎ IsBroken room rest → Outcome room held rest
step_judged room held rest little h fits there head written (inr bad) = inr (inr bad)
step_judged room held rest little h fits there head written (inl (f, x, e, size)) =
    let room_for : 7 + length (data_of f) ≤ room = omega (arith, fits, size) in
    let w = written f x e room_for in
    inr (inl (over_fragment room 0 held rest f x w.0 e w.1 room_for))

step_data : (room : ℕ) (held rest : List ℕ) → room ≤ 32768 → 7 ≤ length rest → Holes held rest → HasHead room held → ((i : ℕ) → get_or rest i 0 < 256)
    → ((f : Fragment) (x : List ℕ) → rest ≡ fragment_bytes f ++ x → 7 + length (data_of f) ≤ room → (more : List ℕ) × (held ≡ fragment_bytes f ++ more))
    → (length rest < 7 + length_said rest) ⊎ (7 + length_said rest ≤ length rest) → Outcome room held rest
step_data room held rest little some h head each written (inl part) =
    let less = cells_less held rest h in
    let fits = head_fits room held little head in
    let t = take (length rest) held in
    let size : length t ≡ length rest = length_taken (length rest) held h.short in
    let says : length_said t ≡ length_said held = omega (arith, get_or-take (length rest) held 4 0 (omega (arith, some)), get_or-take (length rest) held 5 0 (omega (arith, some))) in
    inl (
      true,
      ends room rest (omega (arith, part, less, fits)) (inr (inr (some, part, omega (arith, less, fits)))),
      ends room t (omega (arith, part, less, fits, size)) (inr (inr (omega (arith, size, some), omega (arith, size, part, less, says), omega (arith, says, fits)))),
    )
step_data room held rest little some h head each written (inr there) =
    let fits : 7 + length_said rest ≤ room = omega (arith, cells_less held rest h, head_fits room held little head) in
    step_judged room held rest little h fits there head written (judged room rest each fits there)

step_wide : (room : ℕ) (held rest : List ℕ) (fs : List Fragment) (cut : Bool) → 7 ≤ room → room ≤ 32768 → 0 < length rest → Holes held rest → Follows room held fs cut → ((i : ℕ) → get_or rest i 0 < 256)
    → ((f : Fragment) (x : List ℕ) → rest ≡ fragment_bytes f ++ x → 7 + length (data_of f) ≤ room → (more : List ℕ) × (held ≡ fragment_bytes f ++ more))
    → (length rest < 7) ⊎ (7 ≤ length rest) → Outcome room held rest
step_wide room held rest fs cut wide little some h k each written (inl part) =
    let size : length (take (length rest) held) ≡ length rest = length_taken (length rest) held h.short in
    inl (
      true,
      ends room rest (omega (arith, part, wide)) (inr (inl (wide, some, part))),
      ends room (take (length rest) held) (omega (arith, part, wide, size)) (inr (inl (wide, omega (arith, size, some), omega (arith, size, part)))),
    )
step_wide room held rest fs cut wide little some h k each written (inr big) =
    step_data room held rest little big h (head_of room held fs cut wide (omega (arith, big, h.short)) k) each written (cases_lt (length rest) (7 + length_said rest))

step : (room : ℕ) (held rest : List ℕ) (fs : List Fragment) (cut : Bool) → 0 < room → room ≤ 32768 → 0 < length rest → Holes held rest → Follows room held fs cut → ((i : ℕ) → get_or rest i 0 < 256)
    → ((f : Fragment) (x : List ℕ) → rest ≡ fragment_bytes f ++ x → 7 + length (data_of f) ≤ room → (more : List ℕ) × (held ≡ fragment_bytes f ++ more))
    → (room < 7) ⊎ (7 ≤ room) → Outcome room held rest
step room held rest fs cut some_room little some h k each written (inl small) =
    step_narrow room held rest some_room small some h (narrow_of room held fs cut small k) (cases_lt (length rest) room)
step room held rest fs cut some_room little some h k each written (inr wide) =
    step_wide room held rest fs cut wide little some h k each written (cases_lt (length rest) 7)

-- ---- all of it

abbrev ReadsBlocks : List ℕ → List ℕ → Type 0
ReadsBlocks held bytes = (fs : List Fragment) × (cut : Bool) × AreBlocks bytes fs cut × AreBlocks (take (length bytes) held) fs cut

abbrev Verdict : List ℕ → List ℕ → Type 0
Verdict held bytes = ReadsBlocks held bytes ⊎ IsCutTo held bytes

-- whole fragments stand in front of this place, in both
record Reached (held bytes : List ℕ) (at : ℕ) (fs : List Fragment) : Type 0 where
  there : at ≤ length bytes
  same : take at bytes ≡ take at held
  blocks : AreBlocks (take at bytes) fs false

taken_outcome : (at : ℕ) (held bytes : List ℕ) (fs : List Fragment) → length bytes ≤ length held → Reached held bytes at fs
    → ((n : ℕ) (gs : List Fragment) → 0 < n → Reached held bytes (at + n) gs → Verdict held bytes)
    → Outcome (room_behind (take at bytes)) (drop at held) (drop at bytes) → Verdict held bytes
taken_outcome at held bytes fs short r more (inl (cut, k, l)) =
    let m = length (drop at bytes) in
    let one = blocks_append (take at bytes) (drop at bytes) fs [] false cut (room_behind (take at bytes)) refl refl r.blocks k in
    let two = blocks_append (take at bytes) (take m (drop at held)) fs [] false cut (room_behind (take at bytes)) refl refl r.blocks l in
    let all : at + m ≡ length bytes = omega (arith, length-drop at bytes, r.there) in
    let parts : take at bytes ++ take m (drop at held) ≡ take (length bytes) held =
    ap (λ (v : List ℕ). v ++ take m (drop at held)) r.same ∙ take_two held at m (omega (arith, r.there, short)) ∙ ap (λ (n : ℕ). take n held) all in
    inl (fs ++ [], cut, subst (λ (v : List ℕ). AreBlocks v (fs ++ []) cut) (take-append-drop at bytes) one, subst (λ (v : List ℕ). AreBlocks v (fs ++ []) cut) parts two)
taken_outcome at held bytes fs short r more (inr (inl o)) =
    let next = o.leads (take at bytes) fs refl r.blocks in
    let mine = take_two bytes at o.n r.there in
    more o.n (fs ++ next.0) o.some (record {
      there = omega (arith, o.there, length-drop at bytes, r.there);
      same = sym mine ∙ ap (λ (v : List ℕ). v ++ take o.n (drop at bytes)) r.same ∙ ap (λ (v : List ℕ). take at held ++ v) o.same ∙ take_two held at o.n (omega (arith, r.there, short));
      blocks = subst (λ (v : List ℕ). AreBlocks v (fs ++ next.0) false) mine next.1;
    })
taken_outcome at held bytes fs short r more (inr (inr bad)) =
    inr (record {
      front = take at bytes;
      more = drop at held;
      at = record { fragments = fs; rest = drop at bytes; parts = sym (take-append-drop at bytes); whole = r.blocks; broken = bad };
      begins = sym (take-append-drop at held) ∙ ap (λ (v : List ℕ). v ++ drop at held) (sym r.same);
    })

at_end : (at : ℕ) (held bytes : List ℕ) (fs : List Fragment) → Reached held bytes at fs → length bytes ≤ at → Verdict held bytes
at_end at held bytes fs r le =
    let size : at ≡ length bytes = omega (arith, le, r.there) in
    inl (
      fs,
      false,
      subst (λ (v : List ℕ). AreBlocks v fs false) (take_all at bytes le) r.blocks,
      subst (λ (v : List ℕ). AreBlocks v fs false) (r.same ∙ ap (λ (n : ℕ). take n held) size) r.blocks,
    )

written_at : (at : ℕ) (held bytes : List ℕ) (fs : List Fragment) → Reached held bytes at fs → AreWritten held bytes → (f : Fragment) (x : List ℕ) → drop at bytes ≡ fragment_bytes f ++ x
    → 7 + length (data_of f) ≤ room_behind (take at bytes) → (more : List ℕ) × (drop at held ≡ fragment_bytes f ++ more)
written_at at held bytes fs r w f x e fits =
    let got = w (take at bytes) x fs f (sym (take-append-drop at bytes) ∙ ap (λ (v : List ℕ). take at bytes ++ v) e) r.blocks fits in
    (got.0, ap (λ (n : ℕ). drop n held) (sym (length_taken at bytes r.there)) ∙ got.1)

outcome_at : (at : ℕ) (held bytes : List ℕ) (fs hs : List Fragment) (cut : Bool) → Holes held bytes → AreBlocks held hs cut → AreWritten held bytes → AreAllBytes bytes → Reached held bytes at fs → at < length bytes
    → Outcome (room_behind (take at bytes)) (drop at held) (drop at bytes)
outcome_at at held bytes fs hs cut h blocks w each r lt =
    let room = room_behind (take at bytes) in
    let both : held ≡ take at bytes ++ drop at held = sym (take-append-drop at held) ∙ ap (λ (v : List ℕ). v ++ drop at held) (sym r.same) in
    let on = blocks_split (take at bytes) (drop at held) held fs hs false cut room refl refl both r.blocks blocks in
    step room (drop at held) (drop at bytes) on.0 cut (omega arith) (omega arith) (omega (arith, length-drop at bytes, lt)) (fades_behind at held bytes h) on.1
    (λ i. omega (arith, get_or-drop at bytes i 0, each (at + i))) (written_at at held bytes fs r w) (cases_lt room 7)

walk : (fuel at : ℕ) (held bytes : List ℕ) (fs hs : List Fragment) (cut : Bool) → length bytes < at + fuel → Holes held bytes → AreBlocks held hs cut → AreWritten held bytes → AreAllBytes bytes → Reached held bytes at fs
    → (at < length bytes) ⊎ (length bytes ≤ at) → Verdict held bytes
walk zero at held bytes fs hs cut enough h blocks w each r c = absurd (omega (arith, enough, r.there))
walk (suc fuel) at held bytes fs hs cut enough h blocks w each r (inr le) = at_end at held bytes fs r le
walk (suc fuel) at held bytes fs hs cut enough h blocks w each r (inl lt) =
    taken_outcome at held bytes fs h.short r
    (λ n gs some q. walk fuel (at + n) held bytes gs hs cut (omega (arith, enough, some)) h blocks w each q (cases_lt (at + n) (length bytes)))
    (outcome_at at held bytes fs hs cut h blocks w each r lt)

empty_log : IsLog [] [] Clean
empty_log = record { fragments = []; cut = false; begun = false; blocks = nothing_there; joined = refl; tail_is = refl }

reads_of : (held bytes : List ℕ) (records : List (List ℕ)) (tail : Tail) → IsLog held records tail → ReadsBlocks held bytes → ReadsAsCut held bytes
reads_of held bytes records tail log (fs, cut, k, l) =
    let p = between [] held [] records Clean tail (length bytes) empty_log log in
    let t = take (length bytes) held in
    let h = p.4 in
    let same = same_blocks t t h.fragments fs h.cut cut refl h.blocks l in
    record {
      records = [] ++ p.0;
      tail = p.2;
      log = record {
        fragments = h.fragments;
        cut = h.cut;
        begun = h.begun;
        blocks = subst (λ (v : List Fragment). AreBlocks bytes v h.cut) (sym same.0) (subst (λ (b : Bool). AreBlocks bytes fs b) (sym same.1) k);
        joined = h.joined;
        tail_is = h.tail_is;
      };
      cut = h;
    }

verdict_of : (held bytes : List ℕ) (records : List (List ℕ)) (tail : Tail) → IsLog held records tail → Verdict held bytes → ReadsAsCut held bytes ⊎ IsCutTo held bytes
verdict_of held bytes records tail log (inl h) = inl (reads_of held bytes records tail log h)
verdict_of held bytes records tail log (inr h) = inr h

pub holed_log : (held bytes : List ℕ) (records : List (List ℕ)) (tail : Tail) → IsLog held records tail → IsHoled held bytes → AreWritten held bytes → AreAllBytes bytes → ReadsAsCut held bytes ⊎ IsCutTo held bytes
holed_log held bytes records tail log z w each =
    let begin : Reached held bytes 0 [] = record { there = omega arith; same = refl; blocks = nothing_there } in
    verdict_of held bytes records tail log
    (walk (suc (length bytes)) 0 held bytes [] log.fragments log.cut (omega arith) (record { each = z.each; short = z.short }) log.blocks w each begin (cases_lt 0 (length bytes)))
