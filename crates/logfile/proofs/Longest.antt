-- No front of whole fragments is longer than a mended one.
use Rattle.std.proofs.Common.{◌≡◌, ℕ, ◌+◌, ◌-◌, ◌%◌, ◌<◌, ◌≤◌, ◌⊎◌, inl, inr, Bool, false, List, [], ◌∷◌, ◌++◌, length, take, drop, refl, sym, ap, ◌∙◌, subst, append_assoc, arith}
use Rattle.std.proofs.lemmas.Bool.{cases_lt}
use Rattle.std.proofs.lemmas.List.{length-append, length-replicate, length-take, length-drop, take-append-drop}
use Rattle.coding.proofs.Fronts.{same_front}
use Rattle.coding.specs.declared.error.Damage.{Damage}
use Rattle.coding.specs.declared.error.Damage.TheVariants.{Checksum, Kind}
use Rattle.logfile.specs.Log.{Fragment, data_of, fragment_bytes, IsLogBlock, AreBlocks, shorter, whole}
use Rattle.logfile.specs.Appends.{room_behind}
use Rattle.logfile.specs.Faults.{HasFaultAt}
use Rattle.logfile.specs.Mending.{IsBroken, IsCutAt, IsMended}
use Rattle.logfile.proofs.LogLaws.{length-fragment, fragment_front, fragment_ends}
use Rattle.logfile.proofs.Appends.{Follows, within, beyond}
use Rattle.logfile.proofs.Written.{take_behind}
use Rattle.logfile.proofs.OneFault.{whole_here}

abbrev Goes : ℕ → List ℕ → Bool → Type 0
Goes room more cut = (fs : List Fragment) × IsLogBlock room fs cut more

block_split : (room : ℕ) (fs gs : List Fragment) (cut : Bool) (bytes more both : List ℕ) → room ≤ 32768 → length bytes < room → both ≡ bytes ++ more → IsLogBlock room fs false bytes → IsLogBlock room gs cut both → Goes (room - length bytes) more cut
block_split room [] gs cut bytes more both little small e (inl none) k =
    let same : room - length bytes ≡ room = omega (arith, ap length none) in
    let alone : both ≡ more = e ∙ ap (λ (v : List ℕ). v ++ more) none in
    (gs, subst (λ (n : ℕ). IsLogBlock n gs cut more) (sym same) (subst (λ (v : List ℕ). IsLogBlock room gs cut v) alone k))
block_split room [] gs cut bytes more both little small e (inr h) k = absurd (omega (arith, small, ap length h.1, length-replicate {A = ℕ} room 0))
block_split room (f ∷ fs) [] cut bytes more both little small e h k =
    absurd (fragment_ends cut room f (h.0 ++ more) both little h.2 k (e ∙ ap (λ (v : List ℕ). v ++ more) h.1 ∙ append_assoc (fragment_bytes f) h.0 more))
block_split room (f ∷ fs) (g ∷ gs) cut bytes more both little small e h k =
    let front = fragment_front f g (h.0 ++ more) k.0 (omega (arith, h.2, little)) (omega (arith, k.2, little))
    (sym (append_assoc (fragment_bytes f) h.0 more) ∙ ap (λ (v : List ℕ). v ++ more) (sym h.1) ∙ sym e ∙ k.1) in
    let len : length bytes ≡ (7 + length (data_of f)) + length h.0 = omega (arith, ap length h.1, length-append (fragment_bytes f) h.0, length-fragment f) in
    let moved : IsLogBlock (room - (7 + length (data_of f))) gs cut k.0 = subst (λ (v : Fragment). IsLogBlock (room - (7 + length (data_of v))) gs cut k.0) (sym front.0) k.3 in
    let rest = block_split (room - (7 + length (data_of f))) fs gs cut h.0 more k.0 (omega (arith, little)) (omega (arith, len, small)) (sym front.1) h.3 moved in
    (rest.0, subst (λ (n : ℕ). IsLogBlock n rest.0 cut more) (omega (arith, len)) rest.1)

abbrev pub GoesOn : ℕ → List ℕ → Bool → Type 0
GoesOn room more cut = (fs : List Fragment) × Follows room more fs cut

within_on : (room : ℕ) (more : List ℕ) (cut : Bool) → length more < room → Goes room more cut → GoesOn room more cut
within_on room more cut small h = (h.0, within small h.1)

beyond_on : (room : ℕ) (more rest : List ℕ) (others : List Fragment) (cut : Bool) → room ≤ length more → rest ≡ drop room more → Goes room (take room more) false → AreBlocks rest others cut → GoesOn room more cut
beyond_on room more rest others cut big e h next =
    (h.0 ++ others, beyond (take room more) rest h.0 others (sym (ap (λ (v : List ℕ). take room more ++ v) e ∙ take-append-drop room more)) refl (omega (arith, length-take room more, big)) h.1 next)

pub blocks_split : (bytes more both : List ℕ) (fs gs : List Fragment) (old cut : Bool) (room : ℕ) → old ≡ false → room ≡ 32768 - length bytes % 32768 → both ≡ bytes ++ more
    → AreBlocks bytes fs old → AreBlocks both gs cut → GoesOn room more cut
blocks_split bytes more both fs gs old cut room o r e (shorter small h) (shorter little k) =
    let left : room ≡ 32768 - length bytes = omega (arith, r, small) in
    let part = block_split 32768 fs gs cut bytes more both (omega arith) small e (subst (λ (b : Bool). IsLogBlock 32768 fs b bytes) o h) k in
    within_on room more cut (omega (arith, left, little, ap length e, length-append bytes more, small)) (subst (λ (n : ℕ). Goes n more cut) (sym left) part)
blocks_split bytes more both fs gs old cut room o r e (shorter small h) (whole block rest here others p j size k next) =
    let left : room ≡ 32768 - length bytes = omega (arith, r, small) in
    let big : room ≤ length more = omega (arith, left, ap length e, ap length p, length-append bytes more, length-append block rest, size, small) in
    let sizes : length (bytes ++ take room more) ≡ length block = omega (arith, length-append bytes (take room more), length-take room more, big, left, size, small) in
    let apart : (bytes ++ take room more) ++ drop room more ≡ block ++ rest =
    append_assoc bytes (take room more) (drop room more) ∙ ap (λ (v : List ℕ). bytes ++ v) (take-append-drop room more) ∙ sym e ∙ p in
    let front = same_front (bytes ++ take room more) block (drop room more) rest sizes apart in
    let part = block_split 32768 fs here false bytes (take room more) block (omega arith) small (sym front.0) (subst (λ (b : Bool). IsLogBlock 32768 fs b bytes) o h) k in
    beyond_on room more rest others cut big (sym front.1) (subst (λ (n : ℕ). Goes n (take room more) false) (sym left) part) next
blocks_split bytes more both fs gs old cut room o r e (whole block rest here others p j size h next) (shorter little k) =
    absurd (omega (arith, little, ap length e, ap length p, length-append bytes more, length-append block rest, size))
blocks_split bytes more both fs gs old cut room o r e (whole block rest here others p j size h next) (whole block' rest' here' others' p' j' size' h' next') =
    let same : room ≡ 32768 - length rest % 32768 = omega (arith, r, ap length p, length-append block rest, size) in
    let front = same_front block block' (rest ++ more) rest' (size ∙ sym size') (sym (append_assoc block rest more) ∙ ap (λ (v : List ℕ). v ++ more) (sym p) ∙ sym e ∙ p') in
    blocks_split rest more rest' others others' old cut room o same (sym front.1) next next'

-- where something whole stands in front there is no fault
pub no_fragment : (what : Damage) (room : ℕ) (f : Fragment) (x behind all : List ℕ) → room ≤ 32768 → 7 + length (data_of f) ≤ room → all ≡ (fragment_bytes f ++ x) ++ behind → HasFaultAt what room (take room all) → ⊥
no_fragment what room f x behind all little fits e h =
    let n = room - (7 + length (data_of f)) in
    let front : take room all ≡ fragment_bytes f ++ take n (x ++ behind) =
    ap (take room) (e ∙ append_assoc (fragment_bytes f) x behind) ∙ take_behind (fragment_bytes f) (x ++ behind) room n (omega (arith, length-fragment f, fits)) in
    whole_here what room f (take n (x ++ behind)) little fits (subst (λ (v : List ℕ). HasFaultAt what room v) front h)

no_block : (what : Damage) (room : ℕ) (fs : List Fragment) (part behind all : List ℕ) → room ≤ 32768 → 7 ≤ room → 0 < length part → all ≡ part ++ behind → IsLogBlock room fs false part → HasFaultAt what room (take room all) → ⊥
no_block what room [] part behind all little wide some e (inl none) h = omega (arith, some, ap length none)
no_block what room [] part behind all little wide some e (inr zeros) h = omega (arith, wide, zeros.0)
no_block what room (f ∷ fs) part behind all little wide some e k h =
    no_fragment what room f k.0 behind all little k.2 (e ∙ ap (λ (v : List ℕ). v ++ behind) k.1) h

no_follow : (what : Damage) (room : ℕ) (fs : List Fragment) (cut : Bool) (mid behind all : List ℕ) → cut ≡ false → room ≤ 32768 → 7 ≤ room → 0 < length mid → all ≡ mid ++ behind → Follows room mid fs cut → HasFaultAt what room (take room all) → ⊥
no_follow what room fs cut mid behind all q little wide some e (within small k) h =
    no_block what room fs mid behind all little wide some e (subst (λ (b : Bool). IsLogBlock room fs b mid) q k) h
no_follow what room fs cut mid behind all q little wide some e (beyond block rest here others p j size k next) h =
    no_block what room here block (rest ++ behind) all little wide (omega (arith, size, wide)) (e ∙ ap (λ (v : List ℕ). v ++ behind) p ∙ append_assoc block rest behind) k h

broken_none : (room : ℕ) (fs : List Fragment) (mid behind all : List ℕ) → room ≤ 32768 → 0 < length mid → all ≡ mid ++ behind → Follows room mid fs false → IsBroken room all → ⊥
broken_none room fs mid behind all little some e k (inl h) = no_follow Checksum room fs false mid behind all refl little (omega (arith, h.0.0)) some e k h
broken_none room fs mid behind all little some e k (inr h) = no_follow Kind room fs false mid behind all refl little (omega (arith, h.0.0)) some e k h

-- A front of whole fragments that the bytes have is a front of the one that is cut behind.
choose_longest : (bytes front sure more : List ℕ) (gs : List Fragment) → IsCutAt bytes front → bytes ≡ sure ++ more → AreBlocks sure gs false
    → (length front < length sure) ⊎ (length sure ≤ length front) → (rest : List ℕ) × (front ≡ sure ++ rest)
choose_longest bytes front sure more gs m e k (inr big) =
    let n = length sure in
    let apart : take n front ++ (drop n front ++ m.rest) ≡ sure ++ more =
    sym (append_assoc (take n front) (drop n front) m.rest) ∙ ap (λ (v : List ℕ). v ++ m.rest) (take-append-drop n front) ∙ sym m.parts ∙ e in
    let same = same_front (take n front) sure (drop n front ++ m.rest) more (omega (arith, length-take n front, big)) apart in
    (drop n front, sym (take-append-drop n front) ∙ ap (λ (v : List ℕ). v ++ drop n front) same.0)
choose_longest bytes front sure more gs m e k (inl small) =
    let n = length front in
    let mid = drop n sure in
    let apart : take n sure ++ (mid ++ more) ≡ front ++ m.rest =
    sym (append_assoc (take n sure) mid more) ∙ ap (λ (v : List ℕ). v ++ more) (take-append-drop n sure) ∙ sym e ∙ m.parts in
    let same = same_front (take n sure) front (mid ++ more) m.rest (omega (arith, length-take n sure, small)) apart in
    let parts : sure ≡ front ++ mid = sym (take-append-drop n sure) ∙ ap (λ (v : List ℕ). v ++ mid) same.0 in
    let on = blocks_split front mid sure m.fragments gs false false (room_behind front) refl refl parts m.whole k in
    absurd (broken_none (room_behind front) on.0 mid more m.rest (omega arith) (omega (arith, length-drop n sure, small)) (sym same.1) on.1 m.broken)

pub longest_cut : (bytes front sure more : List ℕ) (gs : List Fragment) → IsCutAt bytes front → bytes ≡ sure ++ more → AreBlocks sure gs false → (rest : List ℕ) × (front ≡ sure ++ rest)
longest_cut bytes front sure more gs m e k = choose_longest bytes front sure more gs m e k (cases_lt (length front) (length sure))

unfoldable pub cut_of : (bytes front : List ℕ) → IsMended bytes front → IsCutAt bytes front
cut_of bytes front m = record { fragments = m.fragments; rest = m.rest; parts = m.parts; whole = m.whole; broken = m.broken.0 }

pub longest : (bytes front sure more : List ℕ) (gs : List Fragment) → IsMended bytes front ⊎ IsCutAt bytes front → bytes ≡ sure ++ more → AreBlocks sure gs false → (rest : List ℕ) × (front ≡ sure ++ rest)
longest bytes front sure more gs (inl m) e k = longest_cut bytes front sure more gs (cut_of bytes front m) e k
longest bytes front sure more gs (inr c) e k = longest_cut bytes front sure more gs c e k
