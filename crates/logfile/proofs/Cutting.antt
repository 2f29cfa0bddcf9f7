-- Where the longest front of whole fragments ends, and what is broken behind it.
use Rattle.std.proofs.Common.{◌≡◌, ℕ, ◌+◌, ◌-◌, ◌<◌, ◌≤◌, ◌⊎◌, inl, inr, Bool, true, false, List, [], ◌∷◌, ◌++◌, length, take, drop, get_or, refl, sym, ap, ◌∙◌, subst, append_assoc, arith}
use Rattle.std.proofs.lemmas.Bool.{cases_lt}
use Rattle.std.proofs.lemmas.List.{length-append, length-replicate, length-take, length-drop, take-append-drop, take_at, take_all, append-nil, get_or-take}
use Rattle.coding.proofs.Fronts.{same_front}
use Rattle.coding.specs.declared.error.Damage.{Damage}
use Rattle.coding.specs.declared.error.Damage.TheVariants.{Checksum, Kind}
use Rattle.logfile.specs.Log.{Fragment, data_of, fragment_bytes, length_said, IsEnding, IsLogBlock, AreBlocks, Join, IsLog}
use Rattle.logfile.specs.declared.record.Tail.{Tail}
use Rattle.logfile.specs.Appends.{room_behind}
use Rattle.logfile.specs.Faults.{HasFaultAt, IsWhole}
use Rattle.logfile.specs.Mending.{IsPiece, HasNoPiece, IsBroken, IsLongestFront, IsCutAt, IsMended, EndsInZeros}
use Rattle.logfile.proofs.LogLaws.{length-fragment, fragment_ends, same_blocks, same_join}
use Rattle.logfile.proofs.Parts.{between}
use Rattle.logfile.proofs.Steps.{zeros_of}
use Rattle.logfile.proofs.Appends.{Follows, within, beyond, blocks_append}
use Rattle.logfile.proofs.Written.{take_behind}
use Rattle.logfile.proofs.OneFault.{one_at, whole_here}
use Rattle.logfile.proofs.Longest.{blocks_split, no_fragment, longest_cut, cut_of}

-- ---- where no piece stands

pub no_piece_short : (room : ℕ) (rest : List ℕ) → room < 7 → length rest < room → HasNoPiece room rest
no_piece_short room rest small short piece behind e (inl (f, p, fits)) = omega (arith, fits, small)
no_piece_short room rest small short piece behind e (inr (s, p)) =
    omega (arith, ap length e, length-append piece behind, ap length p, length-replicate {A = ℕ} room 0, short)

pub no_piece_other : (room : ℕ) (rest front : List ℕ) → room < 7 → front ≡ take room rest → (((k : ℕ) → k < length front → get_or front k 0 ≡ 0) → ⊥) → HasNoPiece room rest
no_piece_other room rest front small is none piece behind e (inl (f, p, fits)) = omega (arith, fits, small)
no_piece_other room rest front small is none piece behind e (inr (s, p)) =
    let size : length piece ≡ room = ap length p ∙ length-replicate {A = ℕ} room 0 in
    none (zeros_of front room (is ∙ ap (take room) e ∙ take_at piece behind room size ∙ p))

piece_fragment : (rest piece behind : List ℕ) (f : Fragment) → rest ≡ piece ++ behind → piece ≡ fragment_bytes f → rest ≡ fragment_bytes f ++ behind
piece_fragment rest piece behind f e p = e ∙ ap (λ (v : List ℕ). v ++ behind) p

pub no_piece_fault : (what : Damage) (room : ℕ) (rest : List ℕ) → room ≤ 32768 → 7 ≤ room → HasFaultAt what room (take room rest) → HasNoPiece room rest
no_piece_fault what room rest little wide h piece behind e (inl (f, p, fits)) =
    no_fragment what room f [] behind rest little fits (e ∙ ap (λ (v : List ℕ). v ++ behind) (p ∙ sym (append-nil (fragment_bytes f)))) h
no_piece_fault what room rest little wide h piece behind e (inr (small, p)) = omega (arith, small, wide)

pub no_piece_ending : (room : ℕ) (rest : List ℕ) → room ≤ 32768 → 7 ≤ room → IsEnding true room (take room rest) → HasNoPiece room rest
no_piece_ending room rest little wide h piece behind e (inl (f, p, fits)) =
    let n = room - (7 + length (data_of f)) in
    fragment_ends true room f (take n behind) (take room rest) little fits h
    (ap (take room) (piece_fragment rest piece behind f e p) ∙ take_behind (fragment_bytes f) behind room n (omega (arith, length-fragment f, fits)))
no_piece_ending room rest little wide h piece behind e (inr (small, p)) = omega (arith, small, wide)

-- ---- what isn't broken

pub broken_wide : (room : ℕ) (rest : List ℕ) → IsBroken room rest → 7 ≤ room
broken_wide room rest (inl h) = omega (arith, h.0.0)
broken_wide room rest (inr h) = omega (arith, h.0.0)

whole_long : (room : ℕ) (rest : List ℕ) → IsWhole room (take room rest) → 7 ≤ length rest
whole_long room rest w = omega (arith, w.2, length-take room rest)

pub broken_long : (room : ℕ) (rest : List ℕ) → IsBroken room rest → 7 ≤ length rest
broken_long room rest (inl h) = whole_long room rest h.0
broken_long room rest (inr h) = whole_long room rest h.0

whole_there : (room : ℕ) (rest : List ℕ) → IsWhole room (take room rest) → 7 + length_said rest ≤ length rest
whole_there room rest w =
    let y = take room rest in
    let says : length_said y ≡ length_said rest = omega (arith, get_or-take room rest 4 0 (omega (arith, w.0)), get_or-take room rest 5 0 (omega (arith, w.0))) in
    omega (arith, w.1, says, length-take room rest)

pub broken_there : (room : ℕ) (rest : List ℕ) → IsBroken room rest → 7 + length_said rest ≤ length rest
broken_there room rest (inl h) = whole_there room rest h.0
broken_there room rest (inr h) = whole_there room rest h.0

abbrev IsBad : ℕ → List ℕ → Type 0
IsBad room here = HasFaultAt Checksum room here ⊎ HasFaultAt Kind room here

whole_ending : (room : ℕ) (here : List ℕ) → IsEnding true room here → IsWhole room here → ⊥
whole_ending room here (inl h) w = omega (arith, h.0, w.0)
whole_ending room here (inr (inl h)) w = omega (arith, h.2, w.2)
whole_ending room here (inr (inr h)) w = omega (arith, h.1, w.1)

pub ending_fine : (room : ℕ) (here : List ℕ) → IsEnding true room here → IsBad room here → ⊥
ending_fine room here h (inl k) = whole_ending room here h k.0
ending_fine room here h (inr k) = whole_ending room here h k.0

pub fragment_fine : (room : ℕ) (f : Fragment) (x here : List ℕ) → room ≤ 32768 → 7 + length (data_of f) ≤ room → here ≡ fragment_bytes f ++ x → IsBad room here → ⊥
fragment_fine room f x here little fits e (inl k) = whole_here Checksum room f x little fits (subst (λ (v : List ℕ). HasFaultAt Checksum room v) e k)
fragment_fine room f x here little fits e (inr k) = whole_here Kind room f x little fits (subst (λ (v : List ℕ). HasFaultAt Kind room v) e k)

pub other_fine : (what : Damage) (room : ℕ) (here : List ℕ) → (what ≡ Checksum → ⊥) → (what ≡ Kind → ⊥) → HasFaultAt what room here → IsBad room here → ⊥
other_fine what room here a b h (inl k) = a (one_at what Checksum room here h k)
other_fine what room here a b h (inr k) = b (one_at what Kind room here h k)

pub bad_fragment : (room : ℕ) (f : Fragment) (x rest : List ℕ) → room ≤ 32768 → 7 + length (data_of f) ≤ room → rest ≡ fragment_bytes f ++ x → IsBroken room rest → ⊥
bad_fragment room f x rest little fits e (inl h) = no_fragment Checksum room f [] x rest little fits (e ∙ ap (λ (v : List ℕ). v ++ x) (sym (append-nil (fragment_bytes f)))) h
bad_fragment room f x rest little fits e (inr h) = no_fragment Kind room f [] x rest little fits (e ∙ ap (λ (v : List ℕ). v ++ x) (sym (append-nil (fragment_bytes f)))) h

-- ---- the longest front

record HasPiece (room : ℕ) (mid : List ℕ) : Type 0 where
  piece : List ℕ
  behind : List ℕ
  parts : mid ≡ piece ++ behind
  is : IsPiece room piece

block_piece : (room : ℕ) (fs : List Fragment) (block behind mid : List ℕ) → 0 < length block → mid ≡ block ++ behind → IsLogBlock room fs false block → HasPiece room mid
block_piece room [] block behind mid some e (inl none) = absurd (omega (arith, some, ap length none))
block_piece room [] block behind mid some e (inr h) = record { piece = block; behind = behind; parts = e; is = inr h }
block_piece room (f ∷ fs) block behind mid some e h = record {
  piece = fragment_bytes f;
  behind = h.0 ++ behind;
  parts = e ∙ ap (λ (v : List ℕ). v ++ behind) h.1 ∙ append_assoc (fragment_bytes f) h.0 behind;
  is = inl (f, refl, h.2);
}

first_piece : (room : ℕ) (fs : List Fragment) (cut : Bool) (mid : List ℕ) → cut ≡ false → 0 < room → 0 < length mid → Follows room mid fs cut → HasPiece room mid
first_piece room fs cut mid q wide some (within small h) =
    block_piece room fs mid [] mid some (sym (append-nil mid)) (subst (λ (b : Bool). IsLogBlock room fs b mid) q h)
first_piece room fs cut mid q wide some (beyond block rest here others p j size h next) =
    block_piece room here block rest mid (omega (arith, size, wide)) p h

no_longer : (bytes other more : List ℕ) (at : ℕ) (fs gs : List Fragment) → at ≤ length bytes → AreBlocks (take at bytes) fs false → HasNoPiece (room_behind (take at bytes)) (drop at bytes)
    → bytes ≡ other ++ more → AreBlocks other gs false → (at < length other) ⊎ (length other ≤ at) → length other ≤ at
no_longer bytes other more at fs gs fits blocks none e k (inr le) = le
no_longer bytes other more at fs gs fits blocks none e k (inl lt) =
    let mid = drop at other in
    let apart : take at other ++ (mid ++ more) ≡ take at bytes ++ drop at bytes =
    sym (append_assoc (take at other) mid more) ∙ ap (λ (v : List ℕ). v ++ more) (take-append-drop at other) ∙ sym e ∙ sym (take-append-drop at bytes) in
    let same = same_front (take at other) (take at bytes) (mid ++ more) (drop at bytes) (omega (arith, length-take at other, length-take at bytes, lt, fits)) apart in
    let parts : other ≡ take at bytes ++ mid = sym (take-append-drop at other) ∙ ap (λ (v : List ℕ). v ++ mid) same.0 in
    let room = room_behind (take at bytes) in
    let on = blocks_split (take at bytes) mid other fs gs false false room refl refl parts blocks k in
    let first = first_piece room on.0 false mid refl (omega arith) (omega (arith, length-drop at other, lt)) on.1 in
    absurd (none first.piece (first.behind ++ more) (sym same.1 ∙ ap (λ (v : List ℕ). v ++ more) first.parts ∙ append_assoc first.piece first.behind more) first.is)

pub longest_here : (bytes : List ℕ) (at : ℕ) (fs : List Fragment) → at ≤ length bytes → AreBlocks (take at bytes) fs false → HasNoPiece (room_behind (take at bytes)) (drop at bytes) → IsLongestFront bytes at
longest_here bytes at fs fits blocks none = record {
  fragments = fs;
  fits = fits;
  whole = blocks;
  longest = λ other more others e k. no_longer bytes other more at fs others fits blocks none e k (cases_lt at (length other));
}

pub longest_all : (bytes : List ℕ) (at : ℕ) (fs : List Fragment) → at ≤ length bytes → length bytes ≤ at → AreBlocks (take at bytes) fs false → IsLongestFront bytes at
longest_all bytes at fs fits all blocks = record {
  fragments = fs;
  fits = fits;
  whole = blocks;
  longest = λ other more others e k. omega (arith, ap length e, length-append other more, all);
}

-- ---- there is one place to cut

pub cut_here : (bytes : List ℕ) (at room : ℕ) → room ≡ room_behind (take at bytes) → IsLongestFront bytes at → IsBroken room (drop at bytes) → IsCutAt bytes (take at bytes)
cut_here bytes at room e w bad = record {
  fragments = w.fragments;
  rest = drop at bytes;
  parts = sym (take-append-drop at bytes);
  whole = w.whole;
  broken = subst (λ (n : ℕ). IsBroken n (drop at bytes)) e bad;
}

same_length : (a b x y bytes : List ℕ) → bytes ≡ a ++ x → bytes ≡ b ++ y → length a ≡ length b → (a ≡ b) × (x ≡ y)
same_length a b x y bytes e f size = same_front a b x y size (sym e ∙ f)

-- where a front ends that is cut behind, there the longest one ends
pub cut_is_longest : (bytes front : List ℕ) (at : ℕ) → IsLongestFront bytes at → (c : IsCutAt bytes front) → (front ≡ take at bytes) × (c.rest ≡ drop at bytes)
cut_is_longest bytes front at w c =
    let over = longest_cut bytes front (take at bytes) (drop at bytes) w.fragments c (sym (take-append-drop at bytes)) w.whole in
    let short : length front ≤ at = w.longest front c.rest c.fragments c.parts c.whole in
    let size : length front ≡ length (take at bytes) = omega (arith, short, ap length over.1, length-append (take at bytes) over.0, length-take at bytes, w.fits) in
    same_length front (take at bytes) c.rest (drop at bytes) bytes c.parts (sym (take-append-drop at bytes)) size

pub no_cut : (bytes : List ℕ) (at room : ℕ) → room ≡ room_behind (take at bytes) → IsLongestFront bytes at → (IsBroken room (drop at bytes) → ⊥) → (front : List ℕ) → IsCutAt bytes front → ⊥
no_cut bytes at room e w none front c =
    let same = cut_is_longest bytes front at w c in
    let rooms : room_behind front ≡ room = ap room_behind same.0 ∙ sym e in
    none (subst (λ (v : List ℕ). IsBroken room v) same.1 (subst (λ (n : ℕ). IsBroken n c.rest) rooms c.broken))

one_cut : (bytes front other : List ℕ) (c : IsCutAt bytes front) (d : IsCutAt bytes other) → c.rest ≡ d.rest
one_cut bytes front other c d =
    let one = longest_cut bytes front other d.rest d.fragments c d.parts d.whole in
    let two = longest_cut bytes other front c.rest c.fragments d c.parts c.whole in
    let size : length front ≡ length other = omega (arith, ap length one.1, ap length two.1, length-append other one.0, length-append front two.0) in
    (same_length front other c.rest d.rest bytes c.parts d.parts size).1

rest_is : (bytes : List ℕ) (n : ℕ) → n ≤ length bytes → (c : IsCutAt bytes (take n bytes)) → c.rest ≡ drop n bytes
rest_is bytes n fits c = (same_length (take n bytes) (take n bytes) c.rest (drop n bytes) bytes c.parts (sym (take-append-drop n bytes)) refl).1

pub rest_there : (bytes : List ℕ) (n : ℕ) → n ≤ length bytes → IsCutAt bytes (take n bytes) → 7 + length_said (drop n bytes) ≤ length (drop n bytes)
rest_there bytes n fits c =
    subst (λ (v : List ℕ). 7 + length_said v ≤ length v) (rest_is bytes n fits c) (broken_there (room_behind (take n bytes)) c.rest c.broken)

pub mended_here : (bytes : List ℕ) (n : ℕ) → n ≤ length bytes → IsCutAt bytes (take n bytes) → EndsInZeros (drop n bytes) → IsMended bytes (take n bytes)
mended_here bytes n fits c zeros = record {
  fragments = c.fragments;
  rest = c.rest;
  parts = c.parts;
  whole = c.whole;
  broken = (c.broken, subst EndsInZeros (sym (rest_is bytes n fits c)) zeros);
}

pub not_mended : (bytes : List ℕ) (n : ℕ) → n ≤ length bytes → IsCutAt bytes (take n bytes) → (EndsInZeros (drop n bytes) → ⊥) → (front : List ℕ) → IsMended bytes front → ⊥
unfolding cut_of
not_mended bytes n fits c none front m =
    none (subst EndsInZeros (one_cut bytes front (take n bytes) (cut_of bytes front m) c ∙ rest_is bytes n fits c) m.broken.1)

pub none_mended : (bytes : List ℕ) → ((front : List ℕ) → IsCutAt bytes front → ⊥) → (front : List ℕ) → IsMended bytes front → ⊥
none_mended bytes none front m = none front (cut_of bytes front m)

-- ---- what is cut is no log

block_fine : (room : ℕ) (fs : List Fragment) (cut : Bool) (block behind rest : List ℕ) → room ≤ 32768 → 7 ≤ length block → rest ≡ block ++ behind → (cut ≡ true → behind ≡ []) → IsLogBlock room fs cut block
    → length block ≤ room → IsBroken room rest → ⊥
block_fine room [] false block behind rest little some e q (inl h) fits bad = omega (arith, some, ap length h)
block_fine room [] false block behind rest little some e q (inr h) fits bad = omega (arith, h.0, broken_wide room rest bad)
block_fine room [] true block behind rest little some e q h fits bad =
    let same : rest ≡ block = e ∙ ap (λ (v : List ℕ). block ++ v) (q refl) ∙ append-nil block in
    let all : take room rest ≡ block = ap (take room) same ∙ take_all room block fits in
    ending_fine room block h (subst (λ (v : List ℕ). IsBad room v) all bad)
block_fine room (f ∷ fs) cut block behind rest little some e q h fits bad =
    bad_fragment room f (h.0 ++ behind) rest little h.2 (e ∙ ap (λ (v : List ℕ). v ++ behind) h.1 ∙ append_assoc (fragment_bytes f) h.0 behind) bad

follows_fine : (room : ℕ) (fs : List Fragment) (cut : Bool) (rest : List ℕ) → room ≤ 32768 → Follows room rest fs cut → IsBroken room rest → ⊥
follows_fine room fs cut rest little (within small h) bad =
    block_fine room fs cut rest [] rest little (broken_long room rest bad) (sym (append-nil rest)) (λ q. refl) h (omega (arith, small)) bad
follows_fine room fs cut rest little (beyond block behind here others p j size h next) bad =
    block_fine room here false block behind rest little (omega (arith, size, broken_wide room rest bad)) p (λ q. absurd cc) h (omega (arith, size)) bad

pub cut_none : (bytes front : List ℕ) (records : List (List ℕ)) (tail : Tail) → IsCutAt bytes front → IsLog bytes records tail → ⊥
cut_none bytes front records tail c log =
    let room = room_behind front in
    let on = blocks_split front c.rest bytes c.fragments log.fragments false log.cut room refl refl c.parts c.whole log.blocks in
    follows_fine room on.0 log.cut c.rest (omega arith) on.1 c.broken

-- ---- no prefix that is a log has a record more

block_none : (room : ℕ) (fs : List Fragment) (cut : Bool) (mid more rest : List ℕ) → room ≤ 32768 → rest ≡ mid ++ more → IsLogBlock room fs cut mid → IsBroken room rest → fs ≡ []
block_none room [] cut mid more rest little e h bad = refl
block_none room (f ∷ fs) cut mid more rest little e h bad =
    absurd (bad_fragment room f (h.0 ++ more) rest little h.2 (e ∙ ap (λ (v : List ℕ). v ++ more) h.1 ∙ append_assoc (fragment_bytes f) h.0 more) bad)

nothing_whole : (room : ℕ) (fs : List Fragment) (cut : Bool) (mid more rest : List ℕ) → room ≤ 32768 → rest ≡ mid ++ more → Follows room mid fs cut → IsBroken room rest → fs ≡ []
nothing_whole room fs cut mid more rest little e (within small h) bad = block_none room fs cut mid more rest little e h bad
nothing_whole room fs cut mid more rest little e (beyond block behind here others p j size h next) bad =
    absurd (block_fine room here false block (behind ++ more) rest little (omega (arith, size, broken_wide room rest bad))
    (e ∙ ap (λ (v : List ℕ). v ++ more) p ∙ append_assoc block behind more) (λ q. absurd cc) h (omega (arith, size)) bad)

longer_records : (bytes front sure more : List ℕ) (records kept : List (List ℕ)) (tail end : Tail) → IsCutAt bytes front → IsLog front kept end → bytes ≡ sure ++ more → IsLog sure records tail
    → length front < length sure → kept ≡ records
longer_records bytes front sure more records kept tail end c f e s small =
    let n = length front in
    let room = room_behind front in
    let mid = drop n sure in
    let apart : take n sure ++ (mid ++ more) ≡ front ++ c.rest =
    sym (append_assoc (take n sure) mid more) ∙ ap (λ (v : List ℕ). v ++ more) (take-append-drop n sure) ∙ sym e ∙ c.parts in
    let same = same_front (take n sure) front (mid ++ more) c.rest (omega (arith, length-take n sure, small)) apart in
    let parts : sure ≡ front ++ mid = sym (take-append-drop n sure) ∙ ap (λ (v : List ℕ). v ++ mid) same.0 in
    let on = blocks_split front mid sure c.fragments s.fragments false s.cut room refl refl parts c.whole s.blocks in
    let none : on.0 ≡ [] = nothing_whole room on.0 s.cut mid more c.rest (omega arith) (sym same.1) on.1 c.broken in
    let again = blocks_append front mid c.fragments on.0 false s.cut room refl refl c.whole on.1 in
    let theirs : s.fragments ≡ c.fragments = (same_blocks sure (front ++ mid) s.fragments (c.fragments ++ on.0) s.cut s.cut parts s.blocks again).0 ∙ ap (λ (v : List Fragment). c.fragments ++ v) none ∙ append-nil c.fragments in
    let ours : f.fragments ≡ c.fragments = (same_blocks front front f.fragments c.fragments f.cut false refl f.blocks c.whole).0 in
    (same_join false c.fragments kept records f.begun s.begun (subst (λ (v : List Fragment). Join false v kept f.begun) ours f.joined) (subst (λ (v : List Fragment). Join false v records s.begun) theirs s.joined)).0

choose_records : (bytes front sure more : List ℕ) (records kept : List (List ℕ)) (tail end : Tail) → IsCutAt bytes front → IsLog front kept end → bytes ≡ sure ++ more → IsLog sure records tail
    → (length front < length sure) ⊎ (length sure ≤ length front) → (others : List (List ℕ)) × (kept ≡ records ++ others)
choose_records bytes front sure more records kept tail end c f e s (inl small) =
    ([], longer_records bytes front sure more records kept tail end c f e s small ∙ sym (append-nil records))
choose_records bytes front sure more records kept tail end c f e s (inr big) =
    let n = length sure in
    let rest = drop n front in
    let apart : take n front ++ (rest ++ c.rest) ≡ sure ++ more =
    sym (append_assoc (take n front) rest c.rest) ∙ ap (λ (v : List ℕ). v ++ c.rest) (take-append-drop n front) ∙ sym c.parts ∙ e in
    let same = same_front (take n front) sure (rest ++ c.rest) more (omega (arith, length-take n front, big)) apart in
    let parts : front ≡ sure ++ rest = sym (take-append-drop n front) ∙ ap (λ (v : List ℕ). v ++ rest) same.0 in
    let p = between sure rest records kept tail end 0 s (subst (λ (v : List ℕ). IsLog v kept end) parts f) in
    (p.0 ++ p.1, p.3 ∙ append_assoc records p.0 p.1)

pub all_records : (bytes front sure more : List ℕ) (records kept : List (List ℕ)) (tail end : Tail) → IsCutAt bytes front → IsLog front kept end → bytes ≡ sure ++ more → IsLog sure records tail
    → (others : List (List ℕ)) × (kept ≡ records ++ others)
all_records bytes front sure more records kept tail end c f e s = choose_records bytes front sure more records kept tail end c f e s (cases_lt (length front) (length sure))
