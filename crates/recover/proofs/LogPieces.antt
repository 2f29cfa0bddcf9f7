-- A log that is read by pieces of 1,048,576 bytes.
use Rattle.std.proofs.Common.{◌≡◌, ◌<◌, ◌≤◌, ◌+◌, ◌-◌, ◌*◌, ◌⊎◌, inl, inr, ℕ, Bool, List, [], ◌++◌, length, take, drop, min, Option, Some, None, option_map, refl, sym, ap, ◌∙◌, subst, IsTrue, arith}
use Rattle.std.proofs.Math.Seq.{take-add}
use Rattle.std.proofs.lemmas.Bool.{cases_lt}
use Rattle.std.proofs.lemmas.List.{take_min, take_all, take-take, length-take, length-drop}
use Rattle.std.specs.FinMap.{get}
use Rattle.coding.specs.Errors.{RefusesOnly}
use Rattle.coding.specs.declared.error.DbError.{DbError}
use Rattle.coding.specs.declared.error.FileKind.{FileKind}
use Rattle.coding.specs.declared.error.ReadError.{ReadError}
use Rattle.store.specs.Files.{Facts, Files}
use Rattle.logfile.specs.Log.{Fragment, AreBlocks, IsLog}
use Rattle.logfile.specs.declared.record.Tail.{Tail}
use Rattle.recover.specs.internal.Parts.{IsUnchanged, RefusesBytes, HoldsNoLog, in_file}
use Rattle.recover.specs.Reading.{RefusesDirectory}
use Rattle.recover.proofs.Refused.{refuses_only, refuses_bytes, refuses_later}

abbrev pub NoBlocks : List ℕ → Type 0
NoBlocks bytes = (fragments : List Fragment) (cut : Bool) → AreBlocks bytes fragments cut → ⊥

-- ---- what is judged

pub judged : (kind : FileKind) (e : ReadError) (n : ℕ) (bytes : List ℕ) → n ≡ min (length bytes) 32768 → RefusesOnly e (NoBlocks (take n bytes)) → RefusesBytes (in_file kind e) (NoBlocks (take 32768 bytes)) ⊥
judged kind e n bytes is h =
    let least : n ≡ min 32768 (length bytes) = omega (arith, is) in
    let same : take n bytes ≡ take 32768 bytes = ap (λ (v : ℕ). take v bytes) least ∙ take_min 32768 bytes in
    refuses_only kind e (NoBlocks (take 32768 bytes)) (subst (λ (v : List ℕ). RefusesOnly e (NoBlocks v)) same h)

-- the law of a log's blocks
abbrev pub EachBlock : Type 0
EachBlock = (bytes : List ℕ) (records : List (List ℕ)) (tail : Tail) (k n : ℕ) → IsLog bytes records tail
    → (fragments : List Fragment) × (cut : Bool) × AreBlocks (take n (drop (32768 * k) bytes)) fragments cut

part_by : (m n : ℕ) (bytes : List ℕ) → (n < m) ⊎ (m ≤ n) → take m (take n bytes) ≡ take (min m n) bytes
part_by m n bytes (inl less) =
    let least : n ≡ min m n = omega (arith, less) in
    take_all m (take n bytes) (omega (arith, length-take n bytes, less)) ∙ ap (λ (v : ℕ). take v bytes) least
part_by m n bytes (inr most) =
    let least : m ≡ min m n = omega (arith, most) in
    take-take m n bytes most ∙ ap (λ (v : ℕ). take v bytes) least

part_of : (m n : ℕ) (bytes : List ℕ) → take m (take n bytes) ≡ take (min m n) bytes
part_of m n bytes = part_by m n bytes (cases_lt n m)

some_of : (count at : ℕ) (file piece : List ℕ) (held : Option (List ℕ)) → held ≡ Some file → Some piece ≡ option_map (λ (bytes : List ℕ). take count (drop at bytes)) held → piece ≡ take count (drop at file)
some_of count at file piece (Some other) e h = cc
some_of count at file piece None e h = absurd cc

no_log : EachBlock → (files : Files) (name piece : List ℕ) (at count block : ℕ) → at ≡ 32768 * block
    → Some piece ≡ option_map (λ (bytes : List ℕ). take count (drop at bytes)) (get files name) → NoBlocks (take 32768 piece) → HoldsNoLog files name
no_log each files name piece at count block is found none bytes records tail there log =
    let here = each bytes records tail block (min 32768 count) log in
    let same : take 32768 piece ≡ take (min 32768 count) (drop (32768 * block) bytes) =
    ap (take 32768) (some_of count at bytes piece (get files name) there found) ∙ part_of 32768 count (drop at bytes) ∙ ap (λ (v : ℕ). take (min 32768 count) (drop v bytes)) is in
    none here.0 here.1 (subst (λ (v : List ℕ). AreBlocks v here.0 here.1) (sym same) here.2)

pub piece_refused : EachBlock → (a b : Facts) (e : DbError) (name piece : List ℕ) (at count block : ℕ) → at ≡ 32768 * block
    → (IsTrue b.faithful → Some piece ≡ option_map (λ (bytes : List ℕ). take count (drop at bytes)) (get a.files name))
    → RefusesBytes e (NoBlocks (take 32768 piece)) ⊥ → RefusesDirectory e a b (HoldsNoLog a.files name) ⊥
piece_refused each a b e name piece at count block is found h =
    refuses_bytes e a b (NoBlocks (take 32768 piece)) ⊥ (HoldsNoLog a.files name) ⊥ (λ t none. no_log each a.files name piece at count block is (found t) none) (λ t u. u) h

pub pieces_refused : (a l d : Facts) (e : DbError) (name : List ℕ) → IsUnchanged a l → IsUnchanged l d → RefusesDirectory e l d (HoldsNoLog l.files name) ⊥ → RefusesDirectory e a d (HoldsNoLog a.files name) ⊥
pieces_refused a l d e name h k refused =
    refuses_later e a l d (HoldsNoLog l.files name) ⊥ (HoldsNoLog a.files name) ⊥ h (λ t none. subst (λ (files : Files). HoldsNoLog files name) (h.same (k.faithful t)) none) (λ t u. u) refused

-- ---- what is read

-- the bytes are the first so many of the file, which has this size
pub record AreFirst (files : Files) (name : List ℕ) (size at : ℕ) (bytes : List ℕ) : Type 0 where
  pub file : List ℕ
  pub there : get files name ≡ Some file
  pub sized : length file ≡ size
  pub front : bytes ≡ take at file

-- a piece of the file from there on, and no more than it has
abbrev pub IsPiece : Files → List ℕ → (size at most : ℕ) → List ℕ → Type 0
IsPiece files name size at most piece = Some piece ≡ option_map (λ (file : List ℕ). take (min (size - at) most) (drop at file)) (get files name)

size_of : (size : ℕ) (held : Option (List ℕ)) → Some size ≡ option_map (λ (bytes : List ℕ). length bytes) held → (file : List ℕ) × (held ≡ Some file) × (length file ≡ size)
size_of size (Some file) h = (file, refl, cc)
size_of size None h = absurd cc

pub first_none : (files : Files) (name : List ℕ) (size at : ℕ) (bytes : List ℕ) → at ≡ 0 → bytes ≡ [] → Some size ≡ option_map (λ (file : List ℕ). length file) (get files name) → AreFirst files name size at bytes
first_none files name size at bytes none empty h =
    let found = size_of size (get files name) h in
    record { file = found.0; there = found.1; sized = found.2; front = empty ∙ ap (λ (n : ℕ). take n found.0) (sym none) }

next_of : (size at most : ℕ) (file piece : List ℕ) → length file ≡ size → piece ≡ take (min (size - at) most) (drop at file) → piece ≡ take most (drop at file)
next_of size at most file piece long is =
    let rest : List ℕ = drop at file in
    let least : min (size - at) most ≡ min most (length rest) = omega (arith, length-drop at file, long) in
    is ∙ ap (λ (v : ℕ). take v rest) least ∙ take_min most rest

next_in : (files : Files) (name : List ℕ) (size at most : ℕ) (bytes piece : List ℕ) (h : AreFirst files name size at bytes) → IsPiece files name size at most piece → piece ≡ take most (drop at h.file)
next_in files name size at most bytes piece h found =
    next_of size at most h.file piece h.sized (some_of (min (size - at) most) at h.file piece (get files name) h.there found)

pub first_more : (files : Files) (name : List ℕ) (size at most next : ℕ) (bytes piece new : List ℕ) → AreFirst files name size at bytes → IsPiece files name size at most piece
    → new ≡ bytes ++ piece → at + most ≡ next → AreFirst files name size next new
first_more files name size at most next bytes piece new h found is to =
    let joined : new ≡ take at h.file ++ take most (drop at h.file) = is ∙ ap (λ (v : List ℕ). v ++ piece) h.front ∙ ap (λ (v : List ℕ). take at h.file ++ v) (next_in files name size at most bytes piece h found) in
    record {
      file = h.file;
      there = h.there;
      sized = h.sized;
      front = joined ∙ sym (take-add at most h.file) ∙ ap (λ (v : ℕ). take v h.file) to;
    }

pub first_all : (files : Files) (name : List ℕ) (size at : ℕ) (bytes : List ℕ) → AreFirst files name size at bytes → size ≤ at → Some bytes ≡ get files name
first_all files name size at bytes h covers = ap Some (h.front ∙ take_all at h.file (omega (arith, h.sized, covers))) ∙ sym h.there

-- a short piece is the last one
pub first_last : (files : Files) (name : List ℕ) (size at most : ℕ) (bytes piece new : List ℕ) → AreFirst files name size at bytes → IsPiece files name size at most piece
    → new ≡ bytes ++ piece → length piece < most → Some new ≡ get files name
first_last files name size at most bytes piece new h found is short =
    let long : size ≤ at + most = omega (arith, ap length (next_in files name size at most bytes piece h found), length-take most (drop at h.file), length-drop at h.file, h.sized, short) in
    first_all files name size (at + most) new (first_more files name size at most (at + most) bytes piece new h found is refl) long

-- ---- over a store

-- of the files as they were, while the store is faithful
abbrev pub ReadsFirst : Facts → Facts → List ℕ → (size at : ℕ) → List ℕ → Type 0
ReadsFirst a l name size at bytes = IsTrue l.faithful → AreFirst a.files name size at bytes

abbrev pub ReadsPiece : Facts → Facts → List ℕ → (size at most : ℕ) → List ℕ → Type 0
ReadsPiece l d name size at most piece = IsTrue d.faithful → IsPiece l.files name size at most piece

moved : (a l d : Facts) (name : List ℕ) (size at most : ℕ) (piece : List ℕ) → IsUnchanged a l → IsUnchanged l d → ReadsPiece l d name size at most piece → ReadsPiece a d name size at most piece
moved a l d name size at most piece h k found t = subst (λ (files : Files). IsPiece files name size at most piece) (h.same (k.faithful t)) (found t)

pub reads_more : (a l d : Facts) (name : List ℕ) (size at most next : ℕ) (bytes piece new : List ℕ) → IsUnchanged a l → IsUnchanged l d → ReadsFirst a l name size at bytes → ReadsPiece l d name size at most piece
    → new ≡ bytes ++ piece → at + most ≡ next → ReadsFirst a d name size next new
reads_more a l d name size at most next bytes piece new h k front found is to t =
    first_more a.files name size at most next bytes piece new (front (k.faithful t)) (moved a l d name size at most piece h k found t) is to

pub reads_last : (a l d : Facts) (name : List ℕ) (size at most : ℕ) (bytes piece new : List ℕ) → IsUnchanged a l → IsUnchanged l d → ReadsFirst a l name size at bytes → ReadsPiece l d name size at most piece
    → new ≡ bytes ++ piece → length piece < most → IsTrue d.faithful → Some new ≡ get a.files name
reads_last a l d name size at most bytes piece new h k front found is short t =
    first_last a.files name size at most bytes piece new (front (k.faithful t)) (moved a l d name size at most piece h k found t) is short

none_there : (count at : ℕ) (held : Option (List ℕ)) → None ≡ option_map (λ (bytes : List ℕ). take count (drop at bytes)) held → None ≡ held
none_there count at None h = refl
none_there count at (Some file) h = absurd cc

pub reads_none : (a l d : Facts) (name : List ℕ) (count at : ℕ) → IsUnchanged a l → IsUnchanged l d
    → (IsTrue d.faithful → None ≡ option_map (λ (file : List ℕ). take count (drop at file)) (get l.files name)) → IsTrue d.faithful → None ≡ get a.files name
reads_none a l d name count at h k found t = none_there count at (get l.files name) (found t) ∙ ap (λ (files : Files). get files name) (h.same (k.faithful t))
