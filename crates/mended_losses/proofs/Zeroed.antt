-- A power loss that left zeros at the ends of files alone.
use Rattle.std.proofs.Common.{◌≡◌, ◌⊎◌, inl, inr, ℕ, zero, suc, List, [], ◌∷◌, ◌++◌, length, take, replicate, slice_index, Some, false, refl, sym, ap, subst, ◌∙◌, arith}
use Rattle.std.specs.FinMap.{get}
use Rattle.std.proofs.lemmas.List.{length-append, length-replicate, length-take, take_at}
use Rattle.logfile.specs.Log.{IsLog, shorter}
use Rattle.logfile.specs.Mending.{IsHoled, IsMendedTo, IsZeroed, ReadsAsCut}
use Rattle.logfile.specs.declared.record.Tail.{Tail}
use Rattle.logfile.specs.declared.record.Tail.TheVariants.{Clean}
use Rattle.logfile.proofs.Fading.{zeroed_log}
use Rattle.logfile.proofs.Parts.{between}
use Rattle.edits.specs.Names.{name_of}
use Rattle.edits.specs.declared.names.FileName.{FileName}
use Rattle.store.specs.Files.{Call, Disk, Files}
use Rattle.mending.specs.Cutting.{Becomes, IsReadable}
use Rattle.mending.specs.Plans.{HasNoFront}
use Rattle.mending.specs.declared.ends.Ends.TheVariants.{Zeros}
use Rattle.mended_losses.specs.Laws.{ZeroedLossLaw}
use Rattle.mended_losses.specs.Losses.{IsHoledLost, IsZeroedLost}
use Rattle.mended_losses.specs.Reading.{HasFile, HoldsLogs, LeavesWritten}

-- ---- they are zeros somewhere

zero_at : (n i : ℕ) → slice_index (replicate n 0) i ≡ 0
zero_at zero zero = refl
zero_at zero (suc i) = refl
zero_at (suc n) zero = refl
zero_at (suc n) (suc i) = zero_at n i

each_byte : (kept count : ℕ) (held : List ℕ) (i : ℕ) → (slice_index (take kept held ++ replicate count 0) i ≡ slice_index held i) ⊎ (slice_index (take kept held ++ replicate count 0) i ≡ 0)
each_byte zero count held i = inr (zero_at count i)
each_byte (suc kept) count [] i = inr (zero_at count i)
each_byte (suc kept) count (x ∷ held) zero = inl refl
each_byte (suc kept) count (x ∷ held) (suc i) = each_byte kept count held i

holed_so : (held bytes : List ℕ) → IsZeroed held bytes → IsHoled held bytes
holed_so held bytes z = record {
  short = omega (arith, ap length z.parts, length-append (take z.kept held) (replicate z.zeros 0), length-take z.kept held, length-replicate {A = ℕ} z.zeros 0, z.fits);
  each = λ i. subst (λ (v : List ℕ). (slice_index v i ≡ slice_index held i) ⊎ (slice_index v i ≡ 0)) (sym z.parts) (each_byte z.kept z.zeros held i);
}

holed_loss : (at : Files) (since : List Call) (now : Disk) (lost : Files) → IsZeroedLost at since now lost → IsHoledLost at since now lost
holed_loss at since now lost h = record {
  names = h.names;
  holed = λ q bytes there. let z = h.zeroed q bytes there in (z.0, z.1, holed_so z.0 bytes z.2);
  kept = h.kept;
}

-- ---- there is a front

no_bytes : IsLog [] [] Clean
no_bytes = record {
  fragments = [];
  cut = false;
  begun = false;
  blocks = shorter (omega arith) (inl refl);
  joined = refl;
  tail_is = refl;
}

-- a prefix of a log is a log
pub prefix_readable : (held front more : List ℕ) (records : List (List ℕ)) (tail : Tail) → held ≡ front ++ more → IsLog held records tail → IsReadable front
prefix_readable held front more records tail is log =
    let p = between [] held [] records Clean tail (length front) no_bytes log in
    let same : take (length front) held ≡ front = ap (λ (v : List ℕ). take (length front) v) is ∙ take_at front more (length front) refl in
    (p.0, p.2, subst (λ (v : List ℕ). IsLog v p.0 p.2) same p.4)

front_there : (held bytes : List ℕ) (records : List (List ℕ)) (tail : Tail) → IsLog held records tail → ReadsAsCut held bytes ⊎ IsMendedTo held bytes → (front : List ℕ) × Becomes Zeros bytes front
front_there held bytes records tail log (inl r) = (bytes, record { how = inl refl; readable = (r.records, r.tail, r.log) })
front_there held bytes records tail log (inr m) = (m.front, record { how = inr m.mended; readable = prefix_readable held m.front m.more records tail m.begins log })

never_refused : (at : Files) (since : List Call) (now : Disk) (lost : Files) → IsZeroedLost at since now lost → (logs : List FileName) (others : List (List ℕ)) → HoldsLogs since now lost logs others → LeavesWritten since now lost logs
    → (file : FileName) → HasFile logs file → HasNoFront Zeros lost file → ⊥
never_refused at since now lost h logs others w written file among none =
    let z = h.zeroed (name_of file) none.0 none.1 in
    let was = w.were file none.0 z.0 among none.1 z.1 in
    let true_to = written file none.0 z.0 among none.1 z.1 in
    let there = front_there z.0 none.0 was.records was.tail was.log (zeroed_log z.0 none.0 was.records was.tail was.log z.2 true_to.there true_to.all_bytes) in
    none.2 there.0 there.1

pub zeros_enough : ZeroedLossLaw
zeros_enough at since now lost h = (holed_loss at since now lost h, never_refused at since now lost h)
