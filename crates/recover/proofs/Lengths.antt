-- The lengths of logs in use, and what is known of a directory by them.
use Rattle.std.proofs.Common.{◌≡◌, ℕ, ◌+◌, ◌<◌, Bool, true, false, List, [], ◌∷◌, ◌++◌, take, get_or, None, IsTrue, refl, sym, ap, ◌∙◌, subst, length}
use Rattle.std.specs.Prelude.{Contains}
use Rattle.std.specs.FinMap.{get}
use Rattle.std.specs.List.{filter, AllByRecursion}
use Rattle.coding.specs.declared.error.DbError.{DbError}
use Rattle.ikey.specs.Orders.{Order}
use Rattle.store.specs.Files.{Files, Facts}
use Rattle.edits.specs.Names.{name_of}
use Rattle.edits.specs.declared.layout.Layout.{Layout}
use Rattle.edits.specs.declared.names.FileName.TheVariants.{Log}
use Rattle.recover.specs.Directory.{HasManifest, IsEmpty}
use Rattle.recover.specs.Overviews.{HasLength, numbers_of, AreLiveLengths, IsSeen}
use Rattle.recover.specs.Reading.{HasNoManifest, IsBeyondReading, IsListing, RefusesDirectory, RiseFrom}
use Rattle.recover.specs.declared.listing.Listing.{Listing}
use Rattle.recover.specs.declared.manifest.Manifest.{Manifest}
use Rattle.recover.specs.declared.overview.LogLength.{LogLength}
use Rattle.recover.specs.declared.overview.Overview.{Overview}
use Rattle.recover.specs.internal.Parts.{HaveLengths, IsUnchanged, LacksLog, RefusesBytes, SaysManifest, is_live}
use Rattle.recover.proofs.CheckedDirectories.{current_there}
use Rattle.recover.proofs.NoCurrent.{never_named, not_there}
use Rattle.recover.proofs.Refused.{refuses_bytes, refuses_later, unchanged_both}
use Rattle.recover.proofs.Replayed.{filter-more}
use Rattle.recover.proofs.WholeReading.{from_filtered, is_live_of, live_by, rise_filtered, to_filtered}

-- ---- one log more

numbers_push : (logs : List LogLength) (log : LogLength) → numbers_of (logs ++ log ∷ []) ≡ numbers_of logs ++ log.number ∷ []
numbers_push [] log = refl
numbers_push (l ∷ logs) log = ap (λ (ns : List ℕ). l.number ∷ ns) (numbers_push logs log)

lengths_push : (files : Files) (logs : List LogLength) (log : LogLength) → AllByRecursion (HasLength files) logs → HasLength files log → AllByRecursion (HasLength files) (logs ++ log ∷ [])
lengths_push files [] log h g = (g, tt)
lengths_push files (l ∷ logs) log h g = (h.0, lengths_push files logs log h.1 g)

pub lengths_more : (a b c : Facts) (p : ℕ → Bool) (ns : List ℕ) (i n : ℕ) (old : List LogLength) (log : LogLength) → IsUnchanged a b → IsUnchanged b c → i < length ns → n ≡ get_or ns i n → p n ≡ true
    → (IsTrue b.faithful → HaveLengths a.files (filter p (take i ns)) old) → log.number ≡ n → (IsTrue c.faithful → HasLength b.files log)
    → IsUnchanged a c × (IsTrue c.faithful → HaveLengths a.files (filter p (take (i + 1) ns)) (old ++ log ∷ []))
lengths_more a b c p ns i n old log h g lt is live were number found = (
  unchanged_both a b c h g,
  λ t.
      let t' = g.faithful t in
      let front = were t' in
      let P : Files → Type 0 = λ fs. HasLength fs log in (
        numbers_push old log ∙ (λ j. front.0 j ++ number j ∷ []) ∙ sym (filter-more p ns i n true lt is live),
        lengths_push a.files old log front.1 (subst P (h.same t') (found t)),
      ),
)

pub lengths_refused : (a b c : Facts) (p : ℕ → Bool) (ns : List ℕ) (i n : ℕ) (e : DbError) → IsUnchanged a b → IsUnchanged b c → i < length ns → n ≡ get_or ns i n → p n ≡ true
    → RefusesDirectory e b c (get b.files (name_of (Log n)) ≡ None) ⊥ → RefusesDirectory e a c (LacksLog a.files (filter p ns)) ⊥
lengths_refused a b c p ns i n e h g lt is live refused =
    refuses_later e a b c (get b.files (name_of (Log n)) ≡ None) ⊥ (LacksLog a.files (filter p ns)) ⊥ h
    (λ t none. (n, to_filtered p ns n (i, lt, sym is) live, ap (λ (fs : Files). get fs (name_of (Log n))) (sym (h.same (g.faithful t))) ∙ none))
    (λ t z. z) refused

-- ---- the whole

live_lengths : (files : Files) (layout : Layout) (listing : Listing) (logs : List LogLength) → IsListing files listing
    → HaveLengths files (filter (is_live layout) listing.logs.items) logs → AreLiveLengths files layout logs
live_lengths files layout listing logs l h =
    let live = is_live layout in
    let R : List ℕ → Type 0 = λ ns. RiseFrom 0 ns in
    record {
      lengths = h.1;
      rising = subst R (sym h.0) (rise_filtered live 0 listing.logs.items l.rising);
      live = λ n.
          let C : List ℕ → Type 0 = λ ns. Contains ns n in (
            λ i.
                let r = from_filtered live listing.logs.items n (subst C h.0 i) in
                let numbered = l.numbered n r.0 in
                (numbered, live_by layout n r.1, (l.logs n numbered).0 r.0),
            λ is. subst C (sym h.0) (to_filtered live listing.logs.items n ((l.logs n is.0).1 is.2) (is_live_of layout n is.0.0 is.1)),
          );
    }

pub is_seen : (order : Order) (files : Files) (manifest : Manifest) (listing : Listing) (overview : Overview) → overview.layout ≡ manifest.layout → SaysManifest order files manifest → IsListing files listing
    → HaveLengths files (filter (is_live overview.layout) listing.logs.items) overview.logs.items → IsSeen order files overview
is_seen order files manifest listing overview same says l h =
    let M : Layout → Type 0 = λ layout. HasManifest order files says.0 says.1 layout in
    record { number = says.0; edits = says.1; manifest = subst M (sym same) says.2; logs = live_lengths files overview.layout listing overview.logs.items l h }

-- ---- refusals

-- neither a database nor a folder without one
abbrev pub IsNone : Order → Files → Type 0
IsNone order files = (IsEmpty files → ⊥) × HasNoManifest order files

pub not_empty : (order : Order) (e : DbError) (a b : Facts) (listing : Listing) → (IsTrue b.faithful → IsListing a.files listing) → listing.has_current ≡ false
    → RefusesBytes e ((files : Files) → IsListing files listing → listing.has_current ≡ false → IsEmpty files → ⊥) ⊥ → RefusesDirectory e a b (IsNone order a.files) (IsBeyondReading order a.files)
not_empty order e a b listing l none r =
    refuses_bytes e a b ((files : Files) → IsListing files listing → listing.has_current ≡ false → IsEmpty files → ⊥) ⊥ (IsNone order a.files) (IsBeyondReading order a.files)
    (λ t full. (full a.files (l t) none, never_named order a.files listing (l t) none)) (λ t z. absurd z) r

pub no_manifest : (order : Order) (e : DbError) (a b c : Facts) (listing : Listing) → IsUnchanged a b → IsUnchanged b c → (IsTrue b.faithful → IsListing a.files listing) → listing.has_current ≡ true
    → RefusesDirectory e b c (HasNoManifest order b.files) (IsBeyondReading order b.files) → RefusesDirectory e a c (IsNone order a.files) (IsBeyondReading order a.files)
no_manifest order e a b c listing h k l there r =
    refuses_later e a b c (HasNoManifest order b.files) (IsBeyondReading order b.files) (IsNone order a.files) (IsBeyondReading order a.files) h
    (λ t none. (current_there a.files listing (l (k.faithful t)) there, subst (λ (fs : Files). HasNoManifest order fs) (h.same (k.faithful t)) none))
    (λ t beyond. subst (λ (fs : Files). IsBeyondReading order fs) (h.same (k.faithful t)) beyond) r

-- a log that is listed is there
pub no_log : (order : Order) (e : DbError) (a b c : Facts) (listing : Listing) (layout : Layout) (logs : List ℕ) → IsUnchanged a b → IsUnchanged b c → logs ≡ listing.logs.items
    → (IsTrue b.faithful → IsListing a.files listing) → RefusesDirectory e b c (LacksLog b.files (filter (is_live layout) logs)) ⊥ → RefusesDirectory e a c (IsNone order a.files) (IsBeyondReading order a.files)
no_log order e a b c listing layout logs h k same l r =
    refuses_later e a b c (LacksLog b.files (filter (is_live layout) logs)) ⊥ (IsNone order a.files) (IsBeyondReading order a.files) h
    (λ t lacks.
    let t' = k.faithful t in
    let n = lacks.0 in
    let i = subst (λ (ns : List ℕ). Contains ns n) same (from_filtered (is_live layout) logs n lacks.1).0 in
    let there = ((l t').logs n ((l t').numbered n i)).0 i in
    absurd (not_there a.files (name_of (Log n)) there (ap (λ (fs : Files). get fs (name_of (Log n))) (sym (h.same t')) ∙ lacks.2)))
    (λ t z. absurd z) r
