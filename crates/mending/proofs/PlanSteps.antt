-- The steps of planning.
use Rattle.std.proofs.lemmas.List.{append-nil, length-take}
use Rattle.std.proofs.Common.{◌≡◌, ◌≤◌, ℕ, List, [], ◌∷◌, ◌++◌, Some, None, IsTrue, inl, inr, refl, sym, ap, subst, ◌∙◌, length, take, drop, arith}
use Rattle.std.specs.FinMap.{get}
use Rattle.store.specs.Files.{Files, Facts}
use Rattle.edits.specs.Names.{name_of}
use Rattle.edits.specs.declared.layout.Layout.{Layout}
use Rattle.edits.specs.declared.names.FileName.{FileName}
use Rattle.edits.specs.declared.names.FileName.TheVariants.{Manifest}
use Rattle.mending.specs.Cutting.{Becomes, EndsIn, IsReadable}
use Rattle.coding.specs.Errors.{RefusesOnly}
use Rattle.coding.specs.declared.error.DbError.{DbError}
use Rattle.coding.specs.declared.error.FileKind.{FileKind}
use Rattle.coding.specs.declared.error.ReadError.{ReadError}
use Rattle.coding.specs.declared.error.ReadError.TheVariants as read_error
use Rattle.mending.specs.Calls.{RefusesMend, in_file}
use Rattle.mending.specs.declared.finding.Found.{Found}
use Rattle.mending.specs.declared.finding.Found.TheVariants as found
use Rattle.mending.specs.Plans.{HasNoFront, HasNoLayout, HasBeyond, IsFound, IsNamed, IsPlain, IsSound, PlansFile, HasLayout, SaysLayout, SaysFound, SaysFoundNone, SaysFoundBeyond, cuts_of}
use Rattle.mending.specs.Mending.{AreLogged, IsLogged}
use Rattle.mending.specs.declared.ends.Ends.{Ends}
use Rattle.mending.specs.declared.finding.Cut.{Cut}

missing_bytes : (files : Files) (q bytes : List ℕ) → get files q ≡ None → get files q ≡ Some bytes → ⊥
missing_bytes files q bytes none there = let both : None ≡ Some bytes = sym none ∙ there in cc

pub plain_missing : (files : Files) (file : FileName) → get files (name_of file) ≡ None → IsPlain files file
plain_missing files file none bytes there = absurd (missing_bytes files (name_of file) bytes none there)

pub plain_whole : (files : Files) (file : FileName) (held : List ℕ) → get files (name_of file) ≡ Some held → IsReadable held → IsPlain files file
plain_whole files file held is readable bytes there =
    let both : Some held ≡ Some bytes = sym is ∙ there in
    let same : held ≡ bytes = cc in
    subst IsReadable same readable

pub plans_cut : (ends : Ends) (files : Files) (file : FileName) (old new : List Cut) (cut : Cut) → new ≡ old ++ cut ∷ [] → IsSound ends files file cut → PlansFile ends files file old new
plans_cut ends files file old new cut is sound = inr (cut, is, sound)

pub logged_push : (cuts : List Cut) (cut : Cut) → IsLogged cut.file → AreLogged cuts → AreLogged (cuts ++ cut ∷ [])
logged_push [] cut is all = (is, tt)
logged_push (c ∷ cuts) cut is all = (all.0, logged_push cuts cut is all.1)

pub logged_more : (old new : List Cut) (cut : Cut) (file : FileName) → new ≡ old ++ cut ∷ [] → cut.file ≡ file → IsLogged file → AreLogged old → AreLogged new
logged_more old new cut file is named logged all =
    subst AreLogged (sym is) (logged_push old cut (subst IsLogged (sym named) logged) all)

-- a MANIFEST that stays, or is cut, and what it says
pub layout_whole : (name : List ℕ) (ends : Ends) (files : Files) (number : ℕ) (layout : Layout) (bytes : List ℕ) → get files (name_of (Manifest number)) ≡ Some bytes → IsReadable bytes → SaysLayout name bytes layout → HasLayout name ends files number layout
layout_whole name ends files number layout bytes held readable says =
    record { bytes = bytes; front = bytes; held = held; becomes = record { how = inl refl; readable = readable }; says = says }

pub layout_cut : (name : List ℕ) (ends : Ends) (files : Files) (number : ℕ) (layout : Layout) (cut : Cut) → IsSound ends files (Manifest number) cut → SaysLayout name cut.front.items layout → HasLayout name ends files number layout
layout_cut name ends files number layout cut sound says =
    record { bytes = sound.1; front = cut.front.items; held = sound.2; becomes = record { how = inr sound.3; readable = sound.4 }; says = says }

-- ---- what was found

-- what is behind the front ends in so many zeros
pub zeros_behind : (n zeros : ℕ) (bytes front : List ℕ) → n ≤ length bytes → front ≡ take n bytes → EndsIn zeros (drop n bytes) → EndsIn zeros (drop (length front) bytes)
zeros_behind n zeros bytes front le is h =
    let same : n ≡ length front = omega (arith, ap (λ (b : List ℕ). length b) is, length-take n bytes, le) in
    subst (λ (k : ℕ). EndsIn zeros (drop k bytes)) same h

pub front_refused : (old new : Facts) (ends : Ends) (file : FileName) (kind : FileKind) (e : ReadError) (result : DbError) (bytes : List ℕ) → result ≡ in_file kind e → (IsTrue new.faithful → get old.files (name_of file) ≡ Some bytes)
    → RefusesOnly e ((front : List ℕ) → Becomes ends bytes front → ⊥) → RefusesMend result old new (HasNoFront ends old.files file) ⊥
front_refused old new ends file kind read_error.Memory result bytes is there h = subst (λ (r : DbError). RefusesMend r old new (HasNoFront ends old.files file) ⊥) (sym is) tt
front_refused old new ends file kind (read_error.Corrupt what) result bytes is there h =
    subst (λ (r : DbError). RefusesMend r old new (HasNoFront ends old.files file) ⊥) (sym is) (λ f. (bytes, there f, h))
front_refused old new ends file kind (read_error.Unsupported what) result bytes is there h = absurd h

pub plans_found : (ends : Ends) (files : Files) (file : FileName) (old new : List Cut) (it : Found) → new ≡ old ++ cuts_of it → IsFound ends files file it → PlansFile ends files file old new
plans_found ends files file old new found.Missing is h = inl (is ∙ append-nil old, plain_missing files file h)
plans_found ends files file old new (found.Whole bytes) is h = inl (is ∙ append-nil old, plain_whole files file bytes.items h.0 h.1)
plans_found ends files file old new (found.Broken cut) is h = inr (cut, is, h)

pub logged_found : (old new : List Cut) (file : FileName) (it : Found) → new ≡ old ++ cuts_of it → IsNamed file it → IsLogged file → AreLogged old → AreLogged new
logged_found old new file found.Missing is named logged all = subst AreLogged (sym (is ∙ append-nil old)) all
logged_found old new file (found.Whole bytes) is named logged all = subst AreLogged (sym (is ∙ append-nil old)) all
logged_found old new file (found.Broken cut) is named logged all = logged_more old new cut file is named logged all

pub layout_found : (name : List ℕ) (ends : Ends) (files : Files) (number : ℕ) (layout : Layout) (it : Found) → IsFound ends files (Manifest number) it → SaysFound name it layout → HasLayout name ends files number layout
layout_found name ends files number layout found.Missing h says = absurd says
layout_found name ends files number layout (found.Whole bytes) h says = layout_whole name ends files number layout bytes.items h.0 h.1 says
layout_found name ends files number layout (found.Broken cut) h says = layout_cut name ends files number layout cut h says

pub no_layout_found : (name : List ℕ) (ends : Ends) (files : Files) (number : ℕ) (it : Found) → IsFound ends files (Manifest number) it → SaysFoundNone name it → HasNoLayout name ends files number
no_layout_found name ends files number found.Missing h none = inl h
no_layout_found name ends files number (found.Whole bytes) h none = inr (inr (bytes.items, bytes.items, h.0, record { how = inl refl; readable = h.1 }, none))
no_layout_found name ends files number (found.Broken cut) h none = inr (inr (h.1, cut.front.items, h.2, record { how = inr h.3; readable = h.4 }, none))

pub beyond_found : (name : List ℕ) (ends : Ends) (files : Files) (number : ℕ) (it : Found) → IsFound ends files (Manifest number) it → SaysFoundBeyond name it → HasBeyond name ends files number
beyond_found name ends files number found.Missing h beyond = absurd beyond
beyond_found name ends files number (found.Whole bytes) h beyond = (bytes.items, bytes.items, h.0, record { how = inl refl; readable = h.1 }, beyond)
beyond_found name ends files number (found.Broken cut) h beyond = (h.1, cut.front.items, h.2, record { how = inr h.3; readable = h.4 }, beyond)
