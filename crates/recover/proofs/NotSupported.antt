-- What is answered as not supported isn't.
use Rattle.std.proofs.Common.{◌≡◌, ◌⊎◌, inl, inr, ◌<◌, ℕ, zero, suc, List, [], ◌∷◌, length, get_or, Some, IsTrue, sym, ap, ◌∙◌, subst, arith}
use Rattle.std.specs.Prelude.{Result, Ok, Err, IfErr}
use Rattle.std.specs.FinMap.{get}
use Rattle.coding.specs.declared.error.DbError.{DbError}
use Rattle.coding.specs.declared.error.DbError.TheVariants.{OutOfMemory, Io, Unsupported}
use Rattle.ikey.specs.Orders.{Order}
use Rattle.store.specs.Files.{Files, Facts}
use Rattle.edits.specs.declared.field.PlacedTable.{PlacedTable}
use Rattle.table.specs.Frame.{IsFrame, Opened}
use Rattle.table.specs.Reading.{Reads, Finds, Refuses}
use Rattle.table.specs.Refusals.{IsUnsupported, IsOfOne, IsFrameUnsupported}
use Rattle.recover.specs.Limits.{IsUnsupportedTable, IsUnsupportedFile, AnyIsUnsupported, TellsUnsupported, IsBeyondChecking}
use Rattle.recover.specs.internal.Parts.{IsUnchanged, RefusesBytes}
use Rattle.recover.specs.Ranges.{IsTableName}
use Rattle.recover.specs.Reading.{RefusesDirectory, IsBeyondReading, Recovers}
use Rattle.recover.specs.declared.reading.Recovered.{Recovered}

-- ---- handed on

pub told_later : (e : DbError) (c : Facts) (T W : Type 0) → (IsTrue c.faithful → T → W) → TellsUnsupported e c T → TellsUnsupported e c W
told_later (Unsupported what) c T W f h = λ t. f t (h t)
told_later _ c T W f h = tt

-- a refusal for something else
pub told_none : (e : DbError) (a c : Facts) (D W : Type 0) → RefusesDirectory e a c D ⊥ → TellsUnsupported e c W
told_none (Unsupported what) a c D W h = λ t. absurd (h t)
told_none _ a c D W h = tt

pub told_bytes : (e : DbError) (c : Facts) (D W : Type 0) → RefusesBytes e D ⊥ → TellsUnsupported e c W
told_bytes (Unsupported what) c D W h = λ t. absurd h
told_bytes _ c D W h = tt

pub told_memory : (e : DbError) (c : Facts) (W : Type 0) → (e ≡ OutOfMemory) ⊎ (e ≡ Io) → TellsUnsupported e c W
told_memory (Unsupported what) c W (inl is) = absurd cc
told_memory (Unsupported what) c W (inr is) = absurd cc
told_memory _ c W is = tt

pub told_directory : (e : DbError) (a c : Facts) (D U : Type 0) → RefusesDirectory e a c D U → TellsUnsupported e c U
told_directory (Unsupported what) a c D U h = h
told_directory _ a c D U h = tt

pub told_result : {T : Type 0} (r : Result T DbError) (c : Facts) (D W : Type 0) → IfErr r (λ e. RefusesBytes e D ⊥) → IfErr r (λ e. TellsUnsupported e c W)
told_result (Ok x) c D W h = tt
told_result (Err e) c D W h = told_bytes e c D W h

-- ---- one table

-- this is so of the bytes of the file of this name
abbrev pub IsNamed : Order → Files → List ℕ → Type 0
IsNamed order files name = (bytes : List ℕ) → get files name ≡ Some bytes → IsUnsupportedTable order bytes

pub told_frame : (order : Order) (e : DbError) (a b : Facts) (name : List ℕ) (damaged : List ℕ → Type 0) → Refuses e a b name damaged IsFrameUnsupported → TellsUnsupported e b (IsNamed order a.files name)
told_frame order (Unsupported what) a b name damaged h = λ t bytes there. inl (h t bytes there)
told_frame order _ a b name damaged h = tt

pub told_blocks : (order : Order) (e : DbError) (a b c : Facts) (name : List ℕ) (opened : Opened) (damaged : List ℕ → Type 0) → Reads a b → Reads b c → opened.name ≡ name → Finds a b name (λ (file : List ℕ). IsFrame order.cmp file opened.frame)
    → Refuses e b c opened.name damaged (λ (file : List ℕ). IsOfOne (IsUnsupported file) opened.frame.places) → TellsUnsupported e c (IsNamed order a.files name)
told_blocks order (Unsupported what) a b c name opened damaged h k same found r = λ t bytes there.
    let t' = k.faithful t in
    let f = found t' in
    let both : Some f.0 ≡ Some bytes = sym f.1 ∙ there in
    let bytes_are : f.0 ≡ bytes = cc in
    let frame : IsFrame order.cmp bytes opened.frame = subst (λ (v : List ℕ). IsFrame order.cmp v opened.frame) bytes_are f.2 in
    let now : get b.files opened.name ≡ Some bytes = (let x = h.files t' in λ i. get (x i) (same i)) ∙ there in
    inr (opened.frame, frame, r t bytes now)
told_blocks order _ a b c name opened damaged h k same found r = tt

pub told_file : (order : Order) (e : DbError) (a b c : Facts) (placed : PlacedTable) (name text : List ℕ) → IsUnchanged a b → IsUnchanged b c → text ≡ name → (IsTrue b.faithful → IsTableName a.files placed name)
    → TellsUnsupported e c (IsNamed order b.files text) → TellsUnsupported e c (IsUnsupportedFile order a.files placed)
told_file order e a b c placed name text h k same named r =
    told_later e c (IsNamed order b.files text) (IsUnsupportedFile order a.files placed) (λ t all.
    let t' = k.faithful t in
    let n = named t' in
    let now : get b.files text ≡ Some n.1.0 = ap (λ (v : List ℕ). get b.files v) same ∙ ap (λ (fs : Files). get fs name) (h.same t') ∙ n.1.1 in
    (n.1.0, n.1.2, all n.1.0 now)) r

-- ---- several

pub any_at : (order : Order) (files : Files) (tables : List PlacedTable) (n : ℕ) (d : PlacedTable) → n < length tables → IsUnsupportedFile order files (get_or tables n d) → AnyIsUnsupported order files tables
any_at order files [] n d p u = absurd (omega (arith, p))
any_at order files (t ∷ tables) zero d p u = inl u
any_at order files (t ∷ tables) (suc n) d p u = inr (any_at order files tables n d (omega (arith, p)) u)

-- ---- the whole

pub told_whole : (order : Order) (e : DbError) (a b c : Facts) (recovered : Recovered) → IsUnchanged a b → IsUnchanged b c → (IsTrue b.faithful → Recovers order a.files recovered)
    → TellsUnsupported e c (AnyIsUnsupported order b.files recovered.layout.tables.items) → TellsUnsupported e c (IsBeyondChecking order a.files)
told_whole order e a b c recovered h k found r =
    told_later e c (AnyIsUnsupported order b.files recovered.layout.tables.items) (IsBeyondChecking order a.files) (λ t u.
    let t' = k.faithful t in
    let m = found t' in
    let F : Files → Type 0 = λ fs. AnyIsUnsupported order fs recovered.layout.tables.items in
    inr (m.number, m.edits, recovered.layout, m.manifest, subst F (h.same t') u)) r

pub told_reading : (order : Order) (e : DbError) (a b c : Facts) (D : Type 0) → IsUnchanged a b → IsUnchanged b c → RefusesDirectory e b c D (IsBeyondReading order b.files) → TellsUnsupported e c (IsBeyondChecking order a.files)
told_reading order e a b c D h k r =
    told_later e c (IsBeyondReading order b.files) (IsBeyondChecking order a.files) (λ t u.
    let F : Files → Type 0 = λ fs. IsBeyondReading order fs in
    inl (subst F (h.same (k.faithful t)) u)) (told_directory e b c D (IsBeyondReading order b.files) r)
