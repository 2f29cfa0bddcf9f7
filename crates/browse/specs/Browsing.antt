-- What `get`, `scan` and `export` print of a directory, which they leave as it is. A refusal has no
-- text.
use Rattle.std.specs.Prelude.{◌≡◌, ◌⊎◌, ◌++◌, ℕ, max, codes, List, [], ◌∷◌, Option, Some, None, Result, Ok, Err}
use Rattle.std.specs.Prelude.{IfOk, IfErr, IsTrue}
use Rattle.std.specs.FinMap.{get}
use Rattle.std.specs.Io.KnownBytes.{Appends}
use Rattle.coding.specs.declared.error.DbError.{DbError}
use Rattle.ikey.specs.Orders.{Order}
use Rattle.ikey.specs.Views.{Contents}
use Rattle.store.specs.Files.{Facts, Files}
use Rattle.recover.specs.Reading.{Recovers}
use Rattle.recover.specs.declared.reading.Recovered.{Recovered}
use Rattle.table.specs.Reading.{Reads}
use Rattle.engine.specs.Ranges.{Cmp, Pair}
use Rattle.browse.specs.declared.choice.Choice.{Choice}
use Rattle.browse.specs.declared.form.Form.{Form}
use Rattle.browse.specs.declared.showing.Showing.{Showing}
use Rattle.browse.specs.declared.showing.Showing.TheVariants.{Line, EachLine, Bytes}
use Rattle.browse.specs.Choices.{IsChosen, MeansMap}
use Rattle.browse.specs.Forms.{lines_in, text_in}
use Rattle.browse.specs.Refusals.{RefusesGet, RefusesScan}

-- there is a database: its MANIFEST and its logs were read
abbrev pub IsThere : Order → Files → Type 0
IsThere order files = (recovered : Recovered) × Recovers order files recovered

-- ---- the value of a key

-- what is read of a key: its value in the map, or why there is none to tell
pub record IsRead (order : Order) (old new : Facts) (key : List ℕ) (answer : Result (Option (List ℕ)) DbError) : Type 0 where
  pub found : IfOk answer (λ value. IsTrue new.faithful → (map : Contents) → MeansMap order old.files map → value ≡ get map key)
  pub there : IfOk answer (λ value. IsTrue new.faithful → IsThere order old.files)
  pub refused : IfErr answer (λ e. RefusesGet order e old new)

-- what is written of a value, and of a key without one
abbrev pub some_text : Showing → List ℕ → List ℕ
some_text (Line form) value = text_in form value ++ 10 ∷ []
some_text (EachLine form) value = text_in form value ++ 10 ∷ []
some_text Bytes value = value

abbrev pub none_text : Showing → List ℕ
none_text (Line form) = []
none_text (EachLine form) = codes "\\N\n"
none_text Bytes = []

-- a refusal has no text
abbrev pub value_text : Showing → Result (Option (List ℕ)) DbError → List ℕ
value_text showing (Ok None) = none_text showing
value_text showing (Ok (Some value)) = some_text showing value
value_text showing (Err e) = []

-- 0 where there is a value, 4 where there is none, 1 for a refusal
abbrev pub value_status : Result (Option (List ℕ)) DbError → ℕ
value_status (Ok (Some value)) = 0
value_status (Ok None) = 4
value_status (Err e) = 1

pub record Gets (order : Order) (old new : Facts) (key : List ℕ) (showing : Showing) (before after : Option (List ℕ)) (status : ℕ)
    : Type 0 where
  pub answer : Result (Option (List ℕ)) DbError
  pub read : IsRead order old new key answer
  pub written : Appends before after (value_text showing answer)
  pub ended : status ≡ value_status answer

-- ---- the values of keys

-- A line for each key, up to a refusal, with this status so far.
abbrev pub GetsEach : Order → Form → List (List ℕ) → ℕ → Facts → Facts → Option (List ℕ) → Option (List ℕ) → ℕ
    → Type 0
GetsEach order form [] so_far old new before after status = (new ≡ old) × (after ≡ before) × (status ≡ so_far)
GetsEach order form (key ∷ keys) so_far old new before after status =
    (Gets order old new key (EachLine form) before after 1 × (status ≡ 1))
    ⊎ ((mid : Facts) × (between : Option (List ℕ)) × (one : ℕ)
    × Gets order old mid key (EachLine form) before between one × Reads old mid × (one ≡ 1 → ⊥)
    × GetsEach order form keys (max so_far one) mid new between after status)

-- The directory is refused, which has no text; or it is there, and so are the lines.
abbrev pub GetsAll : Order → Facts → Facts → List (List ℕ) → Form → Option (List ℕ) → Option (List ℕ) → ℕ → Type 0
GetsAll order old new keys form before after status =
    ((e : DbError) × RefusesGet order e old new × (after ≡ before) × (status ≡ 1))
    ⊎ ((mid : Facts) × Reads old mid × (IsTrue mid.faithful → IsThere order old.files)
    × GetsEach order form keys 0 mid new before after status)

-- ---- pairs

-- these came: all that are asked for, or, where a refusal stands behind them, the first of these,
-- if any
abbrev pub IsTold : Cmp → Choice → Contents → List Pair → Result (Unit {0}) DbError → Type 0
IsTold cmp choice map came (Ok done) = IsChosen cmp choice map came
IsTold cmp choice map came (Err e) = (came ≡ []) ⊎ ((rest : List Pair) × IsChosen cmp choice map (came ++ rest))

abbrev pub end_status : Result (Unit {0}) DbError → ℕ
end_status (Ok done) = 0
end_status (Err e) = 1

pub record Scans (order : Order) (old new : Facts) (choice : Choice) (before after : Option (List ℕ)) (status : ℕ) : Type 0 where
  pub came : List Pair
  -- how it ended
  pub answer : Result (Unit {0}) DbError
  pub told : IsTrue new.faithful → (map : Contents) → MeansMap order old.files map → IsTold order.cmp choice map came answer
  pub there : IfOk answer (λ done. IsTrue new.faithful → IsThere order old.files)
  pub refused : IfErr answer (λ e. RefusesScan order e old new)
  pub written : Appends before after (lines_in choice.style came)
  pub ended : status ≡ end_status answer
