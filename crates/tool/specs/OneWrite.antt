-- The scripts that `put` and `del` run.
use Rattle.std.specs.Prelude.{ℕ, ◌++◌, ◌∷◌, List, [], codes}
use Rattle.script.specs.Words.{text_of_bytes}

-- the database that is there, or a new one, and one pair that is synced
abbrev pub put_script_of : List ℕ → List ℕ → List ℕ
put_script_of key value =
    (((codes "open any\nwrite sync put " ++ text_of_bytes key) ++ 32 ∷ []) ++ text_of_bytes value)
    ++ codes "\nclose\n"

-- the database that is there, and one deletion that is synced
abbrev pub del_script_of : List ℕ → List ℕ
del_script_of key = (codes "open\nwrite sync del " ++ text_of_bytes key) ++ codes "\nclose\n"
