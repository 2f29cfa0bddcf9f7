-- The lines of entries, as `dump` prints them.
use Rattle.std.specs.Prelude.{◌++◌, ℕ, List, [], ◌∷◌, codes, Option, Some, None}
use Rattle.std.specs.Fmt.{decimal}
use Rattle.ikey.specs.declared.entry.Entry.{Entry}
use Rattle.recover.specs.declared.origins.Origin.{Origin}
use Rattle.recover.specs.declared.origins.Origin.TheVariants.{Table, Log}
use Rattle.browse.specs.declared.form.Form.{Form}
use Rattle.browse.specs.Forms.{digits_of, text_in}
use Rattle.tool.specs.declared.task.Notation.{Notation}
use Rattle.tool.specs.declared.task.Notation.TheVariants.{Words, Json}

-- ---- words: table 1 5 KEY 3 put VALUE · log 2 KEY 3 delete; in hexadecimal by default

-- the file of an entry
abbrev pub origin_words_of : Origin → List ℕ
origin_words_of (Table level number) = codes "table " ++ decimal level ++ 32 ∷ decimal number
origin_words_of (Log number) = codes "log " ++ decimal number

-- what the entry does to its key
abbrev pub change_words_of : Form → Option (List ℕ) → List ℕ
change_words_of form None = codes "delete"
change_words_of form (Some value) = codes "put " ++ text_in form value

abbrev pub entry_words_of : Form → Origin → Entry → List ℕ
entry_words_of form origin entry =
    origin_words_of origin ++ 32 ∷ text_in form entry.key ++ 32 ∷ decimal entry.sequence ++ 32 ∷ change_words_of form entry.value

-- ---- objects of JSON:
-- {"file":"table","level":1,"number":5,"key":"6b","sequence":3,"kind":"put","value":"76"}
-- {"file":"log","number":2,"key":"6b","sequence":3,"kind":"delete"}

abbrev pub origin_object_of : Origin → List ℕ
origin_object_of (Table level number) = codes "{\"file\":\"table\",\"level\":" ++ decimal level ++ codes ",\"number\":" ++ decimal number
origin_object_of (Log number) = codes "{\"file\":\"log\",\"number\":" ++ decimal number

abbrev pub change_object_of : Option (List ℕ) → List ℕ
change_object_of None = codes ",\"kind\":\"delete\"}"
change_object_of (Some value) = codes ",\"kind\":\"put\",\"value\":\"" ++ digits_of value ++ codes "\"}"

abbrev pub entry_object_of : Origin → Entry → List ℕ
entry_object_of origin entry =
    origin_object_of origin ++ codes ",\"key\":\"" ++ digits_of entry.key ++ codes "\",\"sequence\":" ++ decimal entry.sequence ++ change_object_of entry.value

-- ---- lines

abbrev pub entry_text_of : Notation → Origin → Entry → List ℕ
entry_text_of (Words form) origin entry = entry_words_of form origin entry
entry_text_of Json origin entry = entry_object_of origin entry

abbrev pub entry_line_of : Notation → Origin → Entry → List ℕ
entry_line_of notation origin entry = entry_text_of notation origin entry ++ 10 ∷ []
