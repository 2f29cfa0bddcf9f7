-- The parts of an edit, one after the other.
use Rattle.std.proofs.Common.{◌≡◌, ℕ, ◌^◌, ◌<◌, ◌≤◌, List, ◌++◌, length, take, drop, refl, sym, subst, ◌∙◌}
use Rattle.std.proofs.lemmas.List.{take-append-drop, take_at}
use Rattle.coding.specs.Varint.{IsVarint, IsString, AppendsVarint}
use Rattle.coding.proofs.Fronts.{varint_front, string_front}
use Rattle.edits.specs.declared.field.TableFile.{TableFile}
use Rattle.coding.specs.Spelling.{InTurn, Begins, BeginsNone, Appends, IsPrefixFree}
use Rattle.edits.specs.Edit.{IsInternal, IsLong, IsSequence, IsLevel, IsTableNumber, SpellsKey, SpellsTable, IsPlaced}
use Rattle.ikey.specs.Keys.{Key, IsKey}
use Rattle.coding.proofs.Spellings.{free_pair, appends_pair}

pub free_varint : IsPrefixFree IsVarint
free_varint = varint_front

pub free_string : IsPrefixFree IsString
free_string = string_front

pub free_long : IsPrefixFree IsLong
free_long a b x y m n h k e = varint_front a b x y m n h.0 k.0 e

pub free_sequence : IsPrefixFree IsSequence
free_sequence a b x y m n h k e = varint_front a b x y m n h.0 k.0 e

pub free_level : IsPrefixFree IsLevel
free_level a b x y m n h k e = varint_front a b x y m n h.0 k.0 e

pub free_table_number : IsPrefixFree IsTableNumber
free_table_number a b x y m n h k e = varint_front a b x y m n h.0.0 k.0.0 e

pub free_key : IsPrefixFree SpellsKey
free_key a b x y m n h k e = string_front a b x y m n h.0 k.0 e

-- a string that is no internal key
pub none_key : (bytes text rest : List ℕ) → Begins IsString bytes text rest → ((key : Key) → IsKey text key → ⊥) → BeginsNone SpellsKey bytes
none_key bytes text rest b none other behind c =
    let same = string_front b.0 c.0 rest behind text other b.1 c.1.0 (sym b.2 ∙ c.2) in
    none c.1.1.0 (subst (λ (found : List ℕ). IsKey found c.1.1.0) (sym same.0) c.1.1.1)

-- a string at the front, as its reader answers it
pub key_begins : (bytes text rest : List ℕ) (key : Key) → Begins IsString bytes text rest → IsKey text key → Begins SpellsKey bytes text rest
key_begins bytes text rest key b is = (b.0, (b.1, (key, is)), b.2)

pub free_keys : IsPrefixFree (InTurn SpellsKey SpellsKey)
free_keys = free_pair SpellsKey SpellsKey free_key free_key

pub free_table : IsPrefixFree SpellsTable
free_table a b x y m n h k e =
    let same = free_pair IsTableNumber (InTurn IsLong (InTurn SpellsKey SpellsKey)) free_table_number (free_pair IsLong (InTurn SpellsKey SpellsKey) free_long free_keys) a b x y
    (m.number, (m.size, (m.smallest, m.largest))) (n.number, (n.size, (n.smallest, n.largest))) h k e in
    (λ i. record { number = (same.0 i).0; size = (same.0 i).1.0; smallest = (same.0 i).1.1.0; largest = (same.0 i).1.1.1 }, same.1)

pub free_placed : IsPrefixFree IsPlaced
free_placed a b x y m n h k e =
    let same = free_pair IsLevel SpellsTable free_level free_table a b x y (m.level, m.table) (n.level, n.table) h k e in
    (λ i. record { level = (same.0 i).0; table = (same.0 i).1 }, same.1)

-- a number at the front, as the reader of numbers answers it
pub varint_begins : (bytes : List ℕ) (used n : ℕ) → used ≤ length bytes → IsVarint (take used bytes) n → Begins IsVarint bytes n (drop used bytes)
varint_begins bytes used n within h = (take used bytes, h, sym (take-append-drop used bytes))

pub varint_none : (bytes front rest : List ℕ) (n : ℕ) → ((used : ℕ) → IsVarint (take used bytes) n → ⊥) → IsVarint front n → bytes ≡ front ++ rest → ⊥
varint_none bytes front rest n none h e = none (length front) (rw (e, take_at front rest (length front) refl) h)

pub none_table : (bytes : List ℕ) → BeginsNone (InTurn IsTableNumber (InTurn IsLong (InTurn SpellsKey SpellsKey))) bytes → BeginsNone SpellsTable bytes
none_table bytes none table rest b = none (table.number, (table.size, (table.smallest, table.largest))) rest b

pub none_placed : (bytes : List ℕ) → BeginsNone (InTurn IsLevel SpellsTable) bytes → BeginsNone IsPlaced bytes
none_placed bytes none placed rest b = none (placed.level, placed.table) rest b

pub key_appends : (out more key : List ℕ) → Appends IsString out more key → IsInternal key → Appends SpellsKey out more key
key_appends out more key a is = (a.0, (a.1, is), a.2)

-- what the writer of tables has put
pub put_parts : (start first second third last : List ℕ) (table : TableFile) → AppendsVarint start first table.number → AppendsVarint first second table.size
    → Appends IsString second third table.smallest → Appends IsString third last table.largest
    → 0 < table.number → table.number < 2 ^ 64 → table.size < 2 ^ 64 → IsInternal table.smallest → IsInternal table.largest → Appends SpellsTable start last table
put_parts start first second third last table number size smallest largest some fits small first_key last_key =
    appends_pair IsTableNumber (InTurn IsLong (InTurn SpellsKey SpellsKey)) start first last table.number (table.size, (table.smallest, table.largest)) (number.0, ((number.1, fits), some), number.2)
    (appends_pair IsLong (InTurn SpellsKey SpellsKey) first second last table.size (table.smallest, table.largest) (size.0, (size.1, small), size.2)
    (appends_pair SpellsKey SpellsKey second third last table.smallest table.largest (key_appends second third table.smallest smallest first_key) (key_appends third last table.largest largest last_key)))
