-- Calls that read, one after another.
use Rattle.std.proofs.Common.{◌≡◌, ℕ, List, Some, Result, IsTrue, refl, sym, ◌∙◌, subst, arith}
use Rattle.std.specs.FinMap.{get}
use Rattle.coding.specs.declared.error.DbError.{DbError}
use Rattle.coding.specs.declared.error.DbError.TheVariants.{OutOfMemory, Io, Corrupt, Unsupported}
use Rattle.coding.specs.declared.error.ReadError.{ReadError}
use Rattle.coding.specs.declared.error.ReadError.TheVariants as read_error
use Rattle.block.specs.Block.{Refuses as RefusesBlock}
use Rattle.coding.specs.Errors.{RefusesOnly}
use Rattle.store.specs.Files.{Files, Facts}
use Rattle.store.specs.Calls.{Counts, FailsNoWrite, Keeps, KeepsSynced, KeepsCalls}
use Rattle.store.specs.declared.error.StoreError.{StoreError}
use Rattle.table.specs.Reading.{Reads, HasFile, Finds, Refuses, table_refusal}

pub same_file : (facts : Facts) (name x y : List ℕ) → HasFile facts name x → HasFile facts name y → x ≡ y
same_file facts name x y h k = let e : Some x ≡ Some y = sym h ∙ k in cc

pub reads_then : (a b c : Facts) → Reads a b → Reads b c → Reads a c
reads_then a b c h k = record {
  faithful = λ t. h.faithful (k.faithful t);
  files = λ t. k.files t ∙ h.files (k.faithful t);
  failures = omega (arith, h.failures, k.failures);
  writes = k.writes ∙ h.writes;
  denials = k.denials ∙ h.denials;
  locked = k.locked ∙ h.locked;
  synced = λ t. k.synced t ∙ h.synced (k.faithful t);
  calls = λ t. k.calls t ∙ h.calls (k.faithful t);
}

pub file_back : (a b : Facts) (name file : List ℕ) → Reads a b → IsTrue b.faithful → HasFile b name file → HasFile a name file
file_back a b name file h t f = subst (λ (files : Files). get files name ≡ Some file) (h.files t) f

pub file_on : (a b : Facts) (name file : List ℕ) → Reads a b → IsTrue b.faithful → HasFile a name file → HasFile b name file
file_on a b name file h t f = subst (λ (files : Files). get files name ≡ Some file) (sym (h.files t)) f

pub finds_first : (a b c : Facts) (name : List ℕ) (P : List ℕ → Type 0) → Reads b c → Finds a b name P → Finds a c name P
finds_first a b c name P k h = λ t. h (k.faithful t)

pub finds_second : (a b c : Facts) (name : List ℕ) (P : List ℕ → Type 0) → Reads a b → Reads b c → Finds b c name P → Finds a c name P
finds_second a b c name P h k f = λ t. let g = f t in (g.0, file_back a b name g.0 h (k.faithful t) g.1, g.2)

pub finds_more : (a b : Facts) (name : List ℕ) (P Q : List ℕ → Type 0) → ((file : List ℕ) → P file → Q file) → Finds a b name P → Finds a b name Q
finds_more a b name P Q f h = λ t. let g = h t in (g.0, g.1, f g.0 g.2)

pub finds_both : (a c : Facts) (name : List ℕ) (P Q R : List ℕ → Type 0) → ((file : List ℕ) → P file → Q file → R file) → Finds a c name P → Finds a c name Q → Finds a c name R
finds_both a c name P Q R f h k = λ t.
    let g = h t in let l = k t in
    (g.0, g.1, f g.0 g.2 (subst Q (same_file a name l.0 g.0 l.1 g.1) l.2))

-- what was found is so of the file that is there
pub known : (a c : Facts) (name : List ℕ) (P R : List ℕ → Type 0) → ((file : List ℕ) → P file → R file) → Finds a c name P → IsTrue c.faithful → (file : List ℕ) → HasFile a name file → R file
known a c name P R f h t file there =
    let g = h t in f file (subst P (same_file a name g.0 file g.1 there) g.2)

pub refuses_more : (e : DbError) (a b : Facts) (name : List ℕ) (D E U V : List ℕ → Type 0) → ((file : List ℕ) → D file → E file) → ((file : List ℕ) → U file → V file)
    → Refuses e a b name D U → Refuses e a b name E V
refuses_more OutOfMemory a b name D E U V f g h = h
refuses_more Io a b name D E U V f g h = h
refuses_more (Corrupt file what) a b name D E U V f g h = λ t file there. f file (h t file there)
refuses_more (Unsupported what) a b name D E U V f g h = λ t file there. g file (h t file there)
refuses_more _ a b name D E U V f g h = absurd h

-- what is so of the file that is there, by a call after what was found
known_later : (a b c : Facts) (name : List ℕ) (P Q R : List ℕ → Type 0) → ((file : List ℕ) → P file → Q file → R file) → Reads a b → Reads b c → Finds a b name P
    → (IsTrue c.faithful → (file : List ℕ) → HasFile b name file → Q file) → IsTrue c.faithful → (file : List ℕ) → HasFile a name file → R file
known_later a b c name P Q R f h k found none t file there =
    let g = found (k.faithful t) in
    f file (subst P (same_file a name g.0 file g.1 there) g.2) (none t file (file_on a b name file h (k.faithful t) there))

-- a refusal after what was found
pub refuses_after : (e : DbError) (a b c : Facts) (name : List ℕ) (P D E U V : List ℕ → Type 0) → ((file : List ℕ) → P file → D file → E file) → ((file : List ℕ) → P file → U file → V file)
    → b.failures ≡ a.failures → Reads a b → Reads b c → Finds a b name P → Refuses e b c name D U → Refuses e a c name E V
refuses_after OutOfMemory a b c name P D E U V f g s h k found none = none ∙ s
refuses_after Io a b c name P D E U V f g s h k found none = omega (arith, h.failures, none)
refuses_after (Corrupt kind what) a b c name P D E U V f g s h k found none = known_later a b c name P D E f h k found none
refuses_after (Unsupported what) a b c name P D E U V f g s h k found none = known_later a b c name P U V g h k found none
refuses_after _ a b c name P D E U V f g s h k found none = absurd none

-- a refusal of bytes that were read, which are damaged
pub refuses_block : (e : ReadError) (a c : Facts) (name : List ℕ) (P E V : List ℕ → Type 0) (damaged large : Type 0) → ((file : List ℕ) → P file → damaged → E file) → ((file : List ℕ) → P file → large → V file)
    → c.failures ≡ a.failures → Finds a c name P → RefusesBlock e damaged large → Refuses (table_refusal e) a c name E V
refuses_block read_error.Memory a c name P E V damaged large f g s found h = s
refuses_block (read_error.Corrupt what) a c name P E V damaged large f g s found h = known a c name P E (λ file p. f file p h) found
refuses_block (read_error.Unsupported what) a c name P E V damaged large f g s found h = known a c name P V (λ file p. g file p h) found

-- the same of bytes that are damaged
pub refuses_damaged : (e : ReadError) (a c : Facts) (name : List ℕ) (P E V : List ℕ → Type 0) (damaged : Type 0) → ((file : List ℕ) → P file → damaged → E file)
    → c.failures ≡ a.failures → Finds a c name P → RefusesOnly e damaged → Refuses (table_refusal e) a c name E V
refuses_damaged read_error.Memory a c name P E V damaged f s found h = s
refuses_damaged (read_error.Corrupt what) a c name P E V damaged f s found h = known a c name P E (λ file p. f file p h) found
refuses_damaged (read_error.Unsupported what) a c name P E V damaged f s found h = absurd h

pub block_refuses : (e : ReadError) (damaged ruined large : Type 0) → (damaged → ruined) → RefusesBlock e damaged large → RefusesBlock e ruined large
block_refuses read_error.Memory damaged ruined large f h = tt
block_refuses (read_error.Corrupt what) damaged ruined large f h = f h
block_refuses (read_error.Unsupported what) damaged ruined large f h = h

pub only_refuses : (e : ReadError) (damaged ruined large : Type 0) → (damaged → ruined) → RefusesOnly e damaged → RefusesBlock e ruined large
only_refuses read_error.Memory damaged ruined large f h = tt
only_refuses (read_error.Corrupt what) damaged ruined large f h = f h
only_refuses (read_error.Unsupported what) damaged ruined large f h = absurd h

-- three calls, one after another
pub finds_three : (a b d e : Facts) (name : List ℕ) (P Q R : List ℕ → Type 0) → Reads a b → Reads b d → Reads d e → Finds a b name P → Finds b d name Q → Finds d e name R
    → Finds a e name (λ (file : List ℕ). P file × Q file × R file)
finds_three a b d e name P Q R h k l p q r =
    let first = finds_first a b e name P (reads_then b d e k l) p in
    let second = finds_first a d e name Q l (finds_second a b d name Q h k q) in
    let third = finds_second a d e name R (reads_then a b d h k) l r in
    finds_both a e name (λ (file : List ℕ). P file × Q file) R (λ (file : List ℕ). P file × Q file × R file) (λ file x y. (x.0, x.1, y))
    (finds_both a e name P Q (λ (file : List ℕ). P file × Q file) (λ file x y. (x, y)) first second) third

-- a refusal by the last of two calls
pub refuses_later : (e : DbError) (a b c : Facts) (name : List ℕ) (D E U V : List ℕ → Type 0) → ((file : List ℕ) → D file → E file) → ((file : List ℕ) → U file → V file)
    → b.failures ≡ a.failures → Reads a b → Reads b c → Refuses e b c name D U → Refuses e a c name E V
refuses_later OutOfMemory a b c name D E U V f g s h k none = none ∙ s
refuses_later Io a b c name D E U V f g s h k none = omega (arith, h.failures, none)
refuses_later (Corrupt kind what) a b c name D E U V f g s h k none = λ t file there. f file (none t file (file_on a b name file h (k.faithful t) there))
refuses_later (Unsupported what) a b c name D E U V f g s h k none = λ t file there. g file (none t file (file_on a b name file h (k.faithful t) there))
refuses_later _ a b c name D E U V f g s h k none = absurd none

pub reads_none : (a : Facts) → Reads a a
reads_none a = record { faithful = λ t. t; files = λ t. refl; failures = omega arith; writes = refl; denials = refl; locked = refl; synced = λ t. refl; calls = λ t. refl }

-- a call of the store that only reads
pub reads_by : {T : Type 0} (a b : Facts) (result : Result T StoreError) → Counts a b result → FailsNoWrite a b → b.denials ≡ a.denials → b.locked ≡ a.locked → Keeps a b → KeepsSynced a b → KeepsCalls a b → Reads a b
reads_by a b result counts writes undenied lock keeps synced calls = record { faithful = counts.faithful; files = keeps; failures = counts.failures; writes = writes; denials = undenied; locked = lock; synced = synced; calls = calls }
