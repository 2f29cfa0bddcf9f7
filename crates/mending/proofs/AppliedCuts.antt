-- Files that are replaced one after the other.
use Rattle.std.proofs.Common.{◌≡◌, ◌≢◌, ◌⊎◌, ◌<◌, ◌+◌, ℕ, zero, suc, List, [], ◌∷◌, ◌++◌, length, take, get_or, Option, Some, inl, inr, refl, sym, ap, subst, ◌∙◌, arith}
use Rattle.std.specs.List.{AllByRecursion}
use Rattle.std.specs.FinMap.{get}
use Rattle.std.proofs.lemmas.Bool.{cases_eq}
use Rattle.std.proofs.lemmas.List.{take_more}
use Rattle.store.specs.Files.{Files, Facts}
use Rattle.store.specs.Stops.{LeavesOnly}
use Rattle.store.proofs.Stopping.{leaves_both, leaves_so}
use Rattle.edits.specs.Names.{name_of, IsNumbered, IsFileName}
use Rattle.edits.specs.declared.names.FileName.{FileName}
use Rattle.edits.specs.declared.names.FileName.TheVariants.{Current, Lock, Log, Table, OldTable, Manifest, Temporary}
use Rattle.edits.proofs.FileNames.{one_file}
use Rattle.coding.specs.declared.error.DbError.{DbError}
use Rattle.coding.specs.declared.error.DbError.TheVariants.{OutOfMemory, Io, Locked, Corrupt, Unsupported}
use Rattle.mending.specs.Calls.{RefusesMend}
use Rattle.mending.specs.Replacing.{MayReplace, Replaces, Writes}
use Rattle.mending.specs.Mending.{number_of, temporary_of, IsLogged, AreLogged, HasFront, AreBetween, AreDone}
use Rattle.mending.specs.declared.finding.Cut.{Cut}

-- ---- names

pub logged_name : (file : FileName) → IsLogged file → IsFileName file
logged_name (Log n) h = h
logged_name (Manifest n) h = h
logged_name Current h = absurd h
logged_name Lock h = absurd h
logged_name (Table n) h = absurd h
logged_name (OldTable n) h = absurd h
logged_name (Temporary n) h = absurd h

pub logged_number : (file : FileName) → IsLogged file → IsNumbered (number_of file)
logged_number (Log n) h = h
logged_number (Manifest n) h = h
logged_number Current h = absurd h
logged_number Lock h = absurd h
logged_number (Table n) h = absurd h
logged_number (OldTable n) h = absurd h
logged_number (Temporary n) h = absurd h

not_temporary : (file : FileName) (n : ℕ) → IsLogged file → file ≡ Temporary n → ⊥
not_temporary (Log m) n h e = cc
not_temporary (Manifest m) n h e = cc
not_temporary Current n h e = cc
not_temporary Lock n h e = cc
not_temporary (Table m) n h e = cc
not_temporary (OldTable m) n h e = cc
not_temporary (Temporary m) n h e = absurd h

-- the file of a cut is no temporary one
pub apart_from : (file other : FileName) → IsLogged file → IsLogged other → name_of file ≡ temporary_of other → ⊥
apart_from file other h k e = not_temporary file (number_of other) h (one_file file (Temporary (number_of other)) (logged_name file h) (logged_number other k) e)

-- ---- one more

pub item_at : (cuts : List Cut) (P : Cut → Type 0) (i : ℕ) (cut : Cut) → i < length cuts → cut ≡ get_or cuts i cut → AllByRecursion P cuts → P cut
item_at [] P i cut lt is all = absurd (omega (arith, lt))
item_at (c ∷ cuts) P zero cut lt is all = subst P (sym is) all.0
item_at (c ∷ cuts) P (suc i) cut lt is all = item_at cuts P i cut (omega (arith, lt)) is all.1

pub logged_at : (cuts : List Cut) (i : ℕ) (cut : Cut) → i < length cuts → cut ≡ get_or cuts i cut → AreLogged cuts → IsLogged cut.file
logged_at cuts i cut lt is all = item_at cuts (λ (c : Cut). IsLogged c.file) i cut lt is all

pub has_front : (cuts : List Cut) (i : ℕ) (cut : Cut) (content : Option (List ℕ)) → i < length cuts → cut ≡ get_or cuts i cut → content ≡ Some cut.front.items → HasFront cuts (name_of cut.file) content
has_front [] i cut content lt is e = absurd (omega (arith, lt))
has_front (c ∷ cuts) zero cut content lt is e = inl (ap (λ (x : Cut). name_of x.file) is, e ∙ ap (λ (x : Cut). Some x.front.items) is)
has_front (c ∷ cuts) (suc i) cut content lt is e = inr (has_front cuts i cut content (omega (arith, lt)) is e)

head_of : (x y : ℕ) (xs ys : List ℕ) → x ∷ xs ≡ y ∷ ys → x ≡ y
head_of x y xs ys e = cc

tail_of : (x y : ℕ) (xs ys : List ℕ) → x ∷ xs ≡ y ∷ ys → xs ≡ ys
tail_of x y xs ys e = cc

same_heads : (x y : ℕ) (xs ys : List ℕ) → (x ≡ y) ⊎ (x ≡ y → ⊥) → (xs ≡ ys) ⊎ (xs ≡ ys → ⊥) → (x ∷ xs ≡ y ∷ ys) ⊎ (x ∷ xs ≡ y ∷ ys → ⊥)
same_heads x y xs ys (inl a) (inl b) = inl (cc (a, b))
same_heads x y xs ys (inl a) (inr b) = inr (λ e. b (tail_of x y xs ys e))
same_heads x y xs ys (inr a) b = inr (λ e. a (head_of x y xs ys e))

same_list : (q name : List ℕ) → (q ≡ name) ⊎ (q ≡ name → ⊥)
same_list [] [] = inl refl
same_list [] (y ∷ ys) = inr (λ e. cc)
same_list (x ∷ xs) [] = inr (λ e. cc)
same_list (x ∷ xs) (y ∷ ys) = same_heads x y xs ys (cases_eq x y) (same_list xs ys)

-- a file after one more was replaced
between_one : (cuts : List Cut) (old mid files : Files) (i : ℕ) (cut : Cut) → i < length cuts → cut ≡ get_or cuts i cut → AreBetween cuts old mid → MayReplace mid files (temporary_of cut.file) (name_of cut.file) cut.front.items → AreBetween cuts old files
between_one cuts old mid files i cut lt is h (inl kept) q apart =
    subst (λ (c : Option (List ℕ)). (c ≡ get old q) ⊎ HasFront cuts q c) (sym (kept q (item_at cuts (λ (c : Cut). q ≢ temporary_of c.file) i cut lt is apart))) (h q apart)
between_one cuts old mid files i cut lt is h (inr done) q apart = by (same_list q (name_of cut.file))
  where
    by : (q ≡ name_of cut.file) ⊎ (q ≡ name_of cut.file → ⊥) → (get files q ≡ get old q) ⊎ HasFront cuts q (get files q)
    by (inl e) = inr (subst (λ (r : List ℕ). HasFront cuts r (get files r)) (sym e) (has_front cuts i cut (get files (name_of cut.file)) lt is done.0))
    by (inr other) = subst (λ (c : Option (List ℕ)). (c ≡ get old q) ⊎ HasFront cuts q c) (sym (done.1 q (item_at cuts (λ (c : Cut). q ≢ temporary_of c.file) i cut lt is apart) other)) (h q apart)

pub between_itself : (cuts : List Cut) (files : Files) → AreBetween cuts files files
between_itself cuts files q apart = inl refl

pub between_step : (cuts : List Cut) (old mid new : Facts) (i : ℕ) (cut : Cut) → i < length cuts → cut ≡ get_or cuts i cut → LeavesOnly old mid (AreBetween cuts old.files)
    → LeavesOnly mid new (λ files. MayReplace mid.files files (temporary_of cut.file) (name_of cut.file) cut.front.items) → LeavesOnly old new (AreBetween cuts old.files)
between_step cuts old mid new i cut lt is h k =
    leaves_both old mid new (AreBetween cuts old.files) h
    (leaves_so mid new (λ files. MayReplace mid.files files (temporary_of cut.file) (name_of cut.file) cut.front.items) (AreBetween cuts old.files)
    (λ files may. between_one cuts old.files mid.files files i cut lt is h.now may) k)

-- those that are done stay so
done_one : (cuts done : List Cut) (mid files : Files) (i : ℕ) (cut : Cut) → i < length cuts → cut ≡ get_or cuts i cut → AreLogged done → IsLogged cut.file → AreDone cuts done mid
    → Replaces mid files (temporary_of cut.file) (name_of cut.file) cut.front.items → AreDone cuts done files
done_one cuts [] mid files i cut lt is named this h r = tt
done_one cuts (c ∷ done) mid files i cut lt is named this h r = (by (same_list (name_of c.file) (name_of cut.file)), done_one cuts done mid files i cut lt is named.1 this h.1 r)
  where
    by : (name_of c.file ≡ name_of cut.file) ⊎ (name_of c.file ≡ name_of cut.file → ⊥) → HasFront cuts (name_of c.file) (get files (name_of c.file))
    by (inl e) = subst (λ (q : List ℕ). HasFront cuts q (get files q)) (sym e) (has_front cuts i cut (get files (name_of cut.file)) lt is r.0)
    by (inr other) = subst (λ (x : Option (List ℕ)). HasFront cuts (name_of c.file) x) (sym (r.1 (name_of c.file) (apart_from c.file cut.file named.0 this) other)) h.0

done_push : (cuts done : List Cut) (cut : Cut) (files : Files) → AreDone cuts done files → HasFront cuts (name_of cut.file) (get files (name_of cut.file)) → AreDone cuts (done ++ cut ∷ []) files
done_push cuts [] cut files h k = (k, tt)
done_push cuts (c ∷ done) cut files h k = (h.0, done_push cuts done cut files h.1 k)

logged_take : (cuts : List Cut) (i : ℕ) → AreLogged cuts → AreLogged (take i cuts)
logged_take cuts zero all = tt
logged_take [] (suc i) all = tt
logged_take (c ∷ cuts) (suc i) all = (all.0, logged_take cuts i all.1)

pub done_step : (cuts : List Cut) (mid files : Files) (i : ℕ) (cut : Cut) → i < length cuts → cut ≡ get_or cuts i cut → AreLogged cuts → AreDone cuts (take i cuts) mid
    → Replaces mid files (temporary_of cut.file) (name_of cut.file) cut.front.items → AreDone cuts (take (i + 1) cuts) files
done_step cuts mid files i cut lt is named h r =
    let this = logged_at cuts i cut lt is named in
    let before = done_one cuts (take i cuts) mid files i cut lt is (logged_take cuts i named) this h r in
    let more = done_push cuts (take i cuts) cut files before (has_front cuts i cut (get files (name_of cut.file)) lt is r.0) in
    subst (λ (cs : List Cut). AreDone cuts cs files) (ap (λ (c : Cut). take i cuts ++ c ∷ []) is ∙ sym (take_more cuts i cut lt)) more

-- a refusal behind calls that write
pub refused_behind : (old mid new : Facts) (e : DbError) → Writes old mid → RefusesMend e mid new ⊥ ⊥ → RefusesMend e old new ⊥ ⊥
refused_behind old mid new OutOfMemory w h = tt
refused_behind old mid new Io w h = omega (arith, w.failures, h)
refused_behind old mid new Locked w h = omega (arith, w.denials, h)
refused_behind old mid new (Corrupt file what) w h = h
refused_behind old mid new (Unsupported what) w h = h
refused_behind old mid new _ w h = absurd h
