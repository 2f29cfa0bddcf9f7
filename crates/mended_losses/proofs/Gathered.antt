-- Files of given names and contents.
use Rattle.std.proofs.Common.{◌≡◌, ◌||◌, ℕ, Bool, true, false, cond, List, [], ◌∷◌, Option, Some, None, is_some, refl, sym, ap, subst, ◌∙◌}
use Rattle.std.specs.Cmp.Lexicographic.{slice_cmp}
use Rattle.std.specs.FinMap.{get, empty, keys, contains_key, contains_key-keys, get-empty}
use Rattle.std.specs.List.{list_any}
use Rattle.std.specs.Ordering.{nat_cmp, eq_by_cmp}
use Rattle.store.specs.Files.{Files}
use Rattle.store.specs.Past.{with_file}
use Rattle.store.proofs.Undoing.{get-with_file}
use Rattle.mending.proofs.Writing.{same_name}

abbrev is_same : List ℕ → List ℕ → Bool
is_same q name = eq_by_cmp (slice_cmp nat_cmp) q name

gathered : (List ℕ → Option (List ℕ)) → List (List ℕ) → Files
gathered f [] = empty
gathered f (name ∷ names) = with_file (gathered f names) name (f name)

one_way : (f : List ℕ → Option (List ℕ)) (q name : List ℕ) (b more : Bool) → is_same q name ≡ b → cond b (f name) (cond more (f q) None) ≡ cond (b || more) (f q) None
one_way f q name true more is = ap f (sym (same_name q name is))
one_way f q name false more is = refl

gets : (f : List ℕ → Option (List ℕ)) (names : List (List ℕ)) (q : List ℕ) → get (gathered f names) q ≡ cond (list_any (is_same q) names) (f q) None
unfolding gathered
gets f [] q = get-empty (slice_cmp nat_cmp) q
gets f (name ∷ names) q =
    get-with_file (gathered f names) name (f name) q ∙ ap (λ (o : Option (List ℕ)). cond (is_same q name) (f name) o) (gets f names q)
    ∙ one_way f q name (is_same q name) (list_any (is_same q) names) refl

pub none_of : (o : Option (List ℕ)) → is_some o ≡ false → o ≡ None
none_of None e = refl
none_of (Some x) e = absurd (cc)

there_or_not : (o : Option (List ℕ)) (b : Bool) → is_some o ≡ b → cond b o None ≡ o
there_or_not o true is = refl
there_or_not o false is = sym (none_of o is)

-- Where it is known of each name what the file has, there are such files.
pub gather : (lost : Files) (P : List ℕ → Option (List ℕ) → Type 0) → ((q : List ℕ) → (o : Option (List ℕ)) × (is_some o ≡ contains_key lost q) × P q o) → (files : Files) × ((q : List ℕ) → P q (get files q))
gather lost P each =
    let f : List ℕ → Option (List ℕ) = λ q. (each q).0 in
    let all = gathered f (keys lost) in
    let at : (q : List ℕ) → get all q ≡ f q = λ q.
    gets f (keys lost) q ∙ ap (λ (b : Bool). cond b (f q) None) (sym (contains_key-keys lost q)) ∙ there_or_not (f q) (contains_key lost q) (each q).1 in
    (all, λ q. subst (P q) (sym (at q)) (each q).2)
