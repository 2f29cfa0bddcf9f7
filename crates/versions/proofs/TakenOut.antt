-- A table that is taken out of a list of tables.
use Rattle.std.proofs.Common.{◌≡◌, ℕ, ◌+◌, ◌<◌, ◌≤◌, true, false, cond, Option, Some, None, List, [], ◌∷◌, ◌++◌, length, take, drop, get_or, refl, sym, ap, ◌∙◌, append_assoc, add-one}
use Rattle.std.specs.Option.{option_map}
use Rattle.std.specs.List.{remove}
use Rattle.std.proofs.lemmas.List.{drop_all, take_more}
use Rattle.edits.proofs.Folds.{drop_item}
use Rattle.edits.specs.declared.field.PlacedTable.{PlacedTable}
use Rattle.edits.specs.Layout.{without, is_at}

take_item : {X : Type 0} (xs : List X) (i : ℕ) (x : X) → i < length xs → x ≡ get_or xs i x → (more : List X) → take i xs ++ x ∷ more ≡ take (i + 1) xs ++ more
take_item xs i x lt e more = sym (append_assoc (take i xs) (x ∷ []) more) ∙ ap (λ t. t ++ more) (ap (λ y. take i xs ++ y ∷ []) e ∙ sym (take_more xs i x lt))

-- no table before the i-th is the one that is looked for
abbrev pub IsBehind : ℕ → ℕ → List PlacedTable → ℕ → Type 0
IsBehind level number tables i = without level number tables ≡ option_map (λ others. take i tables ++ others) (without level number (drop i tables))

pub behind_none : (level number : ℕ) (tables : List PlacedTable) → IsBehind level number tables 0
behind_none level number tables = go (without level number tables)
  where
    go : (o : Option (List PlacedTable)) → o ≡ option_map (λ others. [] ++ others) o
    go None = refl
    go (Some others) = refl

map_map : {X : Type 0} (f g h : X → X) → ((x : X) → f (g x) ≡ h x) → (o : Option X) → option_map f (option_map g o) ≡ option_map h o
map_map f g h e None = refl
map_map f g h e (Some x) = ap Some (e x)

pub behind_more : (level number : ℕ) (tables : List PlacedTable) (i : ℕ) (x : PlacedTable) → i < length tables → x ≡ get_or tables i x → is_at level number x ≡ false
    → IsBehind level number tables i → IsBehind level number tables (i + 1)
behind_more level number tables i x lt e other h =
    let rest = drop (i + 1) tables in
    let o = without level number rest in
    h ∙ ap (λ t. option_map (λ others. take i tables ++ others) (without level number t)) (drop_item tables i x lt e)
    ∙ ap (λ b. option_map (λ others. take i tables ++ others) (cond b (Some rest) (option_map (λ others. x ∷ others) o))) other
    ∙ map_map (λ others. take i tables ++ others) (λ others. x ∷ others) (λ others. take (i + 1) tables ++ others) (take_item tables i x lt e) o

pub behind_found : (level number : ℕ) (tables : List PlacedTable) (i : ℕ) (x : PlacedTable) → i < length tables → x ≡ get_or tables i x → is_at level number x ≡ true
    → IsBehind level number tables i → without level number tables ≡ Some (remove tables i)
behind_found level number tables i x lt e found h =
    let rest = drop (i + 1) tables in
    let o = without level number rest in
    h ∙ ap (λ t. option_map (λ others. take i tables ++ others) (without level number t)) (drop_item tables i x lt e)
    ∙ ap (λ b. option_map (λ others. take i tables ++ others) (cond b (Some rest) (option_map (λ others. x ∷ others) o))) found
    ∙ ap (λ n. Some (take i tables ++ drop n tables)) (add-one i)
