-- Tables that are written.
use Rattle.std.proofs.Common.{◌<◌, ◌≡◌, ◌⊎◌, ◌≤◌, ℕ, Option, Some, None, IsSome, List, [], ◌∷◌, ◌++◌, inl, inr, refl, sym, ap, subst, ◌∙◌, arith}
use Rattle.std.specs.FinMap.{get}
use Rattle.std.specs.List.{flat_map}
use Rattle.std.specs.declared.cmp.Ordering.{Ordering}
use Rattle.coding.specs.declared.error.DbError.{DbError}
use Rattle.coding.specs.declared.error.DbError.TheVariants.{OutOfMemory, Io, Unsupported}
use Rattle.block.specs.Written.{last_key, last_key_from}
use Rattle.edits.specs.declared.field.TableFile.{TableFile}
use Rattle.ikey.specs.Entries.{Pair}
use Rattle.ikey.specs.Keys.{Key, IsKey}
use Rattle.store.specs.Files.{Facts}
use Rattle.store.proofs.Stopping.{others_both, others_more}
use Rattle.table.specs.Building.{Building, Builds, MayFollow, last_added}
use Rattle.table.specs.Reading.{HasFile}
use Rattle.table.specs.Writing.{Writes, WriteRefuses}
use Rattle.compact.specs.Outputs.{first_key, Filling, IsFilling, HasWritten, MayBeAdded, RefusesEntry}

-- ---- keys at the ends

last-push : (previous : Option (List ℕ)) (pairs : List Pair) (pair : Pair) → last_key_from previous (pairs ++ pair ∷ []) ≡ Some pair.key
last-push previous [] pair = refl
last-push previous (first ∷ pairs) pair = last-push (Some first.key) pairs pair

last-none : (key : List ℕ) (pairs : List Pair) → last_key_from (Some key) pairs ≡ None → ⊥
last-none key [] e = cc
last-none key (first ∷ pairs) e = last-none first.key pairs e

pub no-last : (pairs : List Pair) → last_key pairs ≡ None → pairs ≡ []
no-last [] e = refl
no-last (first ∷ pairs) e = absurd (last-none first.key pairs e)

first-push : (pairs : List Pair) (pair : Pair) (smallest : List ℕ) → (pairs ≡ [] → pair.key ≡ smallest) → (pairs ≡ []) ⊎ (first_key pairs ≡ Some smallest) → first_key (pairs ++ pair ∷ []) ≡ Some smallest
first-push [] pair smallest none h = ap (λ k. Some k) (none refl)
first-push (first ∷ pairs) pair smallest none (inl e) = cc
first-push (first ∷ pairs) pair smallest none (inr e) = e

-- ---- one pair more

pub filling-more : (cmp : List ℕ → List ℕ → Ordering) (old new : Filling) (a b : Facts) (pairs : List Pair) (pair : Pair)
    → new.smallest ≡ old.smallest → new.largest ≡ pair.key → (pairs ≡ [] → pair.key ≡ old.smallest)
    → (Builds cmp old.building a pairs → Builds cmp new.building b (pairs ++ pair ∷ []))
    → IsFilling cmp old a pairs → IsFilling cmp new b (pairs ++ pair ∷ [])
filling-more cmp old new a b pairs pair smallest largest none builds h = record {
  builds = builds h.builds;
  smallest = inr (first-push pairs pair old.smallest none h.smallest ∙ ap (λ k. Some k) (sym smallest));
  largest = inr (last-push None pairs pair ∙ ap (λ k. Some k) (sym largest));
}

-- ---- ended

pub either-end : (pairs : List Pair) (key : Option (List ℕ)) → (pairs ≡ [] → ⊥) → (pairs ≡ []) ⊎ (first_key pairs ≡ key) → first_key pairs ≡ key
either-end pairs key some (inl e) = absurd (some e)
either-end pairs key some (inr e) = e

pub either-last : (pairs : List Pair) (key : Option (List ℕ)) → (pairs ≡ [] → ⊥) → (pairs ≡ []) ⊎ (last_key pairs ≡ key) → last_key pairs ≡ key
either-last pairs key some (inl e) = absurd (some e)
either-last pairs key some (inr e) = e

no-some : (o : Option (List ℕ)) → IsSome o → o ≡ None → ⊥
no-some None some e = cc
no-some (Some k) some e = cc

pub some-pairs : (cmp : List ℕ → List ℕ → Ordering) (b : Building) (facts : Facts) (pairs : List Pair) → IsSome (last_added b) → Builds cmp b facts pairs → pairs ≡ [] → ⊥
some-pairs cmp b facts pairs some builds none = no-some (last_added b) some (sym builds.2.last ∙ ap last_key none)

pub no-pairs : (cmp : List ℕ → List ℕ → Ordering) (b : Building) (facts : Facts) (pairs : List Pair) → last_added b ≡ None → Builds cmp b facts pairs → pairs ≡ []
no-pairs cmp b facts pairs none builds = no-last pairs (builds.2.last ∙ none)

-- ---- the store

pub then-syncs : (a b d : Facts) (name same : List ℕ) → same ≡ name → Writes a b name → Writes b d same → Writes a d name
then-syncs a b d name same is w v = record {
  faithful = λ t. w.faithful (v.faithful t);
  failures = omega (arith, w.failures, v.failures);
  writes = omega (arith, w.writes, v.writes);
  denials = v.denials ∙ w.denials;
  locked = v.locked ∙ w.locked;
  others = λ t other apart. v.others t other (λ e. apart (e ∙ is)) ∙ w.others (v.faithful t) other apart;
  synced = λ t other apart. v.synced t other (λ e. apart (e ∙ is)) ∙ w.synced (v.faithful t) other apart;
  calls = λ t. others_both a b d (λ (other : List ℕ). other ≡ name) (w.calls (v.faithful t))
      (others_more b d (λ (other : List ℕ). other ≡ same) (λ (other : List ℕ). other ≡ name) (λ other e. e ∙ is) (v.calls t));
}

pub refuses-writing : (e : DbError) (a b : Facts) (falls too_long spent : Type 0) → WriteRefuses e a b too_long → RefusesEntry e a b falls too_long spent
refuses-writing OutOfMemory a b falls too_long spent h = h
refuses-writing Io a b falls too_long spent h = h
refuses-writing (Unsupported what) a b falls too_long spent h = h
refuses-writing _ a b falls too_long spent h = absurd h

pub refuses-syncing : (e : DbError) (a b d : Facts) (falls too_long spent : Type 0) → a.failures ≤ b.failures → (e ≡ Io) × (b.failures < d.failures) → RefusesEntry e a d falls too_long spent
refuses-syncing e a b d falls too_long spent le (is, less) = subst (λ (x : DbError). RefusesEntry x a d falls too_long spent) (sym is) (omega (arith, le, less))

pub has-after : (b d : Facts) (built name file : List ℕ) → built ≡ name → d.files ≡ b.files → HasFile b built file → HasFile d name file
has-after b d built name file is same h =
    ap (λ files. get files name) same ∙ subst (λ (n : List ℕ). get b.files n ≡ Some file) is h

-- ---- what may be added

pub last-behind : (previous : Option (List ℕ)) (front rest : List Pair) → (rest ≡ [] → ⊥) → last_key_from previous (front ++ rest) ≡ last_key rest
last-behind previous [] [] some = absurd (some refl)
last-behind previous [] (pair ∷ rest) some = refl
last-behind previous (pair ∷ front) rest some = last-behind (Some pair.key) front rest some

pub may-follow : (cmp : List ℕ → List ℕ → Ordering) (cs : List TableFile) (t : Filling) (facts : Facts) (next : ℕ) (pairs : List Pair) (key : List ℕ)
    → HasWritten cmp (record { closed = cs; at_hand = Some t }) facts next pairs → MayBeAdded cmp pairs key → MayFollow cmp t.building key
may-follow cmp cs t facts next pairs key h may = record {
  parts = may.0;
  parts_are = may.1;
  rises = λ last is. may.2 last (ap last_key h.all ∙ last-behind None (flat_map (λ (table : List Pair). table) h.tables) h.rest h.rest_is.1 ∙ h.rest_is.0.builds.2.last ∙ is);
}

pub may-begin : (cmp : List ℕ → List ℕ → Ordering) (b : Building) (facts : Facts) (key : List ℕ) (parts : Key) → Builds cmp b facts [] → IsKey key parts → MayFollow cmp b key
may-begin cmp b facts key parts builds is = record {
  parts = parts;
  parts_are = is;
  rises = λ last e. (let t : None ≡ Some last = builds.2.last ∙ e in absurd cc);
}
