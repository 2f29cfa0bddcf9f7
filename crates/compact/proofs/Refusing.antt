-- That nothing is refused where the inputs are as they should be.
use Rattle.std.proofs.Common.{◌≡◌, ◌⊎◌, ◌<◌, ℕ, Bool, false, nat_lt, List, [], ◌∷◌, ◌++◌, map, length, inl, inr, refl, sym, ap, subst, ◌∙◌, arith}
use Rattle.std.specs.Cmp.{IsTotalOrder, tied_itself}
use Rattle.std.specs.FinMap.{IsAntisymmetric}
use Rattle.std.specs.declared.cmp.Ordering.TheVariants.{Less, Equal, Greater}
use mathlib.Core.Bool.{true≢false}
use Rattle.std.proofs.lemmas.Bool.{cases_lt, lt-ltb}
use Rattle.std.proofs.lemmas.List.{append_assoc, map-append, length-append}
use Rattle.coding.specs.Fixed.{fixed64}
use Rattle.cursor.specs.Places.{Cmp, Rises}
use Rattle.cursor.proofs.Befores.{before_cases}
use Rattle.ikey.specs.Below.{same_key}
use Rattle.ikey.specs.declared.entry.Entry.{Entry}
use Rattle.ikey.specs.declared.internal_key.Kind.{Kind}
use Rattle.ikey.specs.declared.internal_key.Kind.TheVariants.{Delete, Put}
use Rattle.ikey.specs.Entries.{InternalEntry, entry_of}
use Rattle.ikey.specs.Keys.{Key, IsKey, tag, tag_of}
use Rattle.ikey.specs.Views.{Among}
use Rattle.compact.specs.declared.selection.Choice.{Choice}
use Rattle.compact.specs.declared.selection.Choice.TheVariants.{Write}
use Rattle.compact.specs.Choosing.{Choosing, Chooses, written_for}
use Rattle.compact.specs.Merging.{HaveOwnSequences, kept_delete}
use Rattle.compact.specs.Needed.{IsNeeded}
use Rattle.compact.proofs.Loads.{rewritten, same-rewritten}
use Rattle.compact.proofs.Merges.{chosen-is}
use Rattle.compact.proofs.Rising.{rises-at, rises-front, part-rises}

among-front : (front back : List InternalEntry) (x : InternalEntry) → Among front x → Among (front ++ back) x
among-front [] back x m = absurd m
among-front (first ∷ front) back x (inl e) = inl e
among-front (first ∷ front) back x (inr m) = inr (among-front front back x m)

among-at : (front back : List InternalEntry) (x : InternalEntry) → Among (front ++ x ∷ back) x
among-at [] back x = inl refl
among-at (first ∷ front) back x = inr (among-at front back x)

older : (m n : ℕ) (k l : Kind) → tag n l < tag m k → (m ≡ n → k ≡ l) → n < m
older m n Delete Delete h same = omega (arith, h)
older m n Put Put h same = omega (arith, h)
older m n Delete Put h same = omega (arith, h)
older m n Put Delete h same = elim (cases_lt n m) [
  | inl less ↦ less
  | inr more ↦ (let e : m ≡ n = omega (arith, h, more) in let t : Put ≡ Delete = same e in absurd cc)
]

-- the key comes after the other in user key or sequence number
abbrev pub IsBehind : Cmp → Key → Key → Type 0
IsBehind cmp last next = (cmp last.user next.user ≡ Less) ⊎ ((last.user ≡ next.user) × (next.sequence < last.sequence))

came-before : (cmp : Cmp) → IsTotalOrder cmp → IsAntisymmetric cmp → (came rest : List InternalEntry) (entry : InternalEntry) → Rises cmp (came ++ entry ∷ rest) → HaveOwnSequences (came ++ entry ∷ rest)
    → (x : InternalEntry) → Among came x → IsBehind cmp x.key entry.key
came-before cmp total exact came rest entry rises own x m = elim (before_cases cmp total exact x.key entry.key (rises-at cmp came rest entry rises x m)) [
  | inl less ↦ inl less
  | inr h ↦ inr (h.0, older x.key.sequence entry.key.sequence x.key.kind entry.key.kind h.1 (λ e. own x entry (among-front came (entry ∷ rest) x m) (among-at came rest entry) h.0 e))
]

no-key : (k : Key) → IsKey [] k → ⊥
no-key k h = let e = ap length h.parts in let l = length-append k.user (fixed64 (tag_of k)) in let f : length (fixed64 (tag_of k)) ≡ 8 = refl in omega (arith, e, l, f)

pub never-behind : (cmp : Cmp) → IsTotalOrder cmp → IsAntisymmetric cmp → (last : List ℕ) (came rest : List InternalEntry) (entry : InternalEntry) → Rises cmp (came ++ entry ∷ rest) → HaveOwnSequences (came ++ entry ∷ rest)
    → ((came ≡ []) × (last ≡ [])) ⊎ ((x : InternalEntry) × Among came x × IsKey last x.key)
    → ((last_key : Key) × IsKey last last_key × (IsBehind cmp last_key entry.key → ⊥)) → ⊥
never-behind cmp total exact last came rest entry rises own (inl (none, empty)) (last_key, is, refused) = no-key last_key (subst (λ (bytes : List ℕ). IsKey bytes last_key) empty is)
never-behind cmp total exact last came rest entry rises own (inr (x, m, is_x)) (last_key, is, refused) =
    refused (subst (λ (k : Key). IsBehind cmp k entry.key) (same_key last x.key last_key is_x is) (came-before cmp total exact came rest entry rises own x m))

pub writes-rise : (cmp : Cmp) (deep : List ℕ → Bool) (e : Choosing) (user : List ℕ) (released : List ℕ) (choice : Choice) (came rest kept : List InternalEntry) (entry : InternalEntry)
    → choice ≡ Write → entry.key.user ≡ user → released ≡ e.released → Rises cmp (came ++ entry ∷ rest)
    → Chooses cmp deep e (map entry_of came ++ entry_of entry ∷ []) (map entry_of kept ++ written_for choice e.released (entry_of entry))
    → Rises cmp (kept ++ (map (kept_delete user) released ++ rewritten entry ∷ []))
writes-rise cmp deep e user released choice came rest kept entry is same said rises chooses =
    let more = map (kept_delete user) released ++ rewritten entry ∷ [] in
    let all : map entry_of came ++ entry_of entry ∷ [] ≡ map entry_of (came ++ entry ∷ []) = sym (map-append entry_of came (entry ∷ [])) in
    let out : map entry_of kept ++ written_for choice e.released (entry_of entry) ≡ map entry_of (kept ++ more) =
    ap (λ l. map entry_of kept ++ written_for choice l (entry_of entry)) (sym said) ∙ ap (λ x. map entry_of kept ++ written_for choice released x) (sym (same-rewritten entry)) ∙ ap (λ l. map entry_of kept ++ l) (sym (chosen-is choice is user released (rewritten entry) same)) ∙ sym (map-append entry_of kept more) in
    let moved = subst (λ (xs : List Entry). Chooses cmp deep e xs (map entry_of (kept ++ more))) all (subst (Chooses cmp deep e (map entry_of came ++ entry_of entry ∷ [])) out chooses) in
    part-rises cmp (IsNeeded (map entry_of (came ++ entry ∷ [])) e.snapshots deep) (came ++ entry ∷ []) (kept ++ more) moved.chosen_is.needed
    (rises-front cmp (came ++ entry ∷ []) rest (subst (Rises cmp) (sym (append_assoc came (entry ∷ []) rest)) rises))

-- ---- what a comparison tells

pub equal-refuses : (cmp : Cmp) (more : List ℕ) (k l next_key : Key) → IsKey more l → IsKey more next_key → cmp k.user l.user ≡ Equal → nat_lt l.sequence k.sequence ≡ false → IsBehind cmp k next_key → ⊥
equal-refuses cmp more k l next_key h j equal older (inl less) =
    let t : Equal ≡ Less = sym equal ∙ subst (λ (x : Key). cmp k.user x.user ≡ Less) (same_key more next_key l j h) less in cc
equal-refuses cmp more k l next_key h j equal older (inr (same, lt)) =
    true≢false (sym (lt-ltb l.sequence k.sequence (subst (λ (x : Key). x.sequence < k.sequence) (same_key more next_key l j h) lt)) ∙ older)

pub greater-refuses : (cmp : Cmp) → IsTotalOrder cmp → (more : List ℕ) (k l next_key : Key) → IsKey more l → IsKey more next_key → cmp k.user l.user ≡ Greater → IsBehind cmp k next_key → ⊥
greater-refuses cmp o more k l next_key h j greater (inl less) =
    let t : Greater ≡ Less = sym greater ∙ subst (λ (x : Key). cmp k.user x.user ≡ Less) (same_key more next_key l j h) less in cc
greater-refuses cmp o more k l next_key h j greater (inr (same, lt)) =
    let e : k.user ≡ l.user = subst (λ (x : Key). k.user ≡ x.user) (same_key more next_key l j h) same in
    let t : Equal ≡ Greater = sym (tied_itself o k.user) ∙ ap (cmp k.user) e ∙ greater in cc
