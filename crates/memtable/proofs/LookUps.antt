-- What a search for a user key has found.
use Rattle.std.proofs.Common.{◌≡◌, ◌-◌, ◌<◌, ◌≤◌, inl, inr, ℕ, zero, suc, Bool, true, false, Some, None, List, [], ◌∷◌, ◌++◌, sym, subst, ◌∙◌, arith}
use Rattle.std.specs.List.{AllByRecursion, slice_get}
use Rattle.std.specs.declared.cmp.Ordering.{Ordering}
use Rattle.std.specs.Prelude.{◌==◌, MatchBool}
use Rattle.std.proofs.lemmas.Bool.{eqb-true, eqb-false}
use Rattle.std.specs.Cmp.{IsTotalOrder}
use Rattle.std.specs.FinMap.{IsAntisymmetric}
use Rattle.ikey.specs.declared.entry.Entry.{Entry}
use Rattle.memtable.specs.Contents.{entry_at}
use Rattle.memtable.specs.Order.{is_before, Placed, ordered, Rises}
use Rattle.ikey.specs.Views.{Among, IsNewest, IsUnseen}
use Rattle.memtable.specs.Newest.{HasEntry, IsNew}
use Rattle.memtable.specs.Places.{IsPlace}
use Rattle.memtable.proofs.Befores.{newer-from, seen-from, before-keys}
use Rattle.memtable.proofs.Orders.{all-map, all-append, all-back, among-all, ordered-all, all-numbered, HasNumber}

get-among : (entries : List Entry) (i : ℕ) (entry : Entry) → slice_get entries i ≡ Some entry → Among entries entry
get-among [] i entry e = let no : None ≡ Some entry = e in cc
get-among (first ∷ entries) zero entry e = let same : entry ≡ first = cc in inl same
get-among (first ∷ entries) (suc i) entry e = inr (get-among entries i entry e)

module _ (cmp : List ℕ → List ℕ → Ordering) (total : IsTotalOrder cmp) (exact : IsAntisymmetric cmp) (inserts : List Entry) (key : List ℕ) (sequence : ℕ) where
  -- all entries stand before the place
  pub none-seen : AllByRecursion (λ (one : Placed). is_before cmp key sequence one.entry ≡ true) (ordered cmp inserts) → IsUnseen inserts sequence key
  none-seen h = λ e. among-all (λ (e : Entry). e.key ≡ key → sequence < e.sequence) inserts e
      (ordered-all cmp (λ (e : Entry). e.key ≡ key → sequence < e.sequence) inserts
      (all-map (λ (one : Placed). is_before cmp key sequence one.entry ≡ true) (λ (one : Placed). one.entry.key ≡ key → sequence < one.entry.sequence) (ordered cmp inserts)
      (λ one b is. newer-from cmp total exact key sequence one.entry is b) h))

  rises-behind : (front : List Placed) (one : Placed) (back : List Placed) → Rises cmp (front ++ one ∷ back)
      → AllByRecursion (λ (later : Placed). is_before cmp later.entry.key later.entry.sequence one.entry ≡ true) back
  rises-behind [] one back h = h.0
  rises-behind (first ∷ front) one back h = rises-behind front one back h.1

  module _ (front : List Placed) (node : ℕ) (entry : Entry) (back : List Placed)
      (is : ordered cmp inserts ≡ front ++ record { node = node; entry = entry } ∷ back)
      (before : AllByRecursion (λ (one : Placed). is_before cmp key sequence one.entry ≡ true) front) (behind : is_before cmp key sequence entry ≡ false)
      (rises : Rises cmp (ordered cmp inserts)) where
    whole : (P : Entry → Type 0) → AllByRecursion (λ (one : Placed). P one.entry) front → P entry → AllByRecursion (λ (one : Placed). P one.entry) back → AllByRecursion P inserts
    whole P f e b = ordered-all cmp P inserts (subst (AllByRecursion (λ (one : Placed). P one.entry)) (sym is) (all-append (λ (one : Placed). P one.entry) front (record { node = node; entry = entry } ∷ back) f (e, b)))

    later : AllByRecursion (λ (one : Placed). is_before cmp one.entry.key one.entry.sequence entry ≡ true) back
    later = rises-behind front (record { node = node; entry = entry }) back (subst (Rises cmp) is rises)

    number : HasNumber inserts (record { node = node; entry = entry })
    number = (all-back (HasNumber inserts) front (record { node = node; entry = entry } ∷ back) (subst (AllByRecursion (HasNumber inserts)) is (all-numbered cmp inserts))).0

    pub found-place : IsPlace inserts node
    found-place = (number.1, number.2)

    pub found-entry : entry_at inserts node ≡ Some entry
    found-entry = number.0

    -- the entry found has another user key
    pub other-seen : (entry.key ≡ key → ⊥) → IsUnseen inserts sequence key
    other-seen other =
        λ e. among-all (λ (e : Entry). e.key ≡ key → sequence < e.sequence) inserts e
        (whole (λ (e : Entry). e.key ≡ key → sequence < e.sequence)
        (all-map (λ (one : Placed). is_before cmp key sequence one.entry ≡ true) (λ (one : Placed). one.entry.key ≡ key → sequence < one.entry.sequence) front
        (λ one b same. newer-from cmp total exact key sequence one.entry same b) before)
        (λ same. absurd (other same))
        (all-map (λ (one : Placed). is_before cmp one.entry.key one.entry.sequence entry ≡ true) (λ (one : Placed). one.entry.key ≡ key → sequence < one.entry.sequence) back
        (λ one b same. absurd (before-keys cmp total exact key sequence entry one.entry b behind same other)) later))

    -- the entry found is the newest of its user key
    pub newest-found : entry.key ≡ key → IsNewest inserts sequence entry
    newest-found same = record {
      member = get-among inserts (node - 1) entry number.0;
      seen = seen-from cmp total exact key sequence entry same behind;
      greatest = λ e. among-all (λ (e : Entry). e.key ≡ entry.key → e.sequence ≤ sequence → e.sequence ≤ entry.sequence) inserts e
          (whole (λ (e : Entry). e.key ≡ entry.key → e.sequence ≤ sequence → e.sequence ≤ entry.sequence)
          (all-map (λ (one : Placed). is_before cmp key sequence one.entry ≡ true) (λ (one : Placed). one.entry.key ≡ entry.key → one.entry.sequence ≤ sequence → one.entry.sequence ≤ entry.sequence) front
          (λ one b k le. absurd (omega (arith, newer-from cmp total exact key sequence one.entry (k ∙ same) b, le))) before)
          (λ _ _. omega arith)
          (all-map (λ (one : Placed). is_before cmp one.entry.key one.entry.sequence entry ≡ true) (λ (one : Placed). one.entry.key ≡ entry.key → one.entry.sequence ≤ sequence → one.entry.sequence ≤ entry.sequence) back
          (λ one b k le. let newer = newer-from cmp total exact one.entry.key one.entry.sequence entry (sym k) b in omega (arith, newer)) later));
    }

-- whether an entry has a user key and a sequence number, by the newest of the key up to it
pub has-or-new : (inserts : List Entry) (key : List ℕ) (sequence : ℕ) (entry : Entry) (answer : Bool) → answer ≡ (entry.sequence == sequence) → entry.key ≡ key → IsNewest inserts sequence entry
    → MatchBool answer (HasEntry inserts key sequence) (IsNew inserts key sequence)
has-or-new inserts key sequence entry true e same newest = (entry, newest.member, same, eqb-true entry.sequence sequence (sym e))
has-or-new inserts key sequence entry false e same newest = λ other member k s.
    let le = newest.greatest other member (k ∙ sym same) (omega (arith, s)) in
    let both : entry.sequence ≡ sequence = omega (arith, le, newest.seen, s) in
    eqb-false entry.sequence sequence (sym e) both

-- no entry of the key is seen, so none has the sequence number
pub unseen-new : (inserts : List Entry) (key : List ℕ) (sequence : ℕ) → IsUnseen inserts sequence key → IsNew inserts key sequence
unseen-new inserts key sequence h = λ entry member k s. absurd (omega (arith, h entry member k, s))
