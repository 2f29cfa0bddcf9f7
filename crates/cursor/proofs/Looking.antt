-- What a search does at one entry, by the internal key that its bytes are.
use Rattle.std.proofs.Common.{◌≡◌, ◌⊎◌, ◌<◌, ◌≤◌, ℕ, Bool, true, false, List, refl, subst, inl, inr}
use Rattle.ikey.specs.declared.internal_key.Kind.TheVariants.{Delete, Put}
use Rattle.ikey.specs.Below.{same_key}
use Rattle.ikey.specs.Keys.{Key, IsKey}
use Rattle.cursor.specs.Searches.{Hidden, LooksOn, LooksBack}

by_key : (P : Key → Type 0) (bytes : List ℕ) (k : Key) → IsKey bytes k → P k → (key : Key) → IsKey bytes key → P key
by_key P bytes k is h key here = subst P (same_key bytes k key is here) h

module _ (bytes : List ℕ) (k : Key) (is : IsKey bytes k) (sequence : ℕ) where
  -- ---- forth

  pub looks_new : (hides : Bool) (hidden : List ℕ) → sequence < k.sequence → (key : Key) → IsKey bytes key → LooksOn key sequence hides hidden hides hidden false
  looks_new hides hidden new = by_key (λ (key : Key). LooksOn key sequence hides hidden hides hidden false) bytes k is (inr (record { why = inl new; hides_is = refl; hidden_is = refl }))

  pub looks_hidden : (hides : Bool) (hidden : List ℕ) → Hidden hides hidden k.user → (key : Key) → IsKey bytes key → LooksOn key sequence hides hidden hides hidden false
  looks_hidden hides hidden h = by_key (λ (key : Key). LooksOn key sequence hides hidden hides hidden false) bytes k is (inr (record { why = inr h; hides_is = refl; hidden_is = refl }))

  pub looks_found : (hides now : Bool) (hidden found : List ℕ) → k.sequence ≤ sequence → (Hidden hides hidden k.user → ⊥) → k.kind ≡ Put → found ≡ k.user → (key : Key) → IsKey bytes key → LooksOn key sequence hides hidden now found true
  looks_found hides now hidden found seen shown put found_is = by_key (λ (key : Key). LooksOn key sequence hides hidden now found true) bytes k is (record { seen = seen; shown = shown; put = put; found_is = found_is })

  pub looks_hiding : (hides : Bool) (hidden found : List ℕ) → k.sequence ≤ sequence → (Hidden hides hidden k.user → ⊥) → k.kind ≡ Delete → found ≡ k.user → (key : Key) → IsKey bytes key → LooksOn key sequence hides hidden true found false
  looks_hiding hides hidden found seen shown delete found_is =
      by_key (λ (key : Key). LooksOn key sequence hides hidden true found false) bytes k is (inl (record { seen = seen; shown = shown; delete = delete; hides_is = refl; hidden_is = found_is }))

  -- ---- back

  module _ (here : List ℕ) (test : List ℕ → Bool) (has : Bool) (found value : List ℕ) where
    pub looks_end : has ≡ true → (k.user ≡ found → ⊥) → (key : Key) → IsKey bytes key → LooksBack key here sequence test has found value has found value true
    looks_end t other = by_key (λ (key : Key). LooksBack key here sequence test has found value has found value true) bytes k is (record { has_is = t; other = other; found_is = refl; value_is = refl })

    pub looks_skip : (has ≡ true → k.user ≡ found) → (sequence < k.sequence) ⊎ (test k.user ≡ false) → (key : Key) → IsKey bytes key → LooksBack key here sequence test has found value has found value false
    looks_skip same why = by_key (λ (key : Key). LooksBack key here sequence test has found value has found value false) bytes k is (inr (inr (record { same = same; why = why; has_is = refl; found_is = refl; value_is = refl })))

    pub looks_clear : (has ≡ true → k.user ≡ found) → k.sequence ≤ sequence → test k.user ≡ true → k.kind ≡ Delete → (found_now value_now : List ℕ) → (key : Key) → IsKey bytes key → LooksBack key here sequence test has found value false found_now value_now false
    looks_clear same seen passes delete found_now value_now =
        by_key (λ (key : Key). LooksBack key here sequence test has found value false found_now value_now false) bytes k is (inr (inl (record { same = same; seen = seen; passes = passes; delete = delete; has_is = refl })))

    pub looks_replace : (has ≡ true → k.user ≡ found) → k.sequence ≤ sequence → test k.user ≡ true → k.kind ≡ Put → (found_now value_now : List ℕ) → found_now ≡ k.user → value_now ≡ here
        → (key : Key) → IsKey bytes key → LooksBack key here sequence test has found value true found_now value_now false
    looks_replace same seen passes put found_now value_now found_is value_is =
        by_key (λ (key : Key). LooksBack key here sequence test has found value true found_now value_now false) bytes k is
        (inl (record { same = same; seen = seen; passes = passes; put = put; has_is = refl; found_is = found_is; value_is = value_is }))
