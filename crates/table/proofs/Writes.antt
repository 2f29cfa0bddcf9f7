-- Handles that were written, and the results of calls.
use Rattle.std.proofs.Common.{◌≡◌, ◌≤◌, ◌++◌, ◌∷◌, [], ℕ, List, Result, Ok, Err, OnOk, length, ap, ◌∙◌, subst, sym, append_assoc}
use Rattle.coding.specs.Spelling.{Appends}
use Rattle.table.specs.declared.handle.Handle.{Handle}
use Rattle.block.specs.Written.{Added}
use Rattle.table.specs.Steps.{with_pair}
use Rattle.table.specs.Frame.{IsFooter}
use Rattle.table.specs.Stored.{IsHandle}
use Rattle.table.proofs.Footers.{short_handle}

pub written_value : (old value : List ℕ) (handle : Handle) → old ≡ [] → Appends IsHandle old value handle → IsHandle value handle
written_value old value handle none a =
    let same : value ≡ a.0 = a.2 ∙ ap (λ (v : List ℕ). v ++ a.0) none in
    subst (λ (v : List ℕ). IsHandle v handle) (sym same) a.1

pub written_short : (old value : List ℕ) (handle : Handle) → old ≡ [] → Appends IsHandle old value handle → length value ≤ 20
written_short old value handle none a = short_handle value handle (written_value old value handle none a)

pub both_ok : {T E : Type 0} (r : Result T E) (P Q R : Type 0) → (P → Q → R) → OnOk r P → OnOk r Q → OnOk r R
both_ok (Ok x) P Q R f p q = f p q
both_ok (Err e) P Q R f p q = tt

-- the builder of the metaindex with its one pair
pub named_pair : (start new : Added) (key name value bytes : List ℕ) → start ≡ record { interval = 16; pairs = [] } → new ≡ with_pair start (record { key = key; value = value }) → key ≡ name → value ≡ bytes
    → new ≡ record { interval = 16; pairs = record { key = name; value = bytes } ∷ [] }
named_pair start new key name value bytes none one k v =
    one ∙ (λ i. with_pair (none i) (record { key = k i; value = v i }))

-- four writings, one after another
pub four_put : (a b c d old one two three new : List ℕ) → one ≡ old ++ a → two ≡ one ++ b → three ≡ two ++ c → new ≡ three ++ d → new ≡ old ++ (a ++ (b ++ (c ++ d)))
four_put a b c d old one two three new p q r s =
    s ∙ ap (λ (v : List ℕ). v ++ d) (r ∙ ap (λ (v : List ℕ). v ++ c) (q ∙ ap (λ (v : List ℕ). v ++ b) p))
    ∙ append_assoc ((old ++ a) ++ b) c d ∙ append_assoc (old ++ a) b (c ++ d) ∙ append_assoc old a (b ++ (c ++ d))

-- the same footer, of handles with the same numbers
pub footer_at : (footer : List ℕ) (metaindex index other last : Handle) → IsFooter footer metaindex index → metaindex.offset ≡ other.offset → metaindex.size ≡ other.size → index.offset ≡ last.offset → index.size ≡ last.size
    → IsFooter footer other last
footer_at footer metaindex index other last is mo ms io is_size =
    let one : metaindex ≡ other = λ i. record { offset = mo i; size = ms i } in
    let two : index ≡ last = λ i. record { offset = io i; size = is_size i } in
    subst (λ (h : Handle). IsFooter footer other h) two (subst (λ (h : Handle). IsFooter footer h index) one is)
