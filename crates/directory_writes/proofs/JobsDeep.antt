-- Tables below the level that a job writes cover their keys.
use Rattle.std.proofs.Common.{◌≡◌, ◌⊎◌, ◌-◌, ◌&&◌, ℕ, Bool, true, nat_lt, List, ◌++◌, length, take, inl, inr, sym, ap, ◌∙◌, arith}
use Rattle.std.proofs.lemmas.Bool.{lt-ltb}
use Rattle.std.proofs.Math.Seq.{take-append_seam}
use Rattle.std.proofs.lemmas.List.{length-append}
use Rattle.std.proofs.lemmas.List.Folds.{list_any-from_Any}
use Rattle.std.specs.Cmp.{IsTotalOrder, tied_itself}
use Rattle.std.specs.Ordering.{is_le}
use Rattle.coding.specs.Fixed.{fixed64}
use Rattle.edits.specs.declared.field.PlacedTable.{PlacedTable}
use Rattle.ikey.specs.declared.entry.Entry.{Entry}
use Rattle.ikey.specs.Entries.{internal_key_of}
use Rattle.ikey.specs.Keys.{tag_of}
use Rattle.ikey.specs.Orders.{Order}
use Rattle.ikey.specs.Sources.{ComesBefore}
use Rattle.versions.specs.Ranges.{user_of, covers}
use Rattle.recover.specs.Tables.{internal_key}
use Rattle.directory_writes.specs.internal.Compactions.{DeepLaw}

user_back : (entry : Entry) → user_of (internal_key entry) ≡ entry.key
user_back entry =
    let tag = fixed64 (tag_of (internal_key_of entry)) in
    let long : length (entry.key ++ tag) - 8 ≡ length entry.key = omega (arith, length-append entry.key tag) in
    ap (λ (n : ℕ). take n (entry.key ++ tag)) long ∙ take-append_seam entry.key tag

user_is : (entry : Entry) (bytes : List ℕ) → internal_key entry ≡ bytes → user_of bytes ≡ entry.key
user_is entry bytes e = ap user_of (sym e) ∙ user_back entry

le_itself : (order : Order) → IsTotalOrder order.cmp → (a : List ℕ) → is_le (order.cmp a a) ≡ true
le_itself order o a = ap is_le (tied_itself o a)

le_before : (order : Order) → IsTotalOrder order.cmp → (a b : Entry) → (a ≡ b) ⊎ ComesBefore order a b → is_le (order.cmp a.key b.key) ≡ true
le_before order o a b (inl same) = ap (λ (e : Entry). is_le (order.cmp a.key e.key)) (sym same) ∙ le_itself order o a.key
le_before order o a b (inr (inl less)) = ap is_le less
le_before order o a b (inr (inr newer)) = ap (λ (k : List ℕ). is_le (order.cmp a.key k)) (sym newer.0) ∙ le_itself order o a.key

turned : (order : Order) (a b : Entry) → (b ≡ a) ⊎ ComesBefore order a b → (a ≡ b) ⊎ ComesBefore order a b
turned order a b (inl same) = inl (sym same)
turned order a b (inr before) = inr before

all_true : (a b c : Bool) → a ≡ true → b ≡ true → c ≡ true → (a && (b && c)) ≡ true
all_true a b c p q r = ap (λ (x : Bool). x && (b && c)) p ∙ (ap (λ (x : Bool). x && c) q ∙ r)

pub deep : DeepLaw
deep order files content entry level tables o h i below there =
    let placed : PlacedTable = content.placed in
    let first = h.smallest.0 in
    let last = h.largest.0 in
    let low : is_le (order.cmp (user_of placed.table.smallest) entry.key) ≡ true =
    ap (λ (k : List ℕ). is_le (order.cmp k entry.key)) (user_is first placed.table.smallest h.smallest.2) ∙ le_before order o first entry (turned order first entry (h.smallest.3 entry i)) in
    let high : is_le (order.cmp entry.key (user_of placed.table.largest)) ≡ true =
    ap (λ (k : List ℕ). is_le (order.cmp entry.key k)) (user_is last placed.table.largest h.largest.2) ∙ le_before order o entry last (h.largest.3 entry i) in
    list_any-from_Any (λ (p : PlacedTable). nat_lt level p.level && covers order.cmp p entry.key) tables (
      there.0,
      placed,
      there.1,
      there.2,
      all_true (nat_lt level placed.level) (is_le (order.cmp (user_of placed.table.smallest) entry.key)) (is_le (order.cmp entry.key (user_of placed.table.largest)))
          (lt-ltb level placed.level below) low high,
    )
