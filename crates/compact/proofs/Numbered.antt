-- What an edit can say of the tables that are written.
use Rattle.std.proofs.Common.{◌≡◌, ◌⊎◌, ◌<◌, ◌≤◌, ◌+◌, ◌^◌, ℕ, zero, suc, Option, Some, None, List, [], ◌∷◌, ◌++◌, length, inl, inr, sym, ap, subst, ◌∙◌, arith}
use Rattle.std.proofs.lemmas.List.{append-nil}
use Rattle.std.specs.Prelude.{IfSome, Any, MatchOption}
use Rattle.std.specs.List.{AllByRecursion}
use Rattle.std.specs.Option.{option_to_list}
use Rattle.edits.specs.declared.field.TableFile.{TableFile}
use Rattle.edits.specs.Edit.{IsInternal, IsTableProper}
use Rattle.compact.specs.Outputs.{Filling, TablesWritten, IsDrawnNumber, TableNumbersRise, IsNext, AreNumbered, NumbersOn, IsSaidOf, table_name}

pub numbers-same : (w : TablesWritten) (next : ℕ) → NumbersOn w next w next
numbers-same w next = record { keeps = λ h. h; owns = λ n is. inl is }

pub numbers-then : (w u v : TablesWritten) (a b e : ℕ) → a ≤ b → NumbersOn w a u b → NumbersOn u b v e → NumbersOn w a v e
numbers-then w u v a b e le first second = record {
  keeps = λ h. second.keeps (first.keeps h);
  owns = λ n is. elim (second.owns n is) [
    | inl before ↦ first.owns n before
    | inr from ↦ inr (omega (arith, le, from))
  ];
}

-- ---- lists

all-push : (P : TableFile → Type 0) (cs : List TableFile) (table : TableFile) → AllByRecursion P cs → P table → AllByRecursion P (cs ++ table ∷ [])
all-push P [] table h is = (is, tt)
all-push P (first ∷ cs) table h is = (h.0, all-push P cs table h.1 is)

all-weaker : (P Q : TableFile → Type 0) → ((table : TableFile) → P table → Q table) → (cs : List TableFile) → AllByRecursion P cs → AllByRecursion Q cs
all-weaker P Q f [] h = tt
all-weaker P Q f (table ∷ cs) h = (f table h.0, all-weaker P Q f cs h.1)

rise-push : (cs : List TableFile) (table : TableFile) → TableNumbersRise cs → AllByRecursion (λ (other : TableFile). other.number < table.number) cs → TableNumbersRise (cs ++ table ∷ [])
rise-push [] table h above = (tt, tt)
rise-push (first ∷ cs) table h above = (all-push (λ (other : TableFile). first.number < other.number) cs table h.0 above.0, rise-push cs table h.1 above.1)

any-push : (cs : List TableFile) (table : TableFile) (number : ℕ) → Any (λ (other : TableFile). other.number ≡ number) (cs ++ table ∷ []) → Any (λ (other : TableFile). other.number ≡ number) cs ⊎ (table.number ≡ number)
any-push [] table number (zero, x, lt, is, e) = inr (ap (λ (o : TableFile). o.number) is ∙ e)
any-push [] table number (suc k, x, lt, is, e) = absurd (omega (arith, lt))
any-push (first ∷ cs) table number (zero, x, lt, is, e) = inl (zero, x, omega arith, is, e)
any-push (first ∷ cs) table number (suc k, x, lt, is, e) = elim (any-push cs table number (k, x, omega (arith, lt), is, e)) [
  | inl h ↦ inl (suc h.0, h.1, omega (arith, h.2), h.3, h.4)
  | inr same ↦ inr same
]

-- ---- the table at hand is ended

-- an edit can hold the key
abbrev Fits : List ℕ → Type 0
Fits key = (length key < 2 ^ 32) × IsInternal key

pub numbers-closed : (cs : List TableFile) (t : Filling) (out : Option TableFile) (next : ℕ) → IfSome out (IsSaidOf t) → NumbersOn (record { closed = cs; at_hand = Some t }) next (record { closed = cs ++ option_to_list out; at_hand = None }) next
numbers-closed cs t None next said =
    let W : List TableFile → Type 0 = λ xs. NumbersOn (record { closed = cs; at_hand = Some t }) next (record { closed = xs; at_hand = None }) next in
    subst W (sym (append-nil cs)) (record {
      keeps = λ h. record { proper = h.proper; rise = h.rise; below = h.below; at_hand = tt };
      owns = λ n is. elim is [
        | inl none ↦ absurd none
        | inr closed ↦ inl (inr closed)
      ];
    })
numbers-closed cs t (Some table) next said = record {
  keeps = λ h. record {
    proper = all-push IsTableProper cs table h.proper (said.fits.0, said.fits.1, said.fits.2, (subst Fits (sym said.smallest) h.at_hand.smallest).0, (subst Fits (sym said.largest) h.at_hand.largest).0, (subst Fits (sym said.smallest) h.at_hand.smallest).1, (subst Fits (sym said.largest) h.at_hand.largest).1);
    rise = rise-push cs table h.rise (subst (λ (n : ℕ). AllByRecursion (λ (other : TableFile). other.number < n) cs) (sym said.number) h.at_hand.above);
    below = all-push (λ (other : TableFile). other.number < next) cs table h.below (omega (arith, said.number, h.at_hand.number.1));
    at_hand = tt;
  };
  owns = λ n is. elim is [
    | inl none ↦ absurd none
    | inr closed ↦ elim (any-push cs table n closed) [
      | inl before ↦ inl (inr before)
      | inr same ↦ inl (inl (sym same ∙ said.number))
    ]
  ];
}

-- ---- a table is begun

pub numbers-begun : (w : TablesWritten) (u : Filling) (next : ℕ) (key : List ℕ) → w.at_hand ≡ None → 0 < next → u.number ≡ next → u.building.name ≡ table_name u.number → u.smallest ≡ key → u.largest ≡ key → Fits key
    → NumbersOn w next (record { closed = w.closed; at_hand = Some u }) (next + 1)
numbers-begun w u next key none some number named smallest largest fits = record {
  keeps = λ h. record {
    proper = h.proper;
    rise = h.rise;
    below = all-weaker (λ (other : TableFile). other.number < next) (λ (other : TableFile). other.number < next + 1) (λ other lt. omega (arith, lt)) w.closed h.below;
    at_hand = record {
      number = (omega (arith, some, number), omega (arith, number));
      named = named;
      above = subst (λ (n : ℕ). AllByRecursion (λ (other : TableFile). other.number < n) w.closed) (sym number) h.below;
      smallest = subst Fits (sym smallest) fits;
      largest = subst Fits (sym largest) fits;
    };
  };
  owns = λ n is. elim is [
    | inl at ↦ inr (omega (arith, at, number))
    | inr closed ↦ inl (inr closed)
  ];
}

-- ---- or added to

pub numbers-added : (cs : List TableFile) (t u : Filling) (next : ℕ) (key : List ℕ) → u.number ≡ t.number → u.building.name ≡ table_name u.number → u.smallest ≡ t.smallest → u.largest ≡ key → Fits key
    → NumbersOn (record { closed = cs; at_hand = Some t }) next (record { closed = cs; at_hand = Some u }) next
numbers-added cs t u next key number named smallest largest fits = record {
  keeps = λ h. record {
    proper = h.proper;
    rise = h.rise;
    below = h.below;
    at_hand = record {
      number = subst (IsDrawnNumber next) (sym number) h.at_hand.number;
      named = named;
      above = subst (λ (n : ℕ). AllByRecursion (λ (other : TableFile). other.number < n) cs) (sym number) h.at_hand.above;
      smallest = subst Fits (sym smallest) h.at_hand.smallest;
      largest = subst Fits (sym largest) fits;
    };
  };
  owns = λ n is. elim is [
    | inl at ↦ inl (inl (at ∙ number))
    | inr closed ↦ inl (inr closed)
  ];
}

-- ---- others draw numbers

next-later : (closed : List TableFile) (next more : ℕ) (o : Option Filling) → next ≤ more → MatchOption o (Unit {0}) (IsNext closed next) → MatchOption o (Unit {0}) (IsNext closed more)
next-later closed next more None le h = tt
next-later closed next more (Some t) le h = record { number = (h.number.0, omega (arith, h.number.1, le)); named = h.named; above = h.above; smallest = h.smallest; largest = h.largest }

pub numbered-later : (w : TablesWritten) (next more : ℕ) → next ≤ more → AreNumbered w next → AreNumbered w more
numbered-later w next more le h = record {
  proper = h.proper;
  rise = h.rise;
  below = all-weaker (λ (other : TableFile). other.number < next) (λ (other : TableFile). other.number < more) (λ other lt. omega (arith, lt, le)) w.closed h.below;
  at_hand = next-later w.closed next more w.at_hand le h.at_hand;
}
