-- What ending the table at hand leaves of the tables of a job.
use Rattle.std.proofs.Common.{◌≡◌, ◌⊎◌, ℕ, zero, suc, Option, Some, None, MatchOption, List, [], ◌∷◌, ◌++◌, Any, inl, inr, refl, sym, ap, subst, ◌∙◌, arith}
use Rattle.std.specs.Option.{option_to_list}
use Rattle.std.specs.declared.cmp.Ordering.{Ordering}
use Rattle.edits.specs.declared.field.TableFile.{TableFile}
use Rattle.ikey.specs.Entries.{Pair}
use Rattle.store.specs.Files.{Facts}
use Rattle.compact.specs.Outputs.{AreClosed, ClosesTable, Filling, HasWritten, IsFilling, IsOutputKept, IsOwn, TablesWritten}

-- ---- whose number it is

abbrev HasNumber : ℕ → List TableFile → Type 0
HasNumber number tables = Any (λ (table : TableFile). table.number ≡ number) tables

number_front : (cs more : List TableFile) (number : ℕ) → HasNumber number cs → HasNumber number (cs ++ more)
number_front [] more number (k, x, lt, is, e) = absurd (omega (arith, lt))
number_front (first ∷ cs) more number (zero, x, lt, is, e) = (zero, x, omega arith, is, e)
number_front (first ∷ cs) more number (suc k, x, lt, is, e) =
    let rest = number_front cs more number (k, x, omega (arith, lt), is, e) in
    (suc rest.0, rest.1, omega (arith, rest.2), rest.3, rest.4)

number_last : (cs : List TableFile) (table : TableFile) (number : ℕ) → table.number ≡ number → HasNumber number (cs ++ table ∷ [])
number_last [] table number same = (zero, table, omega arith, refl, same)
number_last (first ∷ cs) table number same =
    let rest = number_last cs table number same in
    (suc rest.0, rest.1, omega (arith, rest.2), rest.3, rest.4)

-- the table at hand has pairs: it is one of those that were ended
pub owns_closed : (cmp : List ℕ → List ℕ → Ordering) (cs : List TableFile) (t : Filling) (a b : Facts) (next : ℕ) (pairs : List Pair) (out : Option TableFile)
    → ((rest : List Pair) → IsFilling cmp t a rest → ClosesTable cmp b t.number rest out) → HasWritten cmp (record { closed = cs; at_hand = Some t }) a next pairs
    → (number : ℕ) → IsOwn (record { closed = cs; at_hand = Some t }) number → IsOwn (record { closed = cs ++ option_to_list out; at_hand = None }) number
owns_closed cmp cs t a b next pairs None closes h number own = absurd (h.rest_is.1 (closes h.rest h.rest_is.0))
owns_closed cmp cs t a b next pairs (Some table) closes h number (inl at) = inr (number_last cs table number ((closes h.rest h.rest_is.0).0 ∙ sym at))
owns_closed cmp cs t a b next pairs (Some table) closes h number (inr before) = inr (number_front cs (table ∷ []) number before)

-- ---- what is kept of them

kept_each : (cmp : List ℕ → List ℕ → Ordering) (facts : Facts) (cs : List TableFile) (ts : List (List Pair)) (number : ℕ) → AreClosed cmp facts cs ts → HasNumber number cs → IsOutputKept facts number
kept_each cmp facts [] ts number h (k, x, lt, is, e) = absurd (omega (arith, lt))
kept_each cmp facts (table ∷ cs) [] number h own = absurd h
kept_each cmp facts (table ∷ cs) (pairs ∷ ts) number h (zero, x, lt, is, e) =
    subst (IsOutputKept facts) (ap (λ (other : TableFile). other.number) is ∙ e) (h.0.file, h.0.has, h.0.synced, h.0.stays)
kept_each cmp facts (table ∷ cs) (pairs ∷ ts) number h (suc k, x, lt, is, e) = kept_each cmp facts cs ts number h.1 (k, x, omega (arith, lt), is, e)

pub kept_closed : (cmp : List ℕ → List ℕ → Ordering) (w : TablesWritten) (facts : Facts) (next : ℕ) (pairs : List Pair) → w.at_hand ≡ None → HasWritten cmp w facts next pairs
    → (number : ℕ) → IsOwn w number → IsOutputKept facts number
kept_closed cmp w facts next pairs none h number (inl at) = absurd (subst (λ (o : Option Filling). MatchOption o ⊥ (λ (t : Filling). number ≡ t.number)) none at)
kept_closed cmp w facts next pairs none h number (inr closed) = kept_each cmp facts w.closed h.tables number h.closed_are closed

-- ---- how it ended

pub ends_either : (out : Option TableFile) (idles ends : Type 0) → MatchOption out idles (λ (table : TableFile). ends) → ends ⊎ idles
ends_either None idles ends h = inr h
ends_either (Some table) idles ends h = inl h
