-- Which logs may not be durable whole after an open.
use Rattle.std.proofs.Common.{◌≡◌, ◌≢◌, ◌⊎◌, ◌<◌, ◌≤◌, ◌+◌, ◌++◌, ℕ, zero, suc, true, false, is_some, IsSome, List, [], ◌∷◌, map, Option, Some, None, string_bytes, inl, inr, refl, sym, ap, subst, ◌∙◌, arith}
use Rattle.std.specs.FinMap.{get, contains_key}
use Rattle.std.specs.Option.{option_or}
use Rattle.std.specs.List.{AllByRecursion}
use Rattle.store.specs.Files.{Facts, Files}
use Rattle.ikey.specs.Orders.{Order}
use Rattle.edits.specs.Names.{name_of, IsNumbered}
use Rattle.edits.specs.declared.names.FileName.TheVariants.{Log, Table, OldTable}
use Rattle.recover.specs.Logs.{HasLogs, InLogs, IsLive, LogContent}
use Rattle.recover.specs.Report.{log_summary}
use Rattle.recover.specs.Tables.{table_at}
use Rattle.opening.specs.Losses.{AreInDoubt, IsLogBelow, IsLogRead, IsNoneOf}
use Rattle.opening.specs.declared.directory.CurrentLog.{CurrentLog}
use Rattle.opening.specs.declared.directory.DirectoryState.{DirectoryState}
use Rattle.opening.specs.declared.finding.Found.{Found}
use Rattle.opening.specs.internal.Begun.{IsFront, names_of_log, names_of_logs}
use Rattle.opening.specs.internal.Durable.{SparesBeside, SparesTables}
use Rattle.opening.specs.internal.Opening.{Finds, FindsDirectory, FindsNone, IsUsable, KeepsLogs}
use Rattle.opening.proofs.Reopening.{numbered_of, next_of}
use Rattle.opening.proofs.Syncing.{spares_log}

-- ---- names

none_first : (q : List ℕ) (xs ys : List (List ℕ)) → IsNoneOf q (xs ++ ys) → IsNoneOf q xs
none_first q [] ys h = tt
none_first q (x ∷ xs) ys h = (h.0, none_first q xs ys h.1)

none_second : (q : List ℕ) (xs ys : List (List ℕ)) → IsNoneOf q (xs ++ ys) → IsNoneOf q ys
none_second q [] ys h = h
none_second q (x ∷ xs) ys h = none_second q xs ys h.1

its_name : (n : ℕ) → 0 < n → IsNoneOf (name_of (Log n)) (names_of_log n) → ⊥
its_name zero some none = absurd (omega (arith, some))
its_name (suc n) some none = none.0 refl

-- the name of each log is among them
in_names : (n : ℕ) (contents : List LogContent) → 0 < n → InLogs contents n → IsNoneOf (name_of (Log n)) (names_of_logs (map log_summary contents)) → ⊥
in_names n [] some i none = absurd i
in_names n (content ∷ contents) some (inl is) none =
    its_name n some (subst (λ (k : ℕ). IsNoneOf (name_of (Log n)) (names_of_log k)) (sym is) (none_first (name_of (Log n)) (names_of_log content.number) (names_of_logs (map log_summary contents)) none))
in_names n (content ∷ contents) some (inr i) none =
    in_names n contents some i (none_second (name_of (Log n)) (names_of_log content.number) (names_of_logs (map log_summary contents)) none)

all_append : (bound : ℕ) (xs ys : List (List ℕ)) → AllByRecursion (IsLogBelow bound) xs → AllByRecursion (IsLogBelow bound) ys → AllByRecursion (IsLogBelow bound) (xs ++ ys)
all_append bound [] ys h k = k
all_append bound (x ∷ xs) ys h k = (h.0, all_append bound xs ys h.1 k)

log_name : (bound n : ℕ) → IsNumbered n → n < bound → AllByRecursion (IsLogBelow bound) (names_of_log n)
log_name bound zero numbered below = tt
log_name bound (suc n) numbered below = ((suc n, numbered, below, refl), tt)

log_names : (files : Files) (bound : ℕ) (contents : List LogContent) → ((n : ℕ) → IsNumbered n → contains_key files (name_of (Log n)) ≡ true → n < bound) → HasLogs files contents → AllByRecursion (IsLogBelow bound) (names_of_logs (map log_summary contents))
log_names files bound [] below h = tt
log_names files bound (content ∷ contents) below h = all_append bound (names_of_log content.number) (names_of_logs (map log_summary contents))
    (log_name bound content.number h.0.numbered (below content.number h.0.numbered (ap is_some h.0.there))) (log_names files bound contents below h.1)

no_file : (o : Option (List ℕ)) → (is_some o ≡ true → ⊥) → o ≡ None
no_file None h = refl
no_file (Some x) h = absurd (h refl)

-- ---- what was found

module _ (order : Order) (old new : Facts) (found : Found) (u : IsUsable order found) (h : Finds order old.files found) (front : List (List ℕ)) (is : IsFront found front) (spares : SparesBeside found.number old new) where
  front_named : FindsNone old.files found ⊎ FindsDirectory order old.files found → (found.entries.items ≡ []) ⊎ (found.entries.items ≢ []) → AllByRecursion (IsLogBelow (found.number + 1)) front
  front_named what (inl none) = subst (AllByRecursion (IsLogBelow (found.number + 1))) (sym (is.none none)) tt
  front_named (inl what) (inr some) = absurd (some what.2)
  front_named (inr what) (inr some) =
      let logs : found.logs.items ≡ map log_summary what.read.contents = what.logs ∙ what.read.logs in
      subst (AllByRecursion (IsLogBelow (found.number + 1))) (sym (is.all some ∙ ap names_of_logs logs)) (log_names old.files (found.number + 1) what.read.contents (λ n num there. (let below : n < found.number = h.number.0.listed (Log n) num there in omega (arith, below))) what.read.live.logs)

  -- it was there before
  there_before : (n : ℕ) → IsNumbered n → n ≢ found.number + 1 → contains_key new.files (name_of (Log n)) ≡ true → contains_key old.files (name_of (Log n)) ≡ true
  there_before n num other there = ap is_some (sym (spares_log found.number old new n (numbered_of found u) (next_of found u) spares num other).0) ∙ there

  -- all logs but the new one have numbers below that which the open drew
  pub logs_found : (last : ℕ) → last ≡ found.number + 1 → (n : ℕ) → IsNumbered n → n ≢ last → contains_key new.files (name_of (Log n)) ≡ true → n < found.number
  logs_found last is n num apart there = h.number.0.listed (Log n) num (there_before n num (λ same. apart (same ∙ sym is)) there)

  in_front : FindsNone old.files found ⊎ FindsDirectory order old.files found → found.entries.items ≢ [] → (n : ℕ) → IsNumbered n → IsLive found.layout n → contains_key old.files (name_of (Log n)) ≡ true → IsNoneOf (name_of (Log n)) front → ⊥
  in_front (inl what) some n num live there none = some what.2
  in_front (inr what) some n num live there none =
      let logs : found.logs.items ≡ map log_summary what.read.contents = what.logs ∙ what.read.logs in
      let live_there : IsLive what.recovered.layout n = subst (λ (l : _). IsLive l n) what.layout live in
      in_names n what.read.contents num.0 (what.read.live.all n num live_there there) (subst (IsNoneOf (name_of (Log n))) (is.all some ∙ ap names_of_logs logs) none)

  module _ (log : CurrentLog) (state : DirectoryState) (number : log.number ≡ found.number + 1) (named : string_bytes log.name ≡ name_of (Log (found.number + 1))) (behind : map string_bytes log.front.items ≡ front) (keeps : KeepsLogs found state.first_log state.previous_log) where
    other_number : (n : ℕ) → name_of (Log n) ≢ string_bytes log.name → n ≢ found.number + 1
    other_number n apart same = apart (ap (λ (k : ℕ). name_of (Log k)) same ∙ sym named)

    read_before : KeepsLogs found state.first_log state.previous_log → (n : ℕ) → IsNumbered n → IsLogRead state n → n ≢ found.number + 1 → IsNoneOf (name_of (Log n)) front → contains_key old.files (name_of (Log n)) ≡ true → ⊥
    read_before (inl some) n num (inl least) other none there = in_front h.what some.0 n num (inl (subst (λ (k : ℕ). k ≤ n) some.1 least)) there none
    read_before (inl some) n num (inr before) other none there = in_front h.what some.0 n num (inr (before.0 ∙ some.2, before.1)) there none
    read_before (inr gone) n num (inl least) other none there =
        let below : n < found.number = h.number.0.listed (Log n) num there in
        let first : state.first_log ≡ found.number + 1 = gone.1 in
        omega (arith, below, least, first)
    read_before (inr gone) n num (inr before) other none there =
        let no : n ≡ 0 = before.0 ∙ gone.2 in
        let some : 0 < n = before.1 in
        omega (arith, no, some)

    pub in_doubt : (found.entries.items ≡ []) ⊎ (found.entries.items ≢ []) → AreInDoubt new.files log state
    in_doubt decided = record {
      front = subst (λ (n : ℕ). AllByRecursion (IsLogBelow n) (map string_bytes log.front.items)) (sym number) (subst (AllByRecursion (IsLogBelow (found.number + 1))) (sym behind) (front_named h.what decided));
      all = λ n num read none. no_file (get new.files (name_of (Log n))) (λ there.
          let other = other_number n none.0 in
          read_before keeps n num read other (subst (IsNoneOf (name_of (Log n))) behind none.1) (there_before n num other there));
    }

-- ---- tables

is_there : (o : Option (List ℕ)) → IsSome o → is_some o ≡ true
is_there None some = absurd (let bad : false ≡ true = some in cc)
is_there (Some file) some = refl

either_there : (a b : Option (List ℕ)) → IsSome (option_or a b) → (is_some a ≡ true) ⊎ (is_some b ≡ true)
either_there None b some = inr (is_there b some)
either_there (Some file) b some = inl refl

-- those that are there were there, and have numbers below that which the open drew
pub tables_found : (order : Order) (old new : Facts) (found : Found) → Finds order old.files found → SparesTables old new → (n : ℕ) → IsNumbered n → IsSome (table_at new.files n) → n < found.number
tables_found order old new found h spares n num there = elim (either_there (get new.files (name_of (Table n))) (get new.files (name_of (OldTable n))) there) [
  | inl newer ↦ h.number.0.listed (Table n) num (ap is_some (sym (spares n num).0.0) ∙ newer)
  | inr older ↦ h.number.0.listed (OldTable n) num (ap is_some (sym (spares n num).1.0) ∙ older)
]

pub entries_or_none : {A : Type 0} (xs : List A) → (xs ≡ []) ⊎ (xs ≢ [])
entries_or_none [] = inl refl
entries_or_none (x ∷ xs) = inr (λ e. cc)
