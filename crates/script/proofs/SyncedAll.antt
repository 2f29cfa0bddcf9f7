-- What the machine has synced at the end of an import.
use Rattle.std.proofs.Common.{◌≡◌, ◌≢◌, ℕ, ◌+◌, List, [], ◌∷◌, ◌++◌, length, Bool, true, inl, inr, refl, sym, ap, ◌∙◌, subst, append-nil}
use Rattle.std.specs.Prelude.{Option, Some, None, MatchOption}
use Rattle.std.proofs.lemmas.List.{length-append}
use Rattle.std.proofs.lemmas.List.Elements.{All-head, All-tail}
use Rattle.batch.specs.declared.operation.Operation.{Operation}
use Rattle.coding.specs.declared.error.DbError.{DbError}
use Rattle.ikey.specs.Orders.{Order}
use Rattle.machine.specs.Access.{Writes, Written, accepted}
use Rattle.machine.specs.Causes.{not_serving, status_of, write_cause}
use Rattle.machine.specs.Machine.{Machine}
use Rattle.machine.specs.Serving.{◌≈◌}
use Rattle.machine.specs.Step.{Run}
use Rattle.machine.specs.Upkeep.{Works, WorkDone}
use Rattle.machine.specs.declared.command.Op.{Op}
use Rattle.machine.specs.declared.command.Answer.{Answer}
use Rattle.machine.specs.declared.command.Answer.TheVariants.{Done, Worked, Idle, Refused}
use Rattle.store.specs.Files.{Facts}
use Rattle.machine.specs.declared.command.Mode.TheVariants.{Any}
use Rattle.machine.specs.declared.command.Op.TheVariants.{Open, Write, Work}
use Rattle.engine.specs.Follows.{Follows}
use Rattle.engine.specs.declared.session.Session.{Session}
use Rattle.script.specs.Commands.{GoesOn, IsRefusal, AreGiven, AreWell}
use Rattle.script.specs.Importing.{AllSynced, AreBatches, ImportValues, IsPlan, all_written, written_by}
use Rattle.script.proofs.Batched.{done_is_none}

-- ---- of one command

-- every batch is synced
abbrev pub HasAll : Machine → Type 0
HasAll m = m.synced ≡ length m.batches

served : (cause : Option DbError) (answer : Answer) (P : Type 0) (Q : DbError → Type 0) → (IsRefusal answer → ⊥) → MatchOption cause P (λ e. (answer ≡ Refused e) × Q e) → P
served None answer P Q well h = h
served (Some e) answer P Q well h = absurd (well (subst IsRefusal (sym h.0) tt))

accepted_all : (m : Machine) (operations : List Operation) → operations ≢ [] → HasAll (accepted m operations true)
accepted_all m [] some = absurd (some refl)
accepted_all m (o ∷ operations) some = sym (length-append m.batches ((o ∷ operations) ∷ []))

same_all : (target n : Machine) → n ≈ target → HasAll target → HasAll n
same_all target n same all = ap (λ (x : Machine). x.synced) same ∙ all ∙ sym (ap (λ (x : Machine). length x.batches) same)

written_all : (m n : Machine) (operations : List Operation) (answer : Answer) → Written m operations true answer n → (IsRefusal answer → ⊥) → operations ≢ [] → HasAll n
written_all m n operations Done h well some = same_all (accepted m operations true) n h (accepted_all m operations some)
written_all m n operations (Refused e) h well some = absurd (well tt)
written_all m n operations _ h well some = absurd h

write_all_synced : (m n : Machine) (operations : List Operation) (sync : Bool) (answer : Answer) → Writes m operations sync answer n → sync ≡ true → (IsRefusal answer → ⊥) → operations ≢ [] → HasAll n
write_all_synced m n operations sync answer h asked well some =
    let done = served (write_cause (status_of m) operations) answer (Written m operations sync answer n) (λ e. n ≈ m) well h.1 in
    written_all m n operations answer (subst (λ (b : Bool). Written m operations b answer n) asked done) well some

done_all : (m n : Machine) (most : ℕ) (answer : Answer) → WorkDone m most answer n → (IsRefusal answer → ⊥) → HasAll m → HasAll n
done_all m n most Worked h well all = same_all (record m { numbers = n.numbers }) n h.1 all
done_all m n most Idle h well all = same_all (record m { numbers = n.numbers }) n h.1 all
done_all m n most (Refused e) h well all = absurd (well tt)
done_all m n most _ h well all = absurd h

work_all : (m n : Machine) (budget : ℕ) (answer : Answer) → Works m budget answer n → (IsRefusal answer → ⊥) → HasAll m → HasAll n
work_all m n budget answer h well all = done_all m n _ answer (served (not_serving (status_of m)) answer _ (λ e. n ≈ m) well h.1) well all

-- ---- of a batch at the end

last_all : (order : Order) (most : ℕ) (m n : Machine) (write work last : Op) (answers : List Answer) → Run order m (write ∷ work ∷ last ∷ []) answers n → AreWell answers
    → AreBatches most true (write ∷ work ∷ last ∷ []) → written_by write ≢ [] → HasAll n
last_all order most m n (Write operations synced) (Work entries) (Work more) (x ∷ y ∷ z ∷ []) run well shape some =
    let behind = All-tail (λ a. IsRefusal a → ⊥) x (y ∷ z ∷ []) well in
    let further = All-tail (λ a. IsRefusal a → ⊥) y (z ∷ []) behind in
    let one = write_all_synced m run.0 operations.items synced x run.1 shape.1 (All-head (λ a. IsRefusal a → ⊥) x (y ∷ z ∷ []) well) some in
    let two = work_all run.0 run.2.0 entries y run.2.1 (All-head (λ a. IsRefusal a → ⊥) y (z ∷ []) behind) one in
    let three = work_all run.2.0 run.2.2.0 more z run.2.2.1 (All-head (λ a. IsRefusal a → ⊥) z [] further) two in
    subst HasAll (sym run.2.2.2) three
last_all order most m n (Write operations synced) (Work entries) (Work more) [] run well shape some = absurd run
last_all order most m n (Write operations synced) (Work entries) (Work more) (x ∷ []) run well shape some = absurd run.2
last_all order most m n (Write operations synced) (Work entries) (Work more) (x ∷ y ∷ []) run well shape some = absurd run.2.2
last_all order most m n (Write operations synced) (Work entries) (Work more) (x ∷ y ∷ z ∷ w ∷ answers) run well shape some = absurd run.2.2.2
last_all order most m n _ _ _ answers run well shape some = absurd shape

-- whatever was given before it
run_all : (order : Order) (most : ℕ) (m n : Machine) (front : List Op) (write work last : Op) (answers : List Answer) → Run order m (front ++ write ∷ work ∷ last ∷ []) answers n → AreWell answers
    → AreBatches most true (write ∷ work ∷ last ∷ []) → written_by write ≢ [] → HasAll n
run_all order most m n [] write work last answers run well shape some = last_all order most m n write work last answers run well shape some
run_all order most m n (c ∷ front) write work last (x ∷ answers) run well shape some =
    run_all order most run.0 n front write work last answers run.2 (All-tail (λ a. IsRefusal a → ⊥) x answers well) shape some
run_all order most m n (c ∷ front) write work last [] run well shape some = absurd run

-- what is written is what waited: one that writes nothing waited for nothing
pub one_writes : (most : ℕ) (sync : Bool) (write work last : Op) (operations : List Operation) → AreBatches most sync (write ∷ work ∷ last ∷ []) → all_written (write ∷ work ∷ last ∷ []) ≡ operations
    → written_by write ≡ [] → operations ≡ []
one_writes most sync (Write written synced) (Work entries) (Work further) operations shape is none = sym is ∙ append-nil written.items ∙ none
one_writes most sync _ _ _ operations shape is none = absurd shape

-- ---- of an import of all lines

module _ {S K : Type 0} {g : _} (order : Order) (facts : S → Facts) (how : ImportValues) (old new : Session S K g) (plan commands : List Op) (answers : List Answer) (operations : List Operation) where
  pub plan_synced : (planned : IsPlan how true plan) → operations ≡ all_written plan → commands ≡ plan → AreWell answers → GoesOn order facts old new commands answers → operations ≢ []
      → Follows order facts old new AllSynced
  plan_synced (batches, write, work, last, is, batched, full, shape, none) written given well went some =
      let rest = write ∷ work ∷ last ∷ [] in
      let any : written_by write ≢ [] = λ nothing.
      some (written ∙ ap all_written is ∙ ap (λ (bs : List Op). all_written (Open Any ∷ bs ++ rest)) (none nothing) ∙ one_writes how.batch true write work last (all_written rest) shape refl nothing) in
      record {
        faithful = went.ran.faithful;
        moved = λ f m s.
            let one = went.ran.moved f m s in (
              one.0,
              run_all order how.batch m one.0 (Open Any ∷ batches) write work last answers (subst (λ (cs : List Op). Run order m cs answers one.0) (given ∙ is) one.1) well shape any,
              one.2,
            );
      }

  pub given_synced : (ended : Answer) (all : Bool) → ended ≡ Done → all ≡ true → IsPlan how all plan → operations ≡ all_written plan → AreGiven plan commands answers ended → GoesOn order facts old new commands answers → operations ≢ []
      → Follows order facts old new AllSynced
  given_synced ended all done whole planned written (inl given) went some = plan_synced (subst (λ (b : Bool). IsPlan how b plan) whole planned) written given.1 given.2 went some
  given_synced ended all done whole planned written (inr some_given) went some = absurd (done_is_none ended done some_given.0)
