-- One batch of an import, and the work behind it.
use Rattle.std.proofs.Common.{◌≡◌, ℕ, ◌+◌, ◌*◌, ◌≤◌, List, [], ◌∷◌, ◌++◌, length, Bool, refl, sym, ap, ◌∙◌, subst, inl, inr, append_assoc, append-nil, arith}
use Rattle.std.specs.Prelude.{◌⊎◌}
use Rattle.std.proofs.lemmas.List.{length-append, nil_from_length}
use Rattle.std.proofs.lemmas.List.Elements.{All-nil, All-cons, All-head, All-tail, All-append}
use Rattle.batch.specs.declared.operation.Operation.{Operation}
use Rattle.store.specs.Files.{Facts}
use Rattle.ikey.specs.Orders.{Order}
use Rattle.machine.specs.declared.command.Op.{Op}
use Rattle.machine.specs.declared.command.Op.TheVariants.{Write, Work}
use Rattle.machine.specs.declared.command.Answer.{Answer}
use Rattle.machine.specs.declared.command.Answer.TheVariants.{Done, Refused}
use Rattle.engine.specs.declared.session.Session.{Session}
use Rattle.engine.specs.Outcomes.{IsAnswerTo, IsWriteAnswer, AreAnswersTo}
use Rattle.engine.specs.Applied.{Applied}
use Rattle.script.specs.Script.{IsWrite}
use Rattle.script.specs.Commands.{IsRefusal, AreWell, AreGiven}
use Rattle.script.specs.Importing.{AreBatches, AreFull, IsBatch, IsFull, WorksBehind, WritesBatch, written_by, all_written, taken_by, all_taken}
use Rattle.script.proofs.Going.{goes_one, goes_then}

pub refusal_or_not : (answer : Answer) → IsRefusal answer ⊎ (IsRefusal answer → ⊥)
refusal_or_not (Refused e) = inl tt
refusal_or_not _ = inr (λ h. h)

pub done_is_none : (answer : Answer) → answer ≡ Done → IsRefusal answer → ⊥
done_is_none answer done refused = subst IsRefusal done refused

-- ---- what is taken

pub write_done : (answer : Answer) → IsWriteAnswer answer → (IsRefusal answer → ⊥) → answer ≡ Done
write_done Done may well = refl
write_done (Refused e) may well = absurd (well tt)
write_done _ may well = absurd may

none_taken : (command : Op) (answer : Answer) → written_by command ≡ [] → taken_by command answer ≡ []
none_taken command Done none = none
none_taken command _ none = refl

refused_takes_none : (command : Op) (answer : Answer) → IsRefusal answer → taken_by command answer ≡ []
refused_takes_none command (Refused e) refused = refl
refused_takes_none command _ refused = absurd refused

-- a command that wasn't refused took what it writes
one_taken : (command : Op) (answer : Answer) → IsAnswerTo command answer → (IsRefusal answer → ⊥) → taken_by command answer ≡ written_by command
one_taken (Write operations sync) answer may well = ap (taken_by (Write operations sync)) (write_done answer may well)
one_taken command answer may well = none_taken command answer refl

pub well_taken : (commands : List Op) (answers : List Answer) → AreAnswersTo commands answers → AreWell answers → all_taken commands answers ≡ all_written commands
well_taken [] [] may well = refl
well_taken (c ∷ commands) (x ∷ answers) may well =
    ap (λ (front : List Operation). front ++ all_taken commands answers) (one_taken c x may.0 (All-head (λ answer. IsRefusal answer → ⊥) x answers well))
    ∙ ap (λ (rest : List Operation). written_by c ++ rest) (well_taken commands answers may.1 (All-tail (λ answer. IsRefusal answer → ⊥) x answers well))
well_taken [] (x ∷ answers) may well = absurd may
well_taken (c ∷ commands) [] may well = absurd may

front_none : (xs ys : List Operation) → xs ++ ys ≡ [] → xs ≡ []
front_none xs ys none = let e : length (xs ++ ys) ≡ 0 = ap length none in nil_from_length xs (omega (arith, e, length-append xs ys))

rest_none : (xs ys : List Operation) → xs ++ ys ≡ [] → ys ≡ []
rest_none xs ys none = let e : length (xs ++ ys) ≡ 0 = ap length none in nil_from_length ys (omega (arith, e, length-append xs ys))

-- the first ones of commands that write nothing
none_all_taken : (commands undone : List Op) (answers : List Answer) → all_written (commands ++ undone) ≡ [] → all_taken commands answers ≡ []
none_all_taken [] undone [] none = refl
none_all_taken [] undone (x ∷ answers) none = refl
none_all_taken (c ∷ commands) undone [] none = refl
none_all_taken (c ∷ commands) undone (x ∷ answers) none =
    ap (λ (front : List Operation). front ++ all_taken commands answers) (none_taken c x (front_none (written_by c) (all_written (commands ++ undone)) none))
    ∙ none_all_taken commands undone answers (rest_none (written_by c) (all_written (commands ++ undone)) none)

work_takes_none : (entries : ℕ) (commands : List Op) (answers : List Answer) (ended : Answer) → AreGiven (Work entries ∷ Work 1 ∷ []) commands answers ended → all_taken commands answers ≡ []
work_takes_none entries commands answers ended (inl all) = none_all_taken commands [] answers (subst (λ (cs : List Op). all_written (cs ++ []) ≡ []) (sym all.1) refl)
work_takes_none entries commands answers ended (inr some) = none_all_taken commands some.1 answers (sym (ap all_written some.3))

pub taken_then : (cs ds : List Op) (xs ys : List Answer) → AreAnswersTo cs xs → all_taken (cs ++ ds) (xs ++ ys) ≡ all_taken cs xs ++ all_taken ds ys
taken_then [] ds [] ys may = refl
taken_then (c ∷ cs) ds (x ∷ xs) ys may =
    ap (λ (rest : List Operation). taken_by c x ++ rest) (taken_then cs ds xs ys may.1) ∙ sym (append_assoc (taken_by c x) (all_taken cs xs) (all_taken ds ys))
taken_then [] ds (x ∷ xs) ys may = absurd may
taken_then (c ∷ cs) ds [] ys may = absurd may

pub written_then : (cs ds : List Op) → all_written (cs ++ ds) ≡ all_written cs ++ all_written ds
written_then [] ds = refl
written_then (c ∷ cs) ds = ap (λ (rest : List Operation). written_by c ++ rest) (written_then cs ds) ∙ sym (append_assoc (written_by c) (all_written cs) (all_written ds))

pub batches_then : (most : ℕ) (sync : Bool) (cs ds : List Op) → AreBatches most sync cs → AreBatches most sync ds → AreBatches most sync (cs ++ ds)
batches_then most sync [] ds h g = g
batches_then most sync (Write operations synced ∷ Work entries ∷ Work last ∷ cs) ds h g = (h.0, h.1, h.2, h.3, batches_then most sync cs ds h.4 g)
batches_then most sync _ ds h g = absurd h

pub full_then : (most : ℕ) (cs ds : List Op) → AreFull most cs → AreFull most ds → AreFull most (cs ++ ds)
full_then most [] ds h g = g
full_then most (Write operations synced ∷ cs) ds h g = (h.0, full_then most cs ds h.1 g)
full_then most (_ ∷ cs) ds h g = full_then most cs ds h g

-- what is written is what waited
pub full_of : (most : ℕ) (sync : Bool) (write work last : Op) (operations : List Operation) → AreBatches most sync (write ∷ work ∷ last ∷ []) → all_written (write ∷ work ∷ last ∷ []) ≡ operations
    → IsFull most operations → AreFull most (write ∷ work ∷ last ∷ [])
full_of most sync (Write written synced) (Work entries) (Work further) operations shape is full = (subst (IsFull most) (sym is ∙ append-nil written.items) full, tt)
full_of most sync _ _ _ operations shape is full = absurd shape

-- behind commands that were given and not refused
pub given_then : (front plan commands : List Op) (xs ys : List Answer) (ended : Answer) → AreWell xs → AreGiven plan commands ys ended
    → AreGiven (front ++ plan) (front ++ commands) (xs ++ ys) ended
given_then front plan commands xs ys ended well (inl all) =
    inl (all.0, ap (λ (cs : List Op). front ++ cs) all.1, All-append (λ answer. IsRefusal answer → ⊥) xs ys well all.2)
given_then front plan commands xs ys ended well (inr some) =
    inr (
      some.0,
      some.1,
      xs ++ some.2,
      ap (λ (cs : List Op). front ++ cs) some.3 ∙ sym (append_assoc front commands some.1),
      ap (λ (zs : List Answer). xs ++ zs) some.4 ∙ sym (append_assoc xs some.2 (ended ∷ [])),
      All-append (λ answer. IsRefusal answer → ⊥) xs some.2 well some.5,
    )

-- ---- a batch

batch_shape : (most : ℕ) (sync : Bool) (operations : List Operation) (write : Op) (entries : ℕ)
    → IsWrite operations sync write → IsBatch most operations → entries ≡ 6 * length operations → AreBatches most sync (write ∷ Work entries ∷ Work 1 ∷ [])
batch_shape most sync operations (Write written synced) entries is few work =
    (subst (IsBatch most) (sym is.0) few, is.1, work ∙ ap (λ (os : List Operation). 6 * length os) (sym is.0), refl, tt)
batch_shape most sync operations _ entries is few work = absurd is

writes_these : (sync : Bool) (operations : List Operation) (write : Op) → IsWrite operations sync write → written_by write ≡ operations
writes_these sync operations (Write written synced) is = is.0
writes_these sync operations _ is = absurd is

write_answered : (sync : Bool) (operations : List Operation) (write : Op) (answer : Answer) → IsWrite operations sync write → IsAnswerTo write answer → (IsRefusal answer → ⊥) → answer ≡ Done
write_answered sync operations (Write written synced) answer is may well = write_done answer may well
write_answered sync operations _ answer is may well = absurd is

pub batch_refused : {S K : Type 0} {g : _} (order : Order) (facts : S → Facts) (most : ℕ) (sync : Bool) (old new : Session S K g) (operations : List Operation) (count : ℕ) (write : Op) (entries : ℕ) (answer : Answer)
    → IsWrite operations sync write → IsBatch most operations → entries ≡ 6 * length operations → Applied order facts write old new answer → IsRefusal answer
    → WritesBatch order facts most sync old new operations count count answer
batch_refused order facts most sync old new operations count write entries answer is few work applied refused =
    let none : all_taken (write ∷ []) (answer ∷ []) ≡ [] = append-nil (taken_by write answer) ∙ refused_takes_none write answer refused in
    record {
      write = write;
      work = Work entries;
      last = Work 1;
      shape = batch_shape most sync operations write entries is few work;
      written = append-nil (written_by write) ∙ writes_these sync operations write is;
      commands = write ∷ [];
      answers = answer ∷ [];
      given = inr (refused, Work entries ∷ Work 1 ∷ [], [], refl, refl, All-nil (λ a. IsRefusal a → ⊥));
      ran = goes_one order facts old new write answer applied;
      left = operations;
      taken = sym (ap (λ (front : List Operation). front ++ operations) none);
      whole = λ done. absurd (done_is_none answer done refused);
      counted = let e : length (all_taken (write ∷ []) (answer ∷ [])) ≡ 0 = ap length none in omega (arith, e);
    }

pub batch_taken : {S K : Type 0} {g : _} (order : Order) (facts : S → Facts) (most : ℕ) (sync : Bool) (old mid new : Session S K g) (operations : List Operation) (before after : ℕ) (write : Op) (entries : ℕ) (answer ended : Answer)
    → IsWrite operations sync write → IsBatch most operations → entries ≡ 6 * length operations → Applied order facts write old mid answer → (IsRefusal answer → ⊥)
    → WorksBehind order facts entries mid new ended → after ≡ before + length operations → WritesBatch order facts most sync old new operations before after ended
batch_taken order facts most sync old mid new operations before after write entries answer ended is few work first well (commands, answers, given, ran) count =
    let front : taken_by write answer ≡ operations = one_taken write answer first.outcome.allowed well ∙ writes_these sync operations write is in
    let back : all_taken commands answers ≡ [] = work_takes_none entries commands answers ended given in
    let all : all_taken (write ∷ commands) (answer ∷ answers) ≡ operations = ap (λ (rest : List Operation). taken_by write answer ++ rest) back ∙ append-nil (taken_by write answer) ∙ front in
    record {
      write = write;
      work = Work entries;
      last = Work 1;
      shape = batch_shape most sync operations write entries is few work;
      written = append-nil (written_by write) ∙ writes_these sync operations write is;
      commands = write ∷ commands;
      answers = answer ∷ answers;
      given = given_then (write ∷ []) (Work entries ∷ Work 1 ∷ []) commands (answer ∷ []) answers ended (All-cons (λ a. IsRefusal a → ⊥) answer [] well (All-nil (λ a. IsRefusal a → ⊥))) given;
      ran = goes_then order facts old mid new (write ∷ []) commands (answer ∷ []) answers (goes_one order facts old mid write answer first) ran;
      left = [];
      taken = sym (append-nil (all_taken (write ∷ commands) (answer ∷ answers)) ∙ all);
      whole = λ done. refl;
      counted = let e : length (all_taken (write ∷ commands) (answer ∷ answers)) ≡ length operations = ap length all in omega (arith, e, count);
    }

-- ---- the work behind it

pub works_refused : {S K : Type 0} {g : _} (order : Order) (facts : S → Facts) (old new : Session S K g) (entries : ℕ) (worked : Answer)
    → Applied order facts (Work entries) old new worked → IsRefusal worked → WorksBehind order facts entries old new worked
works_refused order facts old new entries worked applied refused =
    (Work entries ∷ [], worked ∷ [], inr (refused, Work 1 ∷ [], [], refl, refl, All-nil (λ a. IsRefusal a → ⊥)), goes_one order facts old new (Work entries) worked applied)

pub works_given : {S K : Type 0} {g : _} (order : Order) (facts : S → Facts) (old mid new : Session S K g) (entries : ℕ) (worked last ended : Answer)
    → Applied order facts (Work entries) old mid worked → (IsRefusal worked → ⊥) → Applied order facts (Work 1) mid new last
    → (IsRefusal last → ended ≡ last) → ((IsRefusal last → ⊥) → ended ≡ Done) → WorksBehind order facts entries old new ended
works_given order facts old mid new entries worked last ended first well second refused done = (
  Work entries ∷ Work 1 ∷ [],
  worked ∷ last ∷ [],
  elim (refusal_or_not last) [
    | inl h ↦
        let same = refused h in
        inr (subst IsRefusal (sym same) h, [], worked ∷ [], refl, ap (λ (a : Answer). worked ∷ a ∷ []) (sym same), All-cons (λ a. IsRefusal a → ⊥) worked [] well (All-nil (λ a. IsRefusal a → ⊥)))
    | inr h ↦
        inl (done h, refl, All-cons (λ a. IsRefusal a → ⊥) worked (last ∷ []) well (All-cons (λ a. IsRefusal a → ⊥) last [] h (All-nil (λ a. IsRefusal a → ⊥))))
  ],
  goes_then order facts old mid new (Work entries ∷ []) (Work 1 ∷ []) (worked ∷ []) (last ∷ []) (goes_one order facts old mid (Work entries) worked first) (goes_one order facts mid new (Work 1) last second),
)
