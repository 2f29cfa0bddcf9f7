-- How far an import has come.
use Rattle.std.proofs.Common.{◌≡◌, ℕ, ◌+◌, ◌<◌, ◌≤◌, List, [], ◌∷◌, ◌++◌, length, Bool, true, false, refl, sym, ap, ◌∙◌, subst, inl, inr, append_assoc, append-nil, arith}
use Rattle.std.specs.Prelude.{◌⊎◌, Option, Some, None, IfSome}
use Rattle.std.proofs.lemmas.Bool.{false≢true}
use Rattle.std.proofs.lemmas.List.{length-append}
use Rattle.std.proofs.lemmas.List.Elements.{All-nil, All-cons, All-append}
use Rattle.batch.specs.declared.operation.Operation.{Operation}
use Rattle.coding.specs.declared.error.DbError.TheVariants.{BadLine}
use Rattle.store.specs.Files.{Facts}
use Rattle.ikey.specs.Orders.{Order}
use Rattle.machine.specs.declared.command.Mode.TheVariants.{Any}
use Rattle.machine.specs.declared.command.Op.{Op}
use Rattle.machine.specs.declared.command.Op.TheVariants.{Open, Write, Work}
use Rattle.machine.specs.declared.command.Answer.{Answer}
use Rattle.machine.specs.declared.command.Answer.TheVariants.{Done, Refused}
use Rattle.engine.specs.declared.session.Session.{Session}
use Rattle.script.specs.Commands.{GoesOn, IsRefusal, AreGiven}
use Rattle.script.specs.Drive.{lines_of, LeavesLines, TakesLine, AppendsFront}
use Rattle.script.specs.Closing.{EndsClosed, TakesClosed}
use Rattle.script.specs.Importing.{ImportValues, SaysOperation, SayOperations, IsPlan, IsBatch, IsFull, HasRoom, bytes_of, all_written, all_taken, Takes, HasBadNext, EndsImport, HasTaken, HasBegun, WritesBatch, MakesRoom, TakesOperation, TakesSome, StopsImport, report_of}
use Rattle.script.proofs.Runs.{leaves_all, leaves_fewer, leaves_none}
use Rattle.script.proofs.Written.{no_more}
use Rattle.script.proofs.Going.{goes_then}
use Rattle.script.proofs.Batched.{done_is_none, well_taken, taken_then, written_then, batches_then, full_then, full_of, given_then}
use Rattle.script.proofs.SyncedAll.{given_synced, one_writes}

say_then : (ls ms : List (List ℕ)) (os ps : List Operation) → SayOperations ls os → SayOperations ms ps → SayOperations (ls ++ ms) (os ++ ps)
say_then [] ms [] ps h g = g
say_then (l ∷ ls) ms (o ∷ os) ps h g = (h.0, say_then ls ms os ps h.1 g)
say_then [] ms (o ∷ os) ps h g = absurd h
say_then (l ∷ ls) ms [] ps h g = absurd h

-- the lines behind these
abbrev later_of : Option (List ℕ) → List (List ℕ)
later_of None = []
later_of (Some rest) = lines_of rest

first_lines : (script left : Option (List ℕ)) (lines : List (List ℕ)) → LeavesLines script left lines → IfSome script (λ bytes. lines_of bytes ≡ lines ++ later_of left)
first_lines None left lines h = tt
first_lines (Some bytes) None lines h = absurd h
first_lines (Some bytes) (Some rest) lines h = h

all_lines : (script : Option (List ℕ)) (lines : List (List ℕ)) → IfSome script (λ bytes. lines_of bytes ≡ lines) → IfSome script (λ bytes. lines_of bytes ≡ lines ++ [])
all_lines None lines h = tt
all_lines (Some bytes) lines h = h ∙ sym (append-nil lines)

bad_next : (script left next : Option (List ℕ)) (lines : List (List ℕ)) (line : List ℕ) → LeavesLines script left lines → TakesLine left next true line
    → ((operation : Operation) → SaysOperation line operation → ⊥) → HasBadNext script lines
bad_next None left next lines line h g none = tt
bad_next (Some bytes) None next lines line h g none = absurd h
bad_next (Some bytes) (Some rest) next lines line h g none = (line, lines_of g.0, h ∙ ap (λ (ls : List (List ℕ)). lines ++ ls) g.2, none)

-- ---- steps

abbrev pub taken_none : {S K : Type 0} {g : _} (order : Order) (facts : S → Facts) (how : ImportValues) (old now : Session S K g) (script : Option (List ℕ))
    → GoesOn order facts old now (Open Any ∷ []) (Done ∷ []) → HasTaken order facts how old now script script [] 0
taken_none order facts how old now script opened = record {
  lines = [];
  leaves = leaves_all script;
  operations = [];
  said = tt;
  batches = [];
  shape = tt;
  full = tt;
  written = refl;
  answers = Done ∷ [];
  well = All-cons (λ a. IsRefusal a → ⊥) Done [] (λ h. h) (All-nil (λ a. IsRefusal a → ⊥));
  ran = opened;
  counted = refl;
}

pub taken_waits : {S K : Type 0} {g : _} (order : Order) (facts : S → Facts) (how : ImportValues) (old now : Session S K g) (script left next : Option (List ℕ)) (waiting : List Operation) (count : ℕ) (line : List ℕ) (operation : Operation)
    → HasTaken order facts how old now script left waiting count → TakesLine left next true line → SaysOperation line operation
    → HasTaken order facts how old now script next (waiting ++ operation ∷ []) count
taken_waits order facts how old now script left next waiting count line operation h takes says = record {
  lines = h.lines ++ line ∷ [];
  leaves = leaves_fewer script left next h.lines line h.leaves takes;
  operations = h.operations ++ operation ∷ [];
  said = say_then h.lines (line ∷ []) h.operations (operation ∷ []) h.said (says, tt);
  batches = h.batches;
  shape = h.shape;
  full = h.full;
  written = ap (λ (os : List Operation). os ++ operation ∷ []) h.written ∙ append_assoc (all_written h.batches) waiting (operation ∷ []);
  answers = h.answers;
  well = h.well;
  ran = h.ran;
  counted = h.counted;
}

pub taken_batch : {S K : Type 0} {g : _} (order : Order) (facts : S → Facts) (how : ImportValues) (old now new : Session S K g) (script left : Option (List ℕ)) (waiting : List Operation) (before after : ℕ)
    → HasTaken order facts how old now script left waiting before → IsFull how.batch waiting → WritesBatch order facts how.batch how.sync now new waiting before after Done
    → HasTaken order facts how old new script left [] after
taken_batch order facts how old now new script left waiting before after h full b = elim b.given [
  | inl all ↦
      let plan = b.write ∷ b.work ∷ b.last ∷ [] in
      let written : all_written (h.batches ++ plan) ≡ all_written h.batches ++ waiting = written_then h.batches plan ∙ ap (λ (os : List Operation). all_written h.batches ++ os) b.written in
      let taken : waiting ≡ all_taken b.commands b.answers = b.taken ∙ ap (λ (os : List Operation). all_taken b.commands b.answers ++ os) (b.whole refl) ∙ append-nil (all_taken b.commands b.answers) in
      let long : length (all_written (h.batches ++ plan)) ≡ length (all_written h.batches) + length waiting = ap length written ∙ length-append (all_written h.batches) waiting in
      let many : length waiting ≡ length (all_taken b.commands b.answers) = ap length taken in
      record {
        lines = h.lines;
        leaves = h.leaves;
        operations = h.operations;
        said = h.said;
        batches = h.batches ++ plan;
        shape = batches_then how.batch how.sync h.batches plan h.shape b.shape;
        full = full_then how.batch h.batches plan h.full (full_of how.batch how.sync b.write b.work b.last waiting b.shape b.written full);
        written = h.written ∙ sym written ∙ sym (append-nil (all_written (h.batches ++ plan)));
        answers = h.answers ++ b.answers;
        well = All-append (λ a. IsRefusal a → ⊥) h.answers b.answers h.well all.2;
        ran = subst (λ (cs : List Op). GoesOn order facts old new (Open Any ∷ h.batches ++ cs) (h.answers ++ b.answers)) all.1
            (goes_then order facts old now new (Open Any ∷ h.batches) b.commands h.answers b.answers h.ran b.ran);
        counted = omega (arith, h.counted, b.counted, long, many);
      }
  | inr some ↦ absurd some.0
]

-- ---- ends

-- what was taken when nothing more is
abbrev so_far : {S K : Type 0} {g : _} (order : Order) (facts : S → Facts) (how : ImportValues) (old now : Session S K g) (script left : Option (List ℕ)) (waiting : List Operation) (count : ℕ)
    → HasTaken order facts how old now script left waiting count → Takes order facts how old now script false Done
so_far order facts how old now script left waiting count h = record {
  lines = h.lines;
  later = later_of left;
  first = first_lines script left h.lines h.leaves;
  last = λ e. absurd (false≢true e);
  operations = h.operations;
  said = h.said;
  plan = Open Any ∷ h.batches;
  planned = (h.batches, refl, h.shape, h.full);
  gathered = waiting;
  written = h.written;
  whole = λ e. absurd (false≢true e);
  commands = Open Any ∷ h.batches;
  answers = h.answers;
  given = inl (refl, refl, h.well);
  ran = h.ran;
  left = waiting;
  taken = h.written ∙ ap (λ (os : List Operation). os ++ waiting) (sym (well_taken (Open Any ∷ h.batches) h.answers h.ran.allowed h.well));
}

pub stops : {S K : Type 0} {g : _} (order : Order) (facts : S → Facts) (how : ImportValues) (old now : Session S K g) (script left : Option (List ℕ)) (waiting : List Operation) (count : ℕ)
    → HasTaken order facts how old now script left waiting count → TakesSome order facts how old now script
stops order facts how old now script left waiting count h = (false, Done, so_far order facts how old now script left waiting count h)

pub ends_at_bad : {S K : Type 0} {g : _} (order : Order) (facts : S → Facts) (how : ImportValues) (old now : Session S K g) (script left next : Option (List ℕ)) (waiting : List Operation) (count : ℕ) (line : List ℕ)
    → HasTaken order facts how old now script left waiting count → TakesLine left next true line → ((operation : Operation) → SaysOperation line operation → ⊥)
    → EndsImport order facts how old now script (Refused BadLine) count
ends_at_bad order facts how old now script left next waiting count line h takes none = record {
  all = false;
  ended = Done;
  takes = so_far order facts how old now script left waiting count h;
  how_ended = inr (inr (refl, refl, bad_next script left next h.lines line h.leaves takes none));
  counted = h.counted ∙ sym (ap length (well_taken (Open Any ∷ h.batches) h.answers h.ran.allowed h.well));
  synced = λ done. absurd (done_is_none (Refused BadLine) done tt);
}

-- what was taken with a batch behind it
taken_here : {S K : Type 0} {g : _} (order : Order) (facts : S → Facts) (how : ImportValues) (old now new : Session S K g) (script left : Option (List ℕ)) (waiting : List Operation) (before after : ℕ) (sync : Bool) (outcome : Answer)
    (h : HasTaken order facts how old now script left waiting before) (b : WritesBatch order facts how.batch sync now new waiting before after outcome)
    → all_taken (Open Any ∷ h.batches ++ b.commands) (h.answers ++ b.answers) ≡ all_written h.batches ++ all_taken b.commands b.answers
taken_here order facts how old now new script left waiting before after sync outcome h b =
    taken_then (Open Any ∷ h.batches) b.commands h.answers b.answers h.ran.allowed
    ∙ ap (λ (os : List Operation). os ++ all_taken b.commands b.answers) (well_taken (Open Any ∷ h.batches) h.answers h.ran.allowed h.well)

-- the end behind a batch, at the end of the lines or before it
ends_behind : {S K : Type 0} {g : _} (order : Order) (facts : S → Facts) (how : ImportValues) (old now new : Session S K g) (script left : Option (List ℕ)) (waiting : List Operation) (before after : ℕ) (sync : Bool) (outcome : Answer)
    (h : HasTaken order facts how old now script left waiting before) (b : WritesBatch order facts how.batch sync now new waiting before after outcome) (all : Bool) (later : List (List ℕ))
    → IfSome script (λ bytes. lines_of bytes ≡ h.lines ++ later) → (all ≡ true → later ≡ []) → IsPlan how all (Open Any ∷ h.batches ++ b.write ∷ b.work ∷ b.last ∷ [])
    → ((outcome ≡ Done) × (all ≡ true) × (b.left ≡ [])) ⊎ IsRefusal outcome → EndsImport order facts how old new script outcome after
ends_behind order facts how old now new script left waiting before after sync outcome h b all later first last planned end =
    let here = taken_here order facts how old now new script left waiting before after sync outcome h b in
    let long : length (all_taken (Open Any ∷ h.batches ++ b.commands) (h.answers ++ b.answers)) ≡ length (all_written h.batches) + length (all_taken b.commands b.answers)
    = ap length here ∙ length-append (all_written h.batches) (all_taken b.commands b.answers) in
    let plan = Open Any ∷ h.batches ++ b.write ∷ b.work ∷ b.last ∷ [] in
    let whole : h.operations ≡ all_written plan = h.written ∙ ap (λ (os : List Operation). all_written h.batches ++ os) (sym b.written) ∙ sym (written_then h.batches (b.write ∷ b.work ∷ b.last ∷ [])) in
    let given = given_then (Open Any ∷ h.batches) (b.write ∷ b.work ∷ b.last ∷ []) b.commands h.answers b.answers outcome h.well b.given in
    let ran = goes_then order facts old now new (Open Any ∷ h.batches) b.commands h.answers b.answers h.ran b.ran in
    record {
      all = all;
      ended = outcome;
      takes = record {
        lines = h.lines;
        later = later;
        first = first;
        last = last;
        operations = h.operations;
        said = h.said;
        plan = plan;
        planned = planned;
        gathered = [];
        written = whole ∙ sym (append-nil (all_written plan));
        whole = λ e. refl;
        commands = Open Any ∷ h.batches ++ b.commands;
        answers = h.answers ++ b.answers;
        given = given;
        ran = ran;
        left = b.left;
        taken = h.written ∙ ap (λ (os : List Operation). all_written h.batches ++ os) b.taken ∙ sym (append_assoc (all_written h.batches) (all_taken b.commands b.answers) b.left)
            ∙ ap (λ (os : List Operation). os ++ b.left) (sym here);
      };
      how_ended = elim end [
        | inl done ↦ inl (done.0, done.0, done.1, done.2)
        | inr refused ↦ inr (inl (refused, refl))
      ];
      counted = omega (arith, long, h.counted, b.counted);
      synced = λ done. elim end [
        | inl well ↦ given_synced order facts how old new plan (Open Any ∷ h.batches ++ b.commands) (h.answers ++ b.answers) h.operations outcome all done well.1 planned whole given ran
        | inr refused ↦ absurd (done_is_none outcome done refused)
      ];
    }

pub ends_refused : {S K : Type 0} {g : _} (order : Order) (facts : S → Facts) (how : ImportValues) (old now new : Session S K g) (script left : Option (List ℕ)) (waiting : List Operation) (before after : ℕ) (outcome : Answer)
    → HasTaken order facts how old now script left waiting before → IsFull how.batch waiting → WritesBatch order facts how.batch how.sync now new waiting before after outcome → IsRefusal outcome
    → EndsImport order facts how old new script outcome after
ends_refused order facts how old now new script left waiting before after outcome h full b refused =
    ends_behind order facts how old now new script left waiting before after how.sync outcome h b false (later_of left) (first_lines script left h.lines h.leaves) (λ e. absurd (false≢true e)) (
      h.batches ++ b.write ∷ b.work ∷ b.last ∷ [],
      refl,
      batches_then how.batch how.sync h.batches (b.write ∷ b.work ∷ b.last ∷ []) h.shape b.shape,
      full_then how.batch h.batches (b.write ∷ b.work ∷ b.last ∷ []) h.full (full_of how.batch how.sync b.write b.work b.last waiting b.shape b.written full),
    ) (inr refused)

pub ends_whole : {S K : Type 0} {g : _} (order : Order) (facts : S → Facts) (how : ImportValues) (old now new : Session S K g) (script left next : Option (List ℕ)) (waiting : List Operation) (before after : ℕ) (outcome : Answer) (line : List ℕ)
    → HasBegun order facts how old now script left waiting before → TakesLine left next false line → WritesBatch order facts how.batch true now new waiting before after outcome
    → EndsImport order facts how old new script outcome after
ends_whole order facts how old now new script left next waiting before after outcome line (h, one) none b =
    ends_behind order facts how old now new script left waiting before after true outcome h b true [] (all_lines script h.lines (leaves_none script left next h.lines line h.leaves none)) (λ e. refl)
    (h.batches, b.write, b.work, b.last, refl, h.shape, h.full, b.shape, λ nothing. one (one_writes how.batch true b.write b.work b.last waiting b.shape b.written nothing)) (elim b.given [
      | inl all ↦ inl (all.0, refl, b.whole all.0)
      | inr some ↦ inr some.0
    ])

pub ends_unopened : {S K : Type 0} {g : _} (order : Order) (facts : S → Facts) (how : ImportValues) (old new : Session S K g) (script : Option (List ℕ)) (refused : Answer)
    → IsRefusal refused → GoesOn order facts old new (Open Any ∷ []) (refused ∷ []) → EndsImport order facts how old new script refused 0
ends_unopened order facts how old new script refused is ran = record {
  all = false;
  ended = refused;
  takes = record {
    lines = [];
    later = later_of script;
    first = first_lines script script [] (leaves_all script);
    last = λ e. absurd (false≢true e);
    operations = [];
    said = tt;
    plan = Open Any ∷ [];
    planned = ([], refl, tt, tt);
    gathered = [];
    written = refl;
    whole = λ e. refl;
    commands = Open Any ∷ [];
    answers = refused ∷ [];
    given = inr (is, [], [], refl, refl, All-nil (λ a. IsRefusal a → ⊥));
    ran = ran;
    left = [];
    taken = sym (append-nil (all_taken (Open Any ∷ []) (refused ∷ [])) ∙ no_operations refused);
  };
  how_ended = inr (inl (is, refl));
  counted = sym (ap length (no_operations refused));
  synced = λ done. absurd (done_is_none refused done is);
}
  where
    no_operations : (a : Answer) → all_taken (Open Any ∷ []) (a ∷ []) ≡ []
    no_operations Done = refl
    no_operations _ = refl

-- ---- room for a line's operation

given_well : {plan commands : List Op} {answers : List Answer} {outcome : Answer} → AreGiven plan commands answers outcome → (IsRefusal outcome → ⊥) → outcome ≡ Done
given_well (inl all) well = all.0
given_well (inr some) well = absurd (well some.0)

pub room_ends : {S K : Type 0} {g : _} (order : Order) (facts : S → Facts) (how : ImportValues) (old now new : Session S K g) (script left : Option (List ℕ)) (waiting still : List Operation) (before after : ℕ) (outcome : Answer)
    → HasTaken order facts how old now script left waiting before → MakesRoom order facts how now new waiting still before after outcome → IsRefusal outcome
    → EndsImport order facts how old new script outcome after
room_ends order facts how old now new script left waiting still before after outcome h (inl waits) refused = absurd (done_is_none outcome waits.0 refused)
room_ends order facts how old now new script left waiting still before after outcome h (inr batch) refused = ends_refused order facts how old now new script left waiting before after outcome h batch.0 batch.2 refused

pub room_goes_on : {S K : Type 0} {g : _} (order : Order) (facts : S → Facts) (how : ImportValues) (old now new : Session S K g) (script left : Option (List ℕ)) (waiting still : List Operation) (before after : ℕ) (outcome : Answer)
    → HasTaken order facts how old now script left waiting before → MakesRoom order facts how now new waiting still before after outcome → (IsRefusal outcome → ⊥)
    → HasTaken order facts how old new script left still after
room_goes_on {S} {K} {g} order facts how old now new script left waiting still before after outcome h (inl waits) well =
    subst (λ (os : List Operation). HasTaken order facts how old new script left os after) (sym waits.1)
    (subst (λ (s : Session S K g). HasTaken order facts how old s script left waiting after) (sym waits.2)
    (subst (λ (n : ℕ). HasTaken order facts how old now script left waiting n) (sym waits.3) h))
room_goes_on order facts how old now new script left waiting still before after outcome h (inr batch) well =
    subst (λ (os : List Operation). HasTaken order facts how old new script left os after) (sym batch.1)
    (taken_batch order facts how old now new script left waiting before after h batch.0
    (subst (λ (o : Answer). WritesBatch order facts how.batch how.sync now new waiting before after o) (given_well batch.2.given well) batch.2))

-- ---- a line

one_waits : (waiting : List Operation) (operation : Operation) → waiting ++ operation ∷ [] ≡ [] → ⊥
one_waits waiting operation none = let e : length (waiting ++ operation ∷ []) ≡ 0 = ap length none in omega (arith, e, length-append waiting (operation ∷ []))

pub line_waits : {S K : Type 0} {g : _} (order : Order) (facts : S → Facts) (how : ImportValues) (old now : Session S K g) (script left next : Option (List ℕ)) (waiting still : List Operation) (count : ℕ) (line : List ℕ)
    → HasTaken order facts how old now script left waiting count → TakesLine left next true line → TakesOperation line waiting still true
    → HasBegun order facts how old now script next still count
line_waits order facts how old now script left next waiting still count line h takes (operation, says, is) =
    subst (λ (os : List Operation). HasBegun order facts how old now script next os count) (sym is)
    (taken_waits order facts how old now script left next waiting count line operation h takes says, λ none. absurd (one_waits waiting operation none))

pub line_long : (line : List ℕ) (waiting still : List Operation) (most : ℕ) → TakesOperation line waiting still true → HasRoom most waiting → IsBatch most still
line_long line waiting still most (operation, says, is) room = record {
  count = let e : length still ≡ length (waiting ++ operation ∷ []) = ap length is in omega (arith, e, length-append waiting (operation ∷ []), room.count);
  bytes = inr (waiting, operation, is, room.bytes);
}

-- where nothing waits
pub none_waits : (waiting : List Operation) (most : ℕ) → waiting ≡ [] → 1 ≤ most → HasRoom most waiting
none_waits waiting most none some = record {
  count = let e : length waiting ≡ 0 = ap length none in omega (arith, e, some);
  bytes = let e : bytes_of waiting ≡ 0 = ap bytes_of none in omega (arith, e);
}

pub none_is_batch : (waiting : List Operation) (most : ℕ) → waiting ≡ [] → IsBatch most waiting
none_is_batch waiting most none = record {
  count = let e : length waiting ≡ 0 = ap length none in omega (arith, e);
  bytes = inl none;
}

-- what the lines after the open lead to
abbrev pub Carries : {S K : Type 0} {g : _} → Order → (S → Facts) → ImportValues → Session S K g → Session S K g → Option (List ℕ) → Option (List ℕ) → ℕ → List Operation → ℕ → Type 0
Carries {S} {K} {g} order facts how first now start left before waiting count =
    (old : Session S K g) (script : Option (List ℕ)) → HasBegun order facts how old first script start [] before → HasBegun order facts how old now script left waiting count

-- the session is as it was
pub stops_still : {S K : Type 0} {g : _} (order : Order) (facts : S → Facts) (how : ImportValues) (old now new : Session S K g) (script left : Option (List ℕ)) (waiting : List Operation) (count : ℕ)
    → HasTaken order facts how old now script left waiting count → new ≡ now → TakesSome order facts how old new script
stops_still {S} {K} {g} order facts how old now new script left waiting count h same =
    subst (λ (s : Session S K g). TakesSome order facts how old s script) (sym same) (stops order facts how old now script left waiting count h)

-- ---- after the close

pub import_stops : {S K : Type 0} {g : _} (order : Order) (facts : S → Facts) (how : ImportValues) (old new : Session S K g) (script contents : Option (List ℕ))
    → TakesClosed order facts how old new script → StopsImport order facts how old new script contents contents
import_stops order facts how old new script contents (between, closing, (all, ended, takes), closed) = record {
  all = all;
  ended = ended;
  between = between;
  closing = closing;
  takes = takes;
  closed = closed;
  outcome = Done;
  written = no_more contents (report_of Done (length (all_taken takes.commands takes.answers)));
}

-- it came to an end, of which some of the report was written
pub report_stops : {S K : Type 0} {g : _} (order : Order) (facts : S → Facts) (how : ImportValues) (old new : Session S K g) (script before after : Option (List ℕ)) (outcome : Answer) (count : ℕ) (text : List ℕ)
    → EndsClosed order facts how old new script outcome count → text ≡ report_of outcome count → AppendsFront before after text → StopsImport order facts how old new script before after
report_stops order facts how old new script before after outcome count text (between, closing, import, closed) is front = record {
  all = import.all;
  ended = import.ended;
  between = between;
  closing = closing;
  takes = import.takes;
  closed = closed;
  outcome = outcome;
  written = subst (AppendsFront before after) (is ∙ ap (report_of outcome) import.counted) front;
}
