-- Work that commands bring along.
use Rattle.std.proofs.Common.{◌≡◌, ℕ, List, [], ◌∷◌, ◌++◌, Bool, true, false, refl, sym, ap, ◌∙◌, subst, append_assoc, append-nil}
use Rattle.std.specs.Prelude.{Option, Some, None}
use Rattle.store.specs.Files.{Facts}
use Rattle.ikey.specs.Orders.{Order}
use Rattle.machine.specs.declared.command.Op.{Op}
use Rattle.machine.specs.declared.command.Op.TheVariants.{Write, Work}
use Rattle.machine.specs.declared.command.Answer.{Answer}
use Rattle.machine.specs.declared.command.Answer.TheVariants.{Done, Refused}
use Rattle.engine.specs.declared.session.Session.{Session}
use Rattle.engine.specs.Outcomes.{IsAnswerTo, AreAnswersTo}
use Rattle.engine.specs.Applied.{Applied}
use Rattle.script.specs.Words.{Reads}
use Rattle.script.specs.Script.{Says}
use Rattle.script.specs.Commands.{GoesOn, IsRefusal}
use Rattle.script.specs.Drive.{commands_of, Answered, Finished, Stopped}
use Rattle.script.specs.Ways.{brought_by, WithWork, AnsweredIn, DoesBrought, EndsIn, FinishedIn, StoppedIn}
use Rattle.script.specs.declared.way.Way.{Way}
use Rattle.script.specs.declared.way.Ended.{Ended}
use Rattle.script.specs.declared.way.Ended.TheVariants.{Whole}
use Rattle.script.proofs.Runs.{said_then, commands_then, answers_then}
use Rattle.script.proofs.Going.{goes_none, goes_one, goes_then}
use Rattle.script.proofs.Batched.{write_done}

-- ---- which work

pub unwanted : (works : Bool) (command : Op) (answer : Answer) → works ≡ false → brought_by works command answer ≡ []
unwanted works command answer off = ap (λ (w : Bool). brought_by w command answer) off

pub refused_brings : (works : Bool) (command : Op) (answer : Answer) → IsRefusal answer → brought_by works command answer ≡ []
refused_brings false command answer refused = refl
refused_brings true (Write operations sync) (Refused e) refused = refl
refused_brings true (Write operations sync) _ refused = absurd refused
refused_brings true command answer refused = refl

done_brings : (command : Op) (answer : Answer) → IsAnswerTo command answer → (IsRefusal answer → ⊥) → brought_by true command answer ≡ brought_by true command Done
done_brings (Write operations sync) answer may well = ap (brought_by true (Write operations sync)) (write_done answer may well)
done_brings command answer may well = refl

pub wanted : (works : Bool) (command : Op) (answer : Answer) (some : List Op) → works ≡ true → IsAnswerTo command answer → (IsRefusal answer → ⊥) → brought_by true command Done ≡ some
    → brought_by works command answer ≡ some
wanted works command answer some on may well is = ap (λ (w : Bool). brought_by w command answer) on ∙ done_brings command answer may well ∙ is

-- ---- it is done

pub brings_none : {S K : Type 0} {g : _} (order : Order) (facts : S → Facts) (session : Session S K g) (works : Bool) (command : Op) (answer : Answer)
    → brought_by works command answer ≡ [] → DoesBrought works order facts session session command answer
brings_none order facts session works command answer none =
    ([], subst (λ (commands : List Op). GoesOn order facts session session commands []) (sym none) (goes_none order facts session))

pub brings_work : {S K : Type 0} {g : _} (order : Order) (facts : S → Facts) (old new : Session S K g) (works : Bool) (command : Op) (answer : Answer) (entries : ℕ) (worked : Answer)
    → brought_by works command answer ≡ Work entries ∷ [] → Applied order facts (Work entries) old new worked → DoesBrought works order facts old new command answer
brings_work order facts old new works command answer entries worked is applied =
    (worked ∷ [], subst (λ (commands : List Op). GoesOn order facts old new commands (worked ∷ [])) (sym is) (goes_one order facts old new (Work entries) worked applied))

-- ---- it is given with the commands

with_one : (works : Bool) (command : Op) (answer : Answer) (unsaid : List Answer) → AreAnswersTo (brought_by works command answer) unsaid
    → WithWork works (command ∷ []) (answer ∷ []) (command ∷ brought_by works command answer) (answer ∷ unsaid)
with_one works command answer unsaid may = (
  unsaid,
  [],
  [],
  may,
  ap (λ (cs : List Op). command ∷ cs) (sym (append-nil (brought_by works command answer))),
  ap (λ (xs : List Answer). answer ∷ xs) (sym (append-nil unsaid)),
  (refl, refl),
)

with_then : (works : Bool) (cs ds : List Op) (xs ys : List Answer) (fs gs : List Op) (ts us : List Answer)
    → WithWork works cs xs fs ts → WithWork works ds ys gs us → WithWork works (cs ++ ds) (xs ++ ys) (fs ++ gs) (ts ++ us)
with_then works [] ds [] ys fs gs ts us h next =
    subst (λ (front : List Op). WithWork works ds ys (front ++ gs) (ts ++ us)) (sym h.0) (subst (λ (front : List Answer). WithWork works ds ys gs (front ++ us)) (sym h.1) next)
with_then works (c ∷ cs) ds (x ∷ xs) ys fs gs ts us h next = (
  h.0,
  h.1 ++ gs,
  h.2 ++ us,
  h.3,
  ap (λ (front : List Op). front ++ gs) h.4 ∙ ap (λ (more : List Op). c ∷ more) (append_assoc (brought_by works c x) h.1 gs),
  ap (λ (front : List Answer). front ++ us) h.5 ∙ ap (λ (more : List Answer). x ∷ more) (append_assoc h.0 h.2 us),
  with_then works cs ds xs ys h.1 gs h.2 us h.6 next,
)
with_then works [] ds (x ∷ xs) ys fs gs ts us h next = absurd h
with_then works (c ∷ cs) ds [] ys fs gs ts us h next = absurd h

no_answers : (xs : List Answer) → AreAnswersTo [] xs → xs ≡ []
no_answers [] may = refl
no_answers (x ∷ xs) may = absurd may

-- where no work is wanted, the commands alone
without : (cs : List Op) (xs : List Answer) (given : List Op) (told : List Answer) → WithWork false cs xs given told → (given ≡ cs) × (told ≡ xs)
without [] [] given told h = h
without (c ∷ cs) (x ∷ xs) given told h =
    let rest = without cs xs h.1 h.2 h.6 in (
      h.4 ∙ ap (λ (more : List Op). c ∷ more) rest.0,
      h.5 ∙ ap (λ (unsaid : List Answer). x ∷ unsaid ++ h.2) (no_answers h.0 h.3) ∙ ap (λ (more : List Answer). x ∷ more) rest.1,
    )
without [] (x ∷ xs) given told h = absurd h
without (c ∷ cs) [] given told h = absurd h

-- ---- lines

pub answered_none : {S K : Type 0} {g : _} (way : Way) (order : Order) (facts : S → Facts) (session : Session S K g) → AnsweredIn way order facts session session [] [] []
answered_none way order facts session = record { says = tt; allowed = tt; given = []; told = []; brings = (refl, refl); ran = goes_none order facts session }

-- a line that says no command
pub answered_bad : {S K : Type 0} {g : _} (way : Way) (order : Order) (facts : S → Facts) (session : Session S K g) (line : List ℕ) → Reads (Says line) None
    → AnsweredIn way order facts session session (line ∷ []) (None ∷ []) []
answered_bad way order facts session line none = record { says = (none, tt); allowed = tt; given = []; told = []; brings = (refl, refl); ran = goes_none order facts session }

-- a line that says one
pub answered_one : {S K : Type 0} {g : _} (way : Way) (order : Order) (facts : S → Facts) (old mid new : Session S K g) (line : List ℕ) (command : Op) (answer : Answer)
    → Reads (Says line) (Some command) → Applied order facts command old mid answer → DoesBrought way.works order facts mid new command answer
    → AnsweredIn way order facts old new (line ∷ []) (Some command ∷ []) (answer ∷ [])
answered_one way order facts old mid new line command answer says applied brought = record {
  says = (says, tt);
  allowed = (applied.outcome.allowed, tt);
  given = command ∷ brought_by way.works command answer;
  told = answer ∷ brought.0;
  brings = with_one way.works command answer brought.0 brought.1.allowed;
  ran = goes_then order facts old mid new (command ∷ []) (brought_by way.works command answer) (answer ∷ []) brought.0 (goes_one order facts old mid command answer applied) brought.1;
}

pub answered_then : {S K : Type 0} {g : _} (way : Way) (order : Order) (facts : S → Facts) (a b c : Session S K g) (ls ms : List (List ℕ)) (s t : List (Option Op)) (xs ys : List Answer)
    → AnsweredIn way order facts a b ls s xs → AnsweredIn way order facts b c ms t ys → AnsweredIn way order facts a c (ls ++ ms) (s ++ t) (xs ++ ys)
answered_then way order facts a b c ls ms s t xs ys one two = record {
  says = said_then ls ms s t one.says two.says;
  allowed = subst (λ (cs : List Op). AreAnswersTo cs (xs ++ ys)) (sym (commands_then s t)) (answers_then (commands_of s) (commands_of t) xs ys one.allowed two.allowed);
  given = one.given ++ two.given;
  told = one.told ++ two.told;
  brings = subst (λ (cs : List Op). WithWork way.works cs (xs ++ ys) (one.given ++ two.given) (one.told ++ two.told)) (sym (commands_then s t))
      (with_then way.works (commands_of s) (commands_of t) xs ys one.given two.given one.told two.told one.brings two.brings);
  ran = goes_then order facts a b c one.given two.given one.told two.told one.ran two.ran;
}

-- ---- what that says where no work is wanted

answered_alone : {S K : Type 0} {g : _} (way : Way) (order : Order) (facts : S → Facts) (old new : Session S K g) (lines : List (List ℕ)) (said : List (Option Op)) (answers : List Answer)
    → way.works ≡ false → AnsweredIn way order facts old new lines said answers → Answered order facts old new lines said answers
answered_alone way order facts old new lines said answers plain a =
    let same = without (commands_of said) answers a.given a.told (subst (λ (works : Bool). WithWork works (commands_of said) answers a.given a.told) plain a.brings) in
    let given = subst (λ (commands : List Op). GoesOn order facts old new commands a.told) same.0 a.ran in
    let all = subst (λ (told : List Answer). GoesOn order facts old new (commands_of said) told) same.1 given in
    record { says = a.says; ran = all.ran; allowed = a.allowed; each = all.each }

pub finished_alone : {S K : Type 0} {g : _} {way : Way} {how : Ended} (order : Order) (facts : S → Facts) (old new : Session S K g) (script before after : Option (List ℕ))
    → FinishedIn way how order facts old new script before after → how ≡ Whole → way.works ≡ false → Finished Whole order facts old new script before after
finished_alone {S} {K} {g} {way} {how} order facts old new script before after f whole plain =
    let e = subst (λ (ended : Ended). EndsIn way ended order facts old f.between script before after) whole f.ended in
    record {
      between = f.between;
      ended = record {
        lines = e.lines;
        said = e.said;
        answers = e.answers;
        whole = e.taken;
        answered = answered_alone way order facts old f.between e.lines e.said e.answers plain e.answered;
        written = e.written;
      };
      closing = f.closing;
      closed = f.closed;
    }

pub stopped_alone : {S K : Type 0} {g : _} {way : Way} (order : Order) (facts : S → Facts) (old new : Session S K g) (script before after : Option (List ℕ))
    → StoppedIn way order facts old new script before after → way.works ≡ false → Stopped order facts old new script before after
stopped_alone {S} {K} {g} {way} order facts old new script before after s plain = record {
  lines = s.lines;
  said = s.said;
  answers = s.answers;
  first = s.taken;
  answered = answered_alone way order facts old new s.lines s.said s.answers plain s.answered;
  shown = s.written.0;
  unseen = s.written.1;
  text = s.written.2;
  written = s.written.3;
}
