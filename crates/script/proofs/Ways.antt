-- How far a script has come that is run in a way.
use Rattle.std.proofs.Common.{◌≡◌, ℕ, List, [], ◌∷◌, ◌++◌, Bool, true, false, not, refl, sym, ap, ◌∙◌, subst, append_assoc, append-nil, inl, inr}
use Rattle.std.specs.Prelude.{◌⊎◌, Option, Some, None, MatchBool}
use Rattle.std.specs.Io.KnownBytes.{Appends}
use Rattle.std.proofs.lemmas.Bool.{false≢true}
use Rattle.std.proofs.lemmas.List.Elements.{All-nil, All-cons, All-append}
use Rattle.coding.specs.declared.error.DbError.TheVariants.{BadLine}
use Rattle.store.specs.Files.{Facts}
use Rattle.ikey.specs.Orders.{Order}
use Rattle.machine.specs.declared.command.Op.{Op}
use Rattle.machine.specs.declared.command.Answer.{Answer}
use Rattle.machine.specs.declared.command.Answer.TheVariants.{Refused}
use Rattle.engine.specs.declared.session.Session.{Session}
use Rattle.engine.specs.Outcomes.{AreAnswersTo}
use Rattle.script.specs.Commands.{IsRefusal, AreWell}
use Rattle.script.specs.Drive.{AreSaid, commands_of, text_of, TakesLine, AppendsFront, Shows, LeavesLines}
use Rattle.script.specs.Ways.{AnsweredIn, replies_of, LastIsRefused, EndsIn, StoppedIn, GoesBehind}
use Rattle.script.specs.declared.way.Way.{Way}
use Rattle.script.specs.declared.way.Ended.TheVariants.{Whole, Refused as EndedEarly}
use Rattle.script.proofs.Written.{appends_none, appends_then}
use Rattle.script.proofs.Runs.{text_then, leaves_all, leaves_fewer, leaves_none, leaves_some}
use Rattle.script.proofs.Batched.{refusal_or_not}
use Rattle.script.proofs.Brought.{answered_none, answered_then}

-- ---- what lines were answered

replies_then : (s t : List (Option Op)) (xs ys : List Answer) → AreAnswersTo (commands_of s) xs → replies_of (s ++ t) (xs ++ ys) ≡ replies_of s xs ++ replies_of t ys
replies_then [] t [] ys may = refl
replies_then [] t (x ∷ xs) ys may = absurd may
replies_then (None ∷ s) t xs ys may = ap (λ (more : List Answer). Refused BadLine ∷ more) (replies_then s t xs ys may)
replies_then (Some c ∷ s) t (x ∷ xs) ys may = ap (λ (more : List Answer). x ∷ more) (replies_then s t xs ys may.1)
replies_then (Some c ∷ s) t [] ys may = absurd may

pub none_refused : AreWell []
none_refused = All-nil (λ answer. IsRefusal answer → ⊥)

well_then : (front more : List Answer) → AreWell front → AreWell more → AreWell (front ++ more)
well_then front more before well = All-append (λ answer. IsRefusal answer → ⊥) front more before well

refused_then : (front more : List Answer) → AreWell front → LastIsRefused more → LastIsRefused (front ++ more)
refused_then front more before last = (
  front ++ last.0,
  last.1,
  ap (λ (replies : List Answer). front ++ replies) last.2 ∙ sym (append_assoc front last.0 (last.1 ∷ [])),
  well_then front last.0 before last.3,
  last.4,
)

-- no reply is a refusal, but perhaps the last one
abbrev pub MayEnd : List Answer → Type 0
MayEnd replies = AreWell replies ⊎ LastIsRefused replies

may_end_then : (front more : List Answer) → AreWell front → MayEnd more → MayEnd (front ++ more)
may_end_then front more before (inl well) = inl (well_then front more before well)
may_end_then front more before (inr last) = inr (refused_then front more before last)

one_reply : (reply : Answer) → MayEnd (reply ∷ [])
one_reply reply = elim (refusal_or_not reply) [
  | inl refused ↦ inr ([], reply, refl, none_refused, refused)
  | inr well ↦ inl (All-cons (λ answer. IsRefusal answer → ⊥) reply [] well none_refused)
]

-- no line was answered, or one
few_replies : (lines : List (List ℕ)) (line : List ℕ) (said : List (Option Op)) (answers : List Answer) → (lines ≡ []) ⊎ (lines ≡ line ∷ []) → AreSaid lines said → AreAnswersTo (commands_of said) answers
    → MayEnd (replies_of said answers)
few_replies lines line said answers (inl none) says may = no_line said answers (subst (λ (ls : List (List ℕ)). AreSaid ls said) none says)
  where
    no_line : (said : List (Option Op)) (answers : List Answer) → AreSaid [] said → MayEnd (replies_of said answers)
    no_line [] answers says = inl none_refused
    no_line (one ∷ said) answers says = absurd says
few_replies lines line said answers (inr one) says may = one_line said answers (subst (λ (ls : List (List ℕ)). AreSaid ls said) one says) may
  where
    one_line : (said : List (Option Op)) (answers : List Answer) → AreSaid (line ∷ []) said → AreAnswersTo (commands_of said) answers → MayEnd (replies_of said answers)
    one_line [] answers says may = absurd says
    one_line (None ∷ []) answers says may = one_reply (Refused BadLine)
    one_line (Some command ∷ []) (answer ∷ answers) says may = one_reply answer
    one_line (Some command ∷ []) [] says may = absurd may
    one_line (None ∷ more ∷ said) answers says may = absurd says.1
    one_line (Some command ∷ more ∷ said) answers says may = absurd says.1

-- ---- whether lines behind are answered

-- a line that says no command
pub bad_goes : (strict : Bool) → GoesBehind strict (not strict) (Refused BadLine ∷ [])
bad_goes true = (refl, ([], Refused BadLine, refl, none_refused, tt))
bad_goes false = λ is. absurd (false≢true is)

pub one_goes : (strict on : Bool) (answer : Answer) → MatchBool on (strict ≡ true → IsRefusal answer → ⊥) ((strict ≡ true) × IsRefusal answer) → GoesBehind strict on (answer ∷ [])
one_goes strict true answer goes = λ is. All-cons (λ answer. IsRefusal answer → ⊥) answer [] (goes is) none_refused
one_goes strict false answer goes = (goes.0, ([], answer, refl, none_refused, goes.1))

-- where the script isn't strict
pub goes_plainly : (strict : Bool) (answer : Answer) → strict ≡ false → MatchBool true (strict ≡ true → IsRefusal answer → ⊥) ((strict ≡ true) × IsRefusal answer)
goes_plainly strict answer plain = λ is. absurd (false≢true (sym plain ∙ is))

-- where it is
pub goes_strictly : (strict refused : Bool) (answer : Answer) → strict ≡ true → MatchBool refused (IsRefusal answer) (IsRefusal answer → ⊥)
    → MatchBool (not refused) (strict ≡ true → IsRefusal answer → ⊥) ((strict ≡ true) × IsRefusal answer)
goes_strictly strict true answer is refused = (is, refused)
goes_strictly strict false answer is well = λ on. well

-- what that is behind lines of which none was refused
pub goes_on_well : (strict on : Bool) (replies : List Answer) → on ≡ true → GoesBehind strict on replies → strict ≡ true → (front : List Answer) → AreWell front → AreWell (front ++ replies)
goes_on_well strict true replies goes behind is front before = well_then front replies before (behind is)
goes_on_well strict false replies goes behind is front before = absurd (false≢true goes)

pub goes_no_further : (strict on : Bool) (replies : List Answer) → on ≡ false → GoesBehind strict on replies → strict ≡ true → (front : List Answer) → AreWell front → LastIsRefused (front ++ replies)
goes_no_further strict false replies ends behind is front before = refused_then front replies before behind.1
goes_no_further strict true replies ends behind is front before = absurd (false≢true (sym ends))

-- ---- how far it has come

pub record Progress {S K : Type 0} {g : _} (way : Way) (Ends : List Answer → Type 0) (order : Order) (facts : S → Facts) (old now : Session S K g) (script left before after : Option (List ℕ)) (waiting : List ℕ) : Type 0 where
  pub lines : List (List ℕ)
  pub said : List (Option Op)
  pub answers : List Answer
  pub shown : List ℕ
  pub leaves : LeavesLines script left lines
  pub answered : AnsweredIn way order facts old now lines said answers
  -- what is so of the replies where the script is strict
  pub ends : way.strict ≡ true → Ends (replies_of said answers)
  pub text : text_of said answers ≡ shown ++ waiting
  pub written : Appends before after shown

pub progress_none : {S K : Type 0} {g : _} (way : Way) (order : Order) (facts : S → Facts) (session : Session S K g) (script before : Option (List ℕ))
    → Progress way AreWell order facts session session script script before before []
progress_none way order facts session script before = record {
  lines = [];
  said = [];
  answers = [];
  shown = [];
  leaves = leaves_all script;
  answered = answered_none way order facts session;
  ends = λ strict. none_refused;
  text = refl;
  written = appends_none before;
}

pub progress_line : {S K : Type 0} {g : _} (way : Way) (Ends : List Answer → Type 0) (order : Order) (facts : S → Facts) (old now new : Session S K g) (script left next before after : Option (List ℕ)) (waiting more line : List ℕ) (said : List (Option Op)) (answers : List Answer)
    → Progress way AreWell order facts old now script left before after waiting → TakesLine left next true line → AnsweredIn way order facts now new (line ∷ []) said answers
    → (way.strict ≡ true → (front : List Answer) → AreWell front → Ends (front ++ replies_of said answers)) → more ≡ waiting ++ text_of said answers
    → Progress way Ends order facts old new script next before after more
progress_line way Ends order facts old now new script left next before after waiting more line said answers p takes answered behind is = record {
  lines = p.lines ++ line ∷ [];
  said = p.said ++ said;
  answers = p.answers ++ answers;
  shown = p.shown;
  leaves = leaves_fewer script left next p.lines line p.leaves takes;
  answered = answered_then way order facts old now new p.lines (line ∷ []) p.said said p.answers answers p.answered answered;
  ends = λ strict. subst Ends (sym (replies_then p.said said p.answers answers p.answered.allowed)) (behind strict (replies_of p.said p.answers) (p.ends strict));
  text =
      text_then p.said said p.answers answers p.answered.allowed ∙ ap (λ (t : List ℕ). t ++ text_of said answers) p.text ∙ append_assoc p.shown waiting (text_of said answers)
      ∙ ap (λ (t : List ℕ). p.shown ++ t) (sym is);
  written = p.written;
}

pub progress_shown : {S K : Type 0} {g : _} (way : Way) (order : Order) (facts : S → Facts) (old now : Session S K g) (script left before after later : Option (List ℕ)) (waiting still : List ℕ)
    → Progress way AreWell order facts old now script left before after waiting → Shows after later waiting still → Progress way AreWell order facts old now script left before later still
progress_shown way order facts old now script left before after later waiting still p shows = record {
  lines = p.lines;
  said = p.said;
  answers = p.answers;
  shown = p.shown ++ shows.0;
  leaves = p.leaves;
  answered = p.answered;
  ends = p.ends;
  text = p.text ∙ ap (λ (t : List ℕ). p.shown ++ t) shows.1 ∙ sym (append_assoc p.shown shows.0 still);
  written = appends_then before after later p.shown shows.0 p.written shows.2;
}

pub script_ends : {S K : Type 0} {g : _} (way : Way) (order : Order) (facts : S → Facts) (old now : Session S K g) (script left next before after later : Option (List ℕ)) (waiting line : List ℕ)
    → Progress way AreWell order facts old now script left before after waiting → TakesLine left next false line → Appends after later waiting → EndsIn way Whole order facts old now script before later
script_ends way order facts old now script left next before after later waiting line p takes written = record {
  lines = p.lines;
  said = p.said;
  answers = p.answers;
  taken = leaves_none script left next p.lines line p.leaves takes;
  answered = p.answered;
  ends = p.ends;
  written = subst (Appends before later) (sym p.text) (appends_then before after later p.shown waiting p.written written);
}

-- the last one was refused, and what waited of their text was written
pub script_early : {S K : Type 0} {g : _} (way : Way) (order : Order) (facts : S → Facts) (old now : Session S K g) (script left before after later : Option (List ℕ)) (waiting : List ℕ)
    → Progress way LastIsRefused order facts old now script left before after waiting → Appends after later waiting → EndsIn way EndedEarly order facts old now script before later
script_early way order facts old now script left before after later waiting p written = record {
  lines = p.lines;
  said = p.said;
  answers = p.answers;
  taken = leaves_some script left p.lines p.leaves;
  answered = p.answered;
  ends = p.ends;
  written = subst (Appends before later) (sym p.text) (appends_then before after later p.shown waiting p.written written);
}

pub script_stops : {S K : Type 0} {g : _} (way : Way) (Ends : List Answer → Type 0) (order : Order) (facts : S → Facts) (old now : Session S K g) (script left before after later : Option (List ℕ)) (waiting : List ℕ)
    → ((replies : List Answer) → Ends replies → MayEnd replies) → Progress way Ends order facts old now script left before after waiting → AppendsFront after later waiting
    → StoppedIn way order facts old now script before later
script_stops way Ends order facts old now script left before after later waiting may p front = record {
  lines = p.lines;
  said = p.said;
  answers = p.answers;
  taken = leaves_some script left p.lines p.leaves;
  answered = p.answered;
  ends = λ strict. may (replies_of p.said p.answers) (p.ends strict);
  written = (
    p.shown ++ front.0,
    front.1,
    p.text ∙ ap (λ (t : List ℕ). p.shown ++ t) front.2 ∙ sym (append_assoc p.shown front.0 front.1),
    appends_then before after later p.shown front.0 p.written front.3,
  );
}

-- none was refused
pub script_stops_well : {S K : Type 0} {g : _} (way : Way) (order : Order) (facts : S → Facts) (old now : Session S K g) (script left before after later : Option (List ℕ)) (waiting : List ℕ)
    → Progress way AreWell order facts old now script left before after waiting → AppendsFront after later waiting → StoppedIn way order facts old now script before later
script_stops_well way order facts old now script left before after later waiting p front =
    script_stops way AreWell order facts old now script left before after later waiting (λ replies well. inl well) p front

-- the last one was
pub script_stops_refused : {S K : Type 0} {g : _} (way : Way) (order : Order) (facts : S → Facts) (old now : Session S K g) (script left before after later : Option (List ℕ)) (waiting : List ℕ)
    → Progress way LastIsRefused order facts old now script left before after waiting → AppendsFront after later waiting → StoppedIn way order facts old now script before later
script_stops_refused way order facts old now script left before after later waiting p front =
    script_stops way LastIsRefused order facts old now script left before after later waiting (λ replies last. inr last) p front

-- the text stays, whether the line was answered or not
pub script_stops_at : {S K : Type 0} {g : _} (way : Way) (order : Order) (facts : S → Facts) (old now new : Session S K g) (script left next before after later : Option (List ℕ)) (waiting line : List ℕ) (lines : List (List ℕ)) (said : List (Option Op)) (answers : List Answer)
    → Progress way AreWell order facts old now script left before after waiting → TakesLine left next true line → ((lines ≡ []) ⊎ (lines ≡ line ∷ [])) → AnsweredIn way order facts now new lines said answers
    → AppendsFront after later waiting → StoppedIn way order facts old new script before later
script_stops_at way order facts old now new script left next before after later waiting line lines said answers p takes which answered front = record {
  lines = p.lines ++ lines;
  said = p.said ++ said;
  answers = p.answers ++ answers;
  taken = elim which [
    | inl none ↦ leaves_some script left (p.lines ++ lines) (subst (LeavesLines script left) (sym (ap (λ (ls : List (List ℕ)). p.lines ++ ls) none ∙ append-nil p.lines)) p.leaves)
    | inr one ↦ leaves_some script next (p.lines ++ lines) (subst (λ (ls : List (List ℕ)). LeavesLines script next (p.lines ++ ls)) (sym one) (leaves_fewer script left next p.lines line p.leaves takes))
  ];
  answered = answered_then way order facts old now new p.lines lines p.said said p.answers answers p.answered answered;
  ends = λ strict. subst MayEnd (sym (replies_then p.said said p.answers answers p.answered.allowed))
      (may_end_then (replies_of p.said p.answers) (replies_of said answers) (p.ends strict) (few_replies lines line said answers which answered.says answered.allowed));
  written = (
    p.shown ++ front.0,
    front.1 ++ text_of said answers,
    text_then p.said said p.answers answers p.answered.allowed ∙ ap (λ (t : List ℕ). t ++ text_of said answers) (p.text ∙ ap (λ (t : List ℕ). p.shown ++ t) front.2 ∙ sym (append_assoc p.shown front.0 front.1))
        ∙ append_assoc (p.shown ++ front.0) front.1 (text_of said answers),
    appends_then before after later p.shown front.0 p.written front.3,
  );
}
