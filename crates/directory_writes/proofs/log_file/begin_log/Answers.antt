use Rattle.std.proofs.Common.{◌≡◌, ◌⊎◌, ◌+◌, ℕ, List, String, Result, Ok, Err, None, inl, inr, refl, sym, ap, subst, ◌∙◌, arith, rules}
use Rattle.std.specs.declared.alloc.Global.{Global}
use Rattle.coding.specs.declared.error.DbError.{DbError}
use Rattle.coding.specs.declared.error.DbError.TheVariants.{OutOfMemory}
use Rattle.edits.specs.Names.{name_of, IsNumbered}
use Rattle.edits.specs.declared.names.FileName.TheVariants.{Log}
use Rattle.store.specs.Calls.{Adds, Idles}
use Rattle.store.specs.Files.{Creation}
use Rattle.store.specs.Losses.{CarriesBut}
use Rattle.store.proofs.Carrying.{carries_writes}
use Rattle.directory_writes.specs.internal.Calls.{Creates}
use Rattle.directory_writes.specs.internal.LogFile.{BeginsLog}
use Rattle.directory_writes.proofs.Carrying.{carries_none}
use Rattle.directory_writes.proofs.LogsBegun.{BeginsEach, begins_each, begins_none, stopped_each, unstopped_each}
use Rattle.directory_writes.proofs.NewLogFiles.{begins, maybe_made, log_stopped, log_unstopped}
use Rattle.directory_writes.proofs.log_file.begin_log.Goals as goal

pub returns-in_err-name-clause-begins : goal.returns-in_err-name-clause-begins
returns-in_err-name-clause-begins g c order =
    let old = g.S.Store.facts c.args.store.now in
    let next = c.args.numbers.now.next in
    let after = c.draw.new.self.next in
    let drawn = c.in_ok-number.ensures in
    let numbered : IsNumbered next = (omega (arith, drawn.0, drawn.3), omega (arith, drawn.0, drawn.2)) in
    let more : after ≡ next + 1 = omega (arith, drawn.0, drawn.1) in
    let is : c.from_residual-in_err-name.result ≡ Err OutOfMemory = search rules in
    subst (λ (r : Result (ℕ × String Global) DbError). BeginsLog order old old next after r) (sym is)
    (begins order c.begin_log_law.ensures next numbered old old after (Err OutOfMemory) more (λ f. inl refl) (λ f. tt))

pub returns-in_err-create_file-clause-begins : goal.returns-in_err-create_file-clause-begins
returns-in_err-create_file-clause-begins g c order =
    let old = g.S.Store.facts c.args.store.now in
    let new = g.S.Store.facts c.create_file.new.store in
    let next = c.args.numbers.now.next in
    let after = c.draw.new.self.next in
    let drawn = c.in_ok-number.ensures in
    let numbered : IsNumbered next = (omega (arith, drawn.0, drawn.3), omega (arith, drawn.0, drawn.2)) in
    let more : after ≡ next + 1 = omega (arith, drawn.0, drawn.1) in
    let e = c.in_err-create_file.field-0.0 in
    let is : c.from_residual-in_err-create_file.result ≡ Err e = search rules in
    let named : c.as_str.result.now ≡ name_of (Log next) = c.as_str.ensures.value ∙ c.in_ok-name.ensures ∙ ap (λ (n : ℕ). name_of (Log n)) drawn.0 in
    let made = subst (λ (name : List ℕ). Creates old new name (Err e)) named c.in_err-create_file.ensures.creates in
    subst (λ (r : Result (ℕ × String Global) DbError). BeginsLog order old new next after r) (sym is)
    (begins order c.begin_log_law.ensures next numbered old new after (Err e) more (maybe_made old new next e c.in_err-create_file.ensures.refused made) (λ f. tt))

pub returns-clause-begins : goal.returns-clause-begins
returns-clause-begins g c order =
    let old = g.S.Store.facts c.args.store.now in
    let new = g.S.Store.facts c.create_file.new.store in
    let next = c.args.numbers.now.next in
    let after = c.draw.new.self.next in
    let drawn = c.in_ok-number.ensures in
    let numbered : IsNumbered next = (omega (arith, drawn.0, drawn.3), omega (arith, drawn.0, drawn.2)) in
    let more : after ≡ next + 1 = omega (arith, drawn.0, drawn.1) in
    let named : c.as_str.result.now ≡ name_of (Log next) = c.as_str.ensures.value ∙ c.in_ok-name.ensures ∙ ap (λ (n : ℕ). name_of (Log n)) drawn.0 in
    let made = subst (λ (name : List ℕ). Creates old new name (Ok c.in_ok-create_file.field-0)) named c.in_ok-create_file.ensures.creates in
    begins order c.begin_log_law.ensures next numbered old new after (Ok (c.in_ok-number.number, c.in_ok-name.name)) more (λ f. inr (made.ok f)) made.ok

pub returns-in_err-number-clause-stops : goal.returns-in_err-number-clause-stops
returns-in_err-number-clause-stops g c f order = log_unstopped order c.args.numbers.now.next (g.S.Store.facts c.args.store.now) (g.S.Store.facts c.args.store.now) refl

pub returns-in_err-name-clause-stops : goal.returns-in_err-name-clause-stops
returns-in_err-name-clause-stops g c f order = log_unstopped order c.args.numbers.now.next (g.S.Store.facts c.args.store.now) (g.S.Store.facts c.args.store.now) refl

pub returns-in_err-create_file-clause-stops : goal.returns-in_err-create_file-clause-stops
returns-in_err-create_file-clause-stops g c f order =
    let next = c.args.numbers.now.next in
    let drawn = c.in_ok-number.ensures in
    let named : c.as_str.result.now ≡ name_of (Log next) = c.as_str.ensures.value ∙ c.in_ok-name.ensures ∙ ap (λ (n : ℕ). name_of (Log n)) drawn.0 in
    log_stopped order next (g.S.Store.facts c.args.store.now) c.begin_log_law.ensures (omega (arith, drawn.0, drawn.3), omega (arith, drawn.0, drawn.2)) c.as_str.result.now named
    (g.S.Store.facts c.create_file.new.store) (c.create_file.ensures.stops f)

pub returns-clause-stops : goal.returns-clause-stops
returns-clause-stops g c f order =
    let next = c.args.numbers.now.next in
    let drawn = c.in_ok-number.ensures in
    let named : c.as_str.result.now ≡ name_of (Log next) = c.as_str.ensures.value ∙ c.in_ok-name.ensures ∙ ap (λ (n : ℕ). name_of (Log n)) drawn.0 in
    log_stopped order next (g.S.Store.facts c.args.store.now) c.begin_log_law.ensures (omega (arith, drawn.0, drawn.3), omega (arith, drawn.0, drawn.2)) c.as_str.result.now named
    (g.S.Store.facts c.create_file.new.store) (c.create_file.ensures.stops f)

-- ---- in each directory that differs in tables alone

pub returns-in_err-number-clause-begins_each : goal.returns-in_err-number-clause-begins_each
returns-in_err-number-clause-begins_each g c order =
    let old = g.S.Store.facts c.args.store.now in
    let next = c.args.numbers.now.next in
    let e = c.in_err-number.field-0.0 in
    let is : c.from_residual.result ≡ Err e = search rules in
    let same : c.draw.new.self.next ≡ next = search rules in
    subst (λ (r : Result (ℕ × String Global) DbError). BeginsEach order old old next c.draw.new.self.next r) (sym is)
    (subst (λ (n : ℕ). BeginsEach {T = ℕ × String Global} order old old next n (Err e)) (sym same) (begins_none order old next e))

pub returns-in_err-name-clause-begins_each : goal.returns-in_err-name-clause-begins_each
returns-in_err-name-clause-begins_each g c order =
    let old = g.S.Store.facts c.args.store.now in
    let next = c.args.numbers.now.next in
    let after = c.draw.new.self.next in
    let drawn = c.in_ok-number.ensures in
    let numbered : IsNumbered next = (omega (arith, drawn.0, drawn.3), omega (arith, drawn.0, drawn.2)) in
    let more : after ≡ next + 1 = omega (arith, drawn.0, drawn.1) in
    let is : c.from_residual-in_err-name.result ≡ Err OutOfMemory = search rules in
    subst (λ (r : Result (ℕ × String Global) DbError). BeginsEach order old old next after r) (sym is)
    (begins_each next numbered order c.begin_log_law.ensures old old after (Err OutOfMemory) more (λ f. inl refl) (λ f. tt))

pub returns-in_err-create_file-clause-begins_each : goal.returns-in_err-create_file-clause-begins_each
returns-in_err-create_file-clause-begins_each g c order =
    let old = g.S.Store.facts c.args.store.now in
    let new = g.S.Store.facts c.create_file.new.store in
    let next = c.args.numbers.now.next in
    let after = c.draw.new.self.next in
    let drawn = c.in_ok-number.ensures in
    let numbered : IsNumbered next = (omega (arith, drawn.0, drawn.3), omega (arith, drawn.0, drawn.2)) in
    let more : after ≡ next + 1 = omega (arith, drawn.0, drawn.1) in
    let e = c.in_err-create_file.field-0.0 in
    let is : c.from_residual-in_err-create_file.result ≡ Err e = search rules in
    let named : c.as_str.result.now ≡ name_of (Log next) = c.as_str.ensures.value ∙ c.in_ok-name.ensures ∙ ap (λ (n : ℕ). name_of (Log n)) drawn.0 in
    let made = subst (λ (name : List ℕ). Creates old new name (Err e)) named c.in_err-create_file.ensures.creates in
    subst (λ (r : Result (ℕ × String Global) DbError). BeginsEach order old new next after r) (sym is)
    (begins_each next numbered order c.begin_log_law.ensures old new after (Err e) more (maybe_made old new next e c.in_err-create_file.ensures.refused made) (λ f. tt))

pub returns-clause-begins_each : goal.returns-clause-begins_each
returns-clause-begins_each g c order =
    let old = g.S.Store.facts c.args.store.now in
    let new = g.S.Store.facts c.create_file.new.store in
    let next = c.args.numbers.now.next in
    let after = c.draw.new.self.next in
    let drawn = c.in_ok-number.ensures in
    let numbered : IsNumbered next = (omega (arith, drawn.0, drawn.3), omega (arith, drawn.0, drawn.2)) in
    let more : after ≡ next + 1 = omega (arith, drawn.0, drawn.1) in
    let named : c.as_str.result.now ≡ name_of (Log next) = c.as_str.ensures.value ∙ c.in_ok-name.ensures ∙ ap (λ (n : ℕ). name_of (Log n)) drawn.0 in
    let made = subst (λ (name : List ℕ). Creates old new name (Ok c.in_ok-create_file.field-0)) named c.in_ok-create_file.ensures.creates in
    begins_each next numbered order c.begin_log_law.ensures old new after (Ok (c.in_ok-number.number, c.in_ok-name.name)) more (λ f. inr (made.ok f)) made.ok

pub returns-in_err-number-clause-stops_each : goal.returns-in_err-number-clause-stops_each
returns-in_err-number-clause-stops_each g c f order = unstopped_each order c.args.numbers.now.next (g.S.Store.facts c.args.store.now)

pub returns-in_err-name-clause-stops_each : goal.returns-in_err-name-clause-stops_each
returns-in_err-name-clause-stops_each g c f order = unstopped_each order c.args.numbers.now.next (g.S.Store.facts c.args.store.now)

pub returns-in_err-create_file-clause-stops_each : goal.returns-in_err-create_file-clause-stops_each
returns-in_err-create_file-clause-stops_each g c f order =
    let next = c.args.numbers.now.next in
    let drawn = c.in_ok-number.ensures in
    let named : c.as_str.result.now ≡ name_of (Log next) = c.as_str.ensures.value ∙ c.in_ok-name.ensures ∙ ap (λ (n : ℕ). name_of (Log n)) drawn.0 in
    stopped_each next (omega (arith, drawn.0, drawn.3), omega (arith, drawn.0, drawn.2)) order c.begin_log_law.ensures (g.S.Store.facts c.args.store.now) c.as_str.result.now named
    (g.S.Store.facts c.create_file.new.store) (c.create_file.ensures.stops f)

pub returns-clause-stops_each : goal.returns-clause-stops_each
returns-clause-stops_each g c f order =
    let next = c.args.numbers.now.next in
    let drawn = c.in_ok-number.ensures in
    let named : c.as_str.result.now ≡ name_of (Log next) = c.as_str.ensures.value ∙ c.in_ok-name.ensures ∙ ap (λ (n : ℕ). name_of (Log n)) drawn.0 in
    stopped_each next (omega (arith, drawn.0, drawn.3), omega (arith, drawn.0, drawn.2)) order c.begin_log_law.ensures (g.S.Store.facts c.args.store.now) c.as_str.result.now named
    (g.S.Store.facts c.create_file.new.store) (c.create_file.ensures.stops f)

-- ---- which names stay through it

pub returns-in_err-number-clause-carries : goal.returns-in_err-number-clause-carries
returns-in_err-number-clause-carries g c f = carries_none (g.S.Store.facts c.args.store.now) (λ (q : List ℕ). q ≡ name_of (Log c.args.numbers.now.next))

pub returns-in_err-name-clause-carries : goal.returns-in_err-name-clause-carries
returns-in_err-name-clause-carries g c f = carries_none (g.S.Store.facts c.args.store.now) (λ (q : List ℕ). q ≡ name_of (Log c.args.numbers.now.next))

pub returns-in_err-create_file-clause-carries : goal.returns-in_err-create_file-clause-carries
returns-in_err-create_file-clause-carries g c f =
    let old = g.S.Store.facts c.args.store.now in
    let new = g.S.Store.facts c.create_file.new.store in
    let next = c.args.numbers.now.next in
    let drawn = c.in_ok-number.ensures in
    let named : c.as_str.result.now ≡ name_of (Log next) = c.as_str.ensures.value ∙ c.in_ok-name.ensures ∙ ap (λ (n : ℕ). name_of (Log n)) drawn.0 in
    subst (λ (name : List ℕ). CarriesBut old new (λ (q : List ℕ). q ≡ name)) named (carries_writes old new (λ (q : List ℕ). q ≡ c.as_str.result.now) (c.create_file.ensures.only f))

pub returns-clause-carries : goal.returns-clause-carries
returns-clause-carries g c f =
    let old = g.S.Store.facts c.args.store.now in
    let new = g.S.Store.facts c.create_file.new.store in
    let next = c.args.numbers.now.next in
    let drawn = c.in_ok-number.ensures in
    let named : c.as_str.result.now ≡ name_of (Log next) = c.as_str.ensures.value ∙ c.in_ok-name.ensures ∙ ap (λ (n : ℕ). name_of (Log n)) drawn.0 in
    subst (λ (name : List ℕ). CarriesBut old new (λ (q : List ℕ). q ≡ name)) named (carries_writes old new (λ (q : List ℕ). q ≡ c.as_str.result.now) (c.create_file.ensures.only f))

-- ---- and that the log is made, with nothing of it synced

pub returns-in_err-number-clause-noted : goal.returns-in_err-number-clause-noted
returns-in_err-number-clause-noted g c f = inl (refl, refl)

pub returns-in_err-name-clause-noted : goal.returns-in_err-name-clause-noted
returns-in_err-name-clause-noted g c f = inl (refl, refl)

pub returns-in_err-create_file-clause-noted : goal.returns-in_err-create_file-clause-noted
returns-in_err-create_file-clause-noted g c f =
    let old = g.S.Store.facts c.args.store.now in
    let new = g.S.Store.facts c.create_file.new.store in
    let next = c.args.numbers.now.next in
    let drawn = c.in_ok-number.ensures in
    let named : c.as_str.result.now ≡ name_of (Log next) = c.as_str.ensures.value ∙ c.in_ok-name.ensures ∙ ap (λ (n : ℕ). name_of (Log n)) drawn.0 in
    subst (λ (name : List ℕ). Idles old new ⊎ Adds old new (Creation name)) named (c.create_file.ensures.noted f)

pub returns-clause-noted : goal.returns-clause-noted
returns-clause-noted g c f =
    let old = g.S.Store.facts c.args.store.now in
    let new = g.S.Store.facts c.create_file.new.store in
    let next = c.args.numbers.now.next in
    let drawn = c.in_ok-number.ensures in
    let named : c.as_str.result.now ≡ name_of (Log next) = c.as_str.ensures.value ∙ c.in_ok-name.ensures ∙ ap (λ (n : ℕ). name_of (Log n)) drawn.0 in
    subst (λ (name : List ℕ). Idles old new ⊎ Adds old new (Creation name)) named (c.create_file.ensures.noted f)

pub returns-clause-unsynced : goal.returns-clause-unsynced
returns-clause-unsynced g c f =
    let old = g.S.Store.facts c.args.store.now in
    let new = g.S.Store.facts c.create_file.new.store in
    let next = c.args.numbers.now.next in
    let drawn = c.in_ok-number.ensures in
    let named : c.as_str.result.now ≡ name_of (Log next) = c.as_str.ensures.value ∙ c.in_ok-name.ensures ∙ ap (λ (n : ℕ). name_of (Log n)) drawn.0 in
    subst (λ (name : List ℕ). new.synced name ≡ None) named (c.in_ok-create_file.ensures.unsynced f)
