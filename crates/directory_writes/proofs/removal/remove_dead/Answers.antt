use Rattle.std.proofs.Common.{ℕ, inl, inr, refl, sym, ◌∙◌}
use Rattle.std.specs.Prelude.{Contains}
use Rattle.store.proofs.Stopping.{others_same}
use Rattle.edits.specs.declared.names.FileName.{FileName}
use Rattle.directory_writes.specs.internal.Removal.{IsLeft}
use Rattle.directory_writes.specs.Removal.{IsDead, IsLiveFile}
use Rattle.directory_writes.proofs.Cleaning.{asked, live_stays, other_turn, this_turn}
use Rattle.directory_writes.proofs.Losing.{loses_asked, loses_none}
use Rattle.directory_writes.proofs.FewLeft.{few_asked, few_live, few_other}
use Rattle.directory_writes.proofs.Taking.{removed_only}
use Rattle.directory_writes.proofs.removal.remove_dead.Goals as goal

pub returns-then-is_live-clause-removes : goal.returns-then-is_live-clause-removes
returns-then-is_live-clause-removes g c =
    let live : FileName → Type 0 = IsLiveFile c.args.numbers.now (g.L.LiveTables.has c.args.live.now) (λ n. Contains c.args.both.now n) in
    let has : ℕ → Type 0 = λ n. Contains c.args.both.now n in
    live_stays (g.S.Store.facts c.args.store.now) (IsLeft live has c.args.last) c.args.name.now
    c.in-Some.file c.in-Some.ensures.found.0 (sym c.as_bytes.ensures.value ∙ c.in-Some.ensures.found.1) (inl c.if-is_live.ensures)

pub returns-then-has_two-last-clause-removes : goal.returns-then-has_two-last-clause-removes
returns-then-has_two-last-clause-removes g c =
    let live : FileName → Type 0 = IsLiveFile c.args.numbers.now (g.L.LiveTables.has c.args.live.now) (λ n. Contains c.args.both.now n) in
    let has : ℕ → Type 0 = λ n. Contains c.args.both.now n in
    live_stays (g.S.Store.facts c.args.store.now) (IsLeft live has c.args.last) c.args.name.now
    c.in-Some.file c.in-Some.ensures.found.0 (sym c.as_bytes.ensures.value ∙ c.in-Some.ensures.found.1)
    (inr (other_turn live has c.args.last c.has_two.result c.in-Some.file c.has_two.ensures c.if-has_two-last.true))

pub returns-clause-removes : goal.returns-clause-removes
returns-clause-removes g c =
    let live : FileName → Type 0 = IsLiveFile c.args.numbers.now (g.L.LiveTables.has c.args.live.now) (λ n. Contains c.args.both.now n) in
    let has : ℕ → Type 0 = λ n. Contains c.args.both.now n in
    let old = g.S.Store.facts c.args.store.now in
    let new = g.S.Store.facts c.remove.new.self in
    rw c.is_ok.ensures.value (asked old new (IsLeft live has c.args.last) c.args.name.now
    c.remove.result (
      c.in-Some.file,
      c.in-Some.ensures.found.0,
      sym c.as_bytes.ensures.value ∙ c.in-Some.ensures.found.1,
      λ stays. elim stays [
        | inl alive ↦ c.if-is_live.ensures alive
        | inr turn ↦ this_turn live has c.args.last c.has_two.result c.in-Some.file c.has_two.ensures c.if-has_two-last.false turn
      ],
    )
    c.remove.ensures.counts c.remove.ensures.files c.remove.ensures.synced c.remove.ensures.missing c.remove.ensures.memory)

pub returns-then-is_live-clause-few : goal.returns-then-is_live-clause-few
returns-then-is_live-clause-few g c =
    let live : FileName → Type 0 = IsLiveFile c.args.numbers.now (g.L.LiveTables.has c.args.live.now) (λ n. Contains c.args.both.now n) in
    let has : ℕ → Type 0 = λ n. Contains c.args.both.now n in
    few_live (g.S.Store.facts c.args.store.now) (IsLeft live has c.args.last) c.args.name.now (returns-then-is_live-clause-removes g c)

pub returns-then-has_two-last-clause-few : goal.returns-then-has_two-last-clause-few
returns-then-has_two-last-clause-few g c =
    let live : FileName → Type 0 = IsLiveFile c.args.numbers.now (g.L.LiveTables.has c.args.live.now) (λ n. Contains c.args.both.now n) in
    let has : ℕ → Type 0 = λ n. Contains c.args.both.now n in
    few_live (g.S.Store.facts c.args.store.now) (IsLeft live has c.args.last) c.args.name.now (returns-then-has_two-last-clause-removes g c)

pub returns-clause-few : goal.returns-clause-few
returns-clause-few g c =
    let live : FileName → Type 0 = IsLiveFile c.args.numbers.now (g.L.LiveTables.has c.args.live.now) (λ n. Contains c.args.both.now n) in
    let has : ℕ → Type 0 = λ n. Contains c.args.both.now n in
    few_asked (g.S.Store.facts c.args.store.now) (g.S.Store.facts c.remove.new.self) (IsLeft live has c.args.last) c.args.name.now
    c.is_ok.result c.remove.result c.remove.ensures.counts c.is_ok.ensures.value c.remove.ensures.missing c.remove.ensures.memory (returns-clause-removes g c)

pub returns-in_default-clause-few : goal.returns-in_default-clause-few
returns-in_default-clause-few g c =
    let live : FileName → Type 0 = IsLiveFile c.args.numbers.now (g.L.LiveTables.has c.args.live.now) (λ n. Contains c.args.both.now n) in
    let has : ℕ → Type 0 = λ n. Contains c.args.both.now n in
    few_other (g.S.Store.facts c.args.store.now) (IsLeft live has c.args.last) c.args.name.now (λ file is e. c.in_default.ensures.none file is (c.as_bytes.ensures.value ∙ e))

pub returns-then-is_live-clause-stops : goal.returns-then-is_live-clause-stops
returns-then-is_live-clause-stops g c f = loses_none (IsLiveFile c.args.numbers.now (g.L.LiveTables.has c.args.live.now) (λ n. Contains c.args.both.now n)) (g.S.Store.facts c.args.store.now)

pub returns-then-has_two-last-clause-stops : goal.returns-then-has_two-last-clause-stops
returns-then-has_two-last-clause-stops g c f = loses_none (IsLiveFile c.args.numbers.now (g.L.LiveTables.has c.args.live.now) (λ n. Contains c.args.both.now n)) (g.S.Store.facts c.args.store.now)

pub returns-in_default-clause-stops : goal.returns-in_default-clause-stops
returns-in_default-clause-stops g c f = loses_none (IsLiveFile c.args.numbers.now (g.L.LiveTables.has c.args.live.now) (λ n. Contains c.args.both.now n)) (g.S.Store.facts c.args.store.now)

pub returns-clause-stops : goal.returns-clause-stops
returns-clause-stops g c f =
    loses_asked (IsLiveFile c.args.numbers.now (g.L.LiveTables.has c.args.live.now) (λ n. Contains c.args.both.now n)) (g.S.Store.facts c.args.store.now) (g.S.Store.facts c.remove.new.self) c.args.name.now
    (c.in-Some.file, c.in-Some.ensures.found.0, sym c.as_bytes.ensures.value ∙ c.in-Some.ensures.found.1, c.if-is_live.ensures) (c.remove.ensures.calls.noted f)

pub returns-then-is_live-clause-only : goal.returns-then-is_live-clause-only
returns-then-is_live-clause-only g c f = others_same (g.S.Store.facts c.args.store.now) (g.S.Store.facts c.args.store.now) (IsDead (IsLiveFile c.args.numbers.now (g.L.LiveTables.has c.args.live.now) (λ n. Contains c.args.both.now n))) refl refl refl

pub returns-then-has_two-last-clause-only : goal.returns-then-has_two-last-clause-only
returns-then-has_two-last-clause-only g c f = others_same (g.S.Store.facts c.args.store.now) (g.S.Store.facts c.args.store.now) (IsDead (IsLiveFile c.args.numbers.now (g.L.LiveTables.has c.args.live.now) (λ n. Contains c.args.both.now n))) refl refl refl

pub returns-in_default-clause-only : goal.returns-in_default-clause-only
returns-in_default-clause-only g c f = others_same (g.S.Store.facts c.args.store.now) (g.S.Store.facts c.args.store.now) (IsDead (IsLiveFile c.args.numbers.now (g.L.LiveTables.has c.args.live.now) (λ n. Contains c.args.both.now n))) refl refl refl

pub returns-clause-only : goal.returns-clause-only
returns-clause-only g c f =
    let live : FileName → Type 0 = IsLiveFile c.args.numbers.now (g.L.LiveTables.has c.args.live.now) (λ n. Contains c.args.both.now n) in
    let has : ℕ → Type 0 = λ n. Contains c.args.both.now n in
    removed_only live (IsLeft live has c.args.last) (λ file alive. inl alive) (g.S.Store.facts c.args.store.now) (g.S.Store.facts c.remove.new.self) c.args.name.now
    (c.in-Some.file, c.in-Some.ensures.found.0, sym c.as_bytes.ensures.value ∙ c.in-Some.ensures.found.1, c.if-is_live.ensures) ((returns-clause-removes g c).files f) (c.remove.ensures.calls.noted f)
