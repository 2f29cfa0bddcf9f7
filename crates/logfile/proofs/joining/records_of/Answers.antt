use Rattle.std.proofs.Common.{◌≡◌, ℕ, ◌++◌, ◌+◌, get_or, [], List, Bool, false, drop, map, sym, ap, ◌∙◌, subst, append_assoc, arith}
use Rattle.std.specs.Global.{Vec}
use Rattle.std.proofs.lemmas.Result.{err_from_is_err_and}
use Rattle.std.proofs.lemmas.List.{append-nil}
use Rattle.coding.proofs.Refusals.{refuses_whole, names_whole}
use Rattle.coding.specs.declared.error.Damage.{Damage}
use Rattle.coding.specs.declared.error.Damage.TheVariants.{Order}
use Rattle.logfile.specs.Faults.{IsOutOfOrder}
use Rattle.logfile.proofs.Faulty.{misplaced_order, takes_order}
use Rattle.logfile.specs.Log.{Fragment, Join}
use Rattle.logfile.specs.Joining.{IsMisplaced}
use Rattle.logfile.specs.Views.{view, views}
use Rattle.logfile.proofs.Joins.{JoinFrom, NoJoin, takes_grows, takes_none, misplaced_none, nothing_left, views_at, views_done}
use Rattle.logfile.specs.declared.kind.Kind.TheVariants.{Full}
use Rattle.logfile.specs.declared.fragment.Fragment.{Fragment as CodeFragment}
use Rattle.logfile.proofs.joining.records_of.Goals as goal

-- what a read past the end would give
abbrev nothing : CodeFragment
nothing = record { kind = Full; «data» = record { ref_ptr = (0, 0); now = [] } }

pub returns-in_err-inside-clause-refused : goal.returns-in_err-inside-clause-refused
returns-in_err-inside-clause-refused c =
    let p = err_from_is_err_and c.from_residual.result c.from_residual.ensures.1 in
    let all = c.args.fragments.now in
    let i = c.loop-fragment.fragment-index in
    let f = get_or all i nothing in
    let front = c.loop-fragment.unfinished.items in
    let inside = c.loop-fragment.inside in
    let more = views_at all i nothing c.loop-fragment-test.true in
    rw (p.1, p.2) (refuses_whole (IsMisplaced inside (view f)) ((records : List (List ℕ)) (begun : Bool) → Join false (views all) records begun → ⊥) c.in_err-inside.field-0.0
    (λ m. c.loop-fragment.invariant.none (subst (λ (v : List Fragment). NoJoin inside front v) (sym more) (misplaced_none inside front (view f) (views (drop (i + 1) all)) m))) c.in_err-inside.ensures.refused)

pub returns-in_err-inside-clause-cause : goal.returns-in_err-inside-clause-cause
returns-in_err-inside-clause-cause c =
    let p = err_from_is_err_and c.from_residual.result c.from_residual.ensures.1 in
    let all = c.args.fragments.now in
    let i = c.loop-fragment.fragment-index in
    let f = get_or all i nothing in
    let inside = c.loop-fragment.inside in
    let more = views_at all i nothing c.loop-fragment-test.true in
    rw (p.1, p.2) (names_whole (λ (what : Damage). (what ≡ Order) × IsMisplaced inside (view f)) (λ (what : Damage). (what ≡ Order) × IsOutOfOrder false (views all)) c.in_err-inside.field-0.0
    (λ what h. (h.0, c.loop-fragment.invariant.faulty (subst (λ (v : List Fragment). IsOutOfOrder inside v) (sym more) (misplaced_order inside (view f) (views (drop (i + 1) all)) h.1)))) c.in_err-inside.ensures.cause)

pub loop-fragment-preserved : goal.loop-fragment-preserved
loop-fragment-preserved c =
    let all = c.args.fragments.now in
    let i = c.loop-fragment.fragment-index in
    let f = get_or all i nothing in
    let front = c.loop-fragment.unfinished.items in
    let inside = c.loop-fragment.inside in
    let rest = views (drop (i + 1) all) in
    let found = c.in_ok-inside.ensures.found in
    let next = views_at all i nothing c.loop-fragment-test.true in
    let old = map (λ (r : Vec ℕ). r.items) c.loop-fragment.records.items in
    record {
      grows = λ more b k.
          subst (λ (v : List (List ℕ)). Join false (views all) v b) (sym (append_assoc old found.0 more) ∙ ap (λ (v : List (List ℕ)). v ++ more) (sym found.2))
          (c.loop-fragment.invariant.grows (found.0 ++ more) b
          (subst (λ (v : List Fragment). JoinFrom inside front v (found.0 ++ more) b) (sym next) (takes_grows inside _ front _ (view f) rest found.0 more b found.1 k)));
      faulty = λ k. c.loop-fragment.invariant.faulty (subst (λ (v : List Fragment). IsOutOfOrder inside v) (sym next) (takes_order inside _ front _ (view f) rest found.0 found.1 k));
      none = λ none. c.loop-fragment.invariant.none (subst (λ (v : List Fragment). NoJoin inside front v) (sym next) (takes_none inside _ front _ (view f) rest found.0 found.1 none));
    }

pub returns-clause-found : goal.returns-clause-found
returns-clause-found c =
    let all = c.args.fragments.now in
    let i = c.loop-fragment.fragment-index in
    let inside = c.loop-fragment.inside in
    let front = c.loop-fragment.unfinished.items in
    let old = map (λ (r : Vec ℕ). r.items) c.loop-fragment.records.items in
    subst (λ (v : List (List ℕ)). Join false (views all) v inside) (append-nil old)
    (c.loop-fragment.invariant.grows [] inside (subst (λ (v : List Fragment). JoinFrom inside front v [] inside) (sym (views_done all i (omega arith))) (nothing_left inside front)))
