use Rattle.std.proofs.Common.{IsTrue, ◌≤◌, ◌^◌, ◌≡◌, ◌++◌, ◌∷◌, [], is_some, ◌⊎◌, List, map, length, inl, inr, refl, sym, ap, subst, ◌∙◌, arith}
use Rattle.std.proofs.lemmas.List.{append_assoc, append-nil}
use Rattle.cursor.specs.Merging.{listed}
use Rattle.cursor.specs.Places.{within}
use Rattle.store.specs.Files.{Facts}
use Rattle.ikey.specs.Entries.{InternalEntry, entry_of}
use Rattle.std.proofs.lemmas.Result.{err_from_is_err_and}
use Rattle.compact.specs.Merging.{IsBetween, IsLimited, HaveOwnSequences, ReadsIntact}
use Rattle.compact.specs.Rooms.{AreLarge}
use Rattle.compact.specs.Outputs.{IsMineUpTo}
use Rattle.compact.proofs.Jobs.{job-more, job-all}
use Rattle.compact.proofs.Leavings.{leaves-all, leaves-on}
use Rattle.compact.proofs.Merges.{mine-on, writes-on}
use Rattle.compact.proofs.Passing.{some-left, none-left, not-ended, front-more, longer, not-true, not-false}
use Rattle.compact.proofs.Writing.{refuses-as, writes-nothing}
use Rattle.compact.proofs.Numbered.{numbers-same, numbers-then}
use Rattle.compact.proofs.job.Job.step.Goals as goal

pub loop-merged-preserved : goal.loop-merged-preserved
loop-merged-preserved g c =
    let a : Facts = g.S.Store.facts (g.H.HasStore.store_of c.args.source.now) in
    let b : Facts = g.S.Store.facts (g.H.HasStore.store_of c.loop-merged.source) in
    let d : Facts = g.S.Store.facts (g.H.HasStore.store_of c.merge_one.new.source) in
    let inv = c.loop-merged.invariant in (
      omega (arith, inv.0, c.in_ok-merge_one.ensures.numbers),
      c.in_ok-merge_one.ensures.snapshots ∙ inv.1,
      (λ came rest t h.
          let at = inv.2 came rest (c.in_ok-merge_one.ensures.writes.faithful t) h in
          let front = at.0 in
          let found = some-left (came ++ front) at.1
          (sym (g.met.C.Cursor.placed c.loop-merged.self.cursor c.loop-merged.source (listed ((came ++ front) ++ at.1) (within ((came ++ front) ++ at.1) (length (came ++ front)))) at.4.left) ∙ sym c.stands.ensures ∙ c.if-not-stands.false) in
          let entry = found.0 in (
            front ++ entry ∷ [],
            found.1,
            front-more rest front at.1 found.1 entry at.2 found.2,
            longer front entry c.loop-merged.merged at.3,
            job-all g.K.KeyOrder.cmp (g.D.DeeperFiles.covers c.args.deeper.now) g.S.Store g.H.HasStore g.C.Cursor
                c.merge_one.new.self c.merge_one.new.source c.merge_one.new.numbers.next ((came ++ front) ++ entry ∷ []) (came ++ (front ++ entry ∷ [])) found.1 (append_assoc came front (entry ∷ []))
                (c.in_ok-merge_one.ensures.merged (came ++ front) entry found.1 t
                (job-more g.K.KeyOrder.cmp (g.D.DeeperFiles.covers c.args.deeper.now) g.S.Store g.H.HasStore g.C.Cursor
                c.loop-merged.self c.loop-merged.source c.loop-merged.numbers.next (came ++ front) at.1 (entry ∷ found.1) found.2 at.4)),
            (λ past. at.5 (c.in_ok-merge_one.ensures.limits (came ++ front) entry found.1 t
                (job-more g.K.KeyOrder.cmp (g.D.DeeperFiles.covers c.args.deeper.now) g.S.Store g.H.HasStore g.C.Cursor
                c.loop-merged.self c.loop-merged.source c.loop-merged.numbers.next (came ++ front) at.1 (entry ∷ found.1) found.2 at.4) past)),
            (λ cut torn. at.6 cut (c.in_ok-merge_one.ensures.torn (came ++ front) entry found.1 t
                (job-more g.K.KeyOrder.cmp (g.D.DeeperFiles.covers c.args.deeper.now) g.S.Store g.H.HasStore g.C.Cursor
                c.loop-merged.self c.loop-merged.source c.loop-merged.numbers.next (came ++ front) at.1 (entry ∷ found.1) found.2 at.4) cut torn)),
          )),
      mine-on c.args.self.now.outputs c.loop-merged.self.outputs c.merge_one.new.self.outputs c.args.numbers.now.next c.loop-merged.numbers.next c.merge_one.new.numbers.next inv.0 c.in_ok-merge_one.ensures.numbers inv.3 c.in_ok-merge_one.ensures.mine,
      writes-on a b d c.args.self.now.outputs c.loop-merged.self.outputs c.args.numbers.now.next c.loop-merged.numbers.next c.merge_one.new.numbers.next inv.0 c.in_ok-merge_one.ensures.numbers inv.3 inv.4 c.in_ok-merge_one.ensures.writes,
      c.in_ok-merge_one.ensures.plan ∙ inv.5,
      omega (arith, inv.6, c.in_ok-merge_one.ensures.drawn),
      numbers-then c.args.self.now.outputs c.loop-merged.self.outputs c.merge_one.new.self.outputs c.args.numbers.now.next c.loop-merged.numbers.next c.merge_one.new.numbers.next inv.0 inv.7 c.in_ok-merge_one.ensures.numbered,
      c.in_ok-merge_one.ensures.stood ∙ inv.8,
      leaves-on g.S.Store.facts g.H.HasStore.store_of g.H.HasStore.with_store g.C.Cursor.facts g.C.Cursor.keeps g.C.Cursor.limited g.C.Cursor.torn g.C.Cursor.leaves g.C.Cursor.over g.C.Cursor.leaves_more
          c.args.self.now.outputs c.loop-merged.self.outputs c.args.numbers.now.next c.loop-merged.numbers.next c.merge_one.new.numbers.next c.args.self.now.cursor c.loop-merged.self.cursor c.merge_one.new.self.cursor c.args.source.now c.loop-merged.source c.merge_one.new.source
          inv.0 c.in_ok-merge_one.ensures.numbers inv.3 inv.9 c.in_ok-merge_one.ensures.leaves,
    )

pub loop-merged-init : goal.loop-merged-init
loop-merged-init g c =
    let a : Facts = g.S.Store.facts (g.H.HasStore.store_of c.args.source.now) in (
      omega arith,
      refl,
      (λ came rest t h. (
        [],
        rest,
        refl,
        refl,
        job-all g.K.KeyOrder.cmp (g.D.DeeperFiles.covers c.args.deeper.now) g.S.Store g.H.HasStore g.C.Cursor
            c.args.self.now c.args.source.now c.args.numbers.now.next came (came ++ []) rest (sym (append-nil came)) h,
        λ past. past,
        λ cut torn. torn,
      )),
      (λ n is. inl is),
      writes-nothing a (IsMineUpTo c.args.self.now.outputs c.args.numbers.now.next c.args.numbers.now.next),
      refl,
      omega arith,
      numbers-same c.args.self.now.outputs c.args.numbers.now.next,
      refl,
      leaves-all g.S.Store.facts g.H.HasStore.store_of g.H.HasStore.with_store g.C.Cursor.facts g.C.Cursor.keeps g.C.Cursor.limited g.C.Cursor.torn g.C.Cursor.leaves g.C.Cursor.over (IsMineUpTo c.args.self.now.outputs c.args.numbers.now.next c.args.numbers.now.next) c.args.self.now.cursor c.args.source.now,
    )

pub returns-in_err-merge_one-clause-writes : goal.returns-in_err-merge_one-clause-writes
returns-in_err-merge_one-clause-writes g c =
    writes-on (g.S.Store.facts (g.H.HasStore.store_of c.args.source.now)) (g.S.Store.facts (g.H.HasStore.store_of c.loop-merged.source)) (g.S.Store.facts (g.H.HasStore.store_of c.merge_one.new.source))
    c.args.self.now.outputs c.loop-merged.self.outputs c.args.numbers.now.next c.loop-merged.numbers.next c.merge_one.new.numbers.next c.loop-merged.invariant.0 c.in_err-merge_one.ensures.numbers c.loop-merged.invariant.3 c.loop-merged.invariant.4 c.in_err-merge_one.ensures.writes

pub returns-in_err-merge_one-clause-leaves : goal.returns-in_err-merge_one-clause-leaves
returns-in_err-merge_one-clause-leaves g c =
    leaves-on g.S.Store.facts g.H.HasStore.store_of g.H.HasStore.with_store g.C.Cursor.facts g.C.Cursor.keeps g.C.Cursor.limited g.C.Cursor.torn g.C.Cursor.leaves g.C.Cursor.over g.C.Cursor.leaves_more
    c.args.self.now.outputs c.loop-merged.self.outputs c.args.numbers.now.next c.loop-merged.numbers.next c.merge_one.new.numbers.next c.args.self.now.cursor c.loop-merged.self.cursor c.merge_one.new.self.cursor c.args.source.now c.loop-merged.source c.merge_one.new.source
    c.loop-merged.invariant.0 c.in_err-merge_one.ensures.numbers c.loop-merged.invariant.3 c.loop-merged.invariant.9 c.in_err-merge_one.ensures.leaves

pub returns-then-not-stands-clause-sliced : goal.returns-then-not-stands-clause-sliced
returns-then-not-stands-clause-sliced g c = λ came rest t h.
    let at = c.loop-merged.invariant.2 came rest t h in
    let all = (came ++ at.0) ++ at.1 in
    let none : at.1 ≡ [] = none-left (came ++ at.0) at.1
    (sym (g.met.C.Cursor.placed c.loop-merged.self.cursor c.loop-merged.source (listed all (within all (length (came ++ at.0)))) at.4.left) ∙ sym c.stands.ensures ∙ c.if-not-stands.true) in (
      at.0,
      at.1,
      at.2,
      record { long = at.3; most = omega (arith, c.loop-merged.auto.merged-end, c.max-merged-end.ensures); ended = λ e. none; going_on = λ e. cc },
      at.4,
    )

pub returns-clause-sliced : goal.returns-clause-sliced
returns-clause-sliced g c = λ came rest t h.
    let at = c.loop-merged.invariant.2 came rest t h in
    let all = (came ++ at.0) ++ at.1 in
    let stands_is : is_some (within all (length (came ++ at.0))) ≡ c.stands-2.result =
    sym (g.met.C.Cursor.placed c.loop-merged.self.cursor c.loop-merged.source (listed all (within all (length (came ++ at.0)))) at.4.left) ∙ sym c.stands-2.ensures in
    let long : length at.0 ≡ c.max.result = omega (arith, at.3, c.loop-merged-test.false, c.loop-merged.auto.merged-end, c.max.ensures, c.max-merged-end.ensures) in (
      at.0,
      at.1,
      at.2,
      record {
        long = long;
        most = omega (arith, c.max.ensures);
        ended = λ e. none-left (came ++ at.0) at.1 (stands_is ∙ not-true c.stands-2.result e);
        going_on = λ e. (c.max.ensures, not-ended (came ++ at.0) at.1 (stands_is ∙ not-false c.stands-2.result e));
      },
      at.4,
    )

pub returns-in_err-merge_one-clause-refused : goal.returns-in_err-merge_one-clause-refused
returns-in_err-merge_one-clause-refused g c =
    let a : Facts = g.S.Store.facts (g.H.HasStore.store_of c.args.source.now) in
    let b : Facts = g.S.Store.facts (g.H.HasStore.store_of c.loop-merged.source) in
    let d : Facts = g.S.Store.facts (g.H.HasStore.store_of c.merge_one.new.source) in
    let inv = c.loop-merged.invariant in
    let spent = 2 ^ 62 ≤ c.merge_one.new.numbers.next in
    let p = err_from_is_err_and c.from_residual.result c.from_residual.ensures.1 in
    rw (p.1, p.2) (refuses-as c.in_err-merge_one.field-0.0 a b d
    (IsTrue d.faithful → (came : List InternalEntry) (entry : InternalEntry) (rest : List InternalEntry)
    → IsBetween g.K.KeyOrder.cmp (g.D.DeeperFiles.covers c.args.deeper.now) g.S.Store g.H.HasStore g.C.Cursor c.loop-merged.self c.loop-merged.source c.loop-merged.numbers.next came (entry ∷ rest) → HaveOwnSequences (came ++ entry ∷ rest) → ReadsIntact g.C.Cursor.torn c.loop-merged.self c.loop-merged.source → ⊥) _ spent
    (IsTrue d.faithful → (came : List InternalEntry) (rest : List InternalEntry)
    → IsBetween g.K.KeyOrder.cmp (g.D.DeeperFiles.covers c.args.deeper.now) g.S.Store g.H.HasStore g.C.Cursor c.args.self.now c.args.source.now c.args.numbers.now.next came rest → HaveOwnSequences (came ++ rest) → ReadsIntact g.C.Cursor.torn c.args.self.now c.args.source.now → ⊥)
    (IsTrue d.faithful → (came : List InternalEntry) (rest : List InternalEntry)
    → IsBetween g.K.KeyOrder.cmp (g.D.DeeperFiles.covers c.args.deeper.now) g.S.Store g.H.HasStore g.C.Cursor c.args.self.now c.args.source.now c.args.numbers.now.next came rest
    → ReadsIntact g.C.Cursor.torn c.args.self.now c.args.source.now → IsLimited g.C.Cursor.limited c.args.self.now c.args.source.now ⊎ AreLarge (map entry_of (came ++ rest))) spent
    inv.8
    (λ none t came rest h own intact.
    let at = inv.2 came rest (c.in_err-merge_one.ensures.writes.faithful t) h in
    let all = (came ++ at.0) ++ at.1 in
    let found = some-left (came ++ at.0) at.1
    (sym (g.met.C.Cursor.placed c.loop-merged.self.cursor c.loop-merged.source (listed all (within all (length (came ++ at.0)))) at.4.left) ∙ sym c.stands.ensures ∙ c.if-not-stands.false) in
    none t (came ++ at.0) found.0 found.1
    (job-more g.K.KeyOrder.cmp (g.D.DeeperFiles.covers c.args.deeper.now) g.S.Store g.H.HasStore g.C.Cursor c.loop-merged.self c.loop-merged.source c.loop-merged.numbers.next (came ++ at.0) at.1 (found.0 ∷ found.1) found.2 at.4)
    (subst HaveOwnSequences (ap (λ (l : List InternalEntry). came ++ l) (at.2 ∙ ap (λ (l : List InternalEntry). at.0 ++ l) found.2) ∙ sym (append_assoc came at.0 (found.0 ∷ found.1))) own) (λ cut torn. intact cut (at.6 cut torn)))
    (λ long t came rest h intact.
    let at = inv.2 came rest (c.in_err-merge_one.ensures.writes.faithful t) h in
    let all = (came ++ at.0) ++ at.1 in
    let found = some-left (came ++ at.0) at.1
    (sym (g.met.C.Cursor.placed c.loop-merged.self.cursor c.loop-merged.source (listed all (within all (length (came ++ at.0)))) at.4.left) ∙ sym c.stands.ensures ∙ c.if-not-stands.false) in
    elim (long t (came ++ at.0) found.0 found.1
    (job-more g.K.KeyOrder.cmp (g.D.DeeperFiles.covers c.args.deeper.now) g.S.Store g.H.HasStore g.C.Cursor c.loop-merged.self c.loop-merged.source c.loop-merged.numbers.next (came ++ at.0) at.1 (found.0 ∷ found.1) found.2 at.4) (λ cut torn. intact cut (at.6 cut torn))) [
      | inl past ↦ inl (at.5 past)
      | inr many ↦ inr (subst (λ (es : List InternalEntry). AreLarge (map entry_of es))
          (append_assoc came at.0 (found.0 ∷ found.1) ∙ ap (λ (l : List InternalEntry). came ++ l) (ap (λ (l : List InternalEntry). at.0 ++ l) (sym found.2) ∙ sym at.2)) many)
    ])
    (λ u. u) c.in_err-merge_one.ensures.refused)

pub returns-then-not-stands-clause-limits : goal.returns-then-not-stands-clause-limits
returns-then-not-stands-clause-limits g c = λ came rest t h past. (c.loop-merged.invariant.2 came rest t h).5 past

pub returns-clause-limits : goal.returns-clause-limits
returns-clause-limits g c = λ came rest t h past. (c.loop-merged.invariant.2 came rest t h).5 past

pub returns-then-not-stands-clause-torn : goal.returns-then-not-stands-clause-torn
returns-then-not-stands-clause-torn g c = λ came rest t h cut torn. (c.loop-merged.invariant.2 came rest t h).6 cut torn

pub returns-clause-torn : goal.returns-clause-torn
returns-clause-torn g c = λ came rest t h cut torn. (c.loop-merged.invariant.2 came rest t h).6 cut torn
