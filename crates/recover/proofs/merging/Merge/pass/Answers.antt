use Rattle.std.proofs.Common.{◌≡◌, true, false, Some, length, refl, sym, subst, arith, IsTrue}
use Rattle.std.specs.Prelude.{slice_get, slice_set}
use Rattle.std.proofs.lemmas.Result.{err_from_is_err_and}
use Rattle.std.proofs.lemmas.Option.{slice_get_read}
use Rattle.ikey.specs.Orders.{order_of}
use Rattle.store.specs.Files.{Facts}
use Rattle.recover.specs.declared.merging.Lane.{Lane}
use Rattle.recover.specs.declared.report.TableSummary.{TableSummary}
use Rattle.recover.specs.internal.MergeSteps.{stamps, IsMid, RefusesMerge}
use Rattle.recover.specs.Limits.{AnyIsUnsupported, TellsUnsupported}
use Rattle.recover.proofs.Merged.{set_same, set_other}
use Rattle.recover.proofs.MergeParts.{judge_refused, judge_told, walk_refused, walk_told}
use Rattle.recover.proofs.MergeSteps.{step_on, step_end, goes_at, least_at, within_least, summary_read, counted_is, fits_lanes, fits_counted, lanes_moved}
use Rattle.recover.proofs.merging.Merge.pass.Goals as goal

pub returns-in_err-judge-clause-told : goal.returns-in_err-judge-clause-told
returns-in_err-judge-clause-told g c =
    let p = err_from_is_err_and c.from_residual.result c.from_residual.ensures.1 in
    let a = g.S.Store.facts c.args.store.now in
    let against = c.args.against in
    rw (p.1, p.2) (judge_told (stamps against.logged.now) against.recorded c.args.self.now.last c.index_mut-lane.result.now c.in_err-judge.field-0.0 (g.S.Store.facts c.judge.new.store)
    (AnyIsUnsupported (order_of g.K.KeyOrder.name g.K.KeyOrder.cmp) a.files against.tables.now) c.in_err-judge.ensures.refused)

pub returns-in_err-judge-clause-refused : goal.returns-in_err-judge-clause-refused
returns-in_err-judge-clause-refused g c =
    let p = err_from_is_err_and c.from_residual.result c.from_residual.ensures.1 in
    let order = order_of g.K.KeyOrder.name g.K.KeyOrder.cmp in
    let a = g.S.Store.facts c.args.store.now in
    let b = g.S.Store.facts c.judge.new.store in
    let merge = c.args.self.now in
    let lanes = merge.lanes.items in
    let lane = c.index_mut-lane.result.now in
    let at : slice_get lanes c.args.index ≡ Some lane = slice_get_read lanes (length lanes) c.args.index lane refl (within_least order lanes c.args.index c.requires.least) c.index_mut-lane.ensures.value in
    let stands = (least_at order lanes c.args.index lane c.requires.least at).0 in
    let same : b ≡ a = c.in_err-judge.ensures.same in
    rw (p.1, p.2) (judge_refused order g.met.K.KeyOrder.total c.in_err-judge.field-0.0 a b c.args.against merge c.args.index lane c.requires.sound at stands
    (λ t. c.requires.mid (subst (λ (f : Facts). IsTrue f.faithful) same t)) c.in_err-judge.ensures.refused)

pub placed_at-placed-requires : goal.placed_at-placed-requires
placed_at-placed-requires g c =
    let order = order_of g.K.KeyOrder.name g.K.KeyOrder.cmp in
    let lanes = c.args.self.now.lanes.items in
    let lane = c.index_mut-lane.result.now in
    c.requires.fits.lanes c.args.index lane (slice_get_read lanes (length lanes) c.args.index lane refl (within_least order lanes c.args.index c.requires.least) c.index_mut-lane.ensures.value)

pub returns-in_err-go_on-clause-told : goal.returns-in_err-go_on-clause-told
returns-in_err-go_on-clause-told g c =
    let p = err_from_is_err_and c.from_residual-in_err-go_on.result c.from_residual-in_err-go_on.ensures.1 in
    let order = order_of g.K.KeyOrder.name g.K.KeyOrder.cmp in
    let a = g.S.Store.facts c.args.store.now in
    let b = g.S.Store.facts c.judge.new.store in
    let d = g.S.Store.facts c.go_on.new.store in
    let merge = c.args.self.now in
    let lanes = merge.lanes.items in
    let lane = c.index_mut-lane.result.now in
    let at : slice_get lanes c.args.index ≡ Some lane = slice_get_read lanes (length lanes) c.args.index lane refl (within_least order lanes c.args.index c.requires.least) c.index_mut-lane.ensures.value in
    let stands = (least_at order lanes c.args.index lane c.requires.least at).0 in
    let same : b ≡ a = c.in_ok-judge.ensures.same in
    let T : Facts → Type 0 = λ f. TellsUnsupported c.in_err-go_on.field-0.0 d (AnyIsUnsupported order f.files c.args.against.tables.now) in
    rw (p.1, p.2) (subst T same (walk_told order b d c.args.against merge c.args.index lane c.placed_at-placed.result.now at stands c.placed_at-placed.ensures
    (λ t. (let t' = c.in_err-go_on.ensures.store.faithful t in let M : Facts → Type 0 = λ f. IsTrue f.faithful → IsMid order f.files c.args.against merge in subst M (sym same) c.requires.mid t'))
    c.in_err-go_on.field-0.0 c.in_err-go_on.ensures.told))

pub returns-in_err-go_on-clause-refused : goal.returns-in_err-go_on-clause-refused
returns-in_err-go_on-clause-refused g c =
    let p = err_from_is_err_and c.from_residual-in_err-go_on.result c.from_residual-in_err-go_on.ensures.1 in
    let order = order_of g.K.KeyOrder.name g.K.KeyOrder.cmp in
    let a = g.S.Store.facts c.args.store.now in
    let b = g.S.Store.facts c.judge.new.store in
    let d = g.S.Store.facts c.go_on.new.store in
    let merge = c.args.self.now in
    let lanes = merge.lanes.items in
    let lane = c.index_mut-lane.result.now in
    let at : slice_get lanes c.args.index ≡ Some lane = slice_get_read lanes (length lanes) c.args.index lane refl (within_least order lanes c.args.index c.requires.least) c.index_mut-lane.ensures.value in
    let stands = (least_at order lanes c.args.index lane c.requires.least at).0 in
    let same : b ≡ a = c.in_ok-judge.ensures.same in
    let T : Facts → Type 0 = λ f. RefusesMerge c.in_err-go_on.field-0.0 order f d c.args.against in
    rw (p.1, p.2) (subst T same (walk_refused order b d c.args.against merge c.args.index lane c.placed_at-placed.result.now at stands c.placed_at-placed.ensures
    (λ t. (let t' = c.in_err-go_on.ensures.store.faithful t in let M : Facts → Type 0 = λ f. IsTrue f.faithful → IsMid order f.files c.args.against merge in subst M (sym same) c.requires.mid t'))
    c.in_err-go_on.field-0.0 c.in_err-go_on.ensures.refused))

pub returns-then-branch-clause-fits : goal.returns-then-branch-clause-fits
returns-then-branch-clause-fits g c =
    let order = order_of g.K.KeyOrder.name g.K.KeyOrder.cmp in
    let merge = c.args.self.now in
    let lanes = merge.lanes.items in
    let lane = c.index_mut-lane.result.now in
    let lt = within_least order lanes c.args.index c.requires.least in
    let at : slice_get lanes c.args.index ≡ Some lane = slice_get_read lanes (length lanes) c.args.index lane refl lt c.index_mut-lane.ensures.value in
    let moved : Lane _ = record { place = lane.place; level = lane.level; walk = c.go_on.new.self; stands = lane.stands } in
    fits_lanes c.args.against.tables.now merge _ (lanes_moved c.args.against.tables.now lanes (slice_set lanes c.args.index moved) c.args.index lane moved at (set_same lanes c.args.index moved lt) refl
    (λ j other. set_other lanes c.args.index j moved other) c.requires.fits.lanes) refl refl c.requires.fits

pub returns-then-branch-clause-found : goal.returns-then-branch-clause-found
returns-then-branch-clause-found g c = λ t.
    let order = order_of g.K.KeyOrder.name g.K.KeyOrder.cmp in
    let a = g.S.Store.facts c.args.store.now in
    let b = g.S.Store.facts c.judge.new.store in
    let against = c.args.against in
    let tables = against.tables.now in
    let merge = c.args.self.now in
    let lanes = merge.lanes.items in
    let index = c.args.index in
    let lane = c.index_mut-lane.result.now in
    let walk = c.go_on.new.self in
    let lt = within_least order lanes index c.requires.least in
    let at : slice_get lanes index ≡ Some lane = slice_get_read lanes (length lanes) index lane refl lt c.index_mut-lane.ensures.value in
    let least = least_at order lanes index lane c.requires.least at in
    let moved : Lane _ = record { place = lane.place; level = lane.level; walk = walk; stands = lane.stands } in
    let same : b ≡ a = c.in_ok-judge.ensures.same in
    let t' : IsTrue a.faithful = subst (λ (f : Facts). IsTrue f.faithful) same (c.in_ok-go_on.ensures.store.faithful t) in
    let goes = goes_at order a b tables lane.place c.placed_at-placed.result.now c.in_ok-go_on.field-0 true lane.walk walk same c.if-branch.true c.placed_at-placed.ensures (c.in_ok-go_on.ensures.found t) in
    let set = c.in_ok-set_last.ensures in
    step_on order g.met.K.KeyOrder.total g.met.K.KeyOrder.exact a.files (stamps against.logged.now) against.recorded tables lanes (slice_set lanes index moved) merge.last c.set_last.new.last merge.begun.items merge.summaries.items
    index lane moved at least.0 (λ j other. set_other lanes index j moved other) (set_same lanes index moved lt) refl refl least.1 set.some set.user set.sequence set.place set.level (c.requires.next lane at) c.in_ok-judge.ensures.next c.in_ok-judge.ensures.old
    least.0 goes (c.requires.mid t')

pub index_mut-requires : goal.index_mut-requires
index_mut-requires g c =
    let order = order_of g.K.KeyOrder.name g.K.KeyOrder.cmp in
    let lanes = c.args.self.now.lanes.items in
    let lane = c.index_mut-lane.result.now in
    let lt = c.requires.fits.lanes c.args.index lane (slice_get_read lanes (length lanes) c.args.index lane refl (within_least order lanes c.args.index c.requires.least) c.index_mut-lane.ensures.value) in
    omega (arith, lt, c.requires.fits.summaries, c.args.self.now.summaries.ok)

pub returns-clause-fits : goal.returns-clause-fits
returns-clause-fits g c =
    let order = order_of g.K.KeyOrder.name g.K.KeyOrder.cmp in
    let merge = c.args.self.now in
    let tables = c.args.against.tables.now in
    let lanes = merge.lanes.items in
    let lane = c.index_mut-lane.result.now in
    let lt = within_least order lanes c.args.index c.requires.least in
    let at : slice_get lanes c.args.index ≡ Some lane = slice_get_read lanes (length lanes) c.args.index lane refl lt c.index_mut-lane.ensures.value in
    let moved : Lane _ = record { place = lane.place; level = lane.level; walk = c.go_on.new.self; stands = false } in
    fits_counted tables merge _ lane.place c.go_on.new.self.passed c.index_mut.result.now
    (lanes_moved tables lanes (slice_set lanes c.args.index moved) c.args.index lane moved at (set_same lanes c.args.index moved lt) refl (λ j other. set_other lanes c.args.index j moved other) c.requires.fits.lanes) refl
    (summary_read merge.summaries.items lane.place (length tables) c.index_mut.result.now c.requires.fits.summaries (c.requires.fits.lanes c.args.index lane at) c.index_mut.ensures.value) refl c.requires.fits

pub returns-clause-found : goal.returns-clause-found
returns-clause-found g c = λ t.
    let order = order_of g.K.KeyOrder.name g.K.KeyOrder.cmp in
    let a = g.S.Store.facts c.args.store.now in
    let b = g.S.Store.facts c.judge.new.store in
    let against = c.args.against in
    let tables = against.tables.now in
    let merge = c.args.self.now in
    let lanes = merge.lanes.items in
    let index = c.args.index in
    let lane = c.index_mut-lane.result.now in
    let walk = c.go_on.new.self in
    let lt = within_least order lanes index c.requires.least in
    let at : slice_get lanes index ≡ Some lane = slice_get_read lanes (length lanes) index lane refl lt c.index_mut-lane.ensures.value in
    let least = least_at order lanes index lane c.requires.least at in
    let moved : Lane _ = record { place = lane.place; level = lane.level; walk = walk; stands = false } in
    let same : b ≡ a = c.in_ok-judge.ensures.same in
    let t' : IsTrue a.faithful = subst (λ (f : Facts). IsTrue f.faithful) same (c.in_ok-go_on.ensures.store.faithful t) in
    let goes = goes_at order a b tables lane.place c.placed_at-placed.result.now c.in_ok-go_on.field-0 false lane.walk walk same c.if-branch.false c.placed_at-placed.ensures (c.in_ok-go_on.ensures.found t) in
    let set = c.in_ok-set_last.ensures in
    let s = c.index_mut.result.now in
    let summary : TableSummary = record { level = s.level; number = s.number; entries = walk.passed } in
    let read = summary_read merge.summaries.items lane.place (length tables) s c.requires.fits.summaries (c.requires.fits.lanes index lane at) c.index_mut.ensures.value in
    step_end order g.met.K.KeyOrder.total g.met.K.KeyOrder.exact a.files (stamps against.logged.now) against.recorded tables lanes (slice_set lanes index moved) merge.last c.set_last.new.last merge.begun.items merge.summaries.items
    index lane moved at least.0 (λ j other. set_other lanes index j moved other) (set_same lanes index moved lt) refl refl least.1 set.some set.user set.sequence set.place set.level (c.requires.next lane at) c.in_ok-judge.ensures.next c.in_ok-judge.ensures.old
    refl goes (slice_set merge.summaries.items lane.place summary) (counted_is tables merge lane.place walk.passed s c.requires.fits read) (λ p other. set_other merge.summaries.items lane.place p summary other) (c.requires.mid t')
