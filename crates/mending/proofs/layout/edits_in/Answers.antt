use Rattle.std.proofs.Common.{ℕ, List, Vec, map, take, ◌+◌, sym, subst}
use Rattle.std.specs.declared.alloc.Global.{Global}
use Rattle.coding.specs.declared.error.FileKind.TheVariants as kind
use Rattle.edits.specs.declared.field.Field.{Field}
use Rattle.mending.specs.Plans.{AreEdits}
use Rattle.mending.proofs.Saying.{edits-more, edits_refused}
use Rattle.mending.proofs.layout.edits_in.Goals as goal

pub returns-in-Err-clause-refused : goal.returns-in-Err-clause-refused
returns-in-Err-clause-refused c =
    edits_refused (λ (r : Vec ℕ Global). r.items) c.args.records.now c.loop-record.record-index c.record-item.result c.deref.result.now kind.Manifest c.in-Err.error c.refusal_in.result
    c.loop-record.edits.items c.loop-record.invariant c.loop-record-test.true c.record-item.is c.deref.ensures.value c.refusal_in.ensures c.in-Err.ensures.refused

pub loop-record-preserved : goal.loop-record-preserved
loop-record-preserved c =
    let P : List (List Field) → Type 0 = λ es. AreEdits (map (λ (r : Vec ℕ Global). r.items) (take (c.loop-record.record-index + 1) c.args.records.now)) es in
    subst P (sym c.in_ok-push-in-Ok.ensures.items)
    (edits-more (λ (r : Vec ℕ Global). r.items) c.args.records.now c.loop-record.record-index c.record-item.result c.deref.result.now c.loop-record.edits.items c.in-Ok.edit
    c.loop-record-test.true c.record-item.is c.deref.ensures.value c.loop-record.invariant c.in-Ok.ensures.found.0)
