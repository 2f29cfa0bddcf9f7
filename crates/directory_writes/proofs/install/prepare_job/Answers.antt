use Rattle.std.proofs.Common.{◌≡◌, Err, Result, IfErr, sym, subst, rules}
use Rattle.coding.specs.declared.error.DbError.{DbError}
use Rattle.directory_writes.specs.internal.Install.{RefusesEdit}
use Rattle.directory_writes.proofs.InstallSynced.{put_synced}
use Rattle.directory_writes.proofs.Installing.{old_or_own, unversioned}
use Rattle.directory_writes.proofs.Replacing.{replaced}
use Rattle.directory_writes.proofs.install.prepare_job.Goals as goal

pub returns-clause-prepared : goal.returns-clause-prepared
returns-clause-prepared g c =
    let made = c.in_ok-edit.ensures in
    let said = c.in_ok-version.ensures in
    record {
      edit = record {
        proper = made.proper c.requires.sequence c.requires.plan c.requires.numbered;
        spelled = made.order c.requires.plan c.requires.numbered;
        own = made.own;
        of_plan = made.of_plan;
        finished = made.finished;
      };
      leads = said.tables;
      replaces = replaced c.args.job.plan c.in_ok-edit.edit made.of_plan g.K.KeyOrder.cmp c.args.version.now.tables c.in_ok-version.version.value.tables said.old said.tables;
      tables = old_or_own g.K.KeyOrder.cmp c.args.job.outputs c.args.version.now.tables c.in_ok-version.version.value.tables c.in_ok-edit.edit said.old made.own said.tables;
      synced = λ deep came f merging.
          put_synced g.K.KeyOrder.cmp deep c.args.job.plan c.args.job.last.items c.args.job.selection (g.S.Store.facts c.finish.new.store) c.args.numbers.now.next c.args.last_sequence came c.in_ok-edit.edit
          c.args.version.now.tables c.in_ok-version.version.value.tables said.old said.tables (made.finished deep came f merging);
      in_order = said.order;
      pointers = said.pointers;
    }

pub returns-in_err-version-clause-refused : goal.returns-in_err-version-clause-refused
returns-in_err-version-clause-refused g c =
    let made = c.in_ok-edit.ensures in
    let e = c.in_err-version.field-0.0 in
    let cmp = g.K.KeyOrder.cmp in
    let old = g.S.Store.facts c.args.store.now in
    let new = g.S.Store.facts c.finish.new.store in
    let next = c.args.numbers.now.next in
    let last = c.args.last_sequence in
    let tables = c.args.version.now.tables in
    let said : c.from_residual-in_err-version.result ≡ Err e = search rules in
    subst (λ (r : Result _ DbError). IfErr r (λ error. RefusesEdit error cmp c.args.job old new next last tables)) (sym said)
    (unversioned e cmp c.args.job old new next last tables c.in_ok-edit.edit made.stood
    (record {
      proper = made.proper c.requires.sequence c.requires.plan c.requires.numbered;
      spelled = made.order c.requires.plan c.requires.numbered;
      own = made.own;
      of_plan = made.of_plan;
      finished = made.finished;
    }) c.in_err-version.ensures.refused)

pub returns-clause-kept : goal.returns-clause-kept
returns-clause-kept g c f deep came merging number own =
    let kept = c.in_ok-edit.ensures.kept deep came f merging number own in
    ((kept.0, kept.1, kept.2), kept.3)

pub returns-clause-ends : goal.returns-clause-ends
returns-clause-ends g c f = c.in_ok-edit.ensures.ends f
