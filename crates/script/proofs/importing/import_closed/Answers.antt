use Rattle.std.proofs.lemmas.Result.{IfOk-weaker}
use Rattle.script.proofs.Written.{on_err_so}
use Rattle.script.proofs.importing.import_closed.Goals as goal

pub returns-clause-ended : goal.returns-clause-ended
returns-clause-ended g c =
    IfOk-weaker c.import_opened-imported.result _ _ (λ outcome ended. (c.import_opened-imported.new.session, c.shut.result, ended, c.shut.ensures.closed)) c.import_opened-imported.ensures.ended

pub returns-clause-stopped : goal.returns-clause-stopped
returns-clause-stopped g c =
    on_err_so c.import_opened-imported.result _ _ (λ some. (c.import_opened-imported.new.session, c.shut.result, some, c.shut.ensures.closed)) c.import_opened-imported.ensures.stopped
