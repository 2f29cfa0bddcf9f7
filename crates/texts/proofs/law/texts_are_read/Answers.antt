use Rattle.std.proofs.Common.{sym, subst}
use Rattle.texts.specs.Texts.{IsText, escaped}
use Rattle.texts.proofs.Returned.{is_written, one_text}
use Rattle.texts.proofs.law.texts_are_read.Goals as goal

pub returns : goal.returns
returns c = λ bytes small other.
    (λ h. one_text (escaped bytes) other bytes h (is_written bytes small), λ e. subst (IsText (escaped bytes)) (sym e) (is_written bytes small))
