use Rattle.std.proofs.Common.{sym, subst}
use Rattle.texts.specs.Texts.{IsText, escaped_word}
use Rattle.texts.proofs.Returned.{one_text}
use Rattle.texts.proofs.Words.{is_word, no_space}
use Rattle.texts.proofs.law.words_are_read.Goals as goal

pub returns : goal.returns
returns c = λ bytes small.
    (no_space bytes small, λ other. (λ h. one_text (escaped_word bytes) other bytes h (is_word bytes small), λ e. subst (IsText (escaped_word bytes)) (sym e) (is_word bytes small)))
