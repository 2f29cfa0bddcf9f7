use Rattle.std.proofs.Common.{◌≡◌, ◌<◌, ◌≤◌, ℕ, List, [], ◌∷◌, length, slice_index_or, Bor, refl, sym, subst, arith}
use Rattle.script.specs.Words.{texts_of, Reads}
use Rattle.script.specs.Script.{IsCompaction}
use Rattle.script.proofs.arguments.read_compaction.Goals as goal

-- the text of the one word
one_text : (words : List (Bor (List ℕ))) (default : Bor (List ℕ)) → 1 ≤ length words → length words < 2 → texts_of words ≡ (slice_index_or words 0 default).now ∷ []
one_text [] default some few = absurd (omega (arith, some))
one_text (word ∷ []) default some few = refl
one_text (word ∷ other ∷ words) default some few = absurd (omega (arith, few))

pub returns-in-len1 : goal.returns-in-len1
returns-in-len1 c =
    subst (λ (texts : List (List ℕ)). Reads (IsCompaction texts) c.read_compaction_word.result)
    (sym (one_text c.args.words.now (record { ref_ptr = (0, 0); now = [] }) c.in-len1.len_at_least c.in-len1.len_below)) c.read_compaction_word.ensures
