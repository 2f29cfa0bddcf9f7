use Rattle.std.proofs.Common.{rules, ◌≡◌, ℤ, w32, to_z, of_z, inr, sym, subst}
use Rattle.c_calls.specs.Calls.{bytewise}
use Rattle.c_calls.specs.Folders.{CheckServed}
use Rattle.wachuspi.specs.Opening.{FolderTold}
use Rattle.wachuspi.proofs.exports.checking.check_files.Goals as goal

pub returns : goal.returns
returns c =
    let code : to_z w32 (of_z w32 c.check_store-code.result) ≡ c.check_store-code.result = search rules in
    subst (λ (z : ℤ). FolderTold (λ old new answer. CheckServed bytewise old new answer) z) (sym code)
    (inr (c.args.store, c.check_store-code.new.store, c.requires, c.check_store-code.ensures))
