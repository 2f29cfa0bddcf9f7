use Rattle.std.proofs.Common.{rules, ◌≡◌, ℤ, w32, to_z, of_z, inr, sym, subst}
use Rattle.c_calls.specs.Folders.{MendServed, bytewise_name}
use Rattle.wachuspi.specs.Opening.{FolderTold}
use Rattle.wachuspi.proofs.exports.checking.mend_files.Goals as goal

pub returns : goal.returns
returns c =
    let code : to_z w32 (of_z w32 c.mend_store-code.result) ≡ c.mend_store-code.result = search rules in
    subst (λ (z : ℤ). FolderTold (λ old new answer. MendServed bytewise_name c.args.flags c.args.cuts.now c.mend_store-code.new.cuts c.mend_store-code.new.count old new answer) z) (sym code)
    (inr (c.args.store, c.mend_store-code.new.store, c.requires, c.mend_store-code.ensures))
