use Rattle.std.proofs.Common.{◌≡◌, ◌∙◌, ℕ, OnOk, inl, refl, ap}
use Rattle.edits.specs.Names.{name_of}
use Rattle.edits.specs.declared.names.FileName.TheVariants.{Temporary}
use Rattle.mending.specs.Losing.{LosesBy, MayReplaceWhole}
use Rattle.mending.specs.Mending.{temporary_of}
use Rattle.mending.specs.Replacing.{Replaces}
use Rattle.mending.proofs.LosingCuts.{named_so}
use Rattle.mending.proofs.Lost.{by_itself}
use Rattle.mending.proofs.applying.apply_one.Goals as goal

pub returns-in_err-name-clause-loses : goal.returns-in_err-name-clause-loses
returns-in_err-name-clause-loses g c f stayed =
    by_itself (g.S.Store.facts c.args.store.now) (λ before lost. MayReplaceWhole before lost (temporary_of c.args.cut.now.file) (name_of c.args.cut.now.file) c.args.cut.now.front.items) (λ files q locked apart. inl refl)

pub returns-in_err-temporary-clause-loses : goal.returns-in_err-temporary-clause-loses
returns-in_err-temporary-clause-loses g c f stayed =
    by_itself (g.S.Store.facts c.args.store.now) (λ before lost. MayReplaceWhole before lost (temporary_of c.args.cut.now.file) (name_of c.args.cut.now.file) c.args.cut.now.front.items) (λ files q locked apart. inl refl)

pub returns-clause-replaced : goal.returns-clause-replaced
returns-clause-replaced g c f =
    let old = g.S.Store.facts c.args.store.now in
    let new = g.S.Store.facts c.replace_file.new.store in
    let temporary : c.as_str.result.now ≡ temporary_of c.args.cut.now.file = c.as_str.ensures.value ∙ c.in_ok-temporary.ensures ∙ ap (λ (n : ℕ). name_of (Temporary n)) c.number_of.ensures in
    let name : c.as_str-2.result.now ≡ name_of c.args.cut.now.file = c.as_str-2.ensures.value ∙ c.in_ok-name.ensures in
    named_so (λ t n b. OnOk c.replace_file.result (Replaces old.files new.files t n b)) c.as_str.result.now (temporary_of c.args.cut.now.file) c.as_str-2.result.now (name_of c.args.cut.now.file) c.deref.result.now c.args.cut.now.front.items
    temporary name c.deref.ensures.value (c.replace_file.ensures.replaced f)

pub returns-clause-loses : goal.returns-clause-loses
returns-clause-loses g c f stayed =
    let old = g.S.Store.facts c.args.store.now in
    let new = g.S.Store.facts c.replace_file.new.store in
    let temporary : c.as_str.result.now ≡ temporary_of c.args.cut.now.file = c.as_str.ensures.value ∙ c.in_ok-temporary.ensures ∙ ap (λ (n : ℕ). name_of (Temporary n)) c.number_of.ensures in
    let name : c.as_str-2.result.now ≡ name_of c.args.cut.now.file = c.as_str-2.ensures.value ∙ c.in_ok-name.ensures in
    named_so (λ t n b. LosesBy old new (λ before lost. MayReplaceWhole before lost t n b)) c.as_str.result.now (temporary_of c.args.cut.now.file) c.as_str-2.result.now (name_of c.args.cut.now.file) c.deref.result.now c.args.cut.now.front.items
    temporary name c.deref.ensures.value (c.replace_file.ensures.loses f stayed)
