use Rattle.std.proofs.Common.{◌∙◌, inl, inr, ℕ, List, Option, Vec, IsTrue, option_map, subst, sym, ap}
use Rattle.std.specs.declared.alloc.Global.{Global}
use Rattle.std.proofs.lemmas.Result.{err_from_is_err_and}
use Rattle.store.specs.Files.{Files}
use Rattle.mending.specs.Calls.{RefusesBytes}
use Rattle.mending.specs.Plans.{HasBeyond, HasCurrent, HasLayout, HasNoPlan, IsBeyond, IsUnmendable, NamesManifest, ArePlanned}
use Rattle.mending.proofs.Saying.{reads_both, refuses_later, refuses_bytes}
use Rattle.mending.proofs.planning.plan_cuts.Goals as goal

pub plan_files-requires : goal.plan_files-requires
plan_files-requires g c = c.in_ok-number.ensures.found.0

pub returns-in_err-number-clause-refused : goal.returns-in_err-number-clause-refused
returns-in_err-number-clause-refused g c =
    let p = err_from_is_err_and c.from_residual-in_err-number.result c.from_residual-in_err-number.ensures.1 in
    let old = g.S.Store.facts c.args.store.now in
    let new = g.S.Store.facts c.read_file.new.store in
    let name = g.K.KeyOrder.name in
    let items : Option (Vec ℕ Global) → Option (List ℕ) = λ o. option_map (λ (v : Vec ℕ Global). v.items) o in
    let current = c.in-Some.current.items in
    let none : Type 0 = (number : ℕ) → NamesManifest current number → ⊥ in
    let R : List ℕ → Type 0 = λ bs. RefusesBytes c.in_err-number.field-0.0 ((number : ℕ) → NamesManifest bs number → ⊥) ⊥ in
    rw (p.1, p.2) (refuses_bytes c.in_err-number.field-0.0 old new none ⊥ (IsUnmendable name c.args.ends old.files) (IsBeyond name c.args.ends old.files)
    (λ f d. inl (current, sym (c.in_ok-current.ensures.found f) ∙ ap items c.in-Some.is, d)) (λ f u. absurd u) (subst R c.deref.ensures.value c.in_err-number.ensures.refused))

pub returns-in_err-cuts-clause-reads : goal.returns-in_err-cuts-clause-reads
returns-in_err-cuts-clause-reads g c =
    reads_both (g.S.Store.facts c.args.store.now) (g.S.Store.facts c.read_file.new.store) (g.S.Store.facts c.plan_files.new.store) c.in_ok-current.ensures.reads c.in_err-cuts.ensures.reads

pub returns-in_err-cuts-clause-refused : goal.returns-in_err-cuts-clause-refused
returns-in_err-cuts-clause-refused g c =
    let p = err_from_is_err_and c.from_residual-in_err-cuts.result c.from_residual-in_err-cuts.ensures.1 in
    let old = g.S.Store.facts c.args.store.now in
    let mid = g.S.Store.facts c.read_file.new.store in
    let new = g.S.Store.facts c.plan_files.new.store in
    let name = g.K.KeyOrder.name in
    let items : Option (Vec ℕ Global) → Option (List ℕ) = λ o. option_map (λ (v : Vec ℕ Global). v.items) o in
    let number = c.in_ok-number.number in
    let current = c.in-Some.current.items in
    let names : NamesManifest current number = subst (λ (bs : List ℕ). NamesManifest bs number) c.deref.ensures.value c.in_ok-number.ensures.found in
    let here : IsTrue mid.faithful → HasCurrent old.files number = λ m. (current, sym (c.in_ok-current.ensures.found m) ∙ ap items c.in-Some.is, names) in
    rw (p.1, p.2) (refuses_later c.in_err-cuts.field-0.0 old mid new (HasNoPlan name c.args.ends mid.files number) (HasBeyond name c.args.ends mid.files number) (IsUnmendable name c.args.ends old.files) (IsBeyond name c.args.ends old.files)
    c.in_ok-current.ensures.reads
    (λ f d. let m = c.in_err-cuts.ensures.reads.faithful f in inr (number, here m, subst (λ (fs : Files). HasNoPlan name c.args.ends fs number) (c.in_ok-current.ensures.reads.same m) d))
    (λ f u. let m = c.in_err-cuts.ensures.reads.faithful f in (number, here m, subst (λ (fs : Files). HasBeyond name c.args.ends fs number) (c.in_ok-current.ensures.reads.same m) u))
    c.in_err-cuts.ensures.refused)

pub returns-clause-reads : goal.returns-clause-reads
returns-clause-reads g c =
    reads_both (g.S.Store.facts c.args.store.now) (g.S.Store.facts c.read_file.new.store) (g.S.Store.facts c.plan_files.new.store) c.in_ok-current.ensures.reads c.in_ok-cuts.ensures.reads

pub returns-clause-found : goal.returns-clause-found
returns-clause-found g c f =
    let old = g.S.Store.facts c.args.store.now in
    let name = g.K.KeyOrder.name in
    let items : Option (Vec ℕ Global) → Option (List ℕ) = λ o. option_map (λ (v : Vec ℕ Global). v.items) o in
    let number = c.in_ok-number.number in
    let current = c.in-Some.current.items in
    let names : NamesManifest current number = subst (λ (bs : List ℕ). NamesManifest bs number) c.deref.ensures.value c.in_ok-number.ensures.found in
    let m = c.in_ok-cuts.ensures.reads.faithful f in
    let same = c.in_ok-current.ensures.reads.same m in
    let h = c.in_ok-cuts.ensures.found f in (
      (current, sym (c.in_ok-current.ensures.found m) ∙ ap items c.in-Some.is, names),
      h.0,
      subst (λ (fs : Files). HasLayout name c.args.ends fs number h.0) same h.1,
      subst (λ (fs : Files). ArePlanned c.args.ends fs number h.0 c.in_ok-cuts.cuts.items) same h.2,
    )
