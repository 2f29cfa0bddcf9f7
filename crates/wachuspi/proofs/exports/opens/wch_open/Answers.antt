use Rattle.std.proofs.Common.{rules, ◌≡◌, ℤ, w32, to_z, of_z, ◌∙◌, sym, subst}
use Rattle.wachuspi.specs.Opening.{OpenTold}
use Rattle.wachuspi.proofs.Opened.{holds_none, open_told}
use Rattle.wachuspi.proofs.exports.opens.wch_open.Goals as goal

pub returns-in-Ok : goal.returns-in-Ok
returns-in-Ok c =
    let code : to_z w32 (of_z w32 c.open_store.result) ≡ c.open_store.result = search rules in
    record {
      opened = subst (λ (z : ℤ). OpenTold c.args.mode c.args.options.now c.args.db.now.slot.held c.open_store.new.db.slot.held z) (sym code)
          (open_told c.open_store.result c.args.mode c.args.options.now c.args.db.now.slot.held c.open_store.new.db.slot.held c.in-Some-mode_of.mode c.in-Some.options
          (holds_none c.args.db.now.slot.held (c.args.db.now.told ∙ c.if-db.false)) c.in-Some.ensures c.in-Some-mode_of.ensures c.open_store.ensures);
    }
