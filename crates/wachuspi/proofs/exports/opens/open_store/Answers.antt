use Rattle.std.proofs.Common.{rules, ◌≡◌, ℤ, w32, to_z, of_z, sym, subst}
use Rattle.wachuspi.specs.Opening.{StoreTold}
use Rattle.wachuspi.proofs.Opened.{kept_told, refused_told}
use Rattle.wachuspi.proofs.exports.opens.open_store.Goals as goal

pub returns-in-Ok : goal.returns-in-Ok
returns-in-Ok c =
    let code : to_z w32 (of_z w32 c.keep_open.result) ≡ c.keep_open.result = search rules in
    subst (λ (z : ℤ). StoreTold c.args.mode c.args.options c.keep_open.new.db.slot.held z) (sym code)
    (kept_told c.keep_open.result c.args.mode c.args.options c.args.store c.in-Ok.handle c.keep_open.new.db.slot.held c.requires.unread c.in-Ok.ensures.nowhere c.in-Ok.ensures.opened c.keep_open.ensures)

pub returns-in-Err : goal.returns-in-Err
returns-in-Err c =
    let code : to_z w32 (of_z w32 c.number_of.result) ≡ c.number_of.result = search rules in
    subst (λ (z : ℤ). StoreTold c.args.mode c.args.options c.args.db.now.slot.held z) (sym code)
    (refused_told c.number_of.result c.args.mode c.args.options c.args.store c.in-Err.refused.store c.in-Err.refused.error c.args.db.now.slot.held c.requires.none c.requires.unread c.in-Err.ensures.refused c.number_of.ensures)
