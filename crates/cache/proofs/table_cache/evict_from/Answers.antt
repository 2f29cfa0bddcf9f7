use Rattle.std.proofs.Common.{◌≡◌, ◌==◌, Contains, None, sym, ap, subst}
use Rattle.std.specs.Map.{lookup}
use Rattle.lru.proofs.CallerLemmas.{Contains-remove_entry}
use Rattle.cache.proofs.Keeping.{within, kept_table_none, none_removed}
use Rattle.cache.proofs.table_cache.evict_from.Goals as goal

pub returns-clause-gone : goal.returns-clause-gone
returns-clause-gone g c =
    let rest = ap (λ e. e.entries) c.pop-table.ensures.entries in
    kept_table_none (λ v. v.value) c.args.number c.pop-table.new.self.entries
    (subst (λ es. lookup (λ k. c.args.number == k) es ≡ None) (sym rest) (none_removed c.args.number c.args.tables.now.entries c.len-count.ensures.valid.0))

pub returns-clause-kept : goal.returns-clause-kept
returns-clause-kept g c =
    let rest = ap (λ e. e.entries) c.pop-table.ensures.entries in
    within _ c.pop-table.new.self.entries c.args.tables.now.entries (λ x there. Contains-remove_entry _ c.args.tables.now.entries x (subst (λ es. Contains es x) rest there))
