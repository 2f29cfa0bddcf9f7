use Rattle.std.proofs.lemmas.Result.{IfErr-weaker}
use Rattle.table.specs.Stored.{IsHandle}
use Rattle.table.proofs.Writes.{written_value, both_ok}
use Rattle.table.proofs.Storing.{only_gives_up}
use Rattle.table.proofs.builder.push_place.Goals as goal

pub returns-clause-added : goal.returns-clause-added
returns-clause-added g c =
    let value = c.put_handle.new.out.items in
    let is : IsHandle value c.args.handle = written_value c.new-value.result.items value c.args.handle c.new-value.ensures.items c.in_ok-put_handle.ensures in
    both_ok c.add_entry.result _ _ _ (λ new short. (value, is, rw c.deref.ensures.value at new, short)) c.add_entry.ensures.added c.add_entry.ensures.short

pub returns-clause-refused : goal.returns-clause-refused
returns-clause-refused g c =
    let value = c.put_handle.new.out.items in
    let is : IsHandle value c.args.handle = written_value c.new-value.result.items value c.args.handle c.new-value.ensures.items c.in_ok-put_handle.ensures in
    IfErr-weaker c.add_entry.result _ _ (λ e h. only_gives_up e _ _ (λ long. (value, is, rw c.deref.ensures.value at long)) h) c.add_entry.ensures.refused
