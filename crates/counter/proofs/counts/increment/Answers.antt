use Rattle.std.proofs.Common.{List, subst, true}
use Rattle.batch.specs.declared.operation.Operation.{Operation}
use Rattle.machine.specs.Access.{Writes}
use Rattle.machine.specs.declared.command.Answer.TheVariants.{Done, Refused as Denied}
use Rattle.counter.specs.declared.counts.CountError.TheVariants.{Refused}
use Rattle.counter.proofs.Counting.{is_own, leads_as, leads_then, refused_between, refused_get, refused_write, written}
use Rattle.counter.proofs.counts.increment.Goals as goal

pub returns-in-Err : goal.returns-in-Err
returns-in-Err g c = leads_as (λ m n h. refused_get c.args.name.now m n c.in-Err.error h) c.in-Err.ensures.step

pub returns-in-Err-next_count : goal.returns-in-Err-next_count
returns-in-Err-next_count g c =
    leads_as (λ m n h. refused_between c.args.name.now m n c.in-Ok.value c.in-Err-next_count.error h
    (λ names tally shown. is_own _ c.in-Err-next_count.error (c.in-Err-next_count.ensures.is _ (tally c.args.name.now).0 shown))) c.in-Ok.ensures.step

pub returns-in-Err-batch_of : goal.returns-in-Err-batch_of
returns-in-Err-batch_of g c =
    leads_as (λ m n h. refused_between c.args.name.now m n c.in-Ok.value (Refused c.in-Err-batch_of.error) h (λ names tally shown. tt)) c.in-Ok.ensures.step

pub returns-in-Ok-write : goal.returns-in-Ok-write
returns-in-Ok-write g c =
    leads_then (λ m at n h k. written c.args.name.now m at c.in-Ok.value c.in-Ok-next_count.count h c.in-Ok-next_count.ensures.range c.in-Ok-next_count.ensures.is n true
    (subst (λ (operations : List Operation). Writes at operations true Done n) c.in-Ok-batch_of.ensures k)) c.in-Ok.ensures.step c.in-Ok-write.ensures.step

pub returns : goal.returns
returns g c =
    leads_then (λ m at n h k. refused_write c.args.name.now m at c.in-Ok.value c.in-Ok-next_count.count h c.in-Ok-next_count.ensures.range c.in-Ok-next_count.ensures.is n true c.in-Err-write.error
    (subst (λ (operations : List Operation). Writes at operations true (Denied c.in-Err-write.error) n) c.in-Ok-batch_of.ensures k)) c.in-Ok.ensures.step c.in-Err-write.ensures.step
