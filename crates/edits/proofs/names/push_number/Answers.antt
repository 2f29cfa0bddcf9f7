use Rattle.std.proofs.Common.{◌++◌, length, string_bytes, ap, ◌∙◌, List, ℕ, arith}
use Rattle.std.specs.Fmt.{decimal}
use Rattle.edits.proofs.FileNames.{zeros_more}
use Rattle.edits.proofs.names.push_number.Goals as goal

pub loop-preserved : goal.loop-preserved
loop-preserved c = record {
  zeros = zeros_more (string_bytes c.args.name.now) (string_bytes c.loop.name) (string_bytes c.push.new.self) c.loop.counter (length (decimal c.args.n)) c.loop.invariant.low c.loop.invariant.zeros
      (c.in_ok-push.ensures.bytes ∙ ap (λ (t : List ℕ). string_bytes c.loop.name ++ t) (c.in_ok-push.ensures.ascii (omega arith)));
  bound = omega arith;
  low = omega arith;
}
