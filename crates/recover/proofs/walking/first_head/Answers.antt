use Rattle.std.proofs.Common.{rules}
use Rattle.ikey.specs.KeyViews.{key_of}
use Rattle.recover.proofs.WalkSteps.{key_here, no_key_here}
use Rattle.recover.proofs.walking.first_head.Goals as goal

pub returns-in_default-clause-refused : goal.returns-in_default-clause-refused
returns-in_default-clause-refused g c = no_key_here c.args.block.now 0 c.key.result.now c.requires c.key.ensures c.in_default.ensures.none

pub returns-clause-found : goal.returns-clause-found
returns-clause-found g c = (key_of c.in-Some.key, key_here c.args.block.now 0 c.key.result.now (key_of c.in-Some.key) c.requires c.key.ensures c.in-Some.ensures.found, search rules, search rules)
