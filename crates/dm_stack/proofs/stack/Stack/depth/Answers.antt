use Rattle.dm_stack.proofs.Prelude.{subst, IsSound}
use Rattle.dm_stack.proofs.DepthRule.{deeper_by_one}
use Rattle.dm_stack.proofs.stack.Stack.depth.Goals as goal

pub returns-clause-rule : goal.returns-clause-rule
returns-clause-rule c = deeper_by_one c.args.self.now (subst IsSound c.self.view_is c.self.invariant.sound)
