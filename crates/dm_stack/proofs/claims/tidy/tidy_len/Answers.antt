use Rattle.dm_stack.proofs.Prelude.{arith}
use Rattle.dm_stack.proofs.claims.TidyLemmas.{some_order, tidy_to_none}
use Rattle.dm_stack.proofs.claims.tidy.tidy_len.Goals as goal

pub loop-tidy-init : goal.loop-tidy-init
loop-tidy-init c = record {
  apart = some_order c.args.order.now c.requires.clash;
  within = omega arith;
  tidy = tidy_to_none c.args.order.now;
  clash = c.requires.clash;
}
