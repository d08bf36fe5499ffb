-- `order` has the claims so far, with their numbers
use Rattle.dm_stack.proofs.Prelude.{take, numbered}
use Rattle.dm_stack.proofs.claims.tidy.in_order.Given as goal
use Rattle.std.specs.Prelude.{◌≡◌}

abbrev pub invariant-loop-number : goal.invariant-loop-number
invariant-loop-number l = l.order.items ≡ numbered 0 (take l.number l.claims)
