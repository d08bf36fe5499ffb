-- Only a device at the cut-off depth can be on a cycle, and a search of the graph tells whether it is.
use Rattle.dm_stack.proofs.Prelude.{arith, below_more}
use Rattle.dm_stack.proofs.checks.RoundLemmas.{depths-length, shallow_at}
use Rattle.dm_stack.proofs.checks.graph.first_cycle.Goals as goal
use Rattle.dm_stack.proofs.checks.graph.first_cycle.Goals.{else-depth-gt-MOST_DEPTH-via-then-depth-gt-MOST_DEPTH+in_ok-reaches_itself+else-branch, else-depth-gt-MOST_DEPTH-via-else-depth-gt-MOST_DEPTH}

pub reaches_itself-requires-clause-within : goal.reaches_itself-requires-clause-within
reaches_itself-requires-clause-within c = omega (arith, depths-length c.args.links.now 33 c.args.depths.now c.requires.depths)

pub returns-then-branch-clause-found : goal.returns-then-branch-clause-found
returns-then-branch-clause-found c = (omega (arith, depths-length c.args.links.now 33 c.args.depths.now c.requires.depths), c.in_ok-reaches_itself.ensures.yes c.if-branch.true)

pub loop-device-preserved : goal.loop-device-preserved
loop-device-preserved c = below_more _ _ c.loop-device.invariant (
    elim c.else-depth-gt-MOST_DEPTH.branch [
      | else-depth-gt-MOST_DEPTH-via-then-depth-gt-MOST_DEPTH+in_ok-reaches_itself+else-branch w ↦ w.in_ok-reaches_itself.ensures.no w.if-branch.false
      | else-depth-gt-MOST_DEPTH-via-else-depth-gt-MOST_DEPTH w ↦ shallow_at c.args.links.now 33 c.loop-device.device c.args.depths.now c.requires.depths c.loop-device-test.true (omega arith)
    ]
    )

pub returns-clause-none : goal.returns-clause-none
returns-clause-none c = λ d below. c.loop-device.invariant d (omega (arith, depths-length c.args.links.now 33 c.args.depths.now c.requires.depths))
