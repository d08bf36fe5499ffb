-- The closure's result for an element is what the test says about it.
use Rattle.dm_stack.proofs.Prelude.{true, false, refl}
use Rattle.dm_stack.proofs.checks.PlacedLemmas.{bad_here, good_here}
use Rattle.dm_stack.proofs.checks.faults.check_each.Goals as goal

pub returns-then-is_bad : goal.returns-then-is_bad
returns-then-is_bad g c test computes =
    let bad = computes c.item-item.result true (record { shown = _; shows = refl; says = record { met = c.if-is_bad.ensures } }) in
    cc (bad_here c.args.kind g.T.Placed.place_of test c.args.list.now c.loop-item.item-index c.item-item.result c.loop-item-test.true c.item-item.is bad, c.loop-item.invariant test computes)

pub loop-item-preserved : goal.loop-item-preserved
loop-item-preserved g c test computes =
    let good = computes c.item-item.result false (record { shown = _; shows = refl; says = record { met = c.if-is_bad.ensures } }) in
    cc (good_here c.args.kind g.T.Placed.place_of test c.args.list.now c.loop-item.item-index c.item-item.result c.loop-item-test.true c.item-item.is good, c.loop-item.invariant test computes)
