-- The closure's result for a line, and the line with ids, is what the test says about the line.
use Rattle.dm_stack.proofs.Prelude.{true, false, ◌∙◌, length, resolved_line}
use Rattle.dm_stack.proofs.checks.PlacedLemmas.{bad_before, good_here}
use Rattle.dm_stack.proofs.lines.ByDevice.{made_at, table_is}
use Rattle.dm_stack.proofs.checks.faults.check_by_ids.Goals as goal
use Rattle.dm_stack.proofs.checks.faults.check_by_ids.Goals.{After-is_bad}
use Rattle.std.specs.Prelude.{◌≡◌}

-- the line with ids is this line's
line_is : (g : _) (c : After-is_bad g) → c.index-resolved-index.result ≡ resolved_line c.args.stack.now c.index-lines-index.result
line_is g c =
    let table = table_is c.args.stack.now c.devices-device-items.result.now c.by_ids-by_ids.result.now c.loop-id.id c.device-item.result c.index-by_ids-id.result c.as_slice-lines.result.now c.lines-resolved.result.now c.devices-device-items.ensures c.by_ids-by_ids.ensures c.loop-id-test.true c.device-item.is c.as_slice-lines.ensures c.lines-resolved.ensures in
    c.index-resolved-index.is ∙ made_at (resolved_line c.args.stack.now) c.as_slice-lines.result.now c.lines-resolved.result.now c.loop-index.index c.index-lines-index.result c.index-resolved-index.result table c.loop-index-test.true c.index-lines-index.is

pub returns-then-is_bad : goal.returns-then-is_bad
returns-then-is_bad g c test computes =
    let bad = computes _ _ _ true (record { met = c.if-is_bad.ensures }) (line_is g (goal.at.returns-then-is_bad g c).After-is_bad) in
    cc (bad_before c.args.kind (λ line. line.at) (test (length c.as_slice-lines.result.now)) c.as_slice-lines.result.now c.loop-index.index c.index-lines-index.result _ c.loop-index-test.true c.index-lines-index.is bad, c.loop-index.invariant test computes)

pub loop-index-preserved : goal.loop-index-preserved
loop-index-preserved g c test computes =
    let good = computes _ _ _ false (record { met = c.if-is_bad.ensures }) (line_is g (goal.at.loop-index-preserved g c).After-is_bad) in
    cc (good_here c.args.kind (λ line. line.at) (test (length c.as_slice-lines.result.now)) c.as_slice-lines.result.now c.loop-index.index c.index-lines-index.result c.loop-index-test.true c.index-lines-index.is good, c.loop-index.invariant test computes)
