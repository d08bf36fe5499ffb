use Rattle.dm_stack.proofs.Prelude.{ap, arith, length, length-map, resolved_device, lines_at}
use Rattle.dm_stack.specs.claims.Claims.{line_claims}
use Rattle.dm_stack.specs.lines.Span as by_id
use Rattle.dm_stack.proofs.lines.ByDevice.{lines_next, table_at}
use Rattle.dm_stack.proofs.lines.SpanLemmas.{claims_are, flat_lines}
use Rattle.dm_stack.proofs.claims.claim.claims.Goals as goal
use Rattle.std.specs.Prelude.{◌≡◌}

pub loop-id-preserved : goal.loop-id-preserved
loop-id-preserved c =
    let stack = c.args.stack.now in
    let id = c.loop-id.id in
    let table = table_at stack c.by_ids-device-items.result.now id c.device-item.result c.by_ids-device-items.ensures c.loop-id-test.true c.device-item.is in
    let claimed = flat_lines stack (by_id.line_claims stack id) (line_claims stack id) (lines_at stack id) (claims_are stack id) in
    lines_next (line_claims stack) stack id c.loop-id.claims.items c.add_lines.new.claims.items c.loop-id.invariant (rw (c.in_ok-add_lines.ensures, c.new.ensures, c.lines.ensures, table, claimed))

pub returns : goal.returns
returns c =
    let stack = c.args.stack.now in
    let end : c.loop-id.id ≡ length stack.devices = omega (arith, c.loop-id-test.false, c.loop-id.auto.id-end, ap length c.by_ids-device-items.ensures, length-map stack.devices (resolved_device stack)) in
    rw end at c.loop-id.invariant
