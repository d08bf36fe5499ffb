use Rattle.dm_table.proofs.tables.ConciseFaults.{body_further}
use Rattle.dm_table.proofs.tables.concise_device.read_bodies.Goals as goal

pub loop-body-preserved : goal.loop-body-preserved
loop-body-preserved c =
    let so_far = c.loop-body.invariant in
    let step = body_further c.args.bodies.now c.loop-body.body-index _ c.args.at c.args.label c.loop-body.fault c.in_ok-found.found c.loop-body.lines c.add_line.new.lines c.loop-body-test.true c.in_ok-found.ensures.fault c.in_ok-found.ensures.line so_far.known so_far.made in
    record { known = rw c.earlier_of-fault.ensures step.known; made = rw c.earlier_of-fault.ensures step.made }
