-- The parts read at the front of a text are those of a request line.
use Rattle.dm_table.proofs.Prelude.{length, refl, arith}
use Rattle.dm_table.proofs.requests.FrontRequest.{front_line}
use Rattle.dm_table.proofs.requests.request_line.front_request.Goals as goal
use Rattle.std.specs.Prelude.{◌+◌, ◌-◌}

pub returns-clause-front : goal.returns-clause-front
returns-clause-front c =
    let end = length c.args.text.now - length c.in_ok-start.last.now + c.in_ok-len.digits in
    rw c.ascii_str.ensures (front_line c.args.text.now c.args.device.now c.in_ok-start.ensures.text.0 c.args.rest.now c.in_ok-start.last.now c.args.op c.in_ok-start.start c.in_ok-len.len c.in_ok-len.digits end c.requires.text c.requires.named c.in_ok-start.ensures.text.1 c.in_ok-start.ensures.text.2 c.in_ok-len.ensures.within c.in_ok-len.ensures.newline c.in_ok-len.ensures.number (omega arith) (omega arith) refl)
