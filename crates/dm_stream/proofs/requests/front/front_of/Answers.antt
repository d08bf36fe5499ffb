use Rattle.dm_stream.proofs.Prelude.{take, arith, values_of}
use Rattle.dm_stream.proofs.requests.Fronts.{said_first}
use Rattle.dm_stream.proofs.requests.front.front_of.Goals as goal

pub returns-clause-good : goal.returns-clause-good
returns-clause-good c = λ rest.
    let front = c.in_ok-request in
    rw front.ensures.numbered (said_first (take front.len c.args.held.now) c.args.number (values_of front.request) (omega arith) front.ensures.front.described rest)
