use Rattle.dm_stream.proofs.Prelude.{[], suc, drop, take, front_requests, numbered}
use Rattle.dm_stream.proofs.requests.Batches.{up_to}
use Rattle.dm_stream.proofs.requests.batch.answer_all.Goals as goal
use Rattle.std.specs.Prelude.{◌∷◌, ◌++◌}

pub returns-in-Err-clause-stopped : goal.returns-in-Err-clause-stopped
returns-in-Err-clause-stopped g c =
    let at = c.fronts.front-index in
    let fronts = c.args.fronts.now in
    let front = c.front-item.result in
    let before = front_requests (take at fronts) in
    record {
      first = before ++ numbered front.request ∷ [];
      later = front_requests (drop (suc at) fronts);
      is = up_to (λ f. numbered f.request) fronts at front c.fronts-test.true c.front-item.is;
      holds = g.met.H.Handler.answered_then_stopped c.args.stack.now c.args.handler.now c.fronts.handler c.handle.new.self c.args.source.now c.fronts.source c.handle.new.source before (numbered front.request ∷ []) _ c.fronts.invariant.answered c.in-Err.ensures.stopped;
    }

pub handle-requires-clause-found : goal.handle-requires-clause-found
handle-requires-clause-found g c =
    let front = c.front-item.result in
    rw c.front-item.is (c.requires.found c.fronts.front-index front c.fronts-test.true)
