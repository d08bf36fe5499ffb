use Rattle.dm_stream.specs.declared.requests.handling.TheConstants.{MOST_REQUESTS}
use Rattle.dm_stream.proofs.requests.HandledRequests.{HasHandled}
use Rattle.dm_stream.proofs.requests.handling.handle_requests.Given as goal
use Rattle.std.specs.Prelude.{◌+◌, ◌-◌, ◌≤◌}

abbrev pub invariant-lines : goal.invariant-lines
invariant-lines g l = record {
  ready : g.H.Handler.ready l.stack l.handler l.source;
  few : l.number ≤ MOST_REQUESTS;
  turned : HasHandled (g.H.Handler.answered l.stack) (g.H.ReadsFrom.asked l.fn.requests) (g.H.ReadsFrom.asked l.requests) l.fn.handler l.handler l.fn.source l.source l.lines (l.number + 1);
}

abbrev pub decreases-lines : goal.decreases-lines
decreases-lines g l = MOST_REQUESTS + 1 - l.number
