use Rattle.dm_stream.proofs.Prelude.{take, front_requests}
use Rattle.dm_stream.proofs.requests.batch.answer_all.Given as goal

abbrev pub invariant-fronts : goal.invariant-fronts
invariant-fronts g l = record {
  answered : g.H.Handler.answered l.stack l.fn.handler l.fn.source (front_requests (take l.front-index l.fronts)) l.handler l.source;
  ready : g.H.Handler.ready l.stack l.handler l.source;
}
