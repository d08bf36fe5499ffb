use Rattle.dm_stream.proofs.Prelude.{[], length, drop, ap, front_requests}
use Rattle.dm_stream.proofs.requests.Batches.{among_those}
use Rattle.dm_stream.proofs.requests.batch.answer_batch.Goals as goal
use Rattle.std.specs.Prelude.{◌+◌}

pub returns-in-Err : goal.returns-in-Err
returns-in-Err g c =
    let fronts = c.read_fronts-len.new.fronts.items in
    let len = c.read_fronts-len.result in
    let source = c.args.source.now in (
      front_requests fronts,
      c.args.done + length fronts + 1,
      drop len c.args.held.now,
      c.read_fronts-len.ensures.first,
      among_those _ _ _ _ (ap front_requests c.deref-2.ensures.0)
          (λ first stopped. g.met.H.Handler.answered_then_stopped c.args.stack.now c.args.handler.now c.prefetch.new.self c.answer_all.new.handler source source c.answer_all.new.source [] first _ c.prefetch.ensures.answered stopped)
          c.in-Err.ensures.stopped,
    )

pub returns : goal.returns
returns g c =
    let fronts = c.read_fronts-len.new.fronts.items in
    let len = c.read_fronts-len.result in
    let source = c.args.source.now in
    let requests = front_requests fronts in
    record {
      answered = (
        requests,
        rw c.len.ensures.value c.read_fronts-len.ensures.first,
        g.met.H.Handler.answered_then_answered c.args.stack.now c.args.handler.now c.prefetch.new.self c.answer_all.new.handler source source c.answer_all.new.source [] requests c.prefetch.ensures.answered
            (rw c.deref-2.ensures.0 at c.in_default.ensures.answered),
      );
      within = c.read_fronts-len.ensures.within;
      few = rw c.len.ensures.value c.read_fronts-len.ensures.few;
      ready = c.in_default.ensures.ready;
    }
