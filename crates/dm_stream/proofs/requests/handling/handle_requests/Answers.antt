use Rattle.dm_stream.proofs.Prelude.{grows-same, rules, ◌∙◌, refl, [], take, stand_of, grows_more, ALine, AnEnd, AnUnended, ALong, AFault, numbered, BadRequest, Done, ReadFault, Long, Unended}
use Rattle.dm_stream.proofs.requests.Batches.{after_batch, among_batch}
use Rattle.dm_stream.proofs.requests.Fronts.{held_next, told_front}
use Rattle.dm_stream.proofs.requests.HandledRequests.{after_waiting, bad_met, told_none, told_turn, ended, among}
use Rattle.dm_stream.proofs.requests.handling.handle_requests.Goals as goal
use Rattle.std.specs.Prelude.{◌+◌, ◌++◌, ◌∷◌}

pub lines-init : goal.lines-init
lines-init g c = record {
  ready = c.requires;
  few = search rules;
  turned = record {
    done = [];
    answered = g.met.H.Handler.answered_none c.args.stack.now c.args.handler.now c.args.source.now;
    reads = grows-same (g.H.ReadsFrom.asked c.args.requests.now).handed (g.H.ReadsFrom.asked c.args.requests.now).handed;
    faults = refl;
    ends = refl;
    told = told_none (g.H.ReadsFrom.asked c.args.requests.now).handed c.new-lines.result c.new-lines.ensures;
  };
}

-- A batch of requests at the front of the held bytes

pub lines-preserved-then-count-gt0 : goal.lines-preserved-then-count-gt0
lines-preserved-then-count-gt0 g c = record {
  ready = c.in-Ok.ensures.ready;
  few = c.in-Ok.ensures.few;
  turned = after_batch _ c.in-Ok.batch.len _ _ (g.met.H.Handler.answered_then_answered c.args.stack.now) c.lines.invariant.turned c.in-Ok.ensures.answered c.held-held.ensures c.skip.ensures;
}

pub returns-in-Err-clause-stopped : goal.returns-in-Err-clause-stopped
returns-in-Err-clause-stopped g c =
    let so_far = c.lines.invariant.turned in
    among_batch (g.H.ReadsFrom.asked c.args.requests.now) (g.H.ReadsFrom.asked c.lines.requests) c.lines.lines c.held-held.result.now (c.lines.number + 1) so_far.done _ _ so_far.told c.held-held.ensures c.in-Err.ensures
    (λ first stopped. g.met.H.Handler.answered_then_stopped c.args.stack.now c.args.handler.now c.lines.handler c.answer_in_batches.new.handler c.args.source.now c.lines.source c.answer_in_batches.new.source so_far.done first _ so_far.answered stopped)

-- A request at the front of the held bytes

pub lines-preserved-in-Some : goal.lines-preserved-in-Some
lines-preserved-in-Some g c =
    let so_far = after_batch _ c.in-Ok.batch.len _ _ (g.met.H.Handler.answered_then_answered c.args.stack.now) c.lines.invariant.turned c.in-Ok.ensures.answered c.held-held.ensures c.skip.ensures in
    let front = c.in-Some.front in
    let more = numbered front.request ∷ [] in
    record {
      ready = c.in_default-handle.ensures.ready;
      few = c.in-Some.ensures.few;
      turned = record {
        done = so_far.done ++ more;
        answered = g.met.H.Handler.answered_then_answered c.args.stack.now c.args.handler.now c.answer_in_batches.new.handler c.handle.new.self c.args.source.now c.answer_in_batches.new.source c.handle.new.source so_far.done more so_far.answered c.in_default-handle.ensures.answered;
        reads = so_far.reads;
        faults = so_far.faults;
        ends = so_far.ends;
        told =
            told_front (g.H.ReadsFrom.asked c.args.requests.now).handed (g.H.ReadsFrom.asked c.lines.requests).handed c.skip.new.self c.held.result.now c.skip-in-Some.new.self front.len (c.lines.number + c.in-Ok.batch.count + 1) so_far.done more so_far.told so_far.reads
            c.held.ensures c.in-Some.ensures.within c.in-Some.ensures.short c.in-Some.ensures.line c.in-Some.ensures.good c.skip-in-Some.ensures;
      };
    }

pub returns-in-Err-handle-clause-stopped : goal.returns-in-Err-handle-clause-stopped
returns-in-Err-handle-clause-stopped g c =
    let so_far = after_batch _ c.in-Ok.batch.len _ _ (g.met.H.Handler.answered_then_answered c.args.stack.now) c.lines.invariant.turned c.in-Ok.ensures.answered c.held-held.ensures c.skip.ensures in
    let front = c.in-Some.front in
    let read = c.held.result.now in
    let first = g.H.ReadsFrom.asked c.args.requests.now in
    let mid = g.H.ReadsFrom.asked c.lines.requests in
    let more = numbered front.request ∷ [] in
    among first mid mid read (c.lines.number + c.in-Ok.batch.count + 1) so_far.done more (take front.len read) _
    (rw c.held.ensures so_far.told)
    so_far.reads (grows-same mid.handed mid.handed) so_far.faults so_far.ends
    (held_next (stand_of mid mid) mid.handed read front.len c.in-Some.ensures.within c.in-Some.ensures.short c.in-Some.ensures.line)
    c.in-Some.ensures.good
    (g.met.H.Handler.answered_then_stopped c.args.stack.now c.args.handler.now c.answer_in_batches.new.handler c.handle.new.self c.args.source.now c.answer_in_batches.new.source c.handle.new.source so_far.done more _ so_far.answered c.in-Err-handle.ensures.stopped)

-- The next line, after the handler was told that a read may follow

pub lines-preserved : goal.lines-preserved
lines-preserved g c =
    let turned = after_batch _ c.in-Ok.batch.len _ _ (g.met.H.Handler.answered_then_answered c.args.stack.now) c.lines.invariant.turned c.in-Ok.ensures.answered c.held-held.ensures c.skip.ensures in
    let so_far = after_waiting (g.met.H.Handler.answered_then_answered c.args.stack.now) turned (c.before_read.ensures.answered c.args.stack.now c.answer_in_batches.new.source) in
    let h0 = (g.H.ReadsFrom.asked c.args.requests.now).handed in
    let h1 = (g.H.ReadsFrom.asked c.lines.requests).handed in
    let h2 = (g.H.ReadsFrom.asked c.next_for.new.requests).handed in
    let more = numbered c.in-Ok-request_of.request ∷ [] in
    record {
      ready = c.in_default-handle_named.ensures.ready;
      few = c.in-Ok-request_of.ensures.few;
      turned = record {
        done = so_far.done ++ more;
        answered = g.met.H.Handler.answered_then_answered c.args.stack.now c.args.handler.now c.before_read.new.handler c.handle_named.new.handler c.args.source.now c.answer_in_batches.new.source c.handle_named.new.source so_far.done more so_far.answered c.in_default-handle_named.ensures.answered;
        reads = grows_more h0 h1 h2 so_far.reads c.in-Line.ensures.reads.grows;
        faults = c.in-Line.ensures.quiet.0 ∙ so_far.faults;
        ends = c.in-Line.ensures.quiet.1 ∙ so_far.ends;
        told =
            told_turn h0 h1 h2 c.skip.new.self c.next_for.follows.lender-at-none c.in-Line.line.now so_far.done more (c.lines.number + c.in-Ok.batch.count + 1) _ so_far.told
            so_far.reads c.in-Line.ensures.reads.grows c.in-Line.ensures.answer c.in-Ok-request_of.ensures.good
            (c.next_for.follows.holds-at-none ∙ rw c.in-Line.is);
      };
    }

pub returns-in-Err-request_of-clause-answered : goal.returns-in-Err-request_of-clause-answered
returns-in-Err-request_of-clause-answered g c =
    let turned = after_batch _ c.in-Ok.batch.len _ _ (g.met.H.Handler.answered_then_answered c.args.stack.now) c.lines.invariant.turned c.in-Ok.ensures.answered c.held-held.ensures c.skip.ensures in
    ended (g.H.Handler.answered c.args.stack.now) (g.H.ReadsFrom.asked c.next_for.new.requests) (ALine c.in-Line.line.now) (BadRequest (c.lines.number + c.in-Ok.batch.count + 1) c.in-Err-request_of.word) (g.met.H.Handler.answered_then_answered c.args.stack.now) turned (c.before_read.ensures.answered c.args.stack.now c.answer_in_batches.new.source) c.in-Line.ensures.reads.grows c.in-Line.ensures.answer c.in-Err-request_of.ensures.bad

pub returns-in-Err-request_of-clause-met : goal.returns-in-Err-request_of-clause-met
returns-in-Err-request_of-clause-met g c =
    let turned = after_batch _ c.in-Ok.batch.len _ _ (g.met.H.Handler.answered_then_answered c.args.stack.now) c.lines.invariant.turned c.in-Ok.ensures.answered c.held-held.ensures c.skip.ensures in
    bad_met (g.H.ReadsFrom.asked c.args.requests.now) (g.H.ReadsFrom.asked c.next_for.new.requests) (c.lines.number + c.in-Ok.batch.count + 1) c.in-Err-request_of.word
    (c.in-Line.ensures.quiet.0 ∙ turned.faults, c.in-Line.ensures.quiet.1 ∙ turned.ends)

pub returns-in-End-clause-answered : goal.returns-in-End-clause-answered
returns-in-End-clause-answered g c =
    let turned = after_batch _ c.in-Ok.batch.len _ _ (g.met.H.Handler.answered_then_answered c.args.stack.now) c.lines.invariant.turned c.in-Ok.ensures.answered c.held-held.ensures c.skip.ensures in
    ended (g.H.Handler.answered c.args.stack.now) (g.H.ReadsFrom.asked c.next_for.new.requests) AnEnd Done (g.met.H.Handler.answered_then_answered c.args.stack.now) turned (c.before_read.ensures.answered c.args.stack.now c.answer_in_batches.new.source) c.in-End.ensures.reads.grows c.in-End.ensures.answer (λ rest. refl)

pub returns-in-Unended-clause-answered : goal.returns-in-Unended-clause-answered
returns-in-Unended-clause-answered g c =
    let turned = after_batch _ c.in-Ok.batch.len _ _ (g.met.H.Handler.answered_then_answered c.args.stack.now) c.lines.invariant.turned c.in-Ok.ensures.answered c.held-held.ensures c.skip.ensures in
    ended (g.H.Handler.answered c.args.stack.now) (g.H.ReadsFrom.asked c.next_for.new.requests) AnUnended (BadRequest (c.lines.number + c.in-Ok.batch.count + 1) Unended) (g.met.H.Handler.answered_then_answered c.args.stack.now) turned (c.before_read.ensures.answered c.args.stack.now c.answer_in_batches.new.source) c.in-Unended.ensures.reads.grows c.in-Unended.ensures.answer (λ rest. refl)

pub returns-in-Long-clause-answered : goal.returns-in-Long-clause-answered
returns-in-Long-clause-answered g c =
    let turned = after_batch _ c.in-Ok.batch.len _ _ (g.met.H.Handler.answered_then_answered c.args.stack.now) c.lines.invariant.turned c.in-Ok.ensures.answered c.held-held.ensures c.skip.ensures in
    ended (g.H.Handler.answered c.args.stack.now) (g.H.ReadsFrom.asked c.next_for.new.requests) ALong (BadRequest (c.lines.number + c.in-Ok.batch.count + 1) Long) (g.met.H.Handler.answered_then_answered c.args.stack.now) turned (c.before_read.ensures.answered c.args.stack.now c.answer_in_batches.new.source) c.in-Long.ensures.reads.grows c.in-Long.ensures.answer (λ rest. refl)

pub returns-in-ReadFault-clause-answered : goal.returns-in-ReadFault-clause-answered
returns-in-ReadFault-clause-answered g c =
    let turned = after_batch _ c.in-Ok.batch.len _ _ (g.met.H.Handler.answered_then_answered c.args.stack.now) c.lines.invariant.turned c.in-Ok.ensures.answered c.held-held.ensures c.skip.ensures in
    ended (g.H.Handler.answered c.args.stack.now) (g.H.ReadsFrom.asked c.next_for.new.requests) AFault ReadFault (g.met.H.Handler.answered_then_answered c.args.stack.now) turned (c.before_read.ensures.answered c.args.stack.now c.answer_in_batches.new.source) c.in-ReadFault.ensures.reads.grows c.in-ReadFault.ensures.answer (λ rest. refl)

pub returns-in-Err-handle_named-clause-stopped : goal.returns-in-Err-handle_named-clause-stopped
returns-in-Err-handle_named-clause-stopped g c =
    let turned = after_batch _ c.in-Ok.batch.len _ _ (g.met.H.Handler.answered_then_answered c.args.stack.now) c.lines.invariant.turned c.in-Ok.ensures.answered c.held-held.ensures c.skip.ensures in
    let so_far = after_waiting (g.met.H.Handler.answered_then_answered c.args.stack.now) turned (c.before_read.ensures.answered c.args.stack.now c.answer_in_batches.new.source) in
    let first = g.H.ReadsFrom.asked c.args.requests.now in
    let mid = g.H.ReadsFrom.asked c.lines.requests in
    let last = g.H.ReadsFrom.asked c.next_for.new.requests in
    let more = numbered c.in-Ok-request_of.request ∷ [] in
    among first mid last c.skip.new.self (c.lines.number + c.in-Ok.batch.count + 1) so_far.done more c.in-Line.line.now _
    so_far.told so_far.reads c.in-Line.ensures.reads.grows so_far.faults so_far.ends c.in-Line.ensures.answer c.in-Ok-request_of.ensures.good
    (g.met.H.Handler.answered_then_stopped c.args.stack.now c.args.handler.now c.before_read.new.handler c.handle_named.new.handler c.args.source.now c.answer_in_batches.new.source c.handle_named.new.source so_far.done more _ so_far.answered c.in-Err-handle_named.ensures.stopped)
