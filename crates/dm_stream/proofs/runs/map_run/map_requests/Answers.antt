use Rattle.dm_stream.proofs.Prelude.{rules, subst₂, delivery, HasMappedAll}
use Rattle.dm_stream.proofs.runs.Runs.{all_mapped, part_mapped, stopped_met}
use Rattle.dm_stream.proofs.runs.map_run.map_requests.Goals as goal

pub returns-in-Ok : goal.returns-in-Ok
returns-in-Ok g c =
    let past = g.W.Output.past in
    let new = c.handle_requests-handled.new in
    let before = g.R.Exchange.past c.args.requests.now in
    let after = g.R.Exchange.past new.requests in
    subst₂ (λ x y. HasMappedAll c.args.stack.now c.args.mapper.now new.source before after (past x) (past y) c.in-Ok.ending) {x = c.new.result.writer.now} {u = new.handler.join.writer.now} c.new.ensures.writer (search rules)
    (record {
      left = search rules;
      writes = search rules;
      mapped = all_mapped c.args.stack.now c.args.mapper.now.state new.source.state (delivery before after)
          (past c.new.result.writer.now).written (past new.handler.join.writer.now).written c.in-Ok.ending c.in-Ok.ensures.answered.0 c.in-Ok.ensures.ending c.in-Ok.ensures.no_write_fault;
    })

pub returns-in-Err : goal.returns-in-Err
returns-in-Err g c =
    let past = g.W.Output.past in
    let new = c.handle_requests-handled.new in
    let before = g.R.Exchange.past c.args.requests.now in
    let after = g.R.Exchange.past new.requests in
    subst₂ (λ x y. HasMappedAll c.args.stack.now c.args.mapper.now new.source before after (past x) (past y) c.ending_of.result) {x = c.new.result.writer.now} {u = new.handler.join.writer.now} c.new.ensures.writer (search rules)
    (record {
      left = record {
        stack = search rules;
        going = search rules;
        reads = search rules;
        met = stopped_met before after c.in-Err.cause c.ending_of.result c.ending_of.ensures c.in-Err.ensures.unread;
      };
      writes = search rules;
      mapped = part_mapped c.args.stack.now c.in-Err.cause c.ending_of.result c.args.mapper.now.state new.source (delivery before after)
          (past c.new.result.writer.now).written (past new.handler.join.writer.now).written _ c.ending_of.ensures (λ first stopped. stopped.0) c.in-Err.ensures.stopped;
    })
