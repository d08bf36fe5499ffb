use Rattle.dm_stream.proofs.Prelude.{OutFault}
use Rattle.dm_stream.proofs.pieces.FewestLemmas.{fewest_is}
use Rattle.dm_stream.proofs.runs.Runs.{closed_after, ran_failed, ran_whole}
use Rattle.dm_stream.proofs.runs.map_run.run.Goals as goal

pub returns-in-Ok-clause-ran : goal.returns-in-Ok-clause-ran
returns-in-Ok-clause-ran g c =
    let requests = c.map_requests-ending in
    let wrote = c.write_rest-written.ensures in
    ran_whole OutFault _ _ c.args.stack.now c.args.status _ _ requests.new.mapper.state c.write_rest-written.new.mapper.state requests.result
    (closed_after c.write_rest-written.result _ _ c.in-Ok.ensures.untouched wrote.no_fault)
    (rw wrote.same) requests.ensures.mapped
    (c.in-Ok.ensures.closed _ _ (wrote.wrote _ _ requests.ensures.writes requests.ensures.mapped))

pub returns-in-Err-clause-ran : goal.returns-in-Err-clause-ran
returns-in-Err-clause-ran g c =
    let requests = c.map_requests-ending in
    let wrote = c.write_rest-written.ensures in
    let done = wrote.wrote _ _ requests.ensures.writes requests.ensures.mapped in
    ran_failed g.W.Output.past _ c.write_rest-written.new.output c.close_and_tell.new.output c.write_rest-written.result (record {}) _ c.args.stack.now c.args.status _ _ requests.new.mapper.state c.write_rest-written.new.mapper.state requests.result
    wrote.no_fault c.in-Err.ensures.untouched done requests.ensures.mapped (c.in-Err.ensures.closed _ _ done)

pub returns-in-Ok-clause-fewest : goal.returns-in-Ok-clause-fewest
returns-in-Ok-clause-fewest g c = fewest_is

pub returns-in-Err-clause-fewest : goal.returns-in-Err-clause-fewest
returns-in-Err-clause-fewest g c = fewest_is
