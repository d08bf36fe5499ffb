use Rattle.dmremap.proofs.Prelude.{rules, subst, delivery, written_since, requests_of, IsPlayed, HasDone, Ended}
use Rattle.dmremap.proofs.ReplayLemmas.{all_played, part_played, stopped_met}
use Rattle.dmremap.proofs.replay_run.play_requests.Goals as goal

pub returns-in-Ok-clause-played : goal.returns-in-Ok-clause-played
returns-in-Ok-clause-played g c =
    let stack = c.args.stack.now in
    let past = g.W.Output.past in
    let new = c.handle_requests-played.new in
    let requests = requests_of (delivery (g.Q.Exchange.past c.args.requests.now) (g.Q.Exchange.past new.requests)) in
    let text = written_since (past c.args.output.now) (past new.handler.output.now) in
    subst (λ x. HasDone (IsPlayed stack c.args.replay.now.start requests) (past c.args.output.now) (past x) (Ended c.in-Ok.ending)) (search rules)
    (record {
      did = all_played stack _ requests text c.in-Ok.ending (rw c.requires.new at c.in-Ok.ensures.answered.0.told) c.in-Ok.ensures.ending c.in-Ok.ensures.no_write_fault;
      writes = search rules;
    })

pub returns-in-Err-clause-played : goal.returns-in-Err-clause-played
returns-in-Err-clause-played g c =
    let stack = c.args.stack.now in
    let past = g.W.Output.past in
    let new = c.handle_requests-played.new in
    let requests = requests_of (delivery (g.Q.Exchange.past c.args.requests.now) (g.Q.Exchange.past new.requests)) in
    let text = written_since (past c.args.output.now) (past new.handler.output.now) in
    subst (λ x. HasDone (IsPlayed stack c.args.replay.now.start requests) (past c.args.output.now) (past x) c.in-Err.exit) (search rules)
    (record {
      did = part_played stack _ c.in-Err.exit requests text _ (λ first stopped. rw c.requires.new at stopped.0) c.in-Err.ensures.stopped;
      writes = c.in-Err.ensures.stopped.holds.1.moved;
    })

pub returns-in-Err-clause-met : goal.returns-in-Err-clause-met
returns-in-Err-clause-met g c =
    stopped_met (g.Q.Exchange.past c.args.requests.now) (g.Q.Exchange.past c.handle_requests-played.new.requests) _ _ c.in-Err.exit _ _ _ c.in-Err.ensures.stopped.holds.0 c.in-Err.ensures.unread
