use Rattle.dm_stream.proofs.Prelude.{Some, ap, ◌∙◌, delivery}
use Rattle.dm_stream.proofs.runs.EarlierPlayed.{all_played}
use Rattle.dm_stream.proofs.runs.earlier.play_earlier.Goals as goal

pub returns-in-Ok-Done-clause-played : goal.returns-in-Ok-Done-clause-played
returns-in-Ok-Done-clause-played g c =
    let delivered = delivery (g.R.Input.past c.args.requests.now) (g.R.Input.past c.handle_requests.new.requests) in
    let ends = c.in-Ok-Done.ensures.ending ∙ ap Some c.in-Ok-Done.field-0-is in
    record { done = all_played c.args.stack.now c.args.mapper.now.state _ delivered _ c.in-Ok-Done.ensures.answered.0 ends; refused = tt }

pub returns-in-Ok-BadRequest-clause-played : goal.returns-in-Ok-BadRequest-clause-played
returns-in-Ok-BadRequest-clause-played g c =
    let delivered = delivery (g.R.Input.past c.args.requests.now) (g.R.Input.past c.handle_requests.new.requests) in
    let ends = c.in-Ok-BadRequest.ensures.ending ∙ ap Some c.in-Ok-BadRequest.field-0-is in
    record { done = tt; refused = (all_played c.args.stack.now c.args.mapper.now.state _ delivered _ c.in-Ok-BadRequest.ensures.answered.0 ends).0 }

pub returns-in-Ok-ReadFault-clause-played : goal.returns-in-Ok-ReadFault-clause-played
returns-in-Ok-ReadFault-clause-played g c =
    let delivered = delivery (g.R.Input.past c.args.requests.now) (g.R.Input.past c.handle_requests.new.requests) in
    let ends = c.in-Ok-ReadFault.ensures.ending ∙ ap Some c.in-Ok-ReadFault.field-0-is in
    record { done = tt; refused = (all_played c.args.stack.now c.args.mapper.now.state _ delivered _ c.in-Ok-ReadFault.ensures.answered.0 ends).0 }
