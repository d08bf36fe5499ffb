use Rattle.dm_stream.proofs.Prelude.{◌∙◌, sym, ap, None, Some, Ok, Err, subst₂, units_of, piece_of, step_of, numbered, fewest, pieces_text, Wrote, OutFault, on_ok}
use Rattle.dm_stream.proofs.runs.RequestMapped.{at_home, cut_short, home_wrote, on_sink, state_at, taken_wrote, took_all}
use Rattle.dm_stream.proofs.runs.request_mapper.write_joined.Goals as goal
use Rattle.std.specs.Prelude.{◌≡◌}

pub returns-in-Ok-None-clause-wrote : goal.returns-in-Ok-None-clause-wrote
returns-in-Ok-None-clause-wrote g c =
    let request = c.args.request.now in let begun = c.begin.new.self in let new = c.request_or_home.new.sink in
    let took = took_all _ _ _ _ c.request_or_home.result (c.in-Ok-None.is ∙ ap Ok c.in-Ok-None.field-0-is) c.request_or_home.ensures.took in
    subst₂ (λ s w. Wrote (g.W.Output.past w) (g.W.Output.past c.finish.new.self.writer.now) c.finish.result (pieces_text c.args.join.now.held.stack request.number (fewest (step_of s c.args.device (numbered request) c.args.mapper.now.state).units))) c.requires.stack c.begin.ensures.writer
    (taken_wrote _ request.number begun.held new.held _ c.begin.ensures.number took.0 took.1.moved c.finish.ensures.wrote)

pub write_range-requires : goal.write_range-requires
write_range-requires g c =
    let begun = c.begin.new.self in let new = c.request_or_home.new.sink in
    let home = at_home _ c.request_or_home.result c.in-Ok-Some.home (c.in-Ok-Some.is ∙ ap Ok c.in-Ok-Some.field-0-is) c.request_or_home.ensures.took in
    let stack : new.held.stack ≡ c.args.mapper.now.stack = rw (home.1, c.begin.ensures.number, c.requires.stack) in
    c.at.ensures.held new.held.stack c.args.request.now.at_least (rw stack home.0.lies)

pub returns-in-Ok-None-clause-state : goal.returns-in-Ok-None-clause-state
returns-in-Ok-None-clause-state g c =
    let a = c.args in
    let state = state_at c.request_or_home.result None _ (c.in-Ok-None.is ∙ ap Ok c.in-Ok-None.field-0-is) c.request_or_home.ensures.state in
    on_ok c.finish.result _ (rw c.requires.stack at state)

pub returns-in-Ok-Some-clause-state : goal.returns-in-Ok-Some-clause-state
returns-in-Ok-Some-clause-state g c =
    let a = c.args in
    let state = state_at c.request_or_home.result (Some c.in-Ok-Some.home) _ (c.in-Ok-Some.is ∙ ap Ok c.in-Ok-Some.field-0-is) c.request_or_home.ensures.state in
    on_ok c.write_range.result _ (rw c.requires.stack at state)

pub returns-in-Ok-Some-clause-wrote : goal.returns-in-Ok-Some-clause-wrote
returns-in-Ok-Some-clause-wrote g c =
    let request = c.args.request.now in let begun = c.begin.new.self in let new = c.request_or_home.new.sink in
    let home = at_home _ c.request_or_home.result c.in-Ok-Some.home (c.in-Ok-Some.is ∙ ap Ok c.in-Ok-Some.field-0-is) c.request_or_home.ensures.took in
    subst₂ (λ s w. Wrote (g.W.Output.past w) (g.W.Output.past c.write_range.new.self.writer.now) c.write_range.result (pieces_text c.args.join.now.held.stack request.number (fewest (step_of s c.args.device (numbered request) c.args.mapper.now.state).units))) c.requires.stack c.begin.ensures.writer
    (home_wrote begun new (λ j. g.W.Output.past j.writer.now) (λ j. j.held) _ request.number _ (units_of (piece_of c.at.result)) home.1 c.begin.ensures.number (home.0.units ∙ sym c.at.ensures.units) c.write_range.ensures.wrote)

pub returns-in-Err-Sink-clause-wrote : goal.returns-in-Err-Sink-clause-wrote
returns-in-Err-Sink-clause-wrote g c =
    let request = c.args.request.now in let begun = c.begin.new.self in let new = c.request_or_home.new.sink in
    let failed = on_sink c.request_or_home.result c.in-Err-Sink.fault _ (c.in-Err-Sink.is ∙ ap Err c.in-Err-Sink.field-0-is) c.request_or_home.ensures.failed in
    subst₂ (λ s w. Wrote {E = OutFault} (g.W.Output.past w) (g.W.Output.past new.writer.now) (Err c.in-Err-Sink.fault) (pieces_text c.args.join.now.held.stack request.number (fewest (step_of s c.args.device (numbered request) c.args.mapper.now.state).units))) c.requires.stack c.begin.ensures.writer
    (record {
      moved = failed.left.holds.1.moved;
      ok = tt;
      left = cut_short _ request.number begun.held new.held failed.left.front failed.left.rest _ (g.W.Output.past begun.writer.now).written (g.W.Output.past new.writer.now).written c.begin.ensures.number failed.left.whole failed.left.holds.0;
    })
