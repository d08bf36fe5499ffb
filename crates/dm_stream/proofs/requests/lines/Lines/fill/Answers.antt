use Rattle.dm_stream.proofs.Prelude.{◌∙◌, on_err}
use Rattle.dm_table.proofs.Growth.{quiet_since}
use Rattle.dm_stream.proofs.requests.Held.{same_range, none_after, refilled}
use Rattle.dm_stream.proofs.requests.lines.Lines.fill.Goals as goal
use Rattle.std.specs.Prelude.{◌-◌}

pub returns-clause-held : goal.returns-clause-held
returns-clause-held g c =
    let start = c.make_room-self-inside.result in
    let len = c.self.inside.end - c.self.inside.start in
    refilled c.read_after.new.buffer c.args.self.now (g.H.ReadsFrom.asked c.args.requests.now).handed (g.H.ReadsFrom.asked c.read_after.new.requests).handed start len c.in_ok-n.n
    (same_range c.read_after.new.buffer c.make_room-self-inside.new.buffer c.args.self.now start len c.read_after.ensures.kept (c.make_room-self-inside.ensures.kept ∙ c.self.view_is))
    c.in_ok-n.ensures.read.hands

pub returns-clause-none : goal.returns-clause-none
returns-clause-none g c = λ none.
    let start = c.make_room-self-inside.result in
    let len = c.self.inside.end - c.self.inside.start in
    none_after c.read_after.new.buffer c.args.self.now start len c.in_ok-n.n none
    (same_range c.read_after.new.buffer c.make_room-self-inside.new.buffer c.args.self.now start len c.read_after.ensures.kept (c.make_room-self-inside.ensures.kept ∙ c.self.view_is))

pub returns-in_err-n-clause-err : goal.returns-in_err-n-clause-err
returns-in_err-n-clause-err g c =
    let start = c.make_room-self-inside.result in
    let len = c.self.inside.end - c.self.inside.start in
    on_err c.from_residual.result _
    (same_range c.read_after.new.buffer c.make_room-self-inside.new.buffer c.args.self.now start len c.read_after.ensures.kept (c.make_room-self-inside.ensures.kept ∙ c.self.view_is))

pub returns-in_err-n-clause-held : goal.returns-in_err-n-clause-held
returns-in_err-n-clause-held g c =
    let start = c.make_room-self-inside.result in
    let len = c.self.inside.end - c.self.inside.start in
    same_range c.read_after.new.buffer c.make_room-self-inside.new.buffer c.args.self.now start len c.read_after.ensures.kept (c.make_room-self-inside.ensures.kept ∙ c.self.view_is)
    ∙ quiet_since (g.H.ReadsFrom.asked c.args.requests.now).handed (g.H.ReadsFrom.asked c.read_after.new.requests).handed c.args.self.now c.in_err-n.ensures.read.hands
