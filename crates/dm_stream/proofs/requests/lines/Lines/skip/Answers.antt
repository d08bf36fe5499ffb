use Rattle.dm_stream.proofs.Prelude.{length, length-take, drop, ap, arith}
use Rattle.dm_stream.proofs.requests.Held.{without_front}
use Rattle.dm_stream.proofs.requests.lines.Lines.skip.Goals as goal
use Rattle.std.specs.Prelude.{◌-◌}

pub returns : goal.returns
returns c =
    let a = c.self.inside in
    without_front a.buffer c.args.self.now a.start a.end c.args.len c.self.view_is (omega (arith, c.requires, c.self.invariant, length-take (a.end - a.start) (drop a.start a.buffer), ap length c.self.view_is))
