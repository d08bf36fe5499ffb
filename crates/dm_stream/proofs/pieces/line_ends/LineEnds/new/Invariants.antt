use Rattle.dm_stream.proofs.Prelude.{length, AreMade}
use Rattle.dm_stream.proofs.pieces.line_ends.LineEnds.new.Given as goal
use Rattle.std.specs.Prelude.{◌≡◌, ◌-◌, ◌≤◌}

-- the lengths so far have their line ends
abbrev pub invariant-lengths : goal.invariant-lengths
invariant-lengths l = (l.len ≤ 1000) × (length l.ends ≡ 1000) × AreMade l.len l.ends

abbrev pub decreases-lengths : goal.decreases-lengths
decreases-lengths l = 1000 - l.len
