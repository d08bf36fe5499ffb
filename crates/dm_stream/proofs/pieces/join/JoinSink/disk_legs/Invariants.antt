use Rattle.dm_stream.proofs.Prelude.{None, Some, HasTakenTo, join_past, IsHeld, piece_of}
use Rattle.dm_stream.proofs.pieces.RowLemmas.{at_hand}
use Rattle.dm_stream.proofs.pieces.join.JoinSink.disk_legs.Given as goal
use Rattle.std.specs.Prelude.{◌≡◌}

abbrev pub invariant-legs : goal.invariant-legs
invariant-legs g l = record {
  taken : HasTakenTo (join_past g.W.Output.past) l.fn.self (at_hand l.self l.range) l.op l.fn.legs l.legs;
  nothing : l.self.held.piece ≡ None;
  fits : IsHeld l.self.held.stack (Some (piece_of l.range));
}

abbrev pub decreases-legs : goal.decreases-legs
decreases-legs g l = l.legs.left
