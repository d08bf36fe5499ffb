use Rattle.dm_map.proofs.pieces.LegUnits.{HasTakenTo}
use Rattle.dm_map.proofs.pieces.sink.Sink.disk_legs.Given as goal

abbrev pub invariant-legs : goal.invariant-legs
invariant-legs g l = HasTakenTo g.Self.Sink.past l.fn.self l.self l.op l.fn.legs l.legs

abbrev pub decreases-legs : goal.decreases-legs
decreases-legs g l = l.legs.left
