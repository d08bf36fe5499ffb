use Rattle.dm_stream.proofs.Prelude.{Option, ap, held_of, DiskRange}
use Rattle.dm_stream.proofs.pieces.JoinLemmas.{held_line}
use Rattle.dm_stream.proofs.pieces.held_piece.HeldPiece.replace.Goals as goal
use Rattle.dm_stream.proofs.pieces.held_piece.HeldPiece.replace.Goals.{in-Some+in_default-put_range, in_default+in_ok-write_other}

pub returns-in-Err-clause-wrote : goal.returns-in-Err-clause-wrote
returns-in-Err-clause-wrote g c =
    let is = ap (λ (r : Option DiskRange). held_of r c.self.inside.other) c.in-Some.is in
    let text = held_line _ c.args.self.now _ c.self.view_is is c.self.invariant.0 in
    rw (← text, ← c.in-Err.is) c.put_range.ensures

pub returns-in-Some-of-clause-wrote : goal.returns-in-Some-of-clause-wrote
returns-in-Some-of-clause-wrote g c = elim c.match-self.branch [
  | in-Some+in_default-put_range w ↦
      let is = ap (λ (r : Option DiskRange). held_of r c.self.inside.other) w.in-Some.is in
      let text = held_line _ c.args.self.now _ c.self.view_is is c.self.invariant.0 in
      rw (w.writer-is, ← text, ← w.in_default-put_range.is) w.put_range.ensures
  | in_default+in_ok-write_other w ↦ rw (w.writer-is, ← w.in_ok-write_other.was) w.write_other.ensures.wrote
]

pub returns-in-None-clause-wrote : goal.returns-in-None-clause-wrote
returns-in-None-clause-wrote g c = elim c.match-self.branch [
  | in-Some+in_default-put_range w ↦
      let is = ap (λ (r : Option DiskRange). held_of r c.self.inside.other) w.in-Some.is in
      let text = held_line _ c.args.self.now _ c.self.view_is is c.self.invariant.0 in
      rw (w.writer-is, ← text, ← w.in_default-put_range.is) w.put_range.ensures
  | in_default+in_ok-write_other w ↦ rw (w.writer-is, ← w.in_ok-write_other.was) w.write_other.ensures.wrote
]
