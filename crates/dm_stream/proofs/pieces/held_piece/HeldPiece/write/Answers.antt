use Rattle.dm_stream.proofs.Prelude.{List, ℕ, Option, ap, subst, held_of, DiskRange, Wrote}
use Rattle.dm_stream.proofs.pieces.JoinLemmas.{held_line}
use Rattle.dm_stream.proofs.pieces.held_piece.HeldPiece.write.Goals as goal

pub returns-in-Some-clause-wrote : goal.returns-in-Some-clause-wrote
returns-in-Some-clause-wrote g c =
    let is = ap (λ (r : Option DiskRange). held_of r c.self.inside.other) c.in-Some.is in
    subst (λ (text : List ℕ). Wrote (g.W.Output.past c.args.writer.now) (g.W.Output.past c.put_range-wrote.new.writer) c.put_range-wrote.result text) (held_line _ c.args.self.now _ c.self.view_is is c.self.invariant.0) c.put_range-wrote.ensures
