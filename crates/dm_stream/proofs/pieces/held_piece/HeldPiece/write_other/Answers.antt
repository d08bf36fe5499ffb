use Rattle.dm_stream.proofs.Prelude.{◌∙◌, List, ℕ, Option, ap, sym, subst, Pending, HoldsNoRange, held_of, DiskRange, Wrote}
use Rattle.dm_stream.proofs.pieces.JoinLemmas.{held_line, no_range}
use Rattle.dm_stream.proofs.pieces.held_piece.HeldPiece.write_other.Goals as goal

pub returns-clause-wrote : goal.returns-clause-wrote
returns-clause-wrote g c =
    let none = no_range c.self.inside.range c.self.inside.other (subst (λ (h : Pending). HoldsNoRange h.piece) (sym c.self.view_is) c.requires) in
    let is = ap (λ (r : Option DiskRange). held_of r c.self.inside.other) none ∙ c.in-Some.is in
    subst (λ (text : List ℕ). Wrote (g.W.Output.past c.args.writer.now) (g.W.Output.past c.put_other-wrote.new.writer) c.put_other-wrote.result text) (held_line _ c.args.self.now _ c.self.view_is is c.self.invariant.0) c.put_other-wrote.ensures
