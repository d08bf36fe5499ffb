-- the bodies before this one have been written, each after a comma, and nothing failed
use Rattle.dm_table.proofs.Prelude.{take, Ok, flat_map, body_text, Wrote, OutFault}
use Rattle.dm_table.proofs.tables.canonical_text.write_more_bodies.Given as goal
use Rattle.std.specs.Prelude.{◌∷◌}

abbrev pub invariant-loop-line : goal.invariant-loop-line
invariant-loop-line g l =
    Wrote {E = OutFault} (g.W.Output.past l.fn.writer) (g.W.Output.past l.writer) (Ok tt) (flat_map (λ line. 44 ∷ body_text line) (take l.line-index l.lines))
