-- the lines before this one have been written, and nothing failed
use Rattle.dm_table.proofs.Prelude.{take, Ok, lines_text, Wrote, OutFault}
use Rattle.dm_table.proofs.tables.canonical_text.write_lines.Given as goal

abbrev pub invariant-loop-line : goal.invariant-loop-line
invariant-loop-line g l =
    Wrote {E = OutFault} (g.W.Output.past l.fn.writer) (g.W.Output.past l.writer) (Ok tt) (lines_text l.name (take l.line-index l.lines))
