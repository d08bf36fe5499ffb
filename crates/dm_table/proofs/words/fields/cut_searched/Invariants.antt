-- the parts so far and those of `rest` are the parts of the text
use Rattle.dm_table.proofs.Prelude.{length, texts, parts_at}
use Rattle.dm_table.proofs.words.fields.cut_searched.Given as goal
use Rattle.std.specs.Prelude.{◌≡◌, ◌++◌}

abbrev pub invariant-loop-end : goal.invariant-loop-end
invariant-loop-end l = texts l.parts.items ++ parts_at l.at l.rest ≡ texts l.fn.parts.items ++ parts_at l.at l.text

abbrev pub decreases-loop-end : goal.decreases-loop-end
decreases-loop-end l = length l.rest
