-- the parts so far and those of `rest` are the parts of the text, and the marks left are those of `rest`
use Rattle.dm_table.proofs.Prelude.{length, texts, parts_at, marks_of}
use Rattle.dm_table.proofs.words.fields.cut_marked.Given as goal
use Rattle.std.specs.Prelude.{◌≡◌, ◌++◌, ◌≤◌}

abbrev pub invariant-loop-left : goal.invariant-loop-left
invariant-loop-left l =
    record {
      parts : texts l.parts.items ++ parts_at l._at l.rest ≡ texts l.fn.parts.items ++ parts_at l._at l.text;
      left : l.left ≡ marks_of l._at l.rest;
      short : length l.rest ≤ 64;
    }

abbrev pub decreases-loop-left : goal.decreases-loop-left
decreases-loop-left l = length l.rest
