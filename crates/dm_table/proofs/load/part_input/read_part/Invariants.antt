use Rattle.dm_table.proofs.Prelude.{vec_len}
use Rattle.dm_table.specs.declared.load.part_input.TheConstants.{MOST_PART_BYTES}
use Rattle.dm_table.proofs.load.part_input.read_part.Given as goal
use Rattle.std.specs.Prelude.{◌≡◌, ◌-◌, ◌+◌, ◌++◌}

-- the text is what the input handed out so far, and no end or fault was met
abbrev pub invariant-chunks : goal.invariant-chunks
invariant-chunks g l = record {
  handed : (g.I.Input.past l.input).handed ≡ (g.I.Input.past l.fn.input).handed ++ l.text.items;
  faults : (g.I.Input.past l.input).faults ≡ (g.I.Input.past l.fn.input).faults;
  ends : (g.I.Input.past l.input).ends ≡ (g.I.Input.past l.fn.input).ends;
}

abbrev pub decreases-chunks : goal.decreases-chunks
decreases-chunks g l = MOST_PART_BYTES + 1 - vec_len l.text
