-- the values and faults so far, with those of the rows left, are the values and faults of all rows
use Rattle.dm_table.proofs.Prelude.{[], None, length, map, lines_of, rest_of, with_rows, first_noted, no_faults, noted_rows, row_fault}
use Rattle.dm_table.proofs.load.reading.read_each.Given as goal
use Rattle.std.specs.Prelude.{◌≡◌, ◌+◌, ◌≤◌}

abbrev pub invariant-loop-end : goal.invariant-loop-end
invariant-loop-end g l =
    let form = g.T.FromRows in
    let fault = row_fault form.is_row form.has_values form.has_names in
    let left = map form.row_of (lines_of l.rest) in
    let all = map form.row_of (lines_of l.text) in
    record {
      values : first_noted l.reading.faults ≡ None → with_rows form.with_row l.reading.values.items l.number left ≡ with_rows form.with_row [] 1 all;
      faults : noted_rows l.part fault l.reading.faults l.number left ≡ noted_rows l.part fault no_faults 1 all;
      number : l.number + length (lines_of l.rest) ≡ length (lines_of l.text) + 1;
      rest : rest_of l.rest ≡ rest_of l.text;
      small : l.number + length l.rest ≤ length l.text + 1;
    }

abbrev pub decreases-loop-end : goal.decreases-loop-end
decreases-loop-end g l = length l.rest
