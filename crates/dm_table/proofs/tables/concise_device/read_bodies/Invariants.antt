-- the fault so far and those of the bodies left give that of all; if there is none, the lines so far and those left are all lines
use Rattle.dm_table.proofs.Prelude.{drop, None, texts, earlier_of, fault_of_bodies, lines_in}
use Rattle.dm_table.proofs.tables.concise_device.read_bodies.Given as goal
use Rattle.std.specs.Prelude.{◌≡◌, ◌++◌}

abbrev pub invariant-loop-body : goal.invariant-loop-body
invariant-loop-body l =
    record {
      known : earlier_of l.fault (fault_of_bodies (texts (drop l.body-index l.bodies))) ≡ earlier_of l.fn.label (fault_of_bodies (texts l.bodies));
      made : l.fault ≡ None → l.lines ++ lines_in l.at (texts (drop l.body-index l.bodies)) ≡ lines_in l.at (texts l.bodies);
    }
