-- the devices and faults so far, with those of the parts left, are the devices and faults of all parts
use Rattle.dm_table.proofs.Prelude.{None, drop, Source, texts, first_noted, no_faults, noted_rows, fault_of_device, devices_from}
use Rattle.dm_table.proofs.tables.concise_text.read_devices.Given as goal
use Rattle.std.specs.Prelude.{◌≡◌, ◌+◌, ◌++◌}

abbrev pub invariant-loop-index : goal.invariant-loop-index
invariant-loop-index l =
    record {
      devices : first_noted l.reading.faults ≡ None → l.reading.values.items ++ devices_from (l.index + 1) (texts (drop l.index l.parts)) ≡ devices_from 1 (texts l.parts);
      faults : noted_rows Source fault_of_device l.reading.faults (l.index + 1) (texts (drop l.index l.parts)) ≡ noted_rows Source fault_of_device no_faults 1 (texts l.parts);
    }
