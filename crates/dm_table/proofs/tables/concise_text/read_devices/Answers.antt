use Rattle.dm_table.proofs.Prelude.{ℕ, suc, List, [], drop, get_or, ap, refl, arith, drop_more, Source, texts, no_faults, noted_rows, fault_of_device}
use Rattle.std.specs.Prelude.{◌≡◌, ◌+◌}
use denote.Ref.{Bor}
use Rattle.dm_table.proofs.tables.ConciseFaults.{devices_further}
use Rattle.dm_table.proofs.load.ReadRows.{faults_left}
use Rattle.dm_table.proofs.tables.concise_text.read_devices.Goals as goal

pub loop-index-preserved : goal.loop-index-preserved
loop-index-preserved c =
    let parts = c.args.parts.now in
    let i = c.loop-index.index in
    let read = c.read_part-read.result in
    let seen = c.loop-index.reading.faults in
    let none : Bor (List ℕ) = record { ref_ptr = (0, 0); now = [] } in
    let part = (get_or parts i none).now in
    let next : i + 1 + 1 ≡ suc (i + 1) = omega arith in
    record {
      devices =
          devices_further parts i none read seen c.note.new.self c.loop-index.reading.values.items c.read_part-read.new.devices.items c.loop-index-test.true c.read_part-read.ensures.devices c.in_ok-note.ensures.text c.in_ok-note.ensures.noted
          c.loop-index.invariant.devices;
      faults =
          faults_left Source fault_of_device (texts (drop i parts)) (texts (drop (i + 1) parts)) part part (i + 1) (i + 1 + 1) read seen c.note.new.self (noted_rows Source fault_of_device no_faults 1 (texts parts))
          (ap texts (drop_more parts i none c.loop-index-test.true)) next refl c.read_part-read.ensures.fault c.in_ok-note.ensures.text c.in_ok-note.ensures.noted c.loop-index.invariant.faults;
    }
