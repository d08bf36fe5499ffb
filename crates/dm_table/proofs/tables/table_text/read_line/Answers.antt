use Rattle.dm_table.proofs.Prelude.{true, false, nat_eq, refl, sym, ◌∙◌, arith, pointwise, vec_len, texts}
use Rattle.dm_table.proofs.tables.TableLines.{add_same, add_other, add_first}
use Rattle.dm_table.proofs.tables.table_text.read_line.Goals.{in-Some+else-eq, in_default}
use Rattle.dm_table.proofs.tables.table_text.read_line.Goals as goal
use Rattle.std.specs.Prelude.{◌≡◌, ◌-◌}

pub returns-then-eq : goal.returns-then-eq
returns-then-eq c =
    let devices = c.args.devices.now in
    let some = c.in-Some.ensures.variant.0 refl in
    let same : pointwise nat_eq c.args.name.now c.in-Some.last.now.name ≡ true = rw c.as_str.ensures.text at (rw c.as_bytes.ensures.value at (sym c.eq.ensures ∙ c.if-eq.true)) in
    let valid = c.as_str.ensures.name in
    add_same c.read_body.result devices.items (vec_len devices - 1) c.in-Some.last.now c.read_body.new.lines c.args.name.now c.args.at (texts c.args.body.now) (omega (arith, devices.ok.0, some)) c.in-Some.ensures.value valid same c.read_body.ensures

pub returns : goal.returns
returns c =
    let devices = c.args.devices.now in
    elim c.match-last_mut.branch [
      | in-Some+else-eq w ↦
          let some = w.in-Some.ensures.variant.0 refl in
          let other : pointwise nat_eq c.args.name.now w.in-Some.last.now.name ≡ false = rw w.as_str.ensures.text at (rw w.as_bytes.ensures.value at (sym w.eq.ensures ∙ w.if-eq.false)) in
          rw (c.in_ok-push.ensures.items, w.devices-is) (add_other devices.items (vec_len devices - 1) w.in-Some.last.now c.in_ok-read_device.field-0 c.args.name.now c.args.at (texts c.args.body.now) (omega (arith, devices.ok.0, some)) w.in-Some.ensures.value other c.in_ok-read_device.ensures)
      | in_default w ↦ rw (c.in_ok-push.ensures.items, w.devices-is) (add_first devices.items c.in_ok-read_device.field-0 c.args.name.now c.args.at (texts c.args.body.now) (omega (arith, w.in_default.ensures.item.3)) c.in_ok-read_device.ensures)
    ]
