use Rattle.dm_stack.proofs.Prelude.{Some, [], ap, arith, get_or, length, sym, take, true, ◌∙◌, position, length-map, position-Some, bytes_eq-Decides, is_device_name, is_same}
use Rattle.dm_stack.proofs.SoundLines.{position-map}
use Rattle.dm_stack.proofs.stack.Stack.device_at_front.Goals as goal
use Rattle.dm_stack.proofs.stack.Stack.device_at_front.Goals.{In_ok-index}
use Rattle.std.specs.Prelude.{◌≡◌}

-- the device found is the one with the name at the front
device_is : (c : In_ok-index) → position (λ device. is_same device.name (take c.in_ok-index.len c.args.text.now)) c.self.inside.devices ≡ Some c.in_ok-index.index
device_is c =
    sym (position-map (λ device. device.name) (λ other. is_same other (take c.in_ok-index.len c.args.text.now)) c.self.inside.devices)
    ∙ rw (← c.self.invariant.device_names) c.in_ok-index.ensures.number

pub bounds-as_slice-index : goal.bounds-as_slice-index
bounds-as_slice-index c =
    let names = c.self.inside.device_names in
    let place = position-Some (λ other. is_same other (take c.in_ok-index.len c.args.text.now)) names c.in_ok-index.index [] c.in_ok-index.ensures.number in
    let count : length names ≡ length c.self.inside.devices = ap length c.self.invariant.device_names ∙ length-map c.self.inside.devices (λ device. device.name) in
    rw c.as_slice.ensures (omega (arith, place.0, count))

pub returns-clause-device : goal.returns-clause-device
returns-clause-device c = rw (c.new.ensures, ← c.self.view_is) (device_is (goal.at.returns-clause-device c).In_ok-index)

pub returns-clause-name : goal.returns-clause-name
returns-clause-name c =
    let devices = c.self.inside.devices in
    let name = take c.in_ok-index.len c.args.text.now in
    let device = get_or devices c.in_ok-index.index c.index-as_slice-index.result in
    let place = position-Some (λ other. is_same other.name name) devices c.in_ok-index.index c.index-as_slice-index.result (device_is (goal.at.returns-clause-name c).In_ok-index) in
    let same : device.name ≡ name = (bytes_eq-Decides device.name name).0 place.1 in
    let named : is_device_name device.name ≡ true = rw (← c.as_slice.ensures) c.as_str-name.ensures.name in
    rw (← same) named
