use Rattle.lvm_volume.proofs.Prelude.{List, sym, ap, ◌∙◌, flat_map, append-nil, either_empty_from_Zip, Role, Volume, group_view}
use Rattle.lvm_volume.specs.tables.Tables.{devices_in}
use Rattle.lvm_volume.proofs.group.RoleLemmas.{none_left}
use Rattle.lvm_volume.proofs.tables.devices.devices_of.Goals as goal
use Rattle.std.specs.Prelude.{◌++◌}

pub returns : goal.returns
returns c =
    let none = none_left _ _ (either_empty_from_Zip c.loop-role.role-iterator c.next.new.self c.next.result c.in-None.is c.next.ensures.steps) in
    let devices = c.loop-role.devices.items in
    sym (append-nil devices) ∙ ap (λ (left : List (Role × Volume)). devices ++ flat_map (devices_in (group_view c.args.group.now)) left) (sym none) ∙ c.loop-role.invariant.made
