use Rattle.lvm_volume.proofs.Prelude.{List, None, sym, ap, ◌∙◌, flat_map, either_empty_from_Zip, first_or, Role, Volume, unnamed_volume}
use Rattle.lvm_volume.proofs.group.RoleLemmas.{none_left}
use Rattle.lvm_volume.proofs.tables.device_names.check_names.Goals as goal

pub returns : goal.returns
returns c =
    let none = none_left _ _ (either_empty_from_Zip c.loop-role.role-iterator c.next.new.self c.next.result c.in-None.is c.next.ensures.steps) in
    ap (λ (left : List (Role × Volume)). first_or (flat_map (unnamed_volume c.args.group.now) left) None) (sym none) ∙ c.loop-role.invariant
