use Rattle.lvm_volume.proofs.Prelude.{None, sym, ap, ◌∙◌, err_from_is_err_and, first_or, Group, roles_of, tables_of, unnamed}
use Rattle.lvm_volume.proofs.GroupLemmas.{at_unnamed}
use Rattle.lvm_volume.proofs.tables.MadeLemmas.{all_made, made_of, names_of}
use Rattle.lvm_volume.proofs.volume_group.VolumeGroup.tables.Goals as goal

pub returns-in_err-check_names : goal.returns-in_err-check_names
returns-in_err-check_names c =
    let group : Group = record { name = c.self.inside.name; extent_size = c.self.inside.extent_size; physicals = c.self.inside.physicals.items; volumes = c.self.inside.volumes.items } in
    let roles = c.deref-2.ensures.value ∙ c.in-Ok.ensures ∙ ap roles_of c.deref.ensures.value in
    let names = names_of group _ _ _ c.as_str.ensures roles c.deref-3.ensures.value in
    let p = err_from_is_err_and c.from_residual.result c.from_residual.ensures.1 in
    rw (p.1, p.2)
    (at_unnamed c.args.self.now (tables_of c.args.self.now) _ (sym (ap (λ (g : Group). first_or (unnamed g) None) c.self.view_is) ∙ sym names ∙ sym c.in_err-check_names.ensures))

pub devices_of-requires : goal.devices_of-requires
devices_of-requires c =
    let group : Group = record { name = c.self.inside.name; extent_size = c.self.inside.extent_size; physicals = c.self.inside.physicals.items; volumes = c.self.inside.volumes.items } in
    let roles = c.in-Ok.ensures ∙ ap roles_of c.deref.ensures.value in
    let names = names_of group _ _ _ c.as_str.ensures (c.deref-2.ensures.value ∙ roles) c.deref-3.ensures.value in
    made_of group _ _ _ _ c.as_str-2.ensures c.deref-4.ensures.value c.deref-5.ensures.value (c.deref-6.ensures.value ∙ roles)
    (all_made group c.self.invariant (sym names ∙ sym c.in_ok-check_names.ensures))
