use Rattle.lvm_volume.proofs.Prelude.{List, length, sym, ap, subst, ◌∙◌, Physical, Group, group_with, all_owned, ids_view, owners_view, IsSoundGroup}
use Rattle.lvm_volume.proofs.group.OwnersLemmas.{ids_length, sound_owned}
use Rattle.lvm_volume.proofs.group.owners.owned_group.Goals as goal

pub invariant_of-result : goal.invariant_of-result
invariant_of-result c =
    let group : Group = group_with c.group.inside.name c.group.inside.extent_size c.group.inside.physicals.items c.group.inside.volumes.items in
    let count = ids_length c.args.ids.now ∙ c.requires ∙ sym (ap (λ (g : Group). length g.physicals) c.group.view_is) in
    let are = c.in_ok-physicals.ensures ∙ ap (all_owned (owners_view c.args.owners.now) (ids_view c.args.ids.now)) c.deref.ensures.value in
    subst (λ (physicals : List Physical). IsSoundGroup (group_with group.name group.extent_size physicals group.volumes)) (sym are)
    (sound_owned (owners_view c.args.owners.now) (ids_view c.args.ids.now) group count c.group.invariant)
