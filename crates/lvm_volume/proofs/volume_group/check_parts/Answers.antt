use Rattle.lvm_volume.proofs.Prelude.{◌∙◌, List, [], None, ap, sym, first_or, Volume, size_faults, snapshot_faults_in, unknown_faults, Group, extent_faults, first_or-passed}
use Rattle.lvm_volume.specs.checks.Extents.{volume_faults}
use Rattle.lvm_volume.proofs.fields.Faults.{first_after}
use Rattle.lvm_volume.proofs.volume_group.check_parts.Goals as goal
use Rattle.std.specs.Prelude.{◌≡◌}

pub returns : goal.returns
returns c = λ name.
    let size = c.args.extent_size in
    let physicals = c.args.parts.now.physicals.items in
    let volumes = c.args.parts.now.volumes.items in
    let group : Group = record { name = name; extent_size = size; physicals = physicals; volumes = volumes } in
    let ps = c.as_slice-physicals.ensures.value in
    let vs = c.as_slice-volumes.ensures.value in
    let unknown : first_or (unknown_faults group) None ≡ None =
    sym (rw (← vs, ← ps) c.in_ok-check_targets.ensures) in
    let sizes : first_or (size_faults size physicals) None ≡ None = sym (rw (← ps) c.in_ok-check_sizes.ensures) in
    let lie : first_or (volume_faults physicals [] volumes) None ≡ None =
    sym (rw (ps, vs))
    ∙ c.in_ok-check_extents.ensures in
    let extents : first_or (extent_faults group) None ≡ None = first_after (size_faults size physicals) _ None sizes ∙ lie in
    let later = ap (λ (vs : List Volume). first_or (snapshot_faults_in vs) None) vs ∙ sym (first_or-passed (unknown_faults group) _ unknown ∙ first_or-passed (extent_faults group) _ extents) in
    rw (← later) c.check_snapshots.ensures
