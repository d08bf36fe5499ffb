use Rattle.lvm_volume.proofs.Prelude.{ℕ, List, Option, None, Ok, codes, map, sym, ap, subst, ◌∙◌, refl, err_from_is_err_and, Tree, sections_of, LoadFault, first_fault, first_or, unless, Physical, PhysicalFields, Volume, name_faults, Fields, Limits, faults_of_fields, sections_at, Group, first_section, group_of, group_with, IsSaid, all_named, fields_view, IsSoundGroup, checks_of_parts, unless-ok}
use Rattle.lvm_volume.specs.declared.group.group_fields.GroupFields.{GroupFields}
use Rattle.lvm_volume.proofs.checks.Sound.{one-in_limits, one_section, sound_group}
use Rattle.lvm_volume.proofs.group.PhysicalLemmas.{all_said}
use Rattle.lvm_volume.proofs.GroupLemmas.{accepted, at_fields, at_names, at_parts, both_none, of_both, refused_by}
use Rattle.lvm_volume.proofs.volume_group.VolumeGroup.read.Goals as goal
use Rattle.std.specs.Prelude.{◌≡◌}

pub returns-in-Err : goal.returns-in-Err
returns-in-Err c = refused_by (at_fields c.args.top.now c.in-Err.fault) c.in-Err.ensures.checked

-- the parts are those of the text's group, in whose fields and disk names no fault was found
record Made (top : Tree) (size : ℕ) (physicals : List Physical) (volumes : List Volume) : Type 0 where
  fields : of_both top ≡ None
  names : first_or (name_faults (group_of top).physicals) None ≡ None
  same : (name : List ℕ) → name ≡ (group_of top).name → group_of top ≡ group_with name size physicals volumes

-- the disks of all physical volumes got names, and these are the physical volumes
abbrev Named : List PhysicalFields → List Physical → Type 0
Named fields physicals = unless (first_or (name_faults (all_named (map fields_view fields))) None) (all_named (map fields_view fields)) ≡ Ok physicals

physicals_are : (top : Tree) (fields : GroupFields) (all : List PhysicalFields) → IsSaid (first_section (sections_of top.values)) fields → all ≡ fields.physicals.items → all_named (map fields_view all) ≡ (group_of top).physicals
physicals_are top fields all said is =
    rw is (ap all_named said.physicals ∙ all_said (sections_at (codes "physical_volumes") (first_section (sections_of top.values)).1))

made : (top : Tree) (fields : GroupFields) (all : List PhysicalFields) (physicals : List Physical) → of_both top ≡ None → IsSaid (first_section (sections_of top.values)) fields → all ≡ fields.physicals.items → Named all physicals
    → Made top fields.extent_size physicals fields.volumes.items
made top fields all physicals none said is got =
    let named = physicals_are top fields all said is in
    let h = unless-ok (first_or (name_faults (all_named (map fields_view all))) None) (all_named (map fields_view all)) physicals got in
    record {
      fields = none;
      names = rw (← named) h.0;
      same = λ name is_name. let are : (group_of top).physicals ≡ physicals = sym named ∙ h.1 in rw (is_name, said.extent_size, ← are, said.volumes);
    }

-- the first fault of the checks of the parts is that of the same checks of the group
found_in : {top : Tree} {size : ℕ} {physicals : List Physical} {volumes : List Volume} (h : Made top size physicals volumes) (found : Option LoadFault)
    → first_fault (checks_of_parts (group_with (group_of top).name size physicals volumes)) ≡ found → first_fault (checks_of_parts (group_of top)) ≡ found
found_in {top} h found checked = ap (λ (g : Group). first_fault (checks_of_parts g)) (h.same (group_of top).name refl) ∙ checked

pub returns-in_err-named_physicals : goal.returns-in_err-named_physicals
returns-in_err-named_physicals c =
    let top = c.args.top.now in
    let fault = c.in_err-named_physicals.field-0.0 in
    let named = physicals_are top c.in-Ok.fields c.deref.result.now c.in-Ok.ensures.value c.deref.ensures.value in
    let p = err_from_is_err_and c.from_residual.result c.from_residual.ensures.1 in
    rw (p.1, p.2)
    (at_names top (group_of top).physicals fault c.in-Ok.ensures.checked (rw (← named) c.in_err-named_physicals.ensures))

pub returns-in_err-check_parts : goal.returns-in_err-check_parts
returns-in_err-check_parts c =
    let top = c.args.top.now in
    let h = made top c.in-Ok.fields c.deref.result.now _ c.in-Ok.ensures.checked c.in-Ok.ensures.value c.deref.ensures.value c.in_ok-named_physicals.ensures in
    let p = err_from_is_err_and c.from_residual-in_err-check_parts.result c.from_residual-in_err-check_parts.ensures.1 in
    rw (p.1, p.2) (refused_by (λ found. at_parts top _ h.fields h.names (found_in h _ found)) (c.in_err-check_parts.ensures (group_of top).name))

pub invariant_of-result : goal.invariant_of-result
invariant_of-result c =
    let top = c.args.top.now in
    let said = first_section (sections_of top.values) in
    let h = made top c.in-Ok.fields c.deref.result.now _ c.in-Ok.ensures.checked c.in-Ok.ensures.value c.deref.ensures.value c.in_ok-named_physicals.ensures in
    let none = found_in h _ (c.in_ok-check_parts.ensures (group_of top).name) in
    let checks = both_none (faults_of_fields Fields top) (faults_of_fields (Limits (group_of top).extent_size) top) h.fields in
    let limits = one-in_limits (group_of top).extent_size top said (one_section top checks.0) checks.1 in
    subst IsSoundGroup (h.same c.in-Ok-new.name (c.in-Ok-new.ensures ∙ c.in-Ok.ensures.value.name)) (sound_group said limits none)

pub returns : goal.returns
returns c =
    let top = c.args.top.now in
    let h = made top c.in-Ok.fields c.deref.result.now _ c.in-Ok.ensures.checked c.in-Ok.ensures.value c.deref.ensures.value c.in_ok-named_physicals.ensures in
    rw (← h.same c.in-Ok-new.name (c.in-Ok-new.ensures ∙ c.in-Ok.ensures.value.name)) (accepted top h.fields h.names (found_in h _ (c.in_ok-check_parts.ensures (group_of top).name)))
