use Rattle.lvm_volume.proofs.Prelude.{◌∙◌, ℕ, List, ap, codes, map, sym, err_from_is_err_and, Source, Field, LoadFault, fault_at, Tree, sections_of, item_view, Check, faults_of_fields, fields_faults, group_faults, number_at, one_group_faults, top_fields, Keyed, first_section}
use Rattle.lvm_volume.proofs.fields.Steps.{ends_failed, finds_nothing, fresh, in_words, is_missing, same_both, then_fails, then_goes}
use Rattle.lvm_volume.proofs.group.TextLemmas.{first_is, of_none, of_one, of_several}
use Rattle.lvm_volume.proofs.group.group_fields.read_fields.Goals as goal
use Rattle.std.specs.Prelude.{◌≡◌}

abbrev of_text : Tree → Check → List LoadFault
of_text top check = faults_of_fields check top

abbrev size_of : Tree → ℕ
size_of top = number_at (codes "extent_size") (first_section (sections_of top.values)).1

pub returns-in_err-check_head-clause-checked : goal.returns-in_err-check_head-clause-checked
returns-in_err-check_head-clause-checked c =
    let top = c.args.top.now in
    let p = err_from_is_err_and c.from_residual.result c.from_residual.ensures.1 in
    rw (p.1, p.2) (ends_failed {f = of_text top} (size_of top) (then_fails _ {other = fresh 0} (c.in_err-check_head.ensures (fresh 0))))

pub returns-in-empty-clause-checked : goal.returns-in-empty-clause-checked
returns-in-empty-clause-checked c =
    let top = c.args.top.now in
    let are = ap (map item_view) c.as_slice.ensures.value ∙ c.in-Ok.ensures in
    let none = λ (check : Check). sym (of_none check top.line c.as_slice.result.now c.in-empty.len_below) ∙ ap (one_group_faults check top.line) are in
    let fault = c.missing.ensures ∙ ap (fault_at Source Field) c.line.ensures in
    ends_failed {f = of_text top} (size_of top) (then_goes (c.in_ok-check_head.ensures (fresh 0)) (in_words none (is_missing top.line (fresh 0) c.missing.result fault)))

pub returns-in-len1-clause-checked : goal.returns-in-len1-clause-checked
returns-in-len1-clause-checked c =
    let top = c.args.top.now in
    let group : Keyed = item_view c.group-item.result in
    let are = ap (map item_view) c.as_slice.ensures.value ∙ c.in-Ok.ensures in
    let first : group ≡ first_section (sections_of top.values) = sym (first_is c.as_slice.result.now c.group-item.result c.in-len1.len_at_least c.group-item.is) ∙ ap first_section are in
    let head = finds_nothing (λ check. fields_faults check top top_fields) c.in_ok-check_head.ensures in
    let text = λ (check : Check).
    sym (of_one check top.line c.as_slice.result.now c.group-item.result c.in-len1.len_at_least c.in-len1.len_below c.group-item.is)
    ∙ ap (one_group_faults check top.line) are
    ∙ sym (rw (head check)) in
    rw (← same_both (λ check. group_faults check group.1) (of_text top) _ _ text (ap (λ (g : Keyed). number_at (codes "extent_size") g.1) first)) c.group_fields.ensures.checked

pub returns-clause-checked : goal.returns-clause-checked
returns-clause-checked c =
    let top = c.args.top.now in
    let are = ap (map item_view) c.as_slice.ensures.value ∙ c.in-Ok.ensures in
    let several = λ (check : Check). sym (of_several check top.line c.as_slice.result.now c.second-item.result c.in-len2-up.len_at_least c.second-item.is) ∙ ap (one_group_faults check top.line) are in
    let fault = c.missing-in-len2-up.ensures ∙ ap (fault_at Source Field) c.line-in-len2-up.ensures in
    ends_failed {f = of_text top} (size_of top) (then_goes (c.in_ok-check_head.ensures (fresh 0)) (in_words several (is_missing (item_view c.second-item.result).1.line (fresh 0) c.missing-in-len2-up.result fault)))
