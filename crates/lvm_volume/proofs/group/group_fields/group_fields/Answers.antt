use Rattle.lvm_volume.proofs.Prelude.{ap, codes, ℕ, inl, List, sym, ◌∙◌, err_from_is_err_and, LoadFault, Tree, Check, group_faults, number_at, physicals_faults, volumes_faults}
use Rattle.lvm_volume.proofs.fields.Steps.{ends_failed, ends_with, fresh, in_words, of_both, then_fails, then_goes}
use Rattle.lvm_volume.proofs.group.group_fields.group_fields.Goals as goal

abbrev of_group : Tree → Check → List LoadFault
of_group group check = group_faults check group

abbrev size_of : Tree → ℕ
size_of group = number_at (codes "extent_size") group

pub returns-in_err-head-clause-checked : goal.returns-in_err-head-clause-checked
unfolding group_faults
returns-in_err-head-clause-checked c =
    let group = c.args.group.1.now in
    let p = err_from_is_err_and c.from_residual.result c.from_residual.ensures.1 in
    rw (p.1, p.2) (ends_failed {f = of_group group} (size_of group) (then_fails _ {other = fresh 0} (c.in_err-head.ensures.step (fresh 0) (fresh 0))))

pub returns-in_err-physicals-clause-checked : goal.returns-in_err-physicals-clause-checked
unfolding group_faults
returns-in_err-physicals-clause-checked c =
    let group = c.args.group.1.now in
    let head = c.in_ok-head.ensures in
    let p = err_from_is_err_and c.from_residual-in_err-physicals.result c.from_residual-in_err-physicals.ensures.1 in
    rw (p.1, p.2)
    (ends_failed {f = of_group group} (size_of group) (then_goes (head.step (fresh 0) (fresh 0)) (then_fails _ {other = fresh 0} (in_words (λ check. ap (physicals_faults check) (sym head.physicals)) c.in_err-physicals.ensures.step))))

pub returns-in_err-volumes-clause-checked : goal.returns-in_err-volumes-clause-checked
unfolding group_faults
returns-in_err-volumes-clause-checked c =
    let group = c.args.group.1.now in
    let head = c.in_ok-head.ensures in
    let p = err_from_is_err_and c.from_residual-in_err-volumes.result c.from_residual-in_err-volumes.ensures.1 in
    let physicals = in_words (λ check. ap (physicals_faults check) (sym head.physicals)) c.in_ok-physicals.ensures.step in
    let volumes = in_words (λ check. ap (volumes_faults check) (sym head.volumes)) c.in_err-volumes.ensures.step in
    rw (p.1, p.2) (ends_failed {f = of_group group} (size_of group) (then_goes (head.step (fresh 0) (fresh 0)) (then_goes physicals volumes)))

pub returns-in-Some-clause-checked : goal.returns-in-Some-clause-checked
unfolding group_faults
returns-in-Some-clause-checked c =
    let group = c.args.group.1.now in
    let head = c.in_ok-head.ensures in
    let physicals = in_words (λ check. ap (physicals_faults check) (sym head.physicals)) c.in_ok-physicals.ensures.step in
    let volumes = in_words (λ check. ap (volumes_faults check) (sym head.volumes)) c.in_ok-volumes.ensures.step in
    let all = ends_with {f = of_group group} c.in_ok-head.head.reader.extent_size (then_goes (head.step (fresh 0) (fresh 0)) (then_goes physicals volumes)) in
    inl (ap (of_both (of_group group)) (sym head.size) ∙ all ∙ c.in-Some.is)

pub returns-clause-checked : goal.returns-clause-checked
unfolding group_faults
returns-clause-checked c =
    let group = c.args.group.1.now in
    let head = c.in_ok-head.ensures in
    let physicals = in_words (λ check. ap (physicals_faults check) (sym head.physicals)) c.in_ok-physicals.ensures.step in
    let volumes = in_words (λ check. ap (volumes_faults check) (sym head.volumes)) c.in_ok-volumes.ensures.step in
    let all = ends_with {f = of_group group} c.in_ok-head.head.reader.extent_size (then_goes (head.step (fresh 0) (fresh 0)) (then_goes physicals volumes)) in
    ap (of_both (of_group group)) (sym head.size) ∙ all ∙ c.in-None.is
