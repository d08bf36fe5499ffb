use Rattle.lvm_volume.proofs.Prelude.{ap, ◌∙◌, spaced, undoubled_parts}
use Rattle.lvm_volume.proofs.Splits.{parts_back}
use Rattle.lvm_volume.proofs.names.spaced_parts.Goals as goal

pub returns-clause-some : goal.returns-clause-some
returns-clause-some c =
    let split = c.in-Some.ensures.some in
    (split.0, split.1, c.in_ok-spaced.ensures ∙ ap (λ p. spaced (undoubled_parts p)) split.2 ∙ ap spaced (parts_back split.0))
