use Rattle.lvm_volume.proofs.Prelude.{sym, ◌∙◌, append-nil}
use Rattle.lvm_volume.proofs.group.StripeLemmas.{too_short}
use Rattle.lvm_volume.proofs.group.segment.stripes_of.Goals as goal

pub returns : goal.returns
returns c =
    sym (append-nil c.loop-rest.stripes.items) ∙ sym (rw (too_short c.args.positions.now c.loop-rest.rest.now c.in_default.len_below)) ∙ c.loop-rest.invariant
