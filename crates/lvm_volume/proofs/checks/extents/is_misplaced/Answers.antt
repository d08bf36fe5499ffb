use Rattle.lvm_volume.proofs.Prelude.{List, false, sym, ap, length, ◌∙◌, Stripe, SegmentType, claims_of, parts_of, stripes_of, used_by, Claimed, Holds, claims_by}
use Rattle.lvm_volume.proofs.checks.HoldLemmas.{if_ok}
use Rattle.lvm_volume.proofs.checks.extents.is_misplaced.Goals as goal
use Rattle.std.specs.Prelude.{◌≡◌, ◌/◌}

pub returns-else-segment-parts-ne0-clause-held : goal.returns-else-segment-parts-ne0-clause-held
returns-else-segment-parts-ne0-clause-held c = λ used holds.
    let segment = c.args.segment.now in
    let stripes = c.as_slice-stripes.result.now in
    let claims : claims_by (segment.count / length stripes) stripes ≡ claims_of segment =
    ap (λ (stripes : List Stripe). claims_by (segment.count / length stripes) stripes) c.as_slice-stripes.ensures ∙ sym (ap (λ (target : SegmentType). claims_by (segment.count / parts_of target) (stripes_of target)) c.in-Striped.is) in
    rw (← claims) (if_ok c.claim_all.result (Claimed c.args.physicals.now c.claim_all.new.maps (claims_by (segment.count / length stripes) stripes) used) (λ misplaced. misplaced ≡ false → Holds c.claim_all.new.maps (used_by used (claims_by (segment.count / length stripes) stripes))) (λ misplaced claimed. claimed.held) (c.claim_all.ensures.claimed used holds))
