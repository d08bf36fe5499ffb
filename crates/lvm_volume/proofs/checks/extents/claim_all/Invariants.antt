-- the maps contain the ranges of the stripes so far, and the stripes left clash exactly if all do
use Rattle.lvm_volume.proofs.Prelude.{List, drop, length, Claim, have_clash, used_by, Holds, claims_by}
use Rattle.lvm_volume.proofs.checks.extents.claim_all.Given as goal
use Rattle.std.specs.Prelude.{◌≡◌}

abbrev pub invariant-loop-stripe : goal.invariant-loop-stripe
invariant-loop-stripe l = record {
  now : (used : List Claim) → Holds l.fn.maps used → (now : List Claim) × Holds l.maps now
      × (have_clash l.physicals now (claims_by l.share (drop l.stripe-index l.stripes)) ≡ have_clash l.physicals used (claims_by l.share l.stripes))
      × (used_by now (claims_by l.share (drop l.stripe-index l.stripes)) ≡ used_by used (claims_by l.share l.stripes));
  len : length l.maps ≡ length l.fn.maps;
}
