use Rattle.lvm_volume.proofs.Prelude.{true, set, Claim, Holds, HasRanges, ranges_of}
use Rattle.lvm_volume.proofs.checks.HoldLemmas.{meets_is, if_ok, holds_more}
use Rattle.lvm_volume.proofs.checks.extents.claim_extents.Goals as goal
use Rattle.std.specs.Prelude.{◌≡◌, ◌∷◌}

pub returns-clause-free : goal.returns-clause-free
returns-clause-free c = λ used holds.
    let here : Claim = record { physical = c.args.physical; first = c.args.first; end = c.args.end } in
    rw (meets_is here used) (c.take.ensures.free (ranges_of c.args.physical used) (holds.at c.args.physical _ c.requires.within))

pub returns-clause-held : goal.returns-clause-held
returns-clause-held c = λ used holds.
    let here : Claim = record { physical = c.args.physical; first = c.args.first; end = c.args.end } in
    if_ok c.take.result (λ free. free ≡ true → HasRanges c.take.new.used ((c.args.first, c.args.end) ∷ ranges_of c.args.physical used)) (λ free. free ≡ true → Holds (set c.args.maps.now c.args.physical c.take.new.used) (here ∷ used))
    (λ free keeps is. holds_more c.args.maps.now c.take.new.used here used holds c.requires.within (keeps is))
    (c.take.ensures.taken (ranges_of c.args.physical used) (holds.at c.args.physical _ c.requires.within))
