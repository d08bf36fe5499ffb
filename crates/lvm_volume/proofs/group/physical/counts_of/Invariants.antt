use Rattle.lvm_volume.proofs.Prelude.{ℕ, List, take, unwrap_or, count_by, bytes_eq, nat_cmp, slice_cmp, get_by}
use Rattle.lvm_volume.proofs.group.physical.counts_of.Given as goal
use Rattle.std.specs.Prelude.{◌≡◌}

abbrev pub invariant-loop-fields : goal.invariant-loop-fields
invariant-loop-fields l = (q : List ℕ) → unwrap_or (get_by (λ k. slice_cmp nat_cmp q k.now) l.counts) 0 ≡ count_by (λ other. bytes_eq q other.device.now) (take l.fields-index l.all)
