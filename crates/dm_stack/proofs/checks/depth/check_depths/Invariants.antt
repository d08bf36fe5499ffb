use Rattle.dm_stack.proofs.Prelude.{None, drop, get_or, nat_lt, Deep, first_or, faults_by_id}
use Rattle.dm_stack.proofs.checks.depth.check_depths.Given as goal
use Rattle.std.specs.Prelude.{◌≡◌}

abbrev pub invariant-loop-id : goal.invariant-loop-id
invariant-loop-id l =
    first_or (faults_by_id Deep (λ id. nat_lt 32 (get_or l.depths id 0)) l.id (drop l.id l.devices)) None
    ≡ first_or (faults_by_id Deep (λ id. nat_lt 32 (get_or l.depths id 0)) 0 l.devices) None
