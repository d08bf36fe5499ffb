-- for every test that the closure computes, the elements left have the first fault of the list
use Rattle.dm_stack.proofs.Prelude.{Bool, None, drop, FnReturnsAt, faults_by, first_or}
use Rattle.dm_stack.proofs.checks.faults.check_each.Given as goal
use Rattle.std.specs.Prelude.{◌≡◌}

abbrev pub invariant-loop-item : goal.invariant-loop-item
invariant-loop-item g l =
    (test : g.row.T.Denot → Bool) → ((item : g.row.T.Denot) (bad : Bool) → FnReturnsAt g.F.Fn l.is_bad item bad → bad ≡ test item)
    → first_or (faults_by l.kind g.T.Placed.place_of test (drop l.item-index l.list)) None ≡ first_or (faults_by l.kind g.T.Placed.place_of test l.list) None
