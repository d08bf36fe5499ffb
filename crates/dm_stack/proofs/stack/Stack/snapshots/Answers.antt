use Rattle.dm_stack.proofs.Prelude.{List, ℕ, subst, AreSnapshots, IsSound}
use Rattle.dm_stack.proofs.checks.CrowdLemmas.{few_places}
use Rattle.dm_stack.proofs.SnapshotRule.{are_snapshots}
use Rattle.dm_stack.proofs.stack.Stack.snapshots.Goals as goal

pub returns-clause-all : goal.returns-clause-all
returns-clause-all c =
    subst (λ (ids : List ℕ). AreSnapshots c.args.self.now ids) (cc)
    (are_snapshots c.args.self.now (subst IsSound c.self.view_is c.self.invariant.sound))

pub returns-clause-places : goal.returns-clause-places
returns-clause-places c = few_places c.args.self.now (subst IsSound c.self.view_is c.self.invariant.sound)
