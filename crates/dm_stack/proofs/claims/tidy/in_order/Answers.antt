use Rattle.dm_stack.proofs.Prelude.{rules, IsNonDecreasingBy-from_sort_by_key}
use Rattle.dm_stack.proofs.claims.TidyLemmas.{numbered_next}
use Rattle.dm_stack.proofs.claims.tidy.in_order.Goals as goal

pub loop-number-preserved : goal.loop-number-preserved
loop-number-preserved c =
    let k = c.loop-number.number in
    let claim = c.index-claims-number.result in
    rw (numbered_next c.args.claims.now k claim c.loop-number-test.true c.index-claims-number.is, ← c.loop-number.invariant) c.in_ok-push.ensures.items

pub returns-clause-sorted : goal.returns-clause-sorted
returns-clause-sorted c = IsNonDecreasingBy-from_sort_by_key (λ next. next.claim.start) _ c.sort_unstable_by_key.ensures.sorted (λ a r q k. search rules)
