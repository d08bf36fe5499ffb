use Rattle.dm_replay.proofs.Prelude.{sym, ap, ◌∙◌, arith, flat}
use Rattle.dm_replay.proofs.RunLemmas.{flat_longer, maximal_front, maximal_longer, maximal_push}
use Rattle.dm_replay.proofs.value_runs.ValueRuns.add.Goals as goal

pub invariant_of-self-then-not-joins : goal.invariant_of-self-then-not-joins
invariant_of-self-then-not-joins c =
    let before = rw c.in-Some.ensures.items at c.self.invariant in
    rw (c.in_ok-push-3.ensures.items, c.in_ok-push-2.ensures.items) (maximal_push c.pop.new.self.items c.in-Some.last c.args.run before c.if-not-joins.ensures.apart c.requires)

pub invariant_of-self-in_default-checked_add : goal.invariant_of-self-in_default-checked_add
invariant_of-self-in_default-checked_add c =
    maximal_front c.pop.new.self.items c.in-Some.last (rw c.in-Some.ensures.items at c.self.invariant)

pub invariant_of-self-2 : goal.invariant_of-self-2
invariant_of-self-2 c =
    let before = rw c.in-Some.ensures.items at c.self.invariant in
    rw c.in_ok-push-4.ensures.items (maximal_longer c.pop.new.self.items c.in-Some.last c.with_len.result before c.with_len.ensures.first
    (omega (arith, c.with_len.ensures.len, c.in-Some-checked_add.ensures, c.len.ensures, c.len-2.ensures, c.requires)))

pub returns : goal.returns
returns c =
    rw (← (sym c.in-Some.ensures.items ∙ c.self.view_is)) (ap flat c.in_ok-push-4.ensures.items ∙ flat_longer c.pop.new.self.items c.in-Some.last c.args.run c.with_len.result c.if-not-joins.ensures.joins c.with_len.ensures.first
    (omega (arith, c.with_len.ensures.len, c.in-Some-checked_add.ensures, c.len.ensures, c.len-2.ensures)))
