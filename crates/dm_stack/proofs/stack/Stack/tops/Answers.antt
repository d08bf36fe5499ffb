use Rattle.dm_stack.proofs.Prelude.{Bool, Vec, subst, sym, IsSound}
use Rattle.std.specs.Global.{Global}
use Rattle.dm_stack.proofs.claims.TopLemmas.{are_claims, none_passes, noted_tops}
use Rattle.dm_stack.proofs.stack.Stack.tops.Goals as goal

pub claims-requires : goal.claims-requires
claims-requires c = none_passes c.resolved.result (subst IsSound (sym c.resolved.ensures.description) c.resolved.ensures.sound)

pub returns : goal.returns
returns c =
    let made = are_claims c.args.self.now c.resolved.result c.deref.result.now c.in_ok-claims.claims.items c.deref.ensures.value c.in_ok-claims.ensures c.resolved.ensures.description in
    noted_tops c.args.self.now c.deref.result.now c.device_count.result (λ (free : Vec Bool Global). free.items) c.unclaimed.result made c.device_count.ensures c.unclaimed.ensures.count c.unclaimed.ensures.each
