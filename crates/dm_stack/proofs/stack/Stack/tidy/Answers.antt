use Rattle.dm_stack.proofs.Prelude.{subst, sym, IfOk-weaker, IsSound}
use Rattle.dm_stack.proofs.claims.TopLemmas.{are_claims, claims_within, found_there, none_passes, one_clash, untied}
use Rattle.dm_stack.proofs.stack.Stack.tidy.Goals as goal

pub claims-requires : goal.claims-requires
claims-requires c = none_passes c.resolved.result (subst IsSound (sym c.resolved.ensures.description) c.resolved.ensures.sound)

pub first_clash-requires : goal.first_clash-requires
first_clash-requires c =
    let made = are_claims c.args.self.now c.resolved.result c.deref.result.now c.in_ok-claims.claims.items c.deref.ensures.value c.in_ok-claims.ensures c.resolved.ensures.description in
    rw (made, c.device_count.ensures, c.disk_count.ensures) (claims_within c.args.self.now)

pub returns-clause-clash : goal.returns-clause-clash
returns-clause-clash c =
    let made = are_claims c.args.self.now c.resolved.result c.deref.result.now c.in_ok-claims.claims.items c.deref.ensures.value c.in_ok-claims.ensures c.resolved.ensures.description in
    rw made at c.first_clash.ensures

pub returns-clause-tidy : goal.returns-clause-tidy
returns-clause-tidy c = IfOk-weaker c.first_clash.result _ _ (untied c.args.self.now) (returns-clause-clash c)

pub returns-clause-one : goal.returns-clause-one
returns-clause-one c = one_clash

pub returns-in_err-claims-clause-one : goal.returns-in_err-claims-clause-one
returns-in_err-claims-clause-one c = one_clash

pub returns-clause-there : goal.returns-clause-there
returns-clause-there c = IfOk-weaker c.first_clash.result _ _ (λ found. found_there c.args.self.now found c.resolved.ensures.sound) (returns-clause-clash c)
