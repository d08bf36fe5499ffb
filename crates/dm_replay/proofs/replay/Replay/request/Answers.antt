use Rattle.dm_replay.proofs.Prelude.{Some, sym, ◌∙◌, subst, position, on_ok_weaker, IsTop, is_same, HasTop, Replaying}
use Rattle.dm_replay.proofs.NamedLemmas.{named_id, named_top, top_named, unanswered_result}
use Rattle.dm_replay.proofs.replay.Replay.request.Goals as goal
use Rattle.std.specs.Prelude.{◌≡◌}

pub returns-in-Some-clause-answered : goal.returns-in-Some-clause-answered
returns-in-Some-clause-answered g c =
    let old = c.args.self.now in let request = c.args.request.now in
    let named = subst (λ (r : Replaying). position (λ device. is_same device.name request.device.now) r.stack.devices ≡ Some c.in-Some.device) c.self.view_is (sym c.device.ensures ∙ c.in-Some.is) in
    rw (← named_id old.stack request.device.now c.in-Some.device named) c.request_of.ensures.answered

pub returns-in-Some-clause-top : goal.returns-in-Some-clause-top
returns-in-Some-clause-top g c =
    let old = c.args.self.now in let request = c.args.request.now in
    let named = subst (λ (r : Replaying). position (λ device. is_same device.name request.device.now) r.stack.devices ≡ Some c.in-Some.device) c.self.view_is (sym c.device.ensures ∙ c.in-Some.is) in
    on_ok_weaker c.request_of.result (named_top old.stack request.device.now c.in-Some.device named) c.request_of.ensures.top

pub returns-in-Some-clause-fault : goal.returns-in-Some-clause-fault
returns-in-Some-clause-fault g c =
    let old = c.args.self.now in let request = c.args.request.now in
    let named = subst (λ (r : Replaying). position (λ device. is_same device.name request.device.now) r.stack.devices ≡ Some c.in-Some.device) c.self.view_is (sym c.device.ensures ∙ c.in-Some.is) in
    unanswered_result c.request_of.result (IsTop old.stack c.in-Some.device) (HasTop old.stack request.device.now) old c.request_of.new.self (named_top old.stack request.device.now c.in-Some.device named)
    (top_named old.stack request.device.now c.in-Some.device named) c.request_of.ensures.fault
