use Rattle.dmremap.proofs.Prelude.{delivery, ReplaysOver}
use Rattle.dmremap.proofs.AnswerLemmas.{asked_refused, refused_does}
use Rattle.dmremap.proofs.ReplayLemmas.{begun_replays, unbegun_replays}
use Rattle.dmremap.proofs.other_whole.replay.Goals as goal

-- ---- the replay begins

pub returns-in-Ok-clause-did : goal.returns-in-Ok-clause-did
returns-in-Ok-clause-did g c = λ first has held seen.
    let begun = rw c.in-Ok.is at (c.begin.ensures.begun first has held seen) in
    let asked = delivery (g.Q.Exchange.past c.args.requests.now) (g.Q.Exchange.past c.replay_stack.new.requests) in
    begun_replays (g.O.Opens.starts first c.begin.new.self held c.args.stack.now) c.args.stack.now begun.0 _ asked _ c.replay_stack.result begun.1 begun.3 c.replay_stack.ensures.did.did

pub returns-in-Ok-clause-writes : goal.returns-in-Ok-clause-writes
returns-in-Ok-clause-writes g c = c.replay_stack.ensures.did.writes

-- ---- the replay doesn't begin

pub returns-in-Err-clause-did : goal.returns-in-Err-clause-did
returns-in-Err-clause-did g c = λ first has held seen.
    let begun = rw c.in-Err.is at (c.begin.ensures.begun first has held seen) in
    let start = g.O.Opens.starts first c.begin.new.self held c.args.stack.now in
    let asked = delivery (g.Q.Exchange.past c.args.requests.now) (g.Q.Exchange.past c.args.requests.now) in
    refused_does (ReplaysOver start c.args.stack.now asked) (g.W.Output.past c.args.output.now) c.in-Err.refusal (unbegun_replays start c.args.stack.now asked c.in-Err.refusal begun)

pub returns-in-Err-clause-asked : goal.returns-in-Err-clause-asked
returns-in-Err-clause-asked g c = asked_refused (g.Q.Exchange.past c.args.requests.now) c.in-Err.refusal
