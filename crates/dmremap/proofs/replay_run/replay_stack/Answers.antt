use Rattle.dmremap.proofs.Prelude.{delivery}
use Rattle.dmremap.proofs.ReplayLemmas.{played_asked, played_does}
use Rattle.dmremap.proofs.replay_run.replay_stack.Goals as goal

pub returns-in-Ok-clause-did : goal.returns-in-Ok-clause-did
returns-in-Ok-clause-did g c =
    record {
      did =
          played_does _ _ (delivery (g.Q.Exchange.past c.args.requests.now) (g.Q.Exchange.past c.play_requests.new.requests)) _ c.play_requests.result c.in-Ok.ensures.tidy
          (rw c.in-Ok.ensures.new at c.play_requests.ensures.played.did);
      writes = c.play_requests.ensures.played.writes;
    }

pub returns-in-Ok-clause-asked : goal.returns-in-Ok-clause-asked
returns-in-Ok-clause-asked g c = played_asked _ _ _ _ _ _ c.play_requests.result c.play_requests.ensures.played.did c.play_requests.ensures.reads c.play_requests.ensures.met
