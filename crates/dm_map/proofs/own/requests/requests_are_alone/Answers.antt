use Rattle.dm_map.proofs.own.OwnRequests.{first_own, request_own}
use Rattle.dm_map.proofs.own.HaltedRequests.{few_own, halted_own}
use Rattle.dm_map.proofs.own.requests.requests_are_alone.Goals as goal

pub returns : goal.returns
returns g c =
    let stack = c.args.stack.now in let sound = c.depth.ensures.sound in
    record {
      start = λ zeros values. first_own zeros stack values;
      request = λ zeros written op state top start len values rows tidy is_top own. request_own zeros written stack op state top start len values rows sound tidy is_top own;
      halted = λ zeros written op state top start len count values rows tidy is_top own. halted_own zeros written stack op state top start len count values rows sound tidy is_top own;
      few = λ zeros op state top start len count values rows tidy is_top own. few_own zeros stack op state top start len count values rows sound tidy is_top own;
    }
