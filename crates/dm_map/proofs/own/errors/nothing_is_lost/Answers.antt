use Rattle.dm_map.proofs.Prelude.{Device}
use Rattle.dm_map.proofs.own.NeverLost.{halted_exact, never_fails, past_intact, request_exact, start_exact, start_intact}
use Rattle.dm_map.proofs.own.errors.nothing_is_lost.Goals as goal

pub returns-clause-lost : goal.returns-clause-lost
returns-clause-lost g c =
    let stack = c.args.stack.now in let sound = c.depth.ensures.sound in
    record {
      start = start_intact stack;
      request = λ op state asked start len sectors ample intact. past_intact stack op state asked start len sectors sound ample intact;
      reads = λ state device sector ample intact inside fails. never_fails stack state (Device device) sector sound ample intact inside fails;
    }

pub returns-clause-exact : goal.returns-clause-exact
returns-clause-exact g c =
    let stack = c.args.stack.now in let sound = c.depth.ensures.sound in
    record {
      start = λ zeros values ample. start_exact zeros stack values sound ample;
      request = λ zeros written op state top start len values rows ample tidy is_top was. request_exact zeros written stack op state top start len values rows sound ample tidy is_top was;
      halted = λ zeros written op state top start len count values rows ample tidy is_top was. halted_exact zeros written stack op state top start len count values rows sound ample tidy is_top was;
    }
