use Rattle.dm_map.proofs.Prelude.{Device}
use Rattle.dm_map.proofs.own.CutLemmas.{list_spare, spare_unread}
use Rattle.dm_map.proofs.own.ListLemmas.{halted_off, request_off}
use Rattle.dm_map.proofs.own.UniqueSteps.{top_root}
use Rattle.dm_map.proofs.own.lists.lists_are_left.Goals as goal

pub returns : goal.returns
returns g c =
    let stack = c.args.stack.now in let sound = c.depth.ensures.sound in
    record {
      request = λ zeros written op state top start len values tidy is_top fits disk sector list. request_off zeros written stack op state top start len values disk sector sound tidy is_top fits list;
      halted = λ zeros written op state top start len count values tidy is_top fits disk sector list. halted_off zeros written stack op state top start len count values disk sector sound tidy is_top fits list;
      reads = λ state top sector disk at tidy is_top fits is list. spare_unread stack state (Device top) sector disk at sound fits tidy (top_root stack top sound is_top) (list_spare stack state disk at sound list) is;
    }
