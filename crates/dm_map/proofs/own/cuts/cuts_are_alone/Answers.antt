use Rattle.dm_map.proofs.own.CutLemmas.{ahead_own, list_spare, spare_own}
use Rattle.dm_map.proofs.own.cuts.cuts_are_alone.Goals as goal

pub returns : goal.returns
returns g c =
    let stack = c.args.stack.now in let sound = c.depth.ensures.sound in
    record {
      spare = λ zeros state values others rows tidy own same. spare_own zeros stack state values others rows sound tidy own same;
      lists = λ state disk sector list. list_spare stack state disk sector sound list;
      ahead = λ zeros written state sector chunks values rows tidy each own. ahead_own zeros written stack state sector chunks values rows sound tidy each own;
    }
