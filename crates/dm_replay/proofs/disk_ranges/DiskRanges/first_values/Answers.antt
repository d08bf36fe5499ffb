use Rattle.dm_replay.proofs.StoredLemmas.{bare_hold, first_held}
use Rattle.dm_replay.proofs.disk_ranges.DiskRanges.first_values.Goals as goal

pub returns-in-Some : goal.returns-in-Some
returns-in-Some c =
    let a = c.args in let said = c.rest.ensures in
    rw (← c.self.view_is) (first_held c.self.inside.ranges a.disk a.start a.len c.in-Some.from c.in-Some.range c.rest.result c.self.invariant c.in-Some.ensures.some said.some said.most said.within said.first)

pub returns : goal.returns
returns c =
    let a = c.args in let said = c.bare_len.ensures in
    record {
      some = said.some;
      most = said.most;
      hold = rw (← c.self.view_is) (bare_hold c.self.inside.ranges a.disk a.start c.bare_len.result c.self.invariant said.bare);
    }
