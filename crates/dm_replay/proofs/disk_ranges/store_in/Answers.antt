use Rattle.dm_replay.proofs.Prelude.{arith}
use Rattle.dm_replay.proofs.StoredLemmas.{put_apart, put_shows, sets}
use Rattle.dm_replay.proofs.disk_ranges.store_in.Goals as goal

pub join_front-requires : goal.join_front-requires
join_front-requires c =
    put_apart c.in_ok-goes_on.ensures.made.cut c.make_room.new.ranges c.insert.new.self c.args.start _ (record {
      are = c.make_room.ensures.apart;
      ordered = c.insert.ensures.ordered;
      some = omega (arith, c.if-range-eq0.false);
      small = c.requires.small;
      cut_start = c.in_ok-goes_on.ensures.made.cut_start;
      cut_end = c.in_ok-goes_on.ensures.made.cut_end;
      none = c.in_ok-goes_on.ensures.none;
      is_cleared = c.in_ok-goes_on.ensures.made.is_cleared;
      set = sets _ _ _ _ c.in_ok-insert.ensures.updates;
    })

pub returns-clause-stored : goal.returns-clause-stored
returns-clause-stored c stored shows =
    c.in_ok-join_at.ensures.same _ (c.in_ok-join_front.ensures.same _
    (put_shows c.in_ok-goes_on.ensures.made.cut c.make_room.new.ranges c.insert.new.self c.args.start _ (record {
      are = c.make_room.ensures.apart;
      ordered = c.insert.ensures.ordered;
      some = omega (arith, c.if-range-eq0.false);
      small = c.requires.small;
      cut_start = c.in_ok-goes_on.ensures.made.cut_start;
      cut_end = c.in_ok-goes_on.ensures.made.cut_end;
      none = c.in_ok-goes_on.ensures.none;
      is_cleared = c.in_ok-goes_on.ensures.made.is_cleared;
      set = sets _ _ _ _ c.in_ok-insert.ensures.updates;
    }) stored (c.in_ok-goes_on.ensures.made.same stored shows)))
