use Rattle.dm_map.proofs.Prelude.{false, Read, Write, Snapshot, Device, IsLineOf, origin_mapping, range_mapping, target_mapping, AreReadAt}
use Rattle.dm_map.proofs.walk.WalkedOn.{IsMappedTo}
use Rattle.dm_map.proofs.walk.range.+walk.Given as goal
use Rattle.std.specs.Prelude.{◌≡◌, ◌+◌, ◌-◌, ◌*◌, ◌/◌, ◌<◌, ◌≤◌, ◌==◌}

abbrev pub decreases-map_lines : goal.decreases-map_lines
decreases-map_lines g l = 8 * l.levels

abbrev pub decreases-map_line : goal.decreases-map_line
decreases-map_line g l = 8 * l.levels - 1

abbrev pub decreases-map_legs : goal.decreases-map_legs
decreases-map_legs g l = 8 * l.levels + 6

abbrev pub decreases-map_leg : goal.decreases-map_leg
decreases-map_leg g l = 8 * l.levels + 5

abbrev pub decreases-map_snapshot : goal.decreases-map_snapshot
decreases-map_snapshot g l = 8 * l.levels + 4

abbrev pub decreases-read_snapshot : goal.decreases-read_snapshot
decreases-read_snapshot g l = 8 * l.levels + 3

abbrev pub decreases-map_origin : goal.decreases-map_origin
decreases-map_origin g l = 8 * l.levels + 4

abbrev pub decreases-write_origin : goal.decreases-write_origin
decreases-write_origin g l = 8 * l.levels + 3

abbrev pub decreases-map_range : goal.decreases-map_range
decreases-map_range g l = 8 * l.levels + 2

abbrev pub decreases-map_device : goal.decreases-map_device
decreases-map_device g l = 8 * l.levels + 1

abbrev pub invariant-map_lines-lines : goal.invariant-map_lines-lines
invariant-map_lines-lines g l = record {
  so_far : IsMappedTo g.S.Sink.past l.fn.sink l.sink l.fn.walker l.walker (range_mapping l.op l.levels (Device l.device)) l.sector l.len l.at l.left;
  some : 1 ≤ l.left;
  line : IsLineOf l.fn.walker.stack l.device l.line l.at;
}

abbrev pub decreases-map_lines-lines : goal.decreases-map_lines-lines
decreases-map_lines-lines g l = l.left

abbrev pub invariant-map_legs-legs : goal.invariant-map_legs-legs
invariant-map_legs-legs g l = record {
  so_far : IsMappedTo g.S.Sink.past l.fn.sink l.sink l.fn.walker l.walker (target_mapping l.op l.levels l.device l.line.start l.line.target) l.distance l.len l.at l.legs.left;
  target : l.legs.target ≡ l.line.target;
  here : l.legs.distance ≡ l.at;
}

abbrev pub decreases-map_legs-legs : goal.decreases-map_legs-legs
decreases-map_legs-legs g l = l.legs.left

abbrev pub invariant-read_snapshot-chunks : goal.invariant-read_snapshot-chunks
invariant-read_snapshot-chunks g l = record {
  so_far : IsMappedTo g.S.Sink.past l.fn.sink l.sink l.fn.walker l.walker (target_mapping Read l.levels l.device 0 (Snapshot l.snapshot)) l.sector l.len l.from l.left;
  some : 1 ≤ l.part;
  most : l.part ≤ l.left;
  apart : l.part < l.left → ((l.from + l.part - 1) / l.snapshot.chunk == (l.from + l.part) / l.snapshot.chunk) ≡ false;
  source : AreReadAt l.fn.walker.stack l.fn.walker.state l.device l.snapshot l.from l.part l.source;
}

abbrev pub decreases-read_snapshot-chunks : goal.decreases-read_snapshot-chunks
decreases-read_snapshot-chunks g l = l.left - l.part

abbrev pub invariant-write_origin-loop-left : goal.invariant-write_origin-loop-left
invariant-write_origin-loop-left g l = record {
  so_far : IsMappedTo g.S.Sink.past l.fn.sink l.sink l.fn.walker l.walker (origin_mapping Write l.levels l.origin) l.sector l.len l.from l.left;
  some : 1 ≤ l.most;
}

abbrev pub decreases-write_origin-loop-left : goal.decreases-write_origin-loop-left
decreases-write_origin-loop-left g l = l.left
