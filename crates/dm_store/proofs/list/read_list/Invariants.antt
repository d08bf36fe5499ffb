use Rattle.dm_store.proofs.Prelude.{None, length, true, put, taken_at, Contents, disk_contents, HasRows, Walked, store_sectors}
use Rattle.dm_store.proofs.list.read_list.Given as goal
use Rattle.std.specs.Prelude.{◌≡◌}

abbrev pub invariant-loop-number : goal.invariant-loop-number
invariant-loop-number g l = record {
  len : length l.block ≡ 65536;
  stack : l.mapper.stack ≡ l.fn.mapper.stack;
  failed : l.mapper.failed ≡ l.fn.mapper.failed;
  state : l.fault ≡ None → l.mapper.state ≡ put l.fn.mapper.state l.device (taken_at l.mapper.state l.device);
  valid : l.fault ≡ None → (taken_at l.mapper.state l.device).valid ≡ true;
  count : l.fault ≡ None → length (taken_at l.mapper.state l.device).chunks ≡ l.number;
  still : (held : Contents) → g.I.Images.IsSeen l.images held → g.I.Images.IsSeen l.fn.images held;
  rows : (held : Contents) → g.I.Images.IsSeen l.images held → HasRows (store_sectors l.mapper.stack (disk_contents l.places held) l.store) l.store.chunk l.rows l.block;
  walked : (held : Contents) → g.I.Images.IsSeen l.images held → Walked (store_sectors l.mapper.stack (disk_contents l.places held) l.store) l.store l.number l.fault (taken_at l.mapper.state l.device).chunks;
}
