use Rattle.dm_store.proofs.Prelude.{true, with_looked, Contents, disk_contents, each, HasRows, store_sectors, is_clear}
use Rattle.dm_store.proofs.list.end_list.Given as goal
use Rattle.std.specs.Prelude.{◌≡◌, ◌+◌}

abbrev pub invariant-loop-next : goal.invariant-loop-next
invariant-loop-next g l = record {
  same : l.mapper ≡ with_looked l.fn.mapper l.mapper.looked;
  still : (held : Contents) → g.I.Images.IsSeen l.images held → g.I.Images.IsSeen l.fn.images held;
  rows : (held : Contents) → g.I.Images.IsSeen l.images held → HasRows (store_sectors l.fn.mapper.stack (disk_contents l.places held) l.store) l.store.chunk l.fn.rows l.fn.block
      → HasRows (store_sectors l.fn.mapper.stack (disk_contents l.places held) l.store) l.store.chunk l.rows l.block;
  clear : (held : Contents) → g.I.Images.IsSeen l.images held → HasRows (store_sectors l.fn.mapper.stack (disk_contents l.places held) l.store) l.store.chunk l.fn.rows l.fn.block
      → each (λ i. is_clear (store_sectors l.fn.mapper.stack (disk_contents l.places held) l.store) l.store.chunk (l.number + i)) l.next ≡ true;
}
