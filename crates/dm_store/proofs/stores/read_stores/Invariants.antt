use Rattle.dm_store.proofs.Prelude.{ℕ, Ok, get_or, length, none_taken, taken_at, Contents, disk_contents, start_of}
use Rattle.dm_store.proofs.stores.read_stores.Given as goal
use Rattle.std.specs.Prelude.{◌≡◌, ◌<◌, ◌≤◌}

abbrev pub invariant-loop-next : goal.invariant-loop-next
invariant-loop-next g l = record {
  stack : l.mapper.stack ≡ l.fn.mapper.stack;
  failed : l.mapper.failed ≡ l.fn.mapper.failed;
  count : length l.mapper.state ≡ length l.stack.devices;
  later : (device : ℕ) → get_or l.snapshots l.next (length l.stack.devices) ≤ device → taken_at l.mapper.state device ≡ none_taken;
  still : (held : Contents) → g.I.Images.IsSeen l.images held → g.I.Images.IsSeen l.fn.images held;
  started : (held : Contents) → g.I.Images.IsSeen l.images held → (device : ℕ) → device < get_or l.snapshots l.next (length l.stack.devices) → start_of l.stack (disk_contents l.places held) device ≡ Ok (taken_at l.mapper.state device);
}
