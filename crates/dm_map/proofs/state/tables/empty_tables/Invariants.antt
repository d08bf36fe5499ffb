use Rattle.dm_map.proofs.Prelude.{ℕ, Some, false, drop, length, nat_eq, list_any, nat_lt, slice_get, snapshots, start_state, has_room, state_of}
use Rattle.dm_map.proofs.state.tables.empty_tables.Given as goal
use Rattle.std.specs.Prelude.{◌≡◌, ◌+◌, ◌≤◌}

abbrev pub invariant-loop-next : goal.invariant-loop-next
invariant-loop-next g l = record {
  count : length l.tables.items ≡ length l.fn.looker.stack.devices;
  room : (device number : ℕ) (table : g.row.T.Denot) → slice_get l.tables.items device ≡ Some table → list_any (nat_eq device) (drop l.next (snapshots l.fn.looker.stack)) ≡ false → nat_lt number (g.T.Taken.places table) ≡ has_room l.fn.looker.stack device number;
  state : state_of g.T.Taken.chunks g.T.Taken.valid l.tables.items ≡ start_state l.fn.looker.stack;
  same : l.looker.stack ≡ l.fn.looker.stack;
  looked : l.looker.searches ≤ l.fn.looker.searches + l.next;
}
