use Rattle.dm_map.proofs.Prelude.{length, replicate, All, none_taken, state_of}
use Rattle.dm_map.proofs.state.tables.tables_without_places.Given as goal
use Rattle.std.specs.Prelude.{◌≡◌}

abbrev pub invariant-loop-device : goal.invariant-loop-device
invariant-loop-device g l = record {
  count : length l.tables.items ≡ l._device;
  places : All (λ table. g.T.Taken.places table ≡ 0) l.tables.items;
  state : state_of g.T.Taken.chunks g.T.Taken.valid l.tables.items ≡ replicate l._device none_taken;
}
