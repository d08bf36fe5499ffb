-- the elements left have the first fault of the list, and the names so far are indexed
use Rattle.dm_stack.proofs.Prelude.{None, map, take, first_or, twice_in}
use Rattle.dm_stack.proofs.names.NameLemmas.{twice_from}
use Rattle.dm_stack.proofs.checks.names.index_of.Given as goal
use Rattle.std.specs.Prelude.{◌≡◌}

abbrev pub invariant-loop-item : goal.invariant-loop-item
invariant-loop-item g l = record {
  left : first_or (twice_from g.T.Named.name_of g.T.Placed.place_of l.list l.item-index) None ≡ first_or (twice_in g.T.Named.name_of g.T.Placed.place_of l.list) None;
  indexed : l.names ≡ map g.T.Named.name_of (take l.item-index l.list);
}
