-- the search over the paths left finds what the search over all paths does
use Rattle.dm_store.proofs.Prelude.{drop, find, is_same}
use Rattle.dm_store.proofs.image_list.path_of.Given as goal
use Rattle.std.specs.Prelude.{◌≡◌}

abbrev pub invariant-loop-path : goal.invariant-loop-path
invariant-loop-path l = find (λ path. is_same path.disk l.name) (drop l.path-index l.paths) ≡ find (λ path. is_same path.disk l.name) l.paths
