use Rattle.dm_stack.proofs.Prelude.{ArePlaces}
use Rattle.dm_stack.proofs.names.name_index.NameIndex.find_key.Given as goal

abbrev pub invariant-loop-place : goal.invariant-loop-place
invariant-loop-place l = ArePlaces l.self l.place-items
