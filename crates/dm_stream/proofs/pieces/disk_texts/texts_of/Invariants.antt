use Rattle.dm_stream.proofs.Prelude.{map, take, disk_text}
use Rattle.dm_stream.proofs.pieces.disk_texts.texts_of.Given as goal
use Rattle.std.specs.Prelude.{◌≡◌}

abbrev pub invariant-loop-disk : goal.invariant-loop-disk
invariant-loop-disk l = l.texts.items ≡ map (λ disk. disk_text disk.name) (take l.disk-index l.disks)
