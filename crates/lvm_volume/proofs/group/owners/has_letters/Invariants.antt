use Rattle.lvm_volume.proofs.Prelude.{bytes_eq, drop, letters_of}
use Rattle.lvm_volume.proofs.group.owners.has_letters.Given as goal
use Rattle.std.specs.Prelude.{◌≡◌}

abbrev pub invariant-loop-letter : goal.invariant-loop-letter
invariant-loop-letter l = bytes_eq l.fn.id (letters_of l.fn.text) ≡ bytes_eq l.rest (letters_of (drop l.letter-index l.letter-items))
