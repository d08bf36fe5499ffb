use Rattle.lvm_volume.proofs.Prelude.{length, string_bytes, undoubled}
use Rattle.lvm_volume.proofs.names.undouble.Given as goal
use Rattle.std.specs.Prelude.{◌≡◌, ◌++◌}
use denote.Shadow.{shadow}
use denote.Text.{Utf8}

abbrev pub invariant-loop-before : goal.invariant-loop-before
invariant-loop-before l = (undoubled l.fn.text ≡ string_bytes l.whole ++ undoubled l.rest) × shadow (Utf8 l.rest)

abbrev pub decreases-loop-before : goal.decreases-loop-before
decreases-loop-before l = length l.rest
