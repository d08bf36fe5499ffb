-- the faults of the pieces that are left are those of all pieces: no earlier piece has one
use Rattle.dm_table.proofs.Prelude.{not, drop, NotText, texts, faults_from, untexts}
use Rattle.dm_table.proofs.load.text_checks.first_untext.Given as goal
use Rattle.std.specs.Prelude.{◌≡◌, ◌+◌}

abbrev pub invariant-loop-index : goal.invariant-loop-index
invariant-loop-index g l =
    faults_from l.part NotText (λ piece. not (g.R.TextRule.is_text piece)) (l.index + 1) (texts (drop l.index l.pieces)) ≡ untexts g.R.TextRule.is_text l.part (texts l.pieces)
