use Rattle.dm_table.proofs.Prelude.{nat_le, eqb, sym, ◌∙◌}
use Rattle.dm_table.proofs.words.ByteLemmas.{parts_pass}
use Rattle.dm_table.proofs.load.FaultLemmas.{faults_from-good}
use Rattle.dm_table.proofs.load.text_checks.check_text.Goals as goal
use Rattle.std.specs.Prelude.{◌&&◌, ◌||◌}

pub returns-then-is_printable : goal.returns-then-is_printable
returns-then-is_printable c =
    let pass = parts_pass (λ b. eqb b 10 || (nat_le 32 b && nat_le b 126)) c.args.at c.args.text.now (sym c.is_printable.ensures ∙ c.if-is_printable.true) in
    rw faults_from-good
