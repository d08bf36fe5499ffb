use Rattle.dm_table.proofs.Prelude.{map, ◌∙◌, length-map}
use Rattle.dm_table.proofs.words.MarkLemmas.{front_marks, back_marks}
use Rattle.dm_table.proofs.words.marks.marks.Goals as goal
use Rattle.std.specs.Prelude.{◌==◌}

pub returns-then-len-lt16-clause-marks : goal.returns-then-len-lt16-clause-marks
returns-then-len-lt16-clause-marks c =
    c.joined.ensures (map (λ byte. byte == c.args.of) c.args.text.now) (length-map c.args.text.now _) (c.marks_of-first.ensures ∙ front_marks c.args.of c.args.text.now 8) (c.marks_of.ensures ∙ back_marks c.args.of c.args.text.now _)

pub returns-then-len-lt32-clause-marks : goal.returns-then-len-lt32-clause-marks
returns-then-len-lt32-clause-marks c =
    c.joined-then-len-lt32.ensures (map (λ byte. byte == c.args.of) c.args.text.now) (length-map c.args.text.now _) (c.marks_of-first-then-len-lt32.ensures ∙ front_marks c.args.of c.args.text.now 16) (c.marks_of-then-len-lt32.ensures ∙ back_marks c.args.of c.args.text.now _)

pub returns-else-len-lt32-clause-marks : goal.returns-else-len-lt32-clause-marks
returns-else-len-lt32-clause-marks c =
    c.joined-else-len-lt32.ensures (map (λ byte. byte == c.args.of) c.args.text.now) (length-map c.args.text.now _) (c.marks_of-first-else-len-lt32.ensures ∙ front_marks c.args.of c.args.text.now 32) (c.marks_of-else-len-lt32.ensures ∙ back_marks c.args.of c.args.text.now _)
