-- If the byte check refuses the text, so does parsing; else the parts of the text are read.
use Rattle.dm_table.proofs.Prelude.{Err, texts}
use Rattle.dm_table.proofs.tables.ConciseDescribed.{read_as_promised, read_concise-parts, read_concise-refused}
use Rattle.dm_table.proofs.tables.concise_text.parse_concise.Goals as goal

pub returns-in-Err : goal.returns-in-Err
returns-in-Err c =
    read_as_promised c.args.text.now _ (read_concise-refused c.args.text.now c.without_newline-text.result.now c.in-Err.fault c.without_newline-text.ensures c.in-Err.ensures)

pub returns-in-Ok : goal.returns-in-Ok
returns-in-Ok c =
    let same = read_concise-parts c.args.text.now c.without_newline-text.result.now (texts c.deref.result.now) c.in_default.field-0 c.without_newline-text.ensures (rw c.deref.ensures.value c.in-Ok.ensures) c.in_default.ensures in
    read_as_promised c.args.text.now c.read_parts.result (rw same at c.read_parts.ensures)

pub returns-in-Err-parts_of : goal.returns-in-Err-parts_of
returns-in-Err-parts_of c =
    read_as_promised c.args.text.now (Err c.memory.result) (λ memory. c.memory.ensures, λ other. absurd (other (cc)))
