use Rattle.dm_table.proofs.Prelude.{ap, sym, with_line}
use Rattle.dm_table.proofs.tables.TargetRows.{body_none, body_made}
use Rattle.dm_table.proofs.tables.line_body.read_body.Goals as goal

pub returns-in_default : goal.returns-in_default
returns-in_default c = λ other. ap (with_line _) (body_none c.args.at c.args.fields.now c.in_default.len_below)

pub returns : goal.returns
returns c =
    rw (body_made c.args.lines.now c.args.at c.args.fields.now _ c.in-Some.start c.in-Some-number.len c.in-len3-up.len_at_least (sym c.in-Some.ensures) (sym c.in-Some-number.ensures)) c.read_typed.ensures
