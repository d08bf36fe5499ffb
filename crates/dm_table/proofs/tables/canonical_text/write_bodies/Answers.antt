use Rattle.dm_table.proofs.Prelude.{body_text}
use Rattle.dm_table.proofs.io.WriteLemmas.{joined_stopped, joined_then}
use Rattle.dm_table.proofs.tables.canonical_text.write_bodies.Goals as goal

pub returns-in_err-write_body-in-len1-up : goal.returns-in_err-write_body-in-len1-up
returns-in_err-write_body-in-len1-up g c =
    joined_stopped 44 body_text c.args.lines.now c.first-item.result c.from_residual.result c.in-len1-up.len_at_least c.first-item.is c.from_residual.ensures.1 c.in_err-write_body-in-len1-up.ensures

pub returns-in_ok-write_body-in-len1-up : goal.returns-in_ok-write_body-in-len1-up
returns-in_ok-write_body-in-len1-up g c = joined_then 44 body_text c.args.lines.now c.first-item.result c.in-len1-up.len_at_least c.first-item.is c.in_ok-write_body-in-len1-up.ensures c.write_more_bodies.ensures
