use Rattle.dm_table.proofs.Prelude.{body_text, Line}
use Rattle.dm_table.proofs.io.WriteLemmas.{each_stopped, each_further}
use Rattle.dm_table.proofs.tables.canonical_text.write_more_bodies.Goals as goal
use Rattle.std.specs.Prelude.{◌∷◌}

pub returns-in_err-write_body : goal.returns-in_err-write_body
returns-in_err-write_body g c =
    each_stopped (λ (line : Line). 44 ∷ body_text line) c.args.lines.now c.loop-line.line-index c.line-item.result c.from_residual.result c.loop-line-test.true c.line-item.is c.from_residual.ensures.1 c.loop-line.invariant c.in_err-write_body.ensures

pub loop-line-preserved : goal.loop-line-preserved
loop-line-preserved g c = each_further (λ (line : Line). 44 ∷ body_text line) c.args.lines.now c.loop-line.line-index c.line-item.result c.loop-line-test.true c.line-item.is c.loop-line.invariant c.in_ok-write_body.ensures
