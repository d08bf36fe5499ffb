use Rattle.dm_table.proofs.Prelude.{List, ℕ, [], append_assoc, Line, body_text, line_text}
use Rattle.dm_table.proofs.io.WriteLemmas.{stopped, and_then, each_stopped, each_further}
use Rattle.dm_table.proofs.tables.canonical_text.write_lines.Goals as goal
use Rattle.std.specs.Prelude.{◌∷◌, ◌++◌}

-- the text of a line with its newline
abbrev ended : List ℕ → Line → List ℕ
ended name line = line_text (record { name = name; line = line }) ++ 10 ∷ []

-- the text of a line without its newline
abbrev labelled : List ℕ → Line → List ℕ
labelled name line = name ++ (58 ∷ 32 ∷ []) ++ body_text line

pub returns-in_err-write_body : goal.returns-in_err-write_body
returns-in_err-write_body g c =
    let name = c.args.name.now in
    let line = c.line-item.result in
    each_stopped (ended name) c.args.lines.now c.loop-line.line-index line c.from_residual.result c.loop-line-test.true c.line-item.is c.from_residual.ensures.1 c.loop-line.invariant
    (stopped (labelled name line) (10 ∷ []) (simp append_assoc) c.in_err-write_body.ensures)

pub returns-in_err-write_all : goal.returns-in_err-write_all
returns-in_err-write_all g c =
    let name = c.args.name.now in
    let line = c.line-item.result in
    each_stopped (ended name) c.args.lines.now c.loop-line.line-index line c.from_residual-in_err-write_all.result c.loop-line-test.true c.line-item.is c.from_residual-in_err-write_all.ensures.1 c.loop-line.invariant
    (and_then (labelled name line) (10 ∷ []) (simp append_assoc) c.in_ok-write_body.ensures c.in_err-write_all.ensures.wrote)

pub loop-line-preserved : goal.loop-line-preserved
loop-line-preserved g c =
    let name = c.args.name.now in
    let line = c.line-item.result in
    each_further (ended name) c.args.lines.now c.loop-line.line-index line c.loop-line-test.true c.line-item.is c.loop-line.invariant
    (and_then (labelled name line) (10 ∷ []) (simp append_assoc) c.in_ok-write_body.ensures c.in_ok-write_all.ensures.wrote)
