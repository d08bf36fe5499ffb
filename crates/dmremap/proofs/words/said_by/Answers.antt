use Rattle.dmremap.proofs.Prelude.{◌∙◌, found_of, rows_of}
use Rattle.dmremap.proofs.CommandLine.{said_met}
use Rattle.dmremap.proofs.words.said_by.Goals as goal

pub returns-in-Some : goal.returns-in-Some
returns-in-Some c =
    c.job_in.ensures ∙ said_met _ _ _ c.in-Some.command.now (rows_of (found_of c.in-Some.found.now)) c.in-Some.ensures.name c.in-Some.ensures.rows
