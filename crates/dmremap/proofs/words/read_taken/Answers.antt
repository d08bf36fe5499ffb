use Rattle.dmremap.proofs.Prelude.{rules, err_from_is_err_and, texts, app_of}
use Rattle.dmremap.proofs.CommandLine.{refused, taken}
use Rattle.dmremap.proofs.words.read_taken.Goals as goal

pub returns-in_err-matches-clause-untaken : goal.returns-in_err-matches-clause-untaken
returns-in_err-matches-clause-untaken c =
    let p = err_from_is_err_and c.from_residual-in_err-matches.result c.from_residual-in_err-matches.ensures.1 in
    rw (p.1, p.2) (refused _ (app_of c.in_ok-program.field-0) (texts c.args.words.now) _ c.program.ensures.1 c.in_err-matches.ensures.kinds (search rules))

pub returns-clause-taken : goal.returns-clause-taken
returns-clause-taken c =
    taken _ (app_of c.in_ok-program.field-0) (texts c.args.words.now) _ _ c.program.ensures.1 c.in_ok-matches.ensures.kinds c.in_ok-matches.ensures.matches c.said_by.ensures (search rules)
