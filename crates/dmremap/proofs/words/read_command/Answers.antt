use Rattle.dmremap.proofs.Prelude.{◌∙◌, sym, texts}
use Rattle.dmremap.proofs.CommandLine.{refused_for}
use Rattle.dmremap.proofs.words.read_command.Goals as goal

pub returns-in-Err-clause-fault : goal.returns-in-Err-clause-fault
returns-in-Err-clause-fault c =
    refused_for (texts c.args.words.now) c.with_words_listed.result (sym c.has_lone_hyphen.ensures ∙ c.if-has_lone_hyphen.false) (c.with_words_listed.ensures _ c.in-Err.ensures.untaken)
