use Rattle.dmremap.proofs.Prelude.{rules}
use Rattle.dmremap.proofs.CommandLine.{command_added}
use Rattle.dmremap.proofs.words.with_command.Goals as goal

pub returns : goal.returns
returns c = λ app added line_is command_is plain.
    command_added app added _ _ c.subcommand.result (search rules) (search rules) plain c.subcommand.ensures
