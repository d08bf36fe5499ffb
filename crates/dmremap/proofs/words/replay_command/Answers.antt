use Rattle.dmremap.proofs.words.replay_command.Goals as goal

pub returns : goal.returns
returns c = c.with_word.ensures _ _ c.loading_command-command.ensures c.paths_option.ensures.rule
