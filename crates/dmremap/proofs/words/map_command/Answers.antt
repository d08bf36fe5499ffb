use Rattle.dmremap.proofs.words.map_command.Goals as goal

pub returns : goal.returns
returns c =
    c.with_word.ensures _ _ (c.with_word-command-2.ensures _ _ (c.with_word-command.ensures _ _ c.loading_command-command.ensures c.flag.ensures.rule) c.before_option.ensures.rule) c.paths_option.ensures.rule
