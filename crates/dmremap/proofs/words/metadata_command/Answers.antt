use Rattle.dmremap.proofs.words.metadata_command.Goals as goal

pub returns : goal.returns
returns c = c.with_word.ensures _ _ (c.with_word-command.ensures _ _ c.titled.ensures c.format_argument.ensures.rule) c.required.ensures.rule
