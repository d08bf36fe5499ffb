use Rattle.dmremap.proofs.words.reading_command.Goals as goal

pub returns : goal.returns
returns c =
    c.with_usage.ensures _
    (c.with_word.ensures _ _
    (c.with_word-command-3.ensures _ _
    (c.with_word-command-2.ensures _ _ (c.with_word-command.ensures _ _ c.loading_command-command.ensures c.optional-device.ensures.rule) c.sectors_option-from.ensures.rule) c.sectors_option-count.ensures.rule) c.paths_option.ensures.rule)
