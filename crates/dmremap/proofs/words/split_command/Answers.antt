use Rattle.dmremap.proofs.words.split_command.Goals as goal

pub returns : goal.returns
returns c = c.with_word.ensures _ _ c.titled.ensures c.required.ensures.rule
