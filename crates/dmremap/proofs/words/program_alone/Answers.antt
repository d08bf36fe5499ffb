use Rattle.dmremap.proofs.words.program_alone.Goals as goal

pub returns : goal.returns
returns c = c.with_word.ensures _ _ c.bare_program.ensures c.flag-version.ensures.rule
