use Rattle.dmremap.proofs.Prelude.{sym}
use Rattle.dmremap.proofs.CommandLine.{retold}
use Rattle.dmremap.proofs.words.with_words_listed.Goals as goal

pub returns-in-len3-true : goal.returns-in-len3-true
returns-in-len3-true c = λ words. retold words c.unknown_word.result c.args.fault (sym c.in-len3-true.ensures) c.unknown_word.ensures
