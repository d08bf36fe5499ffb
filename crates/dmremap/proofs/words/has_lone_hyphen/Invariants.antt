use Rattle.dmremap.proofs.Prelude.{drop, lone_hyphen_in, texts}
use Rattle.dmremap.proofs.words.has_lone_hyphen.Given as goal
use Rattle.std.specs.Prelude.{◌≡◌}

abbrev pub invariant-loop-word : goal.invariant-loop-word
invariant-loop-word l = lone_hyphen_in (texts l.rest) ≡ lone_hyphen_in (texts (drop l.word-index l.rest))
