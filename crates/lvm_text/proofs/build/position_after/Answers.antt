use Rattle.lvm_text.proofs.Prelude.{sym, drop-drop}
use Rattle.lvm_text.proofs.build.position_after.Goals as goal

pub returns-then-at-tokens-clause-rest : goal.returns-then-at-tokens-clause-rest
returns-then-at-tokens-clause-rest c = sym (drop-drop 1 c.args.at c.args.tokens.now)
