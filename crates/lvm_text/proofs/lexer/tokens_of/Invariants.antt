use Rattle.std.specs.Prelude.{◌≤◌}
use denote.Text.{Utf8}
use denote.Shadow.{shadow}
use Rattle.lvm_text.proofs.Prelude.{length, views}
use Rattle.lvm_text.proofs.Elements.{Reached}
use Rattle.lvm_text.proofs.lexer.tokens_of.Given as goal

-- `shadow` says that `rest`, which the loop changes, is UTF-8: keep it, and add clauses with ×
abbrev pub invariant-loop-rest : goal.invariant-loop-rest
invariant-loop-rest l = shadow (Utf8 l.rest) × Reached l.text l.line (views l.tokens.items) l.rest

abbrev pub decreases-loop-rest : goal.decreases-loop-rest
decreases-loop-rest l = length l.rest

abbrev pub invariant-loop-byte : goal.invariant-loop-byte
invariant-loop-byte l = shadow (Utf8 l.rest) × Reached l.fn.text l.line (views l.tokens.items) l.rest × (length l.rest ≤ length l.initial.rest)

abbrev pub decreases-loop-byte : goal.decreases-loop-byte
decreases-loop-byte l = length l.rest
