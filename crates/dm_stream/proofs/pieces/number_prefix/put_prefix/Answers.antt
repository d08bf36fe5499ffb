use Rattle.dm_stream.proofs.Prelude.{arith, decimal_nonempty}
use Rattle.dm_stream.proofs.pieces.number_prefix.put_prefix.Goals as goal

pub returns-clause-some : goal.returns-clause-some
returns-clause-some c = omega (arith, decimal_nonempty c.args.number (omega arith), c.put_digits-end.ensures.put.ends, c.put_bytes.ensures.ends)
