use Rattle.dm_stream.proofs.Prelude.{ℕ, List, [], length, take, decimal, sym, append_assoc, arith, length-append, length-take-le, take-append-add, take-append_seam, take-take, IsPut}
use Rattle.dm_stream.proofs.pieces.line_ends.LineEnds.put_inside.Goals as goal
use Rattle.std.specs.Prelude.{◌≡◌, ◌+◌, ◌-◌, ◌≤◌, ◌++◌, ◌∷◌}

-- what was put, without its last byte
but_last : (last at end : ℕ) (text old new : List ℕ) → at ≤ length old → IsPut (text ++ last ∷ []) at old new end → IsPut text at old new (end - 1)
but_last last at end text old new within put =
    let front : length (take at old) ≡ at = length-take-le at old within in
    let ends : end - 1 ≡ at + length text = omega (arith, put.ends, length-append text (last ∷ [])) in
    let place : end - 1 ≡ length (take at old) + length text = omega (arith, front, ends) in
    let cut : take (end - 1) (take end new) ≡ take (end - 1) new = take-take (end - 1) end new (omega (arith, ends)) in
    record { ends = ends; holds = rw (sym cut, put.holds, place, take-append-add, take-append_seam) }

pub returns-clause-put : goal.returns-clause-put
returns-clause-put c =
    let digits = but_last 10 c.args.at c.put_into-end.result (decimal c.args.len) c.args.block.now c.put_into-end.new.block (omega (arith, c.requires)) c.put_into-end.ensures.put in
    record {
      ends = omega (arith, digits.ends, c.put_bytes.ensures.ends, length-append (decimal c.args.len) (32 ∷ []));
      holds = rw (c.put_bytes.ensures.holds, digits.holds, append_assoc);
    }
