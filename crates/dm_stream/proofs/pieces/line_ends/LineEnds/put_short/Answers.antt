use Rattle.dm_stream.proofs.Prelude.{ℕ, List, [], get_or, length, take, sym, ap, subst, ◌∙◌, arith, length-take-le, take-append-add, take-take, IsPut, IsLineEnd, line_end}
use Rattle.dm_stream.proofs.pieces.line_ends.LineEnds.put_short.Goals as goal
use Rattle.std.specs.Prelude.{◌≡◌, ◌+◌, ◌≤◌, ◌++◌}

-- an array that was put whole begins with its text
front_put : (len at end : ℕ) (array old new : List ℕ) → at ≤ length old → IsLineEnd len array → IsPut array at old new end → IsPut (line_end len) at old new (at + get_or array 7 0)
front_put len at end array old new within is put =
    let size = get_or array 7 0 in
    let front : length (take at old) ≡ at = length-take-le at old within in
    let ends : end ≡ at + 8 = omega (arith, is.0, put.ends) in
    let long : length (line_end len) ≡ size = ap length (sym is.2) ∙ length-take-le size array (omega (arith, is.0, is.1)) in
    record {
      ends = ap (λ (k : ℕ). at + k) (sym long);
      holds =
          sym (take-take (at + size) end new (omega (arith, ends, is.1)))
          ∙ ap (λ (bytes : List ℕ). take (at + size) bytes) put.holds
          ∙ ap (λ (k : ℕ). take (k + size) (take at old ++ array)) (sym front)
          ∙ take-append-add (take at old) array size
          ∙ ap (λ (bytes : List ℕ). take at old ++ bytes) is.2;
    }

pub returns-clause-put : goal.returns-clause-put
returns-clause-put c =
    let array = get_or c.args.self.now.ends c.args.len [] in
    let text = front_put c.args.len c.args.at c.put_bytes-whole.result array c.args.block.now c.put_bytes-whole.new.block (omega (arith, c.requires.room)) (c.args.self.now.made c.args.len c.requires.short) c.put_bytes-whole.ensures in
    subst (λ (k : ℕ). IsPut (line_end c.args.len) c.args.at c.args.block.now c.put_bytes-whole.new.block (c.args.at + k)) (sym c.from.ensures) text
