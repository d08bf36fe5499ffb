use Rattle.dm_stream.proofs.Prelude.{rules, ℕ, List, [], get_or, set, length, take, decimal, ap, ◌∙◌, arith, get_or-set_same, length-set, length-take-le, length-decimal-le, take-take, take-set-le, IsLineEnd, line_end}
use Rattle.dm_stream.proofs.pieces.line_ends.line_end.Goals as goal
use Rattle.std.specs.Prelude.{◌≡◌, ◌≤◌, ◌++◌, ◌∷◌}

-- an array that begins with a line end, and whose last byte counts the line end's bytes
counted : (len end : ℕ) (text array : List ℕ) → end ≤ 7 → length array ≡ 8 → array ≡ take 8 text → take end text ≡ line_end len → IsLineEnd len (set array 7 end)
counted len end text array short eight is holds =
    let last : get_or (set array 7 end) 7 0 ≡ end = get_or-set_same array 7 end 0 (omega arith) in
    let front : take end (set array 7 end) ≡ line_end len =
    take-set-le end array 7 end short ∙ ap (λ (bytes : List ℕ). take end bytes) is ∙ take-take end 8 text (omega arith) ∙ holds in
    (length-set array 7 end ∙ eight, omega (arith, last), ap (λ (k : ℕ). take k (set array 7 end)) last ∙ front)

pub returns : goal.returns
returns c =
    let few : length (decimal c.args.len) ≤ 3 = search (rules, length-decimal-le 3) in
    let text = c.put_bytes-end.new.block in
    let same = c.in-Some.ensures.cases.same in
    counted c.args.len c.put_bytes-end.result text c.in-Some.front.now
    (omega (arith, few, c.put_digits-end.ensures.put.ends, c.put_bytes-end.ensures.ends))
    (ap length same ∙ length-take-le 8 text c.in-Some.ensures.cases.enough)
    same
    (c.put_bytes-end.ensures.holds ∙ ap (λ (xs : List ℕ). xs ++ 10 ∷ []) c.put_digits-end.ensures.put.holds)
