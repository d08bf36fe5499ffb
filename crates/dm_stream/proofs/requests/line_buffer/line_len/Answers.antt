use Rattle.dm_stream.proofs.Prelude.{ℕ, None, Some, Option, MatchOption, List, [], length, take, drop, arith, add-one, length-drop, take_rest, line_parts}
use Rattle.memchr.specs.Find.{IsFirstByte, is_byte}
use Rattle.dm_stream.proofs.requests.LineParts.{parts_without, parts_first, still_one, first_after}
use Rattle.dm_stream.proofs.requests.line_buffer.line_len.Goals as goal
use Rattle.std.specs.Prelude.{◌≡◌, ◌+◌, ◌<◌, ◌∷◌, ◌-◌}

by_first : (xs : List ℕ) (r : Option ℕ) → IsFirstByte (is_byte 10) xs r → MatchOption r (line_parts xs ≡ xs ∷ []) (λ n. (n < length xs) × (line_parts xs ≡ take n xs ∷ line_parts (drop (n + 1) xs)))
by_first xs None h = parts_without xs (λ k l. h k (omega arith) l)
by_first xs (Some n) h =
    (h.0.high, rw add-one (parts_first xs n h.0.high (λ k l. h.0.before k (omega arith) l) h.1))

-- the first newline after the bytes that were searched
after : (xs : List ℕ) (n : ℕ) (r : Option ℕ) → IsFirstByte (is_byte 10) (take (length xs - n) (drop n xs)) r
    → MatchOption r (line_parts (drop n xs) ≡ drop n xs ∷ []) (λ k. (k < length (drop n xs)) × (line_parts (drop n xs) ≡ take k (drop n xs) ∷ line_parts (drop (k + 1) (drop n xs))))
after xs n r h = by_first (drop n xs) r (rw (← take_rest xs n) h)

pub returns-in_err-n : goal.returns-in_err-n
returns-in_err-n c =
    let xs = c.args.held.now in
    rw c.from_residual.ensures (still_one xs c.args.searched c.requires.clear (after xs c.args.searched None c.in_err-n.ensures))

pub returns : goal.returns
returns c =
    let xs = c.args.held.now in
    let n = c.args.searched in
    let found = after xs n (Some c.in_ok-n.n) c.in_ok-n.ensures in
    (omega (arith, found.0, length-drop n xs), first_after xs n c.in_ok-n.n c.requires.clear found.1)
