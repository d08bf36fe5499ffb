-- Two texts are equal if their first bytes and their last bytes are, and these cover all bytes.
use Rattle.dm_table.proofs.Prelude.{ℕ, Bool, true, false, List, length, take, drop, sym, ap, ◌∙◌, arith, take-take, take-append-drop, take_rest, OnTrue}
use Rattle.dm_table.proofs.words.same_bytes.ends_same.Goals as goal
use Rattle.std.specs.Prelude.{◌≡◌, ◌-◌, ◌≤◌, ◌&&◌}

-- if the last bytes begin at or before the end of the first ones, texts that agree in both are equal
joined : (left right : List ℕ) (len from : ℕ) → from ≤ len → take len left ≡ take len right → drop from left ≡ drop from right → left ≡ right
joined left right len from meet fronts ends =
    let front : take from left ≡ take from right = sym (take-take from len left meet) ∙ ap (take from) fronts ∙ take-take from len right meet in
    cc (take-append-drop from left, take-append-drop from right)

both : {A B C : Type 0} (a b : Bool) → OnTrue a A → OnTrue b B → (A → B → C) → OnTrue (a && b) C
both true true x y from = from x y
both true false x y from = tt
both false b x y from = tt

pub returns-clause-same : goal.returns-clause-same
returns-clause-same g c =
    let left = c.args.left.now in
    let right = c.args.right.now in
    let from = length left - g.row.LEN in
    both c.known_same-fronts.result c.known_same-ends.result c.known_same-fronts.ensures.same c.known_same-ends.ensures.same (λ fronts ends.
    let other : length left - from ≡ length right - from = omega arith in
    let last : drop from left ≡ drop from right = sym (take_rest left from) ∙ ends ∙ take_rest right from in
    joined left right g.row.LEN from (omega arith) fronts last)
