use Rattle.dm_table.proofs.Prelude.{ℕ, cond, not, List, length, map, replicate, ap, ◌∙◌, arith, w8, pos_of_ne-zero, nat_lt, prefix_len, length-map, mask_l-mod, tops_compared, trailing_mask_l, zip2_splat_left}
use Rattle.std.specs.Prelude.{◌≡◌, ◌%◌, ◌^◌, ◌<◌}
use lib.Count.{count_trailing_zeros}
use lib.Lanes.{mask_l, top, zip2}
use Rattle.dm_table.proofs.words.LaneDigits.{front_each}
use Rattle.dm_table.proofs.words.MarkLemmas.{mark_within}
use Rattle.dm_table.proofs.words.front_digits.digits_ahead.Goals as goal

others_are : (digits : List ℕ) → length digits ≡ 16 → mask_l (map (top 7) (zip2 (λ a b. cond (nat_lt a b) 255 0) (replicate 16 9) digits)) % 2 ^ 64 ≡ mask_l (map (λ x. nat_lt 9 x) digits)
others_are digits long =
    cc (tops_compared w8 nat_lt (replicate 16 9) digits, zip2_splat_left nat_lt 9 16 digits long, mask_l-mod (map (λ x. nat_lt 9 x) digits) 64 (omega (arith, length-map digits (λ x. nat_lt 9 x), long)))

-- how many digits come before the first lane that isn't one, and that there is such a lane
ahead_are : (digits : List ℕ) → length digits ≡ 16 → (mask_l (map (top 7) (zip2 (λ a b. cond (nat_lt a b) 255 0) (replicate 16 9) digits)) % 2 ^ 64 ≡ 0 → ⊥) → (count_trailing_zeros 64 (mask_l (map (top 7) (zip2 (λ a b. cond (nat_lt a b) 255 0) (replicate 16 9) digits)) % 2 ^ 64) ≡ prefix_len (λ x. not (nat_lt 9 x)) digits) × (prefix_len (λ x. not (nat_lt 9 x)) digits < 16)
ahead_are digits long others =
    let is = others_are digits long in
    let some : 0 < mask_l (map (λ x. nat_lt 9 x) digits) = pos_of_ne-zero (λ none. others (is ∙ none)) in (
      ap (count_trailing_zeros 64) is ∙ trailing_mask_l (λ x. nat_lt 9 x) 64 digits (omega (arith, long)) some,
      omega (arith, mark_within (λ x. nat_lt 9 x) digits some, long),
    )

pub returns-clause-within : goal.returns-clause-within
returns-clause-within c =
    let ahead = ahead_are c.args.digits c.requires c.if-others-eq0.false in
    rw ahead.0 ahead.1

pub returns-clause-digits : goal.returns-clause-digits
returns-clause-digits c =
    let ahead = ahead_are c.args.digits c.requires c.if-others-eq0.false in
    rw ahead.0 (front_each c.args.digits)
