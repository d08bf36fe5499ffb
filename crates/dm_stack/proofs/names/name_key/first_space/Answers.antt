use Rattle.dm_stack.proofs.Prelude.{ℕ, cond, not, List, get_or, length, map, replicate, refl, ap, ◌∙◌, arith, w8, pos_of_ne-zero, nat_eq, prefix_len, eqb-true, length-map, passes_at_first, mask_l-mod, tops_compared, trailing_mask_l, zip2_splat}
use Rattle.std.specs.Prelude.{◌≡◌, ◌%◌, ◌^◌, ◌<◌}
use lib.Count.{count_trailing_zeros}
use lib.Lanes.{mask_l, top, zip2}
use Rattle.dm_table.proofs.MarkLemmas.{mark_within}
use Rattle.dm_stack.proofs.names.name_key.first_space.Goals as goal

-- a bit for each of the sixteen bytes, set if the byte is a space
abbrev bits_of : List ℕ → ℕ
bits_of array = mask_l (map (top 7) (zip2 (λ a b. cond (nat_eq a b) 255 0) array (replicate 16 32))) % 2 ^ 64

spaces_are : (array : List ℕ) → length array ≡ 16 → bits_of array ≡ mask_l (map (λ x. nat_eq x 32) array)
spaces_are array long =
    cc (tops_compared w8 nat_eq array (replicate 16 32), zip2_splat nat_eq array 16 32 long, mask_l-mod (map (λ x. nat_eq x 32) array) 64 (omega (arith, length-map array (λ x. nat_eq x 32), long)))

-- the lowest bit set is the first space
first_is : (array : List ℕ) (at : ℕ) → length array ≡ 16 → (bits_of array ≡ 0 → ⊥) → at ≡ count_trailing_zeros 64 (bits_of array) → (at < 16) × (get_or array at 0 ≡ 32)
first_is array at long others is =
    let bits = spaces_are array long in
    let some : 0 < mask_l (map (λ x. nat_eq x 32) array) = pos_of_ne-zero (λ none. others (bits ∙ none)) in
    let place : at ≡ prefix_len (λ x. not (nat_eq x 32)) array = is ∙ ap (count_trailing_zeros 64) bits ∙ trailing_mask_l (λ x. nat_eq x 32) 64 array (omega (arith, long)) some in
    let within = mark_within (λ x. nat_eq x 32) array some in (
      omega (arith, place, within, long),
      eqb-true (get_or array at 0) 32 (rw place (passes_at_first (λ x. nat_eq x 32) array 0 within)),
    )

pub returns-clause-within : goal.returns-clause-within
returns-clause-within c = (first_is c.args.array.now _ c.told-array c.if-spaces-eq0.false refl).0

pub returns-clause-space : goal.returns-clause-space
returns-clause-space c = (first_is c.args.array.now _ c.told-array c.if-spaces-eq0.false refl).1
