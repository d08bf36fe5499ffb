-- The length of a name built from its parts.
use Rattle.lvm_volume.proofs.Prelude.{ℕ, Bool, true, false, cond, List, [], length, length-append, arith, refl, count_by, option_map, sum_by-cons, code, NameParts, doubled, joined, with_hyphen}
use Rattle.std.specs.Prelude.{◌≡◌, ◌+◌, ◌==◌, ◌∷◌, ◌++◌}

-- doubling hyphens adds one byte for each
pub length_doubled : (part : List ℕ) → length (doubled part) ≡ length part + count_by (λ b. b == code "-") part
length_doubled [] = refl
length_doubled (b ∷ part) =
    rw (sum_by-cons (λ x. cond (x == code "-") 1 0) b part) (by_test (b == code "-") refl (length_doubled part)) where
      by_test : (test : Bool) → (b == code "-") ≡ test → length (doubled part) ≡ length part + count_by (λ b. b == code "-") part
          → length (doubled (b ∷ part)) ≡ length (b ∷ part) + (cond (b == code "-") 1 0 + count_by (λ b. b == code "-") part)
      by_test true is more = rw is (omega (arith, more))
      by_test false is more = rw is (omega (arith, more))

pub length_joined : (p : NameParts) → length (joined p) ≡ length (doubled p.vg) + 1 + length (doubled p.lv) + length (with_hyphen (option_map doubled p.layer))
length_joined p =
    let layer = with_hyphen (option_map doubled p.layer) in
    omega (arith, length-append (doubled p.vg) (code "-" ∷ (doubled p.lv ++ layer)), length-append (doubled p.lv) layer)
