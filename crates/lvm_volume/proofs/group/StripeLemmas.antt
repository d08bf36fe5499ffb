-- Lemmas about lists of pairs of a string and an integer.
use Rattle.lvm_volume.proofs.Prelude.{ℕ, List, [], length, refl, arith, scalar_views, stripes_in}
use Rattle.lvm_text.specs.declared.tree.Scalar.{Scalar}
use Rattle.lvm_text.specs.declared.tree.Scalar.TheVariants.{Int, Text}
use Rattle.std.specs.Prelude.{◌≡◌, ◌<◌, ◌∷◌}

pub too_short : (keys : List (List ℕ)) (xs : List Scalar) → length xs < 2 → stripes_in keys (scalar_views xs) ≡ []
too_short keys [] below = refl
too_short keys (Text t ∷ []) below = refl
too_short keys (Int n ∷ []) below = refl
too_short keys (x ∷ y ∷ xs) below = absurd (omega arith)
