-- Lemmas about lists of strings.
use Rattle.lvm_volume.proofs.Prelude.{List, [], true, false, refl, list_all, list_any, Scalar, Int, Text, is_far_scalar, is_text}
use Rattle.std.specs.Prelude.{◌≡◌, ◌∷◌}

-- a list of strings has no integer above a limit
pub none_far : (items : List Scalar) → list_all is_text items ≡ true → list_any is_far_scalar items ≡ false
none_far [] all = refl
none_far (Text text ∷ items) all = none_far items all
none_far (Int n ∷ items) all = absurd cc
