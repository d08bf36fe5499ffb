-- Lemmas about the sections at the top of a text: none, one, or several.
use Rattle.lvm_volume.proofs.Prelude.{ℕ, List, [], length, get_or, map, refl, sym, ap, arith, Tree, item_view, Check, group_faults, missing, one_group_faults, first_section}
use Rattle.std.specs.Prelude.{◌≡◌, ◌<◌, ◌≤◌, ◌∷◌}
use denote.Ref.{Bor}

abbrev Item : Type 0
Item = Bor (List ℕ) × Bor Tree

pub of_none : (check : Check) (line : ℕ) (xs : List Item) → length xs < 1 → one_group_faults check line (map item_view xs) ≡ missing check line
unfolding one_group_faults
of_none check line [] below = refl
of_none check line (x ∷ xs) below = absurd (omega arith)

pub of_one : (check : Check) (line : ℕ) (xs : List Item) (x : Item) → 1 ≤ length xs → length xs < 2 → x ≡ get_or xs 0 x → one_group_faults check line (map item_view xs) ≡ group_faults check (item_view x).1
unfolding one_group_faults
of_one check line (y ∷ []) x some below is = rw (← is)
of_one check line xs x some below is = absurd (omega arith)

pub first_is : (xs : List Item) (x : Item) → 1 ≤ length xs → x ≡ get_or xs 0 x → first_section (map item_view xs) ≡ item_view x
first_is [] x some is = absurd (omega arith)
first_is (y ∷ xs) x some is = ap item_view (sym is)

pub of_several : (check : Check) (line : ℕ) (xs : List Item) (x : Item) → 2 ≤ length xs → x ≡ get_or xs 1 x → one_group_faults check line (map item_view xs) ≡ missing check (item_view x).1.line
unfolding one_group_faults
of_several check line (y ∷ z ∷ xs) x some is = rw (← is)
of_several check line xs x some is = absurd (omega arith)
