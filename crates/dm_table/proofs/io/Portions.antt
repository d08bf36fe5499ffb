-- Lemmas about a list that is handed out portion by portion, each copied to the front of a slice.
use Rattle.dm_table.proofs.Prelude.{ℕ, List, length, take, drop, sym, ap, ◌∙◌, arith, length-take-le, length-drop, take-add, take_at, take_all, take-append-drop, drop-drop}
use Rattle.std.specs.Prelude.{◌≡◌, ◌≤◌, ◌+◌, ◌-◌, ◌++◌}

-- the bytes from place `at` on, as the code's slice has them
abbrev pub rest_after : List ℕ → ℕ → List ℕ
rest_after bytes at = take (length bytes - at) (drop at bytes)

pub rest_after_is : (bytes : List ℕ) (at : ℕ) → rest_after bytes at ≡ drop at bytes
rest_after_is bytes at = take_all (length bytes - at) (drop at bytes) (omega (arith, length-drop at bytes))

-- if a slice begins with a portion of the bytes from `at` on, its first n bytes are that portion
pub front_is : (bytes portion tail : List ℕ) (at n : ℕ) → portion ≡ take n (rest_after bytes at) → n ≤ length (rest_after bytes at)
    → take n (portion ++ tail) ≡ take n (drop at bytes)
front_is bytes portion tail at n e fits =
    rw (← rest_after_is bytes at) (take_at portion tail n (ap length e ∙ length-take-le n (rest_after bytes at) fits) ∙ e)

-- the bytes handed out grow by the portion
pub handed_grows : (bytes given : List ℕ) (at n : ℕ) → given ≡ take n (drop at bytes) → take (at + n) bytes ≡ take at bytes ++ given
handed_grows bytes given at n e = rw e (take-add at n bytes)

-- the bytes left shrink by the portion
pub left_shrinks : (bytes given : List ℕ) (at n : ℕ) → given ≡ take n (drop at bytes) → drop at bytes ≡ given ++ drop (at + n) bytes
left_shrinks bytes given at n e =
    rw (← drop-drop n at bytes, e) (sym (take-append-drop n (drop at bytes)))
