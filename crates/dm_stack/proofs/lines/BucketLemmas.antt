-- Buckets of sectors, and the line that holds the first sector of each.
use Rattle.dm_stack.proofs.Prelude.{ℕ, zero, suc, List, [], length, get_or, length-append, sym, arith, inl, inr, cases_lt, get_or_append_left, get_or_push, mul-le-mul_right, ResolvedLine, AreFirsts, IsStartOf, StartsAfter, StartsBy}
use Rattle.dm_stack.specs.lines.LineSearch.{IsLineOf}
use Rattle.std.specs.Prelude.{◌≡◌, ◌+◌, ◌*◌, ◌^◌, ◌<◌, ◌≤◌, ◌⊎◌, ◌∷◌, ◌++◌}

-- a line that starts at a sector or before it also does for a later sector
pub starts_by_later : (lines : List ResolvedLine) (index sector later : ℕ) → sector ≤ later → StartsBy lines index sector → StartsBy lines index later
starts_by_later [] index sector later more from = absurd from
starts_by_later (line ∷ lines) zero sector later more from = omega (arith, more, from)
starts_by_later (line ∷ lines) (suc index) sector later more from = starts_by_later lines index sector later more from

-- a sector before the start of a line, and a sector from the start on
pub starts_after_start : (lines : List ResolvedLine) (index start sector : ℕ) → sector < start → IsStartOf lines index start → StartsAfter lines index sector
starts_after_start [] index start sector before is = tt
starts_after_start (line ∷ lines) zero start sector before is = rw (← is) before
starts_after_start (line ∷ lines) (suc index) start sector before is = starts_after_start lines index start sector before is

pub starts_by_start : (lines : List ResolvedLine) (index start sector : ℕ) → start ≤ sector → sector + 1 < 2 ^ 64 → IsStartOf lines index start → StartsBy lines index sector
starts_by_start [] index start sector from small is = absurd (omega (arith, from, small, is))
starts_by_start (line ∷ lines) zero start sector from small is = rw (← is) from
starts_by_start (line ∷ lines) (suc index) start sector from small is = starts_by_start lines index start sector from small is

pub within_start : (lines : List ResolvedLine) (index sector : ℕ) → StartsBy lines index sector → index < length lines
within_start [] index sector from = absurd from
within_start (line ∷ lines) zero sector from = omega arith
within_start (line ∷ lines) (suc index) sector from = omega (arith, within_start lines index sector from)

-- the next bucket doesn't begin before this one
pub next_bucket : (bucket shift : ℕ) → bucket * 2 ^ shift ≤ (bucket + 1) * 2 ^ shift
next_bucket bucket shift = mul-le-mul_right (2 ^ shift) (omega arith)

earlier_or_last : (firsts : List ℕ) (index bucket : ℕ) → bucket < length (firsts ++ index ∷ []) → (bucket < length firsts) ⊎ (bucket ≡ length firsts)
earlier_or_last firsts index bucket within = elim (cases_lt bucket (length firsts)) [
  | inl earlier ↦ inl earlier
  | inr later ↦ inr (omega (arith, within, length-append firsts (index ∷ []), later))
]

-- a table with one more bucket, whose line comes no earlier than those of the buckets before
pub firsts_pushed : (lines : List ResolvedLine) (firsts : List ℕ) (index shift : ℕ) → AreFirsts lines firsts shift → ((bucket : ℕ) → bucket < length firsts → get_or firsts bucket 0 ≤ index)
    → IsLineOf lines index (length firsts * 2 ^ shift) → AreFirsts lines (firsts ++ index ∷ []) shift
firsts_pushed lines firsts index shift are earlier is = record {
  short = are.short;
  at = λ bucket within. elim (earlier_or_last firsts index bucket within) [
    | inl before ↦ rw (get_or_append_left firsts (index ∷ []) 0 bucket before) (are.at bucket before)
    | inr last ↦ rw (get_or_push firsts index 0 bucket (sym last), last) is
  ];
  rising = λ bucket within. elim (earlier_or_last firsts index (bucket + 1) within) [
    | inl before ↦ rw (get_or_append_left firsts (index ∷ []) 0 bucket (omega (arith, before)), get_or_append_left firsts (index ∷ []) 0 (bucket + 1) before) (are.rising bucket before)
    | inr last ↦ rw (get_or_append_left firsts (index ∷ []) 0 bucket (omega (arith, last)), get_or_push firsts index 0 (bucket + 1) (sym last)) (earlier bucket (omega (arith, last)))
  ];
}

pub earlier_pushed : (firsts : List ℕ) (index : ℕ) → ((bucket : ℕ) → bucket < length firsts → get_or firsts bucket 0 ≤ index)
    → (bucket : ℕ) → bucket < length (firsts ++ index ∷ []) → get_or (firsts ++ index ∷ []) bucket 0 ≤ index
earlier_pushed firsts index earlier bucket within = elim (earlier_or_last firsts index bucket within) [
  | inl before ↦ rw (get_or_append_left firsts (index ∷ []) 0 bucket before) (earlier bucket before)
  | inr last ↦ rw (get_or_push firsts index 0 bucket (sym last)) (omega arith)
]
