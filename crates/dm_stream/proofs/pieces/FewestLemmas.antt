-- `fewest` gives pieces that cover the units without one continuing another; no other pieces do that, and no others are fewer.
use Rattle.dm_stream.proofs.Prelude.{ℕ, zero, suc, Bool, true, false, cond, List, [], length, refl, sym, ap, ◌∙◌, arith, flat_map, AllByRecursion, append-nil, BlockUnit, next_unit, units_in, onto_begins, UnitRun, piece_units, joins, is_after, onto, fewest, ArePiecesOf, NoneContinues, AreFewest}
use Rattle.dm_stream.proofs.pieces.PieceLemmas.{joins-next, joined_next, is_after-one, is_after-more, onto-joined, fewest-apart, fewest-run}
use Rattle.std.specs.Prelude.{◌≡◌, ◌<◌, ◌≤◌, ◌∷◌, ◌++◌}

-- what putting a unit in front of pieces does to their units, their lengths and their number
record AddsUnit (unit : BlockUnit) (old new : List UnitRun) : Type 0 where
  flatten : flat_map piece_units new ≡ unit ∷ flat_map piece_units old
  each : AllByRecursion (λ piece. 0 < piece.len) old → AllByRecursion (λ piece. 0 < piece.len) new
  apart : NoneContinues old → NoneContinues new
  most : length new ≤ suc (length old)

some_len : (len : ℕ) → 0 < suc len
some_len len = omega arith

-- if no piece continues the one before it, none does after the first is lengthened at its front
apart-longer : (unit first : BlockUnit) (len : ℕ) (pieces : List UnitRun) → first ≡ next_unit unit → NoneContinues (record { first = first; len = len } ∷ pieces) → NoneContinues (record { first = unit; len = suc len } ∷ pieces)
apart-longer unit first len [] e h = tt
apart-longer unit first len (next ∷ pieces) e h = (cc (is_after-more unit len next.first), h.1)

onto_adds : (unit : BlockUnit) (pieces : List UnitRun) → AddsUnit unit pieces (onto unit pieces)
onto_adds unit [] = record { flatten = refl; each = λ h. (some_len 0, tt); apart = λ h. tt; most = omega arith }
onto_adds unit (piece ∷ pieces) =
    let longer : List UnitRun = record { first = unit; len = suc piece.len } ∷ pieces in
    let beside : List UnitRun = record { first = unit; len = 1 } ∷ piece ∷ pieces in
    let P : Bool → Type 0 = λ b. joins unit piece.first ≡ b → AddsUnit unit (piece ∷ pieces) (cond b longer beside) in
    (elim (joins unit piece.first) as P [
      | true ↦ λ e. record {
        flatten = cc (joined_next unit piece.first e);
        each = λ h. (some_len piece.len, h.1);
        apart = λ h. apart-longer unit piece.first piece.len pieces (joined_next unit piece.first e) h;
        most = omega arith;
      }
      | false ↦ λ e. record { flatten = refl; each = λ h. (some_len 0, h); apart = λ h. (is_after-one unit piece.first ∙ e, h); most = omega arith }
    ]) refl

-- `fewest` gives pieces that cover the units, and none continues the one before it
fewest_are : (units : List BlockUnit) → ArePiecesOf units (fewest units)
fewest_are [] = record { flatten = refl; each = tt }
fewest_are (unit ∷ units) =
    let later = fewest_are units in
    let adds = onto_adds unit (fewest units) in
    record { flatten = cc; each = adds.each later.each }

fewest_apart : (units : List BlockUnit) → NoneContinues (fewest units)
fewest_apart [] = tt
fewest_apart (unit ∷ units) = (onto_adds unit (fewest units)).apart (fewest_apart units)

-- a piece followed by units whose first piece doesn't continue it is the first of the fewest pieces
fewest-before : (first : BlockUnit) (len : ℕ) (next : UnitRun) (rest : List BlockUnit) (pieces : List UnitRun) → 0 < len → 0 < next.len → is_after first len next.first ≡ false → fewest (piece_units next ++ rest) ≡ pieces → fewest (units_in first len ++ (piece_units next ++ rest)) ≡ record { first = first; len = len } ∷ pieces
fewest-before first zero next rest pieces some next_some apart e = absurd (omega (arith, some))
fewest-before first (suc len) next rest pieces some next_some apart e =
    let P : ℕ → Type 0 = λ n. 0 < n → fewest (units_in next.first n ++ rest) ≡ pieces → fewest (units_in first (suc len) ++ (units_in next.first n ++ rest)) ≡ record { first = first; len = suc len } ∷ pieces in
    (elim next.len as P [
      | zero ↦ λ none f. absurd (omega (arith, none))
      | suc n ↦ λ one f. cc (fewest-apart first len next.first (units_in (next_unit next.first) n ++ rest) apart)
    ]) next_some e

-- pieces of which none continues the one before it are the fewest for their units
fewest_only : (pieces : List UnitRun) → AllByRecursion (λ piece. 0 < piece.len) pieces → NoneContinues pieces → fewest (flat_map piece_units pieces) ≡ pieces
fewest_only [] some apart = refl
fewest_only (piece ∷ []) some apart =
    let P : ℕ → Type 0 = λ n. 0 < n → fewest (units_in piece.first n ++ []) ≡ record { first = piece.first; len = n } ∷ [] in
    (elim piece.len as P [ zero ↦ λ none. absurd (omega (arith, none)) | suc n ↦ λ one. ap fewest (append-nil (units_in piece.first (suc n))) ∙ fewest-run piece.first n ]) some.0
fewest_only (piece ∷ next ∷ pieces) some apart =
    fewest-before piece.first piece.len next (flat_map piece_units pieces) (next ∷ pieces) some.0 some.1.0 apart.0 (fewest_only (next ∷ pieces) some.1 apart.1)

fewest_only_of : (units : List BlockUnit) (pieces : List UnitRun) → ArePiecesOf units pieces → NoneContinues pieces → pieces ≡ fewest units
fewest_only_of units pieces are apart = sym (ap fewest (sym are.flatten) ∙ fewest_only pieces are.each apart)

-- consecutive units need at most one piece more than the units after them
one_more : (unit : BlockUnit) (len : ℕ) (rest : List BlockUnit) → length (fewest (units_in unit (suc len) ++ rest)) ≤ suc (length (fewest rest))
one_more unit zero rest = (onto_adds unit (fewest rest)).most
one_more unit (suc len) rest =
    let later = one_more (next_unit unit) len rest in
    let begins = onto_begins (next_unit unit) (fewest (units_in (next_unit (next_unit unit)) len ++ rest)) in
    let joined : fewest (units_in unit (suc (suc len)) ++ rest) ≡ record { first = unit; len = suc begins.len } ∷ begins.later =
    ap (onto unit) begins.is ∙ onto-joined unit (next_unit unit) begins.len begins.later (joins-next unit) in
    omega (arith, later, ap length joined, ap length begins.is)

-- no other pieces that cover the units are fewer
fewest_least : (pieces : List UnitRun) → AllByRecursion (λ piece. 0 < piece.len) pieces → length (fewest (flat_map piece_units pieces)) ≤ length pieces
fewest_least [] h = omega arith
fewest_least (piece ∷ pieces) h =
    let later = fewest_least pieces h.1 in
    let P : ℕ → Type 0 = λ len. 0 < len → length (fewest (units_in piece.first len ++ flat_map piece_units pieces)) ≤ suc (length pieces) in
    (elim piece.len as P [ zero ↦ λ none. absurd (omega arith) | suc len ↦ λ some. omega (arith, one_more piece.first len (flat_map piece_units pieces), later) ]) h.0

fewest_of : (units : List BlockUnit) (pieces : List UnitRun) → ArePiecesOf units pieces → length (fewest units) ≤ length pieces
fewest_of units pieces are = rw are.flatten at (fewest_least pieces are.each)

pub fewest_is : (units : List BlockUnit) → AreFewest units (fewest units)
fewest_is units = record { are = fewest_are units; apart = fewest_apart units; only = fewest_only_of units; least = fewest_of units }
