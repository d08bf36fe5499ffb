-- What a halting player has played of a request: the first of its units, or all of them.
use Rattle.dm_replay.proofs.Prelude.{ℕ, zero, suc, true, false, List, [], length, take, refl, sym, ap, subst, ◌∙◌, arith, take_all, take-append-le, Description, Piece, OfBeginning, BlockUnit, ReadOf, WriteOf, CopyOf, FillOf, IsOnDisk, IsOnDisks, first_unit, next_unit, piece_len, units_in, units_of, Halting, HasHalted, HasTaken, AreUnitsOf, played_nothing, HasPlayed}
use Rattle.dm_map.specs.declared.pieces.piece.Piece.TheVariants as pieces
use Rattle.dm_replay.proofs.OfDiskLemmas.{piece_of}
use Rattle.std.specs.Prelude.{◌≡◌, ◌+◌, ◌<◌, ◌≤◌}

-- Pieces that are cut

pub front_in : (unit : BlockUnit) (n len : ℕ) → n ≤ len → take n (units_in unit len) ≡ units_in unit n
front_in unit zero len few = refl
front_in unit (suc n) zero few = absurd (omega (arith, few))
front_in unit (suc n) (suc len) few = rw (front_in (next_unit unit) n len (omega (arith, few)))

pub length_in : (unit : BlockUnit) (len : ℕ) → length (units_in unit len) ≡ len
length_in unit zero = refl
length_in unit (suc len) = ap suc (length_in (next_unit unit) len)

shorter : (stack : Description) (disk start n len : ℕ) → n ≤ len → IsOnDisk stack disk start len → IsOnDisk stack disk start n
shorter stack disk start n len few lies = record { there = lies.there; inside = omega (arith, few, lies.inside) }

-- the sectors of `len` consecutive units, from this one on, are on the stack's disks
abbrev AreOn : Description → BlockUnit → (len : ℕ) → Type 0
AreOn stack (ReadOf disk sector) len = IsOnDisk stack disk sector len
AreOn stack (WriteOf disk sector) len = IsOnDisk stack disk sector len
AreOn stack (CopyOf disk sector to to_sector) len = IsOnDisk stack disk sector len × IsOnDisk stack to to_sector len
AreOn stack (FillOf disk sector) len = IsOnDisk stack disk sector len
AreOn stack unit len = Unit {0}

fewer_on : (stack : Description) (unit : BlockUnit) (n len : ℕ) → n ≤ len → AreOn stack unit len → AreOn stack unit n
fewer_on stack (ReadOf disk sector) n len few on = shorter stack disk sector n len few on
fewer_on stack (WriteOf disk sector) n len few on = shorter stack disk sector n len few on
fewer_on stack (CopyOf disk sector to to_sector) n len few on = (shorter stack disk sector n len few on.0, shorter stack to to_sector n len few on.1)
fewer_on stack (FillOf disk sector) n len few on = shorter stack disk sector n len few on
fewer_on stack unit n len few on = tt

of_piece : (stack : Description) (piece : Piece) → IsOnDisks stack piece → AreOn stack (first_unit piece) (piece_len piece)
of_piece stack (pieces.Zero len) lies = tt
of_piece stack piece lies = lies

piece_on : (stack : Description) (piece : Piece) → AreOn stack (first_unit piece) (piece_len piece) → IsOnDisks stack piece
piece_on stack (pieces.Zero len) on = tt
piece_on stack piece on = on

-- a piece that begins like another one, and isn't longer, lies on the disks where that does
pub cut_lies : (stack : Description) (piece cut : Piece) → first_unit cut ≡ first_unit piece → piece_len cut ≤ piece_len piece → IsOnDisks stack piece → IsOnDisks stack cut
cut_lies stack piece cut first few lies =
    piece_on stack cut (subst (λ (unit : BlockUnit). AreOn stack unit (piece_len cut)) (sym first) (fewer_on stack (first_unit piece) (piece_len cut) (piece_len piece) few (of_piece stack piece lies)))

-- the units of a piece that begins like another one are the first of that one's units
pub cut_units : (piece cut : Piece) → first_unit cut ≡ first_unit piece → piece_len cut ≤ piece_len piece → units_of cut ≡ take (piece_len cut) (units_of piece)
cut_units piece cut first few = rw first (sym (front_in (first_unit piece) (piece_len cut) (piece_len piece) few))

-- What is played of a piece

-- a halting player that played all of a piece
pub taken_piece : (old new : Halting) (piece : Piece) → IsOnDisks old.player.stack.now piece → HasPlayed old.player.playing (units_of piece) new.player.playing → new.left + piece_len piece ≡ old.left
    → new.player.stack.now ≡ old.player.stack.now → new.halted ≡ old.halted → HasTaken old (units_of piece) new
taken_piece old new piece lies has fewer same halted = record {
  played = has;
  of = piece_of old.player.stack.now piece lies;
  fewer = rw (length_in (first_unit piece) (piece_len piece)) fewer;
  stack = same;
  halted = halted;
}

-- a halting player that played the units left to it, as a shorter piece
pub halted_piece : (old new : Halting) (piece cut : Piece) → IsOnDisks old.player.stack.now piece → first_unit cut ≡ first_unit piece → piece_len cut ≡ old.left → old.left < piece_len piece
    → HasPlayed old.player.playing (units_of cut) new.player.playing → new.player.stack.now ≡ old.player.stack.now → HasHalted old (units_of piece) new
halted_piece old new piece cut lies first len more has same =
    let few : piece_len cut ≤ piece_len piece = omega (arith, len, more) in
    let front : units_of cut ≡ take old.left (units_of piece) = rw (← len) (cut_units piece cut first few) in
    record {
      played = rw (← front) has;
      of = rw (← front) (piece_of old.player.stack.now cut (cut_lies old.player.stack.now piece cut first few lies));
      more = omega (arith, more, length_in (first_unit piece) (piece_len piece));
      stack = same;
    }

-- a halting player with no units left played none of the piece
pub halted_none : (old new : Halting) (piece : Piece) → old.left ≡ 0 → 1 ≤ piece_len piece → new.player ≡ old.player → HasHalted old (units_of piece) new
halted_none old new piece none some same =
    let front : [] ≡ take old.left (units_of piece) = cc (none) in
    record {
      played = rw (← front, same) (played_nothing old.player.playing);
      of = rw (← front) tt;
      more = omega (arith, none, some, length_in (first_unit piece) (piece_len piece));
      stack = rw same;
    }

-- The first units of a request

-- the player played as many of these units as were left, or all of them
pub record HasPlayedFront (old : Halting) (units : List BlockUnit) (new : Halting) : Type 0 where
  pub played : HasPlayed old.player.playing (take old.left units) new.player.playing
  pub of : AreUnitsOf (length old.player.stack.now.disks) (take old.left units)
  pub stack : new.player.stack.now ≡ old.player.stack.now

pub front_all : (old new : Halting) (units : List BlockUnit) → HasTaken old units new → HasPlayedFront old units new
front_all old new units taken =
    let all : take old.left units ≡ units = take_all old.left units (omega (arith, taken.fewer)) in
    record {
      played = rw all taken.played;
      of = rw all taken.of;
      stack = taken.stack;
    }

pub front_halted : (old new : Halting) (units : List BlockUnit) → OfBeginning (λ (a : Halting) (us : List BlockUnit) (b : Halting). a.halted ≡ false → b.halted ≡ true → HasHalted a us b) old units new → old.halted ≡ false → new.halted ≡ true → HasPlayedFront old units new
front_halted old new units left going halted =
    let was = left.holds going halted in
    let same : take old.left units ≡ take old.left left.front =
    ap (take old.left) (sym left.whole) ∙ take-append-le old.left left.front left.rest (omega (arith, was.more)) in
    record {
      played = rw same was.played;
      of = rw same was.of;
      stack = was.stack;
    }
