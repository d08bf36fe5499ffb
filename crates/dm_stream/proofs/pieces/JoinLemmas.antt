-- What a join takes of one piece, or leaves of it.
use Rattle.dm_stream.proofs.Prelude.{ℕ, zero, suc, Bool, true, false, List, [], Option, Some, None, refl, sym, ap, subst, ◌∙◌, append_assoc, arith, append-nil, flat_map-append, since, Description, BlockUnit, first_unit, next_unit, piece_len, units_in, units_of, Pending, AreApart, HoldsNoRange, IsHeld, IsNoRange, goes_on, held_of, held_units, piece_of, piece_view, range_piece, DiskRange, HasUnits, HasLeft, HasTaken, last_of_units, some_before, beginning-before, fewest, is_after, all_but_last, piece_text, pieces_text, since-same, IsBeginning, IsCutShort}
use Rattle.dm_map.specs.declared.pieces.piece.Piece as coded
use Rattle.dm_map.specs.declared.pieces.piece.Piece.TheVariants as kinds
use Rattle.dm_stream.proofs.pieces.PieceLemmas.{fewest-apart, fewest-run, units_joined}
use Rattle.std.specs.Prelude.{◌≡◌, ◌+◌, ◌≤◌, ◌∷◌, ◌++◌}

-- a piece that the next one doesn't continue is whole, whatever units follow
pub fewest-whole : (first after : BlockUnit) (len more : ℕ) (rest : List BlockUnit) → 1 ≤ len → 1 ≤ more → is_after first len after ≡ false → fewest (units_in first len ++ units_in after more ++ rest) ≡ fewest (units_in first len) ++ fewest (units_in after more ++ rest)
fewest-whole first after (suc len) (suc more) rest some one apart =
    cc (append_assoc (units_in first (suc len)) (units_in after (suc more)) rest, fewest-apart first len after (units_in (next_unit after) more ++ rest) apart, fewest-run first len)
fewest-whole first after len more rest some one apart = absurd (omega arith)

-- a held piece that the next one doesn't continue is whole, whatever units follow
pub held_apart : (stack : Description) (old : Option coded.Piece) (piece : coded.Piece) → IsHeld stack old → 1 ≤ piece_len piece → goes_on old piece ≡ false
    → (rest : List BlockUnit) → fewest (held_units old ++ units_of piece ++ rest) ≡ fewest (held_units old) ++ fewest (units_of piece ++ rest)
held_apart stack None piece fits one apart rest = refl
held_apart stack (Some held) piece fits one apart rest = fewest-whole (first_unit held) (first_unit piece) (piece_len held) (piece_len piece) rest fits.0 one apart

-- the units of a held piece lengthened by one that continues it
pub held_joined : (old : Option coded.Piece) (held piece both : coded.Piece) → old ≡ Some held → goes_on old piece ≡ true → first_unit both ≡ first_unit held → piece_len both ≡ piece_len held + piece_len piece → units_of both ≡ held_units old ++ units_of piece
held_joined old held piece both is after first len =
    cc (units_joined (first_unit held) (first_unit piece) (piece_len held) (piece_len piece) (sym (ap (λ (p : Option coded.Piece). goes_on p piece) is) ∙ after))

-- the piece of a range is as long as the range
pub piece_len-range : (is_write : Bool) (disk start len : ℕ) → piece_len (range_piece is_write disk start len) ≡ len
piece_len-range true disk start len = refl
piece_len-range false disk start len = refl

-- if neither a read nor a write is held, there is no held range
a_range : (is_write : Bool) (disk start len : ℕ) → IsNoRange (range_piece is_write disk start len) → ⊥
a_range true disk start len none = none
a_range false disk start len none = none

pub no_range : (range : Option DiskRange) (other : Option coded.Piece) → HoldsNoRange (held_of range other) → range ≡ None
no_range None other none = refl
no_range (Some range) other none = absurd (a_range range.letter range.disk range.start range.len none)

-- the line of a piece is the text of its units
text_run : (stack : Description) (number : ℕ) (first : BlockUnit) (len : ℕ) → 1 ≤ len → piece_text stack number (record { first = first; len = len }) ≡ pieces_text stack number (fewest (units_in first len))
text_run stack number first zero some = absurd (omega arith)
text_run stack number first (suc len) some =
    sym (ap (pieces_text stack number) (fewest-run first len) ∙ append-nil (piece_text stack number (record { first = first; len = suc len })))

pub held_text : (stack : Description) (number : ℕ) (piece : coded.Piece) → 1 ≤ piece_len piece → piece_text stack number (piece_view piece) ≡ pieces_text stack number (fewest (units_of piece))
held_text stack number piece some = text_run stack number (first_unit piece) (piece_len piece) some

-- the line of a piece, with the stack and number of what is held, is the text of its units
pub line_beside : (inside held : Pending) (piece : coded.Piece) → inside ≡ held → 1 ≤ piece_len piece → piece_text inside.stack inside.number (piece_view piece) ≡ pieces_text held.stack held.number (fewest (units_of piece))
line_beside inside held piece same some =
    cc (held_text inside.stack inside.number piece some)

-- the line of the held piece is the text of the held units
pub held_line : (inside held : Pending) (piece : coded.Piece) → inside ≡ held → inside.piece ≡ Some piece → IsHeld inside.stack inside.piece
    → piece_text inside.stack inside.number (piece_view piece) ≡ pieces_text held.stack held.number (fewest (held_units held.piece))
held_line inside held piece same is fits =
    cc (held_text inside.stack inside.number piece (subst (IsHeld inside.stack) is fits).0)

some_units : (unit : BlockUnit) (len : ℕ) → 1 ≤ len → HasUnits (units_in unit len)
some_units unit zero some = absurd (omega arith)
some_units unit (suc len) some = tt

-- the join failed while writing the held piece, which the next piece doesn't continue
pub left_apart : (old mid new : Pending) (piece : coded.Piece) (w0 w1 : List ℕ) → 1 ≤ piece_len piece → mid ≡ old → new ≡ record { stack = mid.stack; number = mid.number; piece = None }
    → ((rest : List BlockUnit) → fewest (held_units old.piece ++ units_of piece ++ rest) ≡ fewest (held_units old.piece) ++ fewest (units_of piece ++ rest))
    → IsCutShort (pieces_text mid.stack mid.number (fewest (held_units mid.piece))) (since w0 w1)
    → HasLeft old new (units_of piece) w0 w1
left_apart old mid new piece w0 w1 some same emptied apart cut = record {
  some = some_units (first_unit piece) (piece_len piece) some;
  beginning = λ rest.
      rw (apart rest, last_of_units (fewest (held_units old.piece)) (units_of piece ++ rest) (some_before (units_of piece) rest (some_units (first_unit piece) (piece_len piece) some)), flat_map-append (piece_text old.stack old.number) (fewest (held_units old.piece)) (all_but_last (fewest (units_of piece ++ rest)))) (beginning-before (pieces_text old.stack old.number (fewest (held_units old.piece))) _ (since w0 w1) (subst (λ (h : Pending). IsBeginning (pieces_text h.stack h.number (fewest (held_units h.piece))) (since w0 w1)) same (cut.0 ∷ cut.1, cut.2)));
  nothing = cc;
  stack = cc;
  number = cc;
}

-- Ranges of a row

-- whether one range continues another is whether its piece continues the other's
pub goes_on-range : (range next : DiskRange) (result : Bool) → result ≡ is_after (first_unit (piece_of range)) range.len (first_unit (piece_of next)) → goes_on (Some (piece_of range)) (piece_of next) ≡ result
goes_on-range range next result is = rw (piece_len-range range.letter range.disk range.start range.len) (sym is)

-- without a held range, neither a read nor a write is held
pub holds_none : (range : Option DiskRange) (other : Option coded.Piece) → range ≡ None → AreApart range other → HoldsNoRange (held_of range other)
holds_none None None is apart = tt
holds_none None (Some other) is apart = apart
holds_none (Some range) other is apart = absurd cc

-- no range continues a held piece that is neither a read nor a write
pub apart_from : (held : Option coded.Piece) (range : DiskRange) → HoldsNoRange held → goes_on held (piece_of range) ≡ false
apart_from held range none = other_apart held range.letter range.disk range.start range.len none
  where
    other_apart : (held : Option coded.Piece) (is_write : Bool) (disk start len : ℕ) → HoldsNoRange held → goes_on held (range_piece is_write disk start len) ≡ false
    other_apart (Some (kinds.Read from first n)) is_write disk start len none = absurd none
    other_apart (Some (kinds.Write from first n)) is_write disk start len none = absurd none
    other_apart (Some other) true disk start len none = refl
    other_apart held is_write disk start len none = refl

-- a join that lengthened the held piece took the piece that continues it
pub took_joined : (old new : Pending) (piece : coded.Piece) (w : List ℕ) → new.stack ≡ old.stack → new.number ≡ old.number → held_units new.piece ≡ held_units old.piece ++ units_of piece → HasTaken old new (units_of piece) w w
took_joined old new piece w stack number joined =
    record { settled = []; told = λ rest. ap (λ (us : List BlockUnit). fewest (us ++ rest)) (sym joined); wrote = since-same w; stack = stack; number = number }

-- a join that wrote the held piece and now holds the next one took that
pub took_apart : (old new : Pending) (piece : coded.Piece) (w0 w1 : List ℕ) → new.stack ≡ old.stack → new.number ≡ old.number → held_units new.piece ≡ units_of piece → IsHeld old.stack old.piece → 1 ≤ piece_len piece → goes_on old.piece piece ≡ false
    → since w0 w1 ≡ pieces_text old.stack old.number (fewest (held_units old.piece)) → HasTaken old new (units_of piece) w0 w1
took_apart old new piece w0 w1 stack number held fits some apart wrote = record {
  settled = fewest (held_units old.piece);
  told = λ rest. held_apart old.stack old.piece piece fits some apart rest ∙ ap (λ (us : List BlockUnit). fewest (held_units old.piece) ++ fewest (us ++ rest)) (sym held);
  wrote = wrote;
  stack = stack;
  number = number;
}
