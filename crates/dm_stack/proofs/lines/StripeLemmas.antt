-- Stripes: each sector's column exists and has the sector in its share, and the next chunk is in the next column.
use Rattle.dm_stack.proofs.Prelude.{ℕ, false, List, Some, length, get_or, refl, sym, ap, arith, slice_get, row_fits, slice_get_read, div-lt_iff_lt-mul, ResolvedColumn, Description, lower_len, AreStripes, column_of, in_column, below_stripes, Lies, StripePosition, IsStripePosition, at_index}
use Rattle.std.specs.Prelude.{◌≡◌, ◌+◌, ◌-◌, ◌*◌, ◌/◌, ◌%◌, ◌<◌, ◌≤◌, ◌==◌}

-- the rest of a chunk lies in the column's share of the line
pub in_column_room : (chunk_size count column_len chunks len distance : ℕ) → 0 < chunk_size → 0 < count → len ≡ count * column_len → column_len ≡ chunks * chunk_size → distance < len
    → in_column chunk_size count distance + (chunk_size - distance % chunk_size) ≤ column_len
in_column_room chunk_size count column_len chunks len distance chunk_some count_some shares whole inside =
    let product : len ≡ chunks * count * chunk_size = rw (shares, whole) (omega arith) in
    let few : distance / chunk_size / count < chunks = (div-lt_iff_lt-mul count_some).1 ((div-lt_iff_lt-mul chunk_some).1 (omega arith)) in
    let room = row_fits (distance / chunk_size / count) chunk_size chunks chunk_size few (omega arith) in
    let left : distance % chunk_size < chunk_size = omega arith in
    rw whole (omega (arith, room, left))

-- consecutive sectors of a chunk are consecutive in one column
pub record IsInChunk (chunk_size distance i : ℕ) : Type 0 where
  pub number : (distance + i) / chunk_size ≡ distance / chunk_size
  pub position : (distance + i) % chunk_size ≡ distance % chunk_size + i

pub in_chunk : (chunk_size distance i : ℕ) → 0 < chunk_size → i < chunk_size - distance % chunk_size → IsInChunk chunk_size distance i
in_chunk chunk_size distance i some within = record { number = grind (arith, some, within); position = grind (arith, some, within) }

-- the column of a sector is one of the line's columns
pub column_got : (chunk_size distance : ℕ) (columns : List ResolvedColumn) (column : ResolvedColumn) → 0 < length columns → column ≡ get_or columns (column_of chunk_size (length columns) distance) column → slice_get columns (column_of chunk_size (length columns) distance) ≡ Some column
column_got chunk_size distance columns column some e =
    let position : column_of chunk_size (length columns) distance < length columns = omega arith in
    slice_get_read columns (length columns) _ column refl position e

-- the device or disk of a column has the rest of a chunk
pub column_inside : (stack : Description) (len chunk_size distance index : ℕ) (columns : List ResolvedColumn) (column : ResolvedColumn) → AreStripes stack len chunk_size columns → distance < len → slice_get columns index ≡ Some column
    → column.offset + in_column chunk_size (length columns) distance + (chunk_size - distance % chunk_size) ≤ lower_len stack column.to
column_inside stack len chunk_size distance index columns column stripes inside is =
    let share = at_index (λ c. c.offset + stripes.column_len ≤ lower_len stack c.to) columns index column stripes.inside is in
    let room = in_column_room chunk_size (length columns) stripes.column_len stripes.chunks len distance stripes.chunk_some stripes.some stripes.shares stripes.whole inside in
    omega (arith, share, room)

-- what lies below a sector of the rest of a chunk
pub below_chunk : (chunk_size distance i : ℕ) (columns : List ResolvedColumn) (column : ResolvedColumn) (position : StripePosition) → 0 < length columns → 0 < chunk_size → IsStripePosition chunk_size (length columns) distance position
    → i < chunk_size - position.past → column ≡ get_or columns position.column column → below_stripes chunk_size columns (distance + i) ≡ Lies column.to (column.offset + (position.chunk_start + position.past) + i)
below_chunk chunk_size distance i columns column position some chunk_some at within is =
    let left : i < chunk_size - distance % chunk_size = omega (arith, within, at.past) in
    let same = in_chunk chunk_size distance i chunk_some left in
    let there : column ≡ get_or columns (column_of chunk_size (length columns) (distance + i)) column = rw same.number (rw at.column at is) in
    let sum : in_column chunk_size (length columns) (distance + i) ≡ position.chunk_start + position.past + i = rw (same.number, same.position) (omega (arith, at.chunk_start, at.past)) in
    rw (column_got chunk_size (distance + i) columns column some there) (ap (Lies column.to) (rw sum (omega arith)))

-- The position of the next chunk

-- the distance of the first sector after a chunk
pub record IsAfter (chunk_size distance : ℕ) : Type 0 where
  pub number : (distance + (chunk_size - distance % chunk_size)) / chunk_size ≡ distance / chunk_size + 1
  pub past : (distance + (chunk_size - distance % chunk_size)) % chunk_size ≡ 0

pub after_chunk : (chunk_size distance : ℕ) → 0 < chunk_size → IsAfter chunk_size distance
after_chunk chunk_size distance some = record { number = grind (arith, some); past = grind (arith, some) }

-- the sector after the end of a chunk is in another chunk
pub other_chunk : (chunk_size at n : ℕ) → 0 < chunk_size → n ≡ chunk_size - at % chunk_size → ((at + n - 1) / chunk_size == (at + n) / chunk_size) ≡ false
other_chunk chunk_size at n some is = grind (arith, some, is)

-- the next chunk is in the next column
pub position_within : (chunk_size count distance : ℕ) (position : StripePosition) → 0 < chunk_size → IsStripePosition chunk_size count distance position → position.column + 1 < count
    → IsStripePosition chunk_size count (distance + (chunk_size - position.past)) (record { column = position.column + 1; chunk_start = position.chunk_start; past = 0 })
position_within chunk_size count distance position some at within =
    let next = after_chunk chunk_size distance some in
    let small : distance / chunk_size % count + 1 < count = omega (arith, within, at.column) in
    let quotient : (distance / chunk_size + 1) / count ≡ distance / chunk_size / count = grind (arith, small) in
    let rest : (distance / chunk_size + 1) % count ≡ distance / chunk_size % count + 1 = grind (arith, small) in
    rw at.past (record {
      column = rw (next.number, rest) (cc);
      chunk_start = rw (next.number, quotient) at.chunk_start;
      past = sym next.past;
    })

-- after the last column, the next chunk is in the first one
pub position_after : (chunk_size count distance : ℕ) (position : StripePosition) → 0 < chunk_size → IsStripePosition chunk_size count distance position → position.column + 1 ≡ count
    → IsStripePosition chunk_size count (distance + (chunk_size - position.past)) (record { column = 0; chunk_start = position.chunk_start + chunk_size; past = 0 })
position_after chunk_size count distance position some at last =
    let next = after_chunk chunk_size distance some in
    let filled : distance / chunk_size % count + 1 ≡ count = omega (arith, last, at.column) in
    let quotient : (distance / chunk_size + 1) / count ≡ distance / chunk_size / count + 1 = grind (arith, filled) in
    let rest : (distance / chunk_size + 1) % count ≡ 0 = grind (arith, filled) in
    rw at.past (record {
      column = rw (next.number, rest);
      chunk_start = rw (next.number, quotient) (omega (arith, at.chunk_start));
      past = sym next.past;
    })
