-- Lemmas about the content of a block up to the end of what was copied into it.
use Rattle.dm_table.proofs.Prelude.{ℕ, List, length, take, drop, slice_range, sym, append_assoc, arith, take-add, take-append-add, take-append_seam, take-take}
use Rattle.std.specs.Prelude.{◌≡◌, ◌+◌, ◌-◌, ◌≤◌, ◌++◌}

-- after the first `from` bytes of an array, the next part was copied: now the array's first `to` bytes are there
pub next_part : (at end from to : ℕ) (new old front part array : List ℕ) → from ≤ to → take at old ≡ front ++ take from array → take end new ≡ take at old ++ part → part ≡ slice_range array from to → take end new ≡ front ++ take to array
next_part at end from to new old front part array ordered before after is =
    let all : from + (to - from) ≡ to = omega arith in
    rw (after, before, append_assoc, is, ← take-add, all)

-- an array was copied whole, so the text at its front was copied too
pub array_text : (at end all len : ℕ) (new front array : List ℕ) → length front ≡ at → end ≡ at + all → len ≤ all → take end new ≡ front ++ take all array → take (at + len) new ≡ front ++ take len array
array_text at end all len new front array is ends fits put =
    let cut = sym (take-take (at + len) end new (omega (arith, ends, fits))) in
    let place : at + len ≡ length front + len = omega (arith, is) in
    rw (cut, put, place, take-append-add, take-take)

-- if bytes were copied at offset `at`, the front of the block is the old front followed by the bytes
pub bytes_front : (at : ℕ) (new old bytes rest : List ℕ) → take at new ≡ take at old → drop at new ≡ bytes ++ rest → take (at + length bytes) new ≡ take at old ++ bytes
bytes_front at new old bytes rest before after =
    rw (take-add, before, after, take-append_seam)

-- if the digits of a number were written up to offset `end`, the front of the block is the old front followed by the digits
pub digits_front : (at start end : ℕ) (new old digits rest : List ℕ) → end ≡ at + length digits → start + length digits ≡ end → take start new ≡ take start old → drop start new ≡ digits ++ rest → take end new ≡ take at old ++ digits
digits_front at start end new old digits rest is place before after =
    let same : start ≡ at = omega arith in
    cc (bytes_front at new old digits rest (rw same at before) (rw same at after))

-- if an output accepted a block's first `sent` bytes and then `taken` more, it accepted the first `sent + taken`
pub sent_more : (old mid new block : List ℕ) (sent len taken : ℕ) → taken ≤ len - sent → mid ≡ old ++ take sent block → new ≡ mid ++ take taken (slice_range block sent len) → new ≡ old ++ take (sent + taken) block
sent_more old mid new block sent len taken few so_far more =
    rw (more, so_far, append_assoc, take-take, take-add)

-- the bytes of a block that were passed on and those that moved to its front are together all of its bytes, in order
pub passed_on : (old mid block new : List ℕ) (sent len : ℕ) → sent ≤ len → mid ≡ old ++ take sent block → take (len - sent) new ≡ slice_range block sent len → mid ++ take (len - sent) new ≡ old ++ take len block
passed_on old mid block new sent len within passed moved =
    let all : sent + (len - sent) ≡ len = omega arith in
    rw (passed, append_assoc, moved, ← take-add, all)
