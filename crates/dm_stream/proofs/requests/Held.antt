-- The held range of a buffer: after a read, and after a line was removed.
use Rattle.dm_stream.proofs.Prelude.{ℕ, List, length, take, drop, slice_range, ap, ◌∙◌, arith, length-take, length-take-le, take-add, take-take, drop-drop, drop-take, since, since_is}
use Rattle.std.specs.Prelude.{◌≡◌, ◌+◌, ◌-◌, ◌<◌, ◌≤◌, ◌++◌}

-- a range keeps its bytes if all bytes before its end are kept
pub same_range : (new old held : List ℕ) (start len : ℕ) → take (start + len) new ≡ take (start + len) old → slice_range old start (start + len) ≡ held → slice_range new start (start + len) ≡ held
same_range new old held start len same e =
    let all : start + len - start ≡ len = omega arith in
    cc (drop-take start len new, drop-take start len old)

-- a read of no bytes adds nothing to the held bytes
pub none_after : (buffer held : List ℕ) (start len n : ℕ) → n ≡ 0 → slice_range buffer start (start + len) ≡ held → slice_range buffer start (start + len + n) ≡ held
none_after buffer held start len n none e =
    let all : start + len + n ≡ start + len = omega arith in
    cc

-- the held bytes after a read that adds some
pub refilled : (buffer held before after : List ℕ) (start len n : ℕ) → slice_range buffer start (start + len) ≡ held → after ≡ before ++ take n (drop (start + len) buffer) → slice_range buffer start (start + len + n) ≡ held ++ since before after
refilled buffer held before after start len n kept more =
    let all : start + len + n - start ≡ len + n = omega arith in
    let len_first : len ≡ start + len - start = omega arith in
    cc (take-add len n (drop start buffer), drop-drop len start buffer, since_is before after _ more)

-- the line at the front of the held bytes
pub line_at : (buffer held : List ℕ) (start end n : ℕ) → slice_range buffer start end ≡ held → n < length held → slice_range buffer start (start + n) ≡ take n held
line_at buffer held start end n e l =
    let short : n ≤ end - start = omega (arith, length-take (end - start) (drop start buffer), ap length e) in
    let same : start + n - start ≡ n = omega arith in
    cc (take-take n (end - start) (drop start buffer) short)

-- the held bytes after the first line and its newline were removed
pub after_line : (buffer held : List ℕ) (start end n : ℕ) → slice_range buffer start end ≡ held → n < length held → slice_range buffer (start + n + 1) end ≡ drop (n + 1) held
after_line buffer held start end n e l =
    let short : n + 1 ≤ end - start = omega (arith, length-take (end - start) (drop start buffer), ap length e) in
    let len = end - (start + n + 1) in
    let all : n + 1 + len ≡ end - start = omega arith in
    let place : start + n + 1 ≡ start + (n + 1) = omega arith in
    cc (drop-drop (n + 1) start buffer, drop-take (n + 1) len (drop start buffer))

-- the held bytes after the first line, given by its bytes, and its newline were removed
pub after_bytes : (buffer held : List ℕ) (start end n : ℕ) → slice_range buffer start end ≡ held → n < length held → slice_range buffer (start + n + 1) end ≡ drop (length (slice_range buffer start (start + n)) + 1) held
after_bytes buffer held start end n e l =
    let whole : length (slice_range buffer start (start + n)) ≡ n = ap length (line_at buffer held start end n e l) ∙ length-take-le n held (omega arith) in
    cc (after_line buffer held start end n e l)

-- the held bytes without the first `n`
pub without_front : (buffer held : List ℕ) (start end n : ℕ) → slice_range buffer start end ≡ held → start + n ≤ end → slice_range buffer (start + n) end ≡ drop n held
without_front buffer held start end n e within =
    let len = end - (start + n) in
    let all : n + len ≡ end - start = omega arith in
    cc (drop-drop n start buffer, drop-take n len (drop start buffer))
