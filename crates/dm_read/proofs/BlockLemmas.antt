-- The sectors of a block, part of which is overwritten.
use Rattle.dm_read.proofs.Prelude.{ℕ, List, length, take, drop, replicate, length-append, length-drop, sym, ap, ◌∙◌, arith, drop-append-le, drop-drop, drop-take, drop_at, length-replicate, length-take-le, replicate-append-replicate, take-append-le, take_at, sector_in, zeros, AreKept}
use Rattle.std.proofs.lemmas.Slice.{take-put_mid_below}
use Rattle.std.specs.Prelude.{◌≡◌, ◌+◌, ◌-◌, ◌*◌, ◌<◌, ◌≤◌, ◌++◌}
use borrow.Rule.Slice.PartMut.{put_mid}

pub sector_is : (bytes : List ℕ) (i : ℕ) → sector_in bytes i ≡ take 512 (drop (512 * i) bytes)
sector_is bytes i =
    let e : 512 * i + 512 - 512 * i ≡ 512 = omega arith in
    ap (λ (n : ℕ). take n (drop (512 * i) bytes)) e

-- a sector before the overwritten part keeps its bytes
pub before_part : (xs ys : List ℕ) (at k i : ℕ) → i < at → 512 * at ≤ length xs → sector_in (put_mid (512 * at) k xs ys) i ≡ sector_in xs i
before_part xs ys at k i less within =
    let new : List ℕ = put_mid (512 * at) k xs ys in
    sector_is new i ∙ sym (drop-take (512 * i) 512 new)
    ∙ ap (λ (zs : List ℕ). drop (512 * i) zs) (take-put_mid_below (512 * at) k xs ys (512 * i + 512) (omega (arith, less)) within)
    ∙ drop-take (512 * i) 512 xs ∙ sym (sector_is xs i)

-- a sector in the overwritten part has the bytes that were written there
pub in_part : (xs ys : List ℕ) (at k count i : ℕ) → i < count → 512 * at ≤ length xs → length ys ≡ 512 * count → sector_in (put_mid (512 * at) k xs ys) (at + i) ≡ sector_in ys i
in_part xs ys at k count i less within len =
    let post : List ℕ = drop k (drop (512 * at) xs) in
    let new : List ℕ = put_mid (512 * at) k xs ys in
    let e : 512 * (at + i) ≡ 512 * at + 512 * i = omega arith in
    let front : length (take (512 * at) xs) ≡ 512 * at = length-take-le (512 * at) xs within in
    let some : 512 * i ≤ length ys = omega (arith, less, len) in
    let left = length-drop (512 * i) ys in
    sector_is new (at + i)
    ∙ ap (λ (n : ℕ). take 512 (drop n new)) e
    ∙ ap (λ (zs : List ℕ). take 512 zs) (sym (drop-drop (512 * i) (512 * at) new))
    ∙ ap (λ (zs : List ℕ). take 512 (drop (512 * i) zs)) (drop_at (take (512 * at) xs) (ys ++ post) (512 * at) front)
    ∙ ap (λ (zs : List ℕ). take 512 zs) (drop-append-le (512 * i) ys post some)
    ∙ take-append-le 512 (drop (512 * i) ys) post (omega (arith, left, len, less))
    ∙ sym (sector_is ys i)

-- each sector of a list of zeros is a sector of zeros
pub cleared : (count i : ℕ) → i < count → sector_in (replicate (512 * count) 0) i ≡ zeros
cleared count i less =
    let rest : ℕ = 512 * (count - i - 1) in
    let e : 512 * count ≡ 512 * i + (512 + rest) = omega (arith, less) in
    let parts : replicate (512 * count) 0 ≡ replicate (512 * i) 0 ++ (replicate 512 0 ++ replicate rest 0) =
    ap (λ (n : ℕ). replicate {A = ℕ} n 0) e ∙ sym (replicate-append-replicate {A = ℕ} (512 * i) (512 + rest) 0) ∙ ap (λ (zs : List ℕ). replicate (512 * i) 0 ++ zs) (sym (replicate-append-replicate {A = ℕ} 512 rest 0)) in
    sector_is (replicate (512 * count) 0) i
    ∙ ap (λ (zs : List ℕ). take 512 (drop (512 * i) zs)) parts
    ∙ ap (λ (zs : List ℕ). take 512 zs) (drop_at (replicate (512 * i) 0) (replicate 512 0 ++ replicate rest 0) (512 * i) (length-replicate {A = ℕ} (512 * i) 0))
    ∙ take_at (replicate 512 0) (replicate rest 0) 512 (length-replicate {A = ℕ} 512 0)

-- overwriting part of a block keeps the sectors before it, and the block's length
pub part_kept : (xs ys : List ℕ) (at count : ℕ) → 512 * (at + count) ≤ length xs → length ys ≡ 512 * count → AreKept at xs (put_mid (512 * at) (512 * at + 512 * count - 512 * at) xs ys)
part_kept xs ys at count within len =
    let k : ℕ = 512 * at + 512 * count - 512 * at in
    let e : k ≡ 512 * count = omega arith in
    let front = length-take-le (512 * at) xs (omega (arith, within)) in
    let post = length-drop k (drop (512 * at) xs) in
    let tail = length-drop (512 * at) xs in
    let whole = length-append (take (512 * at) xs) (ys ++ drop k (drop (512 * at) xs)) in
    let back = length-append ys (drop k (drop (512 * at) xs)) in
    record {
      each = λ i less. before_part xs ys at k i less (omega (arith, within));
      len = omega (arith, whole, back, front, post, tail, len, within, e);
    }

-- how many bytes the overwritten part has
pub part_len : (xs : List ℕ) (at count : ℕ) → 512 * (at + count) ≤ length xs → length (take (512 * at + 512 * count - 512 * at) (drop (512 * at) xs)) ≡ 512 * count
part_len xs at count within =
    let k : ℕ = 512 * at + 512 * count - 512 * at in
    let e : k ≡ 512 * count = omega arith in
    let tail = length-drop (512 * at) xs in
    length-take-le k (drop (512 * at) xs) (omega (arith, within, tail, e)) ∙ e
