-- Lemmas about the marks of a text: those of its parts, and the first of them.
use Rattle.dm_table.proofs.Prelude.{ℕ, suc, Bool, true, false, not, List, [], length, map, take, drop, Some, None, sym, ap, ◌∙◌, arith, mul_assoc, pow_pos, pow_mono, pos_of_ne-zero, bit_or, prefix_len, not-false, not-true, common_steps, drop-map, drop-drop, take-append-drop, take-map, take_rest, length-map, prefix_len_passes, prefix_len_stops, or_shifted, leading_from_mask_l, mask_l-lt, trailing_mask_l, add-mul-div_left, div-eq_of_lt, mul_comm, pow-succ', marks_of, IsFirstByte, is_byte}
use Rattle.std.specs.Prelude.{◌≡◌, ◌≢◌, ◌+◌, ◌-◌, ◌*◌, ◌%◌, ◌^◌, ◌<◌, ◌≤◌, ◌∷◌, ◌++◌, ◌/◌, ◌==◌}
use lib.Count.{count_trailing_zeros}
use lib.Lanes.{mask_l}

-- ---- the marks of parts of a text

pub mask_append : (ms ns : List Bool) → mask_l (ms ++ ns) ≡ mask_l ms + 2 ^ length ms * mask_l ns
mask_append [] ns = omega arith
mask_append (m ∷ ms) ns =
    let twice : 2 ^ suc (length ms) * mask_l ns ≡ 2 * (2 ^ length ms * mask_l ns) = ap (λ x. x * mask_l ns) (pow-succ' 2 (length ms)) ∙ mul_assoc 2 (2 ^ length ms) (mask_l ns) in
    omega (arith, mask_append ms ns, twice)

-- the marks after the first n
mask_rest : (ms : List Bool) (n : ℕ) → n ≤ length ms → mask_l ms / 2 ^ n ≡ mask_l (drop n ms)
mask_rest ms n within =
    let long : length (take n ms) ≡ n = grind (arith, common_steps) in
    let whole : mask_l ms ≡ mask_l (take n ms) + 2 ^ n * mask_l (drop n ms) = ap mask_l (sym (take-append-drop n ms)) ∙ mask_append (take n ms) (drop n ms) ∙ ap (λ x. mask_l (take n ms) + 2 ^ x * mask_l (drop n ms)) long in
    let small : mask_l (take n ms) < 2 ^ n = rw long at (mask_l-lt (take n ms)) in
    ap (λ x. x / 2 ^ n) whole ∙ add-mul-div_left (mask_l (take n ms)) (mask_l (drop n ms)) (pow_pos n) ∙ omega (arith, div-eq_of_lt small)

-- the marks of a text from those of its first `half` bytes and of its last `half` bytes
pub joined_marks : (half len first last : ℕ) (ms : List Bool) → half ≤ 32 → half ≤ len → len ≤ 2 * half → length ms ≡ len → first ≡ mask_l (take half ms) → last ≡ mask_l (drop (len - half) ms)
    → bit_or (last / 2 ^ (2 * half - len) * 2 ^ half % 2 ^ 64) first ≡ mask_l ms
joined_marks half len first last ms most enough all long front back =
    let end : length (drop (len - half) ms) ≡ half = grind (arith, common_steps, long) in
    let places : 2 * half - len + (len - half) ≡ half = omega arith in
    let rest : last / 2 ^ (2 * half - len) ≡ mask_l (drop half ms) =
    ap (λ x. x / 2 ^ (2 * half - len)) back ∙ mask_rest (drop (len - half) ms) (2 * half - len) (omega arith) ∙ ap mask_l (drop-drop (2 * half - len) (len - half) ms ∙ ap (λ n. drop n ms) (omega (arith, places))) in
    let taken : length (take half ms) ≡ half = grind (arith, common_steps, long) in
    let whole : mask_l ms ≡ mask_l (take half ms) + 2 ^ half * mask_l (drop half ms) = ap mask_l (sym (take-append-drop half ms)) ∙ mask_append (take half ms) (drop half ms) ∙ ap (λ x. mask_l (take half ms) + 2 ^ x * mask_l (drop half ms)) taken in
    let below : mask_l ms < 2 ^ 64 = omega (arith, mask_l-lt ms, rw long at (mask_l-lt ms), pow_mono {i = len} {j = 64} (omega arith)) in
    let swapped : 2 ^ half * mask_l (drop half ms) ≡ mask_l (drop half ms) * 2 ^ half = mul_comm _ _ in
    let kept : mask_l (drop half ms) * 2 ^ half % 2 ^ 64 ≡ mask_l (drop half ms) * 2 ^ half = omega (arith, whole, below, swapped) in
    let small : mask_l (take half ms) < 2 ^ half = rw taken at (mask_l-lt (take half ms)) in
    rw (rest, front, kept) (or_shifted (mask_l (drop half ms)) half (mask_l (take half ms)) small ∙ omega (arith, whole, swapped))

-- the marks of the first n bytes; and below, of the bytes after them
pub front_marks : (c : ℕ) (text : List ℕ) (n : ℕ) → marks_of c (take n text) ≡ mask_l (take n (map (λ byte. byte == c) text))
front_marks c text n = ap mask_l (sym (take-map _ n text))

pub back_marks : (c : ℕ) (text : List ℕ) (n : ℕ) → marks_of c (take (length text - n) (drop n text)) ≡ mask_l (drop n (map (λ byte. byte == c) text))
back_marks c text n = ap (marks_of c) (take_rest text n) ∙ ap mask_l (sym (drop-map _ n text))

-- ---- the first mark of a text

-- if there is a mark, it is within the text
pub mark_within : {X : Type 0} (p : X → Bool) (xs : List X) → 0 < mask_l (map p xs) → prefix_len (λ x. not (p x)) xs < length xs
mark_within p [] some = absurd (omega (arith, some))
mark_within p (x ∷ xs) some = grind (arith, some, mark_within p xs)

-- the first byte c comes right after the longest prefix without a c
first_by_prefix : (c : ℕ) (text : List ℕ) → prefix_len (λ byte. not (byte == c)) text < length text → IsFirstByte (is_byte c) text (Some (prefix_len (λ byte. not (byte == c)) text))
first_by_prefix c text within = (
  record {
    low = omega arith;
    high = within;
    before = λ k low below is.
        let other = prefix_len_passes (λ byte. not (byte == c)) text k 0 below in
        absurd (let no : false ≡ true = sym (not-true _ other) ∙ is in cc);
  },
  not-false _ (prefix_len_stops (λ byte. not (byte == c)) text 0 within),
)

-- if there is a mark, the lowest one is the position that a search for c finds
pub marked_first : (c : ℕ) (text : List ℕ) (left : ℕ) → length text ≤ 64 → left ≡ marks_of c text → left ≢ 0 → IsFirstByte (is_byte c) text (Some (count_trailing_zeros 64 left))
marked_first c text left short is some =
    let positive : 0 < mask_l (map (λ byte. byte == c) text) = pos_of_ne-zero (λ none. some (is ∙ none)) in
    let at : count_trailing_zeros 64 left ≡ prefix_len (λ byte. not (byte == c)) text = ap (count_trailing_zeros 64) is ∙ trailing_mask_l (λ byte. byte == c) 64 text short positive in
    rw at (first_by_prefix c text (mark_within (λ byte. byte == c) text positive))

-- if there is no mark, a search for c finds nothing
pub marked_none : (c : ℕ) (text : List ℕ) → marks_of c text ≡ 0 → IsFirstByte (is_byte c) text None
marked_none c text none = λ k low below is.
    let all : prefix_len (λ byte. not (byte == c)) text ≡ length text = leading_from_mask_l (λ byte. byte == c) text none in
    let other = prefix_len_passes (λ byte. not (byte == c)) text k 0 (omega (arith, all, below)) in
    absurd (let no : false ≡ true = sym (not-true _ other) ∙ is in cc)

-- the marks of the text after position n
pub marks_after : (c : ℕ) (text : List ℕ) (n : ℕ) → n < length text → marks_of c text / 2 ^ n / 2 ^ 1 ≡ marks_of c (drop (n + 1) text)
marks_after c text n within =
    let long = length-map text (λ byte. byte == c) in
    let one : marks_of c text / 2 ^ n ≡ marks_of c (drop n text) = mask_rest (map (λ byte. byte == c) text) n (omega (arith, long)) ∙ ap mask_l (drop-map _ n text) in
    let left : 1 ≤ length (drop n text) = grind (arith, common_steps) in
    let longer = length-map (drop n text) (λ byte. byte == c) in
    ap (λ x. x / 2 ^ 1) one ∙ mask_rest (map (λ byte. byte == c) (drop n text)) 1 (omega (arith, longer, left)) ∙ ap mask_l (drop-map _ 1 (drop n text)) ∙ ap (marks_of c) (drop-drop 1 n text)
