-- Lemmas about the bytes of a text, read in consecutive pieces, and about the texts of areas.
use Rattle.lvm_head.proofs.Prelude.{inl, inr, true, ℕ, zero, suc, List, [], Result, Ok, Err, length, take, drop, get_or, refl, sym, ap, ◌∙◌, arith, le-suc_iff, get_or-drop, get_or-take, take-suc, append-nil, append_assoc, drop_all, take_all, Area, HeadFault, ReadFault, AreRead, Sectors, ◌>>=◌, answer, sector_in, areas_text, same_text, is_header, is_near, location_in, area_text, byte_at, gathered, text_at}
use Rattle.std.specs.Prelude.{◌≡◌, ◌+◌, ◌-◌, ◌*◌, ◌<◌, ◌≤◌, ◌/◌, ◌%◌, ◌∷◌, ◌++◌}

-- ---- one sector

pub one_read : (sectors : Sectors) (from : ℕ) (result : Result (Unit {0}) ReadFault) (bytes : List ℕ) → length bytes ≡ 512 → AreRead sectors from result bytes → sectors from ≡ answer result bytes
one_read sectors from (Ok done) bytes len read =
    let at : from + 0 ≡ from = omega arith in
    ap sectors (sym at) ∙ read 0 (omega (arith, len)) ∙ ap Ok (take_all 512 bytes (omega (arith, len)))
one_read sectors from (Err fault) bytes len unread = unread len

-- ---- the bytes of a text

pub gathered_none : (byte : ℕ → Result ℕ HeadFault) (bytes : List ℕ) → bytes ≡ [] → gathered byte 0 ≡ Ok bytes
unfolding gathered
gathered_none byte bytes none = rw none refl

gathered_first : (byte : ℕ → Result ℕ HeadFault) (n k : ℕ) (bytes part : List ℕ) → gathered byte n ≡ Ok bytes → k ≤ length part → ((i : ℕ) → i < length part → byte (n + i) ≡ Ok (get_or part i 0)) → gathered byte (n + k) ≡ Ok (bytes ++ take k part)
unfolding gathered
gathered_first byte n zero bytes part before within are = let k : n + 0 ≡ n = omega arith in rw k (before ∙ ap Ok (sym (append-nil bytes)))
gathered_first byte n (suc k) bytes part before within are =
    let next : n + suc k ≡ suc (n + k) = omega arith in
    rw (next, gathered_first byte n k bytes part before (omega (arith, within)) are, are k (omega (arith, within)))
    (ap Ok (append_assoc bytes (take k part) (get_or part k 0 ∷ []) ∙ ap (λ more. bytes ++ more) (sym (take-suc part k 0 (omega (arith, within))))))

-- if the first n bytes were read and `part` is the next `count` bytes, the first n + count bytes are the two joined
pub gathered_row : (byte : ℕ → Result ℕ HeadFault) (n count : ℕ) (bytes part : List ℕ) → gathered byte n ≡ Ok bytes → length part ≡ count → ((i : ℕ) → i < count → byte (n + i) ≡ Ok (get_or part i 0)) → gathered byte (n + count) ≡ Ok (bytes ++ part)
gathered_row byte n count bytes part before len are =
    gathered_first byte n count bytes part before (omega (arith, len)) (λ i less. are i (omega (arith, less, len)))
    ∙ ap (λ all. Ok (bytes ++ all)) (take_all count part (omega (arith, len)))

pub gathered_fault : (byte : ℕ → Result ℕ HeadFault) (n m : ℕ) (bytes : List ℕ) (fault : HeadFault) → gathered byte n ≡ Ok bytes → byte n ≡ Err fault → n < m → gathered byte m ≡ Err fault
unfolding gathered
gathered_fault byte n zero bytes fault before here below = absurd (omega (arith, below))
gathered_fault byte n (suc m) bytes fault before here below = elim (le-suc_iff.0 below) as (λ _. (gathered byte m >>= (λ xs. byte m >>= (λ x. Ok (xs ++ x ∷ [])))) ≡ Err fault) [
  | inl less ↦ rw (gathered_fault byte n m bytes fault before here less) refl
  | inr same ↦ let k : m ≡ n = omega (arith, same) in rw (k, before, here) refl
]

-- a byte of a place is the byte in a block of sectors that were read
byte_of : (sectors : Sectors) (place i k j : ℕ) (block : List ℕ) → sectors (place / 512 + k) ≡ Ok (sector_in block k) → place % 512 + i ≡ 512 * k + j → j < 512 → byte_at sectors (place + i) ≡ Ok (get_or block (place % 512 + i) 0)
byte_of sectors place i k j block is at inside =
    let sector : (place + i) / 512 ≡ place / 512 + k = omega (arith, at, inside) in
    let index : (place + i) % 512 ≡ j = omega (arith, at, inside) in
    let wide : 512 * k + 512 - 512 * k ≡ 512 = omega arith in
    let same : get_or (sector_in block k) j 0 ≡ get_or block (512 * k + j) 0 = rw wide (get_or-take 512 (drop (512 * k) block) j 0 inside ∙ get_or-drop (512 * k) block j 0) in
    rw (sector, index, is, at) (ap Ok same)

pub byte_read : (sectors : Sectors) (place i count : ℕ) (block : List ℕ) → ((k : ℕ) → k < count → sectors (place / 512 + k) ≡ Ok (sector_in block k)) → place % 512 + i < 512 * count → byte_at sectors (place + i) ≡ Ok (get_or block (place % 512 + i) 0)
byte_read sectors place i count block are inside =
    byte_of sectors place i ((place % 512 + i) / 512) ((place % 512 + i) % 512) block (are ((place % 512 + i) / 512) (omega (arith, inside))) (omega arith) (omega arith)

-- ---- the texts of areas

pub area_known : (sectors : Sectors) (area : Area) (bytes : List ℕ) → is_near area ≡ true → sectors (area.start / 512) ≡ Ok bytes → is_header area bytes ≡ true → area_text sectors area ≡ text_at sectors area.start (location_in bytes)
area_known sectors area bytes near read sound = rw (near, read, sound) refl

-- the common text after one more area
pub areas_more : (sectors : Sectors) (text : List ℕ) (areas later : List Area) (area : Area) (i : ℕ) (said after : Result (List ℕ) HeadFault) → drop i areas ≡ area ∷ later → area_text sectors area ≡ said → (said >>= same_text text) ≡ after
    → areas_text sectors text (drop i areas) ≡ (after >>= (λ next. areas_text sectors next later))
unfolding areas_text
areas_more sectors text areas later area i said after here is same = rw (here, is, same) refl

pub areas_done : (sectors : Sectors) (text : List ℕ) (areas : List Area) (i : ℕ) → length areas ≤ i → areas_text sectors text (drop i areas) ≡ Ok text
unfolding areas_text
areas_done sectors text areas i all = rw (drop_all i areas all) refl
