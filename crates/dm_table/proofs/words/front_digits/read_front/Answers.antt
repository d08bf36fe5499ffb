use Rattle.dm_table.proofs.Prelude.{Some, ℕ, zero, suc, inl, inr, List, [], get_or, length, map, take, sym, ap, ◌∙◌, arith, length-take-le, number_from_digits, elements, digits_value_is, take-take, take-map, number_of}
use Rattle.std.specs.Prelude.{◌≡◌, ◌≢◌, ◌+◌, ◌%◌, ◌<◌, ◌≤◌, ◌∷◌}
use lib.Lanes.{Each1}
use Rattle.dm_table.proofs.words.LaneDigits.{digits_from_lanes, values_from_lanes}
use Rattle.dm_table.proofs.words.NumberLemmas.{number_of-digits}
use Rattle.dm_table.proofs.words.front_digits.read_front.Goals as goal

bytes_in_front : (n : ℕ) (text : List ℕ) → ((i : ℕ) → get_or text i 0 < 256) → (i : ℕ) → get_or (take n text) i 0 < 256
bytes_in_front zero text all i = omega arith
bytes_in_front (suc n) [] all i = all i
bytes_in_front (suc n) (byte ∷ text) all zero = all 0
bytes_in_front (suc n) (byte ∷ text) all (suc i) = bytes_in_front n text (λ k. all (suc k)) i

-- the number that the first lanes spell, if they are digits
number_of-lanes : (text front lanes : List ℕ) (len value : ℕ) → front ≡ take 16 text → lanes ≡ map (λ byte. (byte + 208) % 256) front → ((i : ℕ) → get_or text i 0 < 256) → 16 ≤ length text → 1 ≤ len → len < 16 → Each1 (λ digit. digit < 10) (take len lanes) → value ≡ number_from_digits 10 (take len lanes) → (1 < len → get_or front 0 0 ≢ 48) → number_of (take len text) ≡ Some value
number_of-lanes text front lanes len value front_is lanes_are within room some few digits is lead =
    let less = λ (byte : ℕ). (byte + 208) % 256 in
    let same : take len front ≡ take len text = cc (take-take len 16 text (omega arith)) in
    let bytes : take len lanes ≡ map less (take len text) = cc (take-map less len front) in
    let all = digits_from_lanes (take len text) (bytes_in_front len text within) (rw bytes at digits) in
    let long : length (take len text) ≡ len = length-take-le len text (omega arith) in
    let first : get_or (take len text) 0 0 ≡ get_or text 0 0 = grind (arith, elements) in
    let second : get_or (take 16 text) 0 0 ≡ get_or text 0 0 = grind (arith, elements) in
    number_of-digits (take len text) (omega arith) (omega arith) (λ more zero_first. lead (omega (arith, long, more)) (cc)) all
    ∙ ap Some (sym (is ∙ ap (number_from_digits 10) (bytes ∙ values_from_lanes (take len text) all) ∙ sym (digits_value_is 10 (take len text))))

pub returns-clause-number : goal.returns-clause-number
returns-clause-number c =
    number_of-lanes c.args.text.now c.as_array-front.result.now c.less_zero-digits.result c.in_ok-len.len c.number_ahead.result c.as_array-front.ensures c.less_zero-digits.ensures
    (λ i. (c.type_inv.text i).fits)
    c.requires
    (omega (arith, c.if-len-eq0.false))
    c.in_ok-len.ensures.within
    c.in_ok-len.ensures.digits
    c.number_ahead.ensures
    (λ more zero_first. elim c.if-len-ne1.either [
      | inl alone ↦ absurd (omega (arith, alone.1, more))
      | inr other ↦ other zero_first
    ])
