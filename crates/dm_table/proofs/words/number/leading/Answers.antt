-- At most 19 digits are read, and their value is below 10^19.
use Rattle.dm_table.proofs.Prelude.{true, get_or, take, length, refl, sym, ap, inl, inr, ◌∙◌, arith, is_ascii_digit, prefix_len, prefix_len-drop_yes, prefix_len-drop_no, prefix_len-drop_all, length-prefix_len, length-take-le, Some, elements}
use Rattle.dm_table.proofs.words.NumberLemmas.{next_below, read_more, number_of-long, number_of-empty, number_of-zero, number_of-digits}
use Rattle.dm_table.proofs.words.number.leading.Goals.{then-loop-len-test+else-is_ascii_digit, else-loop-len-test, then-len-eq0-via-then-len-eq0, then-len-eq0-via-else-len-eq0+then-len-ne1}
use Rattle.dm_table.proofs.words.number.leading.Goals as goal
use Rattle.std.specs.Prelude.{◌≡◌, ◌<◌, ◌≢◌}

pub loop-len-init : goal.loop-len-init
loop-len-init c = record {
  read = record { short = omega arith; within = omega arith; digits = refl; value = refl };
  left = omega arith;
}

pub returns-then-len-eq19-clause-other : goal.returns-then-len-eq19-clause-other
returns-then-len-eq19-clause-other c =
    let text = c.args.text.now in
    let digit : is_ascii_digit (get_or text c.loop-len.len 0) ≡ true = sym c.is_ascii_digit.ensures.value ∙ c.if-is_ascii_digit.true in
    let more = prefix_len-drop_yes is_ascii_digit text c.loop-len.len 0 c.loop-len-test.true digit in
    number_of-long _ (omega (arith, length-prefix_len is_ascii_digit text, more, c.loop-len.invariant.left))

-- the value of the digits so far and one more fits 64 bits
pub overflow_mul-value : goal.overflow_mul-value
overflow_mul-value c =
    let digit = sym c.is_ascii_digit.ensures.value ∙ c.if-is_ascii_digit.true in
    let next = next_below c.args.text.now c.loop-len.len c.loop-len.invariant.read.digits digit c.loop-len-test.true (omega arith) in
    omega (arith, next, c.loop-len.invariant.read.value)

pub overflow_add-value : goal.overflow_add-value
overflow_add-value c =
    let digit = sym c.is_ascii_digit.ensures.value ∙ c.if-is_ascii_digit.true in
    let next = next_below c.args.text.now c.loop-len.len c.loop-len.invariant.read.digits digit c.loop-len-test.true (omega arith) in
    omega (arith, next, c.loop-len.invariant.read.value, c.from.ensures)

pub loop-len-preserved : goal.loop-len-preserved
loop-len-preserved c =
    let digit = sym c.is_ascii_digit.ensures.value ∙ c.if-is_ascii_digit.true in
    let more = prefix_len-drop_yes is_ascii_digit c.args.text.now c.loop-len.len 0 c.loop-len-test.true digit in
    record {
      read = rw c.from.ensures (read_more c.args.text.now c.loop-len.len c.loop-len.value c.loop-len.invariant.read digit c.loop-len-test.true (omega arith));
      left = omega (arith, more, c.loop-len.invariant.left);
    }

pub returns-then-len-eq0-clause-other : goal.returns-then-len-eq0-clause-other
returns-then-len-eq0-clause-other c =
    let text = c.args.text.now in
    let len = c.loop-len.len in
    let whole : prefix_len is_ascii_digit text ≡ len = elim c.loop-len-test.branch [
      | then-loop-len-test+else-is_ascii_digit w ↦
          let stop = prefix_len-drop_no is_ascii_digit text len 0 w.loop-len-test.true (sym w.is_ascii_digit.ensures.value ∙ w.if-is_ascii_digit.false) in
          omega (arith, stop, c.loop-len.invariant.left)
      | else-loop-len-test w ↦ let stop = prefix_len-drop_all is_ascii_digit text len w.loop-len-test.false in omega (arith, stop, c.loop-len.invariant.left)
    ] in
    elim c.then-len-eq0.branch [
      | then-len-eq0-via-then-len-eq0 w ↦ number_of-empty _ (omega (arith, length-prefix_len is_ascii_digit text, whole, w.if-len-eq0.true))
      | then-len-eq0-via-else-len-eq0+then-len-ne1 w ↦
          let same : get_or (take len text) 0 0 ≡ get_or text 0 0 = grind (arith, elements) in
          rw whole (number_of-zero (take len text) (same ∙ w.if-len-ne1.true.0) (omega (arith, length-take-le len text c.loop-len.invariant.read.within, w.if-len-ne1.true.1)))
    ]

pub returns-clause-number : goal.returns-clause-number
returns-clause-number c =
    let text = c.args.text.now in
    let len = c.loop-len.len in
    let long : length (take len text) ≡ len = length-take-le len text c.loop-len.invariant.read.within in
    let same : get_or (take len text) 0 0 ≡ get_or text 0 0 = grind (arith, elements) in
    let lead : 1 < length (take len text) → get_or (take len text) 0 0 ≢ 48 = λ more first. elim c.if-len-ne1.either [
      | inl alone ↦ absurd (omega (arith, alone.1, long))
      | inr other ↦ other (sym same ∙ first)
    ] in
    number_of-digits (take len text) (omega arith) (omega arith) lead c.loop-len.invariant.read.digits ∙ ap Some (sym c.loop-len.invariant.read.value)
