-- The first spaces found in a text tell whether it has two nonempty fields.
use Rattle.dm_table.proofs.Prelude.{length, take, drop, sym, ap, ◌∙◌, arith, eqb-true, eqb-false, take_rest, length-take-le}
use Rattle.dm_table.proofs.words.FieldLemmas.{parts_at-found, parts_at-nowhere}
use Rattle.dm_table.proofs.requests.RequestLemmas.{two, two_first, two_last, two_more}
use Rattle.dm_table.proofs.requests.request_line.number_fault.Goals as goal
use Rattle.dm_table.proofs.requests.request_line.number_fault.Goals.{then-end-eq0-via-then-end-eq0, then-end-eq0-via-else-end-eq0+then-is_empty}
use Rattle.std.specs.Prelude.{◌≡◌, ◌≤◌, ◌<◌, ◌+◌}

pub returns-in_default : goal.returns-in_default
returns-in_default c = rw (parts_at-nowhere 32 c.args.text.now c.in_default.ensures)

pub returns-then-end-eq0 : goal.returns-then-end-eq0
returns-then-end-eq0 c =
    let text = c.args.text.now in
    let end = c.in-Some.end in
    let start = take end text in
    let rest = drop (end + 1) text in
    let cut = parts_at-found 32 text end c.in-Some.ensures in
    elim c.then-end-eq0.branch [
      | then-end-eq0-via-then-end-eq0 w ↦
          let long : length start ≡ end = length-take-le end text (omega (arith, w.if-end-eq0.true)) in
          let none : length start ≡ 0 = omega (arith, w.if-end-eq0.true) in
          rw (two_first text start rest cut none)
      | then-end-eq0-via-else-end-eq0+then-is_empty w ↦
          let empty = eqb-true _ _ (sym w.is_empty.ensures ∙ w.if-is_empty.true) in
          let none : length rest ≡ 0 = sym (ap length (take_rest text (end + 1))) ∙ empty in
          rw (two_last text start rest cut none)
    ]

pub returns-in-Some-memchr : goal.returns-in-Some-memchr
returns-in-Some-memchr c =
    let text = c.args.text.now in
    let end = c.in-Some.end in
    let rest = drop (end + 1) text in
    let next = c.in-Some-memchr.field-0 in
    let cut = parts_at-found 32 text end c.in-Some.ensures in
    let again = parts_at-found 32 rest next (rw take_rest at c.in-Some-memchr.ensures) in
    rw (two_more text (take end text) (take next rest) rest (drop (next + 1) rest) cut again)

pub returns-in-None : goal.returns-in-None
returns-in-None c =
    let text = c.args.text.now in
    let end = c.in-Some.end in
    let start = take end text in
    let rest = drop (end + 1) text in
    let cut = parts_at-found 32 text end c.in-Some.ensures in
    let last = parts_at-nowhere 32 rest (rw take_rest at c.in-None.ensures) in
    let below : end < length text = c.in-Some.ensures.0.high in
    let long : length start ≡ end = length-take-le end text (omega arith) in
    let some : 1 ≤ length start = omega (arith, c.if-end-eq0.false) in
    let filled = eqb-false _ _ (sym c.is_empty.ensures ∙ c.if-is_empty.false) in
    let some' : 1 ≤ length rest = omega (arith, filled, ap length (take_rest text (end + 1))) in
    rw (two text start rest cut last some some')
