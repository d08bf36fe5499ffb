use Rattle.dm_table.proofs.Prelude.{[], suc, length, map, take, drop, sym, ap, ◌∙◌, arith, texts, lines_of, rest_of, with_rows, no_faults, noted_rows, row_fault}
use Rattle.dm_table.proofs.words.FieldLemmas.{line_found, no_line_found}
use Rattle.dm_table.proofs.load.ReadRows.{values_left, faults_left}
use Rattle.dm_table.proofs.load.reading.read_each.Goals as goal
use Rattle.std.specs.Prelude.{◌≡◌, ◌+◌, ◌-◌}

pub loop-end-preserved : goal.loop-end-preserved
loop-end-preserved g c =
    let form = g.T.FromRows in
    let fault = row_fault form.is_row form.has_values form.has_names in
    let text = c.loop-end.rest.now in
    let n = c.loop-end.number in
    let seen = c.loop-end.reading.faults in
    let after = c.split_at.result.1.now in
    let more = take (length after - 1) (drop 1 after) in
    let line = take c.in-Some.end text in
    let cut = texts c.deref.result.now in
    let a = line_found text after c.in-Some.end c.in-Some.ensures c.split_at.ensures.back in
    let next : n + 1 ≡ suc n = omega arith in
    let len : length (lines_of text) ≡ suc (length (lines_of more)) = rw a.0 in
    let first = ap (map form.row_of) a.0 in
    let is : cut ≡ form.row_of line = ap texts c.deref.ensures.value ∙ c.in_ok-cut_line.ensures ∙ ap form.row_of c.split_at.ensures.front in
    record {
      values =
          values_left form.with_row c.args.part (map form.row_of (lines_of text)) (map form.row_of (lines_of more)) (form.row_of line) cut n (n + 1) c.read_row-read.result seen c.note.new.self c.loop-end.reading.values.items c.read_row-read.new.values.items (with_rows form.with_row [] 1 (map form.row_of (lines_of c.args.text.now)))
          first next is c.read_row-read.ensures.values c.in_ok-note.ensures.text c.in_ok-note.ensures.noted c.loop-end.invariant.values;
      faults =
          faults_left c.args.part fault (map form.row_of (lines_of text)) (map form.row_of (lines_of more)) (form.row_of line) cut n (n + 1) c.read_row-read.result seen c.note.new.self (noted_rows c.args.part fault no_faults 1 (map form.row_of (lines_of c.args.text.now)))
          first next is c.read_row-read.ensures.fault c.in_ok-note.ensures.text c.in_ok-note.ensures.noted c.loop-end.invariant.faults;
      number = omega (arith, len, c.loop-end.invariant.number);
      rest = sym a.1 ∙ c.loop-end.invariant.rest;
      small = omega (arith, a.2, c.loop-end.invariant.small);
    }

pub returns-clause-faults : goal.returns-clause-faults
returns-clause-faults g c =
    let form = g.T.FromRows in
    let fault = row_fault form.is_row form.has_values form.has_names in
    let none = no_line_found c.loop-end.rest.now c.in_default.ensures in
    let faults : c.loop-end.reading.faults ≡ noted_rows c.args.part fault no_faults 1 (map form.row_of (lines_of c.args.text.now)) = rw none.0 at c.loop-end.invariant.faults in
    let len : length (lines_of c.loop-end.rest.now) ≡ 0 = cc in
    let number : c.loop-end.number ≡ length (lines_of c.args.text.now) + 1 = omega (arith, len, c.loop-end.invariant.number) in
    let rest : c.loop-end.rest.now ≡ rest_of c.args.text.now = sym none.1 ∙ c.loop-end.invariant.rest in
    c.note_rest.ensures ∙ rw (faults, number, rest)
