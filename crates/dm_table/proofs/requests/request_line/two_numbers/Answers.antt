-- A text that is two numbers is its first field and, after a space, the second.
use Rattle.dm_table.proofs.Prelude.{sym, ap, ◌∙◌, [], Some, join_with_byte, fields, number_of}
use Rattle.dm_table.proofs.words.FieldLemmas.{join-parts_at}
use Rattle.dm_table.proofs.requests.RequestLemmas.{number_whole}
use Rattle.dm_table.proofs.requests.request_line.two_numbers.Goals as goal
use Rattle.std.specs.Prelude.{◌≡◌, ◌∷◌}

pub returns-in_err-len-clause-other : goal.returns-in_err-len-clause-other
returns-in_err-len-clause-other c = rw c.from_residual-in_err-len.ensures (λ m n read.
    let first = c.in_ok-start.ensures.cut in
    let rest = c.in_ok-start.rest.now in
    let row : first.0 ∷ fields rest ≡ read.start ∷ read.len ∷ [] = sym first.1 ∙ read.two in
    let one : fields rest ≡ read.len ∷ [] = cc in
    let whole : rest ≡ read.len = sym (join-parts_at 32 rest) ∙ ap (join_with_byte 32) one in
    let none = c.in_err-len.ensures in
    let some : number_of rest ≡ Some n = ap number_of whole ∙ read.last in
    cc)

pub returns-clause-cut : goal.returns-clause-cut
returns-clause-cut c =
    let first = c.in_ok-start.ensures.cut in
    let rest = c.in_ok-start.rest.now in
    let last : number_of rest ≡ Some c.in_ok-len.len = sym c.in_ok-len.ensures in
    record {
      start = first.0;
      len = rest;
      two = cc (number_whole rest c.in_ok-len.len last);
      first = first.2;
      last = last;
    }
