-- A number that a space ends is the first field; if none is found, the first field is no number.
use Rattle.dm_table.proofs.Prelude.{take}
use Rattle.dm_table.proofs.requests.RequestLemmas.{number_stands, number_first}
use Rattle.dm_table.proofs.requests.request_line.first_number.Goals as goal

pub returns-in_err-number-clause-other : goal.returns-in_err-number-clause-other
returns-in_err-number-clause-other c = rw c.from_residual.ensures (λ field next more n cut read.
    let stands = number_stands c.args.text.now field next more n cut read in
    let other = c.in_err-number.ensures.other in
    cc)

pub returns-in_err-rest-clause-other : goal.returns-in_err-rest-clause-other
returns-in_err-rest-clause-other c = rw c.from_residual-in_err-rest.ensures (λ field next more n cut read.
    let stands = number_stands c.args.text.now field next more n cut read in
    c.in_err-rest.ensures.other stands.rest (rw c.in_ok-number.ensures.len stands.after))

pub returns-clause-cut : goal.returns-clause-cut
returns-clause-cut c =
    let field = take c.in_ok-number.len c.args.text.now in
    (field, number_first c.args.text.now field c.in_ok-rest.rest.now c.in_ok-number.number c.in_ok-rest.ensures.cut c.in_ok-number.ensures.number, c.in_ok-number.ensures.number)
