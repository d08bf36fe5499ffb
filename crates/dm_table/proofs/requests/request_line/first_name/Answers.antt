-- A device name that a space ends is the first field; if none is found, the first field is no device name.
use Rattle.dm_table.proofs.Prelude.{take, ap, ◌∙◌, fields}
use Rattle.dm_table.proofs.words.ByteLemmas.{plain-device_name}
use Rattle.dm_table.proofs.words.FieldLemmas.{parts_at-first}
use Rattle.dm_table.proofs.requests.RequestLemmas.{name_stands}
use Rattle.dm_table.proofs.requests.request_line.first_name.Goals as goal

pub returns-in_err-len-clause-other : goal.returns-in_err-len-clause-other
returns-in_err-len-clause-other c = rw c.from_residual.ensures (λ name next more cut named.
    let stands = name_stands c.args.text.now name next more cut named in
    let other = c.in_err-len.ensures.other in
    cc)

pub returns-in_err-rest-clause-other : goal.returns-in_err-rest-clause-other
returns-in_err-rest-clause-other c = rw c.from_residual-in_err-rest.ensures (λ name next more cut named.
    let stands = name_stands c.args.text.now name next more cut named in
    c.in_err-rest.ensures.other stands.rest (rw c.in_ok-len.ensures.len stands.after))

pub returns-clause-cut : goal.returns-clause-cut
returns-clause-cut c =
    let text = c.args.text.now in
    let name = take c.in_ok-len.len text in
    rw c.ascii_str.ensures (ap fields c.in_ok-rest.ensures.cut ∙ parts_at-first 32 name c.in_ok-rest.rest.now (plain-device_name name c.in_ok-len.ensures.name).clear)
