-- A line read with a fault is no request, and a line read without one is the request that its fields describe.
use Rattle.dm_table.proofs.Prelude.{false, rules, arith, inl, inr, Form, Length, fields, is_length}
use Rattle.dm_table.proofs.requests.RequestLemmas.{described, unique, refused, read-said, fault-numbers, fault-length, no_length}
use Rattle.dm_table.proofs.requests.request_line.parse_request.Goals as goal
use Rattle.std.specs.Prelude.{◌≡◌}

pub returns-in_default-clause-only : goal.returns-in_default-clause-only
returns-in_default-clause-only c = λ values said. refused c.args.line.now values Form (search rules) said

pub returns-in_default-clause-unique : goal.returns-in_default-clause-unique
returns-in_default-clause-unique c = unique c.args.line.now

pub returns-in_default-two_numbers-clause-fault : goal.returns-in_default-two_numbers-clause-fault
returns-in_default-two_numbers-clause-fault c =
    let line = c.args.line.now in
    rw c.number_fault.ensures (fault-numbers line c.in-Some.op c.in-Some.device.now (fields c.in-Some.rest.now) c.in-Some.ensures.cut c.in-Some.ensures.named c.in_default-two_numbers.ensures.other)

pub returns-in_default-two_numbers-clause-only : goal.returns-in_default-two_numbers-clause-only
returns-in_default-two_numbers-clause-only c = λ values said. refused c.args.line.now values _ (returns-in_default-two_numbers-clause-fault c) said

pub returns-in_default-two_numbers-clause-unique : goal.returns-in_default-two_numbers-clause-unique
returns-in_default-two_numbers-clause-unique c = unique c.args.line.now

pub returns-then-len-eq0-clause-fault : goal.returns-then-len-eq0-clause-fault
returns-then-len-eq0-clause-fault c =
    let line = c.args.line.now in
    let read = c.in-Some-two_numbers in
    let out : is_length read.len ≡ false = elim c.then-len-eq0.either [
      | inl none ↦ no_length read.len (inl none)
      | inr more ↦ no_length read.len (inr more.1)
    ] in
    fault-length line c.in-Some.op c.in-Some.device.now (fields c.in-Some.rest.now) read.start read.len c.in-Some.ensures.cut c.in-Some.ensures.named read.ensures.cut out

pub returns-then-len-eq0-clause-only : goal.returns-then-len-eq0-clause-only
returns-then-len-eq0-clause-only c = λ values said. refused c.args.line.now values Length (returns-then-len-eq0-clause-fault c) said

pub returns-then-len-eq0-clause-unique : goal.returns-then-len-eq0-clause-unique
returns-then-len-eq0-clause-unique c = unique c.args.line.now

pub returns-clause-accepted : goal.returns-clause-accepted
returns-clause-accepted c =
    let read = c.in-Some-two_numbers in
    described c.args.line.now c.in-Some.op c.in-Some.device.now (fields c.in-Some.rest.now) read.start read.len c.in-Some.ensures.cut c.in-Some.ensures.named
    read.ensures.cut (omega arith) (omega arith)

pub returns-clause-read : goal.returns-clause-read
returns-clause-read c = read-said c.args.line.now _ (returns-clause-accepted c)

pub returns-clause-only : goal.returns-clause-only
returns-clause-only c = λ values said. unique c.args.line.now _ values (returns-clause-accepted c) said

pub returns-clause-unique : goal.returns-clause-unique
returns-clause-unique c = unique c.args.line.now
