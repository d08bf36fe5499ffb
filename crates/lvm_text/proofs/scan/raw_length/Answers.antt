use Rattle.lvm_text.proofs.Prelude.{sym, ◌∙◌, arith}
use Rattle.lvm_text.proofs.Searches.{plus_zero, stop_at, quote_at, stopped_at, escape_at, ended_at}
use Rattle.lvm_text.proofs.scan.raw_length.Goals as goal
use Rattle.std.specs.Prelude.{◌+◌}

pub loop-plain-init : goal.loop-plain-init
loop-plain-init c = record { in_range = omega arith; same = plus_zero _ }

pub returns-then-bytes-at-eq34 : goal.returns-then-bytes-at-eq34
returns-then-bytes-at-eq34 c =
    quote_at c.args.bytes.now (c.loop-plain.at + c.in-Some.plain) (stop_at c.args.bytes.now c.loop-plain.at c.in-Some.plain c.loop-plain.invariant.same c.in-Some.ensures) c.if-bytes-at-eq34.true

pub returns-then-not-is_escape : goal.returns-then-not-is_escape
returns-then-not-is_escape c =
    stopped_at c.args.bytes.now (c.loop-plain.at + c.in-Some.plain) (stop_at c.args.bytes.now c.loop-plain.at c.in-Some.plain c.loop-plain.invariant.same c.in-Some.ensures)
    c.if-bytes-at-eq34.false (sym c.is_escape.ensures ∙ c.if-not-is_escape.true)

pub loop-plain-preserved : goal.loop-plain-preserved
loop-plain-preserved c =
    let h = escape_at c.args.bytes.now (c.loop-plain.at + c.in-Some.plain) (stop_at c.args.bytes.now c.loop-plain.at c.in-Some.plain c.loop-plain.invariant.same c.in-Some.ensures)
    (sym c.is_escape.ensures ∙ c.if-not-is_escape.false) in
    record { in_range = h.0; same = h.1 }

pub returns : goal.returns
returns c = ended_at c.args.bytes.now c.loop-plain.at c.loop-plain.invariant.same c.in_default.ensures
