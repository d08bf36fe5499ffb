use Rattle.lvm_text.proofs.Prelude.{rules, sym, ◌∙◌, ap, refl, arith, append-nil, is_end, views, element_view}
use Rattle.lvm_text.proofs.Cuts.{bad_here}
use Rattle.lvm_text.proofs.Elements.{begins, reached_more}
use Rattle.lvm_text.proofs.lexer.tokens_of.Goals as goal

pub returns-in_default : goal.returns-in_default
returns-in_default c =
    bad_here c.args.text.now c.loop-rest.line (views c.loop-rest.tokens.items) c.loop-rest.rest.now c.loop-rest.invariant.1.before
    (sym (ap is_end c.as_bytes.ensures.value) ∙ sym c.is_end.ensures ∙ c.loop-rest-test.true) (sym c.in_default.ensures)

pub newlines-line-requires : goal.newlines-line-requires
newlines-line-requires c = (c.in-Some.after.now, (begins c.loop-rest.rest.now (element_view c.in-Some.element) c.in-Some.after.now c.in-Some.ensures).1)

pub newlines-line-requires-in-Some-white_at : goal.newlines-line-requires-in-Some-white_at
newlines-line-requires-in-Some-white_at c = (c.in-Some-white_at.after.now, (begins c.loop-byte.rest.now _ c.in-Some-white_at.after.now c.in-Some-white_at.ensures).1)

pub overflow_add-line : goal.overflow_add-line
overflow_add-line c =
    let r = reached_more c.loop-rest.invariant.1 c.in-Some.ensures c.in_ok-keep.ensures c.newlines-line.ensures in
    omega (arith, r.0.most)

pub loop-byte-init : goal.loop-byte-init
loop-byte-init c = (search rules, (reached_more c.loop-rest.invariant.1 c.in-Some.ensures c.in_ok-keep.ensures c.newlines-line.ensures).0, omega arith)

pub loop-byte-smaller : goal.loop-byte-smaller
loop-byte-smaller c = (reached_more c.loop-byte.invariant.1 c.in-Some-white_at.ensures refl c.newlines-line-in-Some-white_at.ensures).1

pub loop-byte-preserved : goal.loop-byte-preserved
loop-byte-preserved c =
    let r = reached_more c.loop-byte.invariant.1 c.in-Some-white_at.ensures (sym (append-nil _)) c.newlines-line-in-Some-white_at.ensures in
    (search rules, r.0, omega (arith, r.1))

pub loop-rest-smaller : goal.loop-rest-smaller
loop-rest-smaller c =
    let r = reached_more c.loop-rest.invariant.1 c.in-Some.ensures c.in_ok-keep.ensures c.newlines-line.ensures in
    omega (arith, r.1)

pub loop-rest-preserved : goal.loop-rest-preserved
loop-rest-preserved c = (c.loop-byte.invariant.0, c.loop-byte.invariant.1)
