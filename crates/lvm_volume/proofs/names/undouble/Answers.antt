use Rattle.lvm_volume.proofs.Prelude.{rules, ◌∙◌, ap, arith, string_bytes, undoubled}
use Rattle.lvm_volume.proofs.Splits.{undoubled_none, undoubled_step, undoubled_joined, undoubled-doubled}
use Rattle.lvm_volume.proofs.names.undouble.Goals as goal

pub loop-before-preserved : goal.loop-before-preserved
loop-before-preserved c =
    let x = c.in-Some.ensures.cases in
    let step = undoubled_step c.loop-before.rest.now c.in-Some.before.now c.in-Some.after.now x.0 x.1 x.2.0 x.2.1 x.3 x.4 x.6 in (
      undoubled_joined (undoubled c.args.text.now) (string_bytes c.loop-before.whole) (undoubled c.loop-before.rest.now) c.in-Some.before.now (undoubled c.in-Some.after.now) (string_bytes c.push_str.new.self) (string_bytes c.push.new.self)
          c.loop-before.invariant.0 step c.in_ok-push_str.ensures.bytes (rw (← c.in_ok-push.ensures.ascii (omega arith)) c.in_ok-push.ensures.bytes),
      search rules,
    )

text_is : goal.returns-clause-text
text_is c = rw (c.in_ok-push_str-2.ensures.bytes, ← undoubled_none c.loop-before.rest.now c.in_default.ensures.cases, ← c.loop-before.invariant.0)

pub returns-clause-text : goal.returns-clause-text
returns-clause-text = text_is

pub returns-clause-part : goal.returns-clause-part
returns-clause-part c = λ part e. text_is c ∙ ap undoubled e ∙ undoubled-doubled part
