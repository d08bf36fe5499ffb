use Rattle.lvm_head.proofs.Prelude.{◌∙◌, Ok, Err, refl, arith, drop_more}
use Rattle.lvm_head.proofs.TextLemmas.{areas_done, areas_more}
use Rattle.lvm_head.proofs.head.read_areas.Goals as goal

pub loop-area-init : goal.loop-area-init
loop-area-init g c = record {
  listed = refl;
  still = λ held seen. seen;
  text = λ held seen. rw c.new-text.ensures.items refl;
}

pub returns-in-Err-clause-is : goal.returns-in-Err-clause-is
returns-in-Err-clause-is g c = λ held seen some.
    c.loop-area.invariant.text held (c.read_area.ensures.still held seen)
    ∙ areas_more (held c.args.disk) c.loop-area.text.items c.args.areas.now _ _ c.loop-area.area-index (Err c.in-Err.fault) (Err c.in-Err.fault) (drop_more c.args.areas.now c.loop-area.area-index _ c.loop-area-test.true) (c.in-Err.ensures.is held seen some) refl

pub returns-in-Err-same_text-clause-is : goal.returns-in-Err-same_text-clause-is
returns-in-Err-same_text-clause-is g c = λ held seen some.
    c.loop-area.invariant.text held (c.read_area.ensures.still held seen)
    ∙ areas_more (held c.args.disk) c.loop-area.text.items c.args.areas.now _ _ c.loop-area.area-index (Ok c.in-Ok.next.items) (Err c.in-Err-same_text.fault) (drop_more c.args.areas.now c.loop-area.area-index _ c.loop-area-test.true) (c.in-Ok.ensures.is held seen) (c.in-Err-same_text.ensures some)

pub loop-area-preserved : goal.loop-area-preserved
loop-area-preserved g c = record {
  listed = c.read_area.ensures.listed ∙ c.loop-area.invariant.listed;
  still = λ held seen. c.loop-area.invariant.still held (c.read_area.ensures.still held seen);
  text = λ held seen.
      c.loop-area.invariant.text held (c.read_area.ensures.still held seen)
      ∙ areas_more (held c.args.disk) c.loop-area.text.items c.args.areas.now _ _ c.loop-area.area-index (Ok c.in-Ok.next.items) (Ok c.in-Ok-same_text.text.items) (drop_more c.args.areas.now c.loop-area.area-index _ c.loop-area-test.true) (c.in-Ok.ensures.is held seen) c.in-Ok-same_text.ensures;
}

pub returns-clause-is : goal.returns-clause-is
returns-clause-is g c = λ held seen.
    c.loop-area.invariant.text held seen ∙ areas_done (held c.args.disk) c.loop-area.text.items c.args.areas.now c.loop-area.area-index (omega (arith, c.loop-area-test.false))
