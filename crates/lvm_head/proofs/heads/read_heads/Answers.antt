use Rattle.lvm_head.proofs.Prelude.{Ok, Err, refl, ◌∙◌, arith}
use Rattle.lvm_head.proofs.HeadsLemmas.{heads_done, heads_more}
use Rattle.lvm_head.proofs.heads.read_heads.Goals as goal
use Rattle.std.specs.Prelude.{◌≡◌, ◌-◌}

pub loop-disk-init : goal.loop-disk-init
loop-disk-init g c = record {
  listed = refl;
  still = λ held seen. seen;
  heads = λ held seen. let all : c.args.count - 0 ≡ c.args.count = omega arith in rw (c.new.ensures.items, c.new-2.ensures.items, all) refl;
}

pub returns-in-Err-clause-refused : goal.returns-in-Err-clause-refused
returns-in-Err-clause-refused g c = λ held seen some.
    c.loop-disk.invariant.heads held (c.read_head.ensures.still held seen)
    ∙ heads_more held c.loop-disk.heads c.loop-disk.disk c.args.count (Err c.in-Err.fault) (Err c.in-Err.fault) c.loop-disk-test.true (c.in-Err.ensures.is held seen some) refl

pub returns-in-Err-joined-clause-refused : goal.returns-in-Err-joined-clause-refused
returns-in-Err-joined-clause-refused g c = λ held seen some.
    c.loop-disk.invariant.heads held (c.read_head.ensures.still held seen)
    ∙ heads_more held c.loop-disk.heads c.loop-disk.disk c.args.count (Ok c.in-Ok.head) (Err c.in-Err-joined.fault) c.loop-disk-test.true (c.in-Ok.ensures.is held seen) (c.in-Err-joined.ensures some)

pub loop-disk-preserved : goal.loop-disk-preserved
loop-disk-preserved g c = record {
  listed = c.read_head.ensures.listed ∙ c.loop-disk.invariant.listed;
  still = λ held seen. c.loop-disk.invariant.still held (c.read_head.ensures.still held seen);
  heads = λ held seen.
      c.loop-disk.invariant.heads held (c.read_head.ensures.still held seen)
      ∙ heads_more held c.loop-disk.heads c.loop-disk.disk c.args.count (Ok c.in-Ok.head) (Ok c.in-Ok-joined.heads) c.loop-disk-test.true (c.in-Ok.ensures.is held seen) c.in-Ok-joined.ensures;
}

pub returns-clause-given : goal.returns-clause-given
returns-clause-given g c = λ held seen.
    c.loop-disk.invariant.heads held seen ∙ heads_done held c.loop-disk.heads c.loop-disk.disk _ (omega (arith, c.loop-disk-test.false, c.loop-disk.auto.disk-end))
