use Rattle.lvm_head.proofs.Prelude.{◌∙◌, List, [], ap, ap₂, arith, length, sym, length-map-range_with_len, Area, area_at}
use Rattle.lvm_head.proofs.LabelLemmas.{range_more}
use Rattle.lvm_head.proofs.label.Label.pairs.Goals as goal
use Rattle.std.specs.Prelude.{◌≡◌, ◌∷◌, ◌++◌}

pub push-requires : goal.push-requires
push-requires c =
    let len : length c.loop-number.pairs.items ≡ c.loop-number.number = ap length c.loop-number.invariant ∙ length-map-range_with_len (area_at c.args.self.now) 0 c.loop-number.number in
    omega (arith, len, c.loop-number-test.true, c.header_at.ensures.after)

pub loop-number-preserved : goal.loop-number-preserved
loop-number-preserved c =
    c.push.ensures.items ∙ ap₂ (λ (before : List Area) (next : Area). before ++ next ∷ []) c.loop-number.invariant c.area_at.ensures
    ∙ sym (range_more (area_at c.args.self.now) 0 c.loop-number.number c.loop-number.number (omega arith))
