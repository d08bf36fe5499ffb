use Rattle.lvm_volume.proofs.Prelude.{List, ℕ, sym, ap, subst, ◌∙◌, bytes_eq, IsDistinct, Tree, sections_left, keys_in, texts}
use Rattle.lvm_volume.proofs.group.PositionLemmas.{none_before, sections_differ}
use Rattle.lvm_volume.proofs.group.positions.Positions.new.Goals as goal
use Rattle.std.specs.Prelude.{◌++◌}

pub add_key-requires : goal.add_key-requires
add_key-requires c =
    let keys = texts c.loop-item.keys.keys in
    let split = sym c.loop-item.invariant ∙ ap (λ (left : List (List ℕ × Tree)). keys ++ keys_in left) c.in-Some.ensures.steps in
    none_before keys c.in-Some.item.0.now (keys_in (sections_left c.next.new.self)) (subst (IsDistinct bytes_eq) split (sections_differ c.args.section.now.values c.sections-item-items.ensures.differ))
