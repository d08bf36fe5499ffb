use Rattle.lvm_volume.proofs.Prelude.{List, ℕ, map, sym, ap, ◌∙◌, append-nil, either_empty_from_Zip, Physical, owned, owners_view}
use Rattle.lvm_volume.proofs.group.OwnersLemmas.{none_left}
use Rattle.lvm_volume.proofs.group.owners.all_owned.Goals as goal
use Rattle.std.specs.Prelude.{◌++◌}

pub returns : goal.returns
returns c =
    let none = none_left _ _ (either_empty_from_Zip c.loop-id.id-iterator c.next.new.self c.next.result c.in-None.is c.next.ensures.steps) in
    let made = c.loop-id.all.items in
    sym (append-nil made) ∙ ap (λ (left : List (List ℕ × Physical)). made ++ map (owned (owners_view c.args.owners.now)) left) (sym none) ∙ c.loop-id.invariant
