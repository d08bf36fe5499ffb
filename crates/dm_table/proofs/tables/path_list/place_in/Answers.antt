use Rattle.dm_table.proofs.Prelude.{false, refl, sym, ◌∙◌, nat_lt, length, and-false, le-ltb, lt-ltb, is_of_part, place_in}
use Rattle.dm_table.proofs.tables.path_list.place_in.Goals as goal
use Rattle.dm_table.proofs.tables.path_list.place_in.Goals.{else-keys-path-via-then-keys-path+else-is_of_part, else-keys-path-via-else-keys-path}
use Rattle.std.specs.Prelude.{◌≡◌, ◌&&◌}

pub returns-then-is_of_part : goal.returns-then-is_of_part
unfolding place_in
returns-then-is_of_part c =
    let near = lt-ltb _ _ c.if-keys-path.true in
    let part = sym c.is_of_part.ensures ∙ c.if-is_of_part.true in
    c.extent_of.ensures ∙ rw (← c.after_mark-keys.ensures.is) (rw (near, part, c.extent_in.ensures) refl)

pub returns : goal.returns
unfolding place_in
returns c =
    let whole : (nat_lt (length c.after_mark-keys.result.now) (length c.args.path.now) && is_of_part c.after_mark-keys.result.now) ≡ false =
    elim c.else-keys-path.branch [
      | else-keys-path-via-then-keys-path+else-is_of_part w ↦ rw (sym w.is_of_part.ensures ∙ w.if-is_of_part.false) (and-false _)
      | else-keys-path-via-else-keys-path w ↦ rw (le-ltb _ _ w.if-keys-path.false) refl
    ] in
    c.extent_of-2.ensures ∙ rw (← c.after_mark-keys.ensures.is) (rw (whole, c.whole.ensures) refl)
