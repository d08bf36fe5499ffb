-- A name that is in the index already is that of an earlier element; a new one is not.
use Rattle.dm_stack.proofs.Prelude.{[], None, true, false, sym, ◌∙◌, not-true, not-false, take_all, Source, first_or, twice_in}
use Rattle.dm_stack.proofs.names.NameLemmas.{names_more, refused_twice, seen_in, stands_nowhere, stands_once, stands_twice}
use Rattle.dm_stack.proofs.checks.names.index_of.Goals as goal
use Rattle.std.specs.Prelude.{◌≡◌, ◌∷◌, ◌++◌}

pub returns-in-Ok-false : goal.returns-in-Ok-false
returns-in-Ok-false g c =
    let name = g.T.Named.name_of in
    let place = g.T.Placed.place_of in
    let seen : seen_in (name c.item-item.result) c.loop-item.names ≡ true = rw (← c.name.ensures) (not-false _ (sym c.in-Ok-false.ensures.new ∙ c.in-Ok-false.field-0-test)) in
    let stops = stands_twice name place c.args.list.now c.loop-item.item-index c.item-item.result _ c.loop-item-test.true c.item-item.is c.loop-item.invariant.indexed seen in
    rw c.place-at.ensures (refused_twice Source _ _ _ (sym c.loop-item.invariant.left ∙ stops))

pub loop-item-preserved : goal.loop-item-preserved
loop-item-preserved g c =
    let name = g.T.Named.name_of in
    let place = g.T.Placed.place_of in
    let new : seen_in (name c.item-item.result) c.loop-item.names ≡ false = rw (← c.name.ensures) (not-true _ (sym c.in-Ok-true.ensures.new ∙ c.in-Ok-true.field-0-test)) in
    let added : c.add.new.self ≡ c.loop-item.names ++ name c.item-item.result ∷ [] =
    rw (c.in-Ok-true.ensures.added, c.in-Ok-true.field-0-test, c.name.ensures) in
    record {
      left = rw (stands_once name place c.args.list.now c.loop-item.item-index c.item-item.result _ c.loop-item-test.true c.item-item.is c.loop-item.invariant.indexed new) c.loop-item.invariant.left;
      indexed =
          rw (names_more name c.args.list.now c.loop-item.item-index c.item-item.result c.loop-item-test.true c.item-item.is, ← c.loop-item.invariant.indexed) added;
    }

pub returns : goal.returns
returns g c =
    let name = g.T.Named.name_of in
    let none : first_or (twice_in name g.T.Placed.place_of c.args.list.now) None ≡ None =
    rw (← c.loop-item.invariant.left, stands_nowhere name g.T.Placed.place_of c.args.list.now c.loop-item.item-index c.loop-item-test.false) in
    rw (none, ← take_all c.loop-item.item-index c.args.list.now c.loop-item-test.false, ← c.loop-item.invariant.indexed)
