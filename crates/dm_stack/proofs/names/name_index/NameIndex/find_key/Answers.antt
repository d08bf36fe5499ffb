use Rattle.dm_stack.proofs.Prelude.{Some, get_or, arith, ap, refl, ◌∙◌, slice_get, IsPlaceOf, names_in}
use Rattle.dm_stack.specs.declared.names.name_index.Place.{Place}
use Rattle.dm_stack.proofs.names.KeyLemmas.{part_of, same_name}
use Rattle.dm_stack.proofs.names.NameLemmas.{named_distinct}
use Rattle.dm_stack.proofs.names.name_index.NameIndex.find_key.Goals as goal
use Rattle.std.specs.Prelude.{◌≡◌, ◌<◌}

pub loop-place-init : goal.loop-place-init
loop-place-init c =
    rw (← c.self.view_is)
    (part_of (λ (place : Place). place.key.len < 16 → IsPlaceOf (names_in c.self.inside.names) place) c.deref.result.now c.in_ok-ahead.ahead.now c.in_ok-place-items.place-items.now c.first_place.result 8 (rw c.deref.ensures.value c.self.invariant.places) c.in_ok-ahead.ensures.lookup.0.2 c.in_ok-place-items.ensures.lookup.0.2)

pub returns-then-is : goal.returns-then-is
returns-then-is c = λ name short is_key.
    let nowhere : Place = record { key = record { first = 0; last = 0; len = 0 }; number = 0 } in
    let place = get_or c.in_ok-place-items.place-items.now c.loop-place.place-index nowhere in
    let same : place.key ≡ c.args.key.now = c.if-is.ensures.0 refl in
    let few : c.args.key.now.len < 16 = omega (arith, short, is_key.len) in
    let of = c.loop-place.invariant c.loop-place.place-index nowhere c.loop-place-test.true (rw same few) in
    let named : of.name ≡ name = same_name of.name name c.args.key.now (rw same at of.key) is_key in
    let found : slice_get (names_in c.self.inside.names) place.number ≡ Some name = rw c.self.view_is (of.found ∙ ap Some named) in
    rw (← c.self.view_is) (named_distinct name c.self.inside.names.keys place.number c.self.invariant.distinct found)

pub loop-place-preserved : goal.loop-place-preserved
loop-place-preserved c = c.loop-place.invariant
