use Rattle.lvm_volume.proofs.Prelude.{Err, List, map, sym, ap, ◌∙◌, item_view, Keyed, id_in, untaken, ids_view, owners_view}
use Rattle.lvm_volume.proofs.group.OwnersLemmas.{ids_length}
use Rattle.lvm_volume.proofs.OwnedLemmas.{ids_counted, said_refused, said_tables}
use Rattle.lvm_volume.proofs.owned_metadata.owned_tables.Goals as goal
use denote.Ref.{Bor}

pub returns-in-Err : goal.returns-in-Err
returns-in-Err c = (
  c.in-Err.ensures.0,
  λ other.
      let physicals = ap (map item_view) c.deref-2.ensures.value ∙ c.in-Ok.ensures in
      let none = ap (λ (xs : List Keyed). untaken xs (owners_view c.args.owners.now).names 0 c.args.owners.now.ids.now) (sym physicals) ∙ sym c.in_default-first_untaken.ensures in
      said_refused (owners_view c.args.owners.now) c.args.top.now c.in-Err.fault none (c.in-Err.ensures.1 other),
)

pub owned_group-requires : goal.owned_group-requires
owned_group-requires c =
    let physicals = ap (map item_view) c.deref.ensures.value ∙ c.in-Ok.ensures in
    let are = ap ids_view c.deref-3.ensures.value ∙ c.in-Ok-ids_of.ensures ∙ ap (map id_in) physicals in
    sym (ids_length c.deref-3.result.now) ∙ ids_counted c.args.top.now (ids_view c.deref-3.result.now) c.in-Ok-read.group are c.in-Ok-read.ensures

pub returns : goal.returns
returns c = (
  c.in-Err-tables.ensures.0,
  λ other.
      let physicals = ap (map item_view) c.deref.ensures.value ∙ c.in-Ok.ensures in
      let are = ap ids_view c.deref-3.ensures.value ∙ c.in-Ok-ids_of.ensures ∙ ap (map id_in) physicals in
      let here = ap (map item_view) c.deref-2.ensures.value ∙ c.in-Ok.ensures in
      let none = ap (λ (xs : List Keyed). untaken xs (owners_view c.args.owners.now).names 0 c.args.owners.now.ids.now) (sym here) ∙ sym c.in_default-first_untaken.ensures in
      said_tables (owners_view c.args.owners.now) c.args.top.now (ids_view c.deref-3.result.now) c.in-Ok-read.group c.in-Ok-owned_group.owned (Err c.in-Err-tables.fault)
      are none c.in-Ok-read.ensures c.in-Ok-owned_group.ensures (c.in-Err-tables.ensures.1 other),
)
