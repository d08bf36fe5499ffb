use Rattle.lvm_volume.proofs.Prelude.{Result, owners_view, OwnedFault, Gives, OfTree, Tables, owned_tables}
use Rattle.lvm_volume.proofs.OwnedLemmas.{answers_by, gives_one_thing, said_text}
use Rattle.lvm_volume.proofs.owned_metadata.parse_owned.Goals as goal
use Rattle.std.specs.Prelude.{◌≡◌}

pub returns-in-Err-clause-one : goal.returns-in-Err-clause-one
returns-in-Err-clause-one c = gives_one_thing (owners_view c.args.owners.now) c.args.source.now

pub returns-in-Ok-parse-clause-given : goal.returns-in-Ok-parse-clause-given
returns-in-Ok-parse-clause-given c =
    let text = c.in-Ok.ensures.text in
    answers_by (λ tables. (tables.0.items, tables.1.items)) (λ (said : Result Tables OwnedFault). said ≡ owned_tables (owners_view c.args.owners.now) c.in-Ok-parse.top) (Gives (owners_view c.args.owners.now) c.args.source.now)
    (λ said is. OfTree c.in-Ok-parse.top (record { utf8 = text.1; says = rw (← text.0) c.in-Ok-parse.ensures.accepted }) is) c.owned_tables.result c.owned_tables.ensures

pub returns-in-Ok-parse-clause-one : goal.returns-in-Ok-parse-clause-one
returns-in-Ok-parse-clause-one c = gives_one_thing (owners_view c.args.owners.now) c.args.source.now

pub returns-in-Err-parse-clause-given : goal.returns-in-Err-parse-clause-given
returns-in-Err-parse-clause-given c =
    let text = c.in-Ok.ensures.text in
    said_text (owners_view c.args.owners.now) c.args.source.now c.in-Err-parse.fault c.text_fault.result text.1 c.text_fault.ensures (λ other. rw (← text.0) (c.in-Err-parse.ensures.fault other))

pub returns-in-Err-parse-clause-one : goal.returns-in-Err-parse-clause-one
returns-in-Err-parse-clause-one c = gives_one_thing (owners_view c.args.owners.now) c.args.source.now
