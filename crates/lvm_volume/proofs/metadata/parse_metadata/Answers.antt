use Rattle.lvm_volume.proofs.MetadataLemmas.{refused_tables, refused_text}
use Rattle.lvm_volume.proofs.OneGroup.{says_one_thing}
use Rattle.lvm_volume.proofs.metadata.parse_metadata.Goals as goal

pub returns-in-Ok-clause-refused : goal.returns-in-Ok-clause-refused
returns-in-Ok-clause-refused c =
    let text = c.in_ok-text.ensures.text in
    refused_tables c.args.source.now c.in-Ok.top (λ tables. (tables.0.items, tables.1.items)) c.group_tables.result
    (record { utf8 = text.1; says = rw (← text.0) c.in-Ok.ensures.accepted }) c.group_tables.ensures

pub returns-in-Err-clause-refused : goal.returns-in-Err-clause-refused
returns-in-Err-clause-refused c =
    let text = c.in_ok-text.ensures.text in
    rw c.text_fault.ensures (refused_text c.args.source.now c.in-Err.fault text.1 (λ other. rw (← text.0) (c.in-Err.ensures.fault other)))

pub returns-in_err-text-clause-one : goal.returns-in_err-text-clause-one
returns-in_err-text-clause-one c = says_one_thing c.args.source.now

pub returns-in-Ok-clause-one : goal.returns-in-Ok-clause-one
returns-in-Ok-clause-one c = says_one_thing c.args.source.now

pub returns-in-Err-clause-one : goal.returns-in-Err-clause-one
returns-in-Err-clause-one c = says_one_thing c.args.source.now
