use Rattle.dm_stack.proofs.Prelude.{◌∙◌, rules, tests, Store, has_bad_store, has_deep_store, resolved_target}
use Rattle.dm_stack.proofs.checks.PlacedLemmas.{first_devices}
use Rattle.dm_stack.proofs.checks.StoreLemmas.{deep_same}
use Rattle.dm_stack.proofs.checks.stores.check_stores.Goals as goal
use Rattle.std.specs.Prelude.{◌≡◌}

pub returns : goal.returns
returns c =
    let stack = c.args.stack.now in
    c.check_by_ids.ensures (λ count line. has_bad_store stack line.target)
    (λ line by_ids count bad called is_by_ids. let is : bad ≡ has_deep_store c.args.depths.now (resolved_target stack line.now.target) = search (rules, tests) in is ∙ deep_same stack c.args.depths.now line.now.target c.requires)
    ∙ first_devices Store (λ line. has_bad_store stack line.target) stack
