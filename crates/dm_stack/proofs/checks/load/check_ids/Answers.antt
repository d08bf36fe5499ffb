-- The cycle and depths that were found are those that the later checks need.
use Rattle.dm_stack.proofs.Prelude.{inl, inr, sym, ◌∙◌, take, first_fault-none, links, IsFirstRing, depths_to, checks_before, store_links}
use Rattle.dm_stack.proofs.checks.HandedOn.{ends_within}
use Rattle.dm_stack.proofs.checks.LoadLemmas.{closed_links, deepest_is, handed, made_ok, none_found, nothing_found, refused_early}
use Rattle.dm_stack.proofs.checks.load.check_ids.Goals as goal
use Rattle.std.specs.Prelude.{◌≡◌}

pub bad_lines-found-requires : goal.bad_lines-found-requires
bad_lines-found-requires c = ends_within c.args.stack.now (first_fault-none (take 3 (checks_before c.args.stack.now)) c.requires).1.0

pub check_lengths-requires : goal.check_lengths-requires
check_lengths-requires c = c.bad_lines-found.ensures.empty

pub returns-in_err-check_lengths-clause-fault : goal.returns-in_err-check_lengths-clause-fault
returns-in_err-check_lengths-clause-fault c =
    handed _ _ _ c.from_residual.ensures.1 (inl (refused_early _ 3 _ (none_found (take 3 (checks_before c.args.stack.now)) c.requires) (sym c.in_err-check_lengths.ensures)))

pub returns-in_err-refuse-clause-fault : goal.returns-in_err-refuse-clause-fault
returns-in_err-refuse-clause-fault c =
    let none = none_found (take 3 (checks_before c.args.stack.now)) c.requires in
    handed _ _ _ c.from_residual-in_err-refuse.ensures.1 (inl (refused_early _ 4 _ (none.0, (none.1.0, (none.1.1.0, (sym c.in_ok-check_lengths.ensures, tt)))) (sym c.bad_lines-found.ensures.misplaced ∙ sym c.in_err-refuse.ensures)))

pub returns-in_err-refuse-2-clause-fault : goal.returns-in_err-refuse-2-clause-fault
returns-in_err-refuse-2-clause-fault c =
    let none = none_found (take 3 (checks_before c.args.stack.now)) c.requires in
    let first = c.bad_lines-found.ensures in
    handed _ _ _ c.from_residual-in_err-refuse-2.ensures.1
    (inl (refused_early _ 5 _ (none.0, (none.1.0, (none.1.1.0, (sym c.in_ok-check_lengths.ensures, (sym first.misplaced ∙ sym c.in_ok-refuse.ensures, tt))))) (sym first.unknown ∙ sym c.in_err-refuse-2.ensures)))

pub follow-requires : goal.follow-requires
follow-requires c = closed_links c.args.stack.now (sym c.bad_lines-found.ensures.unknown ∙ sym c.in_ok-refuse-2.ensures)

pub returns-in_err-graph-clause-fault : goal.returns-in_err-graph-clause-fault
returns-in_err-graph-clause-fault c = handed _ _ _ c.from_residual-in_err-graph.ensures.1 (inr c.in_err-graph.ensures.memory)

pub check_graph-requires-clause-lines : goal.check_graph-requires-clause-lines
check_graph-requires-clause-lines c = c.bad_lines-found.ensures

pub check_graph-requires-clause-before : goal.check_graph-requires-clause-before
check_graph-requires-clause-before c =
    let none = none_found (take 3 (checks_before c.args.stack.now)) c.requires in
    let first = c.bad_lines-found.ensures in
    nothing_found (checks_before c.args.stack.now)
    (none.0, (none.1.0, (none.1.1.0, (sym c.in_ok-check_lengths.ensures, (sym first.misplaced ∙ sym c.in_ok-refuse.ensures, (sym first.unknown ∙ sym c.in_ok-refuse-2.ensures, tt))))))

pub check_graph-requires-clause-depths : goal.check_graph-requires-clause-depths
check_graph-requires-clause-depths c = made_ok c.follow.result c.in_ok-graph.graph (λ graph. graph.depths.items ≡ depths_to (links c.args.stack.now) 33) c.in_ok-graph.ensures.made c.follow.ensures.depths

pub check_graph-requires-clause-stores : goal.check_graph-requires-clause-stores
check_graph-requires-clause-stores c = made_ok c.follow.result c.in_ok-graph.graph (λ graph. graph.store_depths.items ≡ depths_to (store_links c.args.stack.now) 33) c.in_ok-graph.ensures.made c.follow.ensures.stores

pub check_graph-requires-clause-cycle : goal.check_graph-requires-clause-cycle
check_graph-requires-clause-cycle c = made_ok c.follow.result c.in_ok-graph.graph (λ graph. IsFirstRing (links c.args.stack.now) graph.cycle) c.in_ok-graph.ensures.made c.follow.ensures.cycle

pub returns-in_err-check_graph-clause-fault : goal.returns-in_err-check_graph-clause-fault
returns-in_err-check_graph-clause-fault c = handed _ _ _ c.from_residual-in_err-check_graph.ensures.1 (inl c.in_err-check_graph.ensures.fault)

pub returns-clause-depth : goal.returns-clause-depth
returns-clause-depth c =
    let depths = made_ok c.follow.result c.in_ok-graph.graph (λ graph. graph.depths.items ≡ depths_to (links c.args.stack.now) 33) c.in_ok-graph.ensures.made c.follow.ensures.depths in
    c.deepest.ensures ∙ deepest_is c.args.stack.now c.deref.result.now (c.deref.ensures.value ∙ depths)
