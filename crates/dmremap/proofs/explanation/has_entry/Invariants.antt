use Rattle.dmremap.proofs.Prelude.{drop, map, option_map, list_any, fits}
use Rattle.dmremap.proofs.explanation.has_entry.Given as goal
use Rattle.std.specs.Prelude.{◌≡◌}

abbrev pub invariant-loop-entry : goal.invariant-loop-entry
invariant-loop-entry l =
    let entries = map (λ entry. ((entry.0.0.now, entry.0.1.now), entry.1.now, entry.2.now)) l.entries in
    list_any (fits (option_map (λ part. part.now) l.part) l.word) entries
    ≡ list_any (fits (option_map (λ part. part.now) l.part) l.word) (map (λ entry. ((entry.0.0.now, entry.0.1.now), entry.1.now, entry.2.now)) (drop l.entry-index l.entries))
