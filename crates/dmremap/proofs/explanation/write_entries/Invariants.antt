use Rattle.dmremap.proofs.Prelude.{Ok, map, option_map, take, Wrote, fits, texts_of}
use Rattle.dm_table.specs.declared.io.device_io.OutFault.{OutFault}
use Rattle.dmremap.proofs.EntryLemmas.{between}
use Rattle.dmremap.proofs.explanation.write_entries.Given as goal
use Rattle.std.specs.Prelude.{◌≡◌}

-- the texts of the entries so far are written, and no write failed
abbrev pub invariant-loop-entry : goal.invariant-loop-entry
invariant-loop-entry g l =
    let entries = map (λ entry. ((entry.0.0.now, entry.0.1.now), entry.1.now, entry.2.now)) l.entries in
    let fits_it = fits (option_map (λ part. part.now) l.part) l.word in
    Wrote {E = OutFault} (g.W.Output.past l.fn.output) (g.W.Output.past l.output) (Ok tt) (texts_of fits_it (take l.entry-index entries))
    × (l.between ≡ between fits_it (take l.entry-index entries))
