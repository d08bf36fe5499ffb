use Rattle.dm_store.proofs.Prelude.{ℕ, sym, ap, ◌∙◌, arith, disk_contents}
use Rattle.dm_store.proofs.rows.read_row.Goals as goal
use Rattle.std.specs.Prelude.{◌≡◌, ◌+◌}

pub returns-in-Ok-clause-sector : goal.returns-in-Ok-clause-sector
returns-in-Ok-clause-sector g c = λ held seen.
    let at : c.args.start + 0 ≡ c.args.start = omega arith in
    ap (λ (n : ℕ). disk_contents c.args.places.now held c.args.disk n) (sym at) ∙ c.in-Ok.ensures.sectors held seen 0 (omega arith)
