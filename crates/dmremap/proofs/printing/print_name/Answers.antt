use Rattle.dmremap.proofs.Prelude.{Ok, ap, option_map, rules, ◌∙◌}
use Rattle.dmremap.proofs.PrintLemmas.{name_done}
use Rattle.dmremap.proofs.printing.print_name.Goals as goal
use Rattle.std.specs.Prelude.{◌≡◌}

pub returns-in-Ok : goal.returns-in-Ok
returns-in-Ok g c =
    let same : c.as_bytes.result.now ≡ c.in-Ok.name = search rules in
    name_done (record { vg = c.args.vg.now; lv = c.args.lv.now; layer = option_map (λ l. l.now) c.args.layer }) c.as_bytes.result.now c.print_line.result
    (ap Ok same ∙ c.in-Ok.ensures) c.print_line.ensures
