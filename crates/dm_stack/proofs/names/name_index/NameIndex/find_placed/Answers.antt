use Rattle.dm_stack.proofs.Prelude.{sym, ◌∙◌}
use Rattle.dm_stack.proofs.names.NameLemmas.{found_distinct}
use Rattle.dm_stack.proofs.names.name_index.NameIndex.find_placed.Goals as goal

pub returns-then-are_same : goal.returns-then-are_same
returns-then-are_same c =
    rw (← c.self.view_is)
    (found_distinct c.args.name.now c.self.inside.names.keys c.in_ok-number.number c.in_ok-get_index.field-0.now c.self.invariant.distinct
    (sym c.in_ok-get_index.ensures.key) (sym c.as_bytes.ensures.value ∙ c.if-are_same.ensures.same))
