use Rattle.dm_stack.proofs.Prelude.{ap, sym, ◌∙◌, position, is_same}
use Rattle.dm_stack.proofs.names.NameLemmas.{found_distinct, position_names}
use Rattle.dm_stack.proofs.names.name_index.NameIndex.find.Goals as goal

pub returns : goal.returns
returns c =
    c.get_index_of.ensures.index ∙ position_names c.args.name.now c.self.inside.names.keys
    ∙ ap (position (λ other. is_same other c.args.name.now)) c.self.view_is

pub returns-then-are_same : goal.returns-then-are_same
returns-then-are_same c =
    sym
    (found_distinct c.args.name.now c.self.inside.names.keys c.from-number.result c.in-Some-get_index.other.now c.self.invariant.distinct
    (sym c.in-Some-get_index.ensures.key) (sym c.as_bytes.ensures.value ∙ c.if-are_same.ensures.same ∙ c.as_bytes-in-Some-get_index.ensures.value))
    ∙ ap (position (λ other. is_same other c.args.name.now)) c.self.view_is
