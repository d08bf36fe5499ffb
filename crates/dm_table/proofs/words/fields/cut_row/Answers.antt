-- If the last field is empty it is popped, and the vector isn't empty then.
use Rattle.dm_table.proofs.Prelude.{[], None, sym, ap, ◌∙◌, refl, arith, nil_from_length, MatchOption-at_none, texts, fields, without_last_space, ends_empty}
use Rattle.dm_table.proofs.words.FieldLemmas.{all_but_last-popped}
use Rattle.dm_table.proofs.tables.TableFields.{spaced, not_spaced}
use Rattle.dm_table.proofs.words.fields.cut_row.Goals as goal
use Rattle.std.specs.Prelude.{◌≡◌}

pub returns-then-ends_empty : goal.returns-then-ends_empty
returns-then-ends_empty c =
    let all : texts c.cut_into.new.parts.items ≡ fields c.args.line.now = c.in_ok-cut_into.ensures in
    let test : c.ends_empty.result ≡ ends_empty (texts c.cut_into.new.parts.items) = c.ends_empty.ensures ∙ rw c.deref.ensures.value refl in
    let none : c.pop.result ≡ None → c.pop.new.self.items ≡ [] = λ e. nil_from_length _ (omega (arith, c.pop.new.self.ok.0, (MatchOption-at_none _ _ e c.pop.ensures.cases).1)) in
    all_but_last-popped c.cut_into.new.parts.items c.pop.new.self.items c.pop.result c.pop.ensures.items none
    ∙ sym (spaced (texts c.cut_into.new.parts.items) (sym test ∙ c.if-ends_empty.true)) ∙ ap without_last_space all

pub returns-else-ends_empty : goal.returns-else-ends_empty
returns-else-ends_empty c =
    let all : texts c.cut_into.new.parts.items ≡ fields c.args.line.now = c.in_ok-cut_into.ensures in
    let test : c.ends_empty.result ≡ ends_empty (texts c.cut_into.new.parts.items) = c.ends_empty.ensures ∙ rw c.deref.ensures.value refl in
    sym (not_spaced (texts c.cut_into.new.parts.items) (sym test ∙ c.if-ends_empty.false)) ∙ ap without_last_space all
