use Rattle.lvm_text.proofs.Prelude.{sym, ◌∙◌, ap, [], drop, arith, is_some, err_from_is_err_and, view, views, lines_agree, Entry}
use Rattle.lvm_text.specs.declared.tree.Value.TheVariants as values
use Rattle.lvm_text.proofs.Building.{values_more, values_end, value_nothing, value_section, value_leaf, views_after, lines_agree-push}
use Rattle.lvm_text.proofs.Twice.{differ_push, key_twice, twice_inside, twice_opened}
use Rattle.lvm_text.proofs.build.Builder.+build.Goals as goal
use Rattle.std.specs.Prelude.{◌≡◌, ◌+◌, ◌∷◌, ◌++◌}

pub section_at-loop-key-preserved : goal.section_at-loop-key-preserved
section_at-loop-key-preserved t c =
    let start = views (drop c.args.start c.args.self.now.tokens.now) in
    let after = views (drop c.in_ok-value.after c.args.self.now.tokens.now) in
    let entry : Entry = record { key = c.in-Some.key; node = record { value = c.in_ok-value.value; line = c.in-Some.key_line } } in
    let more = values_more start c.loop-key.entries.items (views (drop c.loop-key.at c.args.self.now.tokens.now)) (views (drop (c.loop-key.at + 1) c.args.self.now.tokens.now)) after entry
    c.loop-key.invariant.so_far c.in-Some.ensures.0 c.in_ok-value.ensures.read in
    let added : c.add_entry.new.entries.items ≡ c.loop-key.entries.items ++ entry ∷ [] = c.in_ok-add_entry.ensures.added in
    record {
      so_far = rw added more;
      agree = ap lines_agree added ∙ lines_agree-push c.loop-key.entries.items entry c.loop-key.invariant.agree c.in_ok-value.ensures.agrees;
      finds = c.in_ok-add_entry.ensures.finds;
      differ = rw added (differ_push c.loop-key.entries.items entry c.loop-key.invariant.differ (rw (← c.as_slice.ensures.value) (sym c.if-is_some.false ∙ c.is_some.ensures ∙ ap is_some c.position_of.ensures)) c.in_ok-value.ensures.differ);
      begun = omega (arith, c.in_ok-value.ensures.later, c.loop-key.invariant.begun);
      within = c.in_ok-value.ensures.later.1;
    }

pub section_at-returns-then-is_some-clause-twice : goal.section_at-returns-then-is_some-clause-twice
section_at-returns-then-is_some-clause-twice t c =
    key_twice (views (drop c.args.start c.args.self.now.tokens.now)) c.loop-key.entries.items (views (drop c.loop-key.at c.args.self.now.tokens.now)) (views (drop (c.loop-key.at + 1) c.args.self.now.tokens.now)) c.in-Some.key.now c.in-Some.key_line
    c.loop-key.invariant.so_far c.in-Some.ensures.0 c.loop-key.invariant.differ (rw (← c.as_slice.ensures.value) (sym c.if-is_some.true ∙ c.is_some.ensures ∙ ap is_some c.position_of.ensures))

pub section_at-returns-in_err-value-clause-twice : goal.section_at-returns-in_err-value-clause-twice
section_at-returns-in_err-value-clause-twice t c =
    let p = err_from_is_err_and c.from_residual-in_err-value.result c.from_residual-in_err-value.ensures.1 in
    rw (p.1, p.2) (twice_inside (views (drop c.args.start c.args.self.now.tokens.now)) c.loop-key.entries.items (views (drop c.loop-key.at c.args.self.now.tokens.now)) (views (drop (c.loop-key.at + 1) c.args.self.now.tokens.now)) c.in-Some.key.now c.in-Some.key_line
    c.in_err-value.field-0.0 c.loop-key.invariant.so_far c.in-Some.ensures.0 c.loop-key.invariant.differ (rw (← c.as_slice.ensures.value) (sym c.if-is_some.false ∙ c.is_some.ensures ∙ ap is_some c.position_of.ensures)) c.in_err-value.ensures.twice)

pub value_at-returns-in_err-section-clause-twice : goal.value_at-returns-in_err-section-clause-twice
value_at-returns-in_err-section-clause-twice t c =
    let p = err_from_is_err_and c.from_residual.result c.from_residual.ensures.1 in
    rw (p.1, p.2) (twice_opened c.args.line (views (drop c.args.start c.args.self.now.tokens.now)) (view c.in-Some.first) (views (drop (c.args.start + 1) c.args.self.now.tokens.now)) c.in_err-section.field-0.0
    (ap views c.in-Some.ensures.0) (sym c.if-is_open.ensures) c.in_err-section.ensures.twice)

pub section_at-returns-clause-read : goal.section_at-returns-clause-read
section_at-returns-clause-read t c =
    let start = views (drop c.args.start c.args.self.now.tokens.now) in
    let rest = views (drop c.loop-key.at c.args.self.now.tokens.now) in
    rw c.shrink_to_fit.ensures.items (values_end start c.loop-key.entries.items rest c.loop-key.invariant.so_far c.in_default.ensures)

pub value_at-returns-in_default-clause-read : goal.value_at-returns-in_default-clause-read
value_at-returns-in_default-clause-read t c = value_nothing c.args.line (views (drop c.args.start c.args.self.now.tokens.now)) (values.Int 0) (views (drop c.args.start c.args.self.now.tokens.now)) (ap views c.in_default.ensures)

pub value_at-returns-then-is_open-clause-read : goal.value_at-returns-then-is_open-clause-read
value_at-returns-then-is_open-clause-read t c =
    value_section c.args.line (views (drop c.args.start c.args.self.now.tokens.now)) (view c.in-Some.first) (views (drop (c.args.start + 1) c.args.self.now.tokens.now)) c.in_ok-section.section.values
    (views (drop c.in_ok-section.after c.args.self.now.tokens.now)) (views (drop c.position_after.result c.args.self.now.tokens.now))
    (ap views c.in-Some.ensures.0) (sym c.if-is_open.ensures) c.in_ok-section.ensures.read
    (views_after (drop c.in_ok-section.after c.args.self.now.tokens.now) (drop c.position_after.result c.args.self.now.tokens.now) c.position_after.ensures.rest)

pub value_at-returns-clause-read : goal.value_at-returns-clause-read
value_at-returns-clause-read t c =
    value_leaf c.args.line (views (drop c.args.start c.args.self.now.tokens.now)) (view c.in-Some.first) (views (drop (c.args.start + 1) c.args.self.now.tokens.now)) c.in_ok-leaf_at.field-0.0 (views (drop c.in_ok-leaf_at.field-0.1 c.args.self.now.tokens.now))
    (ap views c.in-Some.ensures.0) (sym c.if-is_open.ensures) c.in_ok-leaf_at.ensures.read
