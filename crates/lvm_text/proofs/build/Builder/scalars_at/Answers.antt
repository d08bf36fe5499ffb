use Rattle.lvm_text.proofs.Prelude.{◌∙◌, ap, [], drop, arith, map_push, views, scalar_view, scalar_views}
use Rattle.lvm_text.proofs.Building.{list_more, list_ends, views_after}
use Rattle.lvm_text.proofs.build.Builder.scalars_at.Goals as goal
use Rattle.std.specs.Prelude.{◌≡◌, ◌++◌, ◌∷◌}

pub loop-scalar-preserved : goal.loop-scalar-preserved
loop-scalar-preserved c =
    let start = views (drop c.args.start c.args.self.now.tokens.now) in
    let after = views (drop c.in-Some.after c.args.self.now.tokens.now) in
    let more = list_more start (scalar_views c.loop-scalar.scalars.items) (views (drop c.loop-scalar.at c.args.self.now.tokens.now)) (scalar_view c.in-Some.scalar) after c.loop-scalar.invariant.so_far c.in-Some.ensures.item in
    let pushed : scalar_views c.push.new.self.items ≡ scalar_views c.loop-scalar.scalars.items ++ scalar_view c.in-Some.scalar ∷ [] =
    ap scalar_views c.in_ok-push.ensures.items ∙ map_push scalar_view c.loop-scalar.scalars.items c.in-Some.scalar in
    record {
      so_far = rw pushed more;
      begun = omega (arith, c.in-Some.ensures.later, c.loop-scalar.invariant.begun);
      within = c.in-Some.ensures.later.1;
    }

pub returns-clause-read : goal.returns-clause-read
returns-clause-read c =
    list_ends (views (drop c.args.start c.args.self.now.tokens.now)) (scalar_views c.loop-scalar.scalars.items) (views (drop c.loop-scalar.at c.args.self.now.tokens.now)) (views (drop c.position_after.result c.args.self.now.tokens.now))
    c.loop-scalar.invariant.so_far c.in_default.ensures.item (views_after (drop c.loop-scalar.at c.args.self.now.tokens.now) (drop c.position_after.result c.args.self.now.tokens.now) c.position_after.ensures.rest)
