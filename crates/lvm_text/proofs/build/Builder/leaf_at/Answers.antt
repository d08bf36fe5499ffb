use Rattle.lvm_text.proofs.Prelude.{sym, ap, drop, refl, scalar_views, view, views}
use Rattle.lvm_text.specs.declared.tree.Value.TheVariants as values
use Rattle.lvm_text.proofs.Building.{leaf_list}
use Rattle.lvm_text.proofs.build.Builder.leaf_at.Goals as goal
use Rattle.std.specs.Prelude.{◌+◌}

pub returns-then-is_list_open-clause-read : goal.returns-then-is_list_open-clause-read
returns-then-is_list_open-clause-read c =
    leaf_list (views (drop c.args.start c.args.self.now.tokens.now)) (view c.in-Some.first) (views (drop (c.args.start + 1) c.args.self.now.tokens.now)) (scalar_views c.in_ok-scalars.scalars.items) (values.List c.in_ok-scalars.scalars)
    (views (drop c.in_ok-scalars.after c.args.self.now.tokens.now)) (ap views c.in-Some.ensures.0) (sym c.if-is_list_open.ensures) (λ k n v. refl) c.in_ok-scalars.ensures.read
