use Rattle.dm_stack.proofs.Prelude.{ap, ◌∙◌, Description, is_named}
use Rattle.dm_stack.proofs.claims.TopLemmas.{top_is}
use Rattle.dm_stack.proofs.stack.Stack.is_top.Goals as goal

pub returns : goal.returns
returns c =
    let stack = c.args.self.now in
    let is = c.is_named.ensures ∙ ap (λ (described : Description). is_named described c.args.device) c.resolved.ensures.description in
    rw is (top_is stack c.args.device)
