use Rattle.dm_stream.proofs.Prelude.{ℕ, List, length, take, ap, ◌∙◌, arith, take-take}
use Rattle.dm_stream.proofs.pieces.disk_text.DiskText.put_into.Goals as goal
use Rattle.std.specs.Prelude.{◌≡◌, ◌+◌, ◌++◌}

-- the copied array begins with the text
pub returns-clause-put : goal.returns-clause-put
returns-clause-put c =
    let disk = c.self.inside in
    let first : take disk.len c.in-Some.array.now ≡ take disk.len disk.text =
    ap (take disk.len) c.in-Some.ensures.cases.same ∙ take-take disk.len 32 disk.text (omega (arith, c.if-self-gt-SHORT.false)) in
    record {
      ends = c.put_array.ensures.put.ends ∙ ap (λ (text : List ℕ). c.args.at + length text) (first ∙ c.self.view_is);
      holds = c.put_array.ensures.put.holds ∙ ap (λ (text : List ℕ). take c.args.at c.args.block.now ++ text) (first ∙ c.self.view_is);
    }
