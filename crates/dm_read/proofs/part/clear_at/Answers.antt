use Rattle.dm_read.proofs.Prelude.{ℕ, List, length, replicate, ap, ◌∙◌, arith, length-replicate, sector_in}
use Rattle.dm_read.proofs.BlockLemmas.{cleared, in_part, part_kept, part_len}
use Rattle.dm_read.proofs.part.clear_at.Goals as goal
use Rattle.std.specs.Prelude.{◌≡◌, ◌*◌}

pub returns-clause-kept : goal.returns-clause-kept
returns-clause-kept c =
    let a = c.args in
    part_kept a.block.now c.clear.new.bytes a.at a.count c.requires.room
    (ap (λ (ys : List ℕ). length ys) c.clear.ensures ∙ length-replicate {A = ℕ} _ 0 ∙ part_len a.block.now a.at a.count c.requires.room)

pub returns-clause-cleared : goal.returns-clause-cleared
returns-clause-cleared c = λ i less.
    let a = c.args in
    let is : c.clear.new.bytes ≡ replicate (512 * a.count) 0 = c.clear.ensures ∙ ap (λ (n : ℕ). replicate {A = ℕ} n 0) (part_len a.block.now a.at a.count c.requires.room) in
    in_part a.block.now c.clear.new.bytes a.at _ a.count i less (omega (arith, c.requires.room)) (ap (λ (ys : List ℕ). length ys) is ∙ length-replicate {A = ℕ} _ 0)
    ∙ ap (λ (ys : List ℕ). sector_in ys i) is ∙ cleared a.count i less
