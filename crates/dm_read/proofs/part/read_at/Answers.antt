use Rattle.dm_read.proofs.Prelude.{ℕ, List, length, Result, Ok, Err, ap, sym, ◌∙◌, arith, OnOk, AreRead, disk_contents, sector_in, Sectors}
use Rattle.dm_store.specs.declared.fault.SectorFault.{SectorFault}
use Rattle.dm_read.proofs.BlockLemmas.{in_part, part_kept, part_len}
use Rattle.dm_read.proofs.part.read_at.Goals as goal
use Rattle.std.specs.Prelude.{◌≡◌, ◌+◌, ◌*◌, ◌<◌}

-- sectors that were read to part of a block are in the block
placed : (sectors : Sectors) (start at count : ℕ) (result : Result (Unit {0}) SectorFault) (bytes block : List ℕ) → length bytes ≡ 512 * count → ((i : ℕ) → i < count → sector_in block (at + i) ≡ sector_in bytes i)
    → AreRead sectors start result bytes → OnOk result ((i : ℕ) → i < count → sectors (start + i) ≡ Ok (sector_in block (at + i)))
placed sectors start at count (Ok done) bytes block len part are = λ i less.
    are i (omega (arith, len, less)) ∙ ap (λ (b : List ℕ). let r : Result (List ℕ) SectorFault = Ok b in r) (sym (part i less))
placed sectors start at count (Err fault) bytes block len part are = tt

pub returns-clause-kept : goal.returns-clause-kept
returns-clause-kept g c =
    let a = c.args in
    part_kept a.block.now c.read.new.into a.at a.count c.requires.room (c.read.auto.into ∙ part_len a.block.now a.at a.count c.requires.room)

pub returns-clause-sectors : goal.returns-clause-sectors
returns-clause-sectors g c = λ held seen.
    let a = c.args in
    let len : length c.read.new.into ≡ 512 * a.count = c.read.auto.into ∙ part_len a.block.now a.at a.count c.requires.room in
    placed (disk_contents a.places.now held a.disk) a.start a.at a.count c.read.result c.read.new.into _ len
    (λ i less. in_part a.block.now c.read.new.into a.at _ a.count i less (omega (arith, c.requires.room)) len)
    (c.read.ensures.is held seen)
