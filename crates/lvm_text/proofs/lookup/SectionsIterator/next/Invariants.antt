use Rattle.lvm_text.proofs.Prelude.{drop, length, sections_in}
use Rattle.lvm_text.proofs.lookup.SectionsIterator.next.Given as goal
use Rattle.std.specs.Prelude.{◌≡◌, ◌-◌}

abbrev pub invariant-loop-self : goal.invariant-loop-self
invariant-loop-self l = sections_in (drop l.self.at l.self.entries.now) ≡ sections_in (drop l.initial.self.at l.initial.self.entries.now)

abbrev pub decreases-loop-self : goal.decreases-loop-self
decreases-loop-self l = length l.self.entries.now - l.self.at
