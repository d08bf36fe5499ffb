use Rattle.lvm_text.proofs.Prelude.{true, [], length, drop, views, values_of, lines_agree, twice_lines, Finds}
use Rattle.lvm_text.proofs.Building.{ValuesSoFar}
use Rattle.lvm_text.proofs.build.Builder.+build.Given as goal
use Rattle.std.specs.Prelude.{◌≡◌, ◌≤◌, ◌-◌}

abbrev pub decreases-section_at : goal.decreases-section_at
decreases-section_at l = length l.self.now.tokens.now - l.start

abbrev pub decreases-value_at : goal.decreases-value_at
decreases-value_at l = length l.self.now.tokens.now - l.start

abbrev pub invariant-section_at-loop-key : goal.invariant-section_at-loop-key
invariant-section_at-loop-key l = record {
  so_far : ValuesSoFar (views (drop l.start l.self.tokens.now)) l.entries.items (views (drop l.at l.self.tokens.now));
  agree : lines_agree l.entries.items ≡ true;
  finds : Finds l.index l.entries.items;
  differ : twice_lines [] (values_of l.entries.items) ≡ [];
  begun : l.start ≤ l.at;
  within : l.at ≤ length l.self.tokens.now;
}

abbrev pub decreases-section_at-loop-key : goal.decreases-section_at-loop-key
decreases-section_at-loop-key l = length l.self.tokens.now - l.at
