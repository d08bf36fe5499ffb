-- for every test that the closure computes, the lines left have the first fault of all lines
use Rattle.dm_stack.proofs.Prelude.{Bor, ℕ, Bool, None, drop, length, FnReturns, flat_map, Line, faults_by, first_or, ResolvedLine, device_faults, resolved_line}
use Rattle.dm_stack.proofs.checks.faults.check_by_ids.Given as goal
use Rattle.std.specs.Prelude.{◌≡◌, ◌+◌, ◌++◌}

abbrev pub invariant-loop-index : goal.invariant-loop-index
invariant-loop-index g l =
    (test : ℕ → Line → Bool) → ((line : Bor Line) (by_ids : Bor ResolvedLine) (count : ℕ) (bad : Bool) → FnReturns g.F.Fn l.is_bad (line, (by_ids, (count, tt))) bad → by_ids.now ≡ resolved_line l.stack line.now → bad ≡ test count line.now)
    → first_or (faults_by l.kind (λ line. line.at) (test l.count) (drop l.index l.lines) ++ flat_map (λ device. faults_by l.kind (λ line. line.at) (test (length device.lines)) device.lines) (drop (l.id + 1) l.stack.devices)) None ≡ first_or (device_faults l.kind test l.stack) None

abbrev pub invariant-loop-id : goal.invariant-loop-id
invariant-loop-id g l =
    (test : ℕ → Line → Bool) → ((line : Bor Line) (by_ids : Bor ResolvedLine) (count : ℕ) (bad : Bool) → FnReturns g.F.Fn l.is_bad (line, (by_ids, (count, tt))) bad → by_ids.now ≡ resolved_line l.stack line.now → bad ≡ test count line.now)
    → first_or (flat_map (λ device. faults_by l.kind (λ line. line.at) (test (length device.lines)) device.lines) (drop l.id l.stack.devices)) None ≡ first_or (device_faults l.kind test l.stack) None
