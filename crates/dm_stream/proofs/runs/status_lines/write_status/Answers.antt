use Rattle.dm_stream.proofs.Prelude.{◌∙◌, ℕ, List, Some, ap, sym, drop, take, rules, IfSome, flat_map, err_from_is_err_and, stopped, and_then, flat_map_at, Description, device_len, name_at, IsSnapshot, MapperView, with_looked, taken_at, snapshot_at, usage_of, after_name, status_line}
use Rattle.dm_map.specs.declared.state.usage.Usage.{Usage}
use Rattle.dm_stream.proofs.runs.status_lines.write_status.Goals as goal
use Rattle.std.specs.Prelude.{◌≡◌, ◌+◌, ◌++◌}

-- what is written for a snapshot is its status line
line_of : (stack : Description) (old mapper : MapperView) (device : ℕ) (usage : Usage) → old.stack ≡ stack → mapper ≡ with_looked old mapper.looked → IsSnapshot stack device
    → IfSome (snapshot_at mapper.stack device) (λ snapshot. usage ≡ usage_of mapper.stack snapshot (taken_at mapper.state device))
    → name_at stack device ++ after_name (device_len stack device) usage ≡ status_line stack old.state device
line_of stack old mapper device usage of_stack same is used =
    let at : snapshot_at stack device ≡ Some is.snapshot = rw is.line in
    let of_old = rw same at used in
    let here = rw of_stack at of_old in
    let full : usage ≡ usage_of stack is.snapshot (taken_at old.state device) =
    rw at at here in
    rw (full, at)

pub returns-in_err-write_line-clause-wrote : goal.returns-in_err-write_line-clause-wrote
returns-in_err-write_line-clause-wrote g c =
    let p = err_from_is_err_and c.from_residual.result c.from_residual.ensures.1 in
    let stack = c.args.stack.now in
    let xs = c.snapshots-device-items.result.now in
    let i = c.loop-device.device-index in
    let x = c.device-item.result in
    let f : ℕ → List ℕ = status_line stack c.args.mapper.now.state in
    let is : IsSnapshot stack x = search rules in
    let line = name_at stack x ++ after_name (device_len stack x) c.usage-usage.result in
    let line_is : line ≡ f x = line_of stack c.args.mapper.now c.loop-device.mapper x c.usage-usage.result c.requires c.loop-device.invariant.0 is c.usage-usage.ensures.usage in
    let rest = flat_map f (drop (i + 1) xs) in
    rw (p.1, p.2) (and_then (flat_map f (take i xs)) (f x ++ rest) (ap (flat_map f) (sym c.snapshots-device-items.ensures.ids) ∙ flat_map_at f xs i x c.loop-device-test.true c.device-item.is) c.loop-device.invariant.1
    (stopped line rest (rw line_is) c.in_err-write_line.ensures))
