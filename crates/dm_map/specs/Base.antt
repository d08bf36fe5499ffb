-- Names of std and of lower crates that the specs of dm_map import, gathered in one module.
pub use Rattle.dm_map.specs.declared.pieces.piece.Piece.{Piece}
pub use Rattle.dm_map.specs.declared.state.trie_taken.link.Node.{Node}
pub use Rattle.dm_map.specs.declared.state.trie_taken.link.Node.TheVariants.{Empty, Fork, Number}
pub use Rattle.dm_map.specs.declared.walk.homes.HomeStretch.{HomeStretch}
pub use Rattle.dm_stack.specs.Prelude.{AreInside, AreOnDisks, Below, Description, IsBeneath, IsError, IsLine, IsLineOf, IsSnapshot, IsSnapshotSound, IsSound, IsStore, IsTidy, IsTop, IsZero, LegsView, Lies, Looking, all_lines, allocated, below, below_plain, below_target, binary_digits, chunk_at, depth_of, device_len, disk_len, found_at, is_metadata, is_ro_at, is_same_chunk, is_striped, lower_depth, lower_len, lower_of, metadata, place, place_count, snapshots, stack_depth}
unfoldable pub use Rattle.dm_stack.specs.Prelude.{snapshots_over}
pub use Rattle.dm_stack.specs.declared.checks.graph.TheConstants.{MOST_DEPTH}
pub use Rattle.dm_stack.specs.declared.checks.limits.TheConstants.{MOST_LENGTH}
pub use Rattle.dm_stack.specs.declared.id.Lower.{Lower}
pub use Rattle.dm_stack.specs.declared.id.Lower.TheVariants.{Device, Disk}
pub use Rattle.dm_stack.specs.declared.lines.resolved_line.ResolvedLine.{ResolvedLine}
pub use Rattle.dm_stack.specs.declared.lines.resolved_line.ResolvedOrigin.{ResolvedOrigin}
pub use Rattle.dm_stack.specs.declared.lines.resolved_line.ResolvedOver.{ResolvedOver}
pub use Rattle.dm_stack.specs.declared.lines.resolved_line.ResolvedSnapshot.{ResolvedSnapshot}
pub use Rattle.dm_stack.specs.declared.lines.resolved_line.ResolvedTarget.{ResolvedTarget}
pub use Rattle.dm_stack.specs.declared.lines.resolved_line.ResolvedTarget.TheVariants.{Error, Origin, Snapshot}
pub use Rattle.dm_table.specs.Prelude.{ap, append-nil, append_assoc, cond, fault_of, refl, sym, ◌∙◌}
pub use Rattle.dm_table.specs.Std.{All, AllByRecursion, Bool, Err, IfNone, IfOk, IfSome, List, MatchBool, None, Ok, OnErr, OnOk, Option, Result, Some, [], bit_at, bit_xor, false, flat_map, is_none, is_some, length, list_any, map, min, nat_eq, nat_le, nat_lt, not, option_and_then, option_map, pointwise, replicate, slice_get, slice_index_or, slice_set, suc, take, true, vec_capacity, zero, ℕ}
unfoldable pub use Rattle.dm_table.specs.Std.{IsDistinct}
pub use Rattle.dm_table.specs.declared.requests.request.Op.{Op}
pub use Rattle.dm_table.specs.declared.requests.request.Op.TheVariants.{Read, Write}
pub use Rattle.dm_table.specs.declared.requests.request.Request.{Request}
pub use Rattle.std.proofs.lemmas.Map.Keys.{IsDistinct-prop}
