use Rattle.dm_table.proofs.Prelude.{refl, append_assoc, map, join_with_byte, err_from_is_err_and, body_text, flag_text}
use Rattle.dm_table.proofs.io.WriteLemmas.{stopped, and_then}
use Rattle.dm_table.proofs.tables.canonical_text.write_device.Goals as goal
use Rattle.std.specs.Prelude.{◌++◌}

pub returns-in_err-write_all : goal.returns-in_err-write_all
returns-in_err-write_all g c =
    let p = err_from_is_err_and c.from_residual.result c.from_residual.ensures.1 in
    rw (p.1, p.2) (stopped c.args.before.now (c.args.device.now.name ++ ((flag_text c.args.device.now.ro) ++ (join_with_byte 44 (map body_text c.args.device.now.lines)))) (simp append_assoc) c.in_err-write_all.ensures.wrote)

pub returns-in_err-write_all-2 : goal.returns-in_err-write_all-2
returns-in_err-write_all-2 g c =
    let p = err_from_is_err_and c.from_residual-in_err-write_all-2.result c.from_residual-in_err-write_all-2.ensures.1 in
    rw (p.1, p.2) (and_then c.args.before.now (c.args.device.now.name ++ ((flag_text c.args.device.now.ro) ++ (join_with_byte 44 (map body_text c.args.device.now.lines)))) (simp append_assoc) c.in_ok-write_all.ensures.wrote (stopped c.args.device.now.name ((flag_text c.args.device.now.ro) ++ (join_with_byte 44 (map body_text c.args.device.now.lines))) refl (rw (c.as_bytes.ensures.value, c.as_str.ensures.text) at c.in_err-write_all-2.ensures.wrote)))

pub returns-in_err-write_all-3 : goal.returns-in_err-write_all-3
returns-in_err-write_all-3 g c =
    let p = err_from_is_err_and c.from_residual-in_err-write_all-3.result c.from_residual-in_err-write_all-3.ensures.1 in
    rw (p.1, p.2) (and_then c.args.before.now (c.args.device.now.name ++ ((flag_text c.args.device.now.ro) ++ (join_with_byte 44 (map body_text c.args.device.now.lines)))) (simp append_assoc) c.in_ok-write_all.ensures.wrote (and_then c.args.device.now.name ((flag_text c.args.device.now.ro) ++ (join_with_byte 44 (map body_text c.args.device.now.lines))) refl (rw (c.as_bytes.ensures.value, c.as_str.ensures.text) at c.in_ok-write_all-2.ensures.wrote) (stopped (flag_text c.args.device.now.ro) (join_with_byte 44 (map body_text c.args.device.now.lines)) refl (rw c.flag_text.ensures at c.in_err-write_all-3.ensures.wrote))))

pub returns : goal.returns
returns g c =
    and_then c.args.before.now (c.args.device.now.name ++ ((flag_text c.args.device.now.ro) ++ (join_with_byte 44 (map body_text c.args.device.now.lines)))) (simp append_assoc) c.in_ok-write_all.ensures.wrote (and_then c.args.device.now.name ((flag_text c.args.device.now.ro) ++ (join_with_byte 44 (map body_text c.args.device.now.lines))) refl (rw (c.as_bytes.ensures.value, c.as_str.ensures.text) at c.in_ok-write_all-2.ensures.wrote) (and_then (flag_text c.args.device.now.ro) (join_with_byte 44 (map body_text c.args.device.now.lines)) refl (rw c.flag_text.ensures at c.in_ok-write_all-3.ensures.wrote) (rw c.as_slice.ensures at c.write_bodies.ensures)))
