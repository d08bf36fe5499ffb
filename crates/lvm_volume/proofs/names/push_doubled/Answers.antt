use Rattle.lvm_volume.proofs.Prelude.{◌∙◌, ap, arith, list_all, string_bytes, is_letter}
use Rattle.lvm_volume.proofs.Splits.{push_hyphen, push_plain, letter_at}
use Rattle.lvm_volume.proofs.names.push_doubled.Goals as goal
use Rattle.lvm_volume.proofs.names.push_doubled.Goals.{then-byte-eq45+in_ok-push-2, else-byte-eq45}

pub loop-byte-preserved : goal.loop-byte-preserved
loop-byte-preserved c =
    let xs = c.as_bytes-byte-items.result.now in
    let i = c.loop-byte.byte-index in
    let ascii = letter_at xs i (ap (list_all is_letter) c.as_bytes-byte-items.ensures.value ∙ c.requires) c.loop-byte-test.true in
    let own = c.in_ok-push.ensures.ascii ascii in
    elim c.if-byte-eq45.branch [
      | then-byte-eq45+in_ok-push-2 w ↦ ap string_bytes w.text-is
          ∙ push_hyphen xs i (string_bytes c.args.text.now) (string_bytes c.loop-byte.text) (string_bytes c.push.new.self) (string_bytes w.push-then-byte-eq45.new.self) _ c.loop-byte-test.true c.loop-byte.invariant c.in_ok-push.ensures.bytes own w.if-byte-eq45.true (rw (← w.in_ok-push-2.ensures.ascii (omega arith)) w.in_ok-push-2.ensures.bytes)
      | else-byte-eq45 w ↦ ap string_bytes w.text-is
          ∙ push_plain xs i (string_bytes c.args.text.now) (string_bytes c.loop-byte.text) (string_bytes c.push.new.self) _ c.loop-byte-test.true c.loop-byte.invariant c.in_ok-push.ensures.bytes own w.if-byte-eq45.false
    ]
