use Rattle.lvm_head.proofs.Prelude.{ℕ, ◌∙◌, List, Ok, ap, subst, sym, length, get_or, refl, length-append, arith, slice_range, elements, common_steps, ring_place, byte_at}
use Rattle.lvm_head.proofs.TextLemmas.{gathered_fault, gathered_none, gathered_row}
use Rattle.lvm_head.proofs.text.read_ring.Goals as goal
use Rattle.std.specs.Prelude.{◌%◌, ◌+◌, ◌≡◌, ◌≤◌}

pub loop-number-init : goal.loop-number-init
loop-number-init g c = record {
  block = refl;
  count = rw c.in_ok-bytes.ensures.items refl;
  inside = omega arith;
  listed = refl;
  still = λ held seen. seen;
  bytes = λ held seen. gathered_none (λ number. byte_at (held c.args.disk) (ring_place c.args.start c.args.location number)) c.in_ok-bytes.bytes.items c.in_ok-bytes.ensures.items;
}

pub returns-in-Err-clause-is : goal.returns-in-Err-clause-is
returns-in-Err-clause-is g c = λ held seen some.
    let n : ℕ = c.loop-number.number in
    gathered_fault (λ number. byte_at (held c.args.disk) (ring_place c.args.start c.args.location number)) n c.args.location.size c.loop-number.bytes.items c.in-Err.fault
    (c.loop-number.invariant.bytes held (c.read_row.ensures.still held seen))
    (ap (byte_at (held c.args.disk)) (sym c.ring_place-place.ensures.is) ∙ c.in-Err.ensures.fault held seen)
    c.loop-number-test.true

pub loop-number-preserved : goal.loop-number-preserved
loop-number-preserved g c =
    let n : ℕ = c.loop-number.number in
    let place : ℕ = c.ring_place-place.result in
    let count : ℕ = c.in-Ok.read in
    let part : List ℕ = slice_range c.read_row.new.block (place % 512) (place % 512 + count) in
    let room : length c.read_row.new.block ≡ 65536 = omega (arith, c.loop-number.invariant.block, c.read_row.auto.block) in
    let within : count ≤ c.row_len-len.result = c.in-Ok.ensures.inside in
    let few : place % 512 + c.row_len-len.result ≤ 65536 = subst (λ (p : ℕ). p % 512 + c.row_len-len.result ≤ 65536) (sym c.ring_place-place.ensures.is) c.row_len-len.ensures.few in
    let len : length part ≡ count = grind (arith, common_steps) in
    record {
      block = room;
      count = rw (c.in_ok-extend_from_slice.ensures.items, length-append, c.loop-number.invariant.count, len) refl;
      inside = omega (arith, within, c.row_len-len.ensures.inside);
      listed = c.read_row.ensures.listed ∙ c.loop-number.invariant.listed;
      still = λ held seen. c.loop-number.invariant.still held (c.read_row.ensures.still held seen);
      bytes = λ held seen. rw c.in_ok-extend_from_slice.ensures.items (
          gathered_row (λ number. byte_at (held c.args.disk) (ring_place c.args.start c.args.location number)) n count c.loop-number.bytes.items part
          (c.loop-number.invariant.bytes held (c.read_row.ensures.still held seen)) len
          (λ i less.
          let at : ring_place c.args.start c.args.location (n + i) ≡ place + i = c.row_len-len.ensures.row i (omega (arith, less, within)) ∙ ap (λ (p : ℕ). p + i) (sym c.ring_place-place.ensures.is) in
          let same : get_or part i 0 ≡ get_or c.read_row.new.block (place % 512 + i) 0 = grind (arith, elements) in
          ap (byte_at (held c.args.disk)) at ∙ c.in-Ok.ensures.bytes held seen i less ∙ ap Ok (sym same)));
    }
