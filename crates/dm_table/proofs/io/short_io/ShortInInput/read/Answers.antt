use Rattle.dm_table.proofs.Prelude.{rules, ℕ, zero, suc, Ok, refl, add-zero, List, length, take, drop, sym, ap, ◌∙◌, arith, length-append, length-drop, length-take, eqb-suc-zero, eqb-false, ends_added, same_input}
use Rattle.dm_table.specs.io.ShortIo.{Supply, portion}
use Rattle.dm_table.specs.declared.io.device_io.InFault.{InFault}
use Rattle.dm_table.proofs.io.Portions.{rest_after, rest_after_is, front_is, handed_grows, left_shrinks}
use Rattle.dm_table.proofs.io.short_io.ShortInInput.read.Goals as goal
use Rattle.std.specs.Prelude.{◌≡◌, ◌<◌, ◌++◌}

-- all bytes of the input; and below, the place in them before the read and the slice after it
abbrev bytes : goal.After-self-1 → List ℕ
bytes c = c.self.inside.bytes.now

abbrev at : goal.After-self-1 → ℕ
at c = c.self.inside.at

abbrev filled : goal.After-self-1 → List ℕ
filled c = c.copy_from_slice.new.self ++ drop c.min-n.result c.args.buffer.now

-- the first bytes of the slice are the input's bytes from the place on
given_is : (c : goal.After-self-1) → take c.min-n.result (filled c) ≡ take c.min-n.result (drop (at c) (bytes c))
given_is c =
    front_is (bytes c) _ _ (at c) c.min-n.result c.copy_from_slice.ensures.after (omega (arith, c.min-n.ensures, c.min.ensures))

-- copying into the front of a slice doesn't change its length
room_is : (c : goal.After-self-1) → length (filled c) ≡ length c.args.buffer.now
room_is c =
    let n = c.min-n.result in
    let room = c.args.buffer.now in
    let parts = length-append c.copy_from_slice.new.self (drop n room) in
    omega (arith, parts, length-drop n room, length-take n room, c.copy_from_slice.ensures.len, c.min-n.ensures, c.min.ensures)

count_is : (c : goal.After-self-1) → c.min-n.result ≡ portion c.args.self.now.step (length c.args.self.now.left) (length (filled c))
count_is c =
    let step = ap (λ (s : Supply). s.step) c.self.view_is in
    let left = ap (λ (s : Supply). length s.left) c.self.view_is in
    omega (arith, room_is c, c.min-n.ensures, c.min.ensures, ap length (rest_after_is (bytes c) (at c)), step, left)

-- if bytes are left and the slice has room, the portion isn't empty
moves : (c : goal.After-self-1) → c.min-n.result ≡ 0 → 0 < length (filled c) → ⊥
moves c none roomy =
    let some_left = eqb-false (length (rest_after (bytes c) (at c))) 0 (sym c.is_empty.ensures ∙ c.if-is_empty.false) in
    omega (arith, room_is c, c.min-n.ensures, c.min.ensures, c.self.invariant.1)

-- a read that returned bytes met no end
no_end : (n room : ℕ) → (n ≡ 0 → 0 < room → ⊥) → ends_added {E = InFault} (Ok n) room ≡ 0
no_end zero zero moving = refl
no_end zero (suc room) moving = absurd (moving refl (omega arith))
no_end (suc n) room moving = rw eqb-suc-zero

pub returns-clause-past : goal.returns-clause-past
returns-clause-past c =
    let n = c.min-n.result in
    let given = filled c in
    let old = c.args.self.now.past in
    same_input _ _
    (rw (← c.self.view_is) (handed_grows (bytes c) _ (at c) n (given_is c)))
    (rw (add-zero, ← c.self.view_is))
    (rw (no_end n (length given) (moves c), add-zero, ← c.self.view_is))

pub returns-clause-exact : goal.returns-clause-exact
returns-clause-exact c = record {
  fault = search rules;
  count = count_is c;
  end = λ zero roomy. absurd (moves c zero roomy);
  left = cc (left_shrinks (bytes c) _ (at c) c.min-n.result (given_is c));
  plan = (cc, cc);
}
