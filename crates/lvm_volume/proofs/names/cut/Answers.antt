use Rattle.lvm_volume.proofs.Prelude.{◌∙◌, ap, ℕ, List, drop, length, get_or, arith, code, slice_length, after_hyphen}
use Rattle.std.proofs.lemmas.Str.Pattern.{strip_prefix_char}
use Rattle.lvm_volume.proofs.Splits.{length_within, hyphen_at, after_is}
use Rattle.lvm_volume.proofs.names.cut.Goals as goal
use Rattle.std.specs.Prelude.{◌≡◌, ◌≤◌}

length_is : (n : ℕ) (xs bs : List ℕ) → n ≡ slice_length xs → xs ≡ bs → n ≡ slice_length bs
length_is n xs bs e f = e ∙ ap slice_length f

pub split_at-requires : goal.split_at-requires
split_at-requires c =
    let bs = c.args.name.now in
    let n : c.slice_length.result ≡ slice_length bs = length_is _ _ bs c.slice_length.ensures c.as_bytes.ensures.value in
    let within : c.slice_length.result ≤ length bs = omega (arith, n, length_within bs) in
    (within, λ lt high. let is_hyphen : get_or bs c.slice_length.result 0 ≡ code "-" = rw n (hyphen_at bs (omega (arith, n, lt))) in absurd (omega (arith, is_hyphen, high)))

pub returns-clause-later : goal.returns-clause-later
returns-clause-later c =
    let bs = c.args.name.now in
    let n : c.slice_length.result ≡ slice_length bs = length_is _ _ bs c.slice_length.ensures c.as_bytes.ensures.value in
    after_is c.split_at.result.1.now c.strip_prefix.result (strip_prefix_char (code "-") c.split_at.result.1.now c.strip_prefix.result c.strip_prefix.ensures.cases (omega arith))
    ∙ ap after_hyphen (c.split_at.ensures.back ∙ ap (λ m. drop m bs) n)
