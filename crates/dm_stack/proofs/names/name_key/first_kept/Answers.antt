use Rattle.dm_stack.proofs.Prelude.{ℕ, Bool, true, get_or, replicate, refl, subst, ◌∙◌, arith, slice_range, list_all, range_with_len, bytes_eq, get_or-range_with_len, AllPass-from_list_all, bytes_eq-Decides}
use Rattle.dm_stack.specs.declared.names.name_key.TheConstants.{KEPT}
use Rattle.dm_stack.proofs.names.KeyLemmas.{and_kept}
use Rattle.dm_stack.proofs.names.name_key.first_kept.Goals as goal
use Rattle.std.specs.Prelude.{◌≡◌, ◌-◌, ◌<◌, ◌++◌}

-- the mask for this length keeps so many bytes and clears the others
abbrev is_kept : ℕ → Bool
is_kept len = bytes_eq (slice_range KEPT (16 - len) (32 - len)) (replicate len 255 ++ replicate (16 - len) 0)

kept_are : (len : ℕ) → len < 16 → slice_range KEPT (16 - len) (32 - len) ≡ replicate len 255 ++ replicate (16 - len) 0
kept_are len few =
    let each : list_all is_kept (range_with_len 0 16) ≡ true = refl in
    let at : get_or (range_with_len 0 16) len 0 ≡ len = get_or-range_with_len 0 16 len 0 few ∙ omega arith in
    let is : is_kept len ≡ true = subst (λ n. is_kept n ≡ true) at (AllPass-from_list_all is_kept (range_with_len 0 16) each len 0 few) in
    (bytes_eq-Decides _ _).0 is

pub returns : goal.returns
returns c =
    let array = c.args.array.now in
    let len = c.args.len in
    let kept = c.as_array-kept.ensures ∙ kept_are len c.requires in
    cc (and_kept array len (16 - len) (omega (arith, c.told-array, c.requires)) c.fits-array)
