-- Which fields are required for each type of segment.
use Rattle.lvm_volume.proofs.Prelude.{ℕ, true, false, [], codes, ap, sym, ◌∙◌, nat_lt, lt-ltb, le-ltb, Tree, Check, field, field_faults, fields_faults, number_at, text_at, at_key, later_fields, type_text}
use Rattle.lvm_volume.specs.declared.group.segment.TypeName.TheVariants.{Striped, Zero, Error, Snapshot}
use Rattle.lvm_volume.specs.fields.Fields.{Field}
use Rattle.lvm_volume.specs.fields.Kinds as kinds
use Rattle.std.specs.Prelude.{◌≡◌, ◌<◌, ◌≤◌, ◌++◌}

pub of_striped : (segment : Tree) (check : Check) → text_at (codes "type") segment ≡ type_text Striped
    → at_key kinds.Positive (codes "stripe_count") segment check ++ (at_key kinds.Stripes (codes "stripes") segment check ++ (field_faults check segment (field (codes "stripe_size") kinds.Number kinds.Several) ++ [])) ≡ fields_faults check segment later_fields
unfolding field_faults
of_striped segment check is = rw is

pub of_snapshot : (segment : Tree) (check : Check) → text_at (codes "type") segment ≡ type_text Snapshot
    → at_key kinds.Number (codes "chunk_size") segment check ++ (at_key kinds.Text (codes "origin") segment check ++ (at_key kinds.Text (codes "cow_store") segment check ++ [])) ≡ fields_faults check segment later_fields
unfolding field_faults
of_snapshot segment check is = rw is

pub of_zero : (segment : Tree) (check : Check) → text_at (codes "type") segment ≡ type_text Zero → fields_faults check segment later_fields ≡ []
unfolding field_faults
of_zero segment check is = rw is

pub of_error : (segment : Tree) (check : Check) → text_at (codes "type") segment ≡ type_text Error → fields_faults check segment later_fields ≡ []
unfolding field_faults
of_error segment check is = rw is

-- ---- the stripe size, with several stripes and with one

abbrev size_field : Field
size_field = field (codes "stripe_size") kinds.Number kinds.Several

pub of_several : (segment : Tree) (check : Check) (parts : ℕ) → text_at (codes "type") segment ≡ type_text Striped → parts ≡ number_at (codes "stripe_count") segment → 1 < parts
    → at_key kinds.Number (codes "stripe_size") segment check ≡ field_faults check segment size_field
unfolding field_faults
of_several segment check parts is are several =
    let more : nat_lt 1 (number_at (codes "stripe_count") segment) ≡ true = ap (nat_lt 1) (sym are) ∙ lt-ltb 1 parts several in
    rw (is, more)

pub of_one : (segment : Tree) (check : Check) (parts : ℕ) → text_at (codes "type") segment ≡ type_text Striped → parts ≡ number_at (codes "stripe_count") segment → parts ≤ 1
    → [] ≡ field_faults check segment size_field
unfolding field_faults
of_one segment check parts is are one =
    let none : nat_lt 1 (number_at (codes "stripe_count") segment) ≡ false = ap (nat_lt 1) (sym are) ∙ le-ltb 1 parts one in
    rw (is, none)
