-- The device with a name, and what its id says about it.
use Rattle.dm_replay.proofs.Prelude.{ℕ, Bool, true, false, List, [], None, Some, Result, Ok, Err, IfErr, get_or, length, subst, arith, position, common_steps, position-Some, AreTops, IsTop, Description, device_id, is_same, ReplayFault, HasTop, IsUnanswered, Replaying}
use Rattle.dm_table.specs.declared.tables.table.DeviceSpec.{DeviceSpec}
use Rattle.dm_replay.specs.declared.replay_fault.ReplayFault.TheVariants as faults
use Rattle.std.specs.Prelude.{◌≡◌, ◌<◌, ◌∷◌}

pub named_id : (stack : Description) (name : List ℕ) (id : ℕ) → position (λ device. is_same device.name name) stack.devices ≡ Some id → id ≡ device_id stack name
named_id stack name id named = grind (arith, common_steps)

pub named_there : (stack : Description) (name : List ℕ) (id : ℕ) → position (λ device. is_same device.name name) stack.devices ≡ Some id → id < length stack.devices
named_there stack name id named = in_list stack.devices named
  where
    in_list : (devices : List DeviceSpec) → position (λ device. is_same device.name name) devices ≡ Some id → id < length devices
    in_list [] is = absurd cc
    in_list (first ∷ devices) is = (position-Some (λ device. is_same device.name name) (first ∷ devices) id first is).0

-- a device that is noted as a top device is one

pub noted_top : (stack : Description) (tops : List Bool) (device at : ℕ) (read : Bool) → AreTops stack tops → device < length stack.devices → at ≡ device → read ≡ get_or tops at false → read ≡ true → IsTop stack device
noted_top stack tops device at read are within same is so = (are.each device within).0 cc

-- whether the device with a name is a top device

pub named_top : (stack : Description) (name : List ℕ) (id : ℕ) → position (λ device. is_same device.name name) stack.devices ≡ Some id → IsTop stack id → HasTop stack name
named_top stack name id named top = record { id = id; named = named; top = top }

pub top_named : (stack : Description) (name : List ℕ) (id : ℕ) → position (λ device. is_same device.name name) stack.devices ≡ Some id → HasTop stack name → IsTop stack id
top_named stack name id named has =
    let same : has.id ≡ id = cc in
    subst (IsTop stack) same has.top

pub none_named : (stack : Description) (name : List ℕ) → position (λ device. is_same device.name name) stack.devices ≡ None → HasTop stack name → ⊥
none_named stack name none has = cc

-- a result says the same if "top device" is expressed by an equivalent condition

unanswered_by : (fault : ReplayFault) (IsOfTop IsTheSame : Type 0) (old new : Replaying) → (IsOfTop → IsTheSame) → (IsTheSame → IsOfTop) → IsUnanswered fault IsOfTop old new → IsUnanswered fault IsTheSame old new
unanswered_by faults.Untidy IsOfTop IsTheSame old new there back is = is
unanswered_by faults.Memory IsOfTop IsTheSame old new there back is = (is.0, there is.1, is.2)
unanswered_by faults.NotTop IsOfTop IsTheSame old new there back is = (is.0, λ same. is.1 (back same), is.2)
unanswered_by faults.Stopped IsOfTop IsTheSame old new there back is = is

pub unanswered_result : {X : Type 0} (result : Result X ReplayFault) (IsOfTop IsTheSame : Type 0) (old new : Replaying) → (IsOfTop → IsTheSame) → (IsTheSame → IsOfTop) → IfErr result (λ fault. IsUnanswered fault IsOfTop old new) → IfErr result (λ fault. IsUnanswered fault IsTheSame old new)
unanswered_result (Ok x) IsOfTop IsTheSame old new there back is = tt
unanswered_result (Err fault) IsOfTop IsTheSame old new there back is = unanswered_by fault IsOfTop IsTheSame old new there back is
