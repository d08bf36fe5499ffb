-- Device names that are built, and device names that are refused.
use Rattle.lvm_volume.proofs.Prelude.{ℕ, false, List, [], Option, Some, None, refl, subst, is_some, AllByRecursion, flat_map, Name, Real, Cow, NameFault, Record, Role, Volume, fault_of, device_parts, layers_of, unnamed_layer, unnamed_volume, append-nil_both}
use Rattle.lvm_volume.specs.declared.tables.device_names.Layer.{Layer}
use Rattle.lvm_volume.specs.declared.group.roles.Role.TheVariants as roles
use Rattle.lvm_volume.proofs.checks.Sound.{hit-nil}
use Rattle.std.specs.Prelude.{◌≡◌, ◌∷◌}

-- ---- volumes whose devices all get a name

not_some : (o : Option NameFault) → is_some o ≡ false → o ≡ None
not_some None e = refl
not_some (Some f) e = absurd cc

layers_named : (group : List ℕ) (volume : Volume) (layers : List (Option Layer)) → flat_map (unnamed_layer group volume) layers ≡ [] → AllByRecursion (λ layer. fault_of (device_parts group volume.name layer) ≡ None) layers
layers_named group volume [] e = tt
layers_named group volume (layer ∷ layers) e =
    let a = append-nil_both (unnamed_layer group volume layer) _ e in
    (not_some (fault_of (device_parts group volume.name layer)) (hit-nil _ Name volume.line a.0), layers_named group volume layers a.1)

-- ---- the names of a volume's devices, by its role

abbrev Named : List ℕ → Volume → Option Layer → Type 0
Named group volume layer = fault_of (device_parts group volume.name layer) ≡ None

volume_named : (group : List ℕ) (role : Role) (volume : Volume) → unnamed_volume group (role, volume) ≡ [] → AllByRecursion (Named group volume) (layers_of role)
unfolding unnamed_volume
volume_named group role volume e = layers_named group volume (layers_of role) e

pub plain_named : (group : List ℕ) (role : Role) (volume : Volume) → unnamed_volume group (role, volume) ≡ [] → role ≡ roles.Plain → Named group volume None
plain_named group role volume e is = (subst (λ (r : Role). AllByRecursion (Named group volume) (layers_of r)) is (volume_named group role volume e)).0

pub origin_named : (group : List ℕ) (role : Role) (volume : Volume) → unnamed_volume group (role, volume) ≡ [] → role ≡ roles.Origin → Named group volume (Some Real) × Named group volume None
origin_named group role volume e is =
    let both = subst (λ (r : Role). AllByRecursion (Named group volume) (layers_of r)) is (volume_named group role volume e) in
    (both.0, both.1.0)

pub store_named : (group : List ℕ) (role : Role) (volume : Volume) (snapshot : Record) → unnamed_volume group (role, volume) ≡ [] → role ≡ roles.Store snapshot → Named group volume (Some Cow) × Named group volume None
store_named group role volume snapshot e is =
    let both = subst (λ (r : Role). AllByRecursion (Named group volume) (layers_of r)) is (volume_named group role volume e) in
    (both.0, both.1.0)
