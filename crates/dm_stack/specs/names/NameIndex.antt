-- An index over the names of devices or disks.
use Rattle.dm_stack.specs.Base.{ℕ, List, Some, String, length, map, replicate, slice_get, string_bytes, to_le_bytes, w64, All, IsDistinct}
use Rattle.indexmap.specs.IndexSet.{IndexSet}
use Rattle.dm_stack.specs.Description.{Description, is_same}
use Rattle.dm_stack.specs.checks.Soundness.{HaveSmallEnds}
use Rattle.dm_stack.specs.declared.names.name_index.Place.{Place}
use Rattle.dm_stack.specs.declared.names.name_key.NameKey.{NameKey}
use Rattle.dm_stack.specs.declared.names.name_key.TheConstants.{KEY_BYTES}
use Rattle.std.specs.Prelude.{◌≡◌, ◌-◌, ◌<◌, ◌++◌}

-- the names in the index, in the order in which they were added
abbrev pub names_in : {A S : Type 0} → IndexSet (String A) S → List (List ℕ)
names_in index = map string_bytes index.keys

-- no name is in the index twice
abbrev pub AreDistinct : {A S : Type 0} → IndexSet (String A) S → Type 0
AreDistinct index = IsDistinct (λ one other. is_same (string_bytes one) (string_bytes other)) index.keys

-- the key is that of a short name: its length, and its bytes as two words, filled up with zeros
pub record IsKeyOf (name : List ℕ) (key : NameKey) : Type 0 where
  pub len : key.len ≡ length name
  pub bytes : to_le_bytes w64 key.first ++ to_le_bytes w64 key.last ≡ name ++ replicate (16 - key.len) 0

-- the key of the place is that of a name, and the number of the place is the index of this name
pub record IsPlaceOf (names : List (List ℕ)) (place : Place) : Type 0 where
  pub name : List ℕ
  pub key : IsKeyOf name place.key
  pub found : slice_get names place.number ≡ Some name

-- every place with the key of a short name contains the number of that name
abbrev pub ArePlaces : List (List ℕ) → List Place → Type 0
ArePlaces names places = All (λ place. place.key.len < KEY_BYTES → IsPlaceOf names place) places

-- the names in the index all differ, and each place with a short key contains the number of its name
pub record IsIndex {A S : Type 0} (index : IndexSet (String A) S) (by_keys : List Place) : Type 0 where
  pub distinct : AreDistinct index
  pub places : ArePlaces (names_in index) by_keys

-- the indexed names are those of the description, and all of its lines end within the limit on lengths
pub record AreIndexed (stack : Description) (devices disks : List (List ℕ)) : Type 0 where
  pub device_names : devices ≡ map (λ device. device.name) stack.devices
  pub disk_names : disks ≡ map (λ disk. disk.name) stack.disks
  pub small : All (λ device. HaveSmallEnds device.lines) stack.devices
