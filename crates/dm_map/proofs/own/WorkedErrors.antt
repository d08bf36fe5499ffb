-- Examples that check the definitions of due chunks and of ample stacks, worked out by hand.
use Rattle.dm_map.proofs.Prelude.{ℕ, inl, Bool, true, false, List, [], refl, arith, Target, Device, Disk, ResolvedSnapshot, DeviceSpec, Line, Description, all_over, copied, origin_over, IsAmple, chunk_count, Due, IsLosing, due, due_in, State, none_taken, serve}
use Rattle.dm_table.specs.declared.tables.table.DevRef.TheVariants as refs
use Rattle.dm_table.specs.declared.load.place.Place.{Place}
use Rattle.dm_table.specs.declared.tables.table.StoreKind.{StoreKind}
use Rattle.dm_table.specs.declared.tables.table.StoreKind.TheVariants.{Keeping, Persistent}
use Rattle.dm_table.specs.declared.tables.table.Target.TheVariants as targets
use Rattle.dm_table.specs.declared.tables.disk.Disk as disks
use Rattle.dm_table.specs.declared.load.place.Part.TheVariants as parts
use Rattle.std.specs.Prelude.{◌≡◌, ◌∷◌}

abbrev pub at : Place
at = record { part = parts.Source; number = 1 }

abbrev pub line : (start len : ℕ) → Target → Line
line start len target = record { start = start; len = len; target = target; at = at }

abbrev pub device : (name : ℕ) → Bool → List Line → DeviceSpec
device name ro lines = record { name = name ∷ []; ro = ro; lines = lines; at = at }

abbrev pub disk : (name len : ℕ) → disks.Disk
disk name len = record { name = name ∷ []; len = len; at = at }

-- 20 sectors in chunks of 8 are three chunks, the last one shorter
chunks_of_20 : chunk_count 8 20 ≡ 3
chunks_of_20 = refl

chunks_of_16 : chunk_count 8 16 ≡ 2
chunks_of_16 = refl

chunks_of_none : chunk_count 8 0 ≡ 0
chunks_of_none = refl

-- o: the device of an origin; s: a snapshot of it, of 16 sectors in chunks of 8; e: a device with one line of its own
abbrev sample : StoreKind → (store_len : ℕ) → (own : Target) → Description
sample kind store_len own = record {
  devices = device 111 false (line 0 16 (targets.Origin (refs.Disk (48 ∷ []))) ∷ [])
      ∷ device 115 false (line 0 16 (targets.Snapshot (refs.Disk (48 ∷ [])) (refs.Disk (49 ∷ [])) kind 8) ∷ [])
      ∷ device 101 false (line 0 4 own ∷ []) ∷ [];
  disks = disk 48 16 ∷ disk 49 store_len ∷ [];
}

-- a store of 32 sectors has two places, and one of 31 sectors has one
roomy : IsAmple (sample Persistent 32 targets.Zero)
roomy = (tt, (omega arith, (tt, tt)))

short : IsAmple (sample Persistent 31 targets.Zero) → ⊥
short ample = let room = ample.1.0 in omega (arith, room)

with_error : IsAmple (sample Persistent 32 targets.Error) → ⊥
with_error ample = ample.1.1.0

-- Which chunks are due

abbrev over_disk : StoreKind → ResolvedSnapshot
over_disk kind = record { origin = Disk 0; store = Disk 1; kind = kind; chunk = 8 }

-- s took its chunk 0, and its store has room for no other
abbrev full : State
full = none_taken ∷ record { chunks = 0 ∷ []; valid = true } ∷ none_taken ∷ []

abbrev chunk_1 : StoreKind → Due
chunk_1 kind = record { device = 1; snapshot = over_disk kind; chunk = 1 }

own_due : due (sample Persistent 24 targets.Zero) full (Device 1) 8 ≡ chunk_1 Persistent ∷ []
unfolding due_in lib.Count.ones
own_due = refl

-- a full store that keeps its snapshot valid refuses a write to the snapshot, so no chunk is due
refused : due (sample Keeping 24 targets.Zero) full (Device 1) 8 ≡ []
unfolding due_in lib.Count.ones
refused = refl

-- the chunk is due if the write is to the origin
served_due : due (sample Keeping 24 targets.Zero) full (Device 0) 8 ≡ chunk_1 Keeping ∷ []
unfolding due_in serve origin_over copied all_over lib.Count.ones
served_due = refl

-- the due chunk has no place in the full store, so the snapshot becomes lost
served_lost : IsLosing (sample Keeping 24 targets.Zero) full 1 (chunk_1 Keeping)
served_lost = record { of = refl; valid = refl; fresh = refl; why = inl refl }
