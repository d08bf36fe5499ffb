-- How much of a snapshot's exception store is used (the kernel's admin guide, device-mapper/snapshot, status).
use Rattle.dm_map.specs.Base.{length, ResolvedSnapshot, Description, lower_len, allocated, metadata}
use Rattle.dm_map.specs.declared.state.usage.Usage.{Usage}
use Rattle.dm_map.specs.state.State.{Taken}

-- the used, total and metadata sectors that a snapshot's status shows, and whether the snapshot is valid
abbrev pub usage_of : Description → ResolvedSnapshot → Taken → Usage
usage_of stack snapshot taken = record {
  allocated = allocated snapshot.kind snapshot.chunk (length taken.chunks);
  total = lower_len stack snapshot.store;
  metadata = metadata snapshot.kind snapshot.chunk (length taken.chunks);
  valid = taken.valid;
}
