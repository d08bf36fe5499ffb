-- The values of the program's limits and exit statuses.
use Rattle.dm_table.specs.declared.load.part_input.TheConstants.{MOST_PART_BYTES}
use Rattle.dm_stack.specs.declared.checks.graph.TheConstants.{MOST_DEPTH}
use Rattle.dm_stack.specs.declared.checks.limits.TheConstants.{MOST_CHUNK, MOST_DEVICES, MOST_DISKS, MOST_LENGTH, MOST_LINES, MOST_STRIPES}
use Rattle.dm_stream.specs.declared.requests.lines.TheConstants.{MOST_LINE_BYTES}
use Rattle.dm_stream.specs.declared.requests.handling.TheConstants.{MOST_REQUESTS}
use Rattle.dmremap.specs.declared.status.TheConstants.{STATUS_BAD_REQUEST, STATUS_DONE, STATUS_MEMORY, STATUS_READ_FAULT, STATUS_REFUSED, STATUS_WORDS, STATUS_WRITE_FAULT}
use Rattle.std.specs.Prelude.{◌≡◌, ◌+◌, ◌^◌}

-- the limits and exit statuses that the documents promise
pub record AreLimits : Type 0 where
  pub part_bytes : MOST_PART_BYTES ≡ 1048576
  pub line_bytes : MOST_LINE_BYTES ≡ 4096
  pub requests : MOST_REQUESTS ≡ 1000000000000
  pub devices : MOST_DEVICES ≡ 1024
  pub disks : MOST_DISKS ≡ 1024
  pub lines : MOST_LINES ≡ 65536
  pub depth : MOST_DEPTH ≡ 32
  pub length : MOST_LENGTH ≡ 2 ^ 50
  pub stripes : MOST_STRIPES ≡ 128
  pub chunk : MOST_CHUNK + 1 ≡ 2 ^ 32
  pub done : STATUS_DONE ≡ 0
  pub refused : STATUS_REFUSED ≡ 1
  pub words : STATUS_WORDS ≡ 2
  pub bad_request : STATUS_BAD_REQUEST ≡ 3
  pub read_fault : STATUS_READ_FAULT ≡ 4
  pub write_fault : STATUS_WRITE_FAULT ≡ 5
  pub memory : STATUS_MEMORY ≡ 6
