use Rattle.dm_map.proofs.Prelude.{ℕ, sym, ◌∙◌, arith, Result, Snapshot, ResolvedSnapshot, Write, SinkPast, WalkerView, IsMapped, target_mapping, IsSnapshotWritten}
use Rattle.dm_map.proofs.walk.Chunks.{in_one_chunk, write_line_step}
use Rattle.dm_map.proofs.walk.Rows.{walked_as}
use Rattle.dm_map.proofs.walk.WalkedOn.{mapped_cut, mapped_on, mapped_whole}
use Rattle.dm_map.proofs.walk.write_chunk.write_snapshot.Goals as goal

written : {S R F : Type 0} {past : SinkPast S} {result : Result R F} {old new : S} {before after : WalkerView} (device sector n : ℕ) (snapshot : ResolvedSnapshot)
    → IsSnapshotWritten past result old new before after snapshot device sector n → IsMapped past result old new before after (target_mapping Write 0 device 0 (Snapshot snapshot)) sector n
written {before} device sector n snapshot walked = record { walked = walked_as (write_line_step before.stack 0 device sector n snapshot before.state) walked; bounded = λ is sound. absurd cc }

all_written : {S R F : Type 0} {past : SinkPast S} {result : Result R F} {old new : S} {before after : WalkerView} (device sector n : ℕ) (snapshot : ResolvedSnapshot)
    → IsMapped past result old new before after (target_mapping Write 0 device 0 (Snapshot snapshot)) sector n → IsSnapshotWritten past result old new before after snapshot device sector n
all_written {before} device sector n snapshot mapped = walked_as (sym (write_line_step before.stack 0 device sector n snapshot before.state)) mapped.walked

pub write_chunk-requires : goal.write_chunk-requires
write_chunk-requires g c =
    let a = c.args in let l = c.chunks in let part = c.part_of_chunk-part.ensures in let walked = l.invariant.mapped.walked in let asked = c.requires.asked in
    record {
      some = omega (arith, part, c.chunks-test.true, asked.inside.sound.chunk_some);
      chunk = in_one_chunk a.walker.now.stack l.walker.stack a.device a.sector a.len l.from l.left c.part_of_chunk-part.result a.snapshot.now asked.inside walked.stack l.invariant.position part;
      sink = record { stack = walked.kept ∙ asked.sink.stack ∙ sym walked.stack; room = omega (arith, part, asked.sink.room, walked.room, l.invariant.within) };
    }

pub returns-in_err-write_chunk : goal.returns-in_err-write_chunk
returns-in_err-write_chunk g c =
    let a = c.args in let l = c.chunks in let part = c.part_of_chunk-part.ensures in
    all_written a.device a.sector a.len a.snapshot.now (mapped_cut g.met.S.Sink.lawful (λ is. absurd cc) c.from_residual.ensures.0 l.invariant (written a.device l.from c.part_of_chunk-part.result a.snapshot.now c.in_err-write_chunk.ensures)
    (omega (arith, part, c.chunks-test.true, c.requires.asked.inside.sound.chunk_some)) (omega (arith, part)))

pub chunks-preserved : goal.chunks-preserved
chunks-preserved g c =
    let a = c.args in let l = c.chunks in let part = c.part_of_chunk-part.ensures in
    mapped_on g.met.S.Sink.lawful (λ is. absurd cc) l.invariant (written a.device l.from c.part_of_chunk-part.result a.snapshot.now c.in_ok-write_chunk.ensures)
    (omega (arith, part, c.chunks-test.true, c.requires.asked.inside.sound.chunk_some)) (omega (arith, part)) (λ is. absurd cc)

pub returns : goal.returns
returns g c =
    let a = c.args in all_written a.device a.sector a.len a.snapshot.now (mapped_whole c.chunks.invariant (omega (arith, c.chunks-test.false)))
