use Rattle.dmremap.proofs.Prelude.{Option, ap, option_map, Bor, Text, found_of, rows_of}
use Rattle.dmremap.proofs.ReadLemmas.{job_read}
use Rattle.dmremap.proofs.words.read_job.Goals as goal

pub returns-in-Some : goal.returns-in-Some
returns-in-Some c =
    job_read (rows_of (found_of c.args.found.now)) _ _ _ _ _ _ _ c.last_of.ensures c.text_of.ensures c.text_of-2.ensures (ap (λ (device : Option (Bor Text)). option_map (λ text. text.now) device) c.in-Some.is) c.range_at.ensures c.range_job.ensures
