-- A job, with texts in place of its borrowed words.
use Rattle.dmremap.specs.Base.{ℕ, Bool, Option, option_map, NameParts, Format, Job, TableForm, Text}
use Rattle.dmremap.specs.declared.job.Job.TheVariants as job
use Rattle.dmremap.specs.declared.job.SectorRange.{SectorRange}
use Rattle.dmremap.specs.declared.job.Source.{Source}
use Rattle.dmremap.specs.declared.job.Source.TheVariants as source

-- what a command loads: a file, perhaps with a disk list, or a list of images; each path is the text of a word
pub data SourceWords : Type 0 where
  file_words : Format → (file : Text) → (disks : Option Text) → SourceWords
  image_words : (list : Text) → SourceWords

-- the sectors to read for `read`, and the name of their device; without a count, all sectors up to the end of the device
pub record RangeWords : Type 0 where
  pub device : Text
  pub from : ℕ
  pub count : Option ℕ

-- a job with the texts of its words in place of the borrowed words
pub data JobWords : Type 0 where
  map_words : SourceWords → (paths earlier : Option Text) → (status : Bool) → JobWords
  metadata_words : (list : Text) → JobWords
  print_words : TableForm → SourceWords → JobWords
  check_words : SourceWords → JobWords
  replay_words : SourceWords → (paths : Option Text) → JobWords
  read_words : SourceWords → (paths : Option Text) → RangeWords → JobWords
  name_words : NameParts → JobWords
  split_words : Text → JobWords
  explain_words : Text → JobWords

-- a source with its borrowed words replaced by their texts
abbrev pub source_words : Source → SourceWords
source_words (source.Files format file disks) = file_words format file.now (option_map (λ path. path.now) disks)
source_words (source.Images list) = image_words list.now

-- a range of sectors with its borrowed device name replaced by its text
abbrev pub range_words : SectorRange → RangeWords
range_words range = record { device = range.device.now; from = range.from; count = range.count }

-- a job with its borrowed words replaced by their texts
abbrev pub job_words : Job → JobWords
job_words (job.Map from paths earlier status) =
    map_words (source_words from) (option_map (λ path. path.now) paths) (option_map (λ path. path.now) earlier) status
job_words (job.Metadata list) = metadata_words list.now
job_words (job.Print form from) = print_words form (source_words from)
job_words (job.Check from) = check_words (source_words from)
job_words (job.Replay from paths) = replay_words (source_words from) (option_map (λ path. path.now) paths)
job_words (job.Read from paths range) = read_words (source_words from) (option_map (λ path. path.now) paths) (range_words range)
job_words (job.Name vg lv layer) = name_words (record { vg = vg.now; lv = lv.now; layer = option_map (λ l. l.now) layer })
job_words (job.SplitName name) = split_words name.now
job_words (job.Explain text) = explain_words text.now
