-- What the commands other than `map` and `metadata` answer, given their words, their opening and the delivered requests.
use Rattle.dmremap.specs.Base.{Bool, true, false, Option, Some, Delivery, Description, built}
use Rattle.dmremap.specs.Answers.{Answer}
use Rattle.dmremap.specs.Explanation.{explanation}
use Rattle.dmremap.specs.Job.{JobWords, RangeWords, map_words, metadata_words, print_words, check_words, read_words, replay_words, name_words, split_words, explain_words}
use Rattle.dmremap.specs.Opening.{Opened, Opening}
use Rattle.dmremap.specs.Printing.{Prints, ReportSays, SaidBy, SplitSays, name_said, written_as}
use Rattle.dmremap.specs.ReplayWhole.{ReplaysOver}
use Rattle.dmremap.specs.Whole.{Start}
use Rattle.std.specs.Prelude.{◌≡◌}

-- the job is neither `map` nor `metadata`
abbrev pub is_other : JobWords → Bool
is_other (map_words from paths earlier status) = false
is_other (metadata_words list) = false
is_other _ = true

-- the job loads a source
abbrev pub is_loading : JobWords → Bool
is_loading (name_words parts) = false
is_loading (split_words name) = false
is_loading (explain_words word) = false
is_loading _ = true

-- the job reads requests
abbrev pub has_requests : JobWords → Bool
has_requests (replay_words from paths) = true
has_requests _ = false

-- the job reads sectors of a device
abbrev pub is_reading : JobWords → Bool
is_reading (read_words from paths range) = true
is_reading _ = false

-- what a job answers for a stack: the devices, the report, the answers of a replay on the stack's disks, or the bytes of a device's sectors
abbrev pub JobMakes : JobWords → (starts : Description → Start) → (reads : RangeWords → Description → Option Answer) → (requests : Delivery) → Description → Answer → Type 0
JobMakes (print_words form from) starts reads requests stack = SaidBy (λ said. Prints (written_as form stack.devices) ≡ said)
JobMakes (check_words from) starts reads requests stack = SaidBy (ReportSays stack)
JobMakes (replay_words from paths) starts reads requests stack = ReplaysOver (starts stack) stack requests
JobMakes (read_words from paths range) starts reads requests stack = λ answer. reads range stack ≡ Some answer
JobMakes _ starts reads requests stack = λ answer. ⊥

-- what a job answers: a job that loads nothing answers from its words alone, any other job from the stack that it opens
abbrev pub JobAnswers : JobWords → (Opens : Opening → Type 0) → (starts : Description → Start) → (reads : RangeWords → Description → Option Answer) → (requests : Delivery) → Answer → Type 0
JobAnswers (name_words parts) Opens starts reads requests = SaidBy (λ said. name_said (built parts) ≡ said)
JobAnswers (split_words name) Opens starts reads requests = SaidBy (SplitSays name)
JobAnswers (explain_words word) Opens starts reads requests = SaidBy (λ said. Prints (explanation word) ≡ said)
JobAnswers job Opens starts reads requests = Opened Opens (JobMakes job starts reads requests)
