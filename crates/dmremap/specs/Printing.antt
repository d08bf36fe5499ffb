-- What is printed for the devices of a stack, for the parts of a name, and for a word of messages.
use Rattle.dmremap.specs.Base.{ℕ, List, [], Some, Result, Ok, Err, DeviceSpec, concise_text, table_text, code, Description, IsReport, NameFault, Builds, IsSpaced, NameParts, Refusal, TableForm, Concise, Table, Done, Ended, Refused}
use Rattle.dmremap.specs.Answers.{Answer, Tells, Writes, end_of}
use Rattle.dmremap.specs.declared.exit.Refusal.TheVariants as refusals
use Rattle.std.specs.Prelude.{◌≡◌, ◌∷◌, ◌++◌}

-- ---- texts to print

-- a text to print, or why the command is refused
pub data Said : Type 0 where
  Prints : List ℕ → Said
  Refuses : Refusal → Said

-- the answer that writes the text, or that reports the refusal
abbrev pub answer_said : Said → Answer
answer_said (Prints text) = Writes text (Some (end_of (Ended Done)))
answer_said (Refuses refusal) = Tells (end_of (Refused refusal))

-- the answer writes a text, or reports a refusal, that `Says` allows
abbrev pub SaidBy : (Says : Said → Type 0) → Answer → Type 0
SaidBy Says answer = (said : Said) × Says said × (answer_said said ≡ answer)

-- the text with a newline at its end
abbrev pub line : List ℕ → List ℕ
line text = text ++ code "\n" ∷ []

-- the text of devices in a table form: table text or the concise form
abbrev pub written_as : TableForm → List DeviceSpec → List ℕ
written_as Table devices = table_text devices
written_as Concise devices = concise_text devices

-- `said` prints the report of the stack
abbrev pub ReportSays : Description → Said → Type 0
ReportSays stack said = (text : List ℕ) × IsReport stack text × (Prints text ≡ said)

-- what `name` prints: the name that was built, or why it can't be built
abbrev pub name_said : Result (List ℕ) NameFault → Said
name_said (Ok name) = Prints (line name)
name_said (Err fault) = Refuses (refusals.Name fault)

-- what `splitname` prints: the parts of the name, separated by single spaces, or a refusal if no parts build that name
abbrev pub SplitSays : List ℕ → Said → Type 0
SplitSays name (Prints text) = (parts : List ℕ) × IsSpaced name parts × (line parts ≡ text)
SplitSays name (Refuses refusal) = ((p : NameParts) → Builds p name → ⊥) × (refusals.Split ≡ refusal)
