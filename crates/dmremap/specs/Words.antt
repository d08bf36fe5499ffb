-- The program's command line, and the job or the fault that words of the command line stand for.
use Rattle.dmremap.specs.Base.{[], ℕ, Bool, true, false, List, Option, None, Some, Result, IfOk, ⊤, codes, drop, map, not, option_and_then, option_map, unwrap_or, Bor, before_first, list_any, option_map_or, bytes_eq, digits_value, Format, Lvm, Tables, Job, Concise, Table, App, Row, Rule, Text, app_of, fault_of, first_of, kind_of, new_app, new_rule, subcommand_of, with_rule, with_subcommand}
use Rattle.std.specs.Prelude.{◌≡◌, ◌≢◌, ◌∷◌, ◌&&◌, ◌||◌, if◌then◌else◌}
use Rattle.std.specs.Str.Parse.{without_leading_plus}
use Rattle.clap.specs.Kinds.{IsAmong}
use Rattle.clap.specs.Simple.{on_top}
use Rattle.clap.specs.ValueTests.{accepts}
use Rattle.clap.specs.declared.builder.command.Command.{Command}
use Rattle.clap.specs.declared.builder.ArgAction.{ArgAction}
use Rattle.clap.specs.declared.builder.ArgAction.TheVariants.{SetTrue, Version}
use Rattle.clap.specs.declared.builder.value_parser.ValueParser.{ValueParser}
use Rattle.clap.specs.declared.builder.value_parser.ValueParser.TheVariants.{Names, Unsigned}
use Rattle.clap.specs.declared.error.Error.{Error}
use Rattle.clap.specs.declared.error.kind.ErrorKind.{ErrorKind}
use Rattle.clap.specs.declared.error.kind.ErrorKind.TheVariants as kind
use Rattle.dmremap.specs.Explanation.{is_explained}
use Rattle.dmremap.specs.Job.{JobWords, RangeWords, SourceWords, check_words, explain_words, file_words, image_words, job_words, map_words, metadata_words, name_words, print_words, read_words, replay_words, split_words}
use Rattle.dmremap.specs.declared.status.TheConstants.{STATUS_DONE, STATUS_MEMORY, STATUS_WORDS}
use Rattle.dmremap.specs.declared.words.WordsFault.{WordsFault}
use Rattle.dmremap.specs.declared.words.WordsFault.TheVariants.{Words, Disks, Memory}

-- ---- the command line

-- the words that are accepted as FORMAT
abbrev pub formats : List Text
formats = codes "lvm" ∷ codes "concise" ∷ codes "table" ∷ codes "images" ∷ []

-- the format that a word of `formats` names; the word `images` is handled elsewhere
abbrev pub format_named : Text → Format
format_named word = if bytes_eq word (codes "lvm") then Lvm else (if bytes_eq word (codes "concise") then Tables Concise else Tables Table)

-- clap accepts exactly the words in `taken` as a value
pub record TakesNames (taken : List Text) (parser : ValueParser) : Type 0 where
  pub names : Bor (List (Bor Text))
  pub is_names : parser ≡ Names names
  pub are_taken : map (λ name. name.now) names.now ≡ taken

-- the parsers of FORMAT: one for commands that accept every format, and one for `metadata`, whose only format is `images`
pub record Parsers : Type 0 where
  pub any : ValueParser
  pub images : ValueParser

pub record TakeFormats (parsers : Parsers) : Type 0 where
  pub any : TakesNames formats parsers.any
  pub images : TakesNames (codes "images" ∷ []) parsers.images

-- a required argument, which the help shows with one value name
abbrev pub required_rule : Text → Rule
required_rule id = record (new_rule id) { value_names = 1; required = true }

-- FORMAT: a required argument that must be one of the parser's words
abbrev pub format_rule : ValueParser → Rule
format_rule parser = record (required_rule (codes "format")) { parser = Some parser }

-- an optional argument, which the help shows with one value name
abbrev pub optional_rule : Text → Rule
optional_rule id = record (new_rule id) { value_names = 1 }

-- a flag, `--NAME`, given at most once
abbrev pub flag_rule : Text → ArgAction → Rule
flag_rule id action = record (new_rule id) { long = Some id; action = Some action }

-- the flag that asks for status lines
abbrev pub status_rule : Rule
status_rule = flag_rule (codes "status") SetTrue

-- the option for a file of earlier requests, `--before REQUESTS`, given at most once
abbrev pub before_rule : Rule
before_rule = record (optional_rule (codes "before")) { long = Some (codes "before") }

-- the option for a list of paths, `--paths PATHS`, given at most once
abbrev pub paths_rule : Rule
paths_rule = record (optional_rule (codes "paths")) { long = Some (codes "paths") }

-- the parser of a number of sectors: any u64
abbrev pub sectors_parser : ValueParser
sectors_parser = Unsigned 0 18446744073709551615

-- an option for a number of sectors, `--NAME SECTORS`, given at most once
abbrev pub sectors_rule : Text → Rule
sectors_rule id = record (optional_rule id) { long = Some id; parser = Some sectors_parser }

-- the flag that asks for the version
abbrev pub version_rule : Rule
version_rule = flag_rule (codes "version") Version

-- a command with three arguments
abbrev pub three_app : Text → (first second third : Rule) → App
three_app name first second third = with_rule (with_rule (with_rule (new_app name) first) second) third

-- a command that loads files, `NAME FORMAT FILE [DISKS]`: DISKS is optional for clap because `lvm` and `images` don't have it
abbrev pub loading_app : Text → ValueParser → App
loading_app name parser = three_app name (format_rule parser) (required_rule (codes "file")) (optional_rule (codes "disks"))

-- `map FORMAT FILE [DISKS] [--status] [--before REQUESTS] [--paths PATHS]`
abbrev pub map_app : ValueParser → App
map_app parser = with_rule (with_rule (with_rule (loading_app (codes "map") parser) status_rule) before_rule) paths_rule

-- `replay FORMAT FILE [DISKS] [--paths PATHS]`
abbrev pub replay_app : ValueParser → App
replay_app parser = with_rule (loading_app (codes "replay") parser) paths_rule

-- `read FORMAT FILE [DISKS] DEVICE [--from SECTOR] [--count SECTORS] [--paths PATHS]`: DEVICE is optional for clap because not every format has DISKS
abbrev pub read_app : ValueParser → App
read_app parser =
    with_rule (with_rule (with_rule (with_rule (loading_app (codes "read") parser) (optional_rule (codes "device"))) (sectors_rule (codes "from"))) (sectors_rule (codes "count"))) paths_rule

-- `metadata images PATHS`
abbrev pub metadata_app : ValueParser → App
metadata_app parser = with_rule (with_rule (new_app (codes "metadata")) (format_rule parser)) (required_rule (codes "file"))

-- `name VG LV [LAYER]`
abbrev pub name_app : App
name_app = three_app (codes "name") (required_rule (codes "vg")) (required_rule (codes "lv")) (optional_rule (codes "layer"))

-- `splitname NAME`
abbrev pub split_app : App
split_app = with_rule (new_app (codes "splitname")) (required_rule (codes "name"))

-- the program without its commands: clap requires a command, prints the help if there is no word, and offers no short flag for the version
abbrev pub bare_app : App
bare_app = on_top (λ s. record s {
  subcommand_required = true;
  arg_required_else_help = true;
  has_version = true;
  disable_version_flag = true;
}) (new_app (codes "dmremap"))

-- the program with these commands added
abbrev pub with_commands : App → List App → App
with_commands line [] = line
with_commands line (command ∷ commands) = with_commands (with_subcommand line command.top) commands

-- the program with all of its commands; before a command, only the flag for the version may be given
abbrev pub command_line : Parsers → App
command_line parsers = with_commands (with_rule bare_app version_rule)
    (map_app parsers.any ∷ loading_app (codes "table") parsers.any ∷ loading_app (codes "concise") parsers.any
    ∷ loading_app (codes "check") parsers.any ∷ replay_app parsers.any ∷ read_app parsers.any ∷ metadata_app parsers.images ∷ name_app ∷ split_app ∷ [])

-- the result is the command that `app` describes, unless memory ran out
abbrev pub HasApp : {E : Type 0} → App → Result Command E → Type 0
HasApp app result = IfOk result (λ command. app_of command ≡ app)

-- ---- from clap's matches to a job

-- whether a flag was given: clap then has the text `true` for the flag
abbrev pub has_flag : Text → List Row → Bool
has_flag id rows = option_map_or (λ text. bytes_eq text (codes "true")) (first_of id rows) false

-- the text of a required word; clap always has one
abbrev pub word_of : Text → List Row → Text
word_of id rows = unwrap_or (first_of id rows) []

-- the source of FORMAT FILE [DISKS]: DISKS is an error with `lvm`, and required with the other formats
abbrev pub files_at : Format → Text → Option Text → Option SourceWords
files_at Lvm file None = Some (file_words Lvm file None)
files_at Lvm file (Some disks) = None
files_at (Tables form) file None = None
files_at (Tables form) file (Some disks) = Some (file_words (Tables form) file (Some disks))

-- the source of the format `images`, whose list of paths is FILE: neither DISKS nor `--paths` may be given
abbrev pub images_at : Text → (disks paths : Option Text) → Option SourceWords
images_at list None None = Some (image_words list)
images_at list None (Some paths) = None
images_at list (Some disks) paths = None

-- the source that FORMAT names, with this word for DISKS; None if a word is missing or not allowed
abbrev pub source_by : (format : Text) → List Row → (disks : Option Text) → Option SourceWords
source_by format rows disks =
    if bytes_eq format (codes "images") then images_at (word_of (codes "file") rows) disks (first_of (codes "paths") rows)
    else files_at (format_named format) (word_of (codes "file") rows) disks

-- the source that the words of a command name; None if DISKS or `--paths` doesn't fit FORMAT
abbrev pub source_in : List Row → (disks : Option Text) → Option SourceWords
source_in rows disks = source_by (word_of (codes "format") rows) rows disks

-- the job of the command of this name, which loads a source; any name not listed here is `replay`
abbrev pub loading_job : Text → List Row → SourceWords → JobWords
loading_job command rows from =
    if bytes_eq command (codes "map") then map_words from (first_of (codes "paths") rows) (first_of (codes "before") rows) (has_flag (codes "status") rows)
    else (if bytes_eq command (codes "table") then print_words Table from
    else (if bytes_eq command (codes "concise") then print_words Concise from
    else (if bytes_eq command (codes "check") then check_words from else replay_words from (first_of (codes "paths") rows))))

-- the job of a command that loads a source; None if DISKS or `--paths` doesn't fit FORMAT
abbrev pub source_job : Text → List Row → Option JobWords
source_job command rows = option_map (loading_job command rows) (source_in rows (first_of (codes "disks") rows))

-- the number that a text spells; clap accepts only texts that spell one
abbrev pub number_of : Text → Option ℕ
number_of text = if accepts false sectors_parser text then Some (digits_value 10 (without_leading_plus text)) else None

abbrev pub number_at : Text → List Row → Option ℕ
number_at id rows = option_and_then number_of (first_of id rows)

-- the range of sectors to read for `read`: by default from sector 0, and up to the end of the device
abbrev pub range_at : List Row → (device : Text) → RangeWords
range_at rows device = record { device = device; from = unwrap_or (number_at (codes "from") rows) 0; count = number_at (codes "count") rows }

-- DISKS and DEVICE, from two optional words: DEVICE is the last word that was given, and DISKS the one before it, if any
abbrev pub last_of : (second third : Option Text) → Option Text × Option Text
last_of second (Some device) = (second, Some device)
last_of second None = (None, second)

-- the job of `read` from a source; a source of files requires `--paths`
abbrev pub read_from : SourceWords → (paths : Option Text) → RangeWords → Option JobWords
read_from (file_words format file disks) None range = None
read_from from paths range = Some (read_words from paths range)

-- the job of `read` for this range; None if DISKS or `--paths` is missing or doesn't fit FORMAT
abbrev pub range_job : List Row → (disks : Option Text) → RangeWords → Option JobWords
range_job rows disks range = option_and_then (λ from. read_from from (first_of (codes "paths") rows) range) (source_in rows disks)

-- the job of `read`; None if a word is missing, or doesn't fit FORMAT
abbrev pub read_job : List Row → Option JobWords
read_job rows =
    let last = last_of (first_of (codes "disks") rows) (first_of (codes "device") rows) in
    option_and_then (λ device. range_job rows last.0 (range_at rows device)) last.1

-- the job of `name`
abbrev pub name_job : List Row → JobWords
name_job rows = name_words (record { vg = word_of (codes "vg") rows; lv = word_of (codes "lv") rows; layer = first_of (codes "layer") rows })

-- the job of the command of this name with these words; None if DISKS or `--paths` is missing or doesn't fit FORMAT
abbrev pub job_in : Text → List Row → Option JobWords
job_in command rows =
    if bytes_eq command (codes "name") then Some (name_job rows)
    else (if bytes_eq command (codes "splitname") then Some (split_words (word_of (codes "name") rows))
    else (if bytes_eq command (codes "metadata") then Some (metadata_words (word_of (codes "file") rows))
    else (if bytes_eq command (codes "read") then read_job rows
    else source_job command rows)))

-- the job of the subcommand that clap found; clap refuses words without a subcommand
abbrev pub said_by : Option (Text × List Row) → Option JobWords
said_by met = option_and_then (λ m. job_in m.0 m.1) met

-- ---- the job or the fault of words

-- one of the words before the first `--` is a lone hyphen
abbrev pub lone_hyphen_in : List Text → Bool
lone_hyphen_in words = list_any (λ w. bytes_eq w (codes "-"))
    (before_first (λ w. bytes_eq w (codes "--")) words)

-- one of the words after the program's name, before the first `--`, is a lone hyphen
abbrev pub has_lone_hyphen : List Text → Bool
has_lone_hyphen words = lone_hyphen_in (drop 1 words)

-- clap accepts the words, and `said` is the job that they ask for; None if DISKS or `--paths` doesn't fit FORMAT
pub record IsTaken (words : List Text) (said : Option JobWords) : Type 0 where
  pub parsers : Parsers
  pub formats : TakeFormats parsers
  pub taken : fault_of (command_line parsers) words ≡ []
  pub says : said_by (subcommand_of (command_line parsers) words) ≡ said

-- the fault is an error of kind `k`, or it is that memory ran out
abbrev pub IsOfKind : ErrorKind → WordsFault → Type 0
IsOfKind k (Words error) = kind_of error ≡ k
IsOfKind k Disks = ⊥
IsOfKind k Memory = ⊤

-- clap refuses the words with this error, which isn't that memory ran out
pub record IsRefused (words : List Text) (error : Error) : Type 0 where
  pub parsers : Parsers
  pub formats : TakeFormats parsers
  pub among : IsAmong (kind_of error) (fault_of (command_line parsers) words)
  pub no_memory : kind_of error ≢ kind.OutOfMemory

-- clap refuses the words, and this is the fault; or memory ran out
abbrev pub IsUntaken : List Text → WordsFault → Type 0
IsUntaken words (Words error) = IsRefused words error
IsUntaken words Disks = ⊥
IsUntaken words Memory = ⊤

-- the words ask for this job, which is that of a command, and no word is a lone hyphen
pub record IsCommandOf (words : List Text) (job : Job) : Type 0 where
  pub hyphen : has_lone_hyphen words ≡ false
  pub taken : IsTaken words (Some (job_words job))

-- the error for refused words: an unknown argument if one of the words is a lone hyphen, or else clap's error
abbrev pub IsErrorFor : (hyphen : Bool) → List Text → Error → Type 0
IsErrorFor true words error = kind_of error ≡ kind.UnknownArgument
IsErrorFor false words error = IsRefused words error

-- the words ask for no command, because of this fault. Memory can run out for any words; the fault `Disks` requires that clap accepts the words
abbrev pub IsRefusedFor : List Text → WordsFault → Type 0
IsRefusedFor words (Words error) = IsErrorFor (has_lone_hyphen words) words error
IsRefusedFor words Disks = (has_lone_hyphen words ≡ false) × IsTaken words None
IsRefusedFor words Memory = ⊤

-- a word of messages that is also the name of a command, so that `help` with this word explains the command
abbrev pub is_command : Text → Bool
is_command word = bytes_eq word (codes "name") || bytes_eq word (codes "read")

-- the word that `help WORD` is to explain, if it is no command and has an explanation
abbrev pub asked_word : List Text → Option Text
asked_word (program ∷ help ∷ asked ∷ []) = if bytes_eq help (codes "help") && not (is_command asked) && is_explained asked then Some asked else None
asked_word _ = None

-- the job explains the word `asked` if there is one, or else is the job of a command
abbrev pub IsJobBy : (asked : Option Text) → List Text → Job → Type 0
IsJobBy (Some word) words job = job_words job ≡ explain_words word
IsJobBy None words job = IsCommandOf words job

-- the words ask for this job
abbrev pub IsJobOf : List Text → Job → Type 0
IsJobOf words job = IsJobBy (asked_word words) words job

-- the words ask for nothing, because of this fault
abbrev pub IsFaultOf : List Text → WordsFault → Type 0
IsFaultOf words fault = (asked_word words ≡ None) × IsRefusedFor words fault

-- ---- the exit status of a fault

-- the error is a request for help or for the version, not a fault of the words
abbrev pub is_shown : ErrorKind → Bool
is_shown kind.DisplayHelp = true
is_shown kind.DisplayVersion = true
is_shown _ = false

-- the exit status for words with this fault
abbrev pub status_of : WordsFault → ℕ
status_of (Words error) = if is_shown (kind_of error) then STATUS_DONE else STATUS_WORDS
status_of Disks = STATUS_WORDS
status_of Memory = STATUS_MEMORY

-- ---- clap's errors as faults

-- the error is that a command is unknown
abbrev pub is_invalid : ErrorKind → Bool
is_invalid kind.InvalidSubcommand = true
is_invalid _ = false

-- the fault is that a command is unknown
abbrev pub is_unknown : WordsFault → Bool
is_unknown (Words error) = is_invalid (kind_of error)
is_unknown _ = false

-- the error is that memory ran out while clap read the words
abbrev pub is_memory : ErrorKind → Bool
is_memory kind.OutOfMemory = true
is_memory _ = false

-- the fault for an error that clap returned
abbrev pub fault_from : Error → WordsFault
fault_from error = if is_memory (kind_of error) then Memory else Words error
