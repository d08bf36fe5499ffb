-- What clap's contracts imply for the program's own command line.
use Rattle.dmremap.proofs.Prelude.{◌∙◌, Bool, List, Option, Result, Ok, Err, IfOk, Some, None, option_map, [], not, true, false, true≢false, ap, ap₂, refl, sym, subst, inl, inr, cond, JobWords, HasApp, IsOfKind, IsRefusedFor, IsTaken, IsUntaken, Parsers, TakeFormats, command_line, fault_from, has_lone_hyphen, is_invalid, is_memory, is_unknown, job_in, said_by}
use Rattle.clap.specs.Kinds.{HasKind, IsAmong}
use Rattle.clap.specs.Words.{AddsSubcommand, App, HasMatchesOf, Row, Text, app_of, fault_of, is_simple, is_simple_and_free, kind_of, shape_of, subcommand_rows_of, with_subcommand}
use Rattle.clap.specs.declared.builder.command.Command.{Command}
use Rattle.clap.specs.declared.builder.command.Command.TheViews.{out-Command}
use Rattle.clap.specs.declared.error.Error.{Error}
use Rattle.clap.specs.declared.error.kind.ErrorKind.{ErrorKind}
use Rattle.clap.specs.declared.error.kind.ErrorKind.TheVariants as kind
use Rattle.clap.specs.declared.parser.matches.ArgMatches.{ArgMatches}
use Rattle.clap.proofs.OnLiterals.{clap_on_literals}
use Rattle.dmremap.specs.declared.words.WordsFault.{WordsFault}
use Rattle.dmremap.specs.declared.words.WordsFault.TheVariants.{Words, Disks, Memory}
use Rattle.std.specs.Prelude.{◌≡◌, ◌&&◌}

-- a command that a parse reads as a plain one has no global argument
third : (a b c d : Bool) → (a && (b && (not c && d))) ≡ true → c ≡ false
third true true false d e = refl
third a b c d e = absurd (true≢false (sym e))

plain_local : (command : Command) → (shape_of command).is_plain ≡ true → (out-Command command).has_globals ≡ false
plain_local command plain = third _ _ _ _ plain

-- adding a subcommand to the command line adds it to what the definitions parse with
pub command_added : {E : Type 0} (app added : App) (line command : Command) (result : Result Command E) → app_of line ≡ app → app_of command ≡ added → added.top.is_plain ≡ true
    → IfOk result (AddsSubcommand line command) → HasApp (with_subcommand app added.top) result
command_added app added line command (Ok longer) line_is command_is plain adds =
    adds.shape (plain_local command (rw (← plain, ← command_is))) ∙ ap₂ (λ (a b : App). with_subcommand a b.top) line_is command_is
command_added app added line command (Err fault) line_is command_is plain adds = tt

-- clap's matches are the ones that the definitions compute, whatever the parsers of FORMAT
pub simple : (parsers : Parsers) → is_simple (command_line parsers) ≡ true
unfolding clap_on_literals
simple parsers = refl

-- clap's errors have the kinds that the definitions compute, whatever the parsers of FORMAT
pub simple_and_free : (parsers : Parsers) → is_simple_and_free (command_line parsers) ≡ true
unfolding clap_on_literals
simple_and_free parsers = refl

-- an error that clap's contract allows, converted, is a fault that the definitions allow
pub refused : (parsers : Parsers) (line : App) (words : List Text) (error : Error) → TakeFormats parsers
    → (is_simple_and_free line ≡ true → HasKind (fault_of line words) error) → line ≡ command_line parsers → IsUntaken words (fault_from error)
refused parsers line words error formats kinds line_is = go (is_memory (kind_of error)) refl
  where
    go : (b : Bool) → is_memory (kind_of error) ≡ b → IsUntaken words (cond b Memory (Words error))
    go true e = tt
    go false e = record {
      parsers = parsers;
      formats = formats;
      among = elim (rw line_is at (kinds (ap is_simple_and_free line_is ∙ simple_and_free parsers))) [
        | inl memory ↦ absurd (true≢false (sym (ap is_memory memory) ∙ e))
        | inr among ↦ among
      ];
      no_memory = λ memory. true≢false (sym (ap is_memory memory) ∙ e);
    }

-- the job of a found subcommand is the one that the matches stand for
pub said_met : {X : Type 0} (command_in : X → Text) (rows_in : X → List Row) (found : Option X) (command : Text) (given : List Row)
    → Some command ≡ option_map command_in found → Some given ≡ option_map (λ (p : Text × List Row). p.1) (option_map (λ x. (command_in x, rows_in x)) found)
    → said_by (Some (command, given)) ≡ said_by (option_map (λ x. (command_in x, rows_in x)) found)
said_met command_in rows_in None command given named has = cc
said_met command_in rows_in (Some x) command given named has =
    let same : command ≡ command_in x = cc in let args : given ≡ rows_in x = cc in ap₂ job_in same args

-- the job in the matches of words that clap accepts is the job that these words ask for
pub taken : (parsers : Parsers) (line : App) (words : List Text) (said : Option JobWords) (matches : ArgMatches) → TakeFormats parsers
    → (is_simple_and_free line ≡ true → fault_of line words ≡ []) → HasMatchesOf line words matches
    → said ≡ said_by (subcommand_rows_of matches) → line ≡ command_line parsers → IsTaken words said
taken parsers line words said matches formats kinds has_matches said_is line_is = record {
  parsers = parsers;
  formats = formats;
  taken = cc (kinds (ap is_simple_and_free line_is ∙ simple_and_free parsers));
  says = let met = has_matches (ap is_simple line_is ∙ simple parsers) in
      cc (ap said_by met.1);
}

-- the only kind of an unknown command is `InvalidSubcommand`
invalid : (k : ErrorKind) → is_invalid k ≡ true → k ≡ kind.InvalidSubcommand
invalid kind.InvalidSubcommand is = refl
invalid k is = absurd (true≢false (sym is))

-- a fault of an unknown command can be reported with another text
pub retold : (words : List Text) (told fault : WordsFault) → is_unknown fault ≡ true → IsOfKind kind.InvalidSubcommand told → IsUntaken words fault → IsUntaken words told
retold words Memory fault unknown is untaken = tt
retold words Disks fault unknown is untaken = absurd is
retold words (Words other) (Words error) unknown is untaken =
    let same : kind_of error ≡ kind_of other = invalid (kind_of error) unknown ∙ sym is in
    record {
      parsers = untaken.parsers;
      formats = untaken.formats;
      among = subst (λ k. IsAmong k (fault_of (command_line untaken.parsers) words)) same untaken.among;
      no_memory = λ memory. untaken.no_memory (same ∙ memory);
    }
retold words (Words other) fault unknown is untaken = absurd (true≢false (sym unknown))

-- words without a lone hyphen that clap refuses are refused with clap's error
pub refused_for : (words : List Text) (fault : WordsFault) → has_lone_hyphen words ≡ false → IsUntaken words fault → IsRefusedFor words fault
refused_for words (Words error) none untaken = rw none untaken
refused_for words Disks none untaken = absurd untaken
refused_for words Memory none untaken = tt
