-- The names that contracts in this crate and in the crates above use, collected in one place.
pub use Rattle.lvm_text.specs.Base.{BTreeMap, Err, IfErr, IfOk, IfSome, IsTrue, List, MatchOption, MatchResult, Memory, None, Ok, OnOk, Some, TextFault, [], arith, digits_value, drop, false, is_ascii, is_none, is_some, length, max, option_map, slice_index, suc, take, true, ℕ}
pub use Rattle.lvm_text.specs.Build.{IsTwice, IsTwiceInside, ReadsLeaf, ReadsScalars, ReadsValue, ReadsValues, ShowsScalar, before, begins_key, bounded_of, is_comma, is_list_open, is_open, item_of, left, scalar_first}
pub use Rattle.lvm_text.specs.Bytes.{code}
pub use Rattle.lvm_text.specs.Checks.{deep_lines, fault_of, first_line, has_key, head_line, hit, is_refused, leads_scalar, level_after, number_lines, opens_deep, twice_lines}
pub use Rattle.lvm_text.specs.Grammar.{BeginsText, IsBreak, IsSyntaxLine, IsText, IsUnfinished, Reads, ReadsBy, ReadsList, ReadsListBy, ReadsMore, ReadsMoreBy, are_digits, is_key, scalar_of}
unfoldable pub use Rattle.lvm_text.specs.Grammar.{number_of}
pub use Rattle.lvm_text.specs.Iterate.{item_view, sections_left}
pub use Rattle.lvm_text.specs.Machine.{State, is_over, run, scalar_then, stage_after}
pub use Rattle.lvm_text.specs.Positions.{Finds, position_of}
pub use Rattle.lvm_text.specs.Reading.{Answers, Describes, HasFault, IsBadSyntax, IsTokenFault, IsUnsound, TreeOf}
pub use Rattle.lvm_text.specs.Repeat.{inner_lines}
pub use Rattle.lvm_text.specs.Scan.{comment_from, element_from, is_escape, leading_word_bytes, newline_at, raw_length, sign_of, string_from}
unfoldable pub use Rattle.lvm_text.specs.Scan.{element_at}
pub use Rattle.lvm_text.specs.Spelling.{Begins, Comment, Cut, Element, IsBadToken, IsElement, IsToken, IsWord, Lexeme, SomeElement, Spells, White, begins_word, is_end, is_escapable, is_line, is_plain, is_raw, is_white, is_word_byte, line_after, newlines, put_token, spelling, token_spelling, tokens_from}
pub use Rattle.lvm_text.specs.Token.{Close, Comma, Equals, ListClose, ListOpen, Open, Text, Token, TokenAtLine, Word}
pub use Rattle.lvm_text.specs.TokenView.{element_view, found_view, token_view, view, views}
pub use Rattle.lvm_text.specs.Tree.{Content, Inner, Int, IsFound, Items, Nothing, Scalar, Section, Several, Shown, Single, Tree, Values, Whole, keys_of, node_of, sections_of, size_of}
pub use Rattle.lvm_text.specs.View.{content_view, has_line, lines_agree, node_view, put, put_section, scalar_view, scalar_views, sections_in, values_of}
pub use Rattle.lvm_text.specs.declared.syntax.Stage.{Stage}
pub use Rattle.lvm_text.specs.declared.syntax.Stage.TheVariants.{Key}
pub use Rattle.lvm_text.specs.declared.tree.Entry.{Entry}
pub use Rattle.lvm_text.specs.declared.tree.Value.{Value}
