-- The names and lemmas that proofs use, in one place.
pub use Rattle.lvm_text.proofs.Std.{All, AllPairs, BTreeMap, Bool, Err, IfErr, IfOk, IsCharBoundary, IsCharBoundary-after_ascii, IsCharBoundary-before_ascii, IsCharBoundary-start, IsUtf8, IsUtf8-drop, List, MatchOption, MatchOption-at_some, None, Ok, Option, Result, Some, Updates, [], add-one, add-zero, and_from, and_parts, ap, append-nil, append_assoc, arith, bytes_eq, bytes_eq-Decides, cases_Bool, cases_lt, cond, cond_both, digit_value, digit_value_digit, digits_value, drop, drop-append-le, drop-drop, drop_all, eq-eqb, eqb, eqb-true, err_from_is_err_and, false, false_from_ne_true, get_or, inl, inr, is_none, is_some, length, length-append, length-drop, list_all, lt-ltb, map_push, min, nat_cmp, nat_le, nat_lt, nat_tests, ne_eqb, not, not-true, not_from_false, option_and_then, option_map, or_cases, or_left, or_right, refl, rules, same_Some, slice_cmp, some_pair_parts, subst, suc, sym, take, take_all, take_rest, true, true≢false, unwrap_or, zero, zero-add, ℕ, ◌∙◌}
pub use Rattle.lvm_text.specs.Prelude.{Answers, Begins, BeginsText, Close, Comma, Comment, Cut, Describes, Element, Entry, Equals, Finds, HasFault, Inner, IsBadSyntax, IsBadToken, IsBreak, IsElement, IsFound, IsSyntaxLine, IsText, IsToken, IsTwice, IsTwiceInside, IsUnfinished, IsUnsound, IsWord, Items, Key, Lexeme, ListClose, ListOpen, Nothing, Open, Reads, ReadsBy, ReadsLeaf, ReadsList, ReadsListBy, ReadsMore, ReadsMoreBy, ReadsScalars, ReadsValue, ReadsValues, Scalar, Section, Several, Shown, Single, Spells, Stage, State, Text, TextFault, Token, TokenAtLine, Tree, TreeOf, Value, Values, White, Whole, Word, are_digits, before, begins_key, begins_word, bounded_of, code, content_view, deep_lines, element_from, element_view, fault_of, first_line, has_key, has_line, head_line, hit, inner_lines, is_end, is_escapable, is_escape, is_key, is_line, is_list_open, is_open, is_over, is_plain, is_raw, is_refused, is_white, is_word_byte, item_of, keys_of, leading_word_bytes, leads_scalar, line_after, lines_agree, newline_at, newlines, node_of, node_view, number_lines, position_of, put, put_section, put_token, raw_length, run, scalar_first, scalar_of, scalar_then, scalar_view, scalar_views, sections_in, sections_of, sign_of, spelling, stage_after, token_spelling, token_view, tokens_from, twice_lines, values_of, view, views}
unfoldable pub use Rattle.lvm_text.specs.Prelude.{element_at, number_of}
