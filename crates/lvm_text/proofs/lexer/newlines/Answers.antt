use Rattle.lvm_text.proofs.Prelude.{sym, token_view}
use Rattle.lvm_text.proofs.Elements.{comment_newlines, token_newlines}
use Rattle.lvm_text.proofs.lexer.newlines.Goals as goal

pub returns-in-Comment : goal.returns-in-Comment
returns-in-Comment c =
    let h = rw c.in-Comment.is at c.requires in
    sym (rw c.in-Comment.is (comment_newlines c.in-Comment.field-0.now h.1))

pub returns-in-Lexeme : goal.returns-in-Lexeme
returns-in-Lexeme c =
    let h = rw c.in-Lexeme.is at c.requires in
    sym (rw c.in-Lexeme.is (token_newlines (token_view c.in-Lexeme.field-0) h.0 h.1))
