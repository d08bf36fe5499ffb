use Rattle.lvm_text.proofs.Boundaries.{word_boundary}
use Rattle.lvm_text.proofs.Prelude.{IsCharBoundary, subst, sym, ap, ◌∙◌, leading_word_bytes}
use Rattle.lvm_text.proofs.element.word.Goals as goal

pub split_at-requires : goal.split_at-requires
split_at-requires c = subst (IsCharBoundary c.args.rest.now) (sym (c.leading_word_bytes.ensures ∙ ap leading_word_bytes c.as_bytes.ensures.value)) (word_boundary c.args.rest.now c.utf8.rest)
