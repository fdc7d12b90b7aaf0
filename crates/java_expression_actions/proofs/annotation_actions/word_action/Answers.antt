use Rattle.std.proofs.Common.{ap}
use Rattle.java_expression_actions.proofs.annotation_actions.word_action.Goals as goal

pub returns : goal.returns
returns c = λ o h. rw (h _ _ c.pop_modifiers-all.ensures) (rw (ap (λ x. x.tree) c.word.ensures, ap (λ x. x.depth) c.word.ensures) at c.leave_modifier.ensures)
