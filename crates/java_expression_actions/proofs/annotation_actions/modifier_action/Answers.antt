use Rattle.java_expression_actions.specs.AnnotationActions.{perform_annotation}
use Rattle.java_expression_actions.proofs.AnnotationActionLaws.{at_public, at_protected, at_private, at_static, at_final, at_abstract}
use Rattle.java_expression_actions.proofs.annotation_actions.modifier_action.Goals as goal

pub returns-in-Public : goal.returns-in-Public
returns-in-Public c = λ limit. c.word_action.ensures (perform_annotation limit c.args.action _) (λ all rest e. rw (c.in-Public.is, e) (at_public limit all rest))

pub returns-in-Protected : goal.returns-in-Protected
returns-in-Protected c = λ limit. c.word_action-in-Protected.ensures (perform_annotation limit c.args.action _) (λ all rest e. rw (c.in-Protected.is, e) (at_protected limit all rest))

pub returns-in-Private : goal.returns-in-Private
returns-in-Private c = λ limit. c.word_action-in-Private.ensures (perform_annotation limit c.args.action _) (λ all rest e. rw (c.in-Private.is, e) (at_private limit all rest))

pub returns-in-Static : goal.returns-in-Static
returns-in-Static c = λ limit. c.word_action-in-Static.ensures (perform_annotation limit c.args.action _) (λ all rest e. rw (c.in-Static.is, e) (at_static limit all rest))

pub returns-in-Final : goal.returns-in-Final
returns-in-Final c = λ limit. c.word_action-in-Final.ensures (perform_annotation limit c.args.action _) (λ all rest e. rw (c.in-Final.is, e) (at_final limit all rest))

pub returns-in-Abstract : goal.returns-in-Abstract
returns-in-Abstract c = λ limit. c.word_action-in-Abstract.ensures (perform_annotation limit c.args.action _) (λ all rest e. rw (c.in-Abstract.is, e) (at_abstract limit all rest))
