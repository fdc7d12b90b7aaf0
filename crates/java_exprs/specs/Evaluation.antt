-- What a derivation means: its actions, one after the other, on one stack.
use Rattle.std.specs.Prelude.{ℕ, List, [], ◌∷◌, Option, Some, None}
use Rattle.java_syntax.specs.declared.actions.Action.{Action}
use Rattle.java_syntax.specs.declared.actions.Action.TheVariants as action
use Rattle.java_syntax.specs.Derives.{Lexeme, Step, Took, Used, Did}
use Rattle.java_values.specs.Values.{ValueTree}
use Rattle.java_values.specs.Outcomes.{Outcome, Made, Misfit, ◌>>=◌}
use Rattle.java_expression_actions.specs.TokenActions.{perform_token}
use Rattle.java_expression_actions.specs.ExpressionActions.{perform_expression}
use Rattle.java_expression_actions.specs.AnnotationActions.{perform_annotation}
use Rattle.java_statement_actions.specs.StatementActions.{perform_statement}
use Rattle.java_statement_actions.specs.DeclarationActions.{perform_declaration}

-- what an action does, where this is the last token
abbrev pub perform : ℕ → Action → Option Lexeme → List ValueTree → Outcome (List ValueTree)
perform limit (action.Token a) None s = Misfit
perform limit (action.Token a) (Some t) s = perform_token limit t a s
perform limit (action.Compute a) last s = perform_expression limit a s
perform limit (action.Annotate a) last s = perform_annotation limit a s
perform limit (action.State a) last s = perform_statement limit a s
perform limit (action.Declare a) last s = perform_declaration limit a s

-- what the steps leave, the first step first
abbrev pub evaluate : ℕ → List Step → Option Lexeme → List ValueTree → Outcome (List ValueTree)
evaluate limit [] last s = Made s
evaluate limit (Took t ∷ es) last s = evaluate limit es (Some t) s
evaluate limit (Used p ∷ es) last s = evaluate limit es last s
evaluate limit (Did a ∷ es) last s = perform limit a last s >>= (λ r. evaluate limit es last r)
