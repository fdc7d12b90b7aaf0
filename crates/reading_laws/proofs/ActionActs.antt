-- All actions.
use Rattle.java_syntax.specs.declared.words.Word.{Word}
use Rattle.java_syntax.specs.declared.actions.Action.{Action}
use Rattle.java_syntax.specs.declared.actions.Action.TheVariants as action
use Rattle.reading_laws.proofs.Moves.{Acts}
use Rattle.reading_laws.proofs.Tables.{action_takes, action_leaves}
use Rattle.reading_laws.proofs.TokenActs.{token_acts}
use Rattle.reading_laws.proofs.ExpressionActs.{expression_acts}
use Rattle.reading_laws.proofs.AnnotationActs.{annotation_acts}
use Rattle.reading_laws.proofs.StatementActs.{statement_acts}
use Rattle.reading_laws.proofs.DeclarationActs.{declaration_acts}

pub action_acts : (x : Action) (w : Word) → Acts (action_takes x w) x (action_leaves x w)
action_acts (action.Token x) w = token_acts x w
action_acts (action.Compute x) w = expression_acts x w
action_acts (action.Annotate x) w = annotation_acts x w
action_acts (action.State x) w = statement_acts x w
action_acts (action.Declare x) w = declaration_acts x w
