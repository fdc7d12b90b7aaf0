-- What each action makes of a stack that begins with values of the kinds that it takes.
use Rattle.std.specs.Prelude.{◌≡◌, ℕ, List, ◌∷◌}
use Rattle.std.proofs.Common.{refl}
use Rattle.java_syntax.specs.declared.actions.TokenAction.{TokenAction}
use Rattle.java_syntax.specs.declared.actions.TokenAction.TheVariants as action
use Rattle.java_syntax.specs.Derives.{Lexeme}
use Rattle.java_values.specs.Values as kinds
use Rattle.java_values.specs.Values.{Value_of, ValueTree}
use Rattle.java_values.specs.Kinds.{◌▷◌, bottom, put, Fits}
use Rattle.java_values.specs.Outcomes.{Made, ◌>>=◌, IsNoMisfit}
use Rattle.java_values.proofs.Stacks.{meant_fits}
use Rattle.java_expression_actions.specs.TokenActions.{takes_token, leaves_token, act_token, perform_token}

pub at_place : (limit : ℕ) (t : Lexeme) (rest : List ValueTree) → perform_token limit t action.Place rest ≡ (act_token limit t action.Place bottom >>= (λ ys. Made (put (leaves_token action.Place) ys rest)))
unfolding perform_token
at_place limit t rest = refl

pub at_keep : (limit : ℕ) (t : Lexeme) (rest : List ValueTree) → perform_token limit t action.Keep rest ≡ (act_token limit t action.Keep bottom >>= (λ ys. Made (put (leaves_token action.Keep) ys rest)))
unfolding perform_token
at_keep limit t rest = refl

pub at_name : (limit : ℕ) (t : Lexeme) (rest : List ValueTree) → perform_token limit t action.Name rest ≡ (act_token limit t action.Name bottom >>= (λ ys. Made (put (leaves_token action.Name) ys rest)))
unfolding perform_token
at_name limit t rest = refl

pub at_extend_name : (limit : ℕ) (t : Lexeme) (name : Value_of kinds.name) (rest : List ValueTree) → perform_token limit t action.ExtendName (kinds.AName name ∷ rest) ≡ (act_token limit t action.ExtendName (name ▷ bottom) >>= (λ ys. Made (put (leaves_token action.ExtendName) ys rest)))
unfolding perform_token
at_extend_name limit t name rest = refl

pub at_first_identifier : (limit : ℕ) (t : Lexeme) (rest : List ValueTree) → perform_token limit t action.FirstIdentifier rest ≡ (act_token limit t action.FirstIdentifier bottom >>= (λ ys. Made (put (leaves_token action.FirstIdentifier) ys rest)))
unfolding perform_token
at_first_identifier limit t rest = refl

pub at_next_identifier : (limit : ℕ) (t : Lexeme) (names : Value_of kinds.identifiers) (rest : List ValueTree) → perform_token limit t action.NextIdentifier (kinds.AIdentifiers names ∷ rest) ≡ (act_token limit t action.NextIdentifier (names ▷ bottom) >>= (λ ys. Made (put (leaves_token action.NextIdentifier) ys rest)))
unfolding perform_token
at_next_identifier limit t names rest = refl

pub at_primitive_type : (limit : ℕ) (t : Lexeme) (rest : List ValueTree) → perform_token limit t action.PrimitiveType rest ≡ (act_token limit t action.PrimitiveType bottom >>= (λ ys. Made (put (leaves_token action.PrimitiveType) ys rest)))
unfolding perform_token
at_primitive_type limit t rest = refl

pub at_literal : (limit : ℕ) (t : Lexeme) (rest : List ValueTree) → perform_token limit t action.Literal rest ≡ (act_token limit t action.Literal bottom >>= (λ ys. Made (put (leaves_token action.Literal) ys rest)))
unfolding perform_token
at_literal limit t rest = refl

pub at_this : (limit : ℕ) (t : Lexeme) (rest : List ValueTree) → perform_token limit t action.This rest ≡ (act_token limit t action.This bottom >>= (λ ys. Made (put (leaves_token action.This) ys rest)))
unfolding perform_token
at_this limit t rest = refl

pub at_increment : (limit : ℕ) (t : Lexeme) (operand : Value_of kinds.expression) (rest : List ValueTree) → perform_token limit t action.Increment (kinds.AExpression operand ∷ rest) ≡ (act_token limit t action.Increment (operand ▷ bottom) >>= (λ ys. Made (put (leaves_token action.Increment) ys rest)))
unfolding perform_token
at_increment limit t operand rest = refl

pub at_operator : (limit : ℕ) (t : Lexeme) (right : Value_of kinds.expression) (waiting : Value_of kinds.operations) (rest : List ValueTree) → perform_token limit t action.Operator (kinds.AExpression right ∷ kinds.AOperations waiting ∷ rest) ≡ (act_token limit t action.Operator (right ▷ waiting ▷ bottom) >>= (λ ys. Made (put (leaves_token action.Operator) ys rest)))
unfolding perform_token
at_operator limit t right waiting rest = refl

pub at_instance_operator : (limit : ℕ) (t : Lexeme) (right : Value_of kinds.expression) (waiting : Value_of kinds.operations) (rest : List ValueTree) → perform_token limit t action.InstanceOperator (kinds.AExpression right ∷ kinds.AOperations waiting ∷ rest) ≡ (act_token limit t action.InstanceOperator (right ▷ waiting ▷ bottom) >>= (λ ys. Made (put (leaves_token action.InstanceOperator) ys rest)))
unfolding perform_token
at_instance_operator limit t right waiting rest = refl

pub at_empty_statement : (limit : ℕ) (t : Lexeme) (rest : List ValueTree) → perform_token limit t action.EmptyStatement rest ≡ (act_token limit t action.EmptyStatement bottom >>= (λ ys. Made (put (leaves_token action.EmptyStatement) ys rest)))
unfolding perform_token
at_empty_statement limit t rest = refl

pub at_break : (limit : ℕ) (t : Lexeme) (rest : List ValueTree) → perform_token limit t action.Break rest ≡ (act_token limit t action.Break bottom >>= (λ ys. Made (put (leaves_token action.Break) ys rest)))
unfolding perform_token
at_break limit t rest = refl

pub at_continue : (limit : ℕ) (t : Lexeme) (rest : List ValueTree) → perform_token limit t action.Continue rest ≡ (act_token limit t action.Continue bottom >>= (λ ys. Made (put (leaves_token action.Continue) ys rest)))
unfolding perform_token
at_continue limit t rest = refl

pub at_block : (limit : ℕ) (t : Lexeme) (all : Value_of kinds.statements) (opened : Value_of kinds.place) (rest : List ValueTree) → perform_token limit t action.Block (kinds.AStatements all ∷ kinds.APlace opened ∷ rest) ≡ (act_token limit t action.Block (all ▷ opened ▷ bottom) >>= (λ ys. Made (put (leaves_token action.Block) ys rest)))
unfolding perform_token
at_block limit t all opened rest = refl

pub at_constructor_body : (limit : ℕ) (t : Lexeme) (all : Value_of kinds.statements) (call : Value_of kinds.super_call) (opened : Value_of kinds.place) (rest : List ValueTree) → perform_token limit t action.ConstructorBody (kinds.AStatements all ∷ kinds.ASuperCall call ∷ kinds.APlace opened ∷ rest) ≡ (act_token limit t action.ConstructorBody (all ▷ call ▷ opened ▷ bottom) >>= (λ ys. Made (put (leaves_token action.ConstructorBody) ys rest)))
unfolding perform_token
at_constructor_body limit t all call opened rest = refl

-- An action that makes something finds values of the kinds that it takes.
pub token_fits : (limit : ℕ) (t : Lexeme) (a : TokenAction) (s : List ValueTree) → IsNoMisfit (perform_token limit t a s) → Fits (takes_token a) s
unfolding perform_token
token_fits limit t a s h = meant_fits (takes_token a) (leaves_token a) (act_token limit t a) s h

pub ruleset name_laws = (at_place, at_keep, at_name, at_extend_name, at_first_identifier, at_next_identifier, at_primitive_type)

pub ruleset operand_laws = (at_literal, at_this, at_increment, at_operator, at_instance_operator)

pub ruleset end_laws = (at_empty_statement, at_break, at_continue, at_block, at_constructor_body)
