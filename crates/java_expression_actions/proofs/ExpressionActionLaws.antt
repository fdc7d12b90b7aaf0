-- What each action makes of a stack that begins with values of the kinds that it takes.
use Rattle.std.specs.Prelude.{◌≡◌, ℕ, List, ◌∷◌}
use Rattle.std.proofs.Common.{refl}
use Rattle.std.proofs.lemmas.List.{map-append}
use Rattle.java_syntax.specs.declared.actions.ExpressionAction.{ExpressionAction}
use Rattle.java_syntax.specs.declared.actions.ExpressionAction.TheVariants as action
use Rattle.java_values.specs.Values as kinds
use Rattle.java_values.specs.Values.{Value_of, ValueTree}
use Rattle.java_values.specs.Kinds.{◌▷◌, bottom, put, Fits}
use Rattle.java_values.specs.Outcomes.{Made, ◌>>=◌, IsNoMisfit}
use Rattle.java_values.proofs.Stacks.{meant_fits}
use Rattle.java_expression_actions.specs.ExpressionActions.{takes_expression, leaves_expression, act_expression, perform_expression}

pub at_no_expressions : (limit : ℕ) (rest : List ValueTree) → perform_expression limit action.NoExpressions rest ≡ (act_expression limit action.NoExpressions bottom >>= (λ ys. Made (put (leaves_expression action.NoExpressions) ys rest)))
unfolding perform_expression
at_no_expressions limit rest = refl

pub at_and_expression : (limit : ℕ) (one : Value_of kinds.expression) (all : Value_of kinds.expressions) (rest : List ValueTree) → perform_expression limit action.AndExpression (kinds.AExpression one ∷ kinds.AExpressions all ∷ rest) ≡ (act_expression limit action.AndExpression (one ▷ all ▷ bottom) >>= (λ ys. Made (put (leaves_expression action.AndExpression) ys rest)))
unfolding perform_expression
at_and_expression limit one all rest = refl

pub at_some_call : (limit : ℕ) (all : Value_of kinds.expressions) (rest : List ValueTree) → perform_expression limit action.SomeCall (kinds.AExpressions all ∷ rest) ≡ (act_expression limit action.SomeCall (all ▷ bottom) >>= (λ ys. Made (put (leaves_expression action.SomeCall) ys rest)))
unfolding perform_expression
at_some_call limit all rest = refl

pub at_no_call : (limit : ℕ) (rest : List ValueTree) → perform_expression limit action.NoCall rest ≡ (act_expression limit action.NoCall bottom >>= (λ ys. Made (put (leaves_expression action.NoCall) ys rest)))
unfolding perform_expression
at_no_call limit rest = refl

pub at_head : (limit : ℕ) (call : Value_of kinds.call) (name : Value_of kinds.name) (rest : List ValueTree) → perform_expression limit action.Head (kinds.ACall call ∷ kinds.AName name ∷ rest) ≡ (act_expression limit action.Head (call ▷ name ▷ bottom) >>= (λ ys. Made (put (leaves_expression action.Head) ys rest)))
unfolding perform_expression
at_head limit call name rest = refl

pub at_selector : (limit : ℕ) (call : Value_of kinds.call) (name : Value_of kinds.name) (target : Value_of kinds.expression) (rest : List ValueTree) → perform_expression limit action.Selector (kinds.ACall call ∷ kinds.AName name ∷ kinds.AExpression target ∷ rest) ≡ (act_expression limit action.Selector (call ▷ name ▷ target ▷ bottom) >>= (λ ys. Made (put (leaves_expression action.Selector) ys rest)))
unfolding perform_expression
at_selector limit call name target rest = refl

pub at_super_method_call : (limit : ℕ) (arguments : Value_of kinds.expressions) (name : Value_of kinds.name) (rest : List ValueTree) → perform_expression limit action.SuperMethodCall (kinds.AExpressions arguments ∷ kinds.AName name ∷ rest) ≡ (act_expression limit action.SuperMethodCall (arguments ▷ name ▷ bottom) >>= (λ ys. Made (put (leaves_expression action.SuperMethodCall) ys rest)))
unfolding perform_expression
at_super_method_call limit arguments name rest = refl

pub at_named_call : (limit : ℕ) (arguments : Value_of kinds.expressions) (names : Value_of kinds.identifiers) (rest : List ValueTree) → perform_expression limit action.NamedCall (kinds.AExpressions arguments ∷ kinds.AIdentifiers names ∷ rest) ≡ (act_expression limit action.NamedCall (arguments ▷ names ▷ bottom) >>= (λ ys. Made (put (leaves_expression action.NamedCall) ys rest)))
unfolding perform_expression
at_named_call limit arguments names rest = refl

pub at_name_expression : (limit : ℕ) (names : Value_of kinds.identifiers) (rest : List ValueTree) → perform_expression limit action.NameExpression (kinds.AIdentifiers names ∷ rest) ≡ (act_expression limit action.NameExpression (names ▷ bottom) >>= (λ ys. Made (put (leaves_expression action.NameExpression) ys rest)))
unfolding perform_expression
at_name_expression limit names rest = refl

pub at_index : (limit : ℕ) (position : Value_of kinds.expression) (opened : Value_of kinds.place) (array : Value_of kinds.expression) (rest : List ValueTree) → perform_expression limit action.Index (kinds.AExpression position ∷ kinds.APlace opened ∷ kinds.AExpression array ∷ rest) ≡ (act_expression limit action.Index (position ▷ opened ▷ array ▷ bottom) >>= (λ ys. Made (put (leaves_expression action.Index) ys rest)))
unfolding perform_expression
at_index limit position opened array rest = refl

pub at_named_index : (limit : ℕ) (position : Value_of kinds.expression) (opened : Value_of kinds.place) (names : Value_of kinds.identifiers) (rest : List ValueTree) → perform_expression limit action.NamedIndex (kinds.AExpression position ∷ kinds.APlace opened ∷ kinds.AIdentifiers names ∷ rest) ≡ (act_expression limit action.NamedIndex (position ▷ opened ▷ names ▷ bottom) >>= (λ ys. Made (put (leaves_expression action.NamedIndex) ys rest)))
unfolding perform_expression
at_named_index limit position opened names rest = refl

pub at_new_object : (limit : ℕ) (arguments : Value_of kinds.expressions) (class' : Value_of kinds.name) (word : Value_of kinds.place) (rest : List ValueTree) → perform_expression limit action.NewObject (kinds.AExpressions arguments ∷ kinds.AName class' ∷ kinds.APlace word ∷ rest) ≡ (act_expression limit action.NewObject (arguments ▷ class' ▷ word ▷ bottom) >>= (λ ys. Made (put (leaves_expression action.NewObject) ys rest)))
unfolding perform_expression
at_new_object limit arguments class' word rest = refl

pub at_new_array : (limit : ℕ) (length : Value_of kinds.expression) (element : Value_of kinds.typ) (word : Value_of kinds.place) (rest : List ValueTree) → perform_expression limit action.NewArray (kinds.AExpression length ∷ kinds.AType element ∷ kinds.APlace word ∷ rest) ≡ (act_expression limit action.NewArray (length ▷ element ▷ word ▷ bottom) >>= (λ ys. Made (put (leaves_expression action.NewArray) ys rest)))
unfolding perform_expression
at_new_array limit length element word rest = refl

pub at_named_type : (limit : ℕ) (name : Value_of kinds.name) (rest : List ValueTree) → perform_expression limit action.NamedType (kinds.AName name ∷ rest) ≡ (act_expression limit action.NamedType (name ▷ bottom) >>= (λ ys. Made (put (leaves_expression action.NamedType) ys rest)))
unfolding perform_expression
at_named_type limit name rest = refl

pub at_identifiers_type : (limit : ℕ) (names : Value_of kinds.identifiers) (rest : List ValueTree) → perform_expression limit action.IdentifiersType (kinds.AIdentifiers names ∷ rest) ≡ (act_expression limit action.IdentifiersType (names ▷ bottom) >>= (λ ys. Made (put (leaves_expression action.IdentifiersType) ys rest)))
unfolding perform_expression
at_identifiers_type limit names rest = refl

pub at_array_type : (limit : ℕ) (opened : Value_of kinds.place) (names : Value_of kinds.identifiers) (rest : List ValueTree) → perform_expression limit action.ArrayType (kinds.APlace opened ∷ kinds.AIdentifiers names ∷ rest) ≡ (act_expression limit action.ArrayType (opened ▷ names ▷ bottom) >>= (λ ys. Made (put (leaves_expression action.ArrayType) ys rest)))
unfolding perform_expression
at_array_type limit opened names rest = refl

pub at_array_of : (limit : ℕ) (typ : Value_of kinds.typ) (rest : List ValueTree) → perform_expression limit action.ArrayOf (kinds.AType typ ∷ rest) ≡ (act_expression limit action.ArrayOf (typ ▷ bottom) >>= (λ ys. Made (put (leaves_expression action.ArrayOf) ys rest)))
unfolding perform_expression
at_array_of limit typ rest = refl

pub at_prefix : (limit : ℕ) (operand : Value_of kinds.expression) (sign : Value_of kinds.token) (rest : List ValueTree) → perform_expression limit action.Prefix (kinds.AExpression operand ∷ kinds.AToken sign ∷ rest) ≡ (act_expression limit action.Prefix (operand ▷ sign ▷ bottom) >>= (λ ys. Made (put (leaves_expression action.Prefix) ys rest)))
unfolding perform_expression
at_prefix limit operand sign rest = refl

pub at_prefix_increment : (limit : ℕ) (operand : Value_of kinds.expression) (sign : Value_of kinds.token) (rest : List ValueTree) → perform_expression limit action.PrefixIncrement (kinds.AExpression operand ∷ kinds.AToken sign ∷ rest) ≡ (act_expression limit action.PrefixIncrement (operand ▷ sign ▷ bottom) >>= (λ ys. Made (put (leaves_expression action.PrefixIncrement) ys rest)))
unfolding perform_expression
at_prefix_increment limit operand sign rest = refl

pub at_cast : (limit : ℕ) (operand : Value_of kinds.expression) (typ : Value_of kinds.typ) (opened : Value_of kinds.place) (rest : List ValueTree) → perform_expression limit action.Cast (kinds.AExpression operand ∷ kinds.AType typ ∷ kinds.APlace opened ∷ rest) ≡ (act_expression limit action.Cast (operand ▷ typ ▷ opened ▷ bottom) >>= (λ ys. Made (put (leaves_expression action.Cast) ys rest)))
unfolding perform_expression
at_cast limit operand typ opened rest = refl

pub at_parentheses : (limit : ℕ) (e : Value_of kinds.expression) (rest : List ValueTree) → perform_expression limit action.Parentheses (kinds.AExpression e ∷ rest) ≡ (act_expression limit action.Parentheses (e ▷ bottom) >>= (λ ys. Made (put (leaves_expression action.Parentheses) ys rest)))
unfolding perform_expression
at_parentheses limit e rest = refl

pub at_names_inside : (limit : ℕ) (names : Value_of kinds.identifiers) (rest : List ValueTree) → perform_expression limit action.NamesInside (kinds.AIdentifiers names ∷ rest) ≡ (act_expression limit action.NamesInside (names ▷ bottom) >>= (λ ys. Made (put (leaves_expression action.NamesInside) ys rest)))
unfolding perform_expression
at_names_inside limit names rest = refl

pub at_array_inside : (limit : ℕ) (typ : Value_of kinds.typ) (rest : List ValueTree) → perform_expression limit action.ArrayInside (kinds.AType typ ∷ rest) ≡ (act_expression limit action.ArrayInside (typ ▷ bottom) >>= (λ ys. Made (put (leaves_expression action.ArrayInside) ys rest)))
unfolding perform_expression
at_array_inside limit typ rest = refl

pub at_expression_inside : (limit : ℕ) (e : Value_of kinds.expression) (rest : List ValueTree) → perform_expression limit action.ExpressionInside (kinds.AExpression e ∷ rest) ≡ (act_expression limit action.ExpressionInside (e ▷ bottom) >>= (λ ys. Made (put (leaves_expression action.ExpressionInside) ys rest)))
unfolding perform_expression
at_expression_inside limit e rest = refl

pub at_cast_type : (limit : ℕ) (inside : Value_of kinds.parenthesized) (rest : List ValueTree) → perform_expression limit action.CastType (kinds.AParenthesized inside ∷ rest) ≡ (act_expression limit action.CastType (inside ▷ bottom) >>= (λ ys. Made (put (leaves_expression action.CastType) ys rest)))
unfolding perform_expression
at_cast_type limit inside rest = refl

pub at_parenthesized_expression : (limit : ℕ) (inside : Value_of kinds.parenthesized) (opened : Value_of kinds.place) (rest : List ValueTree) → perform_expression limit action.ParenthesizedExpression (kinds.AParenthesized inside ∷ kinds.APlace opened ∷ rest) ≡ (act_expression limit action.ParenthesizedExpression (inside ▷ opened ▷ bottom) >>= (λ ys. Made (put (leaves_expression action.ParenthesizedExpression) ys rest)))
unfolding perform_expression
at_parenthesized_expression limit inside opened rest = refl

pub at_begin_operations : (limit : ℕ) (e : Value_of kinds.expression) (rest : List ValueTree) → perform_expression limit action.BeginOperations (kinds.AExpression e ∷ rest) ≡ (act_expression limit action.BeginOperations (e ▷ bottom) >>= (λ ys. Made (put (leaves_expression action.BeginOperations) ys rest)))
unfolding perform_expression
at_begin_operations limit e rest = refl

pub at_end_operations : (limit : ℕ) (right : Value_of kinds.expression) (waiting : Value_of kinds.operations) (rest : List ValueTree) → perform_expression limit action.EndOperations (kinds.AExpression right ∷ kinds.AOperations waiting ∷ rest) ≡ (act_expression limit action.EndOperations (right ▷ waiting ▷ bottom) >>= (λ ys. Made (put (leaves_expression action.EndOperations) ys rest)))
unfolding perform_expression
at_end_operations limit right waiting rest = refl

pub at_instance_of : (limit : ℕ) (typ : Value_of kinds.typ) (word : Value_of kinds.place) (operand : Value_of kinds.expression) (rest : List ValueTree) → perform_expression limit action.InstanceOf (kinds.AType typ ∷ kinds.APlace word ∷ kinds.AExpression operand ∷ rest) ≡ (act_expression limit action.InstanceOf (typ ▷ word ▷ operand ▷ bottom) >>= (λ ys. Made (put (leaves_expression action.InstanceOf) ys rest)))
unfolding perform_expression
at_instance_of limit typ word operand rest = refl

pub at_conditional : (limit : ℕ) (when_false : Value_of kinds.expression) (when_true : Value_of kinds.expression) (question : Value_of kinds.place) (condition : Value_of kinds.expression) (rest : List ValueTree) → perform_expression limit action.Conditional (kinds.AExpression when_false ∷ kinds.AExpression when_true ∷ kinds.APlace question ∷ kinds.AExpression condition ∷ rest) ≡ (act_expression limit action.Conditional (when_false ▷ when_true ▷ question ▷ condition ▷ bottom) >>= (λ ys. Made (put (leaves_expression action.Conditional) ys rest)))
unfolding perform_expression
at_conditional limit when_false when_true question condition rest = refl

pub at_assignment : (limit : ℕ) (right : Value_of kinds.expression) (word : Value_of kinds.place) (left : Value_of kinds.expression) (rest : List ValueTree) → perform_expression limit action.Assignment (kinds.AExpression right ∷ kinds.APlace word ∷ kinds.AExpression left ∷ rest) ≡ (act_expression limit action.Assignment (right ▷ word ▷ left ▷ bottom) >>= (λ ys. Made (put (leaves_expression action.Assignment) ys rest)))
unfolding perform_expression
at_assignment limit right word left rest = refl

pub at_compound_assignment : (limit : ℕ) (right : Value_of kinds.expression) (word : Value_of kinds.token) (left : Value_of kinds.expression) (rest : List ValueTree) → perform_expression limit action.CompoundAssignment (kinds.AExpression right ∷ kinds.AToken word ∷ kinds.AExpression left ∷ rest) ≡ (act_expression limit action.CompoundAssignment (right ▷ word ▷ left ▷ bottom) >>= (λ ys. Made (put (leaves_expression action.CompoundAssignment) ys rest)))
unfolding perform_expression
at_compound_assignment limit right word left rest = refl

pub at_leave_place : (limit : ℕ) (e : Value_of kinds.expression) (start : Value_of kinds.place) (rest : List ValueTree) → perform_expression limit action.LeavePlace (kinds.AExpression e ∷ kinds.APlace start ∷ rest) ≡ (act_expression limit action.LeavePlace (e ▷ start ▷ bottom) >>= (λ ys. Made (put (leaves_expression action.LeavePlace) ys rest)))
unfolding perform_expression
at_leave_place limit e start rest = refl

-- An action that makes something finds values of the kinds that it takes.
pub expression_fits : (limit : ℕ) (a : ExpressionAction) (s : List ValueTree) → IsNoMisfit (perform_expression limit a s) → Fits (takes_expression a) s
unfolding perform_expression
expression_fits limit a s h = meant_fits (takes_expression a) (leaves_expression a) (act_expression limit a) s h

pub ruleset list_laws = (at_no_expressions, at_and_expression, at_some_call, at_no_call, at_begin_operations, at_leave_place, map-append)

pub ruleset type_laws = (at_named_type, at_identifiers_type, at_array_type, at_array_of)

pub ruleset call_laws = (at_head, at_selector, at_super_method_call, at_named_call, at_name_expression, at_new_object)

pub ruleset array_laws = (at_index, at_named_index, at_new_array, at_cast, at_instance_of)

pub ruleset operator_laws = (at_prefix, at_prefix_increment, at_conditional, at_assignment, at_compound_assignment)

pub ruleset parentheses_laws = (at_parentheses, at_names_inside, at_array_inside, at_expression_inside, at_cast_type, at_parenthesized_expression, at_end_operations)
