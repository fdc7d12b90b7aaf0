-- What each action makes of a stack that begins with values of the kinds that it takes.
use Rattle.std.specs.Prelude.{◌≡◌, ℕ, List, ◌∷◌}
use Rattle.std.proofs.Common.{refl}
use Rattle.std.proofs.lemmas.List.{map-append}
use Rattle.java_syntax.specs.declared.actions.DeclarationAction.{DeclarationAction}
use Rattle.java_syntax.specs.declared.actions.DeclarationAction.TheVariants as action
use Rattle.java_values.specs.Values as kinds
use Rattle.java_values.specs.Values.{Value_of, ValueTree}
use Rattle.java_values.specs.Kinds.{◌▷◌, bottom, put, Fits}
use Rattle.java_values.specs.Outcomes.{Made, ◌>>=◌, IsNoMisfit}
use Rattle.java_values.proofs.Stacks.{meant_fits}
use Rattle.java_statement_actions.specs.DeclarationActions.{takes_declaration, leaves_declaration, act_declaration, perform_declaration}

pub at_no_name : (limit : ℕ) (rest : List ValueTree) → perform_declaration limit action.NoName rest ≡ (act_declaration limit action.NoName bottom >>= (λ ys. Made (put (leaves_declaration action.NoName) ys rest)))
unfolding perform_declaration
at_no_name limit rest = refl

pub at_some_name : (limit : ℕ) (name : Value_of kinds.name) (rest : List ValueTree) → perform_declaration limit action.SomeName (kinds.AName name ∷ rest) ≡ (act_declaration limit action.SomeName (name ▷ bottom) >>= (λ ys. Made (put (leaves_declaration action.SomeName) ys rest)))
unfolding perform_declaration
at_some_name limit name rest = refl

pub at_no_imports : (limit : ℕ) (rest : List ValueTree) → perform_declaration limit action.NoImports rest ≡ (act_declaration limit action.NoImports bottom >>= (λ ys. Made (put (leaves_declaration action.NoImports) ys rest)))
unfolding perform_declaration
at_no_imports limit rest = refl

pub at_import : (limit : ℕ) (name : Value_of kinds.name) (word : Value_of kinds.place) (all : Value_of kinds.imports) (rest : List ValueTree) → perform_declaration limit action.Import (kinds.AName name ∷ kinds.APlace word ∷ kinds.AImports all ∷ rest) ≡ (act_declaration limit action.Import (name ▷ word ▷ all ▷ bottom) >>= (λ ys. Made (put (leaves_declaration action.Import) ys rest)))
unfolding perform_declaration
at_import limit name word all rest = refl

pub at_import_all : (limit : ℕ) (name : Value_of kinds.name) (word : Value_of kinds.place) (all : Value_of kinds.imports) (rest : List ValueTree) → perform_declaration limit action.ImportAll (kinds.AName name ∷ kinds.APlace word ∷ kinds.AImports all ∷ rest) ≡ (act_declaration limit action.ImportAll (name ▷ word ▷ all ▷ bottom) >>= (λ ys. Made (put (leaves_declaration action.ImportAll) ys rest)))
unfolding perform_declaration
at_import_all limit name word all rest = refl

pub at_no_types : (limit : ℕ) (rest : List ValueTree) → perform_declaration limit action.NoTypes rest ≡ (act_declaration limit action.NoTypes bottom >>= (λ ys. Made (put (leaves_declaration action.NoTypes) ys rest)))
unfolding perform_declaration
at_no_types limit rest = refl

pub at_unit : (limit : ℕ) (types : Value_of kinds.types) (imports : Value_of kinds.imports) (package' : Value_of kinds.optional_name) (rest : List ValueTree) → perform_declaration limit action.Unit (kinds.ATypes types ∷ kinds.AImports imports ∷ kinds.AOptionalName package' ∷ rest) ≡ (act_declaration limit action.Unit (types ▷ imports ▷ package' ▷ bottom) >>= (λ ys. Made (put (leaves_declaration action.Unit) ys rest)))
unfolding perform_declaration
at_unit limit types imports package' rest = refl

pub at_no_units : (limit : ℕ) (rest : List ValueTree) → perform_declaration limit action.NoUnits rest ≡ (act_declaration limit action.NoUnits bottom >>= (λ ys. Made (put (leaves_declaration action.NoUnits) ys rest)))
unfolding perform_declaration
at_no_units limit rest = refl

pub at_and_unit : (limit : ℕ) (one : Value_of kinds.unit) (all : Value_of kinds.units) (rest : List ValueTree) → perform_declaration limit action.AndUnit (kinds.AUnit one ∷ kinds.AUnits all ∷ rest) ≡ (act_declaration limit action.AndUnit (one ▷ all ▷ bottom) >>= (λ ys. Made (put (leaves_declaration action.AndUnit) ys rest)))
unfolding perform_declaration
at_and_unit limit one all rest = refl

pub at_no_members : (limit : ℕ) (rest : List ValueTree) → perform_declaration limit action.NoMembers rest ≡ (act_declaration limit action.NoMembers bottom >>= (λ ys. Made (put (leaves_declaration action.NoMembers) ys rest)))
unfolding perform_declaration
at_no_members limit rest = refl

pub at_class : (limit : ℕ) (members : Value_of kinds.members) (interfaces : Value_of kinds.names) (superclass : Value_of kinds.optional_name) (name : Value_of kinds.name) (modifiers : Value_of kinds.modifiers) (all : Value_of kinds.types) (rest : List ValueTree) → perform_declaration limit action.Class (kinds.AMembers members ∷ kinds.ANames interfaces ∷ kinds.AOptionalName superclass ∷ kinds.AName name ∷ kinds.AModifiers modifiers ∷ kinds.ATypes all ∷ rest) ≡ (act_declaration limit action.Class (members ▷ interfaces ▷ superclass ▷ name ▷ modifiers ▷ all ▷ bottom) >>= (λ ys. Made (put (leaves_declaration action.Class) ys rest)))
unfolding perform_declaration
at_class limit members interfaces superclass name modifiers all rest = refl

pub at_interface : (limit : ℕ) (members : Value_of kinds.members) (interfaces : Value_of kinds.names) (name : Value_of kinds.name) (modifiers : Value_of kinds.modifiers) (all : Value_of kinds.types) (rest : List ValueTree) → perform_declaration limit action.Interface (kinds.AMembers members ∷ kinds.ANames interfaces ∷ kinds.AName name ∷ kinds.AModifiers modifiers ∷ kinds.ATypes all ∷ rest) ≡ (act_declaration limit action.Interface (members ▷ interfaces ▷ name ▷ modifiers ▷ all ▷ bottom) >>= (λ ys. Made (put (leaves_declaration action.Interface) ys rest)))
unfolding perform_declaration
at_interface limit members interfaces name modifiers all rest = refl

pub at_no_result : (limit : ℕ) (rest : List ValueTree) → perform_declaration limit action.NoResult rest ≡ (act_declaration limit action.NoResult bottom >>= (λ ys. Made (put (leaves_declaration action.NoResult) ys rest)))
unfolding perform_declaration
at_no_result limit rest = refl

pub at_some_result : (limit : ℕ) (typ : Value_of kinds.typ) (rest : List ValueTree) → perform_declaration limit action.SomeResult (kinds.AType typ ∷ rest) ≡ (act_declaration limit action.SomeResult (typ ▷ bottom) >>= (λ ys. Made (put (leaves_declaration action.SomeResult) ys rest)))
unfolding perform_declaration
at_some_result limit typ rest = refl

pub at_method : (limit : ℕ) (name : Value_of kinds.name) (typ : Value_of kinds.typ) (rest : List ValueTree) → perform_declaration limit action.Method (kinds.AName name ∷ kinds.AType typ ∷ rest) ≡ (act_declaration limit action.Method (name ▷ typ ▷ bottom) >>= (λ ys. Made (put (leaves_declaration action.Method) ys rest)))
unfolding perform_declaration
at_method limit name typ rest = refl

pub at_field : (limit : ℕ) (variables : Value_of kinds.variables) (typ : Value_of kinds.typ) (modifiers : Value_of kinds.modifiers) (all : Value_of kinds.members) (rest : List ValueTree) → perform_declaration limit action.Field (kinds.AVariables variables ∷ kinds.AType typ ∷ kinds.AModifiers modifiers ∷ kinds.AMembers all ∷ rest) ≡ (act_declaration limit action.Field (variables ▷ typ ▷ modifiers ▷ all ▷ bottom) >>= (λ ys. Made (put (leaves_declaration action.Field) ys rest)))
unfolding perform_declaration
at_field limit variables typ modifiers all rest = refl

pub at_no_parameters : (limit : ℕ) (rest : List ValueTree) → perform_declaration limit action.NoParameters rest ≡ (act_declaration limit action.NoParameters bottom >>= (λ ys. Made (put (leaves_declaration action.NoParameters) ys rest)))
unfolding perform_declaration
at_no_parameters limit rest = refl

pub at_parameter : (limit : ℕ) (name : Value_of kinds.name) (typ : Value_of kinds.typ) (modifiers : Value_of kinds.modifiers) (all : Value_of kinds.parameters) (rest : List ValueTree) → perform_declaration limit action.Parameter (kinds.AName name ∷ kinds.AType typ ∷ kinds.AModifiers modifiers ∷ kinds.AParameters all ∷ rest) ≡ (act_declaration limit action.Parameter (name ▷ typ ▷ modifiers ▷ all ▷ bottom) >>= (λ ys. Made (put (leaves_declaration action.Parameter) ys rest)))
unfolding perform_declaration
at_parameter limit name typ modifiers all rest = refl

pub at_receiver : (limit : ℕ) (name : Value_of kinds.name) (typ : Value_of kinds.typ) (modifiers : Value_of kinds.modifiers) (all : Value_of kinds.parameters) (rest : List ValueTree) → perform_declaration limit action.Receiver (kinds.AName name ∷ kinds.AType typ ∷ kinds.AModifiers modifiers ∷ kinds.AParameters all ∷ rest) ≡ (act_declaration limit action.Receiver (name ▷ typ ▷ modifiers ▷ all ▷ bottom) >>= (λ ys. Made (put (leaves_declaration action.Receiver) ys rest)))
unfolding perform_declaration
at_receiver limit name typ modifiers all rest = refl

pub at_method_body : (limit : ℕ) (body : Value_of kinds.block) (throws : Value_of kinds.names) (parameters : Value_of kinds.parameters) (name : Value_of kinds.name) (outcome : Value_of kinds.optional_type) (modifiers : Value_of kinds.modifiers) (all : Value_of kinds.members) (rest : List ValueTree) → perform_declaration limit action.MethodBody (kinds.ABlock body ∷ kinds.ANames throws ∷ kinds.AParameters parameters ∷ kinds.AName name ∷ kinds.AOptionalType outcome ∷ kinds.AModifiers modifiers ∷ kinds.AMembers all ∷ rest) ≡ (act_declaration limit action.MethodBody (body ▷ throws ▷ parameters ▷ name ▷ outcome ▷ modifiers ▷ all ▷ bottom) >>= (λ ys. Made (put (leaves_declaration action.MethodBody) ys rest)))
unfolding perform_declaration
at_method_body limit body throws parameters name outcome modifiers all rest = refl

pub at_method_head : (limit : ℕ) (throws : Value_of kinds.names) (parameters : Value_of kinds.parameters) (name : Value_of kinds.name) (outcome : Value_of kinds.optional_type) (modifiers : Value_of kinds.modifiers) (all : Value_of kinds.members) (rest : List ValueTree) → perform_declaration limit action.MethodHead (kinds.ANames throws ∷ kinds.AParameters parameters ∷ kinds.AName name ∷ kinds.AOptionalType outcome ∷ kinds.AModifiers modifiers ∷ kinds.AMembers all ∷ rest) ≡ (act_declaration limit action.MethodHead (throws ▷ parameters ▷ name ▷ outcome ▷ modifiers ▷ all ▷ bottom) >>= (λ ys. Made (put (leaves_declaration action.MethodHead) ys rest)))
unfolding perform_declaration
at_method_head limit throws parameters name outcome modifiers all rest = refl

pub at_constructor : (limit : ℕ) (body : Value_of kinds.constructor_body) (throws : Value_of kinds.names) (parameters : Value_of kinds.parameters) (name : Value_of kinds.name) (modifiers : Value_of kinds.modifiers) (all : Value_of kinds.members) (rest : List ValueTree) → perform_declaration limit action.Constructor (kinds.AConstructorBody body ∷ kinds.ANames throws ∷ kinds.AParameters parameters ∷ kinds.AName name ∷ kinds.AModifiers modifiers ∷ kinds.AMembers all ∷ rest) ≡ (act_declaration limit action.Constructor (body ▷ throws ▷ parameters ▷ name ▷ modifiers ▷ all ▷ bottom) >>= (λ ys. Made (put (leaves_declaration action.Constructor) ys rest)))
unfolding perform_declaration
at_constructor limit body throws parameters name modifiers all rest = refl

pub at_constructor_head : (limit : ℕ) (throws : Value_of kinds.names) (parameters : Value_of kinds.parameters) (name : Value_of kinds.name) (modifiers : Value_of kinds.modifiers) (all : Value_of kinds.members) (rest : List ValueTree) → perform_declaration limit action.ConstructorHead (kinds.ANames throws ∷ kinds.AParameters parameters ∷ kinds.AName name ∷ kinds.AModifiers modifiers ∷ kinds.AMembers all ∷ rest) ≡ (act_declaration limit action.ConstructorHead (throws ▷ parameters ▷ name ▷ modifiers ▷ all ▷ bottom) >>= (λ ys. Made (put (leaves_declaration action.ConstructorHead) ys rest)))
unfolding perform_declaration
at_constructor_head limit throws parameters name modifiers all rest = refl

pub at_no_super_call : (limit : ℕ) (rest : List ValueTree) → perform_declaration limit action.NoSuperCall rest ≡ (act_declaration limit action.NoSuperCall bottom >>= (λ ys. Made (put (leaves_declaration action.NoSuperCall) ys rest)))
unfolding perform_declaration
at_no_super_call limit rest = refl

pub at_super_call : (limit : ℕ) (arguments : Value_of kinds.expressions) (word : Value_of kinds.place) (rest : List ValueTree) → perform_declaration limit action.SuperCall (kinds.AExpressions arguments ∷ kinds.APlace word ∷ rest) ≡ (act_declaration limit action.SuperCall (arguments ▷ word ▷ bottom) >>= (λ ys. Made (put (leaves_declaration action.SuperCall) ys rest)))
unfolding perform_declaration
at_super_call limit arguments word rest = refl

pub at_first_statement : (limit : ℕ) (first : Value_of kinds.statement) (rest : List ValueTree) → perform_declaration limit action.FirstStatement (kinds.AStatement first ∷ rest) ≡ (act_declaration limit action.FirstStatement (first ▷ bottom) >>= (λ ys. Made (put (leaves_declaration action.FirstStatement) ys rest)))
unfolding perform_declaration
at_first_statement limit first rest = refl

-- An action that makes something finds values of the kinds that it takes.
pub declaration_fits : (limit : ℕ) (a : DeclarationAction) (s : List ValueTree) → IsNoMisfit (perform_declaration limit a s) → Fits (takes_declaration a) s
unfolding perform_declaration
declaration_fits limit a s h = meant_fits (takes_declaration a) (leaves_declaration a) (act_declaration limit a) s h

pub ruleset file_laws = (at_no_name, at_some_name, at_no_imports, at_import, at_import_all, at_unit, at_no_units, at_and_unit, map-append)

pub ruleset class_laws = (at_no_types, at_class, at_interface, map-append)

pub ruleset head_laws = (at_no_members, at_no_result, at_some_result, at_method, at_no_parameters, at_parameter, at_receiver, map-append)

pub ruleset member_laws = (at_field, at_method_body, at_method_head)

pub ruleset constructor_laws = (at_constructor, at_constructor_head, at_no_super_call, at_super_call, at_first_statement, map-append)
