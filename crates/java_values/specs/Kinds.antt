-- What actions take from the stack and leave there.
use Rattle.std.specs.Prelude.{◌≡◌, ℕ, List, [], ◌∷◌, Option, Some, None}
use Rattle.java_values.specs.Outcomes.{Outcome, Made, Misfit, ◌>>=◌}
use Rattle.java_values.specs.Values.{Kind, Value_of, ValueTree, place, token, name, optional_name, identifiers, names, typ, optional_type, expression, optional_expression, expressions, call, operations, parenthesized, annotation, annotations, arguments, annotation_value, annotation_values, modifiers, variables, local, statement, statements, block, for_start, resources, catches, parameters, super_call, constructor_body, members, types, imports, unit, units, APlace, AToken, AName, AOptionalName, AIdentifiers, ANames, AType, AOptionalType, AExpression, AOptionalExpression, AExpressions, ACall, AOperations, AParenthesized, AAnnotation, AAnnotations, AArguments, AAnnotationValue, AAnnotationValues, AModifiers, AVariables, ALocal, AStatement, AStatements, ABlock, AForStart, AResources, ACatches, AParameters, ASuperCall, AConstructorBody, AMembers, ATypes, AImports, AUnit, AUnits}

-- the value, as one of its kind
abbrev pub value_at : (k : Kind) → Value_of k → ValueTree
value_at place x = APlace x
value_at token x = AToken x
value_at name x = AName x
value_at optional_name x = AOptionalName x
value_at identifiers x = AIdentifiers x
value_at names x = ANames x
value_at typ x = AType x
value_at optional_type x = AOptionalType x
value_at expression x = AExpression x
value_at optional_expression x = AOptionalExpression x
value_at expressions x = AExpressions x
value_at call x = ACall x
value_at operations x = AOperations x
value_at parenthesized x = AParenthesized x
value_at annotation x = AAnnotation x
value_at annotations x = AAnnotations x
value_at arguments x = AArguments x
value_at annotation_value x = AAnnotationValue x
value_at annotation_values x = AAnnotationValues x
value_at modifiers x = AModifiers x
value_at variables x = AVariables x
value_at local x = ALocal x
value_at statement x = AStatement x
value_at statements x = AStatements x
value_at block x = ABlock x
value_at for_start x = AForStart x
value_at resources x = AResources x
value_at catches x = ACatches x
value_at parameters x = AParameters x
value_at super_call x = ASuperCall x
value_at constructor_body x = AConstructorBody x
value_at members x = AMembers x
value_at types x = ATypes x
value_at imports x = AImports x
value_at unit x = AUnit x
value_at units x = AUnits x

-- what the value is, where it is of the kind
abbrev pub at_kind : (v : ValueTree) (k : Kind) → Option (Value_of k)
at_kind (APlace x) place = Some x
at_kind (APlace x) _ = None
at_kind (AToken x) token = Some x
at_kind (AToken x) _ = None
at_kind (AName x) name = Some x
at_kind (AName x) _ = None
at_kind (AOptionalName x) optional_name = Some x
at_kind (AOptionalName x) _ = None
at_kind (AIdentifiers x) identifiers = Some x
at_kind (AIdentifiers x) _ = None
at_kind (ANames x) names = Some x
at_kind (ANames x) _ = None
at_kind (AType x) typ = Some x
at_kind (AType x) _ = None
at_kind (AOptionalType x) optional_type = Some x
at_kind (AOptionalType x) _ = None
at_kind (AExpression x) expression = Some x
at_kind (AExpression x) _ = None
at_kind (AOptionalExpression x) optional_expression = Some x
at_kind (AOptionalExpression x) _ = None
at_kind (AExpressions x) expressions = Some x
at_kind (AExpressions x) _ = None
at_kind (ACall x) call = Some x
at_kind (ACall x) _ = None
at_kind (AOperations x) operations = Some x
at_kind (AOperations x) _ = None
at_kind (AParenthesized x) parenthesized = Some x
at_kind (AParenthesized x) _ = None
at_kind (AAnnotation x) annotation = Some x
at_kind (AAnnotation x) _ = None
at_kind (AAnnotations x) annotations = Some x
at_kind (AAnnotations x) _ = None
at_kind (AArguments x) arguments = Some x
at_kind (AArguments x) _ = None
at_kind (AAnnotationValue x) annotation_value = Some x
at_kind (AAnnotationValue x) _ = None
at_kind (AAnnotationValues x) annotation_values = Some x
at_kind (AAnnotationValues x) _ = None
at_kind (AModifiers x) modifiers = Some x
at_kind (AModifiers x) _ = None
at_kind (AVariables x) variables = Some x
at_kind (AVariables x) _ = None
at_kind (ALocal x) local = Some x
at_kind (ALocal x) _ = None
at_kind (AStatement x) statement = Some x
at_kind (AStatement x) _ = None
at_kind (AStatements x) statements = Some x
at_kind (AStatements x) _ = None
at_kind (ABlock x) block = Some x
at_kind (ABlock x) _ = None
at_kind (AForStart x) for_start = Some x
at_kind (AForStart x) _ = None
at_kind (AResources x) resources = Some x
at_kind (AResources x) _ = None
at_kind (ACatches x) catches = Some x
at_kind (ACatches x) _ = None
at_kind (AParameters x) parameters = Some x
at_kind (AParameters x) _ = None
at_kind (ASuperCall x) super_call = Some x
at_kind (ASuperCall x) _ = None
at_kind (AConstructorBody x) constructor_body = Some x
at_kind (AConstructorBody x) _ = None
at_kind (AMembers x) members = Some x
at_kind (AMembers x) _ = None
at_kind (ATypes x) types = Some x
at_kind (ATypes x) _ = None
at_kind (AImports x) imports = Some x
at_kind (AImports x) _ = None
at_kind (AUnit x) unit = Some x
at_kind (AUnit x) _ = None
at_kind (AUnits x) units = Some x
at_kind (AUnits x) _ = None

-- values of some kinds, the top first
infixr 10 ◌▷◌
pub data Cell (A B : Type 0) : Type 0 where
  ◌▷◌ : (top : A) (below : B) → Cell A B

pub data Bottom : Type 0 where
  bottom : Bottom

abbrev pub Values : List Kind → Type 0
Values [] = Bottom
Values (k ∷ ks) = Cell (Value_of k) (Values ks)

-- the top of the stack, as values of these kinds, and what is below them
pub record Taken (ks : List Kind) : Type 0 where
  pub values : Values ks
  pub rest : List ValueTree

abbrev pub with_top : (k : Kind) (ks : List Kind) → Option (Value_of k) → Option (Taken ks) → Option (Taken (k ∷ ks))
with_top k ks None t = None
with_top k ks (Some x) None = None
with_top k ks (Some x) (Some t) = Some (record { values = x ▷ t.values; rest = t.rest })

abbrev pub taken : (ks : List Kind) → List ValueTree → Option (Taken ks)
taken [] s = Some (record { values = bottom; rest = s })
taken (k ∷ ks) [] = None
taken (k ∷ ks) (v ∷ s) = with_top k ks (at_kind v k) (taken ks s)

-- these values on the stack
abbrev pub put : (ks : List Kind) → Values ks → List ValueTree → List ValueTree
put [] bottom s = s
put (k ∷ ks) (x ▷ xs) s = value_at k x ∷ put ks xs s

-- the top is of this kind
abbrev pub kind_of : ValueTree → Kind
kind_of (APlace x) = place
kind_of (AToken x) = token
kind_of (AName x) = name
kind_of (AOptionalName x) = optional_name
kind_of (AIdentifiers x) = identifiers
kind_of (ANames x) = names
kind_of (AType x) = typ
kind_of (AOptionalType x) = optional_type
kind_of (AExpression x) = expression
kind_of (AOptionalExpression x) = optional_expression
kind_of (AExpressions x) = expressions
kind_of (ACall x) = call
kind_of (AOperations x) = operations
kind_of (AParenthesized x) = parenthesized
kind_of (AAnnotation x) = annotation
kind_of (AAnnotations x) = annotations
kind_of (AArguments x) = arguments
kind_of (AAnnotationValue x) = annotation_value
kind_of (AAnnotationValues x) = annotation_values
kind_of (AModifiers x) = modifiers
kind_of (AVariables x) = variables
kind_of (ALocal x) = local
kind_of (AStatement x) = statement
kind_of (AStatements x) = statements
kind_of (ABlock x) = block
kind_of (AForStart x) = for_start
kind_of (AResources x) = resources
kind_of (ACatches x) = catches
kind_of (AParameters x) = parameters
kind_of (ASuperCall x) = super_call
kind_of (AConstructorBody x) = constructor_body
kind_of (AMembers x) = members
kind_of (ATypes x) = types
kind_of (AImports x) = imports
kind_of (AUnit x) = unit
kind_of (AUnits x) = units

abbrev pub top_kind : List ValueTree → Option Kind
top_kind [] = None
top_kind (v ∷ s) = Some (kind_of v)

abbrev pub IsTop : Kind → List ValueTree → Type 0
IsTop k s = top_kind s ≡ Some k

abbrev pub below : List ValueTree → List ValueTree
below [] = []
below (v ∷ s) = s

-- values of these kinds are on top
abbrev pub Fits : List Kind → List ValueTree → Type 0
Fits [] s = Unit {0}
Fits (k ∷ ks) s = IsTop k s × Fits ks (below s)

-- an action, on a stack whose top is so: of values of the wrong kinds it makes nothing
abbrev pub resume : (ins outs : List Kind) → (Values ins → Outcome (Values outs)) → Option (Taken ins) → Outcome (List ValueTree)
resume ins outs f None = Misfit
resume ins outs f (Some t) = f t.values >>= (λ xs. Made (put outs xs t.rest))
