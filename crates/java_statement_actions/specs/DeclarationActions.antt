-- The actions of declarations: the kinds of the values that each takes, the top first, those that it leaves, and what it makes.
use Rattle.std.specs.Prelude.{ℕ, ◌+◌, Bool, true, false, List, [], ◌∷◌, ◌++◌, Some, None}
use Rattle.java_syntax.specs.StatementTrees.{StmtTree}
use Rattle.java_syntax.specs.DeclarationTrees.{FieldOf, MethodOf, ConstructorOf}
use Rattle.java_syntax.specs.declared.actions.DeclarationAction.{DeclarationAction}
use Rattle.java_syntax.specs.declared.actions.DeclarationAction.TheVariants as action
use Rattle.java_values.specs.Values as kinds
use Rattle.java_values.specs.Values.{Kind, ValueTree}
use Rattle.java_values.specs.Kinds.{Values, ◌▷◌, bottom, taken, resume}
use Rattle.java_values.specs.Outcomes.{Outcome, Made}
use Rattle.java_values.specs.Lists.{none_of, added}
use Rattle.java_nodes.specs.StatementParts.{unit_node}

abbrev pub takes_declaration : DeclarationAction → List Kind
takes_declaration action.NoName = []
takes_declaration action.SomeName = kinds.name ∷ []
takes_declaration action.NoImports = []
takes_declaration action.Import = kinds.name ∷ kinds.place ∷ kinds.imports ∷ []
takes_declaration action.ImportAll = kinds.name ∷ kinds.place ∷ kinds.imports ∷ []
takes_declaration action.NoTypes = []
takes_declaration action.Unit = kinds.types ∷ kinds.imports ∷ kinds.optional_name ∷ []
takes_declaration action.NoUnits = []
takes_declaration action.AndUnit = kinds.unit ∷ kinds.units ∷ []
takes_declaration action.NoMembers = []
takes_declaration action.Class = kinds.members ∷ kinds.names ∷ kinds.optional_name ∷ kinds.name ∷ kinds.modifiers ∷ kinds.types ∷ []
takes_declaration action.Interface = kinds.members ∷ kinds.names ∷ kinds.name ∷ kinds.modifiers ∷ kinds.types ∷ []
takes_declaration action.NoResult = []
takes_declaration action.SomeResult = kinds.typ ∷ []
takes_declaration action.Method = kinds.name ∷ kinds.typ ∷ []
takes_declaration action.Field = kinds.variables ∷ kinds.typ ∷ kinds.modifiers ∷ kinds.members ∷ []
takes_declaration action.NoParameters = []
takes_declaration action.Parameter = kinds.name ∷ kinds.typ ∷ kinds.modifiers ∷ kinds.parameters ∷ []
takes_declaration action.Receiver = kinds.name ∷ kinds.typ ∷ kinds.modifiers ∷ kinds.parameters ∷ []
takes_declaration action.MethodBody = kinds.block ∷ kinds.names ∷ kinds.parameters ∷ kinds.name ∷ kinds.optional_type ∷ kinds.modifiers ∷ kinds.members ∷ []
takes_declaration action.MethodHead = kinds.names ∷ kinds.parameters ∷ kinds.name ∷ kinds.optional_type ∷ kinds.modifiers ∷ kinds.members ∷ []
takes_declaration action.Constructor = kinds.constructor_body ∷ kinds.names ∷ kinds.parameters ∷ kinds.name ∷ kinds.modifiers ∷ kinds.members ∷ []
takes_declaration action.ConstructorHead = kinds.names ∷ kinds.parameters ∷ kinds.name ∷ kinds.modifiers ∷ kinds.members ∷ []
takes_declaration action.NoSuperCall = []
takes_declaration action.SuperCall = kinds.expressions ∷ kinds.place ∷ []
takes_declaration action.FirstStatement = kinds.statement ∷ []

abbrev pub leaves_declaration : DeclarationAction → List Kind
leaves_declaration action.NoName = kinds.optional_name ∷ []
leaves_declaration action.SomeName = kinds.optional_name ∷ []
leaves_declaration action.NoImports = kinds.imports ∷ []
leaves_declaration action.Import = kinds.imports ∷ []
leaves_declaration action.ImportAll = kinds.imports ∷ []
leaves_declaration action.NoTypes = kinds.types ∷ []
leaves_declaration action.Unit = kinds.unit ∷ []
leaves_declaration action.NoUnits = kinds.units ∷ []
leaves_declaration action.AndUnit = kinds.units ∷ []
leaves_declaration action.NoMembers = kinds.members ∷ []
leaves_declaration action.Class = kinds.types ∷ []
leaves_declaration action.Interface = kinds.types ∷ []
leaves_declaration action.NoResult = kinds.optional_type ∷ []
leaves_declaration action.SomeResult = kinds.optional_type ∷ []
leaves_declaration action.Method = kinds.name ∷ kinds.optional_type ∷ []
leaves_declaration action.Field = kinds.members ∷ []
leaves_declaration action.NoParameters = kinds.parameters ∷ []
leaves_declaration action.Parameter = kinds.parameters ∷ []
leaves_declaration action.Receiver = kinds.parameters ∷ []
leaves_declaration action.MethodBody = kinds.members ∷ []
leaves_declaration action.MethodHead = kinds.members ∷ []
leaves_declaration action.Constructor = kinds.members ∷ []
leaves_declaration action.ConstructorHead = kinds.members ∷ []
leaves_declaration action.NoSuperCall = kinds.super_call ∷ []
leaves_declaration action.SuperCall = kinds.super_call ∷ []
leaves_declaration action.FirstStatement = kinds.statements ∷ kinds.super_call ∷ []

abbrev pub act_declaration : ℕ → (a : DeclarationAction) → Values (takes_declaration a) → Outcome (Values (leaves_declaration a))
act_declaration limit action.NoName bottom = Made (None ▷ bottom)
act_declaration limit action.SomeName (name ▷ bottom) = Made ((Some name) ▷ bottom)
act_declaration limit action.NoImports bottom = Made ([] ▷ bottom)
act_declaration limit action.Import (name ▷ word ▷ all ▷ bottom) = Made ((all ++ record { name = name.text; star = false; pos = word } ∷ []) ▷ bottom)
act_declaration limit action.ImportAll (name ▷ word ▷ all ▷ bottom) = Made ((all ++ record { name = name.text; star = true; pos = word } ∷ []) ▷ bottom)
act_declaration limit action.NoTypes bottom = Made ([] ▷ bottom)
act_declaration limit action.Unit (types ▷ imports ▷ package' ▷ bottom) = Made ((unit_node package' imports types) ▷ bottom)
act_declaration limit action.NoUnits bottom = Made ([] ▷ bottom)
act_declaration limit action.AndUnit (one ▷ all ▷ bottom) = Made ((all ++ one ∷ []) ▷ bottom)
act_declaration limit action.NoMembers bottom = Made ([] ▷ bottom)
act_declaration limit action.Class (members ▷ interfaces ▷ superclass ▷ name ▷ modifiers ▷ all ▷ bottom) = Made ((all ++ record { modifiers = modifiers.tree; is_interface = false; name = name; superclass = superclass; interfaces = interfaces; members = members } ∷ []) ▷ bottom)
act_declaration limit action.Interface (members ▷ interfaces ▷ name ▷ modifiers ▷ all ▷ bottom) = Made ((all ++ record { modifiers = modifiers.tree; is_interface = true; name = name; superclass = None; interfaces = interfaces; members = members } ∷ []) ▷ bottom)
act_declaration limit action.NoResult bottom = Made (None ▷ bottom)
act_declaration limit action.SomeResult (typ ▷ bottom) = Made ((Some typ) ▷ bottom)
act_declaration limit action.Method (name ▷ typ ▷ bottom) = Made (name ▷ (Some typ) ▷ bottom)
act_declaration limit action.Field (variables ▷ typ ▷ modifiers ▷ all ▷ bottom) = Made ((all ++ FieldOf (record { modifiers = modifiers.tree; typ = typ; variables = variables.tree }) ∷ []) ▷ bottom)
act_declaration limit action.NoParameters bottom = Made ((record { receiver = None; declared = [] }) ▷ bottom)
act_declaration limit action.Parameter (name ▷ typ ▷ modifiers ▷ all ▷ bottom) = Made ((record all { declared = all.declared ++ record { modifiers = modifiers.tree; typ = typ; name = name } ∷ [] }) ▷ bottom)
act_declaration limit action.Receiver (name ▷ typ ▷ modifiers ▷ all ▷ bottom) = Made ((record all { receiver = Some (record { modifiers = modifiers.tree; typ = typ; name = name }) }) ▷ bottom)
act_declaration limit action.MethodBody (body ▷ throws ▷ parameters ▷ name ▷ outcome ▷ modifiers ▷ all ▷ bottom) = Made ((all ++ MethodOf (record { modifiers = modifiers.tree; result = outcome; name = name; receiver = parameters.receiver; parameters = parameters.declared; throws = throws; body = Some body.tree }) ∷ []) ▷ bottom)
act_declaration limit action.MethodHead (throws ▷ parameters ▷ name ▷ outcome ▷ modifiers ▷ all ▷ bottom) = Made ((all ++ MethodOf (record { modifiers = modifiers.tree; result = outcome; name = name; receiver = parameters.receiver; parameters = parameters.declared; throws = throws; body = None }) ∷ []) ▷ bottom)
act_declaration limit action.Constructor (body ▷ throws ▷ parameters ▷ name ▷ modifiers ▷ all ▷ bottom) = Made ((all ++ ConstructorOf (record { modifiers = modifiers.tree; name = name; receiver = parameters.receiver; parameters = parameters.declared; throws = throws; body = Some body }) ∷ []) ▷ bottom)
act_declaration limit action.ConstructorHead (throws ▷ parameters ▷ name ▷ modifiers ▷ all ▷ bottom) = Made ((all ++ ConstructorOf (record { modifiers = modifiers.tree; name = name; receiver = parameters.receiver; parameters = parameters.declared; throws = throws; body = None }) ∷ []) ▷ bottom)
act_declaration limit action.NoSuperCall bottom = Made (None ▷ bottom)
act_declaration limit action.SuperCall (arguments ▷ word ▷ bottom) = Made ((Some (record { arguments = arguments.tree; pos = word })) ▷ bottom)
act_declaration limit action.FirstStatement (first ▷ bottom) = Made ((added (none_of StmtTree) first) ▷ None ▷ bottom)

-- what an action does on a stack
unfoldable pub perform_declaration : ℕ → DeclarationAction → List ValueTree → Outcome (List ValueTree)
perform_declaration limit a s = resume (takes_declaration a) (leaves_declaration a) (act_declaration limit a) (taken (takes_declaration a) s)

-- the actions of names that may be absent, imports and sections
abbrev pub is_of_files : DeclarationAction → Bool
is_of_files action.NoName = true
is_of_files action.SomeName = true
is_of_files action.NoImports = true
is_of_files action.Import = true
is_of_files action.ImportAll = true
is_of_files action.Unit = true
is_of_files action.NoUnits = true
is_of_files action.AndUnit = true
is_of_files _ = false

-- the actions of classes and interfaces
abbrev pub is_of_classes : DeclarationAction → Bool
is_of_classes action.NoTypes = true
is_of_classes action.Class = true
is_of_classes action.Interface = true
is_of_classes _ = false

-- the actions of results and parameters
abbrev pub is_of_heads : DeclarationAction → Bool
is_of_heads action.NoMembers = true
is_of_heads action.NoResult = true
is_of_heads action.SomeResult = true
is_of_heads action.Method = true
is_of_heads action.NoParameters = true
is_of_heads action.Parameter = true
is_of_heads action.Receiver = true
is_of_heads _ = false

-- the actions of fields and methods
abbrev pub is_of_members : DeclarationAction → Bool
is_of_members action.Field = true
is_of_members action.MethodBody = true
is_of_members action.MethodHead = true
is_of_members _ = false

-- the actions of constructors
abbrev pub is_of_constructors : DeclarationAction → Bool
is_of_constructors action.Constructor = true
is_of_constructors action.ConstructorHead = true
is_of_constructors action.NoSuperCall = true
is_of_constructors action.SuperCall = true
is_of_constructors action.FirstStatement = true
is_of_constructors _ = false
