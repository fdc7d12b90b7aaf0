-- What stands before the dot of a field access or of a method call: a class, or an expression (JLS 6.5.2, 15.11, 15.12.1).
use Rattle.std.specs.Prelude.{ℕ, Bool, Option, Some, None, List}
use Rattle.rlc_base.specs.declared.place.Pos.{Pos}
use Rattle.program_model.specs.declared.kinds.ClassId.{ClassId}
use Rattle.java_call_rules.specs.Calls.{class_call_typing, object_call_typing}
use Rattle.java_variable_rules.specs.Fields.{class_access_typing, object_access_typing}
use Rattle.java_call_rules.specs.Surroundings.{Surroundings}
use Rattle.java_call_rules.specs.TypedParts.{Typing, typing_of}
use Rattle.java_typed_expressions.specs.declared.targets.Target.{Target}
use Rattle.java_typed_expressions.specs.declared.targets.Target.TheVariants as targets

pub data TargetTyping : Type 0 where
  OfClass : (class' : ClassId) → TargetTyping
  OfValue : (typing : Typing) → TargetTyping

-- what a value in memory says
abbrev pub typing_of_target : Target → TargetTyping
typing_of_target (targets.Class c) = OfClass c
typing_of_target (targets.Value t) = OfValue (typing_of t)

-- the class that stands before the dot, where one does; else an expression of this typing
abbrev pub target_typing : Option ClassId → Typing → TargetTyping
target_typing None t = OfValue t
target_typing (Some c) t = OfClass c

-- `t.m(..)`
abbrev pub call_on : Surroundings → Bool → Pos → List ℕ → TargetTyping → List Typing → Typing
call_on s is_this place name (OfClass c) arguments = class_call_typing s place name c arguments
call_on s is_this place name (OfValue t) arguments = object_call_typing s is_this place name t arguments

-- `t.f`
abbrev pub field_on : Surroundings → Pos → List ℕ → TargetTyping → Typing
field_on s place name (OfClass c) = class_access_typing s place name c
field_on s place name (OfValue t) = object_access_typing s place name t
