-- Catch clauses (JLS 14.20).
use Rattle.std.specs.Prelude.{◌++◌, ◌&&◌, ◌||◌, Bool, true, false, cond, ℕ, Option, Some, None, List, [], ◌∷◌, map, nat_le}
use Rattle.std.specs.Option.{is_some, option_map}
use Rattle.std.specs.List.{count_by, flat_map, list_all}
use Rattle.rlc_base.specs.declared.place.Pos.{Pos}
use Rattle.rlc_base.specs.declared.faults.Refusal.{Refusal}
use Rattle.program_model.specs.declared.kinds.ClassId.{ClassId}
use Rattle.program_model.specs.declared.kinds.VType.{VType}
use Rattle.program_model.specs.declared.kinds.VType.TheVariants as types
use Rattle.program_model.specs.declared.program.Program.{Program}
use Rattle.program_model.specs.Lookups.{optional}
use Rattle.program_model.specs.SuperTests.{is_under}
use Rattle.java_syntax.specs.declared.names.Name.{Name}
use Rattle.java_syntax.specs.AnnotationTrees.{ModifierTree}
use Rattle.java_conversions.specs.Conditionals.{least_upper_bound}
use Rattle.java_call_rules.specs.WrittenTypes.{class_of_name, unknown_name_cases}
use Rattle.java_call_rules.specs.Surroundings.{Surroundings}
use Rattle.java_statement_rules.specs.DeclaredVariables.{has_final}
use Rattle.java_statement_rules.specs.StatementCases.{unless}

-- ---- the alternatives of a clause

-- exceptions of the class may be caught
abbrev pub is_exception_class : Program → ClassId → Bool
is_exception_class p c = is_under p c p.core.throwable

abbrev pub if_exception : Program → Option ClassId → Option ClassId
if_exception p None = None
if_exception p (Some c) = cond (is_exception_class p c) (Some c) None

-- the class of exceptions that an alternative names, where it is one
abbrev pub caught_class : Surroundings → Name → Option ClassId
caught_class s n = if_exception s.context.program (class_of_name s n.text)

abbrev pub caught_classes : Surroundings → List Name → List (Option ClassId)
caught_classes s names = map (caught_class s) names

abbrev pub exception_cases : Program → Pos → Option ClassId → List Refusal
exception_cases p place None = []
exception_cases p place (Some c) = unless (is_exception_class p c) place

-- the refusals of an alternative: its name, if that means no class, and else the `try`, if it is no class of exceptions
abbrev pub alternative_cases : Surroundings → Pos → Name → List Refusal
alternative_cases s place n = unknown_name_cases (is_some (class_of_name s n.text)) n.pos ++ exception_cases s.context.program place (class_of_name s n.text)

abbrev pub each_alternative_cases : Surroundings → Pos → List Name → List Refusal
each_alternative_cases s place names = flat_map (alternative_cases s place) names

-- a clause names a class at least
abbrev pub has_alternative : List Name → Bool
has_alternative [] = false
has_alternative (n ∷ ns) = true

abbrev pub is_over : Program → ClassId → Option ClassId → Bool
is_over p c None = false
is_over p c (Some d) = is_under p c d

-- how many of the alternatives the class is under
abbrev pub alternatives_over : Surroundings → List Name → ClassId → ℕ
alternatives_over s names c = count_by (λ n. is_over s.context.program c (caught_class s n)) names

-- of the alternatives the class is under one alone, which is itself
abbrev pub is_under_one : Surroundings → List Name → Option ClassId → Bool
is_under_one s names None = true
is_under_one s names (Some c) = nat_le (alternatives_over s names c) 1

-- no alternative is under another
abbrev pub are_apart : Surroundings → List Name → Bool
are_apart s names = list_all (λ n. is_under_one s names (caught_class s n)) names

-- the refusals of all alternatives; a clause that names none, or one that is under another, is refused at the `try`
abbrev pub alternatives_cases : Surroundings → Pos → List Name → List Refusal
alternatives_cases s place names = unless (has_alternative names && are_apart s names) place ++ each_alternative_cases s place names

-- ---- what a clause catches

abbrev pub or_throwable : Program → Option ClassId → ClassId
or_throwable p None = p.core.throwable
or_throwable p (Some c) = c

-- a clause with an alternative that is refused counts as one that catches all exceptions
abbrev pub caught_by : Surroundings → List Name → List ClassId
caught_by s names = map (λ n. or_throwable s.context.program (caught_class s n)) names

-- ---- its parameter

abbrev pub joined_class : Program → Option VType → Option ClassId → Option VType
joined_class p (Some t) (Some c) = least_upper_bound p t (types.Obj c)
joined_class p t c = None

abbrev pub joined_classes : Program → Option VType → List (Option ClassId) → Option VType
joined_classes p t [] = t
joined_classes p t (c ∷ cs) = joined_classes p (joined_class p t c) cs

-- the least class that all alternatives are under; none where one is refused
abbrev pub least_class_of : Program → List (Option ClassId) → Option VType
least_class_of p [] = None
least_class_of p (c ∷ cs) = joined_classes p (option_map types.Obj c) cs

abbrev pub parameter_type : Surroundings → List Name → Option VType
parameter_type s names = least_class_of s.context.program (caught_classes s names)

abbrev pub has_several : List Name → Bool
has_several [] = false
has_several (n ∷ []) = false
has_several (n ∷ m ∷ ns) = true

-- the parameter of a clause with several alternatives is final
abbrev pub is_final_parameter : List ModifierTree → List Name → Bool
is_final_parameter modifiers names = has_final modifiers || has_several names

-- the classes that a typed clause names
abbrev pub classes_named : Surroundings → List Name → List ClassId
classes_named s names = flat_map (λ n. optional (caught_class s n)) names
