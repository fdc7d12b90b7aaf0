-- The resources of `try` (JLS 14.20.3). The end of the block calls `close()` on each, at its name.
use Rattle.std.specs.Prelude.{ℕ, Bool, false, cond, Option, Some, None, List, [], codes}
use Rattle.std.specs.Option.{is_some, option_map}
use Rattle.rlc_base.specs.declared.place.Pos.{Pos}
use Rattle.rlc_base.specs.declared.faults.Refusal.{Refusal}
use Rattle.program_model.specs.declared.kinds.ClassId.{ClassId}
use Rattle.program_model.specs.declared.kinds.VType.{VType}
use Rattle.program_model.specs.declared.program.Program.{Program}
use Rattle.program_model.specs.SuperTests.{is_under}
use Rattle.program_model.specs.Typing.{class_of}
use Rattle.java_syntax.specs.declared.names.Name.{Name}
use Rattle.java_call_rules.specs.ClassNames as class_names
use Rattle.java_conversions.specs.Types.{type_of_class}
use Rattle.java_typed_trees.specs.declared.facts.Answer.{Answer}
use Rattle.java_typed_trees.specs.declared.facts.Answer.TheVariants as answers
use Rattle.java_typed_trees.specs.Answers.{value_at}
use Rattle.java_call_rules.specs.Calls.{object_call}
use Rattle.java_call_rules.specs.WrittenTypes.{class_of_name, unknown_name_cases}
use Rattle.java_call_rules.specs.Surroundings.{Surroundings}
use Rattle.java_statement_rules.specs.StatementCases.{unless}

-- the type that the name of a class means: none where it is refused
abbrev pub class_type : Surroundings → Name → Option VType
class_type s n = option_map (type_of_class s.context.program) (class_of_name s n.text)

-- the refusal of a name of a class that means none
abbrev pub class_type_cases : Option VType → Name → List Refusal
class_type_cases t n = unknown_name_cases (is_some t) n.pos

-- ---- what may be a resource

abbrev pub is_under_both : Program → Option ClassId → Option ClassId → Bool
is_under_both p (Some c) (Some d) = is_under p c d
is_under_both p c d = false

-- a resource's type is `java.lang.AutoCloseable`, or under it
abbrev pub is_closeable : Surroundings → VType → Bool
is_closeable s t = is_under_both s.context.program (class_of s.context.program t) (class_names.class_of_name s.classes (codes "java.lang.AutoCloseable"))

-- the refusal of a resource of another type, at the `try`
abbrev pub closeable_cases : Surroundings → Pos → Option VType → List Refusal
closeable_cases s place None = []
closeable_cases s place (Some t) = unless (is_closeable s t) place

-- ---- its closing

abbrev pub close_name : List ℕ
close_name = codes "close"

-- the call that closes a resource of the type, at the resource's name: as `close()` on a value of the type
abbrev pub closing_by : Surroundings → Pos → Option VType → Answer
closing_by s place None = answers.Silent place
closing_by s place (Some t) = cond (is_closeable s t) (object_call s false place close_name (value_at place t) []) (answers.Silent place)
