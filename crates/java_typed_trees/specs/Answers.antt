-- What an expression gives, and what the rule of an expression says of it (JLS 15.1).
use Rattle.std.specs.Prelude.{Option, Some, None, List, [], ◌∷◌, ℤ}
use Rattle.rlc_base.specs.declared.place.Pos.{Pos}
use Rattle.rlc_base.specs.declared.code.Code.{Code}
use Rattle.rlc_base.specs.declared.code.Code.TheVariants as codes_of
use Rattle.rlc_base.specs.declared.faults.Refusal.{Refusal}
use Rattle.program_model.specs.declared.kinds.VType.{VType}
use Rattle.java_typed_trees.specs.declared.facts.StaticType.{StaticType}
use Rattle.java_typed_trees.specs.declared.facts.StaticType.TheVariants as static_types
use Rattle.java_typed_trees.specs.declared.facts.Facts.{Facts}
use Rattle.java_typed_trees.specs.declared.facts.Answer.{Answer}
use Rattle.java_typed_trees.specs.declared.facts.Answer.TheVariants as answers
use Rattle.java_typed_trees.specs.declared.shapes.Shape.{Shape}

-- an expression without a type
abbrev pub erroneous : Pos → Facts
erroneous place = record { static_type = static_types.Erroneous; constant = None; pos = place }

-- a value that is no constant
abbrev pub value_at : Pos → VType → Facts
value_at place t = record { static_type = static_types.Value t; constant = None; pos = place }

-- a value, and which it is where it is constant (JLS 15.29)
abbrev pub constant_at : Pos → VType → Option ℤ → Facts
constant_at place t n = record { static_type = static_types.Value t; constant = n; pos = place }

-- the type of the value that it gives
abbrev pub type_in : StaticType → Option VType
type_in (static_types.Value t) = Some t
type_in static_types.Void = None
type_in static_types.Erroneous = None

abbrev pub type_of : Facts → Option VType
type_of f = type_in f.static_type

abbrev pub value_type : StaticType → StaticType
value_type (static_types.Value t) = static_types.Value t
value_type static_types.Void = static_types.Erroneous
value_type static_types.Erroneous = static_types.Erroneous

-- the facts where a value is needed: the call of a method without a result has none (JLS 15.1)
abbrev pub as_value : Facts → Facts
as_value f = record f { static_type = value_type f.static_type }

-- what the rule's answer says of the expression
abbrev pub facts_in : Answer → Facts
facts_in (answers.Is shape facts) = facts
facts_in (answers.Wrong code place) = erroneous place
facts_in (answers.Silent place) = erroneous place

-- the refusal of an expression or statement that has no type
abbrev pub mismatch : Pos → Answer
mismatch place = answers.Wrong codes_of.Mismatch place

abbrev pub refused : Code → Pos → List Refusal
refused c place = record { code = c; pos = place } ∷ []

abbrev pub void_cases_of : StaticType → Pos → List Refusal
void_cases_of static_types.Void place = refused codes_of.Mismatch place
void_cases_of (static_types.Value t) place = []
void_cases_of static_types.Erroneous place = []

-- the refusal of a call without a result where a value is needed
abbrev pub void_cases : Facts → List Refusal
void_cases f = void_cases_of f.static_type f.pos

-- ---- rules over parts: an expression is looked at only where all its parts have types

abbrev pub of_one : Pos → Option VType → (VType → Answer) → Answer
of_one place (Some t) rule = rule t
of_one place None rule = answers.Silent place

abbrev pub of_two : Pos → Option VType → Option VType → (VType → VType → Answer) → Answer
of_two place (Some a) (Some b) rule = rule a b
of_two place a b rule = answers.Silent place

abbrev pub of_three : Pos → Option VType → Option VType → Option VType → (VType → VType → VType → Answer) → Answer
of_three place (Some a) (Some b) (Some c) rule = rule a b c
of_three place a b c rule = answers.Silent place

-- the rule where the type is settled; else the expression has no type
abbrev pub typed_as : Shape → Pos → Option VType → Answer
typed_as shape place (Some t) = answers.Is shape (value_at place t)
typed_as shape place None = mismatch place
