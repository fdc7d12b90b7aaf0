-- What is refused of a statement itself, by the facts of its expressions (JLS 14). A statement is looked at only where these have
-- types, and is refused at its first token.
use Rattle.std.specs.Prelude.{Bool, cond, Option, Some, None, List, []}
use Rattle.rlc_base.specs.declared.place.Pos.{Pos}
use Rattle.rlc_base.specs.declared.code.Code.TheVariants as codes_of
use Rattle.rlc_base.specs.declared.faults.Refusal.{Refusal}
use Rattle.program_model.specs.declared.kinds.ClassId.{ClassId}
use Rattle.program_model.specs.declared.kinds.VType.{VType}
use Rattle.program_model.specs.declared.program.Program.{Program}
use Rattle.program_model.specs.Lookups.{optional}
use Rattle.program_model.specs.Typing.{class_of}
use Rattle.java_conversions.specs.Conversions.{is_assignable}
use Rattle.java_conversions.specs.Types.{is_boolean, is_throwable}
use Rattle.java_typed_trees.specs.declared.facts.Facts.{Facts}
use Rattle.java_typed_trees.specs.Answers.{refused, type_of}
use Rattle.java_typed_trees.specs.Exceptions.{undeclared_cases}

-- the refusal of a statement, where the condition does not hold
abbrev pub unless : Bool → Pos → List Refusal
unless holds place = cond holds [] (refused codes_of.Mismatch place)

-- ---- values that are stored, in a variable or as a result

abbrev pub storing_from : Program → Pos → VType → Facts → Option VType → List Refusal
storing_from p place to e None = []
storing_from p place to e (Some from) = unless (is_assignable p e.constant from to) place

-- the value is assignable to the type (JLS 5.2), where that is known
abbrev pub storing_cases : Program → Pos → Option VType → Facts → List Refusal
storing_cases p place None e = []
storing_cases p place (Some to) e = storing_from p place to e (type_of e)

-- ---- conditions

abbrev pub condition_by : Pos → Option VType → List Refusal
condition_by place None = []
condition_by place (Some t) = unless (is_boolean t) place

-- the condition of `if`, `while`, `do` or `for` is a truth value (JLS 14.9, 14.12, 14.13, 14.14.1)
abbrev pub condition_cases : Pos → Facts → List Refusal
condition_cases place e = condition_by place (type_of e)

-- ---- return (JLS 14.17)

-- `return;` stands only where no result is given
abbrev pub plain_return_cases : Pos → Option VType → List Refusal
plain_return_cases place None = []
plain_return_cases place (Some result) = refused codes_of.Mismatch place

abbrev pub needless_result : Pos → Option VType → List Refusal
needless_result place None = []
needless_result place (Some t) = refused codes_of.Mismatch place

-- `return e;` stands only where a result is given, and e may be stored in a variable of its type
abbrev pub return_cases : Program → Pos → Option VType → Facts → List Refusal
return_cases p place None e = needless_result place (type_of e)
return_cases p place (Some result) e = storing_cases p place (Some result) e

-- ---- throw (JLS 14.18)

abbrev pub throw_by : Program → List ClassId → Pos → Option VType → List Refusal
throw_by p covered place None = []
throw_by p covered place (Some t) = cond (is_throwable p t) (undeclared_cases p covered (optional (class_of p t)) place) (refused codes_of.Mismatch place)

-- what is thrown is a Throwable or `null`, and its class, where that is one of checked exceptions, is caught or declared
-- (JLS 11.2.2)
abbrev pub throw_cases : Program → List ClassId → Pos → Facts → List Refusal
throw_cases p covered place e = throw_by p covered place (type_of e)
