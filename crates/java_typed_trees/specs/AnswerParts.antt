-- What each rule of an expression keeps: its shape takes the parts that the rule has looked at, and it is silent only where a
-- part has no type.
use Rattle.std.specs.Prelude.{ℕ}
use Rattle.java_typed_trees.specs.declared.facts.Answer.{Answer}
use Rattle.java_typed_trees.specs.declared.facts.Answer.TheVariants as answers
use Rattle.java_typed_trees.specs.declared.facts.StaticType.{StaticType}
use Rattle.java_typed_trees.specs.declared.facts.StaticType.TheVariants as static_types
use Rattle.java_typed_trees.specs.WellFormed.{Takes}

-- where the answer is a node, its shape takes so many parts
abbrev pub AnswerTakes : ℕ → Answer → Type 0
AnswerTakes n (answers.Is shape facts) = Takes shape n
AnswerTakes n (answers.Wrong code place) = Unit {0}
AnswerTakes n (answers.Silent place) = Unit {0}

abbrev pub IsSettled : StaticType → Type 0
IsSettled (static_types.Value t) = Unit {0}
IsSettled static_types.Void = Unit {0}
IsSettled static_types.Erroneous = ⊥

-- the expression gives a value or is void, or it is refused itself
abbrev pub IsDecided : Answer → Type 0
IsDecided (answers.Is shape facts) = IsSettled facts.static_type
IsDecided (answers.Wrong code place) = Unit {0}
IsDecided (answers.Silent place) = ⊥
