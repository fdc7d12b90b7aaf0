-- Where all parts have types, an answer is a node whose shape takes its parts, or a refusal.
use Rattle.std.proofs.Common.{◌≡◌, ℕ, Bool, true, false, cond, Option, Some, sym, subst}
use Rattle.rlc_base.specs.declared.place.Pos.{Pos}
use Rattle.rlc_base.specs.declared.code.Code.{Code}
use Rattle.program_model.specs.declared.kinds.VType.{VType}
use Rattle.java_typed_trees.specs.declared.facts.Answer.{Answer}
use Rattle.java_typed_trees.specs.declared.facts.Answer.TheVariants as answers
use Rattle.java_typed_trees.specs.AnswerParts.{AnswerTakes, IsDecided}
use Rattle.java_typed_trees.specs.Answers.{mismatch, of_one, of_two}

pub record IsWhole (n : ℕ) (a : Answer) : Type 0 where
  pub takes : AnswerTakes n a
  pub decided : IsDecided a

pub whole_refusal : (n : ℕ) (place : Pos) → IsWhole n (mismatch place)
whole_refusal n place = record { takes = tt; decided = tt }

-- what holds of both answers holds of the one that a test takes
pub of_both : (P : Answer → Type 0) (b : Bool) (x y : Answer) → P x → P y → P (cond b x y)
of_both P true x y h g = h
of_both P false x y h g = g

-- a rule over one part or two that have types
pub of_one_holds : (P : Answer → Type 0) (place : Pos) (o : Option VType) (rule : VType → Answer) (t : VType) → o ≡ Some t → P (rule t) → P (of_one place o rule)
of_one_holds P place o rule t e h = subst (λ x. P (of_one place x rule)) (sym e) h

pub of_two_holds : (P : Answer → Type 0) (place : Pos) (a b : Option VType) (rule : VType → VType → Answer) (t u : VType) → a ≡ Some t → b ≡ Some u → P (rule t u) → P (of_two place a b rule)
of_two_holds P place a b rule t u e d h = subst (λ x. P (of_two place x b rule)) (sym e) (subst (λ y. P (of_two place (Some t) y rule)) (sym d) h)

pub wrong_is_whole : (n : ℕ) (k : Code) (place : Pos) → IsWhole n (answers.Wrong k place)
wrong_is_whole n k place = record { takes = tt; decided = tt }
