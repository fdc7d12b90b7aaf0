-- A run of a safe program answers no leak.
use Rattle.std.proofs.Common.{◌≡◌, ◌≢◌, ℕ, Bool, true, false, cond, Option, Some, None, List, [], ◌∷◌, refl, sym, ap, ◌∙◌, find}
use Rattle.program_model.specs.declared.kinds.BodyId.{BodyId}
use Rattle.program_model.specs.declared.kinds.MethodId.{MethodId}
use Rattle.program_model.specs.declared.program.Class.{Class}
use Rattle.program_model.specs.declared.program.Program.{Program}
use Rattle.program_model.specs.Lookups.{method_at}
use Rattle.command_answers.specs.declared.answers.Outcome.TheVariants as outcomes
use Rattle.ledger_steps.specs.LedgerCallsCalls.{body_of}
use Rattle.run_command.specs.Runs.{run}
use Rattle.content_laws.specs.Moves.{has_body}
use Rattle.run_command.specs.Mains.{class_named, is_main_in, main_in, main_of}
use Rattle.run_command.specs.RunAnswers.{answer_outcome, outcome_with, run_outcome}
use Rattle.stub_conduct.specs.declared.choice.Choices.{Choices}
use Rattle.content_laws.specs.Safety.{IsSafe}
use Rattle.soundness_laws.proofs.SafeRuns.{leaks_nothing}
use Rattle.soundness_laws.proofs.BodilessRuns.{bodiless_leaks_nothing}

-- what is found passes the test
found_passes : {X : Type 0} (test : X → Bool) (xs : List X) (x : X) → find test xs ≡ Some x → test x ≡ true
found_passes test [] x found = absurd (let no : None ≡ Some x = found in cc)
found_passes test (y ∷ ys) x found = go (test y) refl (found_passes test ys x) found
  where
    go : (b : Bool) → test y ≡ b → (find test ys ≡ Some x → test x ≡ true) → cond b (Some y) (find test ys) ≡ Some x → test x ≡ true
    go true passes further here = let same : y ≡ x = cc in ap test (sym same) ∙ passes
    go false fails further here = further here

main_is_main : (p : Program) (name : List ℕ) (main : MethodId) → main_of p name ≡ Some main → is_main_in (method_at p main) ≡ true
main_is_main p name main found = go (class_named p name) found
  where
    go : (k : Option Class) → main_in p k ≡ Some main → is_main_in (method_at p main) ≡ true
    go None is = absurd (let no : None ≡ Some main = is in cc)
    go (Some k) is = found_passes (λ m. is_main_in (method_at p m)) k.methods.items main is

module _ (p : Program) (safe : IsSafe p) (choices : Choices) (n : ℕ) where
  -- by whether the `main` has a body
  main_leaks_nothing : (main : MethodId) → is_main_in (method_at p main) ≡ true → run_outcome (run p main choices n) ≢ outcomes.Leaks
  main_leaks_nothing main is = go (body_of (method_at p main)) refl
    where
      go : (b : Option BodyId) → body_of (method_at p main) ≡ b → run_outcome (run p main choices n) ≢ outcomes.Leaks
      go None bodiless = bodiless_leaks_nothing p main choices n bodiless
      go (Some b) has = leaks_nothing p safe main choices n (is, ap has_body has)

  pub answer_leaks_nothing : (name : List ℕ) → answer_outcome p name choices n ≢ outcomes.Leaks
  answer_leaks_nothing name = go (main_of p name) refl
    where
      go : (m : Option MethodId) → main_of p name ≡ m → outcome_with p choices n m ≢ outcomes.Leaks
      go None is = λ same. absurd (let no : outcomes.Refused ≡ outcomes.Leaks = same in cc)
      go (Some main) is = main_leaks_nothing main (main_is_main p name main is)

pub safe_answer : (p : Program) → IsSafe p → (name : List ℕ) (choices : Choices) (n : ℕ) → answer_outcome p name choices n ≢ outcomes.Leaks
safe_answer p safe name choices n = answer_leaks_nothing p safe choices n name
