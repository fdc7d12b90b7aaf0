-- Items whose actions set neither `this` nor the variable, also in the lists that they hold.
use Rattle.std.proofs.Common.{◌≡◌, ℕ, ◌-◌, ◌<◌, Bool, false, ◌||◌, List, [], ◌∷◌, ◌++◌, All, length, reverse, sym, ap, subst, arith}
use Rattle.std.proofs.lemmas.List.{get_or-reverse, length-reverse}
use Rattle.program_model.specs.declared.tree.Body.{Body}
use Rattle.java_control.specs.Remaining.{Todo, Todos, nil, cons, todos, Do, Ev, Act, Cond, NullFork, BoolFork, LoopEnd, For, Leave, Catch, Fin, Close, Finish, Supp, Out, Ended}
use Rattle.java_control.specs.Scopes.{drops_variable}
use Rattle.control_actions.specs.declared.action.Action.{Action}
use Rattle.step_laws.specs.Setting.{sets_this, sets_variable}

-- the step sets `this` or the variable
abbrev pub touches : Body → ℕ → Action → Bool
touches b v a = sets_this a || sets_variable b a v

abbrev mutual
  pub IsGood : Body → ℕ → Todo → Type 0
  IsGood b v (Act a pos) = touches b v a ≡ false
  IsGood b v (Cond c d x y) = AreGood b v x × AreGood b v y
  IsGood b v (NullFork pos d x y) = AreGood b v x × AreGood b v y
  IsGood b v (BoolFork pos d x y) = AreGood b v x × AreGood b v y
  IsGood b v (Leave x pos) = drops_variable b x v ≡ false
  IsGood b v (Close r d) = Unit {0}
  IsGood b v (Do s d) = Unit {0}
  IsGood b v (Ev e d) = Unit {0}
  IsGood b v (LoopEnd w d) = Unit {0}
  IsGood b v (For w d) = Unit {0}
  IsGood b v (Catch s d) = Unit {0}
  IsGood b v (Fin f d) = Unit {0}
  IsGood b v (Finish c d f) = Unit {0}
  IsGood b v (Supp c d s) = Unit {0}
  IsGood b v (Out c) = Unit {0}
  IsGood b v Ended = Unit {0}

  pub AreGood : Body → ℕ → Todos → Type 0
  AreGood b v nil = Unit {0}
  AreGood b v (cons x xs) = IsGood b v x × AreGood b v xs

abbrev pub AllGood : Body → ℕ → List Todo → Type 0
AllGood b v [] = Unit {0}
AllGood b v (x ∷ xs) = IsGood b v x × AllGood b v xs

pub good_todos : (b : Body) (v : ℕ) (xs : Todos) → AreGood b v xs → AllGood b v (todos xs)
good_todos b v nil good = tt
good_todos b v (cons x xs) good = (good.0, good_todos b v xs good.1)

pub good_both : (b : Body) (v : ℕ) (xs ys : List Todo) → AllGood b v xs → AllGood b v ys → AllGood b v (xs ++ ys)
good_both b v [] ys first second = second
good_both b v (x ∷ xs) ys first second = (first.0, good_both b v xs ys first.1 second)

pub all_reversed : {X : Type 0} (P : X → Type 0) (xs : List X) → All P xs → All P (reverse xs)
all_reversed P xs all k d below =
    let within : k < length xs = omega (arith, below, ap (λ (n : ℕ). n) (length-reverse xs)) in
    subst P (sym (get_or-reverse xs k d within)) (all (length xs - 1 - k) d (omega (arith, within)))
