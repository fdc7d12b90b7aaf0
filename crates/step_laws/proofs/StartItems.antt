-- Items of remaining syntax by whether the call of the super constructor is still to come (`early`) or not. What stands before it stores into no
-- owning field and calls nothing on `this`, and no item behind it calls a super constructor; also in the lists that items hold.
use Rattle.std.proofs.Common.{◌≡◌, Bool, true, false, List, [], ◌∷◌, ◌++◌, flat_map}
use Rattle.program_model.specs.declared.kinds.ExprId.{ExprId}
use Rattle.program_model.specs.declared.tree.Body.{Body}
use Rattle.program_model.specs.Heads.{is_super_call}
use Rattle.java_control.specs.Remaining.{Todo, Todos, nil, cons, todos, Do, Ev, Act, Cond, NullFork, BoolFork, LoopEnd, For, Leave, Catch, Fin, Close, Finish, Supp, Out, Ended}
use Rattle.control_actions.specs.declared.action.Action.{Action}
use Rattle.control_actions.specs.declared.action.Action.TheVariants as actions
use Rattle.control_actions.specs.declared.action.TargetForm.TheVariants as target_forms
use Rattle.control_actions.specs.declared.item.Condition.{Condition}
use Rattle.control_actions.specs.declared.item.Condition.TheVariants as conditions
use Rattle.step_laws.specs.SuperArguments.{LacksThis}

abbrev pub IsDue : Bool → Action → Type 0
IsDue early (actions.Super m d n) = early ≡ true
IsDue early (actions.PutOwn f d) = early ≡ false
IsDue early (actions.Call m d n target_forms.This) = early ≡ false
IsDue early (actions.Call m d n target_forms.Super) = early ≡ false
IsDue early a = Unit {0}

-- an expression that is left before the call holds no `this`
abbrev pub IsFree : Bool → Body → ExprId → Type 0
IsFree early b e = early ≡ true → LacksThis b e

abbrev pub IsFreeCondition : Bool → Body → Condition → Type 0
IsFreeCondition early b (conditions.Of e) = IsFree early b e
IsFreeCondition early b (conditions.Absent pos) = Unit {0}

abbrev mutual
  pub IsGood : Bool → Body → Todo → Type 0
  IsGood early b (Do s d) = (early ≡ false) × (is_super_call b s ≡ false)
  IsGood early b (Ev e d) = IsFree early b e
  IsGood early b (Act a pos) = IsDue early a
  IsGood early b (Cond c d x y) = IsFreeCondition early b c × AreGood early b x × AreGood early b y
  IsGood early b (NullFork pos d x y) = AreGood early b x × AreGood early b y
  IsGood early b (BoolFork pos d x y) = AreGood early b x × AreGood early b y
  IsGood early b (LoopEnd w d) = early ≡ false
  IsGood early b (For w d) = early ≡ false
  IsGood early b (Leave x pos) = Unit {0}
  IsGood early b (Catch s d) = early ≡ false
  IsGood early b (Fin f d) = (early ≡ false) × (is_super_call b f ≡ false)
  IsGood early b (Close r d) = Unit {0}
  IsGood early b (Finish c d f) = Unit {0}
  IsGood early b (Supp c d s) = Unit {0}
  IsGood early b (Out c) = Unit {0}
  IsGood early b Ended = Unit {0}

  pub AreGood : Bool → Body → Todos → Type 0
  AreGood early b nil = Unit {0}
  AreGood early b (cons x xs) = IsGood early b x × AreGood early b xs

abbrev pub AllGood : Bool → Body → List Todo → Type 0
AllGood early b [] = Unit {0}
AllGood early b (x ∷ xs) = IsGood early b x × AllGood early b xs

pub good_todos : (early : Bool) (b : Body) (xs : Todos) → AreGood early b xs → AllGood early b (todos xs)
good_todos early b nil good = tt
good_todos early b (cons x xs) good = (good.0, good_todos early b xs good.1)

pub good_both : (early : Bool) (b : Body) (xs ys : List Todo) → AllGood early b xs → AllGood early b ys → AllGood early b (xs ++ ys)
good_both early b [] ys first second = second
good_both early b (x ∷ xs) ys first second = (first.0, good_both early b xs ys first.1 second)

pub good_flat : {X : Type 0} (early : Bool) (b : Body) (f : X → List Todo) → ((x : X) → AllGood early b (f x)) → (xs : List X) → AllGood early b (flat_map f xs)
good_flat early b f each [] = tt
good_flat early b f each (x ∷ xs) = good_both early b (f x) (flat_map f xs) (each x) (good_flat early b f each xs)
