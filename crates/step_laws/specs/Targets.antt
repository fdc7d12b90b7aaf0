-- Where `this` stands while a body runs: an action that takes its target from a temp, and knows it to be `this` (JLS 15.8.3,
-- 15.11.2, 15.12.4.1, 8.8.7.1), finds `this` there.
use Rattle.std.specs.Prelude.{◌≡◌, ◌⊎◌, ℕ, ◌<◌, true, Option, Some, None, List, [], ◌∷◌, if◌then◌else◌}
use Rattle.std.specs.Option.{IsSomeAnd}
use Rattle.program_model.specs.declared.kinds.ExprId.{ExprId}
use Rattle.program_model.specs.declared.kinds.MethodKind.TheVariants as methods
use Rattle.program_model.specs.declared.program.Method.{Method}
use Rattle.program_model.specs.declared.program.Program.{Program}
use Rattle.program_model.specs.declared.tree.Body.{Body}
use Rattle.program_model.specs.Lookups.{method_at}
use Rattle.control_actions.specs.declared.action.Action.{Action}
use Rattle.control_actions.specs.declared.action.Action.TheVariants as actions
use Rattle.control_actions.specs.declared.action.Scope.{Scope}
use Rattle.control_actions.specs.declared.action.Scope.TheVariants as scopes
use Rattle.control_actions.specs.declared.action.TargetForm.TheVariants as forms
use Rattle.control_actions.specs.declared.place.Place.{Place}
use Rattle.control_actions.specs.declared.place.Place.TheVariants as places
use Rattle.java_control.specs.Calls.{is_this_form}
use Rattle.java_control.specs.Owned.{is_this}
use Rattle.java_control.specs.Remaining.{Todo, Todos, nil, cons, Do, Ev, Act, Cond, NullFork, BoolFork, LoopEnd, For, Leave, Catch, Fin, Close, Finish, Supp, Out, Ended}

-- the depth of the temp from which the action takes `this`: as the target of a call whose target is written `this`, implied, or
-- `super`, or of a super constructor call, or as the object of a field that is accessed through `this`
abbrev pub this_operand : Action → Option ℕ
this_operand (actions.Call m d n form) = if is_this_form form then Some d else None
this_operand (actions.Super m d n) = Some d
this_operand (actions.Get f d through_this) = if through_this then Some d else None
this_operand (actions.Put f d through_this) = if through_this then Some d else None
this_operand a = None

-- ---- what an action asks

-- an instance method or a constructor
abbrev pub HasThis : Option Method → Type 0
HasThis m = IsSomeAnd m (λ x. (x.kind ≡ methods.Instance) ⊎ (x.kind ≡ methods.Ctor))

abbrev pub IsStatic : Option Method → Type 0
IsStatic m = IsSomeAnd m (λ x. x.kind ≡ methods.Static)

-- the body is that of an instance method or a constructor
abbrev pub RunsOnThis : Program → Body → Type 0
RunsOnThis p b = HasThis (method_at p b.method)

-- Where the temps of the depths `held` hold `this`, the action finds `this` where it takes it from a temp, in a body that has
-- one. A call without a target names a static method.
abbrev pub FindsIt : Program → Body → Action → (ℕ → Type 0) → Type 0
FindsIt p b (actions.Call m d n forms.Static) held = IsStatic (method_at p m)
FindsIt p b (actions.Call m d n forms.This) held = held d × RunsOnThis p b × (0 < n)
FindsIt p b (actions.Call m d n forms.Super) held = held d × RunsOnThis p b × (0 < n)
FindsIt p b (actions.Super m d n) held = held d × RunsOnThis p b × (0 < n)
FindsIt p b (actions.Get f d true) held = held d × RunsOnThis p b
FindsIt p b (actions.Put f d true) held = held d × RunsOnThis p b
FindsIt p b a held = Unit {0}

-- ---- which temps hold `this`, as far as it is known

abbrev pub nowhere_held : ℕ → Type 0
nowhere_held x = ⊥

-- those of less than this depth that held it
abbrev pub below : ℕ → (ℕ → Type 0) → ℕ → Type 0
below d held x = (x < d) × held x

-- and the one of this depth, where so
abbrev pub below_and_at : ℕ → Type 0 → (ℕ → Type 0) → ℕ → Type 0
below_and_at d there held x = below d held x ⊎ ((x ≡ d) × there)

-- when the expression is evaluated at this depth
abbrev pub evaluated : Body → ExprId → ℕ → (ℕ → Type 0) → ℕ → Type 0
evaluated b e d held = below_and_at d (is_this b e ≡ true) held

abbrev pub copied : Place → Place → (ℕ → Type 0) → ℕ → Type 0
copied (places.Temp d) places.This held = below_and_at d (Unit {0}) held
copied (places.Temp d) y held = below d held
copied x y held = held

abbrev pub made_at : Place → (ℕ → Type 0) → ℕ → Type 0
made_at (places.Temp d) held = below d held
made_at x held = held

abbrev pub dropped : Scope → (ℕ → Type 0) → ℕ → Type 0
dropped (scopes.Temp d) held = below d held
dropped (scopes.TempsAbove d) held = below d held
dropped x held = held

-- after an action, whichever way it goes
abbrev pub after : Action → (ℕ → Type 0) → ℕ → Type 0
after actions.Skip held = held
after (actions.Copy x y) held = copied x y held
after (actions.Move x y) held = nowhere_held
after (actions.Plain x v) held = made_at x held
after (actions.Drop x) held = dropped x held
after (actions.Settle d c) held = below d held
after (actions.Enter clause x d k) held = below d held
after (actions.Test d) held = below d held
after (actions.Op k d n) held = below d held
after (actions.Get f d through_this) held = below d held
after (actions.Put f d through_this) held = below d held
after (actions.Cast t d) held = below d held
after (actions.PutOwn f d) held = held
after (actions.Call m d n form) held = below d held
after (actions.New m d n) held = below d held
after (actions.Super m d n) held = below d held
after (actions.Raise d c) held = below d held
after (actions.End c) held = held

-- ---- what is left of a body to run

-- Each action of the item finds `this`, and what follows the item does, as `follows` tells. No statement stands within an
-- expression, so what follows a statement relies on no temp. `aside` is asked of an item that is a completion, which does not go on.
abbrev mutual
  pub ItemFinds : Program → Body → Todo → ((ℕ → Type 0) → Type 0) → Type 0 → (ℕ → Type 0) → Type 0
  ItemFinds p b (Do s d) follows aside held = follows nowhere_held
  ItemFinds p b (Ev e d) follows aside held = follows (evaluated b e d held)
  ItemFinds p b (Act a pos) follows aside held = FindsIt p b a held × follows (after a held)
  ItemFinds p b (Cond c d x y) follows aside held = ItemsFind p b x follows (below d held) × ItemsFind p b y follows (below d held)
  ItemFinds p b (NullFork pos d x y) follows aside held = ItemsFind p b x follows (below d held) × ItemsFind p b y follows (below d held)
  ItemFinds p b (BoolFork pos d x y) follows aside held = ItemsFind p b x follows (below d held) × ItemsFind p b y follows (below d held)
  ItemFinds p b (LoopEnd w d) follows aside held = follows nowhere_held
  ItemFinds p b (For w d) follows aside held = follows nowhere_held
  ItemFinds p b (Leave x pos) follows aside held = follows (dropped x held)
  ItemFinds p b (Catch s d) follows aside held = follows nowhere_held
  ItemFinds p b (Fin f d) follows aside held = follows nowhere_held
  ItemFinds p b (Close r d) follows aside held = follows nowhere_held
  ItemFinds p b (Finish c d f) follows aside held = follows nowhere_held
  ItemFinds p b (Supp c d s) follows aside held = follows nowhere_held
  ItemFinds p b (Out c) follows aside held = aside
  ItemFinds p b Ended follows aside held = follows nowhere_held

  -- so do the items of a list within an item, in which no completion stands
  pub ItemsFind : Program → Body → Todos → ((ℕ → Type 0) → Type 0) → (ℕ → Type 0) → Type 0
  ItemsFind p b nil follows held = follows held
  ItemsFind p b (cons x xs) follows held = ItemFinds p b x (ItemsFind p b xs follows) ⊥ held

-- where a completion comes past the item: it stops there, or passes on
abbrev pub passes : Todo → Type 0 → Type 0 → Type 0
passes (LoopEnd w d) stops goes = stops
passes (Catch s d) stops goes = stops
passes (Fin f d) stops goes = stops
passes (Close r d) stops goes = stops
passes (Finish c d f) stops goes = stops
passes (Supp c d s) stops goes = stops
passes x stops goes = goes

abbrev mutual
  -- where the temps of the depths `held` hold `this`, each action that is left to run finds `this` where it takes it from a temp
  pub FindsThis : Program → Body → List Todo → (ℕ → Type 0) → Type 0
  FindsThis p b [] held = Unit {0}
  FindsThis p b (x ∷ k) held = ItemFinds p b x (FindsThis p b k) (FindsAside p b k) held

  -- so does each that is left when a completion went past all up to the first item at which it may stop
  pub FindsAside : Program → Body → List Todo → Type 0
  FindsAside p b [] = Unit {0}
  FindsAside p b (x ∷ k) = passes x (FindsThis p b k nowhere_held) (FindsAside p b k)
