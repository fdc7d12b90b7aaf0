-- What is left of a body finds `this` also where more temps hold it.
use Rattle.std.proofs.Common.{ℕ, ◌+◌, true, false, List, [], ◌∷◌, ◌++◌, inl, inr, arith, sym, subst}
use Rattle.std.proofs.lemmas.List.{append_assoc}
use Rattle.program_model.specs.declared.kinds.ExprId.{ExprId}
use Rattle.program_model.specs.declared.program.Program.{Program}
use Rattle.program_model.specs.declared.tree.Body.{Body}
use Rattle.control_actions.specs.declared.action.Action.{Action}
use Rattle.control_actions.specs.declared.action.Action.TheVariants as actions
use Rattle.control_actions.specs.declared.action.Scope.{Scope}
use Rattle.control_actions.specs.declared.action.Scope.TheVariants as scopes
use Rattle.control_actions.specs.declared.action.TargetForm.TheVariants as forms
use Rattle.control_actions.specs.declared.place.Place.{Place}
use Rattle.control_actions.specs.declared.place.Place.TheVariants as places
use Rattle.java_control.specs.Expressions.{evaluations}
use Rattle.java_control.specs.Remaining.{Todo, Todos, nil, cons, todos, Do, Ev, Act, Cond, NullFork, BoolFork, LoopEnd, For, Leave, Catch, Fin, Close, Finish, Supp, Out, Ended}
use Rattle.step_laws.specs.Targets.{FindsAside, FindsIt, FindsThis, ItemFinds, ItemsFind, after, below, below_and_at, copied, dropped, evaluated, made_at, nowhere_held}

-- ---- more temps

more_below : (d : ℕ) (g h : ℕ → Type 0) → ((x : ℕ) → g x → h x) → (x : ℕ) → below d g x → below d h x
more_below d g h more x (under, held) = (under, more x held)

more_at : (d : ℕ) (there : Type 0) (g h : ℕ → Type 0) → ((x : ℕ) → g x → h x) → (x : ℕ) → below_and_at d there g x → below_and_at d there h x
more_at d there g h more x (inl under) = inl (under.0, more x under.1)
more_at d there g h more x (inr same) = inr same

more_copied : (to from : Place) (g h : ℕ → Type 0) → ((x : ℕ) → g x → h x) → (x : ℕ) → copied to from g x → copied to from h x
more_copied (places.Temp d) places.This g h more x held = more_at d (Unit {0}) g h more x held
more_copied (places.Temp d) (places.Var i) g h more x held = more_below d g h more x held
more_copied (places.Temp d) y g h more x held = more_below d g h more x held
more_copied (places.Var i) y g h more x held = more x held
more_copied to y g h more x held = more x held

more_made : (to : Place) (g h : ℕ → Type 0) → ((x : ℕ) → g x → h x) → (x : ℕ) → made_at to g x → made_at to h x
more_made (places.Temp d) g h more x held = more_below d g h more x held
more_made (places.Var i) g h more x held = more x held
more_made to g h more x held = more x held

more_dropped : (s : Scope) (g h : ℕ → Type 0) → ((x : ℕ) → g x → h x) → (x : ℕ) → dropped s g x → dropped s h x
more_dropped (scopes.Temp d) g h more x held = more_below d g h more x held
more_dropped (scopes.TempsAbove d) g h more x held = more_below d g h more x held
more_dropped (scopes.Declared s) g h more x held = more x held
more_dropped (scopes.Variable y) g h more x held = more x held

more_after : (a : Action) (g h : ℕ → Type 0) → ((x : ℕ) → g x → h x) → (x : ℕ) → after a g x → after a h x
more_after actions.Skip g h more x held = more x held
more_after (actions.Copy to from) g h more x held = more_copied to from g h more x held
more_after (actions.Move to from) g h more x held = absurd held
more_after (actions.Plain to v) g h more x held = more_made to g h more x held
more_after (actions.Drop s) g h more x held = more_dropped s g h more x held
more_after (actions.Settle d c) g h more x held = more_below d g h more x held
more_after (actions.Enter clause y d k) g h more x held = more_below d g h more x held
more_after (actions.Test d) g h more x held = more_below d g h more x held
more_after (actions.Op k d n) g h more x held = more_below d g h more x held
more_after (actions.Get f d this) g h more x held = more_below d g h more x held
more_after (actions.Put f d this) g h more x held = more_below d g h more x held
more_after (actions.Cast t d) g h more x held = more_below d g h more x held
more_after (actions.PutOwn f d) g h more x held = more x held
more_after (actions.Call m d n form) g h more x held = more_below d g h more x held
more_after (actions.New m d n) g h more x held = more_below d g h more x held
more_after (actions.Super m d n) g h more x held = more_below d g h more x held
more_after (actions.Raise d c) g h more x held = more_below d g h more x held
more_after (actions.End c) g h more x held = more x held

-- below the operands behind an expression's value
pub under_next : (b : Body) (e : ExprId) (d : ℕ) (h : ℕ → Type 0) (x : ℕ) → below d h x → below (d + 1) (evaluated b e d h) x
under_next b e d h x under = (omega (arith, under.0), inl under)

module _ (p : Program) (b : Body) where
  more_found : (a : Action) (g h : ℕ → Type 0) → ((x : ℕ) → g x → h x) → FindsIt p b a g → FindsIt p b a h
  more_found actions.Skip g h more finds = tt
  more_found (actions.Call m d n forms.Static) g h more finds = finds
  more_found (actions.Call m d n forms.This) g h more finds = (more d finds.0, finds.1, finds.2)
  more_found (actions.Call m d n forms.Super) g h more finds = (more d finds.0, finds.1, finds.2)
  more_found (actions.Call m d n forms.Other) g h more finds = tt
  more_found (actions.Super m d n) g h more finds = (more d finds.0, finds.1, finds.2)
  more_found (actions.Get f d true) g h more finds = (more d finds.0, finds.1)
  more_found (actions.Get f d false) g h more finds = tt
  more_found (actions.Put f d true) g h more finds = (more d finds.0, finds.1)
  more_found (actions.Put f d false) g h more finds = tt
  more_found a g h more finds = tt

  -- ---- more temps, and what follows does with more
  mutual
    pub item_more : (x : Todo) (K L : (ℕ → Type 0) → Type 0) (A B : Type 0) → (A → B) → ((g h : ℕ → Type 0) → ((d : ℕ) → g d → h d) → K g → L h)
        → (g h : ℕ → Type 0) → ((d : ℕ) → g d → h d) → ItemFinds p b x K A g → ItemFinds p b x L B h
    item_more (Do s d) K L A B aside rest g h more finds = rest nowhere_held nowhere_held (λ x held. held) finds
    item_more (Ev e d) K L A B aside rest g h more finds = rest _ _ (more_at d _ g h more) finds
    item_more (Act a pos) K L A B aside rest g h more finds = (more_found a g h more finds.0, rest (after a g) (after a h) (more_after a g h more) finds.1)
    item_more (Cond c d xs ys) K L A B aside rest g h more finds =
        (items_more xs K L rest (below d g) (below d h) (more_below d g h more) finds.0, items_more ys K L rest (below d g) (below d h) (more_below d g h more) finds.1)
    item_more (NullFork pos d xs ys) K L A B aside rest g h more finds =
        (items_more xs K L rest (below d g) (below d h) (more_below d g h more) finds.0, items_more ys K L rest (below d g) (below d h) (more_below d g h more) finds.1)
    item_more (BoolFork pos d xs ys) K L A B aside rest g h more finds =
        (items_more xs K L rest (below d g) (below d h) (more_below d g h more) finds.0, items_more ys K L rest (below d g) (below d h) (more_below d g h more) finds.1)
    item_more (LoopEnd w d) K L A B aside rest g h more finds = rest nowhere_held nowhere_held (λ x held. held) finds
    item_more (For w d) K L A B aside rest g h more finds = rest nowhere_held nowhere_held (λ x held. held) finds
    item_more (Leave s pos) K L A B aside rest g h more finds = rest (dropped s g) (dropped s h) (more_dropped s g h more) finds
    item_more (Catch s d) K L A B aside rest g h more finds = rest nowhere_held nowhere_held (λ x held. held) finds
    item_more (Fin f d) K L A B aside rest g h more finds = rest nowhere_held nowhere_held (λ x held. held) finds
    item_more (Close r d) K L A B aside rest g h more finds = rest nowhere_held nowhere_held (λ x held. held) finds
    item_more (Finish c d f) K L A B aside rest g h more finds = rest nowhere_held nowhere_held (λ x held. held) finds
    item_more (Supp c d s) K L A B aside rest g h more finds = rest nowhere_held nowhere_held (λ x held. held) finds
    item_more (Out c) K L A B aside rest g h more finds = aside finds
    item_more Ended K L A B aside rest g h more finds = rest nowhere_held nowhere_held (λ x held. held) finds

    pub items_more : (xs : Todos) (K L : (ℕ → Type 0) → Type 0) → ((g h : ℕ → Type 0) → ((d : ℕ) → g d → h d) → K g → L h)
        → (g h : ℕ → Type 0) → ((d : ℕ) → g d → h d) → ItemsFind p b xs K g → ItemsFind p b xs L h
    items_more nil K L rest g h more finds = rest g h more finds
    items_more (cons x xs) K L rest g h more finds =
        item_more x (ItemsFind p b xs K) (ItemsFind p b xs L) ⊥ ⊥ (λ none. none) (items_more xs K L rest) g h more finds

  pub finds_more : (k : List Todo) (g h : ℕ → Type 0) → ((d : ℕ) → g d → h d) → FindsThis p b k g → FindsThis p b k h
  finds_more [] g h more finds = tt
  finds_more (x ∷ k) g h more finds = item_more x (FindsThis p b k) (FindsThis p b k) (FindsAside p b k) (FindsAside p b k) (λ aside. aside) (finds_more k) g h more finds

  -- what a list within an item is followed by
  pub items_found : (xs : Todos) (k : List Todo) (g h : ℕ → Type 0) → ((d : ℕ) → g d → h d) → ItemsFind p b xs (FindsThis p b k) g → FindsThis p b (todos xs ++ k) h
  items_found nil k g h more finds = finds_more k g h more finds
  items_found (cons x xs) k g h more finds =
      item_more x (ItemsFind p b xs (FindsThis p b k)) (FindsThis p b (todos xs ++ k)) ⊥ (FindsAside p b (todos xs ++ k)) (λ none. absurd none) (items_found xs k) g h more finds

  -- ---- a completion goes past what is left
  mutual
    item_leads : (x : Todo) (K : (ℕ → Type 0) → Type 0) (A B : Type 0) → (A → B) → ((g : ℕ → Type 0) → K g → B) → (g : ℕ → Type 0) → ItemFinds p b x K A g → B
    item_leads (Do s d) K A B aside rest g finds = rest nowhere_held finds
    item_leads (Ev e d) K A B aside rest g finds = rest _ finds
    item_leads (Act a pos) K A B aside rest g finds = rest (after a g) finds.1
    item_leads (Cond c d xs ys) K A B aside rest g finds = items_lead xs K B rest (below d g) finds.0
    item_leads (NullFork pos d xs ys) K A B aside rest g finds = items_lead xs K B rest (below d g) finds.0
    item_leads (BoolFork pos d xs ys) K A B aside rest g finds = items_lead xs K B rest (below d g) finds.0
    item_leads (Leave s pos) K A B aside rest g finds = rest (dropped s g) finds
    item_leads (Out c) K A B aside rest g finds = aside finds
    item_leads x K A B aside rest g finds = rest nowhere_held finds

    items_lead : (xs : Todos) (K : (ℕ → Type 0) → Type 0) (B : Type 0) → ((g : ℕ → Type 0) → K g → B) → (g : ℕ → Type 0) → ItemsFind p b xs K g → B
    items_lead nil K B rest g finds = rest g finds
    items_lead (cons x xs) K B rest g finds = item_leads x (ItemsFind p b xs K) ⊥ B (λ none. absurd none) (items_lead xs K B rest) g finds

  pub finds_aside : (k : List Todo) (g : ℕ → Type 0) → FindsThis p b k g → FindsAside p b k
  finds_aside [] g finds = tt
  finds_aside (LoopEnd w d ∷ k) g finds = finds
  finds_aside (Catch s d ∷ k) g finds = finds
  finds_aside (Fin f d ∷ k) g finds = finds
  finds_aside (Close r d ∷ k) g finds = finds
  finds_aside (Finish c d f ∷ k) g finds = finds
  finds_aside (Supp c d s ∷ k) g finds = finds
  finds_aside (x ∷ k) g finds = item_leads x (FindsThis p b k) (FindsAside p b k) (FindsAside p b k) (λ aside. aside) (finds_aside k) g finds

  -- where nothing is relied on, nothing need be held
  pub from_none : (k : List Todo) (h : ℕ → Type 0) → FindsThis p b k nowhere_held → FindsThis p b k h
  from_none k h finds = finds_more k nowhere_held h (λ d none. absurd none) finds

  -- ---- lists one behind the other

  pub in_three : (xs ys k : List Todo) (h : ℕ → Type 0) → FindsThis p b (xs ++ (ys ++ k)) h → FindsThis p b ((xs ++ ys) ++ k) h
  in_three xs ys k h finds = subst (λ (z : List Todo). FindsThis p b z h) (sym (append_assoc xs ys k)) finds

  -- ---- operands

  pub evaluations_find : (es : List ExprId) (d : ℕ) (k : List Todo) (h : ℕ → Type 0) → FindsThis p b k (below d h) → FindsThis p b (evaluations es d ++ k) h
  evaluations_find [] d k h finds = finds_more k (below d h) h (λ x under. under.1) finds
  evaluations_find (e ∷ es) d k h finds =
      evaluations_find es (d + 1) k (evaluated b e d h) (finds_more k (below d h) (below (d + 1) (evaluated b e d h)) (under_next b e d h) finds)
