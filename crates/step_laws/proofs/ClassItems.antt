-- What is left of a body finds the values that it asks also where more temps are known to hold an object of the class or null.
use Rattle.std.proofs.Common.{ℕ, ◌+◌, Bool, true, false, Option, List, [], ◌∷◌, ◌++◌, inl, inr, arith, sym, subst}
use Rattle.std.proofs.lemmas.List.{append_assoc}
use Rattle.program_model.specs.declared.kinds.ClassId.{ClassId}
use Rattle.program_model.specs.declared.kinds.ExprId.{ExprId}
use Rattle.program_model.specs.declared.kinds.FieldId.{FieldId}
use Rattle.program_model.specs.declared.kinds.VType.{VType}
use Rattle.program_model.specs.declared.program.ParamSig.{ParamSig}
use Rattle.program_model.specs.declared.program.Program.{Program}
use Rattle.program_model.specs.declared.tree.Body.{Body}
use Rattle.control_actions.specs.declared.action.Action.{Action}
use Rattle.control_actions.specs.declared.action.Action.TheVariants as actions
use Rattle.control_actions.specs.declared.action.Completion.{Completion}
use Rattle.control_actions.specs.declared.action.Completion.TheVariants as completions
use Rattle.control_actions.specs.declared.action.PlainValue.{PlainValue}
use Rattle.control_actions.specs.declared.action.Scope.{Scope}
use Rattle.control_actions.specs.declared.action.Scope.TheVariants as scopes
use Rattle.control_actions.specs.declared.action.TargetForm.{TargetForm}
use Rattle.control_actions.specs.declared.action.TargetForm.TheVariants as forms
use Rattle.control_actions.specs.declared.place.Place.{Place}
use Rattle.control_actions.specs.declared.place.Place.TheVariants as places
use Rattle.java_control.specs.Expressions.{evaluations}
use Rattle.java_control.specs.Remaining.{Todo, Todos, nil, cons, todos, Do, Ev, Act, Cond, NullFork, BoolFork, LoopEnd, For, Leave, Catch, Fin, Close, Finish, Supp, Out, Ended}
use Rattle.step_laws.specs.Operands.{below, below_and_at, dropped, leaves_names, moved, passes, put_at, rests, throws_past}
use Rattle.step_laws.proofs.TypeItems.{Within, more_below}
use Rattle.step_laws.specs.ClassOperands.{CopyFits, FindsAside, FindsClass, Fits, GivesClass, GivesHeld, GivesOwnType, ItemFits, ItemsAside, ItemsFit, Returns, TakesAll, TakesTarget, UpdateFits, after, copied, evaluated, made_at}

-- ---- more temps

more_at : (d : ℕ) (there where_more : Type 0) (g h : ℕ → Type 0) → (there → where_more) → Within g h → Within (below_and_at d there g) (below_and_at d where_more h)
more_at d there where_more g h so more x (inl under) = inl (under.0, more x under.1)
more_at d there where_more g h so more x (inr same) = inr (same.0, so same.1)

more_put : (d : ℕ) (there where_more : Type 0) (g h : ℕ → Type 0) → (there → where_more) → Within g h → Within (put_at d there g) (put_at d where_more h)
more_put d there where_more g h so more x (inl other) = inl (other.0, more x other.1)
more_put d there where_more g h so more x (inr same) = inr (same.0, so same.1)

module _ (p : Program) (bound : ClassId) (b : Body) where
  more_given : (y : Place) (g h : ℕ → Type 0) → Within g h → GivesClass p bound b y g → GivesClass p bound b y h
  more_given (places.Var x) g h more given = given
  more_given (places.Field k) g h more given = given
  more_given (places.Temp d) g h more given = more d given
  more_given places.This g h more given = given
  more_given places.Super g h more given = given

  more_copied : (to from : Place) (g h : ℕ → Type 0) → Within g h → Within (copied p bound b to from g) (copied p bound b to from h)
  more_copied (places.Temp d) y g h more x held = more_put d (GivesClass p bound b y g) (GivesClass p bound b y h) g h (more_given y g h more) more x held
  more_copied (places.Var i) y g h more x held = more x held
  more_copied to y g h more x held = more x held

  more_moved : (to from : Place) (g h : ℕ → Type 0) → Within g h → Within (moved to from g) (moved to from h)
  more_moved (places.Var i) (places.Temp d) g h more x held = more_below d g h more x held
  more_moved (places.Var i) places.This g h more x held = absurd held
  more_moved (places.Var i) y g h more x held = absurd held
  more_moved places.This y g h more x held = absurd held
  more_moved to y g h more x held = absurd held

  more_made : (to : Place) (v : PlainValue) (g h : ℕ → Type 0) → Within g h → Within (made_at p bound to v g) (made_at p bound to v h)
  more_made (places.Temp d) v g h more x held = more_at d (GivesOwnType p bound v) (GivesOwnType p bound v) g h (λ none. none) more x held
  more_made (places.Var i) v g h more x held = more x held
  more_made to v g h more x held = more x held

  more_dropped : (s : Scope) (g h : ℕ → Type 0) → Within g h → Within (dropped s g) (dropped s h)
  more_dropped (scopes.Temp d) g h more x held = more_below d g h more x held
  more_dropped (scopes.TempsAbove d) g h more x held = more_below d g h more x held
  more_dropped (scopes.Declared s) g h more x held = more x held
  more_dropped (scopes.Variable y) g h more x held = more x held

  more_ended : (c : Completion) (g h : ℕ → Type 0) → Within g h → GivesHeld c g → GivesHeld c h
  more_ended (completions.ReturnValue d pos) g h more given = more d given
  more_ended (completions.Break pos) g h more given = given
  more_ended c g h more given = given

  more_after : (a : Action) (g h : ℕ → Type 0) → Within g h → Within (after p bound b a g) (after p bound b a h)
  more_after actions.Skip g h more x held = more x held
  more_after (actions.Copy to from) g h more x held = more_copied to from g h more x held
  more_after (actions.Move to from) g h more x held = more_moved to from g h more x held
  more_after (actions.Plain to v) g h more x held = more_made to v g h more x held
  more_after (actions.Drop s) g h more x held = more_dropped s g h more x held
  more_after (actions.Settle d c) g h more x held = more_at d _ _ g h (more_ended c g h more) more x held
  more_after (actions.Enter clause y d k) g h more x held = more_below d g h more x held
  more_after (actions.Test d) g h more x held = more_below d g h more x held
  more_after (actions.Op k d n) g h more x held = more_at d _ _ g h (λ none. none) more x held
  more_after (actions.Get f d this) g h more x held = more_at d _ _ g h (λ none. none) more x held
  more_after (actions.Put f d this) g h more x held = more_at d _ _ g h (more (d + 1)) more x held
  more_after (actions.Cast t d) g h more x held = more_at d _ _ g h (λ none. none) more x held
  more_after (actions.PutOwn f d) g h more x held = more x held
  more_after (actions.Call m d n form) g h more x held = more_at d _ _ g h (λ none. none) more x held
  more_after (actions.New m d n) g h more x held = more_at d _ _ g h (λ none. none) more x held
  more_after (actions.Super m d n) g h more x held = more_below d g h more x held
  more_after (actions.Raise d c) g h more x held = more_below d g h more x held
  more_after (actions.End c) g h more x held = more x held

  -- ---- what is asked

  more_copy : (to from : Place) (g h : ℕ → Type 0) → Within g h → CopyFits p bound b to from g → CopyFits p bound b to from h
  more_copy (places.Temp d) y g h more fits = tt
  more_copy (places.Var x) (places.Temp d) g h more fits = λ none. more d (fits none)
  more_copy (places.Var x) places.This g h more fits = fits
  more_copy (places.Var x) y g h more fits = fits
  more_copy places.This y g h more fits = fits
  more_copy to y g h more fits = fits

  more_all : (xs : List ParamSig) (d : ℕ) (g h : ℕ → Type 0) → Within g h → TakesAll p bound xs d g → TakesAll p bound xs d h
  more_all [] d g h more takes = tt
  more_all (x ∷ xs) d g h more takes = (λ none. more d (takes.0 none), more_all xs (d + 1) g h more takes.1)

  pub more_returns : (c : Completion) (g h : ℕ → Type 0) → Within g h → Returns p bound b c g → Returns p bound b c h
  more_returns (completions.ReturnValue d pos) g h more returns = λ none. more d (returns none)
  more_returns (completions.Break pos) g h more returns = tt
  more_returns c g h more returns = tt

  more_target : (form : TargetForm) (t : Option VType) (d : ℕ) (g h : ℕ → Type 0) → Within g h → TakesTarget p bound form t d g → TakesTarget p bound form t d h
  more_target forms.Super t d g h more takes = λ to. more d (takes to)
  more_target forms.Static t d g h more takes = tt
  more_target form t d g h more takes = tt

  more_update : (f : FieldId) (this : Bool) (d : ℕ) (g h : ℕ → Type 0) → Within g h → UpdateFits p b f this d g → UpdateFits p b f this d h
  more_update f true d g h more fits = λ own declared text. more (d + 1) (fits own declared text)
  more_update f false d g h more fits = tt

  more_fits : (a : Action) (g h : ℕ → Type 0) → Within g h → Fits p bound b a g → Fits p bound b a h
  more_fits actions.Skip g h more fits = tt
  more_fits (actions.Copy x y) g h more fits = more_copy x y g h more fits
  more_fits (actions.Move x y) g h more fits = more_copy x y g h more fits
  more_fits (actions.Plain x v) g h more fits = fits
  more_fits (actions.Enter clause x d k) g h more fits = fits
  more_fits (actions.Put f d this) g h more fits = ((λ none. more (d + 1) (fits.0 none)), more_update f this d g h more fits.1)
  more_fits (actions.PutOwn f d) g h more fits = λ none. more d (fits none)
  more_fits (actions.Call m d n form) g h more fits = (more_all _ _ g h more fits.0, more_target form _ d g h more fits.1)
  more_fits (actions.New m d n) g h more fits = more_all _ _ g h more fits
  more_fits (actions.Super m d n) g h more fits = (more_all _ _ g h more fits.0, λ to. more d (fits.1 to))
  more_fits (actions.Raise d c) g h more fits = λ to. more d (fits to)
  more_fits (actions.End c) g h more fits = more_returns c g h more fits
  more_fits a g h more fits = tt

  -- ---- what follows with more

  -- what holds with some temps holds with more, there for the one and here for the other
  abbrev pub Grows : ((ℕ → Type 0) → Type 0) → ((ℕ → Type 0) → Type 0) → Type 1
  Grows K L = (g h : ℕ → Type 0) → Within g h → K g → L h

  more_thrown : (a : Action) (A B : (ℕ → Type 0) → Type 0) → Grows A B → (g h : ℕ → Type 0) → Within g h → throws_past a A g → throws_past a B h
  more_thrown (actions.Op k d n) A B aside g h more past = aside _ _ (more_below d g h more) past
  more_thrown (actions.Get f d this) A B aside g h more past = aside _ _ (more_below d g h more) past
  more_thrown (actions.Put f d this) A B aside g h more past = aside _ _ (more_below d g h more) past
  more_thrown (actions.Cast t d) A B aside g h more past = aside _ _ (more_below d g h more) past
  more_thrown (actions.Call m d n form) A B aside g h more past = aside _ _ (more_below d g h more) past
  more_thrown (actions.New m d n) A B aside g h more past = aside _ _ (more_below d g h more) past
  more_thrown (actions.Super m d n) A B aside g h more past = aside _ _ (more_below d g h more) past
  more_thrown (actions.Raise d c) A B aside g h more past = aside _ _ (more_below d g h more) past
  more_thrown actions.Skip A B aside g h more past = tt
  more_thrown a A B aside g h more past = tt

  more_rests : (d : ℕ) (K L A B : (ℕ → Type 0) → Type 0) → Grows K L → Grows A B → (g h : ℕ → Type 0) → Within g h → rests K A d g → rests L B d h
  more_rests d K L A B rest aside g h more fits = (rest _ _ (more_below d g h more) fits.0, aside _ _ (more_below d g h more) fits.1)

  more_names : (x : Scope) (P Q : Type 0) → (P → Q) → leaves_names x P → leaves_names x Q
  more_names (scopes.Declared s) P Q so is = so is
  more_names (scopes.Variable y) P Q so is = so is
  more_names (scopes.Temp d) P Q so is = is
  more_names (scopes.TempsAbove d) P Q so is = is

  more_passes : (x : Todo) (K L A B : (ℕ → Type 0) → Type 0) → Grows K L → Grows A B → (g h : ℕ → Type 0) → Within g h → passes p x K A g → passes p x L B h
  more_passes (LoopEnd w d) K L A B rest aside g h more fits = more_rests d K L A B rest aside g h more fits
  more_passes (Catch s d) K L A B rest aside g h more fits = more_rests d K L A B rest aside g h more fits
  more_passes (Fin f d) K L A B rest aside g h more fits = more_rests d K L A B rest aside g h more fits
  more_passes (Close r d) K L A B rest aside g h more fits = (fits.0, more_rests d K L A B rest aside g h more fits.1)
  more_passes (Finish c d f) K L A B rest aside g h more fits = aside _ _ (more_below d g h more) fits
  more_passes (Supp c d s) K L A B rest aside g h more fits = aside _ _ (more_below d g h more) fits
  more_passes (Leave x pos) K L A B rest aside g h more fits = more_names x (A g) (B h) (aside g h more) fits
  more_passes x K L A B rest aside g h more fits = aside g h more fits

  mutual
    item_more : (x : Todo) (K L A B : (ℕ → Type 0) → Type 0) → Grows K L → Grows A B → (g h : ℕ → Type 0) → Within g h → ItemFits p bound b x K A g → ItemFits p bound b x L B h
    item_more (Do s d) K L A B rest aside g h more fits = more_rests d K L A B rest aside g h more fits
    item_more (Ev e d) K L A B rest aside g h more fits = (rest _ _ (more_at d _ _ g h (λ none. none) more) fits.0, aside _ _ (more_below d g h more) fits.1)
    item_more (Act a pos) K L A B rest aside g h more fits = (more_fits a g h more fits.0, rest (after p bound b a g) (after p bound b a h) (more_after a g h more) fits.1, more_thrown a A B aside g h more fits.2)
    item_more (Cond c d xs ys) K L A B rest aside g h more fits =
        (items_more xs K L A B rest aside _ _ (more_below d g h more) fits.0, items_more ys K L A B rest aside _ _ (more_below d g h more) fits.1, aside _ _ (more_below d g h more) fits.2)
    item_more (NullFork pos d xs ys) K L A B rest aside g h more fits =
        (items_more xs K L A B rest aside _ _ (more_below d g h more) fits.0, items_more ys K L A B rest aside _ _ (more_below d g h more) fits.1)
    item_more (BoolFork pos d xs ys) K L A B rest aside g h more fits =
        (items_more xs K L A B rest aside _ _ (more_below d g h more) fits.0, items_more ys K L A B rest aside _ _ (more_below d g h more) fits.1)
    item_more (LoopEnd w d) K L A B rest aside g h more fits = more_rests d K L A B rest aside g h more fits
    item_more (For w d) K L A B rest aside g h more fits = more_rests d K L A B rest aside g h more fits
    item_more (Leave x pos) K L A B rest aside g h more fits = more_names x (K g) (L h) (rest g h more) fits
    item_more (Catch s d) K L A B rest aside g h more fits = more_rests d K L A B rest aside g h more fits
    item_more (Fin f d) K L A B rest aside g h more fits = more_rests d K L A B rest aside g h more fits
    item_more (Close r d) K L A B rest aside g h more fits = (fits.0, more_rests d K L A B rest aside g h more fits.1)
    item_more (Finish c d f) K L A B rest aside g h more fits = (more_returns c g h more fits.0, aside _ _ (more_below d g h more) fits.1)
    item_more (Supp c d s) K L A B rest aside g h more fits = (more_returns c g h more fits.0, aside _ _ (more_below d g h more) fits.1)
    item_more (Out c) K L A B rest aside g h more fits = (more_returns c g h more fits.0, aside g h more fits.1)
    item_more Ended K L A B rest aside g h more fits = tt

    items_more : (xs : Todos) (K L A B : (ℕ → Type 0) → Type 0) → Grows K L → Grows A B → (g h : ℕ → Type 0) → Within g h → ItemsFit p bound b xs K A g → ItemsFit p bound b xs L B h
    items_more nil K L A B rest aside g h more fits = rest g h more fits
    items_more (cons x xs) K L A B rest aside g h more fits =
        item_more x (ItemsFit p bound b xs K A) (ItemsFit p bound b xs L B) (ItemsAside p bound b xs K A) (ItemsAside p bound b xs L B) (items_more xs K L A B rest aside) (aside_more xs K L A B rest aside) g h more fits

    aside_more : (xs : Todos) (K L A B : (ℕ → Type 0) → Type 0) → Grows K L → Grows A B → (g h : ℕ → Type 0) → Within g h → ItemsAside p bound b xs K A g → ItemsAside p bound b xs L B h
    aside_more nil K L A B rest aside g h more fits = aside g h more fits
    aside_more (cons x xs) K L A B rest aside g h more fits =
        more_passes x (ItemsFit p bound b xs K A) (ItemsFit p bound b xs L B) (ItemsAside p bound b xs K A) (ItemsAside p bound b xs L B) (items_more xs K L A B rest aside) (aside_more xs K L A B rest aside) g h more fits

  mutual
    pub finds_more : (k : List Todo) (g h : ℕ → Type 0) → Within g h → FindsClass p bound b k g → FindsClass p bound b k h
    finds_more [] g h more finds = tt
    finds_more (x ∷ k) g h more finds = item_more x (FindsClass p bound b k) (FindsClass p bound b k) (FindsAside p bound b k) (FindsAside p bound b k) (finds_more k) (past_more k) g h more finds

    pub past_more : (k : List Todo) (g h : ℕ → Type 0) → Within g h → FindsAside p bound b k g → FindsAside p bound b k h
    past_more [] g h more finds = tt
    past_more (x ∷ k) g h more finds = more_passes x (FindsClass p bound b k) (FindsClass p bound b k) (FindsAside p bound b k) (FindsAside p bound b k) (finds_more k) (past_more k) g h more finds

  -- what a list within an item is followed by
  mutual
    pub items_found : (xs : Todos) (k : List Todo) (g h : ℕ → Type 0) → Within g h → ItemsFit p bound b xs (FindsClass p bound b k) (FindsAside p bound b k) g → FindsClass p bound b (todos xs ++ k) h
    items_found nil k g h more fits = finds_more k g h more fits
    items_found (cons x xs) k g h more fits =
        item_more x (ItemsFit p bound b xs (FindsClass p bound b k) (FindsAside p bound b k)) (FindsClass p bound b (todos xs ++ k)) (ItemsAside p bound b xs (FindsClass p bound b k) (FindsAside p bound b k)) (FindsAside p bound b (todos xs ++ k))
        (items_found xs k) (items_past xs k) g h more fits

    pub items_past : (xs : Todos) (k : List Todo) (g h : ℕ → Type 0) → Within g h → ItemsAside p bound b xs (FindsClass p bound b k) (FindsAside p bound b k) g → FindsAside p bound b (todos xs ++ k) h
    items_past nil k g h more fits = past_more k g h more fits
    items_past (cons x xs) k g h more fits =
        more_passes x (ItemsFit p bound b xs (FindsClass p bound b k) (FindsAside p bound b k)) (FindsClass p bound b (todos xs ++ k)) (ItemsAside p bound b xs (FindsClass p bound b k) (FindsAside p bound b k)) (FindsAside p bound b (todos xs ++ k))
        (items_found xs k) (items_past xs k) g h more fits

  pub items_same : (xs : Todos) (k : List Todo) (g h : ℕ → Type 0) → Within g h → ItemsFit p bound b xs (FindsClass p bound b k) (FindsAside p bound b k) g → ItemsFit p bound b xs (FindsClass p bound b k) (FindsAside p bound b k) h
  items_same xs k g h more fits = items_more xs (FindsClass p bound b k) (FindsClass p bound b k) (FindsAside p bound b k) (FindsAside p bound b k) (finds_more k) (past_more k) g h more fits

  -- ---- lists one behind the other

  pub in_three : (xs ys k : List Todo) (h : ℕ → Type 0) → FindsClass p bound b (xs ++ (ys ++ k)) h → FindsClass p bound b ((xs ++ ys) ++ k) h
  in_three xs ys k h finds = subst (λ (z : List Todo). FindsClass p bound b z h) (sym (append_assoc xs ys k)) finds

  pub past_three : (xs ys k : List Todo) (h : ℕ → Type 0) → FindsAside p bound b (xs ++ (ys ++ k)) h → FindsAside p bound b ((xs ++ ys) ++ k) h
  past_three xs ys k h finds = subst (λ (z : List Todo). FindsAside p bound b z h) (sym (append_assoc xs ys k)) finds

  -- ---- operands

  -- when the expressions are evaluated from this depth on
  abbrev pub all_evaluated : List ExprId → ℕ → (ℕ → Type 0) → ℕ → Type 0
  all_evaluated [] d h = h
  all_evaluated (e ∷ es) d h = all_evaluated es (d + 1) (evaluated p bound b e d h)

  -- below the operands behind an expression's value
  pub under_next : (e : ExprId) (d : ℕ) (h : ℕ → Type 0) → Within (below d h) (below (d + 1) (evaluated p bound b e d h))
  under_next e d h x under = (omega (arith, under.0), inl under)

  pub under_all : (es : List ExprId) (d : ℕ) (h : ℕ → Type 0) → Within (below d h) (all_evaluated es d h)
  under_all [] d h x under = under.1
  under_all (e ∷ es) d h x under = under_all es (d + 1) (evaluated p bound b e d h) x (under_next e d h x under)

  pub below_all : (es : List ExprId) (d : ℕ) (h : ℕ → Type 0) → Within (below d h) (below d (all_evaluated es d h))
  below_all es d h x under = (under.0, under_all es d h x under)

  pub evaluations_past : (es : List ExprId) (d : ℕ) (k : List Todo) (h : ℕ → Type 0) → FindsAside p bound b k h → FindsAside p bound b (evaluations es d ++ k) h
  evaluations_past [] d k h finds = finds
  evaluations_past (e ∷ es) d k h finds = evaluations_past es (d + 1) k h finds

  pub evaluations_find : (es : List ExprId) (d : ℕ) (k : List Todo) (h : ℕ → Type 0) → FindsClass p bound b k (all_evaluated es d h) → FindsAside p bound b k (below d h) → FindsClass p bound b (evaluations es d ++ k) h
  evaluations_find [] d k h finds past = finds
  evaluations_find (e ∷ es) d k h finds past =
      (evaluations_find es (d + 1) k (evaluated p bound b e d h) finds (past_more k (below d h) (below (d + 1) (evaluated p bound b e d h)) (under_next e d h) past), evaluations_past es (d + 1) k (below d h) past)
