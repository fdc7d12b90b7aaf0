-- What a frame keeps: where it begins, and at each of its steps.
use Rattle.std.proofs.Common.{◌≡◌, ◌∙◌, ap, refl, sym, subst, arith, ℕ, zero, suc, ◌-◌, ◌<◌, true, false, true≢false, Option, Some, None, List, [], ◌∷◌, ◌++◌, IsSomeAnd, length, replicate, option_map, slice_get, All, Bool}
use Rattle.std.proofs.lemmas.Bool.{and_parts}
use Rattle.std.proofs.lemmas.List.Elements.{All-head, All-replicate, All-tail}
use Rattle.std.proofs.lemmas.Option.{slice_get-map}
use Rattle.program_model.specs.declared.kinds.BodyId.{BodyId}
use Rattle.program_model.specs.declared.kinds.ElementType.{ElementType}
use Rattle.program_model.specs.declared.kinds.MethodId.{MethodId}
use Rattle.program_model.specs.declared.kinds.Primitive.{Primitive}
use Rattle.program_model.specs.declared.kinds.VType.{VType}
use Rattle.program_model.specs.declared.kinds.VType.TheVariants as types
use Rattle.program_model.specs.declared.program.Method.{Method}
use Rattle.program_model.specs.declared.program.ParamSig.{ParamSig}
use Rattle.program_model.specs.declared.program.Program.{Program}
use Rattle.program_model.specs.declared.tree.Body.{Body}
use Rattle.program_model.specs.declared.tree.Var.{Var}
use Rattle.program_model.specs.Lookups.{body_at, method_at, type_of_variable, variable_type}
use Rattle.program_model.specs.Overrides.{are_types, is_type}
use Rattle.program_model.specs.Validity.{HasParameters, IsBodyOf, OwnsBody, is_class_type}
use Rattle.java_control.specs.Control.{Step, next_of}
use Rattle.java_control.specs.Sources.{is_throws}
use Rattle.frame_laws.specs.SmallActions.{IsSmallAction}
use Rattle.dispatch_laws.specs.Accept.{Accept}
use Rattle.frame_laws.specs.Paths.{move_of, on, relation_of, start}
use Rattle.ledger_state.specs.Contents.{HeapContents}
use Rattle.ledger_state.specs.Locals.{temp_value}
use Rattle.ledger_state.specs.Values.{value_or_nothing}
use Rattle.ledger_state.specs.declared.value.Value.{Value}
use Rattle.ledger_state.specs.declared.value.Value.TheVariants as values
use Rattle.ledger_steps.specs.LedgerCallsCalls.{begun, body_of, control_in, variable_count}
use Rattle.ledger_moves.specs.Configuration.{Frame}
use Rattle.ledger_moves.specs.Choosing.{body_by, frame_steps, method_body, steps_by}
use Rattle.ledger_moves.specs.LedgerFramesFrames.{frame_after}
use Rattle.ledger_moves.specs.Moves.{has_body}
use Rattle.dispatch_laws.specs.Operands.{FindsTypes, Fits, NoObject, left_held}
use Rattle.dispatch_laws.proofs.TypeItems.{finds_more}
use Rattle.dispatch_laws.proofs.TypeWays.{start_finds, step_finds}
use Rattle.dispatch_laws.specs.StepOrigins.{IsCastToNone, MakesNone}
use Rattle.dispatch_laws.proofs.Origins.{left}
use Rattle.dispatch_laws.specs.Values.{IsNoObjectBut, temp_holds_none}
use Rattle.dispatch_laws.specs.FrameValues.{FieldsHoldNone}
use Rattle.dispatch_laws.proofs.Temps.{after_none}
use Rattle.value_laws.specs.Types.{KeepsTypes, StoredHoldNone, holds_none}
use Rattle.value_laws.proofs.ValueTypeOperands.{fits_here, small_left, takes_here}
use Rattle.value_laws.proofs.ValueTypeOwningFields.{fields_hold_none}
use Rattle.value_laws.proofs.ValueTypeVariables.{SetsNone, variables_after}

-- the objects of class `String` are these
module _ (texts : ℕ → Bool) where
  -- ---- a frame and its steps

  module _ (p : Program) (ac : Accept p) (fr : Frame) (keeps : KeepsTypes texts p fr) where
    -- the steps of the frame are those of its body
    pub same_steps : frame_steps p fr ≡ next_of p keeps.number fr.control
    same_steps = ap (λ (b : Option BodyId). steps_by p b fr.control) keeps.id

    module _ (i : ℕ) (s : Step) (here : slice_get (frame_steps p fr) i ≡ Some s) where
      step_here : slice_get (next_of p keeps.number fr.control) i ≡ Some s
      step_here = ap (λ (steps : List Step). slice_get steps i) (sym same_steps) ∙ here

      pub step_there : slice_get ((relation_of p keeps.number).next fr.control) i ≡ Some (move_of s)
      step_there = slice_get-map move_of (next_of p keeps.number fr.control) i ∙ ap (option_map move_of) step_here

      pub small : IsSmallAction p s.action
      small = (ac.fits keeps.number).steps i (move_of s) keeps.control step_there

      found : Fits p keeps.body s.action (holds_none texts fr.locals) × FindsTypes p keeps.body s.to (left_held p keeps.body s.action s.edge (holds_none texts fr.locals))
      found = step_finds p ac.well_formed.valid.typed keeps.number keeps.body fr.control i s (holds_none texts fr.locals) keeps.at keeps.finds step_here

      pub fits : Fits p keeps.body s.action (temp_holds_none texts fr.locals)
      fits = fits_here texts p keeps.body fr.locals s.action found.0

      body_is : method_body p fr.method ≡ Some keeps.body
      body_is = ap (body_by p) keeps.id ∙ keeps.at

      module _ (h : HeapContents) (v : Value) (stored : StoredHoldNone texts p h) (sets : SetsNone texts s.action v) (makes : is_throws s.edge ≡ false → MakesNone p s.action → IsNoObjectBut texts v)
          (casts : (x : ℕ) → is_throws s.edge ≡ false → IsCastToNone s.action x → IsNoObjectBut texts (temp_value fr.locals x)) where
        owned : FieldsHoldNone texts p h fr.method keeps.body fr.locals
        owned = subst (λ (m : MethodId). FieldsHoldNone texts p h m keeps.body fr.locals) keeps.method
            (fields_hold_none p ac.well_formed.valid.typed keeps.number keeps.body keeps.at (ac.fits keeps.number).room texts h fr.locals stored)

        temps_keep : (x : ℕ) → left_held p keeps.body s.action s.edge (holds_none texts fr.locals) x → holds_none texts (frame_after p h fr s v).locals x
        temps_keep x has =
            let low : x < 64 = small_left texts p keeps.body s.action s.edge fr.locals x small has in (
              low,
              after_none texts p h fr.method keeps.body fr.locals v s.action s.edge x body_is low keeps.variables owned makes (casts x)
                  (takes_here texts p keeps.body fr.locals s.action s.edge x (left p keeps.body (holds_none texts fr.locals) x low s.action s.edge has)),
            )

        pub frame_keeps : KeepsTypes texts p (frame_after p h fr s v)
        frame_keeps = record {
          number = keeps.number;
          body = keeps.body;
          id = keeps.id;
          at = keeps.at;
          method = keeps.method;
          control = on i (move_of s) keeps.control step_there;
          variables = variables_after texts p h fr.method keeps.body fr.locals v s.action s.edge body_is fits sets keeps.variables;
          finds = finds_more p keeps.body s.to (left_held p keeps.body s.action s.edge (holds_none texts fr.locals)) (holds_none texts (frame_after p h fr s v).locals) temps_keep found.1;
        }

  -- ---- types of parameters

  primitive_kind : (t : Primitive) (u : VType) → is_type (types.Primitive t) u ≡ true → is_class_type u ≡ false
  primitive_kind t (types.Primitive u) is = refl
  primitive_kind t types.Str is = refl
  primitive_kind t (types.Arr e) is = refl
  primitive_kind t (types.Obj c) is = absurd (true≢false (sym is))
  primitive_kind t types.NullType is = refl

  text_kind : (u : VType) → is_type types.Str u ≡ true → is_class_type u ≡ false
  text_kind (types.Primitive u) is = refl
  text_kind types.Str is = refl
  text_kind (types.Arr e) is = refl
  text_kind (types.Obj c) is = absurd (true≢false (sym is))
  text_kind types.NullType is = refl

  array_kind : (t : ElementType) (u : VType) → is_type (types.Arr t) u ≡ true → is_class_type u ≡ false
  array_kind t (types.Primitive u) is = refl
  array_kind t types.Str is = refl
  array_kind t (types.Arr e) is = refl
  array_kind t (types.Obj c) is = absurd (true≢false (sym is))
  array_kind t types.NullType is = refl

  null_kind : (u : VType) → is_type types.NullType u ≡ true → is_class_type u ≡ false
  null_kind (types.Primitive u) is = refl
  null_kind types.Str is = refl
  null_kind (types.Arr e) is = refl
  null_kind (types.Obj c) is = absurd (true≢false (sym is))
  null_kind types.NullType is = refl

  -- one type is no class type where the other is none
  same_kind : (t u : VType) → is_type t u ≡ true → is_class_type t ≡ false → is_class_type u ≡ false
  same_kind (types.Primitive t) u is none = primitive_kind t u is
  same_kind types.Str u is none = text_kind u is
  same_kind (types.Arr t) u is none = array_kind t u is
  same_kind (types.Obj c) u is none = absurd (true≢false none)
  same_kind types.NullType u is none = null_kind u is

  -- the arguments of these parameters, by their numbers: those of no class type are no objects
  abbrev pub ArgumentsHoldNone : List ParamSig → List Value → Type 0
  ArgumentsHoldNone xs vs = (k : ℕ) (x : ParamSig) → slice_get xs k ≡ Some x → NoObject (Some x.vtype) → IsNoObjectBut texts (value_or_nothing (slice_get vs k))

  -- values behind the arguments hold nothing
  blank : (n i : ℕ) → IsNoObjectBut texts (value_or_nothing (slice_get (replicate n values.Nothing) i))
  blank n i = go (replicate n values.Nothing) (All-replicate (λ v. v ≡ values.Nothing) n values.Nothing refl) i
    where
      go : (xs : List Value) → All (λ v. v ≡ values.Nothing) xs → (i : ℕ) → IsNoObjectBut texts (value_or_nothing (slice_get xs i))
      go [] all zero = refl
      go [] all (suc i) = refl
      go (x ∷ xs) all zero = subst (IsNoObjectBut texts) (sym (All-head (λ v. v ≡ values.Nothing) x xs all)) refl
      go (x ∷ xs) all (suc i) = go xs (All-tail (λ v. v ≡ values.Nothing) x xs all) i

  -- the variables of a frame that begins, where the arguments are as many as the parameters
  filled : (vars : List Var) (xs ys : List ParamSig) (vs : List Value) (n i : ℕ) → HasParameters vars xs → are_types xs ys ≡ true → length vs ≡ length ys → ArgumentsHoldNone ys vs
      → NoObject (type_of_variable (slice_get vars i)) → IsNoObjectBut texts (value_or_nothing (slice_get (vs ++ replicate n values.Nothing) i))
  filled vars xs [] [] n i has same long holds kind = blank n i
  filled vars xs [] (v ∷ vs) n i has same long holds kind = absurd (let never : ⊥ = omega (arith, long) in never)
  filled vars xs (y ∷ ys) [] n i has same long holds kind = absurd (let never : ⊥ = omega (arith, long) in never)
  filled vars [] (y ∷ ys) (v ∷ vs) n i has same long holds kind = absurd (true≢false (sym same))
  filled [] (x ∷ xs) (y ∷ ys) (v ∷ vs) n i has same long holds kind = absurd has
  filled (w ∷ vars) (x ∷ xs) (y ∷ ys) (v ∷ vs) n zero has same long holds kind =
      holds zero y refl (same_kind x.vtype y.vtype (and_parts (is_type x.vtype y.vtype) (are_types xs ys) same).0 (subst (λ (t : VType). is_class_type t ≡ false) has.0 kind))
  filled (w ∷ vars) (x ∷ xs) (y ∷ ys) (v ∷ vs) n (suc i) has same long holds kind =
      filled vars xs ys vs n i has.1 (and_parts (is_type x.vtype y.vtype) (are_types xs ys) same).1 (let fewer : length vs ≡ length ys = omega (arith, long) in fewer) (λ k z at none. holds (suc k) z at none) kind

  -- ---- a frame that begins

  module _ (p : Program) (ac : Accept p) (m : MethodId) where
    has_parameters : (b : BodyId) (x : Body) (y : Method) → body_at p b ≡ Some x → x.method ≡ m → method_at p m ≡ Some y → HasParameters x.vars.items y.sig.params.items
    has_parameters b x y there mine at = go (method_at p m) at (subst (λ (k : MethodId). IsSomeAnd (method_at p k) (IsBodyOf b x)) mine (ac.well_formed.valid.typed.bodies b x there).method)
      where
        go : (z : Option Method) → z ≡ Some y → IsSomeAnd z (IsBodyOf b x) → HasParameters x.vars.items y.sig.params.items
        go None at of = absurd of
        go (Some z) at of = subst (λ (u : Method). HasParameters x.vars.items u.sig.params.items) (let same : z ≡ y = (let both : Some z ≡ Some y = at in cc) in same) of.1

    -- the variables of the body, where a frame of the method begins with these arguments
    abbrev pub BeginsWithNone : List Value → Type 0
    BeginsWithNone arguments = (b : BodyId) (x : Body) → body_at p b ≡ Some x → x.method ≡ m → (n i : ℕ) → NoObject (variable_type x i)
        → IsNoObjectBut texts (value_or_nothing (slice_get (arguments ++ replicate n values.Nothing) i))

    pub arguments_fill : (y : Method) (params : List ParamSig) (arguments : List Value) → method_at p m ≡ Some y → are_types y.sig.params.items params ≡ true → length arguments ≡ length params → ArgumentsHoldNone params arguments
        → BeginsWithNone arguments
    arguments_fill y params arguments at same long holds b x there mine n i kind =
        filled x.vars.items y.sig.params.items params arguments n i (has_parameters b x y there mine at) same long holds kind

    pub array_fills : (k : ℕ) → BeginsWithNone (values.Array k ∷ [])
    array_fills k b x there mine n zero kind = refl
    array_fills k b x there mine n (suc i) kind = blank n i

  module _ (p : Program) (ac : Accept p) (m : MethodId) (self : Value) (arguments : List Value) (hold : BeginsWithNone p ac m arguments) where
    abbrev frame_by : Option BodyId → Frame
    frame_by x =
        control_in p x (record {
          method = m;
          control = [];
          locals = record {
            variables = arguments ++ replicate (variable_count p (body_of (method_at p m)) - length arguments) values.Nothing;
            this = self;
            temps = [];
          };
        })

    by_body : (b : BodyId) (x : Body) → body_of (method_at p m) ≡ Some b → body_at p b ≡ Some x → x.method ≡ m → KeepsTypes texts p (frame_by (Some b))
    by_body b x own there mine = record {
      number = b;
      body = x;
      id = own;
      at = there;
      method = mine;
      control = start;
      variables = λ i kind. hold b x there mine (variable_count p (body_of (method_at p m)) - length arguments) i kind;
      finds = start_finds p ac.well_formed.valid.typed b x (holds_none texts (frame_by (Some b)).locals) there;
    }

    by_method : (x : Method) (b : BodyId) → method_at p m ≡ Some x → x.body ≡ Some b → KeepsTypes texts p (frame_by (Some b))
    by_method x b at own = go (body_at p b) refl (subst (OwnsBody p m) own (ac.well_formed.valid.typed.methods m x at).body)
      where
        go : (y : Option Body) → body_at p b ≡ y → IsSomeAnd y (λ z. z.method ≡ m) → KeepsTypes texts p (frame_by (Some b))
        go None there mine = absurd mine
        go (Some y) there mine = by_body b y (ap body_of at ∙ own) there mine

    by_bodies : (x : Method) (y : Option BodyId) → method_at p m ≡ Some x → x.body ≡ y → has_body y ≡ true → KeepsTypes texts p (frame_by y)
    by_bodies x None at own has = absurd (true≢false (sym has))
    by_bodies x (Some b) at own has = by_method x b at own

    pub begun_keeps : has_body (body_of (method_at p m)) ≡ true → KeepsTypes texts p (begun p m self arguments)
    begun_keeps has = go (method_at p m) refl has
      where
        go : (x : Option Method) → method_at p m ≡ x → has_body (body_of x) ≡ true → KeepsTypes texts p (begun p m self arguments)
        go None at has = absurd (true≢false (sym has))
        go (Some x) at has = subst (λ (y : Option BodyId). KeepsTypes texts p (frame_by y)) (sym (ap body_of at)) (by_bodies x x.body at refl has)
