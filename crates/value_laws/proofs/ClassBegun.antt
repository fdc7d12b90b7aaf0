-- What a frame keeps: where it begins, and at each of its steps.
use Rattle.std.proofs.Common.{◌≡◌, ◌∙◌, ap, refl, sym, subst, arith, ℕ, zero, suc, ◌-◌, ◌<◌, true, false, true≢false, Option, Some, None, List, [], ◌∷◌, ◌++◌, IsSomeAnd, length, replicate, option_map, slice_get, All, eqb-true}
use Rattle.std.proofs.lemmas.Bool.{and_parts}
use Rattle.std.proofs.lemmas.List.Elements.{All-cons, All-head, All-nil, All-replicate, All-tail}
use Rattle.std.proofs.lemmas.Option.{slice_get-map}
use Rattle.program_model.specs.declared.kinds.BodyId.{BodyId}
use Rattle.program_model.specs.declared.kinds.ClassId.{ClassId}
use Rattle.program_model.specs.declared.kinds.MethodId.{MethodId}
use Rattle.program_model.specs.declared.kinds.VType.{VType}
use Rattle.program_model.specs.declared.kinds.VType.TheVariants as types
use Rattle.program_model.specs.declared.program.Method.{Method}
use Rattle.program_model.specs.declared.program.ParamSig.{ParamSig}
use Rattle.program_model.specs.declared.program.Program.{Program}
use Rattle.program_model.specs.declared.tree.Body.{Body}
use Rattle.program_model.specs.declared.tree.Var.{Var}
use Rattle.program_model.specs.Lookups.{body_at, method_at, type_of_variable, variable_type}
use Rattle.program_model.specs.Overrides.{are_types, is_type}
use Rattle.program_model.specs.Validity.{HasParameters, IsBodyOf, OwnsBody}
use Rattle.java_control.specs.Control.{Step, next_of}
use Rattle.java_control.specs.Sources.{is_throws}
use Rattle.frame_laws.specs.SmallActions.{IsSmallAction}
use Rattle.dispatch_laws.specs.Accept.{Accept}
use Rattle.frame_laws.specs.Paths.{move_of, on, relation_of, start}
use Rattle.ledger_state.specs.Contents.{HeapContents}
use Rattle.ledger_state.specs.Locals.{temp_value, variable_value}
use Rattle.ledger_state.specs.declared.locals.Locals.{Locals}
use Rattle.ledger_state.specs.declared.object.StoredField.{StoredField}
use Rattle.ledger_state.specs.Values.{value_or_nothing}
use Rattle.ledger_state.specs.declared.value.Value.{Value}
use Rattle.ledger_state.specs.declared.value.Value.TheVariants as values
use Rattle.ledger_steps.specs.LedgerCallsCalls.{begun, body_of, control_in, variable_count}
use Rattle.ledger_moves.specs.Configuration.{Frame}
use Rattle.ledger_moves.specs.Choosing.{body_by, frame_steps, method_body, steps_by}
use Rattle.ledger_moves.specs.LedgerFramesFrames.{frame_after}
use Rattle.ledger_moves.specs.Moves.{has_body}
use Rattle.dispatch_laws.specs.ClassOperands.{FindsClass, Fits, IsNotAboveString, IsOfClass, OfClass, left_held, own_type}
use Rattle.dispatch_laws.proofs.ClassItems.{finds_more}
use Rattle.dispatch_laws.proofs.ClassWays.{start_finds, step_finds}
use Rattle.value_laws.specs.Objects.{KeepsClasses}
use Rattle.value_laws.specs.Values.{FitsClass, temp_fits_class}
use Rattle.value_laws.specs.Origins.{IsCastToClass, MakesClass}
use Rattle.value_laws.specs.ClassValues.{FieldsFitClass, StoredFieldFitsClass, FramesFitClass, FrameFitsClass, StoredFieldsFitClass, fits_class_at}
use Rattle.value_laws.proofs.ClassGifts.{fits_still}
use Rattle.value_laws.proofs.ClassOperands.{fits_here, small_left, takes_here}
use Rattle.value_laws.proofs.Origins.{left}
use Rattle.value_laws.proofs.ClassOwningFields.{fields_fit_class}
use Rattle.value_laws.proofs.Temps.{after_none}
use Rattle.value_laws.proofs.ClassVariables.{SetsClass, variables_after}

-- ---- a frame and its steps

module _ (p : Program) (bound : ClassId) (ac : Accept p) (texts : IsNotAboveString p bound) (K : HeapContents) (fr : Frame) (keeps : FrameFitsClass p bound K fr) where
  -- the steps of the frame are those of its body
  pub same_steps : frame_steps p fr ≡ next_of p keeps.number fr.control
  same_steps = ap (λ (b : Option BodyId). steps_by p b fr.control) keeps.id

  module _ (i : ℕ) (s : Step) (here : slice_get (frame_steps p fr) i ≡ Some s) where
    step_here : slice_get (next_of p keeps.number fr.control) i ≡ Some s
    step_here = ap (λ (steps : List Step). slice_get steps i) (sym same_steps) ∙ here

    pub step_there : slice_get ((relation_of p keeps.number).next fr.control) i ≡ Some (move_of s)
    step_there = slice_get-map move_of (next_of p keeps.number fr.control) i ∙ ap (option_map move_of) step_here

    pub small : IsSmallAction p s.action
    small = (ac.fits keeps.number).steps i (move_of s) keeps.control step_there

    found : Fits p bound keeps.body s.action (fits_class_at p bound K fr.locals) × FindsClass p bound keeps.body s.to (left_held p bound keeps.body s.action s.edge (fits_class_at p bound K fr.locals))
    found = step_finds p bound ac.well_formed.valid.typed texts keeps.number keeps.body fr.control i s (fits_class_at p bound K fr.locals) keeps.at keeps.finds step_here

    pub fits : Fits p bound keeps.body s.action (temp_fits_class p bound K fr.locals)
    fits = fits_here p bound K keeps.body fr.locals s.action found.0

    body_is : method_body p fr.method ≡ Some keeps.body
    body_is = ap (body_by p) keeps.id ∙ keeps.at

    module _ (h : HeapContents) (v : Value) (stored : StoredFieldsFitClass p bound K h) (sets : SetsClass p bound K keeps.body fr.locals s.action v) (makes : is_throws s.edge ≡ false → MakesClass p bound s.action → FitsClass p bound K v)
        (casts : (x : ℕ) → is_throws s.edge ≡ false → IsCastToClass p bound s.action x → FitsClass p bound K (temp_value fr.locals x)) where
      owned : FieldsFitClass p bound K h fr.method keeps.body fr.locals
      owned = subst (λ (m : MethodId). FieldsFitClass p bound K h m keeps.body fr.locals) keeps.method
          (fields_fit_class p bound ac.well_formed.valid.typed keeps.number keeps.body keeps.at (ac.fits keeps.number).room K h fr.locals stored)

      temps_keep : (x : ℕ) → left_held p bound keeps.body s.action s.edge (fits_class_at p bound K fr.locals) x → fits_class_at p bound K (frame_after p h fr s v).locals x
      temps_keep x has =
          let low : x < 64 = small_left p bound K keeps.body s.action s.edge fr.locals x small has in (
            low,
            after_none p bound K h fr.method keeps.body fr.locals v s.action s.edge x body_is low keeps.this keeps.variables owned makes (casts x)
                (takes_here p bound K keeps.body fr.locals s.action s.edge x (left p bound keeps.body (fits_class_at p bound K fr.locals) x low s.action s.edge has)),
          )

      pub frame_keeps : FrameFitsClass p bound K (frame_after p h fr s v)
      frame_keeps = record {
        number = keeps.number;
        body = keeps.body;
        id = keeps.id;
        at = keeps.at;
        method = keeps.method;
        control = on i (move_of s) keeps.control step_there;
        this = keeps.this;
        variables = variables_after p bound K h fr.method keeps.body fr.locals v s.action s.edge body_is fits sets keeps.variables;
        finds = finds_more p bound keeps.body s.to (left_held p bound keeps.body s.action s.edge (fits_class_at p bound K fr.locals)) (fits_class_at p bound K (frame_after p h fr s v).locals) temps_keep found.1;
      }

-- ---- as the heap goes on

module _ (p : Program) (bound : ClassId) (h k : HeapContents) (keeps : KeepsClasses h k) where
  held_still : (l : Locals) (d : ℕ) → fits_class_at p bound h l d → fits_class_at p bound k l d
  held_still l d holds = (holds.0, fits_still p bound h k (temp_value l d) keeps holds.1)

  pub keeps_still : (fr : Frame) → FrameFitsClass p bound h fr → FrameFitsClass p bound k fr
  keeps_still fr was = record {
    number = was.number;
    body = was.body;
    id = was.id;
    at = was.at;
    method = was.method;
    control = was.control;
    this = λ to. fits_still p bound h k fr.locals.this keeps (was.this to);
    variables = λ i to. fits_still p bound h k (variable_value fr.locals i) keeps (was.variables i to);
    finds = finds_more p bound was.body fr.control (fits_class_at p bound h fr.locals) (fits_class_at p bound k fr.locals) (held_still fr.locals) was.finds;
  }

  pub all_still : (frs : List Frame) → FramesFitClass p bound h frs → FramesFitClass p bound k frs
  all_still [] all = tt
  all_still (fr ∷ frs) all = (keeps_still fr all.0, all_still frs all.1)

  pub stored_still : (xs : List StoredField) → All (λ s. StoredFieldFitsClass p bound h s) xs → All (λ s. StoredFieldFitsClass p bound k s) xs
  stored_still [] all = All-nil (λ s. StoredFieldFitsClass p bound k s)
  stored_still (x ∷ xs) all =
      All-cons (λ s. StoredFieldFitsClass p bound k s) x xs (λ to. fits_still p bound h k x.value keeps (All-head (λ s. StoredFieldFitsClass p bound h s) x xs all to)) (stored_still xs (All-tail (λ s. StoredFieldFitsClass p bound h s) x xs all))

-- ---- types of parameters

-- one type is under the class where the other is
same_kind : (p : Program) (bound : ClassId) (t u : VType) → is_type t u ≡ true → IsOfClass p bound t → IsOfClass p bound u
same_kind p bound (types.Primitive t) u is to = absurd to
same_kind p bound types.Str u is to = absurd to
same_kind p bound (types.Arr t) u is to = absurd to
same_kind p bound (types.Obj c) (types.Obj d) is to =
    let same : c ≡ d = ap (λ (n : ℕ). (let z : ClassId = record { 0 = n } in z)) (eqb-true c.0 d.0 is) in
    subst (λ (z : ClassId). IsOfClass p bound (types.Obj z)) same to
same_kind p bound (types.Obj c) (types.Primitive u) is to = absurd (true≢false (sym is))
same_kind p bound (types.Obj c) types.Str is to = absurd (true≢false (sym is))
same_kind p bound (types.Obj c) (types.Arr e) is to = absurd (true≢false (sym is))
same_kind p bound (types.Obj c) types.NullType is to = absurd (true≢false (sym is))
same_kind p bound types.NullType types.NullType is to = tt
same_kind p bound types.NullType (types.Primitive u) is to = absurd (true≢false (sym is))
same_kind p bound types.NullType types.Str is to = absurd (true≢false (sym is))
same_kind p bound types.NullType (types.Arr e) is to = absurd (true≢false (sym is))
same_kind p bound types.NullType (types.Obj c) is to = absurd (true≢false (sym is))

-- the arguments of these parameters, by their numbers: those of a type under the class are objects of the class or null; `K` is the heap
abbrev pub ArgumentsFitClass : Program → ClassId → HeapContents → List ParamSig → List Value → Type 0
ArgumentsFitClass p bound K xs vs = (k : ℕ) (x : ParamSig) → slice_get xs k ≡ Some x → OfClass p bound (Some x.vtype) → FitsClass p bound K (value_or_nothing (slice_get vs k))

-- values behind the arguments hold nothing
blank : (p : Program) (bound : ClassId) (K : HeapContents) (n i : ℕ) → FitsClass p bound K (value_or_nothing (slice_get (replicate n values.Nothing) i))
blank p bound K n i = go (replicate n values.Nothing) (All-replicate (λ v. v ≡ values.Nothing) n values.Nothing refl) i
  where
    go : (xs : List Value) → All (λ v. v ≡ values.Nothing) xs → (i : ℕ) → FitsClass p bound K (value_or_nothing (slice_get xs i))
    go [] all zero = tt
    go [] all (suc i) = tt
    go (x ∷ xs) all zero = subst (FitsClass p bound K) (sym (All-head (λ v. v ≡ values.Nothing) x xs all)) tt
    go (x ∷ xs) all (suc i) = go xs (All-tail (λ v. v ≡ values.Nothing) x xs all) i

-- the variables of a frame that begins, where the arguments are as many as the parameters
filled : (p : Program) (bound : ClassId) (K : HeapContents) (vars : List Var) (xs ys : List ParamSig) (vs : List Value) (n i : ℕ) → HasParameters vars xs → are_types xs ys ≡ true → length vs ≡ length ys → ArgumentsFitClass p bound K ys vs
    → OfClass p bound (type_of_variable (slice_get vars i)) → FitsClass p bound K (value_or_nothing (slice_get (vs ++ replicate n values.Nothing) i))
filled p bound K vars xs [] [] n i has same long holds kind = blank p bound K n i
filled p bound K vars xs [] (v ∷ vs) n i has same long holds kind = absurd (let never : ⊥ = omega (arith, long) in never)
filled p bound K vars xs (y ∷ ys) [] n i has same long holds kind = absurd (let never : ⊥ = omega (arith, long) in never)
filled p bound K vars [] (y ∷ ys) (v ∷ vs) n i has same long holds kind = absurd (true≢false (sym same))
filled p bound K [] (x ∷ xs) (y ∷ ys) (v ∷ vs) n i has same long holds kind = absurd has
filled p bound K (w ∷ vars) (x ∷ xs) (y ∷ ys) (v ∷ vs) n zero has same long holds kind =
    holds zero y refl (same_kind p bound x.vtype y.vtype (and_parts (is_type x.vtype y.vtype) (are_types xs ys) same).0 (subst (IsOfClass p bound) has.0 kind))
filled p bound K (w ∷ vars) (x ∷ xs) (y ∷ ys) (v ∷ vs) n (suc i) has same long holds kind =
    filled p bound K vars xs ys vs n i has.1 (and_parts (is_type x.vtype y.vtype) (are_types xs ys) same).1 (let fewer : length vs ≡ length ys = omega (arith, long) in fewer) (λ k z at none. holds (suc k) z at none) kind

-- ---- a frame that begins

module _ (p : Program) (bound : ClassId) (ac : Accept p) (m : MethodId) where
  has_parameters : (b : BodyId) (x : Body) (y : Method) → body_at p b ≡ Some x → x.method ≡ m → method_at p m ≡ Some y → HasParameters x.vars.items y.sig.params.items
  has_parameters b x y there mine at = go (method_at p m) at (subst (λ (k : MethodId). IsSomeAnd (method_at p k) (IsBodyOf b x)) mine (ac.well_formed.valid.typed.bodies b x there).method)
    where
      go : (z : Option Method) → z ≡ Some y → IsSomeAnd z (IsBodyOf b x) → HasParameters x.vars.items y.sig.params.items
      go None at of = absurd of
      go (Some z) at of = subst (λ (u : Method). HasParameters x.vars.items u.sig.params.items) (let same : z ≡ y = (let both : Some z ≡ Some y = at in cc) in same) of.1

  -- the variables of the body, where a frame of the method begins with these arguments
  abbrev pub BeginsWithClass : HeapContents → List Value → Type 0
  BeginsWithClass K arguments = (b : BodyId) (x : Body) → body_at p b ≡ Some x → x.method ≡ m → (n i : ℕ) → OfClass p bound (variable_type x i)
      → FitsClass p bound K (value_or_nothing (slice_get (arguments ++ replicate n values.Nothing) i))

  pub arguments_fill : (K : HeapContents) (y : Method) (params : List ParamSig) (arguments : List Value) → method_at p m ≡ Some y → are_types y.sig.params.items params ≡ true → length arguments ≡ length params → ArgumentsFitClass p bound K params arguments
      → BeginsWithClass K arguments
  arguments_fill K y params arguments at same long holds b x there mine n i kind =
      filled p bound K x.vars.items y.sig.params.items params arguments n i (has_parameters b x y there mine at) same long holds kind

  pub array_fills : (K : HeapContents) (k : ℕ) → BeginsWithClass K (values.Array k ∷ [])
  array_fills K k b x there mine n zero kind = tt
  array_fills K k b x there mine n (suc i) kind = blank p bound K n i

module _ (p : Program) (bound : ClassId) (ac : Accept p) (texts : IsNotAboveString p bound) (K : HeapContents) (m : MethodId) (self : Value) (own_this : OfClass p bound (own_type (method_at p m)) → FitsClass p bound K self) (arguments : List Value) (hold : BeginsWithClass p bound ac m K arguments) where
  abbrev frame_by : Option BodyId → Frame
  frame_by x =
      control_in p x (record {
        method = m;
        control = [];
        locals = record {
          variables = arguments ++ replicate (variable_count p (body_of (method_at p m)) - length arguments) values.Nothing;
          this = self;
          temps = [];
        };
      })

  by_body : (b : BodyId) (x : Body) → body_of (method_at p m) ≡ Some b → body_at p b ≡ Some x → x.method ≡ m → FrameFitsClass p bound K (frame_by (Some b))
  by_body b x own there mine = record {
    number = b;
    body = x;
    id = own;
    at = there;
    method = mine;
    control = start;
    this = λ to. own_this (subst (λ (k : MethodId). OfClass p bound (own_type (method_at p k))) mine to);
    variables = λ i kind. hold b x there mine (variable_count p (body_of (method_at p m)) - length arguments) i kind;
    finds = start_finds p bound ac.well_formed.valid.typed texts b x (fits_class_at p bound K (frame_by (Some b)).locals) there;
  }

  by_method : (x : Method) (b : BodyId) → method_at p m ≡ Some x → x.body ≡ Some b → FrameFitsClass p bound K (frame_by (Some b))
  by_method x b at own = go (body_at p b) refl (subst (OwnsBody p m) own (ac.well_formed.valid.typed.methods m x at).body)
    where
      go : (y : Option Body) → body_at p b ≡ y → IsSomeAnd y (λ z. z.method ≡ m) → FrameFitsClass p bound K (frame_by (Some b))
      go None there mine = absurd mine
      go (Some y) there mine = by_body b y (ap body_of at ∙ own) there mine

  by_bodies : (x : Method) (y : Option BodyId) → method_at p m ≡ Some x → x.body ≡ y → has_body y ≡ true → FrameFitsClass p bound K (frame_by y)
  by_bodies x None at own has = absurd (true≢false (sym has))
  by_bodies x (Some b) at own has = by_method x b at own

  pub begun_keeps : has_body (body_of (method_at p m)) ≡ true → FrameFitsClass p bound K (begun p m self arguments)
  begun_keeps has = go (method_at p m) refl has
    where
      go : (x : Option Method) → method_at p m ≡ x → has_body (body_of x) ≡ true → FrameFitsClass p bound K (begun p m self arguments)
      go None at has = absurd (true≢false (sym has))
      go (Some x) at has = subst (λ (y : Option BodyId). FrameFitsClass p bound K (frame_by y)) (sym (ap body_of at)) (by_bodies x x.body at refl has)
