-- The modes of facts that are born: lent is the argument alone whose obligation the method creates anew, or `this` of a constructor; and held in a field of `this` is one
-- only as an instance method begins, or where a call creates the obligation of `this` anew, and only in the bodies of a class with owning fields.
use Rattle.std.proofs.Common.{◌≡◌, ◌∙◌, refl, sym, subst, ℕ, ◌+◌, Bool, true, false, true≢false, not, ◌&&◌, ◌||◌, Option, Some, None, List, [], ◌∷◌, ◌++◌, slice_get}
use Rattle.std.specs.Prelude.{if◌then◌else◌}
use Rattle.std.specs.List.{cons_option, filter_map}
use Rattle.rlc_base.specs.declared.place.Pos.{Pos}
use Rattle.program_model.specs.declared.kinds.BodyId.{BodyId}
use Rattle.program_model.specs.declared.kinds.FieldId.{FieldId}
use Rattle.program_model.specs.declared.kinds.MethodKind.{MethodKind}
use Rattle.program_model.specs.declared.kinds.MethodKind.TheVariants as methods
use Rattle.program_model.specs.declared.kinds.VType.{VType}
use Rattle.program_model.specs.declared.kinds.VType.TheVariants as types
use Rattle.program_model.specs.declared.program.Field.{Field}
use Rattle.program_model.specs.declared.program.Method.{Method}
use Rattle.program_model.specs.declared.program.ParamSig.{ParamSig}
use Rattle.program_model.specs.declared.program.Program.{Program}
use Rattle.program_model.specs.declared.tree.Body.{Body}
use Rattle.program_model.specs.declared.tree.Var.{Var}
use Rattle.program_model.specs.Lookups.{body_at, field_at, method_at, optional, variable_at}
use Rattle.java_control.specs.Calls.{is_reset_of_this}
use Rattle.java_control.specs.Owned.{place_of_field}
use Rattle.control_actions.specs.declared.action.Action.{Action}
use Rattle.control_actions.specs.declared.action.Action.TheVariants as actions
use Rattle.control_actions.specs.declared.action.Edge.{Edge}
use Rattle.control_actions.specs.declared.action.Edge.TheVariants as edges
use Rattle.control_actions.specs.declared.action.PlainValue.{PlainValue}
use Rattle.control_actions.specs.declared.action.PlainValue.TheVariants as plain
use Rattle.control_actions.specs.declared.fact.Fact.{Fact}
use Rattle.control_actions.specs.declared.fact.Mode.TheVariants as modes
use Rattle.control_actions.specs.declared.fact.Origin.{Origin}
use Rattle.control_actions.specs.declared.fact.OriginKind.{OriginKind}
use Rattle.control_actions.specs.declared.fact.OriginKind.TheVariants as kinds
use Rattle.control_actions.specs.declared.place.Place.{Place}
use Rattle.control_actions.specs.declared.place.Place.TheVariants as places
use Rattle.ownership_rules.specs.Bodies.{fields_of, has_field_place, is_constructor_kind}
use Rattle.ownership_rules.specs.MustCallSets.{Names, is_heavy_class, no_names}
use Rattle.ownership_rules.specs.Signatures.{field_type, is_position, is_present}
use Rattle.ownership_rules.specs.Facts.{is_held, is_lent}
use Rattle.ownership_rules.specs.Births.{Birth, birth_on, birth_on_go, births_at_entry, births_of_step, born, constant_birth, entry_births_in, entry_births_of, fact_at, field_birth, field_birth_place, field_births, has_this, held_births, new_birth, owning_field_birth, parameter_birth, parameter_births, parameter_mode, reset_births, result_birth, result_fact, this_birth, this_mode}
use Rattle.ownership_rules.specs.MovesAtReturns.{result_in}
use Rattle.fact_laws.proofs.ParameterBirths.{AllBirths, OnBirth, birth_at, births_both, listed}
use Rattle.fact_laws.specs.Lending.{may_be_lent}
use Rattle.fact_laws.proofs.EntryFacts.{born_so}

-- `this` of a method is held in no field
method_unheld : (lent alias : Bool) → is_held (if lent then modes.Lent else (if alias then modes.Alias else modes.None)) ≡ false
method_unheld true alias = refl
method_unheld false true = refl
method_unheld false false = refl

module _ (p : Program) (b : BodyId) (m : Method) (Free : Type 0) where
  -- what is lent may be so, and, where the body is free of that, nothing is held in a field
  abbrev pub HasPlainMode : Birth → Type 0
  HasPlainMode x = (is_lent (x.1).mode ≡ true → may_be_lent m (x.0).kind ≡ true) × (Free → is_held (x.1).mode ≡ false)

  -- a birth in a mode that is neither
  plainly_born : (kind : OriginKind) (pos : Pos) (t : Option VType) (first : Option Names) (f : Fact) → is_lent f.mode ≡ false → is_held f.mode ≡ false → OnBirth HasPlainMode (born p kind pos t first f)
  plainly_born kind pos t first f free out = born_so HasPlainMode p kind pos t first f (λ c class. ((λ lent. absurd (true≢false (sym lent ∙ free))), (λ none. out)))

  -- ---- the fields

  -- where the body is free, no owning field has a place in it
  abbrev HasNoPlaces : Type 0
  HasNoPlaces = Free → (g : FieldId) → has_field_place p b g ≡ false

  field_born : HasNoPlaces → (pos : Option Pos) (g : FieldId) → OnBirth HasPlainMode (field_birth p b pos g)
  field_born never pos g = go (has_field_place p b g) refl (field_at p g)
    where
      go : (y : Bool) → has_field_place p b g ≡ y → (x : Option Field) → OnBirth HasPlainMode (if y then owning_field_birth p g pos x else None)
      go false is x = tt
      go true is None = tt
      go true is (Some x) = born_so HasPlainMode p (kinds.FieldAt g) (field_birth_place pos x) (Some x.vtype) None (fact_at (place_of_field p g) modes.Held no_names true)
          (λ c class. ((λ lent. absurd (true≢false (sym lent))), (λ free. absurd (true≢false (sym is ∙ never free g)))))

  fields_born : HasNoPlaces → (pos : Option Pos) (gs : List FieldId) → AllBirths HasPlainMode (filter_map (field_birth p b pos) gs)
  fields_born never pos [] = tt
  fields_born never pos (g ∷ gs) = go (field_birth p b pos g) (field_born never pos g) (fields_born never pos gs)
    where
      go : (x : Option Birth) → OnBirth HasPlainMode x → AllBirths HasPlainMode (filter_map (field_birth p b pos) gs) → AllBirths HasPlainMode (cons_option x (filter_map (field_birth p b pos) gs))
      go None on rest = rest
      go (Some x) on rest = (on, rest)

  -- ---- by steps

  new_born : (d : ℕ) (pos : Pos) (m : Option Method) → OnBirth HasPlainMode (new_birth p d pos m)
  new_born d pos None = tt
  new_born d pos (Some m) = go (is_heavy_class p m.class && not (is_present m.sig.alias))
    where
      go : (y : Bool) → OnBirth HasPlainMode (if y then born p kinds.New pos (Some (types.Obj m.class)) m.sig.first (fact_at (places.Temp d) modes.Own no_names false) else None)
      go true = plainly_born kinds.New pos (Some (types.Obj m.class)) m.sig.first (fact_at (places.Temp d) modes.Own no_names false) refl refl
      go false = tt

  result_born : (d : ℕ) (pos : Pos) (m : Option Method) → OnBirth HasPlainMode (result_birth p d pos m)
  result_born d pos None = tt
  result_born d pos (Some m) = go (is_present m.sig.alias) m.sig.owning_result
    where
      go : (y z : Bool) → OnBirth HasPlainMode (if y then None else born p kinds.Result pos m.sig.result m.sig.first (result_fact d z))
      go true z = tt
      go false true = plainly_born kinds.Result pos m.sig.result m.sig.first (result_fact d true) refl refl
      go false false = plainly_born kinds.Result pos m.sig.result m.sig.first (result_fact d false) refl refl

  read_born : (x : Place) (pos : Pos) (t : Option VType) → OnBirth HasPlainMode (born p kinds.Read pos t None (fact_at x modes.None no_names true))
  read_born x pos t = plainly_born kinds.Read pos t None (fact_at x modes.None no_names true) refl refl

  constant_born : (x : Place) (pos : Pos) (v : PlainValue) → OnBirth HasPlainMode (constant_birth p x pos v)
  constant_born x pos (plain.Literal l) = tt
  constant_born x pos (plain.LibraryConstant m) = read_born x pos (result_in (method_at p m))
  constant_born x pos v = tt

  go_born : (a : Action) (pos : Pos) → OnBirth HasPlainMode (birth_on_go p a pos)
  go_born actions.Skip pos = tt
  go_born (actions.New m d n) pos = new_born d pos (method_at p m)
  go_born (actions.Call m d n form) pos = result_born d pos (method_at p m)
  go_born (actions.Get f d this) pos = read_born (places.Temp d) pos (field_type p f)
  go_born (actions.Plain x v) pos = constant_born x pos v
  go_born a pos = tt

  pub on_born : (a : Action) (e : Edge) (pos : Pos) → OnBirth HasPlainMode (birth_on p a e pos)
  on_born a edges.Go pos = go_born a pos
  on_born a edges.Null pos = tt
  on_born a edges.NonNull pos = tt
  on_born a edges.True pos = tt
  on_born a edges.False pos = tt
  on_born a (edges.Throws c) pos = tt

  reset_born : (a : Action) → (is_reset_of_this p a ≡ true → HasNoPlaces) → (pos : Pos) → AllBirths HasPlainMode (reset_births p b a pos)
  reset_born a never pos = go (is_reset_of_this p a) refl
    where
      go : (y : Bool) → is_reset_of_this p a ≡ y → AllBirths HasPlainMode (if y then field_births p b (Some pos) else [])
      go true is = fields_born (never is) (Some pos) (fields_of p b)
      go false is = tt

  pub step_born : (a : Action) → (is_reset_of_this p a ≡ true → HasNoPlaces) → (e : Edge) (pos : Pos) (n : ℕ) (o : Origin) (f : Fact) → slice_get (births_of_step p b a e pos) n ≡ Some (o, f) → HasPlainMode (o, f)
  step_born a never e pos n o f there =
      birth_at HasPlainMode (births_of_step p b a e pos) n (o, f)
      (births_both HasPlainMode (optional (birth_on p a e pos)) (reset_births p b a pos) (listed HasPlainMode (birth_on p a e pos) (on_born a e pos)) (reset_born a never pos)) there

  -- ---- at the entry

  module _ (never : m.kind ≡ methods.Instance → HasNoPlaces) where
    parameter_modes : (k : ℕ) (x : ParamSig) → (is_lent (parameter_mode m.sig k x) ≡ true → is_position m.sig.reset k ≡ true) × (is_held (parameter_mode m.sig k x) ≡ false)
    parameter_modes k x = by x.owning (is_position m.sig.alias k) (is_position m.sig.reset k)
      where
        by : (u v w : Bool) → (is_lent (if u then modes.Own else (if v then modes.Alias else (if w then modes.Lent else modes.None))) ≡ true → w ≡ true)
            × (is_held (if u then modes.Own else (if v then modes.Alias else (if w then modes.Lent else modes.None))) ≡ false)
        by true v w = ((λ lent. absurd (true≢false (sym lent))), refl)
        by false true w = ((λ lent. absurd (true≢false (sym lent))), refl)
        by false false true = ((λ lent. refl), refl)
        by false false false = ((λ lent. absurd (true≢false (sym lent))), refl)

    parameter_born : (y : Body) (k : ℕ) (x : ParamSig) → OnBirth HasPlainMode (parameter_birth p m.sig k x (variable_at y k))
    parameter_born y k x = go (variable_at y k)
      where
        go : (v : Option Var) → OnBirth HasPlainMode (parameter_birth p m.sig k x v)
        go None = tt
        go (Some v) = born_so HasPlainMode p (kinds.Param k) v.pos (Some x.vtype) None (fact_at (places.Var k) (parameter_mode m.sig (k + 1) x) x.before true)
            (λ c class. ((parameter_modes (k + 1) x).0, (λ free. (parameter_modes (k + 1) x).1)))

    parameters_born : (y : Body) (k : ℕ) (xs : List ParamSig) → AllBirths HasPlainMode (parameter_births p y m.sig k xs)
    parameters_born y k [] = tt
    parameters_born y k (x ∷ xs) =
        births_both HasPlainMode (optional (parameter_birth p m.sig k x (variable_at y k))) (parameter_births p y m.sig (k + 1) xs)
        (listed HasPlainMode (parameter_birth p m.sig k x (variable_at y k)) (parameter_born y k x)) (parameters_born y (k + 1) xs)

    this_unheld : (kind : MethodKind) → is_held (this_mode m.sig kind) ≡ false
    this_unheld methods.Ctor = refl
    this_unheld methods.Instance = method_unheld (is_position m.sig.reset 0) (is_position m.sig.alias 0)
    this_unheld methods.Static = method_unheld (is_position m.sig.reset 0) (is_position m.sig.alias 0)
    this_unheld methods.Constant = method_unheld (is_position m.sig.reset 0) (is_position m.sig.alias 0)

    -- `this` of a method is lent where it creates the obligation of `this` anew
    method_lent : (lent alias : Bool) → is_lent (if lent then modes.Lent else (if alias then modes.Alias else modes.None)) ≡ true → lent ≡ true
    method_lent true alias is = refl
    method_lent false true is = absurd (true≢false (sym is))
    method_lent false false is = absurd (true≢false (sym is))

    this_lent : (kind : MethodKind) → is_lent (this_mode m.sig kind) ≡ true → (is_constructor_kind kind || is_position m.sig.reset 0) ≡ true
    this_lent methods.Ctor is = refl
    this_lent methods.Instance is = method_lent (is_position m.sig.reset 0) (is_position m.sig.alias 0) is
    this_lent methods.Static is = method_lent (is_position m.sig.reset 0) (is_position m.sig.alias 0) is
    this_lent methods.Constant is = method_lent (is_position m.sig.reset 0) (is_position m.sig.alias 0) is

    this_born : OnBirth HasPlainMode (this_birth p m)
    this_born = go (has_this m.kind)
      where
        go : (y : Bool) → OnBirth HasPlainMode (if y then born p kinds.ThisRef m.pos (Some (types.Obj m.class)) None (fact_at places.This (this_mode m.sig m.kind) no_names true) else None)
        go true = born_so HasPlainMode p kinds.ThisRef m.pos (Some (types.Obj m.class)) None (fact_at places.This (this_mode m.sig m.kind) no_names true)
            (λ c class. (this_lent m.kind, (λ free. this_unheld m.kind)))
        go false = tt

    held_born : (k : MethodKind) → m.kind ≡ k → AllBirths HasPlainMode (held_births p b k)
    held_born methods.Ctor is = tt
    held_born methods.Instance is = fields_born (never is) None (fields_of p b)
    held_born methods.Static is = tt
    held_born methods.Constant is = tt

    pub entry_born : (y : Body) → body_at p b ≡ Some y → method_at p y.method ≡ Some m → (n : ℕ) (o : Origin) (f : Fact) → slice_get (births_at_entry p b) n ≡ Some (o, f) → HasPlainMode (o, f)
    entry_born y at named n o f there = birth_at HasPlainMode (births_at_entry p b) n (o, f) all there
      where
        all : AllBirths HasPlainMode (births_at_entry p b)
        all = subst (λ (z : Option Body). AllBirths HasPlainMode (entry_births_in p b z)) (sym at) (subst (λ (z : Option Method). AllBirths HasPlainMode (entry_births_of p b y z)) (sym named)
            (births_both HasPlainMode (parameter_births p y m.sig 0 m.sig.params.items) (optional (this_birth p m) ++ held_births p b m.kind) (parameters_born y 0 m.sig.params.items)
            (births_both HasPlainMode (optional (this_birth p m)) (held_births p b m.kind) (listed HasPlainMode (this_birth p m) this_born) (held_born m.kind refl))))
