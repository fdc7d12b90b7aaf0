-- The facts of parameters and of `this` are born at the entry alone: each is of the class of its declared type, and the one in mode Alias is that of the
-- aliased parameter.
use Rattle.std.proofs.Common.{◌≡◌, ◌∙◌, ap, refl, sym, subst, arith, ℕ, zero, suc, ◌+◌, Bool, true, false, true≢false, not, ◌&&◌, eqb-true, Option, Some, None, List, [], ◌∷◌, ◌++◌, slice_get}
use Rattle.std.specs.Prelude.{if◌then◌else◌}
use Rattle.std.specs.List.{cons_option, filter_map}
use Rattle.std.specs.FinSet as set
use Rattle.rlc_base.proofs.SetLaws.{new_member}
use Rattle.rlc_base.specs.declared.place.Pos.{Pos}
use Rattle.program_model.specs.declared.kinds.BodyId.{BodyId}
use Rattle.program_model.specs.declared.kinds.ClassId.{ClassId}
use Rattle.program_model.specs.declared.kinds.FieldId.{FieldId}
use Rattle.program_model.specs.declared.kinds.MethodKind.{MethodKind}
use Rattle.program_model.specs.declared.kinds.MethodKind.TheVariants as methods
use Rattle.program_model.specs.declared.kinds.VType.{VType}
use Rattle.program_model.specs.declared.kinds.VType.TheVariants as types
use Rattle.program_model.specs.declared.program.Field.{Field}
use Rattle.program_model.specs.declared.program.Method.{Method}
use Rattle.program_model.specs.declared.program.ParamSig.{ParamSig}
use Rattle.program_model.specs.declared.program.Program.{Program}
use Rattle.program_model.specs.declared.program.Sig.{Sig}
use Rattle.program_model.specs.declared.tree.Body.{Body}
use Rattle.program_model.specs.declared.tree.Var.{Var}
use Rattle.program_model.specs.Lookups.{body_at, field_at, method_at, optional, variable_at}
use Rattle.java_control.specs.Calls.{is_reset_of_this}
use Rattle.java_control.specs.Owned.{place_of_field}
use Rattle.java_control.specs.PlaceNumbers.{number_of}
use Rattle.control_actions.specs.declared.action.Action.{Action}
use Rattle.control_actions.specs.declared.action.Action.TheVariants as actions
use Rattle.control_actions.specs.declared.action.Edge.{Edge}
use Rattle.control_actions.specs.declared.action.Edge.TheVariants as edges
use Rattle.control_actions.specs.declared.action.PlainValue.{PlainValue}
use Rattle.control_actions.specs.declared.action.PlainValue.TheVariants as plain
use Rattle.control_actions.specs.declared.fact.Fact.{Fact}
use Rattle.control_actions.specs.declared.fact.Mode.{Mode}
use Rattle.control_actions.specs.declared.fact.Mode.TheVariants as modes
use Rattle.control_actions.specs.declared.fact.Origin.{Origin}
use Rattle.control_actions.specs.declared.fact.OriginKind.{OriginKind}
use Rattle.control_actions.specs.declared.fact.OriginKind.TheVariants as kinds
use Rattle.control_actions.specs.declared.place.Place.{Place}
use Rattle.control_actions.specs.declared.place.Place.TheVariants as places
use Rattle.ownership_rules.specs.Bodies.{fields_of, has_field_place}
use Rattle.ownership_rules.specs.MustCallSets.{Names, is_heavy_class, no_names}
use Rattle.ownership_rules.specs.Signatures.{field_type, is_position, is_present}
use Rattle.ownership_rules.specs.Facts.{has, is_alias, position_of}
use Rattle.ownership_rules.specs.Births.{Birth, birth_on, birth_on_go, births_at_entry, births_of_step, born, born_in, class_of, constant_birth, entry_births_in, entry_births_of, fact_at, field_birth, field_birth_place, field_births, has_this, held_births, new_birth, origin_of, owning_field_birth, parameter_birth, parameter_births, parameter_mode, reset_births, result_birth, result_fact, this_birth, this_mode}
use Rattle.ownership_rules.specs.MovesAtReturns.{result_in}
use Rattle.fact_laws.proofs.ParameterBirths.{AllBirths, OnBirth, birth_at, births_both, listed}

-- ---- a birth has its class and its kind

pub born_so : (P : Birth → Type 0) (p : Program) (kind : OriginKind) (pos : Pos) (t : Option VType) (first : Option Names) (f : Fact) → ((c : ClassId) → class_of t ≡ Some c → P (origin_of p kind pos c first, f))
    → OnBirth P (born p kind pos t first f)
born_so P p kind pos t first f each = go (class_of t) refl
  where
    go : (c : Option ClassId) → class_of t ≡ c → OnBirth P (born_in p kind pos c first f)
    go None is = tt
    go (Some c) is = each c is

pub kind_is : (p : Program) (kind : OriginKind) (pos : Pos) (c : ClassId) (first : Option Names) → (origin_of p kind pos c first).kind ≡ kind
kind_is p kind pos c None = refl
kind_is p kind pos c (Some names) = refl

-- ---- by steps: neither of a parameter or `this`, nor in mode Alias

abbrev pub IsElsewhere : Birth → Type 0
IsElsewhere x = (is_alias (x.1).mode ≡ false) × (position_of (x.0).kind ≡ None)

module _ (p : Program) where
  born_elsewhere : (kind : OriginKind) (pos : Pos) (t : Option VType) (first : Option Names) (f : Fact) → is_alias f.mode ≡ false → position_of kind ≡ None → OnBirth IsElsewhere (born p kind pos t first f)
  born_elsewhere kind pos t first f mode none = born_so IsElsewhere p kind pos t first f (λ c is. (mode, ap position_of (kind_is p kind pos c first) ∙ none))

  field_elsewhere : (b : BodyId) (pos : Option Pos) (f : FieldId) → OnBirth IsElsewhere (field_birth p b pos f)
  field_elsewhere b pos f = go (has_field_place p b f) (field_at p f)
    where
      go : (y : Bool) (x : Option Field) → OnBirth IsElsewhere (if y then owning_field_birth p f pos x else None)
      go true None = tt
      go true (Some x) = born_elsewhere (kinds.FieldAt f) (field_birth_place pos x) (Some x.vtype) None (fact_at (place_of_field p f) modes.Held no_names true) refl refl
      go false x = tt

  pub fields_elsewhere : (b : BodyId) (pos : Option Pos) (fs : List FieldId) → AllBirths IsElsewhere (filter_map (field_birth p b pos) fs)
  fields_elsewhere b pos [] = tt
  fields_elsewhere b pos (f ∷ fs) = go (field_birth p b pos f) (field_elsewhere b pos f) (fields_elsewhere b pos fs)
    where
      go : (x : Option Birth) → OnBirth IsElsewhere x → AllBirths IsElsewhere (filter_map (field_birth p b pos) fs) → AllBirths IsElsewhere (cons_option x (filter_map (field_birth p b pos) fs))
      go None on rest = rest
      go (Some x) on rest = (on, rest)

  new_elsewhere : (d : ℕ) (pos : Pos) (m : Option Method) → OnBirth IsElsewhere (new_birth p d pos m)
  new_elsewhere d pos None = tt
  new_elsewhere d pos (Some m) = go (is_heavy_class p m.class && not (is_present m.sig.alias))
    where
      go : (y : Bool) → OnBirth IsElsewhere (if y then born p kinds.New pos (Some (types.Obj m.class)) m.sig.first (fact_at (places.Temp d) modes.Own no_names false) else None)
      go true = born_elsewhere kinds.New pos (Some (types.Obj m.class)) m.sig.first (fact_at (places.Temp d) modes.Own no_names false) refl refl
      go false = tt

  result_elsewhere : (d : ℕ) (pos : Pos) (m : Option Method) → OnBirth IsElsewhere (result_birth p d pos m)
  result_elsewhere d pos None = tt
  result_elsewhere d pos (Some m) = go (is_present m.sig.alias) m.sig.owning_result
    where
      go : (y z : Bool) → OnBirth IsElsewhere (if y then None else born p kinds.Result pos m.sig.result m.sig.first (result_fact d z))
      go true z = tt
      go false true = born_elsewhere kinds.Result pos m.sig.result m.sig.first (result_fact d true) refl refl
      go false false = born_elsewhere kinds.Result pos m.sig.result m.sig.first (result_fact d false) refl refl

  read_elsewhere : (x : Place) (pos : Pos) (t : Option VType) → OnBirth IsElsewhere (born p kinds.Read pos t None (fact_at x modes.None no_names true))
  read_elsewhere x pos t = born_elsewhere kinds.Read pos t None (fact_at x modes.None no_names true) refl refl

  constant_elsewhere : (x : Place) (pos : Pos) (v : PlainValue) → OnBirth IsElsewhere (constant_birth p x pos v)
  constant_elsewhere x pos (plain.Literal l) = tt
  constant_elsewhere x pos (plain.LibraryConstant m) = read_elsewhere x pos (result_in (method_at p m))
  constant_elsewhere x pos v = tt

  go_elsewhere : (a : Action) (pos : Pos) → OnBirth IsElsewhere (birth_on_go p a pos)
  go_elsewhere actions.Skip pos = tt
  go_elsewhere (actions.New m d n) pos = new_elsewhere d pos (method_at p m)
  go_elsewhere (actions.Call m d n form) pos = result_elsewhere d pos (method_at p m)
  go_elsewhere (actions.Get f d this) pos = read_elsewhere (places.Temp d) pos (field_type p f)
  go_elsewhere (actions.Plain x v) pos = constant_elsewhere x pos v
  go_elsewhere a pos = tt

  on_elsewhere : (a : Action) (e : Edge) (pos : Pos) → OnBirth IsElsewhere (birth_on p a e pos)
  on_elsewhere a edges.Go pos = go_elsewhere a pos
  on_elsewhere a edges.Null pos = tt
  on_elsewhere a edges.NonNull pos = tt
  on_elsewhere a edges.True pos = tt
  on_elsewhere a edges.False pos = tt
  on_elsewhere a (edges.Throws c) pos = tt

  reset_elsewhere : (b : BodyId) (a : Action) (pos : Pos) → AllBirths IsElsewhere (reset_births p b a pos)
  reset_elsewhere b a pos = go (is_reset_of_this p a)
    where
      go : (y : Bool) → AllBirths IsElsewhere (if y then field_births p b (Some pos) else [])
      go true = fields_elsewhere b (Some pos) (fields_of p b)
      go false = tt

  pub step_elsewhere : (b : BodyId) (a : Action) (e : Edge) (pos : Pos) (n : ℕ) (o : Origin) (f : Fact) → slice_get (births_of_step p b a e pos) n ≡ Some (o, f)
      → (is_alias f.mode ≡ false) × (position_of o.kind ≡ None)
  step_elsewhere b a e pos n o f there =
      birth_at IsElsewhere (births_of_step p b a e pos) n (o, f)
      (births_both IsElsewhere (optional (birth_on p a e pos)) (reset_births p b a pos) (listed IsElsewhere (birth_on p a e pos) (on_elsewhere a e pos)) (reset_elsewhere b a pos)) there

  -- ---- at the entry

  module _ (m : Method) where
    -- the class is that of the declared type
    abbrev pub HasDeclaredClass : Origin → OriginKind → Type 0
    HasDeclaredClass o (kinds.Param v) = (q : ParamSig) → slice_get m.sig.params.items v ≡ Some q → q.vtype ≡ types.Obj o.class
    HasDeclaredClass o kinds.ThisRef = o.class ≡ m.class
    HasDeclaredClass o kind = Unit {0}

    -- the place of a position of the signature
    abbrev pub place_at : ℕ → Place
    place_at zero = places.This
    place_at (suc v) = places.Var v

    -- in mode Alias it is in the place of the aliased parameter
    abbrev pub IsInAliased : Fact → Type 0
    IsInAliased f = (k : ℕ) → m.sig.alias ≡ Some k → is_alias f.mode ≡ true → has f.places (place_at k) ≡ true

    abbrev IsEntered : Birth → Type 0
    IsEntered x = HasDeclaredClass x.0 (x.0).kind × IsInAliased x.1

    object_type : (t : VType) (c : ClassId) → class_of (Some t) ≡ Some c → t ≡ types.Obj c
    object_type (types.Obj d) c is = ap types.Obj (let both : Some d ≡ Some c = is in (let same : d ≡ c = cc in same))
    object_type (types.Primitive k) c is = absurd (let never : None ≡ Some c = is in cc)
    object_type types.Str c is = absurd (let never : None ≡ Some c = is in cc)
    object_type (types.Arr k) c is = absurd (let never : None ≡ Some c = is in cc)
    object_type types.NullType c is = absurd (let never : None ≡ Some c = is in cc)

    -- a parameter is in mode Alias at the alias position alone
    parameter_alias : (s : Sig) (j k : ℕ) (q : ParamSig) → s.alias ≡ Some k → is_alias (parameter_mode s j q) ≡ true → k ≡ j
    parameter_alias s j k q some is = by q.owning (is_position s.alias j) refl (is_position s.reset j) is
      where
        by : (x y : Bool) → is_position s.alias j ≡ y → (z : Bool) → is_alias (if x then modes.Own else (if y then modes.Alias else (if z then modes.Lent else modes.None))) ≡ true → k ≡ j
        by true y at z one = absurd (true≢false (sym one))
        by false true at z one = eqb-true k j (ap (λ (a : Option ℕ). is_position a j) (sym some) ∙ at)
        by false false at true one = absurd (true≢false (sym one))
        by false false at false one = absurd (true≢false (sym one))

    -- and so is `this`, in a method
    this_alias : (kind : MethodKind) (k : ℕ) → m.sig.alias ≡ Some k → is_alias (this_mode m.sig kind) ≡ true → k ≡ 0
    this_alias kind k some is = by_kind kind is
      where
        by : (x y : Bool) → is_position m.sig.alias 0 ≡ y → is_alias (if x then modes.Lent else (if y then modes.Alias else modes.None)) ≡ true → k ≡ 0
        by true y at one = absurd (true≢false (sym one))
        by false true at one = eqb-true k 0 (ap (λ (a : Option ℕ). is_position a 0) (sym some) ∙ at)
        by false false at one = absurd (true≢false (sym one))

        by_kind : (kind' : MethodKind) → is_alias (this_mode m.sig kind') ≡ true → k ≡ 0
        by_kind methods.Ctor one = absurd (true≢false (sym one))
        by_kind methods.Instance one = by (is_position m.sig.reset 0) (is_position m.sig.alias 0) refl one
        by_kind methods.Static one = by (is_position m.sig.reset 0) (is_position m.sig.alias 0) refl one
        by_kind methods.Constant one = by (is_position m.sig.reset 0) (is_position m.sig.alias 0) refl one

    -- a fact that is born is in its place
    pub born_there : (x y : Place) (mode : Mode) (called : Names) (full : Bool) → x ≡ y → has (fact_at x mode called full).places y ≡ true
    born_there x y mode called full same = subst (λ (z : Place). has (fact_at x mode called full).places z ≡ true) same (new_member set.empty (number_of x))

    parameter_entered : (b : Body) (k : ℕ) (x : ParamSig) → slice_get m.sig.params.items k ≡ Some x → OnBirth IsEntered (parameter_birth p m.sig k x (variable_at b k))
    parameter_entered b k x at = go (variable_at b k)
      where
        go : (v : Option Var) → OnBirth IsEntered (parameter_birth p m.sig k x v)
        go None = tt
        go (Some v) = born_so IsEntered p (kinds.Param k) v.pos (Some x.vtype) None (fact_at (places.Var k) (parameter_mode m.sig (k + 1) x) x.before true) (λ c class. (
          (λ q there. ap (λ (u : ParamSig). u.vtype) (let both : Some q ≡ Some x = sym there ∙ at in (let same : q ≡ x = cc in same)) ∙ object_type x.vtype c class),
          (λ j some is. born_there (places.Var k) (place_at j) (parameter_mode m.sig (k + 1) x) x.before true
              (ap place_at (sym (parameter_alias m.sig (k + 1) j x some is ∙ (let next : k + 1 ≡ suc k = omega arith in next))))),
        ))

    parameters_entered : (b : Body) (k : ℕ) (xs : List ParamSig) → ((j : ℕ) → slice_get m.sig.params.items (k + j) ≡ slice_get xs j) → AllBirths IsEntered (parameter_births p b m.sig k xs)
    parameters_entered b k [] at = tt
    parameters_entered b k (x ∷ xs) at =
        births_both IsEntered (optional (parameter_birth p m.sig k x (variable_at b k))) (parameter_births p b m.sig (k + 1) xs)
        (listed IsEntered (parameter_birth p m.sig k x (variable_at b k)) (parameter_entered b k x (ap (slice_get m.sig.params.items) (let first : k ≡ k + 0 = omega arith in first) ∙ at 0)))
        (parameters_entered b (k + 1) xs (λ j. ap (slice_get m.sig.params.items) (let next : k + 1 + j ≡ k + suc j = omega arith in next) ∙ at (suc j)))

    this_entered : OnBirth IsEntered (this_birth p m)
    this_entered = go (has_this m.kind)
      where
        go : (y : Bool) → OnBirth IsEntered (if y then born p kinds.ThisRef m.pos (Some (types.Obj m.class)) None (fact_at places.This (this_mode m.sig m.kind) no_names true) else None)
        go true = (refl, (λ j some is. born_there places.This (place_at j) (this_mode m.sig m.kind) no_names true (ap place_at (sym (this_alias m.kind j some is)))))
        go false = tt

    -- what is born elsewhere is neither
    entered_elsewhere : (o : Origin) (f : Fact) → is_alias f.mode ≡ false → position_of o.kind ≡ None → HasDeclaredClass o o.kind × IsInAliased f
    entered_elsewhere o f mode none = (by o.kind none, (λ k some is. absurd (true≢false (sym is ∙ mode))))
      where
        by : (kind : OriginKind) → position_of kind ≡ None → HasDeclaredClass o kind
        by (kinds.Param v) some = absurd (let never : Some (v + 1) ≡ None = some in cc)
        by kinds.ThisRef some = absurd (let never : Some 0 ≡ None = some in cc)
        by kind some = tt

    pub born_elsewhere_entered : (b : BodyId) (a : Action) (e : Edge) (pos : Pos) (n : ℕ) (o : Origin) (f : Fact) → slice_get (births_of_step p b a e pos) n ≡ Some (o, f) → HasDeclaredClass o o.kind × IsInAliased f
    born_elsewhere_entered b a e pos n o f there = let away = step_elsewhere b a e pos n o f there in entered_elsewhere o f away.0 away.1

    all_elsewhere : (xs : List Birth) → AllBirths IsElsewhere xs → AllBirths IsEntered xs
    all_elsewhere [] all = tt
    all_elsewhere (x ∷ xs) all = (entered_elsewhere x.0 x.1 (all.0).0 (all.0).1, all_elsewhere xs all.1)

    held_elsewhere : (b : BodyId) (k : MethodKind) → AllBirths IsElsewhere (held_births p b k)
    held_elsewhere b methods.Ctor = tt
    held_elsewhere b methods.Instance = fields_elsewhere b None (fields_of p b)
    held_elsewhere b methods.Static = tt
    held_elsewhere b methods.Constant = tt

    pub entry_entered : (b : BodyId) (x : Body) → body_at p b ≡ Some x → method_at p x.method ≡ Some m → (n : ℕ) (o : Origin) (f : Fact) → slice_get (births_at_entry p b) n ≡ Some (o, f)
        → HasDeclaredClass o o.kind × IsInAliased f
    entry_entered b x at named n o f there = birth_at IsEntered (births_at_entry p b) n (o, f) all there
      where
        all : AllBirths IsEntered (births_at_entry p b)
        all = subst (λ (y : Option Body). AllBirths IsEntered (entry_births_in p b y)) (sym at) (subst (λ (y : Option Method). AllBirths IsEntered (entry_births_of p b x y)) (sym named)
            (births_both IsEntered (parameter_births p x m.sig 0 m.sig.params.items) (optional (this_birth p m) ++ held_births p b m.kind) (parameters_entered x 0 m.sig.params.items (λ j. ap (slice_get m.sig.params.items) (let same : 0 + j ≡ j = omega arith in same)))
            (births_both IsEntered (optional (this_birth p m)) (held_births p b m.kind) (listed IsEntered (this_birth p m) this_entered) (all_elsewhere (held_births p b m.kind) (held_elsewhere b m.kind)))))
