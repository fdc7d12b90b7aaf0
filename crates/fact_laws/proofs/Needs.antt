-- What an origin needs in full is all that its class asks for.
use Rattle.std.proofs.Common.{◌≡◌, refl, ℕ, ◌+◌, Bool, true, false, not, ◌&&◌, Option, Some, None, List, [], ◌∷◌, ◌++◌}
use Rattle.std.specs.Prelude.{if◌then◌else◌}
use Rattle.std.specs.List.{cons_option, filter_map}
use Rattle.rlc_base.specs.declared.place.Pos.{Pos}
use Rattle.program_model.specs.declared.kinds.BodyId.{BodyId}
use Rattle.program_model.specs.declared.kinds.ClassId.{ClassId}
use Rattle.program_model.specs.declared.kinds.FieldId.{FieldId}
use Rattle.program_model.specs.declared.kinds.MethodKind.{MethodKind}
use Rattle.program_model.specs.declared.kinds.MethodKind.TheVariants as methods
use Rattle.program_model.specs.declared.kinds.VType.{VType}
use Rattle.program_model.specs.declared.kinds.VType.TheVariants as types
use Rattle.program_model.specs.declared.program.Field.{Field}
use Rattle.program_model.specs.declared.program.Method.{Method}
use Rattle.program_model.specs.declared.program.ParamSig.{ParamSig}
use Rattle.program_model.specs.declared.program.Program.{Program}
use Rattle.program_model.specs.declared.program.Sig.{Sig}
use Rattle.program_model.specs.declared.tree.Body.{Body}
use Rattle.program_model.specs.declared.tree.Var.{Var}
use Rattle.program_model.specs.Lookups.{body_at, field_at, method_at, optional, variable_at}
use Rattle.java_control.specs.Calls.{is_reset_of_this}
use Rattle.java_control.specs.Owned.{place_of_field}
use Rattle.java_control.specs.Remaining.{Todo}
use Rattle.control_actions.specs.declared.action.Action.{Action}
use Rattle.control_actions.specs.declared.action.Action.TheVariants as actions
use Rattle.control_actions.specs.declared.action.Edge.{Edge}
use Rattle.control_actions.specs.declared.action.Edge.TheVariants as edges
use Rattle.control_actions.specs.declared.action.PlainValue.{PlainValue}
use Rattle.control_actions.specs.declared.action.PlainValue.TheVariants as plain
use Rattle.control_actions.specs.declared.fact.Fact.{Fact}
use Rattle.control_actions.specs.declared.fact.Mode.TheVariants as modes
use Rattle.control_actions.specs.declared.fact.Origin.{Origin}
use Rattle.control_actions.specs.declared.fact.OriginKind.{OriginKind}
use Rattle.control_actions.specs.declared.fact.OriginKind.TheVariants as kinds
use Rattle.control_actions.specs.declared.place.Place.{Place}
use Rattle.control_actions.specs.declared.place.Place.TheVariants as places
use Rattle.ownership_rules.specs.Bodies.{fields_of, has_field_place}
use Rattle.ownership_rules.specs.MustCallSets.{Names, is_heavy_class, must_of, no_names}
use Rattle.place_laws.specs.Paths.{Reach, born, entered, flowed, relation_of}
use Rattle.ownership_rules.specs.Signatures.{field_type, is_present}
use Rattle.ownership_rules.specs.Births.{Birth, birth_on, birth_on_go, births_at_entry, births_of_step, constant_birth, entry_births_in, entry_births_of, fact_at, field_birth, field_birth_place, field_births, has_this, held_births, new_birth, origin_of, owning_field_birth, parameter_birth, parameter_births, parameter_mode, reset_births, result_birth, result_fact, this_birth, this_mode}
use Rattle.ownership_rules.specs.Births as births
use Rattle.ownership_rules.specs.MovesAtReturns.{result_in}
use Rattle.fact_laws.proofs.ParameterBirths.{AllBirths, OnBirth, birth_at, births_both, listed}
use Rattle.fact_laws.proofs.EntryFacts.{born_so}

-- the origin needs, in full, all that its class asks for
abbrev NeedsAll : Program → Birth → Type 0
NeedsAll p x = (x.0).full ≡ must_of p (x.0).class

module _ (p : Program) where
  origin_needs : (kind : OriginKind) (pos : Pos) (c : ClassId) (first : Option Names) → (origin_of p kind pos c first).full ≡ must_of p (origin_of p kind pos c first).class
  origin_needs kind pos c None = refl
  origin_needs kind pos c (Some names) = refl

  so : (kind : OriginKind) (pos : Pos) (t : Option VType) (first : Option Names) (f : Fact) → OnBirth (NeedsAll p) (births.born p kind pos t first f)
  so kind pos t first f = born_so (NeedsAll p) p kind pos t first f (λ c class. origin_needs kind pos c first)

  field_so : (b : BodyId) (pos : Option Pos) (g : FieldId) → OnBirth (NeedsAll p) (field_birth p b pos g)
  field_so b pos g = go (has_field_place p b g) (field_at p g)
    where
      go : (y : Bool) (x : Option Field) → OnBirth (NeedsAll p) (if y then owning_field_birth p g pos x else None)
      go false x = tt
      go true None = tt
      go true (Some x) = so (kinds.FieldAt g) (field_birth_place pos x) (Some x.vtype) None (fact_at (place_of_field p g) modes.Held no_names true)

  fields_so : (b : BodyId) (pos : Option Pos) (gs : List FieldId) → AllBirths (NeedsAll p) (filter_map (field_birth p b pos) gs)
  fields_so b pos [] = tt
  fields_so b pos (g ∷ gs) = go (field_birth p b pos g) (field_so b pos g) (fields_so b pos gs)
    where
      go : (x : Option Birth) → OnBirth (NeedsAll p) x → AllBirths (NeedsAll p) (filter_map (field_birth p b pos) gs) → AllBirths (NeedsAll p) (cons_option x (filter_map (field_birth p b pos) gs))
      go None on rest = rest
      go (Some x) on rest = (on, rest)

  new_so : (d : ℕ) (pos : Pos) (m : Option Method) → OnBirth (NeedsAll p) (new_birth p d pos m)
  new_so d pos None = tt
  new_so d pos (Some m) = go (is_heavy_class p m.class && not (is_present m.sig.alias))
    where
      go : (y : Bool) → OnBirth (NeedsAll p) (if y then births.born p kinds.New pos (Some (types.Obj m.class)) m.sig.first (fact_at (places.Temp d) modes.Own no_names false) else None)
      go true = so kinds.New pos (Some (types.Obj m.class)) m.sig.first (fact_at (places.Temp d) modes.Own no_names false)
      go false = tt

  result_so : (d : ℕ) (pos : Pos) (m : Option Method) → OnBirth (NeedsAll p) (result_birth p d pos m)
  result_so d pos None = tt
  result_so d pos (Some m) = go (is_present m.sig.alias)
    where
      go : (y : Bool) → OnBirth (NeedsAll p) (if y then None else births.born p kinds.Result pos m.sig.result m.sig.first (result_fact d m.sig.owning_result))
      go true = tt
      go false = so kinds.Result pos m.sig.result m.sig.first (result_fact d m.sig.owning_result)

  constant_so : (x : Place) (pos : Pos) (v : PlainValue) → OnBirth (NeedsAll p) (constant_birth p x pos v)
  constant_so x pos (plain.Literal l) = tt
  constant_so x pos (plain.LibraryConstant m) = so kinds.Read pos (result_in (method_at p m)) None (fact_at x modes.None no_names true)
  constant_so x pos v = tt

  go_so : (a : Action) (pos : Pos) → OnBirth (NeedsAll p) (birth_on_go p a pos)
  go_so actions.Skip pos = tt
  go_so (actions.New m d n) pos = new_so d pos (method_at p m)
  go_so (actions.Call m d n form) pos = result_so d pos (method_at p m)
  go_so (actions.Get f d this) pos = so kinds.Read pos (field_type p f) None (fact_at (places.Temp d) modes.None no_names true)
  go_so (actions.Plain x v) pos = constant_so x pos v
  go_so a pos = tt

  on_so : (a : Action) (e : Edge) (pos : Pos) → OnBirth (NeedsAll p) (birth_on p a e pos)
  on_so a edges.Go pos = go_so a pos
  on_so a edges.Null pos = tt
  on_so a edges.NonNull pos = tt
  on_so a edges.True pos = tt
  on_so a edges.False pos = tt
  on_so a (edges.Throws c) pos = tt

  reset_so : (b : BodyId) (a : Action) (pos : Pos) → AllBirths (NeedsAll p) (reset_births p b a pos)
  reset_so b a pos = go (is_reset_of_this p a)
    where
      go : (y : Bool) → AllBirths (NeedsAll p) (if y then field_births p b (Some pos) else [])
      go true = fields_so b (Some pos) (fields_of p b)
      go false = tt

  parameters_so : (y : Body) (s : Sig) (k : ℕ) (xs : List ParamSig) → AllBirths (NeedsAll p) (parameter_births p y s k xs)
  parameters_so y s k [] = tt
  parameters_so y s k (x ∷ xs) =
      births_both (NeedsAll p) (optional (parameter_birth p s k x (variable_at y k))) (parameter_births p y s (k + 1) xs)
      (listed (NeedsAll p) (parameter_birth p s k x (variable_at y k)) (go (variable_at y k))) (parameters_so y s (k + 1) xs)
    where
      go : (v : Option Var) → OnBirth (NeedsAll p) (parameter_birth p s k x v)
      go None = tt
      go (Some v) = so (kinds.Param k) v.pos (Some x.vtype) None (fact_at (places.Var k) (parameter_mode s (k + 1) x) x.before true)

  this_so : (m : Method) → OnBirth (NeedsAll p) (this_birth p m)
  this_so m = go (has_this m.kind)
    where
      go : (y : Bool) → OnBirth (NeedsAll p) (if y then births.born p kinds.ThisRef m.pos (Some (types.Obj m.class)) None (fact_at places.This (this_mode m.sig m.kind) no_names true) else None)
      go true = so kinds.ThisRef m.pos (Some (types.Obj m.class)) None (fact_at places.This (this_mode m.sig m.kind) no_names true)
      go false = tt

  held_so : (b : BodyId) (k : MethodKind) → AllBirths (NeedsAll p) (held_births p b k)
  held_so b methods.Ctor = tt
  held_so b methods.Instance = fields_so b None (fields_of p b)
  held_so b methods.Static = tt
  held_so b methods.Constant = tt

  entry_so : (b : BodyId) → AllBirths (NeedsAll p) (births_at_entry p b)
  entry_so b = go (body_at p b)
    where
      by : (y : Body) (m : Option Method) → AllBirths (NeedsAll p) (entry_births_of p b y m)
      by y None = tt
      by y (Some m) =
          births_both (NeedsAll p) (parameter_births p y m.sig 0 m.sig.params.items) (optional (this_birth p m) ++ held_births p b m.kind) (parameters_so y m.sig 0 m.sig.params.items)
          (births_both (NeedsAll p) (optional (this_birth p m)) (held_births p b m.kind) (listed (NeedsAll p) (this_birth p m) (this_so m)) (held_so b m.kind))

      go : (y : Option Body) → AllBirths (NeedsAll p) (entry_births_in p b y)
      go None = tt
      go (Some y) = by y (method_at p y.method)

  pub origin_needs_all : (b : BodyId) (o : Origin) (k : List Todo) (f : Fact) → Reach p b (relation_of p b) o k f → o.full ≡ must_of p o.class
  origin_needs_all b o _ f (entered n is) = birth_at (NeedsAll p) (births_at_entry p b) n (o, f) (entry_so b) is
  origin_needs_all b o _ f (born i n t before here is) =
      birth_at (NeedsAll p) (births_of_step p b t.action t.edge t.pos) n (o, f)
      (births_both (NeedsAll p) (optional (birth_on p t.action t.edge t.pos)) (reset_births p b t.action t.pos) (listed (NeedsAll p) (birth_on p t.action t.edge t.pos) (on_so t.action t.edge t.pos)) (reset_so b t.action t.pos)) is
  origin_needs_all b o _ g (flowed {k} {f} i t before here is) = origin_needs_all b o k f before
