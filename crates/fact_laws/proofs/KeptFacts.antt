-- A fact of a parameter that the signature speaks of holds in it, and that of `this` in `this`. In a constructor with an aliased argument, which creates the obligation of `this` nowhere anew, a fact that says that a
-- field of `this` holds its object is that of this argument.
use Rattle.std.proofs.Common.{◌≡◌, ◌∙◌, ap, refl, sym, subst, arith, ℕ, ◌+◌, ◌<◌, ◌≤◌, inl, inr, Bool, true, false, true≢false, eqb-true, Option, Some, None, List, [], ◌∷◌, ◌++◌, length, slice_get, IsSomeAnd}
use Rattle.std.specs.Prelude.{if◌then◌else◌}
use Rattle.std.proofs.lemmas.Bool.{and_parts}
use Rattle.program_model.specs.declared.kinds.BodyId.{BodyId}
use Rattle.program_model.specs.declared.kinds.MethodKind.{MethodKind}
use Rattle.program_model.specs.declared.kinds.MethodKind.TheVariants as methods
use Rattle.program_model.specs.declared.kinds.VType.TheVariants as types
use Rattle.program_model.specs.declared.program.Method.{Method}
use Rattle.program_model.specs.declared.program.ParamSig.{ParamSig}
use Rattle.program_model.specs.declared.program.Program.{Program}
use Rattle.program_model.specs.declared.program.Sig.{Sig}
use Rattle.program_model.specs.declared.tree.Var.{Var}
use Rattle.program_model.specs.declared.tree.Body.{Body}
use Rattle.program_model.specs.Lookups.{body_at, method_at, optional, variable_at}
use Rattle.program_model.specs.Validity.{IsBodyOf}
use Rattle.ownership_rules.specs.Assigned.{is_spoken_variable}
use Rattle.ownership_rules.specs.Bodies.{alias_position, constructs, fields_of, is_alias_constructor, is_constructor, is_constructor_kind, method_in}
use Rattle.ownership_rules.specs.MustCallSets.{no_names}
use Rattle.ownership_rules.specs.Signatures.{is_position, is_present}
use Rattle.java_control.specs.Calls.{is_reset_of_this}
use Rattle.java_control.specs.Remaining.{Todo}
use Rattle.control_actions.specs.declared.fact.Fact.{Fact}
use Rattle.control_actions.specs.declared.fact.Mode.TheVariants as modes
use Rattle.control_actions.specs.declared.fact.Origin.{Origin}
use Rattle.control_actions.specs.declared.fact.OriginKind.{OriginKind}
use Rattle.control_actions.specs.declared.fact.OriginKind.TheVariants as kinds
use Rattle.control_actions.specs.declared.place.Place.TheVariants as places
use Rattle.ownership_rules.specs.Facts.{has, is_held, is_origin_at, position_of}
use Rattle.ownership_rules.specs.Births.{Birth, births_at_entry, entry_births_in, entry_births_of, fact_at, has_this, held_births, parameter_birth, parameter_births, parameter_mode, this_birth, this_mode}
use Rattle.ownership_rules.specs.Births as births
use Rattle.place_laws.specs.Paths.{Comes, Move, Reach, born, entered, flowed, relation_of}
use Rattle.place_laws.specs.Accept.{Accept}
use Rattle.place_laws.proofs.AssignedReached.{spoken_stay, this_stay}
use Rattle.place_laws.proofs.Unassigned.{is_parameter}
use Rattle.fact_laws.proofs.AliasFacts.{this_leaves, unset_leaves}
use Rattle.fact_laws.proofs.AliasFlows.{next_stays}
use Rattle.fact_laws.proofs.ParameterBirths.{AllBirths, OnBirth, birth_at, births_both, listed}
use Rattle.fact_laws.proofs.EntryFacts.{IsElsewhere, born_so, born_there, fields_elsewhere, step_elsewhere}
use Rattle.fact_laws.proofs.ResetBirths.{step_born}
use Rattle.fact_laws.proofs.Origins.{comes, few, few_parameters}

constructor_kind : (k : MethodKind) → is_constructor_kind k ≡ true → k ≡ methods.Ctor
constructor_kind methods.Ctor is = refl
constructor_kind methods.Instance is = absurd (true≢false (sym is))
constructor_kind methods.Static is = absurd (true≢false (sym is))
constructor_kind methods.Constant is = absurd (true≢false (sym is))

pub own_position : (v : ℕ) (kind : OriginKind) → is_origin_at kind (Some (v + 1)) ≡ true → kind ≡ kinds.Param v
own_position v (kinds.Param k) is = ap kinds.Param (let same : k + 1 ≡ v + 1 = eqb-true (k + 1) (v + 1) is in omega (arith, same))
own_position v kinds.ThisRef is = absurd (let same : 0 ≡ v + 1 = eqb-true 0 (v + 1) is in omega (arith, same))
own_position v kind is = absurd (true≢false (sym is))

zero_position : (kind : OriginKind) → is_origin_at kind (Some 0) ≡ true → kind ≡ kinds.ThisRef
zero_position (kinds.Param k) is = absurd (let same : k + 1 ≡ 0 = eqb-true (k + 1) 0 is in omega (arith, same))
zero_position kinds.ThisRef is = refl
zero_position kind is = absurd (true≢false (sym is))

-- a parameter begins in no field of `this`
pub parameter_unheld : (s : Sig) (j : ℕ) (q : ParamSig) → is_held (parameter_mode s j q) ≡ false
parameter_unheld s j q = by q.owning (is_position s.alias j) (is_position s.reset j)
  where
    by : (x y z : Bool) → is_held (if x then modes.Own else (if y then modes.Alias else (if z then modes.Lent else modes.None))) ≡ false
    by true y z = refl
    by false true z = refl
    by false false true = refl
    by false false false = refl

-- ---- the entry

module _ (p : Program) (m : Method) where
  -- a parameter's fact is in its variable, and that of `this` in `this`; and a constructor begins with nothing in the fields of `this`
  abbrev IsBegun : Birth → Type 0
  IsBegun x = ((v : ℕ) → (x.0).kind ≡ kinds.Param v → has (x.1).places (places.Var v) ≡ true) × (m.kind ≡ methods.Ctor → is_held (x.1).mode ≡ false) × ((x.0).kind ≡ kinds.ThisRef → has (x.1).places places.This ≡ true)

  parameter_begun : (b : Body) (k : ℕ) (x : ParamSig) → OnBirth IsBegun (parameter_birth p m.sig k x (variable_at b k))
  parameter_begun b k x = go (variable_at b k)
    where
      go : (v : Option Var) → OnBirth IsBegun (parameter_birth p m.sig k x v)
      go None = tt
      go (Some v) = born_so IsBegun p (kinds.Param k) v.pos (Some x.vtype) None (fact_at (places.Var k) (parameter_mode m.sig (k + 1) x) x.before true) (λ c class. (
        (λ w same. born_there p m (places.Var k) (places.Var w) (parameter_mode m.sig (k + 1) x) x.before true
            (ap places.Var (let is : kinds.Param k ≡ kinds.Param w = same in (let one : k ≡ w = cc in one)))),
        (λ new. parameter_unheld m.sig (k + 1) x),
        (λ same. absurd (let is : kinds.Param k ≡ kinds.ThisRef = same in cc)),
      ))

  parameters_begun : (b : Body) (k : ℕ) (xs : List ParamSig) → AllBirths IsBegun (parameter_births p b m.sig k xs)
  parameters_begun b k [] = tt
  parameters_begun b k (x ∷ xs) =
      births_both IsBegun (optional (parameter_birth p m.sig k x (variable_at b k))) (parameter_births p b m.sig (k + 1) xs)
      (listed IsBegun (parameter_birth p m.sig k x (variable_at b k)) (parameter_begun b k x)) (parameters_begun b (k + 1) xs)

  this_begun : OnBirth IsBegun (this_birth p m)
  this_begun = go (has_this m.kind)
    where
      go : (y : Bool) → OnBirth IsBegun (if y then births.born p kinds.ThisRef m.pos (Some (types.Obj m.class)) None (fact_at places.This (this_mode m.sig m.kind) no_names true) else None)
      go true = (
        (λ v same. absurd (let is : kinds.ThisRef ≡ kinds.Param v = same in cc)),
        (λ new. ap (λ (k : MethodKind). is_held (this_mode m.sig k)) new),
        (λ same. born_there p m places.This places.This (this_mode m.sig m.kind) no_names true refl),
      )
      go false = tt

  all_begun : m.kind ≡ methods.Instance → (xs : List Birth) → AllBirths IsElsewhere xs → AllBirths IsBegun xs
  all_begun kind [] all = tt
  all_begun kind (x ∷ xs) all = (
    (
      (λ v same. absurd (let never : Some (v + 1) ≡ None = sym (ap position_of same) ∙ (all.0).1 in cc)),
      (λ new. absurd (let never : methods.Instance ≡ methods.Ctor = sym kind ∙ new in cc)),
      (λ same. absurd (let never : Some 0 ≡ None = sym (ap position_of same) ∙ (all.0).1 in cc)),
    ),
    all_begun kind xs all.1,
  )

  held_begun : (b : BodyId) (k : MethodKind) → m.kind ≡ k → AllBirths IsBegun (held_births p b k)
  held_begun b methods.Ctor kind = tt
  held_begun b methods.Instance kind = all_begun kind (held_births p b methods.Instance) (fields_elsewhere p b None (fields_of p b))
  held_begun b methods.Static kind = tt
  held_begun b methods.Constant kind = tt

  entry_begun : (b : BodyId) (x : Body) → body_at p b ≡ Some x → method_at p x.method ≡ Some m → (n : ℕ) (o : Origin) (f : Fact) → slice_get (births_at_entry p b) n ≡ Some (o, f)
      → ((v : ℕ) → o.kind ≡ kinds.Param v → has f.places (places.Var v) ≡ true) × (m.kind ≡ methods.Ctor → is_held f.mode ≡ false) × (o.kind ≡ kinds.ThisRef → has f.places places.This ≡ true)
  entry_begun b x at named n o f there = birth_at IsBegun (births_at_entry p b) n (o, f) all there
    where
      all : AllBirths IsBegun (births_at_entry p b)
      all = subst (λ (y : Option Body). AllBirths IsBegun (entry_births_in p b y)) (sym at) (subst (λ (y : Option Method). AllBirths IsBegun (entry_births_of p b x y)) (sym named)
          (births_both IsBegun (parameter_births p x m.sig 0 m.sig.params.items) (optional (this_birth p m) ++ held_births p b m.kind) (parameters_begun x 0 m.sig.params.items)
          (births_both IsBegun (optional (this_birth p m)) (held_births p b m.kind) (listed IsBegun (this_birth p m) this_begun) (held_begun b m.kind refl))))

-- ---- paths

module _ (p : Program) (ac : Accept p) (b : BodyId) (x : Body) (m : Method) (at : body_at p b ≡ Some x) (of : method_at p x.method ≡ Some m) where
  module _ (v : ℕ) (spoken : is_spoken_variable m v ≡ true) where
    variable_small : v < 160
    variable_small =
        let has' = subst (λ (y : Option Method). IsSomeAnd y (IsBodyOf b x)) of (ac.well_formed.valid.typed.bodies b x at).method in
        let fit : length m.sig.params.items ≤ length x.vars.items = few_parameters x.vars.items m.sig.params.items has'.1 in
        let inside : v < length m.sig.params.items = is_parameter m v spoken in
        let room : length x.vars.items ≤ 160 = few p ac b x at in
        omega (arith, fit, inside, room)

    holds_own : (o : Origin) (c : List Todo) (f : Fact) → Reach p b (relation_of p b) o c f → o.kind ≡ kinds.Param v → has f.places (places.Var v) ≡ true
    holds_own o _ f (entered n is) kind = (entry_begun p m b x at of n o f is).0 v kind
    holds_own o _ f (born i n t before here is) kind =
        absurd (let never : Some (v + 1) ≡ None = sym (ap position_of kind) ∙ (step_elsewhere p b t.action t.edge t.pos n o f is).1 in cc)
    holds_own o _ g (flowed {k = c} {f = f} i t before here is) kind =
        let reached = comes p ac b x at o c f before in
        let stays = next_stays (places.Var v) (omega (arith, variable_small)) p b o f x t.action t.edge g at variable_small ((ac.fits b).steps i t reached here)
        (unset_leaves x t.action v (spoken_stay p ac.well_formed.valid b x m v at of (ac.well_formed.unassigned b x at) spoken c i t reached here)) is in
        stays.1 (holds_own o c f before kind)

  holds_this : (o : Origin) (c : List Todo) (f : Fact) → Reach p b (relation_of p b) o c f → o.kind ≡ kinds.ThisRef → has f.places places.This ≡ true
  holds_this o _ f (entered n is) kind = (entry_begun p m b x at of n o f is).2 kind
  holds_this o _ f (born i n t before here is) kind = absurd (let never : Some 0 ≡ None = sym (ap position_of kind) ∙ (step_elsewhere p b t.action t.edge t.pos n o f is).1 in cc)
  holds_this o _ g (flowed {k = c} {f = f} i t before here is) kind =
      let reached = comes p ac b x at o c f before in
      let stays = next_stays places.This (omega arith) p b o f x t.action t.edge g at tt ((ac.fits b).steps i t reached here) (this_leaves x t.action (this_stay p ac.well_formed.valid b x at c i t reached here)) is in
      stays.1 (holds_this o c f before kind)

  module _ (aliased : is_alias_constructor p b ≡ true)
      (no_resets : (c : List Todo) (i : ℕ) (t : Move (List Todo)) → Comes (relation_of p b) c → slice_get ((relation_of p b).next c) i ≡ Some t → is_reset_of_this p t.action ≡ false) where
    is_new : m.kind ≡ methods.Ctor
    is_new = constructor_kind m.kind (ap constructs (sym (ap (method_in p) at ∙ of)) ∙ (and_parts (is_constructor p b) (is_present (alias_position p b)) aliased).0)

    held_own : (o : Origin) (c : List Todo) (f : Fact) → Reach p b (relation_of p b) o c f → is_held f.mode ≡ true → is_origin_at o.kind (alias_position p b) ≡ true
    held_own o _ f (entered n is) mode = absurd (true≢false (sym mode ∙ (entry_begun p m b x at of n o f is).1 is_new))
    held_own o _ f (born {k = c} i n t before here is) mode = absurd (true≢false (sym mode ∙ (step_born p b m (Unit {0}) t.action (λ reset. absurd (true≢false (sym reset ∙ no_resets c i t before here))) t.edge t.pos n o f is).1 tt))
    held_own o _ g (flowed {k = c} {f = f} i t before here is) mode =
        let reached = comes p ac b x at o c f before in
        let stays = next_stays places.This (omega arith) p b o f x t.action t.edge g at tt ((ac.fits b).steps i t reached here)
        (this_leaves x t.action (this_stay p ac.well_formed.valid b x at c i t reached here)) is in
        elim (stays.0.1 aliased mode) [ inl was ↦ held_own o c f before was | inr own ↦ own ]

-- ---- the laws

pub parameter_stays : (p : Program) → Accept p → (b : BodyId) (x : Body) (m : Method) (v : ℕ) → body_at p b ≡ Some x → method_at p x.method ≡ Some m → is_spoken_variable m v ≡ true
    → (o : Origin) (k : List Todo) (f : Fact) → Reach p b (relation_of p b) o k f → is_origin_at o.kind (Some (v + 1)) ≡ true → has f.places (places.Var v) ≡ true
parameter_stays p ac b x m v at of spoken o k f reach origin = holds_own p ac b x m at of v spoken o k f reach (own_position v o.kind origin)

pub this_stays : (p : Program) → Accept p → (b : BodyId) (x : Body) (m : Method) → body_at p b ≡ Some x → method_at p x.method ≡ Some m
    → (o : Origin) (k : List Todo) (f : Fact) → Reach p b (relation_of p b) o k f → is_origin_at o.kind (Some 0) ≡ true → has f.places places.This ≡ true
this_stays p ac b x m at of o k f reach origin = holds_this p ac b x m at of o k f reach (zero_position o.kind origin)

pub held_is_argument : (p : Program) → Accept p → (b : BodyId) (x : Body) (m : Method) → body_at p b ≡ Some x → method_at p x.method ≡ Some m → is_alias_constructor p b ≡ true
    → ((c : List Todo) (i : ℕ) (t : Move (List Todo)) → Comes (relation_of p b) c → slice_get ((relation_of p b).next c) i ≡ Some t → is_reset_of_this p t.action ≡ false)
    → (o : Origin) (k : List Todo) (f : Fact) → Reach p b (relation_of p b) o k f → f.mode ≡ modes.Held → is_origin_at o.kind (alias_position p b) ≡ true
held_is_argument p ac b x m at of aliased no_resets o k f reach mode = held_own p ac b x m at of aliased no_resets o k f reach (ap is_held mode)
