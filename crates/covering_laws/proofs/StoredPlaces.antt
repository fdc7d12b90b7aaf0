-- Over a store into a field of a finished object, which is lent to the frame that stores, the places of frames below of which something is said hold what they held: a frame that runs on the same object lends it, or it
-- is one that says nothing of what the fields of its `this` hold.
use Rattle.std.specs.Prelude.{if◌then◌else◌}
use Rattle.std.proofs.Common.{◌≡◌, ◌⊎◌, inl, inr, ℕ, ◌+◌, ◌<◌, Bool, true, false, not, Option, Some, None, List, [], ◌∷◌, ◌++◌, slice_get, refl, sym, ap, ◌∙◌, subst, true≢false, eq-eqb}
use Rattle.std.proofs.lemmas.Option.{slice_get-get_or}
use Rattle.std.proofs.lemmas.Bool.{and_from}
use Rattle.rlc_base.proofs.SetLaws.{within_self}
use Rattle.program_model.specs.declared.kinds.BodyId.{BodyId}
use Rattle.program_model.specs.declared.kinds.ClassId.{ClassId}
use Rattle.program_model.specs.declared.kinds.FieldId.{FieldId}
use Rattle.program_model.specs.declared.kinds.MethodKind.{MethodKind}
use Rattle.program_model.specs.declared.kinds.MethodKind.TheVariants as methods
use Rattle.program_model.specs.declared.kinds.VType.{VType}
use Rattle.program_model.specs.declared.kinds.VType.TheVariants as types
use Rattle.program_model.specs.declared.program.Class.{Class}
use Rattle.program_model.specs.declared.program.Field.{Field}
use Rattle.program_model.specs.declared.program.Method.{Method}
use Rattle.program_model.specs.declared.program.ParamSig.{ParamSig}
use Rattle.program_model.specs.declared.program.Program.{Program}
use Rattle.program_model.specs.declared.tree.Body.{Body}
use Rattle.program_model.specs.declared.tree.Var.{Var}
use Rattle.program_model.specs.Lookups.{body_at, field_at, method_at, optional, variable_at}
use Rattle.program_model.specs.Overrides.{is_library}
use Rattle.program_model.specs.SuperTests.{is_class}
use Rattle.java_control.specs.Remaining.{Todo}
use Rattle.control_actions.specs.declared.fact.Fact.{Fact}
use Rattle.control_actions.specs.declared.fact.Origin.{Origin}
use Rattle.control_actions.specs.declared.fact.OriginKind.TheVariants as kinds
use Rattle.control_actions.specs.declared.place.Place.TheVariants as places
use Rattle.ledger_obligations.specs.Bodies.{constructs, fields_in, fields_of, fields_of_method, has_field_place, is_constructor, is_constructor_kind, is_field_in, method_of, reset_in, resets_this}
use Rattle.ledger_obligations.specs.MustCallSets.{fits_type, is_empty, is_heavy_class, must_of, must_of_optional, no_names}
use Rattle.ownership_rules.specs.Births.{Birth, births_at_entry, entry_births_in, entry_births_of, fact_at, has_this, held_births, origin_of, parameter_birth, parameter_births, parameter_mode, this_birth, this_mode}
use Rattle.ownership_rules.specs.Facts.{has, position_of}
use Rattle.ownership_rules.specs.Signatures.{field_type, is_position, type_of_field}
use Rattle.ledger_state.specs.Contents.{HeapContents}
use Rattle.ledger_state.specs.Heaps.{object_at, root_of}
use Rattle.ledger_state.specs.declared.entry.Owner.{Owner}
use Rattle.ledger_state.specs.declared.object.Object.{Object}
use Rattle.value_laws.specs.Accept.{Accept}
use Rattle.value_laws.specs.Agreement.{Stands}
use Rattle.value_laws.specs.Choosing.{body_id}
use Rattle.value_laws.specs.Configuration.{Frame}
use Rattle.value_laws.specs.Paths.{Reach, born, entered, flowed, relation_of}
use Rattle.value_laws.specs.PlaceFacts.{Covers, IsCovered, OwesOrHolds, is_heavy_in, is_settled}
use Rattle.value_laws.specs.Places.{owning_field_beside, place_value}
use Rattle.value_laws.specs.PlainForms.{HasPlainForms}
use Rattle.value_laws.specs.Renewing.{is_of_heavy_class, reopens}
use Rattle.value_laws.proofs.EntryFacts.{IsElsewhere, born_so, fields_elsewhere, kind_is, step_elsewhere}
use Rattle.value_laws.proofs.FactOrigins.{this_own}
use Rattle.value_laws.proofs.FieldPlaces.{IsBeside, place_of_beside}
use Rattle.value_laws.proofs.ParameterBirths.{AllBirths, OnBirth, birth_at, births_both, listed}
use Rattle.covering_laws.proofs.Bodies.{running_method}
use Rattle.covering_laws.proofs.FieldsFollowed.{HasFieldFact, field_is_followed}
use Rattle.covering_laws.proofs.Following.{method_here, same_body}
use Rattle.covering_laws.proofs.HeavyFields.{covered_at}
use Rattle.covering_laws.proofs.IdlePlaces.{held_is_idle, idle_unowned}
use Rattle.covering_laws.proofs.Waiting.{IsIdlePlace}
use Rattle.covering_laws.proofs.WaitingTargets.{this_kind}

-- ---- a method whose `this` is in a fact has one

module _ (p : Program) (b : BodyId) (x : Body) (m : Method) (at : body_at p b ≡ Some x) (of : method_at p x.method ≡ Some m) where
  abbrev HasThis : Birth → Type 0
  HasThis birth = (birth.0).kind ≡ kinds.ThisRef → has_this m.kind ≡ true

  parameter_other : (k : ℕ) (q : ParamSig) → OnBirth HasThis (parameter_birth p m.sig k q (variable_at x k))
  parameter_other k q = go (variable_at x k)
    where
      go : (v : Option Var) → OnBirth HasThis (parameter_birth p m.sig k q v)
      go None = tt
      go (Some v) = born_so HasThis p (kinds.Param k) v.pos (Some q.vtype) None (fact_at (places.Var k) (parameter_mode m.sig (k + 1) q) q.before true)
          (λ c class this. absurd (let never : kinds.Param k ≡ kinds.ThisRef = sym (kind_is p (kinds.Param k) v.pos c None) ∙ this in cc))

  parameters_other : (k : ℕ) (qs : List ParamSig) → AllBirths HasThis (parameter_births p x m.sig k qs)
  parameters_other k [] = tt
  parameters_other k (q ∷ qs) =
      births_both HasThis (optional (parameter_birth p m.sig k q (variable_at x k))) (parameter_births p x m.sig (k + 1) qs)
      (listed HasThis (parameter_birth p m.sig k q (variable_at x k)) (parameter_other k q)) (parameters_other (k + 1) qs)

  this_has : OnBirth HasThis (this_birth p m)
  this_has = go (has_this m.kind) refl
    where
      go : (y : Bool) → has_this m.kind ≡ y → OnBirth HasThis (if y then Some (origin_of p kinds.ThisRef m.pos m.class None, fact_at places.This (this_mode m.sig m.kind) no_names true) else None)
      go true has' = λ this. has'
      go false none = tt

  all_other : (xs : List Birth) → AllBirths IsElsewhere xs → AllBirths HasThis xs
  all_other [] all = tt
  all_other (y ∷ xs) all = ((λ this. absurd (let never : Some 0 ≡ None = sym (ap position_of this) ∙ (all.0).1 in cc)), all_other xs all.1)

  held_other : (kind : MethodKind) → AllBirths HasThis (held_births p b kind)
  held_other methods.Ctor = tt
  held_other methods.Instance = all_other (held_births p b methods.Instance) (fields_elsewhere p b None (fields_of p b))
  held_other methods.Static = tt
  held_other methods.Constant = tt

  pub this_on_paths : (o : Origin) (k : List Todo) (f : Fact) → Reach p b (relation_of p b) o k f → o.kind ≡ kinds.ThisRef → has_this m.kind ≡ true
  this_on_paths o _ f (entered n is) this = birth_at HasThis (births_at_entry p b) n (o, f) all is this
    where
      all : AllBirths HasThis (births_at_entry p b)
      all = subst (λ (y : Option Body). AllBirths HasThis (entry_births_in p b y)) (sym at) (subst (λ (y : Option Method). AllBirths HasThis (entry_births_of p b x y)) (sym of)
          (births_both HasThis (parameter_births p x m.sig 0 m.sig.params.items) (optional (this_birth p m) ++ held_births p b m.kind) (parameters_other 0 m.sig.params.items)
          (births_both HasThis (optional (this_birth p m)) (held_births p b m.kind) (listed HasThis (this_birth p m) this_has) (held_other m.kind))))
  this_on_paths o _ f (born i n t before here is) this = absurd (let never : Some 0 ≡ None = sym (ap position_of this) ∙ (step_elsewhere p b t.action t.edge t.pos n o f is).1 in cc)
  this_on_paths o _ g (flowed {k} {f} i t before here is) this = this_on_paths o k f before this

-- ---- a frame that runs on the object

-- its method is an instance method
instance_of : (kind : MethodKind) → is_constructor_kind kind ≡ false → has_this kind ≡ true → kind ≡ methods.Instance
instance_of methods.Ctor makes has' = absurd (true≢false makes)
instance_of methods.Instance makes has' = refl
instance_of methods.Static makes has' = absurd (true≢false (sym has'))
instance_of methods.Constant makes has' = absurd (true≢false (sym has'))

-- The frame `fr` runs on object `w`, of a class with an obligation, runs no constructor, creates nothing of `this` anew, and is not settled. In the heap `k` its places of fields are such that nothing is said of them.
module _ (p : Program) (ac : Accept p) (forms : HasPlainForms p) (h k : HeapContents) (frs : List Frame) (fr : Frame) (st : Stands p fr) (plain : constructs (method_at p fr.method) ≡ false) (closed : reopens (method_at p fr.method) ≡ false)
    (heavy : is_of_heavy_class p (method_at p fr.method) ≡ true) (unsettled : is_settled p fr frs ≡ false) (gives : ℕ → ClassId → Bool) (renewed : ℕ → Owner → Bool) (old : ℕ → Bool) (covered : IsCovered p h gives renewed old frs fr)
    (r : ℕ) (z : Object) (root : root_of h fr.locals.this ≡ Some r) (at : object_at h r ≡ Some z) (wide : is_heavy_class p z.class ≡ true) (owes : OwesOrHolds p h r z) where
  run : (m : Method) × (method_at p fr.method ≡ Some m) × (is_library p m.class ≡ false)
  run = running_method p ac fr st

  of_body : method_at p st.body.method ≡ Some run.0
  of_body = ap (method_at p) st.method ∙ run.1

  this_covers : (c : Covers p h (gives r z.class) (renewed r z.owner) old frs fr r z) × (has c.fact.places places.This ≡ true)
  this_covers = covered_at p h (gives r z.class) (renewed r z.owner) old frs fr places.This r z (covered places.This r z tt refl root at wide owes)

  reached : Reach p st.number (relation_of p st.number) this_covers.0.origin fr.control this_covers.0.fact
  reached = subst (λ (b : BodyId). Reach p b (relation_of p b) this_covers.0.origin fr.control this_covers.0.fact) (same_body this_covers.0.body st.number (body_id p fr.method) this_covers.0.id st.id) this_covers.0.reached

  kind : this_covers.0.origin.kind ≡ kinds.ThisRef
  kind = this_kind this_covers.0.origin.kind (this_own p ac st.number st.body st.at this_covers.0.origin fr.control this_covers.0.fact reached this_covers.1)

  instance : run.0.kind ≡ methods.Instance
  instance = instance_of run.0.kind (sym (ap constructs run.1) ∙ plain) (this_on_paths p st.number st.body run.0 st.at of_body this_covers.0.origin fr.control this_covers.0.fact reached kind)

  stores_not : (is_constructor p st.number ≡ true) ⊎ (resets_this p st.number ≡ true) → ⊥
  stores_not (inl makes) = true≢false (sym makes ∙ ap constructs (method_here p fr st) ∙ plain)
  stores_not (inr resets) =
      true≢false (sym (and_from (not (constructs (method_at p fr.method))) (is_position (reset_in (method_at p fr.method)) 0) (ap not plain) (ap (λ (m : Option Method). is_position (reset_in m) 0) (sym (method_here p fr st)) ∙ resets)) ∙ closed)

  module _ (n : ℕ) (small : n < 16) (f : FieldId) (beside : owning_field_beside p fr.method n ≡ Some f)
      (typed : (x : Field) → field_at p f ≡ Some x → (o : ℕ) (y : Object) → root_of k (place_value p k fr.method fr.locals (places.Field n)) ≡ Some o → object_at k o ≡ Some y → is_heavy_class p y.class ≡ true → (c : ClassId) × (x.vtype ≡ types.Obj c)) where
    abbrev its : IsBeside p run.0 n f
    its = place_of_beside p ac.well_formed.valid.typed fr.method run.0 n f run.1 small beside

    own_body : method_of p st.number ≡ Some run.0
    own_body = method_here p fr st ∙ run.1

    has_place : has_field_place p st.number f ≡ true
    has_place = ap (is_field_in p st.number) its.at ∙ rw (its.owning, own_body) (ap (is_class its.field.class) (sym its.class) ∙ eq-eqb its.field.class.0 its.field.class.0 refl)

    field_listed : slice_get (fields_of p st.number) its.among'.0 ≡ Some f
    field_listed =
        ap (λ (m : Option Method). slice_get (fields_of_method p m) its.among'.0) own_body ∙ ap (λ (k' : Option Class). slice_get (fields_in k') its.among'.0) its.there
        ∙ slice_get-get_or its.holder.fields.items its.among'.0 f its.among'.1 ∙ ap Some its.among'.2

    followed_here : (c : ClassId) → its.field.vtype ≡ types.Obj c → HasFieldFact p st.number f c (places.Field n) fr.control
    followed_here c type =
        field_is_followed p ac forms st.number st.body run.0 st.at of_body instance stores_not its.among'.0 f its.field c field_listed has_place its.at type n (ap places.Field its.number) small
        this_covers.0.origin fr.control this_covers.0.fact reached kind

    pub idle_here : IsIdlePlace p k frs fr (places.Field n)
    idle_here = record {
      aside = refl;
      plain = plain;
      closed = closed;
      idle = held_is_idle p frs fr plain closed heavy unsettled;
      keyed = λ old' away anew o y root' at' wide'. (let type = typed its.field its.at o y root' at' wide' in
          idle_unowned p frs fr plain closed heavy unsettled f type.0 n small st.number st.id beside (fits_own type.0 type.1) (heavy_own type.0 type.1) (followed_here type.0 type.1) k old' away anew o y);
    }
      where
        type_is : (c : ClassId) → its.field.vtype ≡ types.Obj c → field_type p f ≡ Some (types.Obj c)
        type_is c type = ap type_of_field its.at ∙ ap (λ (t : VType). Some t) type

        fits_own : (c : ClassId) → its.field.vtype ≡ types.Obj c → fits_type p c (field_type p f) ≡ true
        fits_own c type = ap (fits_type p c) (type_is c type) ∙ within_self (must_of p c)

        heavy_own : (c : ClassId) → its.field.vtype ≡ types.Obj c → is_heavy_in p (Some f) ≡ true → is_heavy_class p c ≡ true
        heavy_own c type is = sym (ap (λ (t : Option VType). not (is_empty (must_of_optional p t))) (type_is c type)) ∙ is
