-- A frame that runs a constructor with an aliased argument.
use Rattle.std.proofs.Common.{Bool, inr, inl, ◌≡◌, ℕ, zero, suc, ◌+◌, ◌<◌, ◌≤◌, true, false, true≢false, not, arith, Option, Some, None, List, [], ◌∷◌, length, slice_get, refl, sym, ap, ◌∙◌, subst, IsSomeAnd}
use Rattle.std.proofs.lemmas.Bool.{and_from}
use Rattle.program_model.specs.declared.kinds.BodyId.{BodyId}
use Rattle.program_model.specs.declared.kinds.ClassId.{ClassId}
use Rattle.program_model.specs.declared.kinds.MethodKind.{MethodKind}
use Rattle.program_model.specs.declared.kinds.MethodKind.TheVariants as methods
use Rattle.program_model.specs.declared.kinds.VType.{VType}
use Rattle.program_model.specs.declared.kinds.VType.TheVariants as types
use Rattle.program_model.specs.declared.program.Method.{Method}
use Rattle.program_model.specs.declared.program.ParamSig.{ParamSig}
use Rattle.program_model.specs.declared.program.Program.{Program}
use Rattle.program_model.specs.declared.program.Sig.{Sig}
use Rattle.program_model.specs.declared.tree.Var.{Var}
use Rattle.program_model.specs.Lookups.{method_at}
use Rattle.program_model.specs.Validity.{HasParameters, IfPosition, IsBodyOf, IsOfKind}
use Rattle.ledger_obligations.specs.Assigned.{is_spoken_variable}
use Rattle.ledger_obligations.specs.Bodies.{alias_in, alias_position, constructs, is_alias_constructor, is_constructor, is_constructor_kind}
use Rattle.ledger_obligations.specs.MustCallSets.{is_empty, is_heavy_class, must_of_optional}
use Rattle.ownership_rules.specs.Signatures.{is_present, type_at, type_in}
use Rattle.control_actions.specs.declared.fact.OriginKind.{OriginKind}
use Rattle.control_actions.specs.declared.place.Place.TheVariants as places
use Rattle.ownership_rules.specs.Facts.{is_origin_at}
use Rattle.ownership_rules.specs.Room.{variable_count, variables_in}
use Rattle.value_laws.specs.Paths.{Reach, relation_of}
use Rattle.covering_laws.proofs.SaidFacts.{said_by}
use Rattle.value_laws.specs.Accept.{Accept}
use Rattle.ledger_state.specs.Contents.{HeapContents}
use Rattle.ledger_state.specs.Heaps.{root_of}
use Rattle.ledger_state.specs.Locals.{variable_value}
use Rattle.ledger_state.specs.declared.object.Object.{Object}
use Rattle.value_laws.specs.Configuration.{Frame}
use Rattle.value_laws.specs.Choosing.{body_id}
use Rattle.value_laws.specs.Agreement.{Stands}
use Rattle.value_laws.specs.PlaceFacts.{Covers}
use Rattle.covering_laws.proofs.Following.{method_here, same_body}
use Rattle.value_laws.proofs.AliasFacts.{aliased_is_spoken, parameter_class}
use Rattle.value_laws.proofs.KeptFacts.{own_position, parameter_stays}
use Rattle.value_laws.proofs.AliasConducts.{argument_has_names}

-- what a list has at a number below its length
element_there : {X : Type 0} (xs : List X) (k : ℕ) → k < length xs → (x : X) × (slice_get xs k ≡ Some x)
element_there [] k inside = absurd (omega (arith, inside))
element_there (x ∷ xs) zero inside = (x, refl)
element_there (x ∷ xs) (suc k) inside = element_there xs k (omega (arith, inside))

parameters_fit : (vars : List Var) (params : List ParamSig) → HasParameters vars params → length params ≤ length vars
parameters_fit vars [] fit = omega arith
parameters_fit [] (x ∷ params) fit = absurd fit
parameters_fit (v ∷ vars) (x ∷ params) fit = let rest = parameters_fit vars params fit.1 in omega (arith, rest)

-- a type with an obligation is that of a class with one
heavy_by_type : (p : Program) (t : Option VType) (c : ClassId) → t ≡ Some (types.Obj c) → is_empty (must_of_optional p t) ≡ false → is_heavy_class p c ≡ true
heavy_by_type p t c is some = ap not (ap (λ (u : Option VType). is_empty (must_of_optional p u)) (sym is) ∙ some)

-- a constructor has no result
no_result : (k : MethodKind) (s : Sig) → is_constructor_kind k ≡ true → IsOfKind k s → s.result ≡ None
no_result methods.Ctor s is kind = kind
no_result methods.Instance s is kind = absurd (true≢false (sym is))
no_result methods.Static s is kind = absurd (true≢false (sym is))
no_result methods.Constant s is kind = absurd (true≢false (sym is))

module _ (p : Program) (ac : Accept p) (fr : Frame) (st : Stands p fr) (m : Method) (named : method_at p fr.method ≡ Some m) (v : ℕ) (makes : constructs (method_at p fr.method) ≡ true)
    (alias : alias_position p st.number ≡ Some (suc v)) where
  pub aliased : is_alias_constructor p st.number ≡ true
  aliased = and_from (is_constructor p st.number) (is_present (alias_position p st.number)) (ap constructs (method_here p fr st) ∙ makes) (ap is_present alias)

  pub in_body : method_at p st.body.method ≡ Some m
  in_body = ap (method_at p) st.method ∙ named

  pub position : m.sig.alias ≡ Some (suc v)
  position = ap alias_in (sym named) ∙ ap alias_in (sym (method_here p fr st)) ∙ alias

  pub gives_nothing : m.sig.result ≡ None
  gives_nothing = no_result m.kind m.sig (ap constructs (sym named) ∙ makes) (ac.well_formed.valid.typed.methods fr.method m named).kind

  inside : suc v ≤ length m.sig.params.items
  inside = subst (λ (a : Option ℕ). IfPosition m.sig a) position (ac.well_formed.valid.typed.methods fr.method m named).signature.alias

  pub spoken : is_spoken_variable m v ≡ true
  spoken = aliased_is_spoken m v position inside

  pub variable_small : v < 160
  variable_small =
      let few = (ac.fits st.number).room.variables in
      let count : variable_count p st.number ≡ length st.body.vars.items = ap variables_in st.at in
      let more = parameters_fit st.body.vars.items m.sig.params.items (subst (λ (z : Option Method). IsSomeAnd z (IsBodyOf st.number st.body)) in_body (ac.well_formed.valid.typed.bodies st.number st.body st.at).method).1 in
      omega (arith, few, count, more, inside)

  at_parameter : (kind : OriginKind) → is_origin_at kind (alias_position p st.number) ≡ true → is_origin_at kind (Some (v + 1)) ≡ true
  at_parameter kind is = ap (is_origin_at kind) (ap Some (let next : v + 1 ≡ suc v = omega arith in next) ∙ sym alias) ∙ is

  -- a fact of the aliased parameter
  module _ (h : HeapContents) (old : ℕ → Bool) (frs : List Frame) (o : ℕ) (x : Object) (c : Covers p h false false old frs fr o x) where
    pub reached : Reach p st.number (relation_of p st.number) c.origin fr.control c.fact
    reached = subst (λ (b : BodyId). Reach p b (relation_of p b) c.origin fr.control c.fact) (same_body c.body st.number (body_id p fr.method) c.id st.id) c.reached

    -- the parameter holds its object
    pub parameter_holds : is_origin_at c.origin.kind (alias_position p st.number) ≡ true → root_of h (variable_value fr.locals v) ≡ Some o
    parameter_holds is =
        c.places (said_by p frs fr c.fact (inr (inl makes))) (places.Var v) variable_small refl (parameter_stays p ac st.number st.body m v st.at in_body spoken c.origin fr.control c.fact reached (at_parameter c.origin.kind is))

    -- its class is that of the parameter's type
    pub type_here : is_origin_at c.origin.kind (Some (v + 1)) ≡ true → type_at m.sig (suc v) ≡ Some (types.Obj c.origin.class)
    type_here is =
        let param = element_there m.sig.params.items v (omega (arith, inside)) in
        ap type_in param.1 ∙ ap Some (parameter_class p ac st.number st.body m v param.0 st.at in_body param.1 c.origin fr.control c.fact reached (own_position v c.origin.kind is))

    pub heavy_here : is_origin_at c.origin.kind (Some (v + 1)) ≡ true → is_heavy_class p c.origin.class ≡ true
    heavy_here is = heavy_by_type p (type_at m.sig (suc v)) c.origin.class (type_here is) (argument_has_names p ac.well_formed fr.method m named (suc v) position)
