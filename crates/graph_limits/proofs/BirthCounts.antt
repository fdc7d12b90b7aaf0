-- A body that has not too many places has few births, at its entry and by each step.
use Rattle.std.proofs.Common.{◌≡◌, ap, refl, arith, ℕ, ◌+◌, ◌-◌, ◌<◌, ◌≤◌, ◌^◌, Bool, true, false, Option, Some, None, List, [], ◌∷◌, ◌++◌, length, filter, length-append, if◌then◌else◌}
use Rattle.std.proofs.lemmas.Option.{slice_get_within}
use Rattle.rlc_base.specs.declared.place.Pos.{Pos}
use Rattle.program_model.specs.declared.kinds.BodyId.{BodyId}
use Rattle.program_model.specs.declared.kinds.FieldId.{FieldId}
use Rattle.program_model.specs.declared.kinds.MethodKind.{MethodKind}
use Rattle.program_model.specs.declared.kinds.MethodKind.TheVariants as methods
use Rattle.program_model.specs.declared.program.Method.{Method}
use Rattle.program_model.specs.declared.program.ParamSig.{ParamSig}
use Rattle.program_model.specs.declared.program.Program.{Program}
use Rattle.program_model.specs.declared.program.Sig.{Sig}
use Rattle.program_model.specs.declared.tree.Body.{Body}
use Rattle.program_model.specs.declared.tree.Var.{Var}
use Rattle.program_model.specs.Lookups.{body_at, field_at, method_at, optional, variable_at}
use Rattle.control_actions.specs.declared.action.Action.{Action}
use Rattle.control_actions.specs.declared.action.Edge.{Edge}
use Rattle.java_control.specs.Calls.{is_reset_of_this}
use Rattle.java_control.specs.Owned.{is_owning}
use Rattle.must_call_types.specs.Bodies as bodies
use Rattle.graph_relation.specs.Births.{Birth, birth_on, births_at_entry, births_of_step, entry_births_in, entry_births_of, field_birth, field_births, held_births, owning_field_birth, parameter_birth, parameter_births, reset_births, this_birth}
use Rattle.java_cfg.specs.Limits.{HasTooManyPlaces, owning_count, variables_in}
use Rattle.graph_limits.proofs.Counting.{given_few, length_chosen, length_optional}
use Rattle.graph_limits.proofs.FieldRooms.{class_fields, few_fields, few_variables, has_owned}

-- ---- owning fields

passed : (r : Bool) (o : Option Birth) (y : Birth) → (if r then o else None) ≡ Some y → r ≡ true
passed true o y h = refl
passed false o y h = absurd (let never : None ≡ Some y = h in cc)

field_births_few : (p : Program) (b : BodyId) (pos : Option Pos) → length (field_births p b pos) ≤ owning_count p b
field_births_few p b pos =
    let few = given_few (field_birth p b pos) (is_owning p)
    (λ f y gives. has_owned p b (field_at p f) (passed (bodies.has_field_place p b f) (owning_field_birth p f pos (field_at p f)) y gives))
    (bodies.fields_of p b) in
    let listed : length (filter (is_owning p) (bodies.fields_of p b)) ≡ owning_count p b = ap (λ (fs : List FieldId). length (filter (is_owning p) fs)) (class_fields p b) in
    omega (arith, few, listed)

-- ---- at entry

one_parameter : (p : Program) (s : Sig) (k n : ℕ) (y : ParamSig) (v : Option Var) (rest : List Birth) → ((w : Var) → v ≡ Some w → k < n) → length rest ≤ n - (k + 1)
    → length (optional (parameter_birth p s k y v) ++ rest) ≤ n - k
one_parameter p s k n y None rest inside few = omega (arith, few)
one_parameter p s k n y (Some w) rest inside few =
    let one = length_optional (parameter_birth p s k y (Some w)) in
    let both = length-append (optional (parameter_birth p s k y (Some w))) rest in
    let below : k < n = inside w refl in
    omega (arith, few, one, both, below)

-- a parameter without a variable has no birth
parameter_births_few : (p : Program) (x : Body) (s : Sig) (k : ℕ) (params : List ParamSig) → length (parameter_births p x s k params) ≤ length x.vars.items - k
parameter_births_few p x s k [] = omega arith
parameter_births_few p x s k (y ∷ params) =
    one_parameter p s k (length x.vars.items) y (variable_at x k) (parameter_births p x s (k + 1) params)
    (λ v at. slice_get_within x.vars.items k v at) (parameter_births_few p x s (k + 1) params)

held_births_few : (p : Program) (b : BodyId) (kind : MethodKind) → length (held_births p b kind) ≤ owning_count p b
held_births_few p b methods.Instance = field_births_few p b None
held_births_few p b methods.Ctor = omega arith
held_births_few p b methods.Static = omega arith
held_births_few p b methods.Constant = omega arith

entry_of_method : (p : Program) (b : BodyId) (x : Body) (o : Option Method) → length x.vars.items ≤ 160 → owning_count p b ≤ 16 → length (entry_births_of p b x o) ≤ 177
entry_of_method p b x None low few = omega arith
entry_of_method p b x (Some m) low few =
    let params = parameter_births_few p x m.sig 0 m.sig.params.items in
    let this = length_optional (this_birth p m) in
    let held = held_births_few p b m.kind in
    let later = length-append (optional (this_birth p m)) (held_births p b m.kind) in
    let all = length-append (parameter_births p x m.sig 0 m.sig.params.items) (optional (this_birth p m) ++ held_births p b m.kind) in
    omega (arith, low, few, params, this, held, later, all)

entry_of_body : (p : Program) (b : BodyId) (o : Option Body) → variables_in o ≤ 160 → owning_count p b ≤ 16 → length (entry_births_in p b o) ≤ 177
entry_of_body p b None low few = omega arith
entry_of_body p b (Some x) low few = entry_of_method p b x (method_at p x.method) low few

pub few_at_entry : (p : Program) (b : BodyId) → (HasTooManyPlaces p b → ⊥) → length (births_at_entry p b) < 2 ^ 32
few_at_entry p b fit = let few = entry_of_body p b (body_at p b) (few_variables p b fit) (few_fields p b fit) in omega (arith, few)

-- ---- by steps

pub few_by_step : (p : Program) (b : BodyId) (a : Action) (e : Edge) (pos : Pos) → (HasTooManyPlaces p b → ⊥) → length (births_of_step p b a e pos) < 2 ^ 32
few_by_step p b a e pos fit =
    let one = length_optional (birth_on p a e pos) in
    let chosen = length_chosen (is_reset_of_this p a) (field_births p b (Some pos)) in
    let held = field_births_few p b (Some pos) in
    let few = few_fields p b fit in
    let both = length-append (optional (birth_on p a e pos)) (reset_births p b a pos) in
    omega (arith, one, chosen, held, few, both)
