-- Where facts are born: at a body's entry, and by steps. Only class types other than String have births.
use Rattle.std.specs.Prelude.{ℕ, ◌+◌, Bool, true, false, ◌&&◌, not, Option, Some, None, List, [], ◌∷◌, ◌++◌, if◌then◌else◌}
use Rattle.std.specs.List.{filter_map}
use Rattle.std.specs.FinSet as set
use Rattle.rlc_base.specs.declared.place.Pos.{Pos}
use Rattle.program_model.specs.declared.kinds.BodyId.{BodyId}
use Rattle.program_model.specs.declared.kinds.ClassId.{ClassId}
use Rattle.program_model.specs.declared.kinds.FieldId.{FieldId}
use Rattle.program_model.specs.declared.kinds.MethodKind.{MethodKind}
use Rattle.program_model.specs.declared.kinds.MethodKind.TheVariants as methods
use Rattle.program_model.specs.declared.kinds.VType.{VType}
use Rattle.program_model.specs.declared.kinds.VType.TheVariants as types
use Rattle.program_model.specs.declared.program.Program.{Program}
use Rattle.program_model.specs.declared.program.Method.{Method}
use Rattle.program_model.specs.declared.program.Field.{Field}
use Rattle.program_model.specs.declared.program.Sig.{Sig}
use Rattle.program_model.specs.declared.program.ParamSig.{ParamSig}
use Rattle.program_model.specs.declared.tree.Body.{Body}
use Rattle.program_model.specs.declared.tree.Var.{Var}
use Rattle.program_model.specs.Lookups.{body_at, field_at, method_at, optional, variable_at}
use Rattle.control_actions.specs.PlaceNumbers.{number_of}
use Rattle.control_actions.specs.declared.action.Action.{Action}
use Rattle.control_actions.specs.declared.action.Action.TheVariants as actions
use Rattle.control_actions.specs.declared.action.Edge.{Edge}
use Rattle.control_actions.specs.declared.action.Edge.TheVariants as edges
use Rattle.control_actions.specs.declared.action.PlainValue.{PlainValue}
use Rattle.control_actions.specs.declared.action.PlainValue.TheVariants as plain
use Rattle.control_actions.specs.declared.fact.Fact.{Fact}
use Rattle.control_actions.specs.declared.fact.Mode.{Mode}
use Rattle.control_actions.specs.declared.fact.Mode.TheVariants as modes
use Rattle.control_actions.specs.declared.fact.Origin.{Origin}
use Rattle.control_actions.specs.declared.fact.OriginKind.{OriginKind}
use Rattle.control_actions.specs.declared.fact.OriginKind.TheVariants as kinds
use Rattle.control_actions.specs.declared.place.Place.{Place}
use Rattle.control_actions.specs.declared.place.Place.TheVariants as places
use Rattle.control_actions.specs.Calls.{is_reset_of_this}
use Rattle.control_actions.specs.Owned.{place_of_field}
use Rattle.must_call_sets.specs.MustCallSets.{Names, no_names, must_of, is_heavy_class}
use Rattle.must_call_sets.specs.Signatures.{field_type, is_position, is_present}
use Rattle.must_call_sets.specs.Bodies.{fields_of, has_field_place}
use Rattle.ownership_rules.specs.MovesAtReturns.{result_in}

-- an origin with its first fact
abbrev pub Birth : Type 0
Birth = Origin × Fact

-- What must be called first is all that must be called on the class, but where a signature bounds it.
abbrev pub origin_of : Program → OriginKind → Pos → ClassId → Option Names → Origin
origin_of p kind pos c None = record { kind = kind; pos = pos; class = c; first = must_of p c; full = must_of p c }
origin_of p kind pos c (Some first) = record { kind = kind; pos = pos; class = c; first = first; full = must_of p c }

-- the facts of births have origin 0 until they are numbered
abbrev pub fact_at : Place → Mode → Names → Bool → Fact
fact_at x mode called full = record { origin = 0; places = set.insert set.empty (number_of x); mode = mode; called = called; full = full }

abbrev pub class_in : VType → Option ClassId
class_in (types.Obj c) = Some c
class_in _ = None

-- the class of a class type other than String
abbrev pub class_of : Option VType → Option ClassId
class_of None = None
class_of (Some t) = class_in t

abbrev pub born_in : Program → OriginKind → Pos → Option ClassId → Option Names → Fact → Option Birth
born_in p kind pos None first f = None
born_in p kind pos (Some c) first f = Some (origin_of p kind pos c first, f)

-- a birth where the place has a class type
abbrev pub born : Program → OriginKind → Pos → Option VType → Option Names → Fact → Option Birth
born p kind pos t first f = born_in p kind pos (class_of t) first f

-- ---- at entry

-- Own where it is owning, Alias at the alias position, Lent where the method creates its obligation anew
abbrev pub parameter_mode : Sig → ℕ → ParamSig → Mode
parameter_mode s k x =
    if x.owning then modes.Own else (if is_position s.alias k then modes.Alias else (if is_position s.reset k then modes.Lent else modes.None))

-- the birth of the parameter of index k, in the variable of that number
abbrev pub parameter_birth : Program → Sig → ℕ → ParamSig → Option Var → Option Birth
parameter_birth p s k x None = None
parameter_birth p s k x (Some v) =
    born p (kinds.Param k) v.pos (Some x.vtype) None (fact_at (places.Var k) (parameter_mode s (k + 1) x) x.before true)

-- the births of the parameters from index k on
abbrev pub parameter_births : Program → Body → Sig → ℕ → List ParamSig → List Birth
parameter_births p b s k [] = []
parameter_births p b s k (x ∷ xs) = optional (parameter_birth p s k x (variable_at b k)) ++ parameter_births p b s (k + 1) xs

-- Lent where the method creates the obligation of `this` anew, Alias at the alias position
abbrev pub method_mode : Sig → Mode
method_mode s = if is_position s.reset 0 then modes.Lent else (if is_position s.alias 0 then modes.Alias else modes.None)

-- a constructor has its object lent
abbrev pub this_mode : Sig → MethodKind → Mode
this_mode s methods.Ctor = modes.Lent
this_mode s kind = method_mode s

abbrev pub has_this : MethodKind → Bool
has_this methods.Instance = true
has_this methods.Ctor = true
has_this methods.Static = false
has_this methods.Constant = false

-- a static method has no `this`
abbrev pub this_birth : Program → Method → Option Birth
this_birth p m =
    if has_this m.kind then born p kinds.ThisRef m.pos (Some (types.Obj m.class)) None (fact_at places.This (this_mode m.sig m.kind) no_names true)
    else None

-- at an entry the place is that of the field's declared name, and else that of the step
abbrev pub field_birth_place : Option Pos → Field → Pos
field_birth_place None x = x.pos
field_birth_place (Some pos) x = pos

abbrev pub owning_field_birth : Program → FieldId → Option Pos → Option Field → Option Birth
owning_field_birth p f pos None = None
owning_field_birth p f pos (Some x) =
    born p (kinds.FieldAt f) (field_birth_place pos x) (Some x.vtype) None (fact_at (place_of_field p f) modes.Held no_names true)

-- what an owning field of the body's class holds
abbrev pub field_birth : Program → BodyId → Option Pos → FieldId → Option Birth
field_birth p b pos f = if has_field_place p b f then owning_field_birth p f pos (field_at p f) else None

abbrev pub field_births : Program → BodyId → Option Pos → List Birth
field_births p b pos = filter_map (field_birth p b pos) (fields_of p b)

-- a constructor begins with nothing in its fields
abbrev pub held_births : Program → BodyId → MethodKind → List Birth
held_births p b methods.Instance = field_births p b None
held_births p b kind = []

abbrev pub entry_births_with : Program → BodyId → Body → Method → List Birth
entry_births_with p b x m = parameter_births p x m.sig 0 m.sig.params.items ++ (optional (this_birth p m) ++ held_births p b m.kind)

abbrev pub entry_births_of : Program → BodyId → Body → Option Method → List Birth
entry_births_of p b x None = []
entry_births_of p b x (Some m) = entry_births_with p b x m

abbrev pub entry_births_in : Program → BodyId → Option Body → List Birth
entry_births_in p b None = []
entry_births_in p b (Some x) = entry_births_of p b x (method_at p x.method)

-- the births at a body's entry: parameters, `this`, and the owning fields of an instance method's class
abbrev pub births_at_entry : Program → BodyId → List Birth
births_at_entry p b = entry_births_in p b (body_at p b)

-- ---- by steps

-- a new object with an obligation that is no alias
abbrev pub new_birth : Program → ℕ → Pos → Option Method → Option Birth
new_birth p d pos None = None
new_birth p d pos (Some m) =
    if is_heavy_class p m.class && not (is_present m.sig.alias)
    then born p kinds.New pos (Some (types.Obj m.class)) m.sig.first (fact_at (places.Temp d) modes.Own no_names false) else None

-- owned, or full and not owned
abbrev pub result_fact : ℕ → Bool → Fact
result_fact d true = fact_at (places.Temp d) modes.Own no_names false
result_fact d false = fact_at (places.Temp d) modes.None no_names true

-- the result of a call that gives no alias
abbrev pub result_birth : Program → ℕ → Pos → Option Method → Option Birth
result_birth p d pos None = None
result_birth p d pos (Some m) =
    if is_present m.sig.alias then None else born p kinds.Result pos m.sig.result m.sig.first (result_fact d m.sig.owning_result)

-- what a field holds is not owned by the frame that reads it
abbrev pub read_birth : Program → Place → Pos → Option VType → Option Birth
read_birth p x pos t = born p kinds.Read pos t None (fact_at x modes.None no_names true)

-- the static field of a stub that is read
abbrev pub constant_birth : Program → Place → Pos → PlainValue → Option Birth
constant_birth p x pos (plain.LibraryConstant m) = read_birth p x pos (result_in (method_at p m))
constant_birth p x pos _ = None

-- the value that a step gives as it goes on
abbrev pub birth_on_go : Program → Action → Pos → Option Birth
birth_on_go p (actions.New m d n) pos = new_birth p d pos (method_at p m)
birth_on_go p (actions.Call m d n form) pos = result_birth p d pos (method_at p m)
birth_on_go p (actions.Get f d through_this) pos = read_birth p (places.Temp d) pos (field_type p f)
birth_on_go p (actions.Plain x v) pos = constant_birth p x pos v
birth_on_go p a pos = None

abbrev pub birth_on : Program → Action → Edge → Pos → Option Birth
birth_on p a edges.Go pos = birth_on_go p a pos
birth_on p a e pos = None

-- a call that creates the obligation of `this` anew bears its owning fields again, however it ends
abbrev pub reset_births : Program → BodyId → Action → Pos → List Birth
reset_births p b a pos = if is_reset_of_this p a then field_births p b (Some pos) else []

-- the births of a step, in their order
abbrev pub births_of_step : Program → BodyId → Action → Edge → Pos → List Birth
births_of_step p b a e pos = optional (birth_on p a e pos) ++ reset_births p b a pos
