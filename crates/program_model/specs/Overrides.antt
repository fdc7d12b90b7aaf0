-- Which methods override which (JLS 8.4.8.1, 9.4.1), and which method an object of a class runs (JLS 15.12.4.4).
use Rattle.std.specs.Prelude.{ℕ, zero, suc, Bool, true, false, not, ◌&&◌, ◌||◌, nat_eq, Option, Some, None, List, [], ◌∷◌, ◌++◌, map, filter, length, slice_get, if◌then◌else◌}
use Rattle.std.specs.List.{list_any, list_all, flat_map}
use Rattle.std.specs.Str.{bytes_eq}
use Rattle.rlc_base.specs.declared.place.Pos.{Pos}
use Rattle.program_model.specs.declared.kinds.ClassId.{ClassId}
use Rattle.program_model.specs.declared.kinds.MethodId.{MethodId}
use Rattle.program_model.specs.declared.kinds.Primitive.{Primitive}
use Rattle.program_model.specs.declared.kinds.Primitive.TheVariants as primitives
use Rattle.program_model.specs.declared.kinds.ElementType.{ElementType}
use Rattle.program_model.specs.declared.kinds.ElementType.TheVariants as elements
use Rattle.program_model.specs.declared.kinds.VType.{VType}
use Rattle.program_model.specs.declared.kinds.VType.TheVariants as types
use Rattle.program_model.specs.declared.kinds.MethodKind.{MethodKind}
use Rattle.program_model.specs.declared.kinds.MethodKind.TheVariants as methods
use Rattle.program_model.specs.declared.program.Program.{Program}
use Rattle.program_model.specs.declared.program.Class.{Class}
use Rattle.program_model.specs.declared.program.Method.{Method}
use Rattle.program_model.specs.declared.program.ParamSig.{ParamSig}
use Rattle.program_model.specs.Lookups.{optional, class_at, method_at}
use Rattle.program_model.specs.SuperTests.{is_class, classes_above, is_under}

-- ---- equal types

abbrev pub primitive_number : Primitive → ℕ
primitive_number primitives.Boolean = 0
primitive_number primitives.Byte = 1
primitive_number primitives.Char = 2
primitive_number primitives.Int = 3
primitive_number primitives.Long = 4

abbrev pub element_number : ElementType → ℕ
element_number (elements.Primitive t) = primitive_number t
element_number elements.Str = 5

abbrev pub is_primitive : Primitive → VType → Bool
is_primitive t (types.Primitive u) = nat_eq (primitive_number t) (primitive_number u)
is_primitive t _ = false

abbrev pub is_text : VType → Bool
is_text types.Str = true
is_text _ = false

abbrev pub is_array_of : ElementType → VType → Bool
is_array_of t (types.Arr u) = nat_eq (element_number t) (element_number u)
is_array_of t _ = false

abbrev pub is_object_of : ClassId → VType → Bool
is_object_of c (types.Obj d) = is_class c d
is_object_of c _ = false

abbrev pub is_null_type : VType → Bool
is_null_type types.NullType = true
is_null_type _ = false

-- the two types are one
abbrev pub is_type : VType → VType → Bool
is_type (types.Primitive t) u = is_primitive t u
is_type types.Str u = is_text u
is_type (types.Arr t) u = is_array_of t u
is_type (types.Obj c) u = is_object_of c u
is_type types.NullType u = is_null_type u

abbrev pub are_types : List ParamSig → List ParamSig → Bool
are_types [] [] = true
are_types [] (y ∷ ys) = false
are_types (x ∷ xs) [] = false
are_types (x ∷ xs) (y ∷ ys) = is_type x.vtype y.vtype && are_types xs ys

-- ---- one name and one parameter list

abbrev pub is_static_kind : MethodKind → Bool
is_static_kind methods.Static = true
is_static_kind _ = false

-- a method, and no constructor or constant
abbrev pub is_method_kind : MethodKind → Bool
is_method_kind methods.Instance = true
is_method_kind methods.Static = true
is_method_kind methods.Ctor = false
is_method_kind methods.Constant = false

-- two methods of one name and one parameter list, neither private and not both static
abbrev pub are_alike : Method → Method → Bool
are_alike m n =
    is_method_kind m.kind && is_method_kind n.kind && not (is_static_kind m.kind && is_static_kind n.kind)
    && not m.is_private && not n.is_private && bytes_eq m.name n.name && are_types m.sig.params.items n.sig.params.items

abbrev pub is_alike_in : Method → Option Method → Bool
is_alike_in n None = false
is_alike_in n (Some m) = are_alike m n

abbrev pub is_alike : Program → Method → MethodId → Bool
is_alike p n m = is_alike_in n (method_at p m)

-- ---- the method that a class runs

abbrev pub methods_in : Option Class → List MethodId
methods_in None = []
methods_in (Some k) = k.methods.items

-- the methods that a class declares
abbrev pub methods_of : Program → ClassId → List MethodId
methods_of p c = methods_in (class_at p c)

abbrev pub super_in : Option Class → Option ClassId
super_in None = None
super_in (Some k) = k.sup

abbrev pub chain_behind : Option ClassId → (ClassId → List ClassId) → List ClassId
chain_behind None f = []
chain_behind (Some c) f = f c

-- a class and its super classes, nearest first, by no more than so many steps
abbrev pub chain_of : Program → ℕ → ClassId → List ClassId
chain_of p zero c = []
chain_of p (suc n) c = c ∷ chain_behind (super_in (class_at p c)) (chain_of p n)

-- a class and its super classes, nearest first
abbrev pub super_classes : Program → ClassId → List ClassId
super_classes p c = chain_of p (length p.classes.items) c

-- the methods alike to `n` that a class and its super classes declare, nearest first
abbrev pub inherited_methods : Program → Method → ClassId → List MethodId
inherited_methods p n c = filter (is_alike p n) (flat_map (methods_of p) (super_classes p c))

abbrev pub is_library_in : Option Class → Bool
is_library_in None = false
is_library_in (Some k) = k.library

abbrev pub is_library : Program → ClassId → Bool
is_library p c = is_library_in (class_at p c)

abbrev pub is_interface_in : Option Class → Bool
is_interface_in None = false
is_interface_in (Some k) = k.interface

abbrev pub is_interface : Program → ClassId → Bool
is_interface p c = is_interface_in (class_at p c)

abbrev pub is_abstract_in : Option Class → Bool
is_abstract_in None = false
is_abstract_in (Some k) = k.is_abstract

abbrev pub is_abstract : Program → ClassId → Bool
is_abstract p c = is_abstract_in (class_at p c)

-- a method of a class of a stub counts as having a body, whether it is abstract or not
abbrev pub has_code_in : Program → Option Method → Bool
has_code_in p None = false
has_code_in p (Some m) = not m.is_abstract || is_library p m.class

abbrev pub has_code : Program → MethodId → Bool
has_code p m = has_code_in p (method_at p m)

-- a class of a stub, no interface, that is under `d`
abbrev pub carries : Program → ClassId → ClassId → Bool
carries p d k = is_library p k && not (is_interface p k) && is_under p k d

-- the interface's methods count as having a body in the class: it is one of the stubs' classes under the interface, or
-- a class under such a one
abbrev pub is_carried : Program → ClassId → ClassId → Bool
is_carried p c d = is_library p d && is_interface p d && list_any (carries p d) (classes_above c (class_at p c))

-- the methods alike to `n` of interfaces of stubs that count as having a body in the class
abbrev pub carried_methods : Program → Method → ClassId → List MethodId
carried_methods p n c = filter (is_alike p n) (flat_map (methods_of p) (filter (is_carried p c) (classes_above c (class_at p c))))

abbrev pub class_in : Option Method → Option ClassId
class_in None = None
class_in (Some m) = Some m.class

abbrev pub are_under : Program → Option ClassId → Option ClassId → Bool
are_under p (Some c) (Some d) = is_under p c d
are_under p _ _ = false

-- the class that declares `m` is that of `o`, or no super type of it
abbrev pub is_no_higher : Program → MethodId → MethodId → Bool
is_no_higher p m o = are_under p (class_in (method_at p m)) (class_in (method_at p o)) || not (are_under p (class_in (method_at p o)) (class_in (method_at p m)))

-- of several the first that no other overrides
abbrev pub most_specific : Program → List MethodId → List MethodId
most_specific p ms = filter (λ m. list_all (is_no_higher p m) ms) ms

-- what runs, where the class and its super classes declare these
abbrev pub run_of : Program → List MethodId → List MethodId → Option MethodId
run_of p [] carried = slice_get (most_specific p carried) 0
run_of p (m ∷ ms) carried = if has_code p m then Some m else None

-- the method that an object of the class runs for `n`: the nearest that the class or a super class declares, where that
-- has a body, and else that of an interface of a stub which counts as having one
abbrev pub method_run : Program → Method → ClassId → Option MethodId
method_run p n c = run_of p (inherited_methods p n c) (carried_methods p n c)

-- ---- overriding

-- `by` overrides `overridden`; a refusal that speaks of it stands at `pos`
pub record Overriding : Type 0 where
  pub by : Method
  pub overridden : Method
  pub pos : Pos

-- the methods that are declared above a class
abbrev pub methods_above : Program → ClassId → List MethodId
methods_above p c = flat_map (methods_of p) (filter (λ d. not (is_class d c)) (classes_above c (class_at p c)))

abbrev pub override_at : Method → Option Method → List Overriding
override_at n None = []
override_at n (Some m) = record { by = m; overridden = n; pos = m.pos } ∷ []

-- the class declares a method alike to `n`, which is declared above it
abbrev pub declared_overrides : Program → ClassId → Method → List Overriding
declared_overrides p c n = flat_map (λ m. override_at n (method_at p m)) (filter (is_alike p n) (methods_of p c))

abbrev pub pos_in : Option Class → List Pos
pos_in None = []
pos_in (Some k) = k.pos ∷ []

-- the class does not declare `m`, and `n` is declared neither in the class of `m` nor above it
abbrev pub is_joined : Program → ClassId → Method → Method → Bool
is_joined p c m n = not (is_class m.class c) && not (is_under p m.class n.class)

abbrev pub joined_override : Program → ClassId → Method → Option Method → List Overriding
joined_override p c n None = []
joined_override p c n (Some m) = if is_joined p c m n then map (λ pos. record { by = m; overridden = n; pos = pos }) (pos_in (class_at p c)) else []

abbrev pub run_method : Program → Option MethodId → Option Method
run_method p None = None
run_method p (Some m) = method_at p m

-- a class that is not abstract runs a method that it does not declare, for one of a type beside that method's class
abbrev pub joined_overrides : Program → ClassId → Method → List Overriding
joined_overrides p c n = if is_abstract p c then [] else joined_override p c n (run_method p (method_run p n c))

abbrev pub overrides_of : Program → ClassId → Option Method → List Overriding
overrides_of p c None = []
overrides_of p c (Some n) = declared_overrides p c n ++ joined_overrides p c n

-- all overridings by what a class declares or runs
abbrev pub overrides_in : Program → ClassId → List Overriding
overrides_in p c = flat_map (λ n. overrides_of p c (method_at p n)) (methods_above p c)
