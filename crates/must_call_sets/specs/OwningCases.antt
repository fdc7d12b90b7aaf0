-- Which owning fields are refused (Checker Framework manual, Resource Leak Checker, "Owning fields").
use Rattle.std.specs.Prelude.{ℕ, Bool, true, false, ◌&&◌, ◌||◌, not, nat_eq, Option, Some, None, List, [], ◌++◌, map, length, if◌then◌else◌}
use Rattle.std.specs.List.{list_any, flat_map, range_with_len}
use Rattle.std.specs.FinSet as set
use Rattle.rlc_base.specs.declared.code.Code.TheVariants as refused
use Rattle.rlc_base.specs.declared.faults.Refusal.{Refusal}
use Rattle.program_model.specs.declared.kinds.ClassId.{ClassId}
use Rattle.program_model.specs.declared.kinds.FieldId.{FieldId}
use Rattle.program_model.specs.declared.kinds.ExprId.{ExprId}
use Rattle.program_model.specs.declared.kinds.VType.{VType}
use Rattle.program_model.specs.declared.kinds.VType.TheVariants as types
use Rattle.program_model.specs.declared.program.Class.{Class}
use Rattle.program_model.specs.declared.program.Program.{Program}
use Rattle.program_model.specs.declared.program.Method.{Method}
use Rattle.program_model.specs.declared.program.Field.{Field}
use Rattle.program_model.specs.declared.program.Sig.{Sig}
use Rattle.program_model.specs.declared.tree.Body.{Body}
use Rattle.program_model.specs.declared.tree.TExpr.{TExpr}
use Rattle.program_model.specs.declared.tree.AssignmentTarget.{AssignmentTarget}
use Rattle.program_model.specs.declared.tree.AssignmentTarget.TheVariants as targets
use Rattle.program_model.specs.declared.tree.ExpressionKind.{ExpressionKind}
use Rattle.program_model.specs.declared.tree.ExpressionKind.TheVariants as expressions
use Rattle.program_model.specs.Lookups.{method_at, field_at}
use Rattle.program_model.specs.Overrides.{methods_of}
use Rattle.program_model.specs.SuperTests.{has_class}
use Rattle.program_model.specs.Typing.{is_this, kind_at}
use Rattle.must_call_sets.specs.MustCallSets.{Names, no_names, must_of_type}
use Rattle.must_call_sets.specs.Signatures.{is_must_call_method, is_of_field, is_present, promised_names, type_at, when, names_of_all}
use Rattle.must_call_sets.specs.Bodies.{is_constructor_kind, is_extended, is_class_of}
use Rattle.refusal_order.specs.Refusals.{where_true}

-- all fields of a program
abbrev pub field_ids : Program → List FieldId
field_ids p = map (λ f. record { 0 = f }) (range_with_len 0 (length p.fields.items))

-- ---- its names are promised by the must-call methods of its class

abbrev pub finalized_by : Program → ClassId → FieldId → Option Method → Names
finalized_by p c f None = no_names
finalized_by p c f (Some m) = when (is_must_call_method p c m) (promised_names (λ t. is_of_field t f) m.sig.promises.items)

-- the names that the must-call methods which the class declares promise on the field
abbrev pub finalized : Program → ClassId → FieldId → Names
finalized p c f = names_of_all (λ m. finalized_by p c f (method_at p m)) (methods_of p c)

-- some name of the field's type has no must-call method that promises it
abbrev pub has_no_finalizer : Program → FieldId → Field → Bool
has_no_finalizer p f x = not (set.is_subset (must_of_type p x.vtype) (finalized p x.class f))

-- ---- its shape

-- a class or interface type, String among them
abbrev pub is_class_type : VType → Bool
is_class_type (types.Obj c) = true
is_class_type types.Str = true
is_class_type _ = false

-- `e.f` of the body's class, where `e` is no `this`, or of another class
abbrev pub is_foreign : Program → Body → FieldId → Field → ExprId → FieldId → Bool
is_foreign p b f x e g = nat_eq g.0 f.0 && not (is_this b e && is_class_of x.class (method_at p b.method))

abbrev pub is_foreign_target : Program → Body → FieldId → Field → AssignmentTarget → Bool
is_foreign_target p b f x (targets.Field e g) = is_foreign p b f x e g
is_foreign_target p b f x _ = false

abbrev pub is_foreign_place : Program → Body → FieldId → Field → Option ExpressionKind → Bool
is_foreign_place p b f x (Some (expressions.Field e g)) = is_foreign p b f x e g
is_foreign_place p b f x _ = false

-- the expression assigns the field other than through `this` in its class
abbrev pub assigns_from_outside : Program → Body → FieldId → Field → ExpressionKind → Bool
assigns_from_outside p b f x (expressions.Assignment t e) = is_foreign_target p b f x t
assigns_from_outside p b f x (expressions.OperatorAssignment a) = is_foreign_place p b f x (kind_at b a.target)
assigns_from_outside p b f x (expressions.PostfixStep a) = is_foreign_place p b f x (kind_at b a.target)
assigns_from_outside p b f x _ = false

abbrev pub is_assigned_in : Program → FieldId → Field → Body → Bool
is_assigned_in p f x b = list_any (λ (e : TExpr). assigns_from_outside p b f x e.kind) b.expressions.items

-- some body assigns the field other than through `this` in its class
abbrev pub is_assigned_from_outside : Program → FieldId → Field → Bool
is_assigned_from_outside p f x = list_any (is_assigned_in p f x) p.bodies.items

-- ---- an obligation that is created anew on what it holds, where no rule of bodies sees it
--
-- No rule of bodies follows an object whose class asks for no call. Where an owning field owns such an object, a call that
-- creates its obligation anew creates that of the field's object anew too (its contents may be open again), behind the back of
-- whoever has closed that one.

-- objects of the class are of the type
abbrev pub is_of_type : Class → Option VType → Bool
is_of_type k (Some (types.Obj d)) = has_class k.above.items d
is_of_type k _ = false

abbrev pub type_at_some : Sig → Option ℕ → Option VType
type_at_some s None = None
type_at_some s (Some k) = type_at s k

-- the type of what the method or constructor gives
abbrev pub given_type : Method → Option VType
given_type m = if is_constructor_kind m.kind then Some (types.Obj m.class) else m.sig.result

-- the method creates the obligation of objects of the class anew
abbrev pub resets_objects : Class → Method → Bool
resets_objects k m = is_of_type k (type_at_some m.sig m.sig.reset)

-- objects of the class may be what it gives as an alias, or what it gives an alias of
abbrev pub gives_as_alias : Class → Method → Bool
gives_as_alias k m = is_present m.sig.alias && is_of_type k (given_type m)

abbrev pub gives_alias_of : Class → Method → Bool
gives_alias_of k m = is_of_type k (type_at_some m.sig m.sig.alias)

abbrev pub is_reset_somewhere : Program → Class → Bool
is_reset_somewhere p k = list_any (resets_objects k) p.methods.items

-- objects of the class may be aliases whose obligation, which is that of another object, is created anew
abbrev pub is_reset_alias : Program → Class → Bool
is_reset_alias p k = list_any (gives_as_alias k) p.methods.items && is_reset_somewhere p k

abbrev pub resets_some_alias : Program → Bool
resets_some_alias p = list_any (is_reset_alias p) p.classes.items

-- some method may create the obligation of objects of the class anew, by themselves or through an alias
abbrev pub may_be_reset : Program → Class → Bool
may_be_reset p k = is_reset_somewhere p k || list_any (gives_alias_of k) p.methods.items && resets_some_alias p

-- some method or constructor gives an object of the type as an alias
abbrev pub is_alias_of_type : Program → VType → Class → Bool
is_alias_of_type p t k = is_of_type k (Some t) && list_any (gives_as_alias k) p.methods.items

abbrev pub has_alias : Program → VType → Bool
has_alias p t = list_any (is_alias_of_type p t) p.classes.items

-- a field of the type may hold objects of the class, by themselves or through an alias
abbrev pub may_be_held : Program → VType → Class → Bool
may_be_held p t k = is_of_type k (Some t) || list_any (gives_alias_of k) p.methods.items && has_alias p t

-- a class that asks for no call, whose objects a field of the type may hold, and whose obligation some method may create anew
abbrev pub is_unseen_reset : Program → VType → Class → Bool
is_unseen_reset p t k = set.is_subset k.must no_names && may_be_held p t k && may_be_reset p k

abbrev pub may_hold_unseen_reset : Program → VType → Bool
may_hold_unseen_reset p t = list_any (is_unseen_reset p t) p.classes.items

abbrev pub is_misshapen : Program → FieldId → Field → Bool
is_misshapen p f x =
    x.is_static || not x.is_private || not (is_class_type x.vtype) || is_assigned_from_outside p f x || is_extended p x.class
    || may_hold_unseen_reset p x.vtype

-- ---- the pass

abbrev pub owning_cases_of : Program → FieldId → Field → List Refusal
owning_cases_of p f x = where_true (has_no_finalizer p f x) refused.NoFinalizer x.pos ++ where_true (is_misshapen p f x) refused.OwningFieldShape x.pos

abbrev pub owning_cases_in : Program → FieldId → Option Field → List Refusal
owning_cases_in p f None = []
owning_cases_in p f (Some x) = if x.owning then owning_cases_of p f x else []

-- all cases
abbrev pub owning_cases : Program → List Refusal
owning_cases p = flat_map (λ f. owning_cases_in p f (field_at p f)) (field_ids p)
