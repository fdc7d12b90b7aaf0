-- Owning fields that are reached through `this`, which have a place of their own.
use Rattle.std.specs.Prelude.{ℕ, Bool, true, false, not, min, Option, Some, None, List, [], length, filter, take_while, nat_eq, if◌then◌else◌}
use Rattle.program_model.specs.declared.kinds.ExprId.{ExprId}
use Rattle.program_model.specs.declared.kinds.FieldId.{FieldId}
use Rattle.program_model.specs.declared.program.Program.{Program}
use Rattle.program_model.specs.declared.program.Class.{Class}
use Rattle.program_model.specs.declared.program.Field.{Field}
use Rattle.program_model.specs.declared.tree.Body.{Body}
use Rattle.program_model.specs.declared.tree.TExpr.{TExpr}
use Rattle.program_model.specs.declared.tree.ExpressionKind.{ExpressionKind}
use Rattle.program_model.specs.declared.tree.ExpressionKind.TheVariants as expressions
use Rattle.program_model.specs.declared.program.Method.{Method}
use Rattle.program_model.specs.Lookups.{class_at, field_at, method_at, expression_at}
use Rattle.program_model.specs.SuperTests.{is_class}
use Rattle.control_actions.specs.declared.place.Place.{Place}
use Rattle.control_actions.specs.declared.place.Place.TheVariants as places

abbrev pub is_owning_field : Option Field → Bool
is_owning_field None = false
is_owning_field (Some f) = f.owning

-- `@Owning` stands on the field
abbrev pub is_owning : Program → FieldId → Bool
is_owning p f = is_owning_field (field_at p f)

-- the owning fields that stand before `f` in a list of fields
abbrev pub owning_before : Program → FieldId → List FieldId → List FieldId
owning_before p f fields = filter (is_owning p) (take_while (λ g. not (nat_eq g.0 f.0)) fields)

abbrev pub fields_in : Option Class → List FieldId
fields_in None = []
fields_in (Some k) = k.fields.items

abbrev pub fields_beside : Program → Option Field → List FieldId
fields_beside p None = []
fields_beside p (Some x) = fields_in (class_at p x.class)

-- how many owning fields the class of a field declares before it; no class has so many that the bound is met
abbrev pub field_number : Program → FieldId → ℕ
field_number p f = min (length (owning_before p f (fields_beside p (field_at p f)))) 4294967295

-- the place of an owning field
abbrev pub place_of_field : Program → FieldId → Place
place_of_field p f = places.Field (field_number p f)

abbrev pub is_this_kind : ExpressionKind → Bool
is_this_kind (expressions.This written) = true
is_this_kind _ = false

abbrev pub is_this_node : Option TExpr → Bool
is_this_node None = false
is_this_node (Some x) = is_this_kind x.kind

-- the expression is `this`, written or implied
abbrev pub is_this : Body → ExprId → Bool
is_this b e = is_this_node (expression_at b e)

-- the class of the method is that which declares the field
abbrev pub is_beside : Option Field → Method → Bool
is_beside None m = false
is_beside (Some f) m = is_class m.class f.class

abbrev pub is_beside_method : Option Field → Option Method → Bool
is_beside_method f None = false
is_beside_method f (Some m) = is_beside f m

-- the body stands in the class that declares the field
abbrev pub declares_field : Program → Body → FieldId → Bool
declares_field p b f = is_beside_method (field_at p f) (method_at p b.method)

-- the field `f` of the value of `e` has a place of its own: it is an owning field of `this` that the body's class declares
abbrev pub has_place : Program → Body → ExprId → FieldId → Bool
has_place p b e f = if is_this b e then (if is_owning p f then declares_field p b f else false) else false
