-- Which owning fields may hold a text whose obligation some method may create anew. No rule of bodies follows a text. Where an owning field owns one, a call
-- that creates its obligation anew creates that of the field's object anew too (its contents may be open again), behind the back of whoever has closed
-- that one. (Of objects of other classes the rule on the shape of owning fields says so.)
use Rattle.std.specs.Prelude.{Bool, true, false, ◌&&◌, Option, Some, List}
use Rattle.std.specs.List.{flat_map, list_any}
use Rattle.rlc_base.specs.declared.code.Code.TheVariants as refused
use Rattle.rlc_base.specs.declared.faults.Refusal.{Refusal}
use Rattle.program_model.specs.declared.kinds.VType.{VType}
use Rattle.program_model.specs.declared.kinds.VType.TheVariants as types
use Rattle.program_model.specs.declared.program.Field.{Field}
use Rattle.program_model.specs.declared.program.Method.{Method}
use Rattle.program_model.specs.declared.program.Program.{Program}
use Rattle.program_model.specs.SuperTests.{is_under}
use Rattle.must_call_sets.specs.OwningCases.{type_at_some}
use Rattle.refusal_order.specs.Refusals.{where_true}

-- a text may stand where this is the type: it is `String`, or a class or interface above it
abbrev pub may_be_text : Program → Option VType → Bool
may_be_text p (Some types.Str) = true
may_be_text p (Some (types.Obj c)) = is_under p p.core.string c
may_be_text p t = false

-- the method creates anew the obligation of what may be a text
abbrev pub may_renew_text : Program → Method → Bool
may_renew_text p m = may_be_text p (type_at_some m.sig m.sig.reset)

-- the field may own a text, and some method may create its obligation anew
abbrev pub may_own_renewed_text : Program → Field → Bool
may_own_renewed_text p x = x.owning && (may_be_text p (Some x.vtype) && list_any (may_renew_text p) p.methods.items)

abbrev pub text_field_cases_in : Program → Field → List Refusal
text_field_cases_in p x = where_true (may_own_renewed_text p x) refused.OwningFieldShape x.pos

-- all cases
abbrev pub text_field_cases : Program → List Refusal
text_field_cases p = flat_map (text_field_cases_in p) p.fields.items
