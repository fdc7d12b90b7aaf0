-- What the stubs of the library may not say of `String`. No body owns a text, so nobody would call what an object of class `String` asks for,
-- nor what the resource asks for that such an object stands for (Checker Framework manual, Resource Leak Checker, "Resource aliasing"); and what may
-- be a text is told by its type, which is `String` or `Object`.
use Rattle.std.specs.Prelude.{ℕ, zero, Bool, true, false, not, ◌&&◌, ◌||◌, Option, Some, None, List, []}
use Rattle.std.specs.List.{list_any}
use Rattle.rlc_base.specs.declared.code.Code.TheVariants as refused
use Rattle.rlc_base.specs.declared.faults.Refusal.{Refusal}
use Rattle.program_model.specs.declared.kinds.ClassId.{ClassId}
use Rattle.program_model.specs.declared.program.Class.{Class}
use Rattle.program_model.specs.declared.program.Method.{Method}
use Rattle.program_model.specs.declared.program.Program.{Program}
use Rattle.program_model.specs.Lookups.{class_at}
use Rattle.program_model.specs.SuperTests.{is_class}
use Rattle.must_call_sets.specs.Bodies.{is_constructor_kind}
use Rattle.must_call_sets.specs.MustCallSets.{is_heavy_class}
use Rattle.must_call_sets.specs.Signatures.{is_present}
use Rattle.refusal_order.specs.Refusals.{where_true}

-- a constructor of `String` that makes an alias of an argument
abbrev pub makes_alias_text : Program → Method → Bool
makes_alias_text p m = is_constructor_kind m.kind && is_class m.class p.core.string && is_present m.sig.alias

-- the position is the receiver
abbrev pub is_receiver : Option ℕ → Bool
is_receiver (Some zero) = true
is_receiver k = false

-- a method of `String` that creates the obligation of its text anew
abbrev pub renews_own_text : Program → Method → Bool
renews_own_text p m = is_class m.class p.core.string && is_receiver m.sig.reset

-- a class or interface that is neither `String` nor `Object`
abbrev pub is_no_text_class : Program → ClassId → Bool
is_no_text_class p c = not (is_class c p.core.string || is_class c p.core.object)

-- `String`, or a class or interface above it, has an obligation, or is another one than `Object`
abbrev pub has_bad_classes : Program → Class → Bool
has_bad_classes p string = list_any (is_heavy_class p) string.above.items || list_any (is_no_text_class p) string.above.items

-- objects of class `String` may be aliases, or a method of it creates their obligation anew
abbrev pub has_bad_methods : Program → Bool
has_bad_methods p = list_any (makes_alias_text p) p.methods.items || list_any (renews_own_text p) p.methods.items

abbrev pub text_cases_in : Program → Option Class → List Refusal
text_cases_in p None = []
text_cases_in p (Some string) = where_true (has_bad_classes p string || has_bad_methods p) refused.BadAlias string.pos

-- all cases: there is one at most, at the class `String`
abbrev pub text_cases : Program → List Refusal
text_cases p = text_cases_in p (class_at p p.core.string)
