-- Which overrides are refused: what a caller sees of the overridden signature must hold of the one that runs.
use Rattle.std.specs.Prelude.{ℕ, Bool, true, false, ◌&&◌, ◌||◌, not, nat_lt, List, length}
use Rattle.std.specs.List.{list_any, list_all, flat_map, zip}
use Rattle.std.specs.FinSet as set
use Rattle.rlc_base.specs.Names.{place_of}
use Rattle.rlc_base.specs.declared.code.Code.TheVariants as refused
use Rattle.rlc_base.specs.declared.faults.Refusal.{Refusal}
use Rattle.program_model.specs.declared.kinds.Target.{Target}
use Rattle.program_model.specs.declared.kinds.Target.TheVariants as promised
use Rattle.program_model.specs.declared.program.Program.{Program}
use Rattle.program_model.specs.declared.program.Method.{Method}
use Rattle.program_model.specs.declared.program.Sig.{Sig}
use Rattle.program_model.specs.declared.program.ParamSig.{ParamSig}
use Rattle.program_model.specs.declared.program.Promise.{Promise}
use Rattle.program_model.specs.Overrides.{Overriding, is_library}
use Rattle.must_call_sets.specs.MustCallSets.{Names, must_of, must_of_optional}
use Rattle.must_call_sets.specs.Signatures.{is_present, is_at, promised_names}
use Rattle.refusal_order.specs.Refusals.{where_true}
use Rattle.must_call_sets.specs.Overridings.{overridings}

abbrev pub differ : Bool → Bool → Bool
differ true b = not b
differ false b = b

-- some parameter has another owning mark
abbrev pub has_other_owning : List ParamSig → List ParamSig → Bool
has_other_owning xs ys = list_any (λ (x : ParamSig × ParamSig). differ x.0.owning x.1.owning) (zip xs ys)

-- the result has another owning mark
abbrev pub has_other_result : Sig → Sig → Bool
has_other_result m n = is_present m.result && differ m.owning_result n.owning_result

-- the promises give the promised names to its target, where that is no owning field
abbrev pub keeps_at : List Promise → Target → Names → Bool
keeps_at promises (promised.At k) names = set.is_subset names (promised_names (λ t. is_at t k) promises)
keeps_at promises (promised.OfField f) names = true

abbrev pub keeps : List Promise → Promise → Bool
keeps promises x = keeps_at promises x.target x.names

-- fewer promised names
abbrev pub promises_less : List Promise → List Promise → Bool
promises_less ms ns = not (list_all (keeps ms) ns)

-- some parameter asks for more called names
abbrev pub asks_for_more : List ParamSig → List ParamSig → Bool
asks_for_more xs ys = list_any (λ (x : ParamSig × ParamSig). not (set.is_subset x.0.before x.1.before)) (zip xs ys)

abbrev pub is_field_target : Target → Bool
is_field_target (promised.At k) = false
is_field_target (promised.OfField f) = true

abbrev pub promises_on_field : List Promise → Bool
promises_on_field promises = list_any (λ (x : Promise). is_field_target x.target) promises

-- the name is one of these, by its number in the table of names
abbrev pub is_one_of : Program → Names → List ℕ → Bool
is_one_of p names name = nat_lt (place_of p.names name) (length p.names) && set.contains names (place_of p.names name)

-- it promises on an owning field, and its name is not in the must-call set of its class
abbrev pub promises_beside_set : Program → Method → Bool
promises_beside_set p n = promises_on_field n.sig.promises.items && not (is_one_of p (must_of p n.class) n.name)

-- an owning result has more to be called than the overridden method's result
abbrev pub has_wider_result : Program → Sig → Sig → Bool
has_wider_result p m n = m.owning_result && not (set.is_subset (must_of_optional p m.result) (must_of_optional p n.result))

-- a program method overrides one whose fresh result has a set of its own
abbrev pub overrides_first_set : Program → Method → Method → Bool
overrides_first_set p m n = not (is_library p m.class) && is_present n.sig.first

abbrev pub is_bad_override : Program → Method → Method → Bool
is_bad_override p m n =
    has_other_owning m.sig.params.items n.sig.params.items
    || has_other_result m.sig n.sig
    || promises_less m.sig.promises.items n.sig.promises.items
    || promises_less m.sig.on_throw.items n.sig.on_throw.items
    || asks_for_more m.sig.params.items n.sig.params.items
    || promises_beside_set p n
    || promises_on_field n.sig.on_throw.items
    || has_wider_result p m.sig n.sig
    || overrides_first_set p m n

abbrev pub override_cases_of : Program → Overriding → List Refusal
override_cases_of p o = where_true (is_bad_override p o.by o.overridden) refused.BadOwningOverride o.pos

-- all cases
abbrev pub override_cases : Program → List Refusal
override_cases p = flat_map (override_cases_of p) (overridings p)
