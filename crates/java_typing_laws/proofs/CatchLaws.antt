-- The parameter of a catch clause that is not refused has a type.
use Rattle.std.proofs.Common.{◌≡◌, ◌&&◌, Bool, true, false, cond, Option, Some, None, List, [], ◌∷◌, ◌++◌, refl, sym, subst, ap, ◌∙◌}
use Rattle.std.specs.Option.{is_some, option_map}
use Rattle.std.proofs.lemmas.Bool.{eqb-true}
use Rattle.rlc_base.specs.declared.place.Pos.{Pos}
use Rattle.program_model.specs.declared.kinds.ClassId.{ClassId}
use Rattle.program_model.specs.declared.kinds.VType.{VType}
use Rattle.program_model.specs.declared.kinds.VType.TheVariants as types
use Rattle.program_model.specs.declared.program.Program.{Program}
use Rattle.program_model.specs.SuperTests.{is_class, is_under}
use Rattle.java_syntax.specs.declared.names.Name.{Name}
use Rattle.java_conversions.specs.Conditionals.{least_of_classes, least_upper_bound}
use Rattle.java_conversions.specs.Types.{type_of_class}
use Rattle.java_call_rules.specs.WrittenTypes.{class_of_name, unknown_name_cases}
use Rattle.java_call_rules.specs.Surroundings.{Surroundings}
use Rattle.java_statement_parts.proofs.Goodness.{IsKnown, cons_is_nil, nil_left, nil_right}
use Rattle.java_statement_rules.specs.CatchClauses.{alternative_cases, alternatives_cases, are_apart, caught_class, caught_classes, each_alternative_cases, exception_cases, has_alternative, if_exception, is_exception_class, joined_class, joined_classes, parameter_type}
use Rattle.java_statement_rules.specs.StatementCases.{unless}
use Rattle.java_typing_laws.specs.CatchParameters.{HasCatchTypes}
use Rattle.java_typing_laws.proofs.Parts.{holds}

-- ---- one alternative

pub record IsException (p : Program) (c : Option ClassId) : Type 0 where
  pub class' : ClassId
  pub is : c ≡ Some class'
  pub exception : is_exception_class p class' ≡ true

exception_of : (p : Program) (c : Option ClassId) (place named : Pos) → unknown_name_cases (is_some c) named ++ exception_cases p place c ≡ [] → IsException p (if_exception p c)
exception_of p None place named none = absurd (cons_is_nil _ _ none)
exception_of p (Some c) place named none =
    let is = holds (is_exception_class p c) place (nil_right (unknown_name_cases true named) (exception_cases p place (Some c)) none) in
    record { class' = c; is = ap (λ b. cond b (Some c) None) is; exception = is }

caught : (s : Surroundings) (place : Pos) (n : Name) (ns : List Name) → each_alternative_cases s place (n ∷ ns) ≡ [] → IsException s.context.program (caught_class s n)
caught s place n ns none = exception_of s.context.program (class_of_name s n.text) place n.pos (nil_left (alternative_cases s place n) (each_alternative_cases s place ns) none)

-- ---- the least upper bound of the type of a class and another class

same_class : (c d : ClassId) → c.0 ≡ d.0 → c ≡ d
same_class c d same = λ i. record { 0 = same i }

joins_as : (p : Program) (c d : ClassId) (b : Bool) → (b ≡ true → c ≡ p.core.string) → least_upper_bound p (cond b types.Str (types.Obj c)) (types.Obj d) ≡ least_of_classes p (Some c) (Some d)
joins_as p c d true same = ap (λ x. least_of_classes p (Some x) (Some d)) (sym (same refl))
joins_as p c d false same = refl

type_joins : (p : Program) (c d : ClassId) → least_upper_bound p (type_of_class p c) (types.Obj d) ≡ least_of_classes p (Some c) (Some d)
type_joins p c d = joins_as p c d (is_class c p.core.string) (λ yes. same_class c p.core.string (eqb-true c.0 p.core.string.0 yes))

-- ---- all alternatives

joined : (s : Surroundings) → HasCatchTypes s.context.program → (place : Pos) (t : VType) (c : ClassId) → ((d : ClassId) → least_upper_bound s.context.program t (types.Obj d) ≡ least_of_classes s.context.program (Some c) (Some d)) → is_under s.context.program c s.context.program.core.object ≡ true → (names : List Name) → each_alternative_cases s place names ≡ [] → IsKnown (joined_classes s.context.program (Some t) (caught_classes s names))
joined s has place t c joins under [] none = record { vtype = t; is = refl }
joined s has place t c joins under (n ∷ ns) none =
    let p = s.context.program in
    let k = caught s place n ns none in
    let least = has.least c k.class' under (has.exceptions k.class' k.exception) in
    let is : joined_class p (Some t) (caught_class s n) ≡ Some (type_of_class p least.0) = ap (λ x. joined_class p (Some t) x) k.is ∙ joins k.class' ∙ ap (λ x. option_map (type_of_class p) x) least.1 in
    subst (λ u. IsKnown (joined_classes p u (caught_classes s ns))) (sym is) (joined s has place (type_of_class p least.0) least.0 (λ d. type_joins p least.0 d) least.2 ns (nil_right (alternative_cases s place n) (each_alternative_cases s place ns) none))

pub parameter_known : (s : Surroundings) → HasCatchTypes s.context.program → (place : Pos) (names : List Name) → alternatives_cases s place names ≡ [] → IsKnown (parameter_type s names)
parameter_known s has place [] none = absurd (cons_is_nil _ _ none)
parameter_known s has place (n ∷ ns) none =
    let each_none = nil_right (unless (has_alternative (n ∷ ns) && are_apart s (n ∷ ns)) place) (each_alternative_cases s place (n ∷ ns)) none in
    let k = caught s place n ns each_none in
    subst (λ u. IsKnown (joined_classes s.context.program (option_map types.Obj u) (caught_classes s ns))) (sym k.is) (joined s has place (types.Obj k.class') k.class' (λ d. refl) (has.exceptions k.class' k.exception) ns (nil_right (alternative_cases s place n) (each_alternative_cases s place ns) each_none))
