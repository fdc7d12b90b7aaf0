-- Which of several methods or constructors a call means (JLS 15.12.2).
use Rattle.std.specs.Prelude.{Bool, false, ◌&&◌, Option, Some, None, List, [], ◌∷◌, filter, length, nat_eq, zip}
use Rattle.std.specs.List.{find, list_all}
use Rattle.std.specs.Option.{option_or}
use Rattle.program_model.specs.declared.kinds.MethodId.{MethodId}
use Rattle.program_model.specs.declared.kinds.VType.{VType}
use Rattle.program_model.specs.declared.program.Method.{Method}
use Rattle.program_model.specs.declared.program.ParamSig.{ParamSig}
use Rattle.program_model.specs.declared.program.Program.{Program}
use Rattle.program_model.specs.Lookups.{method_at}
use Rattle.java_conversions.specs.Conversions.{fits}
use Rattle.class_members.specs.Results.{is_result_under, throws_no_more}
use Rattle.java_overloads.specs.declared.choices.Choice.{Choice}
use Rattle.java_overloads.specs.declared.choices.Choice.TheVariants as choices

-- ---- applicable methods

-- each argument may be passed for its parameter in a strict invocation context (JLS 5.3)
abbrev pub each_fits : Program → List VType → List ParamSig → Bool
each_fits p arguments params = list_all (λ x. fits p x.0 x.1.vtype) (zip arguments params)

-- the method has as many parameters as there are arguments, and takes each
abbrev pub takes : Program → List VType → Option Method → Bool
takes p arguments None = false
takes p arguments (Some m) = nat_eq (length arguments) (length m.sig.params.items) && each_fits p arguments m.sig.params.items

-- those applicable by strict invocation (JLS 15.12.2.2)
abbrev pub applicable : Program → List MethodId → List VType → List MethodId
applicable p candidates arguments = filter (λ m. takes p arguments (method_at p m)) candidates

-- ---- the most specific method

-- each parameter's type is a subtype of that of the other method (JLS 4.10, 15.12.2.5)
abbrev pub each_narrower : Program → List ParamSig → List ParamSig → Bool
each_narrower p params others = list_all (λ x. fits p x.0.vtype x.1.vtype) (zip params others)

abbrev pub is_narrower : Program → Option Method → Option Method → Bool
is_narrower p (Some m) (Some n) = each_narrower p m.sig.params.items n.sig.params.items
is_narrower p _ _ = false

-- `m` is more specific than each of these
abbrev pub is_most_specific : Program → List MethodId → MethodId → Bool
is_most_specific p all m = list_all (λ n. is_narrower p (method_at p m) (method_at p n)) all

-- the most specific methods: of several all have one list of parameter types
abbrev pub most_specific : Program → List MethodId → List MethodId
most_specific p all = filter (is_most_specific p all) all

-- ---- several of one signature

abbrev pub gives_under : Program → Option Method → Option Method → Bool
gives_under p (Some m) (Some n) = is_result_under p m.sig.result n.sig.result
gives_under p _ _ = false

-- the result of `m` is under that of each of these
abbrev pub is_preferred : Program → List MethodId → MethodId → Bool
is_preferred p all m = list_all (λ n. gives_under p (method_at p m) (method_at p n)) all

abbrev pub throws_under : Program → Option Method → Option Method → Bool
throws_under p (Some m) (Some n) = throws_no_more p m n
throws_under p _ _ = false

-- `m` declares no checked exception that one of these does not
abbrev pub throws_least : Program → List MethodId → MethodId → Bool
throws_least p all m = list_all (λ n. throws_under p (method_at p m) (method_at p n)) all

-- the first of those preferred to all others whose throws clause is the least, as a call throws only what all of them declare;
-- where there is none, the first that is preferred (JLS 15.12.2.5)
abbrev pub preferred : Program → List MethodId → Option MethodId
preferred p all = option_or (find (λ m. is_preferred p all m && throws_least p all m) all) (find (is_preferred p all) all)

-- ---- the choice

abbrev pub choice_in : Option MethodId → Choice
choice_in None = choices.NotSpecific
choice_in (Some m) = choices.Chosen m

abbrev pub choice_among : Program → List MethodId → Choice
choice_among p [] = choices.NotApplicable
choice_among p (m ∷ ms) = choice_in (preferred p (most_specific p (m ∷ ms)))

-- what a call with arguments of these types means, of these methods or constructors
abbrev pub choice_of : Program → List MethodId → List VType → Choice
choice_of p candidates arguments = choice_among p (applicable p candidates arguments)
