-- The method that a call means is a member of the class, and takes the arguments.
use Rattle.std.proofs.Common.{◌≡◌, ◌∙◌, ℕ, suc, Bool, true, false, cond, Option, Some, None, List, [], ◌∷◌, Contains, length, nat_eq, refl, sym, subst, ap, eqb-true}
use Rattle.std.specs.Option.{IsSomeAnd}
use Rattle.std.proofs.lemmas.Bool.{and_parts}
use Rattle.rlc_base.specs.declared.place.Pos.{Pos}
use Rattle.rlc_base.specs.declared.code.Code.{Code}
use Rattle.rlc_base.specs.declared.code.Code.TheVariants as codes_of
use Rattle.program_model.specs.declared.kinds.ClassId.{ClassId}
use Rattle.program_model.specs.declared.kinds.MethodId.{MethodId}
use Rattle.program_model.specs.declared.kinds.MethodKind.{MethodKind}
use Rattle.program_model.specs.declared.kinds.MethodKind.TheVariants as methods
use Rattle.program_model.specs.declared.program.Program.{Program}
use Rattle.program_model.specs.declared.program.Class.{Class}
use Rattle.program_model.specs.declared.program.Method.{Method}
use Rattle.program_model.specs.Hierarchy.{IsUnder, itself}
use Rattle.program_model.specs.Lookups.{class_at, method_at}
use Rattle.program_model.specs.Overrides.{is_method_kind, methods_in, methods_of}
use Rattle.program_model.specs.SuperTests.{classes_above}
use Rattle.program_model.specs.Validity.{IsMethodOf}
use Rattle.class_members.specs.Members.{constructors_of, is_constructor_by, is_constructor_kind, is_named_by, methods_named}
use Rattle.class_members.proofs.Elements.{contains-none, contains-one, filter-among}
use Rattle.class_members.proofs.MemberLaws.{members_are_members}
use Rattle.java_overloads.specs.declared.choices.Choice.{Choice}
use Rattle.java_overloads.specs.declared.choices.Choice.TheVariants as choices
use Rattle.java_overloads.specs.Overloads.{choice_among, choice_in, is_most_specific, most_specific, preferred}
use Rattle.java_overloads.proofs.ChoiceLaws.{preferred_is_best}
use Rattle.java_typed_trees.specs.declared.facts.Answer.{Answer}
use Rattle.java_typed_trees.specs.declared.facts.Answer.TheVariants as answers
use Rattle.java_call_rules.specs.JavaMemberRulesCalls.{is_static_kind, is_static_method}
use Rattle.java_call_rules.specs.declared.overloads.MethodResolution.TheVariants as resolutions
use Rattle.java_call_rules.specs.Arguments.{applicable_to, argument_types, each_value_fits, takes_values}
use Rattle.java_call_rules.specs.Calls.{choice_for, by_resolution, of_method, resolution_in}
use Rattle.java_call_rules.specs.TypedParts.{Typing, have_types}
use Rattle.java_typing_laws.specs.TypingContexts.{HasTypedMembers}
use Rattle.java_typing_laws.proofs.Conversions.{no_test, none_is_some, same_in}
use Rattle.java_typing_laws.proofs.Members.{all_has}

-- ---- members

-- a method that is there, declared in `d` or above it
pub record IsMethodAbove (p : Program) (d : ClassId) (m : MethodId) : Type 0 where
  pub method : Method
  pub is : method_at p m ≡ Some method
  pub under : IsUnder p d method.class
  pub kind : is_method_kind method.kind ≡ true

listed_method : (p : Program) → HasTypedMembers p → (d : ClassId) (o : Option Class) (m : MethodId) → class_at p d ≡ o → Contains (methods_in o) m → IsMethodOf p d m
listed_method p members d None m at h = absurd (contains-none m h)
listed_method p members d (Some k) m at h = all_has (IsMethodOf p d) k.methods.items m (members.methods d k at) h

above_is_under : (p : Program) → HasTypedMembers p → (c d : ClassId) (o : Option Class) → class_at p c ≡ o → Contains (classes_above c o) d → IsUnder p c d
above_is_under p members c d None at h = subst (IsUnder p c) (contains-one c d h) (itself c)
above_is_under p members c d (Some k) at h = ((members.hierarchy.supers c k at).above.exact d).0 h

method_above : (p : Program) (from c d : ClassId) (name : List ℕ) (m : MethodId) (o : Option Method) → method_at p m ≡ o → IsUnder p c d → IsSomeAnd o (λ x. x.class ≡ d) → is_named_by from c name o ≡ true → IsMethodAbove p c m
method_above p from c d name m None at under own named = absurd own
method_above p from c d name m (Some x) at under own named = record { method = x; is = at; under = subst (IsUnder p c) (sym own) under; kind = (and_parts (is_method_kind x.kind) _ (and_parts _ _ named).0).0 }

pub named_method : (p : Program) → HasTypedMembers p → (from c : ClassId) (name : List ℕ) (m : MethodId) → Contains (methods_named p from c name) m → IsMethodAbove p c m
named_method p members from c name m h =
    let found = ((members_are_members p from c name m).0 h).is_kept.is_found in
    let d : ClassId = found.declared.0 in
    method_above p from c d name m (method_at p m) refl (above_is_under p members c d (class_at p c) refl found.declared.1) (listed_method p members d (class_at p d) m refl found.declared.2) found.named

-- a constructor that is there, of the class `c`, which is there too
pub record IsConstructorOf (p : Program) (c : ClassId) (m : MethodId) : Type 0 where
  pub method : Method
  pub is : method_at p m ≡ Some method
  pub own : method.class ≡ c
  pub kind : method.kind ≡ methods.Ctor
  pub class' : Class
  pub known : class_at p c ≡ Some class'

constructor_kind_law : (k : MethodKind) → is_constructor_kind k ≡ true → k ≡ methods.Ctor
constructor_kind_law methods.Instance h = no_test h
constructor_kind_law methods.Static h = no_test h
constructor_kind_law methods.Ctor h = refl
constructor_kind_law methods.Constant h = no_test h

constructor_here : (p : Program) (from c : ClassId) (m : MethodId) (o : Option Method) (k : Option Class) → method_at p m ≡ o → class_at p c ≡ k → Contains (methods_in k) m → IsSomeAnd o (λ x. x.class ≡ c) → is_constructor_by from c o ≡ true → IsConstructorOf p c m
constructor_here p from c m None k at known listed own test = absurd own
constructor_here p from c m (Some x) None at known listed own test = absurd (contains-none m listed)
constructor_here p from c m (Some x) (Some k) at known listed own test = record { method = x; is = at; own = own; kind = constructor_kind_law x.kind (and_parts (is_constructor_kind x.kind) _ test).0; class' = k; known = known }

pub constructor_law : (p : Program) → HasTypedMembers p → (from c : ClassId) (m : MethodId) → Contains (constructors_of p from c) m → IsConstructorOf p c m
constructor_law p members from c m h =
    let both = filter-among (λ n. is_constructor_by from c (method_at p n)) (methods_of p c) m h in
    constructor_here p from c m (method_at p m) (class_at p c) refl refl both.0 (listed_method p members c (class_at p c) m refl both.0) both.1

static_kind_law : (k : MethodKind) → is_static_kind k ≡ true → k ≡ methods.Static
static_kind_law methods.Instance h = no_test h
static_kind_law methods.Static h = refl
static_kind_law methods.Ctor h = no_test h
static_kind_law methods.Constant h = no_test h

instance_kind_law : (k : MethodKind) → is_method_kind k ≡ true → is_static_kind k ≡ false → k ≡ methods.Instance
instance_kind_law methods.Instance h g = refl
instance_kind_law methods.Static h g = no_test (sym g)
instance_kind_law methods.Ctor h g = no_test h
instance_kind_law methods.Constant h g = no_test h

pub static_method_law : (p : Program) (m : MethodId) (x : Method) → method_at p m ≡ Some x → is_static_method (method_at p m) ≡ true → x.kind ≡ methods.Static
static_method_law p m x at h = static_kind_law x.kind (sym (ap is_static_method at) ∙ h)

pub instance_method_law : (p : Program) (m : MethodId) (x : Method) → method_at p m ≡ Some x → is_method_kind x.kind ≡ true → is_static_method (method_at p m) ≡ false → x.kind ≡ methods.Instance
instance_method_law p m x at kind h = instance_kind_law x.kind kind (sym (ap is_static_method at) ∙ h)

-- ---- the choice among them

not_chosen : (m : MethodId) → choices.NotApplicable ≡ choices.Chosen m → ⊥
not_chosen m h = cc

not_specific : (m : MethodId) → choices.NotSpecific ≡ choices.Chosen m → ⊥
not_specific m h = cc

same_choice : (m n : MethodId) → choices.Chosen m ≡ choices.Chosen n → m ≡ n
same_choice m n h = cc

chosen_in : (o : Option MethodId) (m : MethodId) → choice_in o ≡ choices.Chosen m → o ≡ Some m
chosen_in None m h = absurd (not_specific m h)
chosen_in (Some n) m h = ap (λ (x : MethodId). let y : Option MethodId = Some x in y) (same_choice n m h)

chosen_among : (p : Program) (all : List MethodId) (m : MethodId) → choice_among p all ≡ choices.Chosen m → Contains all m
chosen_among p [] m h = absurd (not_chosen m h)
chosen_among p (x ∷ xs) m h =
    let all : List MethodId = x ∷ xs in
    let best = preferred_is_best p (most_specific p all) m (chosen_in (preferred p (most_specific p all)) m h) in
    (filter-among (is_most_specific p all) all m best.among).0

-- one of the candidates, which takes the arguments
pub record IsMeantMethod (p : Program) (candidates : List MethodId) (arguments : List Typing) (m : MethodId) : Type 0 where
  pub candidate : Contains candidates m
  pub typed : have_types arguments ≡ true
  pub taken : takes_values p (argument_types arguments) (method_at p m) ≡ true

meant_method : (p : Program) (candidates : List MethodId) (arguments : List Typing) (m : MethodId) → have_types arguments ≡ true → choice_for p candidates (argument_types arguments) ≡ choices.Chosen m → IsMeantMethod p candidates arguments m
meant_method p candidates arguments m typed h =
    let both = filter-among (λ n. takes_values p (argument_types arguments) (method_at p n)) candidates m (chosen_among p (applicable_to p candidates (argument_types arguments)) m h) in
    record { candidate = both.0; typed = typed; taken = both.1 }

by_choice : (P : Answer → Type 0) (p : Program) (place : Pos) (candidates : List MethodId) (arguments : List Typing) (rule : MethodId → Answer) → ((k : Code) → P (answers.Wrong k place)) → ((m : MethodId) → IsMeantMethod p candidates arguments m → P (rule m)) → have_types arguments ≡ true → (c : Choice) → choice_for p candidates (argument_types arguments) ≡ c → P (by_resolution (resolution_in place c) rule)
by_choice P p place candidates arguments rule g h typed choices.NotApplicable e = g codes_of.NoSuchMethod
by_choice P p place candidates arguments rule g h typed choices.NotSpecific e = g codes_of.Ambiguous
by_choice P p place candidates arguments rule g h typed (choices.Chosen m) e = h m (meant_method p candidates arguments m typed e)

by_types : (P : Answer → Type 0) (p : Program) (place : Pos) (candidates : List MethodId) (arguments : List Typing) (rule : MethodId → Answer) → P (answers.Silent place) → ((k : Code) → P (answers.Wrong k place)) → ((m : MethodId) → IsMeantMethod p candidates arguments m → P (rule m)) → (b : Bool) → have_types arguments ≡ b → P (by_resolution (cond b (resolution_in place (choice_for p candidates (argument_types arguments))) (resolutions.NoMethod (answers.Silent place))) rule)
by_types P p place candidates arguments rule silent g h true e = by_choice P p place candidates arguments rule g h e (choice_for p candidates (argument_types arguments)) refl
by_types P p place candidates arguments rule silent g h false e = silent

pub method_rule : (P : Answer → Type 0) (p : Program) (place : Pos) (candidates : List MethodId) (arguments : List Typing) (rule : MethodId → Answer) → P (answers.Silent place) → ((k : Code) → P (answers.Wrong k place)) → ((m : MethodId) → IsMeantMethod p candidates arguments m → P (rule m)) → P (of_method p place candidates arguments rule)
method_rule P p place candidates arguments rule silent g h = by_types P p place candidates arguments rule silent g h (have_types arguments) refl

types_length : (arguments : List Typing) → length (argument_types arguments) ≡ length arguments
types_length [] = refl
types_length (t ∷ ts) = ap (λ n. suc n) (types_length ts)

-- what the method takes
pub record TakesArguments (p : Program) (arguments : List Typing) (x : Method) : Type 0 where
  pub long : length arguments ≡ length x.sig.params.items
  pub fit : each_value_fits p (argument_types arguments) x.sig.params.items ≡ true

pub taken_law : (p : Program) (arguments : List Typing) (o : Option Method) (x : Method) → o ≡ Some x → takes_values p (argument_types arguments) o ≡ true → TakesArguments p arguments x
taken_law p arguments None x e h = absurd (none_is_some x e)
taken_law p arguments (Some y) x e h =
    let both = and_parts (nat_eq (length (argument_types arguments)) (length y.sig.params.items)) (each_value_fits p (argument_types arguments) y.sig.params.items) h in
    subst (λ z. TakesArguments p arguments z) (same_in y x e) (record { long = sym (types_length arguments) ∙ eqb-true (length (argument_types arguments)) (length y.sig.params.items) both.0; fit = both.1 })
