-- Methods of interest: instance methods without parameters, which are alike where the number of their names is one.
use Rattle.std.proofs.Common.{◌≡◌, ◌∙◌, inl, inr, ap, refl, sym, subst, eqb-true, true≢false, arith, ℕ, Bool, true, false, ◌&&◌, Some, None, List, [], ◌∷◌, ◌++◌, Contains, length}
use Rattle.std.specs.Prelude.{nat_eq, nat_lt, if◌then◌else◌}
use Rattle.std.specs.List.{flat_map, list_any}
use Rattle.std.specs.Str.{bytes_eq}
use Rattle.std.specs.FinSet as set
use Rattle.std.proofs.lemmas.Bool.{and_from, and_parts, or_left, or_right}
use Rattle.std.proofs.lemmas.Bool.Decides.{Decides-ltb}
use Rattle.rlc_base.specs.declared.code.Code.TheVariants as refused
use Rattle.rlc_base.specs.declared.name_id.NameId.{NameId}
use Rattle.rlc_base.specs.Names.{Holds, place_of}
use Rattle.rlc_base.proofs.TableLemmas.{one_number}
use Rattle.program_model.specs.declared.kinds.ClassId.{ClassId}
use Rattle.program_model.specs.declared.kinds.MethodId.{MethodId}
use Rattle.program_model.specs.declared.kinds.MethodKind.{MethodKind}
use Rattle.program_model.specs.declared.kinds.MethodKind.TheVariants as methods
use Rattle.program_model.specs.declared.program.Class.{Class}
use Rattle.program_model.specs.declared.program.Method.{Method}
use Rattle.program_model.specs.declared.program.ParamSig.{ParamSig}
use Rattle.program_model.specs.declared.program.Program.{Program}
use Rattle.program_model.specs.Lookups.{class_at, method_at}
use Rattle.program_model.specs.Overrides.{are_alike, are_types, is_method_kind, is_static_kind}
use Rattle.program_model.specs.SuperTests.{has_class}
use Rattle.agreement.proofs.Alike.{alike_from, alike_parts, text_itself}
use Rattle.annotation_rules.specs.AnnotationCases.{body_cases, class_cases, field_cases, is_needed, method_cases, place_cases, private_cases, value_cases}
use Rattle.agreement.specs.Bodies.{is_instance_kind}
use Rattle.annotation_rules.specs.WellFormed.{IsWellFormed, interest_of, is_plain}
use Rattle.agreement.proofs.Elements.{contains-cases, contains-none}
use Rattle.dispatch_laws.proofs.Lists.{contains_at, nil_left, nil_right, none_gathered, none_is_some, not_refused, some_is}
use Rattle.agreement.specs.Accept.{Accept}

-- ---- the name of interest

-- an instance method without parameters, whose name has this number
pub record IsOfInterest (p : Program) (m : Method) (i : NameId) : Type 0 where
  pub instance : m.kind ≡ methods.Instance
  pub bare : m.sig.params.items ≡ []
  pub held : Holds p.names m.name
  pub number : place_of p.names m.name ≡ i.0

instance_kind : (k : MethodKind) → is_instance_kind k ≡ true → k ≡ methods.Instance
instance_kind methods.Instance h = refl
instance_kind methods.Static h = absurd (true≢false (sym h))
instance_kind methods.Ctor h = absurd (true≢false (sym h))
instance_kind methods.Constant h = absurd (true≢false (sym h))

no_elements : (xs : List ParamSig) → length xs ≡ 0 → xs ≡ []
no_elements [] h = refl
no_elements (x ∷ xs) h = absurd (omega (arith, h))

numbered : (b : Bool) (k : ℕ) (i : NameId) → (if b then Some (record { 0 = k }) else None) ≡ Some i → (b ≡ true) × (k ≡ i.0)
numbered true k i h =
    let same : ◌≡◌ {A = NameId} (record { 0 = k }) i = some_is (record { 0 = k }) i h in
    (refl, ap (λ (z : NameId). z.0) same)
numbered false k i h = absurd (none_is_some i h)

pub of_interest : (p : Program) → IsWellFormed p → (m : MethodId) (x : Method) (i : NameId) → method_at p m ≡ Some x → x.sig.interest ≡ Some i → IsOfInterest p x i
of_interest p formed m x i at named =
    let is : interest_of p x ≡ Some i = sym (formed.interests m x at) ∙ named in
    let parts = numbered (is_plain x && nat_lt (place_of p.names x.name) (length p.names)) (place_of p.names x.name) i is in
    let both = and_parts (is_plain x) (nat_lt (place_of p.names x.name) (length p.names)) parts.0 in
    let plain = and_parts (is_instance_kind x.kind) (nat_eq (length x.sig.params.items) 0) both.0 in
    record {
      instance = instance_kind x.kind plain.0;
      bare = no_elements x.sig.params.items (eqb-true (length x.sig.params.items) 0 plain.1);
      held = (Decides-ltb (place_of p.names x.name) (length p.names)).0 both.1;
      number = parts.1;
    }

pub one_name : (p : Program) (x y : Method) (i : NameId) → IsOfInterest p x i → IsOfInterest p y i → x.name ≡ y.name
one_name p x y i first second = one_number p.names x.name y.name first.held (first.number ∙ sym second.number)

-- ---- such methods are alike

-- an instance method without parameters that is not private
pub record IsBare (m : Method) : Type 0 where
  pub instance : m.kind ≡ methods.Instance
  pub bare : m.sig.params.items ≡ []
  pub private : m.is_private ≡ false

and_false : (b : Bool) → (b && false) ≡ false
and_false true = refl
and_false false = refl

-- what is alike to one of them is alike to another of the name
pub alike_to : (x n d : Method) → IsBare n → IsBare d → n.name ≡ d.name → are_alike x n ≡ true → are_alike x d ≡ true
alike_to x n d first second name alike =
    let parts = alike_parts x n alike in
    let N : List ℕ → Type 0 = λ t. bytes_eq x.name t ≡ true in
    let T : List ParamSig → Type 0 = λ ts. are_types x.sig.params.items ts ≡ true in
    alike_from x d (record {
      kind = parts.kind;
      named_kind = ap is_method_kind second.instance;
      statics = ap (λ k. is_static_kind x.kind && is_static_kind k) second.instance ∙ and_false (is_static_kind x.kind);
      private = parts.private;
      named_private = second.private;
      name = subst N name parts.name;
      types = subst T (first.bare ∙ sym second.bare) parts.types;
    })

pub both_alike : (x d : Method) → IsBare x → IsBare d → x.name ≡ d.name → are_alike x d ≡ true
both_alike x d first second name =
    let N : List ℕ → Type 0 = λ t. bytes_eq x.name t ≡ true in
    alike_from x d (record {
      kind = ap is_method_kind first.instance;
      named_kind = ap is_method_kind second.instance;
      statics = ap (λ k. is_static_kind x.kind && is_static_kind k) second.instance ∙ and_false (is_static_kind x.kind);
      private = first.private;
      named_private = second.private;
      name = subst N name (text_itself x.name);
      types = ap (λ xs. are_types xs d.sig.params.items) first.bare ∙ ap (are_types []) second.bare;
    })

-- ---- no private method has a name that must be called

any_passes : {X : Type 0} (f : X → Bool) (xs : List X) (x : X) → Contains xs x → f x ≡ true → list_any f xs ≡ true
any_passes f [] x c h = absurd (contains-none x c)
any_passes f (y ∷ ys) x c h =
    elim (contains-cases y ys x c) [
      | inl same ↦ or_left (f y) (list_any f ys) (ap f same ∙ h)
      | inr more ↦ or_right (f y) (list_any f ys) (any_passes f ys x more h)
    ]

left_false : (a b : Bool) → (a && b) ≡ false → b ≡ true → a ≡ false
left_false true b h is = sym is ∙ h
left_false false b h is = refl

pub not_private : (p : Program) → Accept p → (m : MethodId) (x : Method) (i : NameId) (c : ClassId) (k : Class) → method_at p m ≡ Some x → x.sig.interest ≡ Some i
    → class_at p c ≡ Some k → has_class k.above.items x.class ≡ true → set.contains k.must i.0 ≡ true → x.is_private ≡ false
not_private p accept m x i c k at named known above needed =
    let every = nil_left _ (flat_map (body_cases p) p.bodies.items) accept.annotations in
    let of_methods : flat_map (method_cases p) p.methods.items ≡ [] = nil_right (flat_map (class_cases p) p.classes.items ++ flat_map field_cases p.fields.items) (flat_map (method_cases p) p.methods.items) every in
    let here : method_cases p x ≡ [] = none_gathered (method_cases p) p.methods.items x of_methods (contains_at p.methods.items m.0 x at) in
    let private : private_cases p x ≡ [] = nil_right (place_cases p x ++ value_cases p x) (private_cases p x) here in
    let test : (x.is_private && is_needed p x.class x.sig.interest) ≡ false = not_refused (x.is_private && is_needed p x.class x.sig.interest) refused.NoSuchMustCall x.pos private in
    let is : is_needed p x.class x.sig.interest ≡ true =
    ap (is_needed p x.class) named
    ∙ any_passes (λ (j : Class). has_class j.above.items x.class && set.contains j.must i.0) p.classes.items k (contains_at p.classes.items c.0 k known) (and_from (has_class k.above.items x.class) (set.contains k.must i.0) above needed) in
    left_false x.is_private (is_needed p x.class x.sig.interest) test is
