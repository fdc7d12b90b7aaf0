-- The refusals of overriding methods and of methods without a body, by the same tables.
use Rattle.std.proofs.Common.{◌≡◌, ◌∙◌, ap, sym, refl, Bool, true, false, ◌&&◌, Option, Some, None, List, [], ◌∷◌, ◌++◌, map}
use Rattle.std.specs.Prelude.{◌||◌, not, if◌then◌else◌}
use Rattle.std.specs.List.{filter, flat_map, list_all, list_any}
use Rattle.std.specs.Option.{is_some}
use Rattle.std.proofs.lemmas.List.Concat.{flat_map-append}
use Rattle.rlc_base.specs.declared.code.Code.TheVariants as refused
use Rattle.rlc_base.specs.declared.faults.Refusal.{Refusal}
use Rattle.rlc_base.specs.declared.place.Pos.{Pos}
use Rattle.refusal_order.specs.Refusals.{where_true}
use Rattle.program_model.specs.declared.kinds.ClassId.{ClassId}
use Rattle.program_model.specs.declared.kinds.ElementType.{ElementType}
use Rattle.program_model.specs.declared.kinds.MethodId.{MethodId}
use Rattle.program_model.specs.declared.kinds.VType.{VType}
use Rattle.program_model.specs.declared.kinds.VType.TheVariants as types
use Rattle.program_model.specs.declared.program.Class.{Class}
use Rattle.program_model.specs.declared.program.CoreClasses.{CoreClasses}
use Rattle.program_model.specs.declared.program.Method.{Method}
use Rattle.program_model.specs.declared.program.Program.{Program}
use Rattle.program_model.specs.Lookups.{class_at, method_at}
use Rattle.program_model.specs.Overrides.{Overriding, declared_overrides, is_abstract, is_alike, is_interface, is_joined, is_static_kind, is_type, joined_override, joined_overrides, method_run, methods_above, methods_of, override_at, overrides_of, pos_in, run_method}
use Rattle.program_model.specs.SuperTests.{classes_above, is_class, is_under}
use Rattle.java_conversions.specs.Conversions.{array_fits, class_fits, fits, text_fits}
use Rattle.java_conversions.specs.Types.{is_reference}
use Rattle.accepted_programs.specs.Results.{covers, is_checked, is_result_under, may_throw, throws_no_more}
use Rattle.accepted_programs.specs.Cases.{body_case, body_cases, class_cases, is_abstract_method, is_instance_kind, lacks, lacks_by, lacks_of, may_override, override_case, override_cases}
use Rattle.acceptance_laws.specs.SameTables.{HasSameHead, HaveSameTables, IsSameClass}
use Rattle.acceptance_laws.proofs.Alike.{above_same, abstract_same, all_same, any_same, class_same, filter_same, flat_flat, flat_same, interface_same, is_alike_same, method_same, methods_same, place_same, under_same}
use Rattle.acceptance_laws.proofs.SameRuns.{run_same}

-- ---- results

class_fits_same : (p q : Program) → HaveSameTables p q → (c : ClassId) (t : VType) → class_fits p c t ≡ class_fits q c t
class_fits_same p q h c (types.Primitive t) = refl
class_fits_same p q h c types.Str = refl
class_fits_same p q h c (types.Arr t) = refl
class_fits_same p q h c (types.Obj d) = under_same p q h c d
class_fits_same p q h c types.NullType = refl

string_fits_same : (p q : Program) → HaveSameTables p q → (t : VType) → class_fits p p.core.string t ≡ class_fits q q.core.string t
string_fits_same p q h t = ap (λ (k : CoreClasses). class_fits p k.string t) h.core ∙ class_fits_same p q h q.core.string t

text_fits_same : (p q : Program) → HaveSameTables p q → (t : VType) → text_fits p t ≡ text_fits q t
text_fits_same p q h (types.Primitive t) = refl
text_fits_same p q h types.Str = refl
text_fits_same p q h (types.Arr t) = refl
text_fits_same p q h (types.Obj d) = string_fits_same p q h (types.Obj d)
text_fits_same p q h types.NullType = refl

array_fits_same : (p q : Program) → HaveSameTables p q → (e : ElementType) (t : VType) → array_fits p e t ≡ array_fits q e t
array_fits_same p q h e (types.Primitive t) = refl
array_fits_same p q h e types.Str = refl
array_fits_same p q h e (types.Arr t) = refl
array_fits_same p q h e (types.Obj d) = ap (λ (k : CoreClasses). is_class d k.object) h.core
array_fits_same p q h e types.NullType = refl

fits_same : (p q : Program) → HaveSameTables p q → (t u : VType) → fits p t u ≡ fits q t u
fits_same p q h (types.Primitive t) u = refl
fits_same p q h types.Str u = text_fits_same p q h u
fits_same p q h (types.Arr t) u = array_fits_same p q h t u
fits_same p q h (types.Obj c) u = class_fits_same p q h c u
fits_same p q h types.NullType u = refl

result_same : (p q : Program) → HaveSameTables p q → (a b : Option VType) → is_result_under p a b ≡ is_result_under q a b
result_same p q h None None = refl
result_same p q h None (Some u) = refl
result_same p q h (Some t) None = refl
result_same p q h (Some t) (Some u) = ap (λ (b : Bool). is_type t u || (is_reference t && is_reference u && b)) (fits_same p q h t u)

-- ---- throws clauses

checked_same : (p q : Program) → HaveSameTables p q → (c : ClassId) → is_checked p c ≡ is_checked q c
checked_same p q h c =
    let unchecked : is_under p c p.core.runtime_exception ≡ is_under q c q.core.runtime_exception = ap (λ (k : CoreClasses). is_under p c k.runtime_exception) h.core ∙ under_same p q h c q.core.runtime_exception in
    let error : is_under p c p.core.error ≡ is_under q c q.core.error = ap (λ (k : CoreClasses). is_under p c k.error) h.core ∙ under_same p q h c q.core.error in
    λ i. not (unchecked i) && not (error i)

may_throw_same : (p q : Program) → HaveSameTables p q → (clause : List ClassId) (c : ClassId) → may_throw p clause c ≡ may_throw q clause c
may_throw_same p q h clause c =
    let checked = checked_same p q h c in
    let covered : covers p clause c ≡ covers q clause c = any_same (λ d. is_under p c d) (λ d. is_under q c d) (λ d. under_same p q h c d) clause in
    λ i. not (checked i) || covered i

throws_same : (p q : Program) → HaveSameTables p q → (m m' n n' : Method) → HasSameHead m m' → HasSameHead n n' → throws_no_more p m n ≡ throws_no_more q m' n'
throws_same p q h m m' n n' a b =
    let along : list_all (may_throw p n.sig.throws.items) m.sig.throws.items ≡ list_all (may_throw p n'.sig.throws.items) m'.sig.throws.items = λ i. list_all (may_throw p (b.throws i)) (a.throws i) in
    along ∙ all_same (may_throw p n'.sig.throws.items) (may_throw q n'.sig.throws.items) (may_throw_same p q h n'.sig.throws.items) m'.sig.throws.items

-- ---- overriding

override_same : (p q : Program) → HaveSameTables p q → (m m' n n' : Method) → HasSameHead m m' → HasSameHead n n' → may_override p m n ≡ may_override q m' n'
override_same p q h m m' n n' a b =
    let along : is_result_under p m.sig.result n.sig.result ≡ is_result_under p m'.sig.result n'.sig.result = λ i. is_result_under p (a.result i) (b.result i) in
    let result = along ∙ result_same p q h m'.sig.result n'.sig.result in
    let throws = throws_same p q h m m' n n' a b in
    λ i. result i && throws i && (if is_static_kind (a.kind i) then is_static_kind (b.kind i) else not (is_static_kind (b.kind i))) && not (b.final i)

abbrev cases_at : Program → Method → Method → Pos → List Refusal
cases_at p m n place = override_case p (record { by = m; overridden = n; pos = place })

case_same : (p q : Program) → HaveSameTables p q → (m m' n n' : Method) (place place' : Pos) → HasSameHead m m' → HasSameHead n n' → place ≡ place' → cases_at p m n place ≡ cases_at q m' n' place'
case_same p q h m m' n n' place place' a b same =
    let may = override_same p q h m m' n n' a b in
    λ i. where_true (not (may i)) refused.BadOverride (same i)

declared_same : (p q : Program) → HaveSameTables p q → (c : ClassId) (n n' : Method) → HasSameHead n n' → flat_map (override_case p) (declared_overrides p c n) ≡ flat_map (override_case q) (declared_overrides q c n')
declared_same p q h c n n' b =
    let f : MethodId → List Refusal = λ m. flat_map (override_case p) (override_at n (method_at p m)) in
    let g : MethodId → List Refusal = λ m. flat_map (override_case q) (override_at n' (method_at q m)) in
    let each : (m : MethodId) → f m ≡ g m = λ m. method_same p q h (λ o. flat_map (override_case p) (override_at n o)) (λ o. flat_map (override_case q) (override_at n' o)) refl
    (λ x y a. ap (λ (rs : List Refusal). rs ++ []) (case_same p q h x y n n' x.pos y.pos a b a.place)) m in
    flat_flat (override_case p) (λ m. override_at n (method_at p m)) (filter (is_alike p n) (methods_of p c))
    ∙ flat_same f g each (filter (is_alike p n) (methods_of p c))
    ∙ ap (flat_map g) (filter_same (is_alike p n) (is_alike q n') (is_alike_same p q h n n' b) (methods_of p c) ∙ ap (filter (is_alike q n')) (methods_same p q h c))
    ∙ sym (flat_flat (override_case q) (λ m. override_at n' (method_at q m)) (filter (is_alike q n') (methods_of q c)))

at_places : (p q : Program) → HaveSameTables p q → (m m' n n' : Method) → HasSameHead m m' → HasSameHead n n' → (places : List Pos) → flat_map (override_case p) (map (λ pos. record { by = m; overridden = n; pos = pos }) places) ≡ flat_map (override_case q) (map (λ pos. record { by = m'; overridden = n'; pos = pos }) places)
at_places p q h m m' n n' a b [] = refl
at_places p q h m m' n n' a b (place ∷ places) =
    let first = case_same p q h m m' n n' place place a b refl in
    let rest = at_places p q h m m' n n' a b places in
    λ i. first i ++ rest i

-- in either case of a test
where_same : {X Y : Type 0} (f : X → List Y) (g : X → List Y) (b : Bool) (xs ys : List X) → flat_map f xs ≡ flat_map g ys → flat_map f (if b then xs else []) ≡ flat_map g (if b then ys else [])
where_same f g true xs ys same = same
where_same f g false xs ys same = refl

unless_same : {X Y : Type 0} (f : X → List Y) (g : X → List Y) (b : Bool) (xs ys : List X) → flat_map f xs ≡ flat_map g ys → flat_map f (if b then [] else xs) ≡ flat_map g (if b then [] else ys)
unless_same f g true xs ys same = refl
unless_same f g false xs ys same = same

joined_at : (p q : Program) → HaveSameTables p q → (c : ClassId) (n n' : Method) → HasSameHead n n' → (m m' : Method) → HasSameHead m m' → flat_map (override_case p) (joined_override p c n (Some m)) ≡ flat_map (override_case q) (joined_override q c n' (Some m'))
joined_at p q h c n n' b m m' a =
    let made : List Pos → List Overriding = λ places. map (λ pos. record { by = m; overridden = n; pos = pos }) places in
    let made' : List Pos → List Overriding = λ places. map (λ pos. record { by = m'; overridden = n'; pos = pos }) places in
    let along : is_under p m.class n.class ≡ is_under p m'.class n'.class = λ i. is_under p (a.class' i) (b.class' i) in
    let under = along ∙ under_same p q h m'.class n'.class in
    let joined : is_joined p c m n ≡ is_joined q c m' n' = λ i. not (is_class (a.class' i) c) && not (under i) in
    ap (λ (t : Bool). flat_map (override_case p) (if t then made (pos_in (class_at p c)) else [])) joined
    ∙ where_same (override_case p) (override_case q) (is_joined q c m' n') (made (pos_in (class_at p c))) (made' (pos_in (class_at q c)))
    (ap (λ (places : List Pos). flat_map (override_case p) (made places)) (place_same p q h c) ∙ at_places p q h m m' n n' a b (pos_in (class_at q c)))

joined_run : (p q : Program) → HaveSameTables p q → (c : ClassId) (n n' : Method) → HasSameHead n n' → (o : Option MethodId) → flat_map (override_case p) (joined_override p c n (run_method p o)) ≡ flat_map (override_case q) (joined_override q c n' (run_method q o))
joined_run p q h c n n' b None = refl
joined_run p q h c n n' b (Some m) =
    method_same p q h (λ o. flat_map (override_case p) (joined_override p c n o)) (λ o. flat_map (override_case q) (joined_override q c n' o)) refl (λ x y a. joined_at p q h c n n' b x y a) m

joined_same : (p q : Program) → HaveSameTables p q → (c : ClassId) (n n' : Method) → HasSameHead n n' → flat_map (override_case p) (joined_overrides p c n) ≡ flat_map (override_case q) (joined_overrides q c n')
joined_same p q h c n n' b =
    let xs : List Overriding = joined_override p c n (run_method p (method_run p n c)) in
    let ys : List Overriding = joined_override q c n' (run_method q (method_run q n' c)) in
    ap (λ (t : Bool). flat_map (override_case p) (if t then [] else xs)) (abstract_same p q h c)
    ∙ unless_same (override_case p) (override_case q) (is_abstract q c) xs ys
    (ap (λ (o : Option MethodId). flat_map (override_case p) (joined_override p c n (run_method p o))) (run_same p q h n n' b c) ∙ joined_run p q h c n n' b (method_run q n' c))

of_method : (p q : Program) → HaveSameTables p q → (c : ClassId) (n n' : Method) → HasSameHead n n' → flat_map (override_case p) (overrides_of p c (Some n)) ≡ flat_map (override_case q) (overrides_of q c (Some n'))
of_method p q h c n n' b =
    let first = declared_same p q h c n n' b in
    let second = joined_same p q h c n n' b in
    let both : flat_map (override_case p) (declared_overrides p c n) ++ flat_map (override_case p) (joined_overrides p c n) ≡ flat_map (override_case q) (declared_overrides q c n') ++ flat_map (override_case q) (joined_overrides q c n') = λ i. first i ++ second i in
    flat_map-append (override_case p) (declared_overrides p c n) (joined_overrides p c n) ∙ both ∙ sym (flat_map-append (override_case q) (declared_overrides q c n') (joined_overrides q c n'))

above_methods_same : (p q : Program) → HaveSameTables p q → (c : ClassId) → methods_above p c ≡ methods_above q c
above_methods_same p q h c =
    ap (λ (cs : List ClassId). flat_map (methods_of p) (filter (λ d. not (is_class d c)) cs)) (above_same p q h c)
    ∙ flat_same (methods_of p) (methods_of q) (methods_same p q h) (filter (λ d. not (is_class d c)) (classes_above c (class_at q c)))

overrides_same : (p q : Program) → HaveSameTables p q → (c : ClassId) → override_cases p c ≡ override_cases q c
overrides_same p q h c =
    let f : MethodId → List Refusal = λ m. flat_map (override_case p) (overrides_of p c (method_at p m)) in
    let g : MethodId → List Refusal = λ m. flat_map (override_case q) (overrides_of q c (method_at q m)) in
    let each : (m : MethodId) → f m ≡ g m = λ m. method_same p q h (λ o. flat_map (override_case p) (overrides_of p c o)) (λ o. flat_map (override_case q) (overrides_of q c o)) refl (λ x y a. of_method p q h c x y a) m in
    flat_flat (override_case p) (λ m. overrides_of p c (method_at p m)) (methods_above p c)
    ∙ flat_same f g each (methods_above p c) ∙ ap (flat_map g) (above_methods_same p q h c)
    ∙ sym (flat_flat (override_case q) (λ m. overrides_of q c (method_at q m)) (methods_above q c))

-- ---- methods without a body

abstract_method_same : (p q : Program) → HaveSameTables p q → (n n' : Method) → HasSameHead n n' → is_abstract_method p n ≡ is_abstract_method q n'
abstract_method_same p q h n n' b =
    let interface : is_interface p n.class ≡ is_interface q n'.class = ap (is_interface p) b.class' ∙ interface_same p q h n'.class in
    λ i. is_instance_kind (b.kind i) && not (b.private i) && (b.abstract i || interface i)

lacks_same : (p q : Program) → HaveSameTables p q → (c : ClassId) (m : MethodId) → lacks p c m ≡ lacks q c m
lacks_same p q h c m = method_same p q h (lacks_by p c) (lacks_by q c) refl (λ x y a. (
    let abstract = abstract_method_same p q h x y a in
    let run = run_same p q h x y a c in
    λ i. abstract i && not (is_some (run i))
    )) m

lacks_of_same : (p q : Program) → HaveSameTables p q → (c d : ClassId) → lacks_of p c d ≡ lacks_of q c d
lacks_of_same p q h c d = any_same (lacks p c) (lacks q c) (lacks_same p q h c) (methods_of p d) ∙ ap (list_any (lacks q c)) (methods_same p q h d)

body_same : (p q : Program) → HaveSameTables p q → (c : ClassId) (k j : Class) → IsSameClass k j → body_case p c (Some k) ≡ body_case p c (Some j)
body_same p q h c k j s = λ i. where_true (not (s.abstract i) && list_any (lacks_of p c) (s.above i)) refused.NotAbstract (s.place i)

body_case_same : (p q : Program) → HaveSameTables p q → (c : ClassId) (o : Option Class) → body_case p c o ≡ body_case q c o
body_case_same p q h c None = refl
body_case_same p q h c (Some k) = ap (λ (b : Bool). where_true (not k.is_abstract && b) refused.NotAbstract k.pos) (any_same (lacks_of p c) (lacks_of q c) (lacks_of_same p q h c) k.above.items)

bodies_same : (p q : Program) → HaveSameTables p q → (c : ClassId) → body_cases p c ≡ body_cases q c
bodies_same p q h c = class_same p q h (body_case p c) (body_same p q h c) c ∙ body_case_same p q h c (class_at q c)

-- ---- both

pub same_cases : (p q : Program) → HaveSameTables p q → (c : ClassId) → class_cases p c ≡ class_cases q c
same_cases p q h c =
    let first = overrides_same p q h c in
    let second = bodies_same p q h c in
    λ i. first i ++ second i
