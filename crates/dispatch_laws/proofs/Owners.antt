-- An object with owning fields runs the must-call method that its own class declares.
use Rattle.std.proofs.Common.{◌≡◌, ◌∙◌, ap, refl, sym, true≢false, Bool, true, false, not, ◌&&◌, ◌||◌, cond, Some, None, [], Contains}
use Rattle.std.specs.Prelude.{unwrap_or, if◌then◌else◌}
use Rattle.std.specs.FinSet as set
use Rattle.std.proofs.lemmas.Bool.{or_right}
use Rattle.std.specs.List.{list_any}
use Rattle.std.specs.Option.{is_some}
use Rattle.rlc_base.specs.declared.code.Code.TheVariants as refused
use Rattle.program_model.specs.declared.kinds.ClassId.{ClassId}
use Rattle.program_model.specs.declared.kinds.MethodId.{MethodId}
use Rattle.program_model.specs.declared.program.Class.{Class}
use Rattle.program_model.specs.declared.program.Method.{Method}
use Rattle.program_model.specs.declared.program.Program.{Program}
use Rattle.program_model.specs.Hierarchy.{itself}
use Rattle.program_model.specs.Lookups.{class_at, method_at}
use Rattle.program_model.specs.Overrides.{has_code, has_code_in, is_abstract_in, is_interface, is_library, method_run, methods_of}
use Rattle.program_model.specs.SuperTests.{classes_above, has_class, is_under}
use Rattle.program_model.specs.Validity.{IsTypedProgram}
use Rattle.program_model.proofs.HierarchyLaws.{is_under_law}
use Rattle.agreement.proofs.Alike.{alike_at, alike_there}
use Rattle.agreement.proofs.Elements.{none-has}
use Rattle.agreement.specs.Cases.{body_case, body_cases, is_abstract_method, is_instance_kind, lacks, lacks_by, lacks_of, override_cases}
use Rattle.annotation_rules.specs.MustCallSets.{must_in}
use Rattle.agreement.specs.LedgerCallsCalls.{overriding, overriding_in}
use Rattle.dispatch_laws.proofs.Lists.{nil_right, not_refused}
use Rattle.dispatch_laws.proofs.OverridingRuns.{class_of_declared, declared_there, declaring_class, listed_class}
use Rattle.agreement.specs.Accept.{Accept}
use Rattle.dispatch_laws.specs.Owners.{RunsOwnMethods}
use Rattle.dispatch_laws.proofs.Names.{IsBare, IsOfInterest, alike_to, both_alike, not_private, of_interest, one_name}
use Rattle.dispatch_laws.proofs.OwnMethodRuns.{IsOnly, own_run, run_has_code}

-- ---- a class that is not abstract has bodies

right_false : (a b : Bool) → (a && b) ≡ false → a ≡ true → b ≡ false
right_false true b h is = h
right_false false b h is = absurd (true≢false (sym is))

not_not : (b : Bool) → not b ≡ false → b ≡ true
not_not true h = refl
not_not false h = absurd (true≢false h)

-- an abstract method of the class has a body that the class runs
run_there : (p : Program) → Accept p → (c : ClassId) (k : Class) (m : MethodId) (d : Method) → class_at p c ≡ Some k → k.is_abstract ≡ false → Contains (methods_of p c) m → method_at p m ≡ Some d
    → is_abstract_method p d ≡ true → is_some (method_run p d c) ≡ true
run_there p accept c k m d at concrete has at_d no_body =
    let typed : IsTypedProgram p = accept.well_formed.valid.typed in
    let cases : body_cases p c ≡ [] = nil_right (override_cases p c) (body_cases p c) (accept.overriding c) in
    let here : body_case p c (Some k) ≡ [] = sym (ap (body_case p c) at) ∙ cases in
    let test : (not k.is_abstract && list_any (lacks_of p c) k.above.items) ≡ false = not_refused (not k.is_abstract && list_any (lacks_of p c) k.above.items) refused.NotAbstract k.pos here in
    let none : list_any (lacks_of p c) k.above.items ≡ false = right_false (not k.is_abstract) (list_any (lacks_of p c) k.above.items) test (ap not concrete) in
    let listed : has_class k.above.items c ≡ true = sym (ap (λ o. has_class (classes_above c o) c) at) ∙ (is_under_law p typed.hierarchy c c).1 (itself c) in
    let own : list_any (lacks p c) (methods_of p c) ≡ false = none-has (lacks_of p c) k.above.items none c (listed_class k.above.items c listed) in
    let one : lacks p c m ≡ false = none-has (lacks p c) (methods_of p c) own m has in
    let lacking : (is_abstract_method p d && not (is_some (method_run p d c))) ≡ false = sym (ap (lacks_by p c) at_d) ∙ one in
    not_not (is_some (method_run p d c)) (right_false (is_abstract_method p d) (not (is_some (method_run p d c))) lacking no_body)

-- ---- the laws

-- the only method of the class that is alike to one of this name and no parameters
only_one : (p : Program) → Accept p → (c : ClassId) (m : MethodId) (n d : Method) → method_at p m ≡ Some d → d.class ≡ c → IsBare n → IsBare d → n.name ≡ d.name → IsOnly p n c m
only_one p accept c m n d at_d of_c first second name r has alike =
    let x = alike_there p n r alike in
    let same : x.0.class ≡ c = class_of_declared p accept.well_formed.valid.typed c r x.0 has x.1 in
    accept.declares_once r m x.0 d x.1 at_d (same ∙ sym of_c) (alike_to x.0 n d first second name x.2)

with_code : (p : Program) (m : MethodId) (d : Method) (b : Bool) → method_at p m ≡ Some d → d.is_abstract ≡ b → (b ≡ true → has_code p m ≡ true) → has_code p m ≡ true
with_code p m d true at is so = so refl
with_code p m d false at is so = ap (has_code_in p) at ∙ ap (λ b. not b || is_library p d.class) is

run_named : (p : Program) (named m : MethodId) (n : Method) (c : ClassId) → n.is_private ≡ false → is_under p c n.class ≡ true → method_run p n c ≡ Some m → overriding p named n c ≡ m
run_named p named m n c shown under run =
    ap (λ b. if b || not (is_under p c n.class) then named else unwrap_or (method_run p n c) named) shown
    ∙ ap (λ b. if not b then named else unwrap_or (method_run p n c) named) under
    ∙ ap (λ o. unwrap_or o named) run

-- a method of the library counts as having a body
code_by : (p : Program) (m : MethodId) (d : Method) → method_at p m ≡ Some d → (is_library p d.class ≡ false → has_code p m ≡ true) → has_code p m ≡ true
code_by p m d at so = go (is_library p d.class) refl
  where
    go : (b : Bool) → is_library p d.class ≡ b → has_code p m ≡ true
    go true is = ap (has_code_in p) at ∙ or_right (not d.is_abstract) (is_library p d.class) is
    go false is = so is

pub runs_own : (p : Program) → Accept p → RunsOwnMethods p
runs_own p accept named m n d f x i at_n at_d concrete at_x owning of_d named_n named_d needed under =
    let typed : IsTypedProgram p = accept.well_formed.valid.typed in
    let c : ClassId = d.class in
    let has : Contains (methods_of p c) m = declared_there p typed m d at_d in
    let known = declaring_class p c m has in
    let k : Class = known.0 in
    let above : (e : ClassId) → is_under p c e ≡ true → has_class k.above.items e ≡ true = λ e h. sym (ap (λ o. has_class (classes_above c o) e) known.1) ∙ h in
    let must : set.contains k.must i.0 ≡ true = sym (ap (λ o. set.contains (must_in o) i.0) known.1) ∙ needed in
    let self : is_under p c c ≡ true = (is_under_law p typed.hierarchy c c).1 (itself c) in
    let of_n : IsOfInterest p n i = of_interest p accept.well_formed named n i at_n named_n in
    let of_m : IsOfInterest p d i = of_interest p accept.well_formed m d i at_d named_d in
    let open_n : n.is_private ≡ false = not_private p accept named n i c k at_n named_n known.1 (above n.class under) must in
    let open_d : d.is_private ≡ false = not_private p accept m d i c k at_d named_d known.1 (above c self) must in
    let first : IsBare n = record { instance = of_n.instance; bare = of_n.bare; private = open_n } in
    let second : IsBare d = record { instance = of_m.instance; bare = of_m.bare; private = open_d } in
    let name : n.name ≡ d.name = one_name p n d i of_n of_m in
    let run_n = own_run p n c k m known.1 has (alike_at p n d m at_d (both_alike d n second first (sym name))) (only_one p accept c m n d at_d refl first second name) in
    let run_d = own_run p d c k m known.1 has (alike_at p d d m at_d (both_alike d d second second refl)) (only_one p accept c m d d at_d refl second second refl) in
    let not_abstract : is_library p c ≡ false → k.is_abstract ≡ false = λ program. sym (ap is_abstract_in known.1) ∙ concrete program in
    let no_body : d.is_abstract ≡ true → is_abstract_method p d ≡ true =
    λ h. ap (λ j. is_instance_kind j && not d.is_private && (d.is_abstract || is_interface p c)) second.instance ∙ ap (λ b. not b && (d.is_abstract || is_interface p c)) open_d ∙ ap (λ b. b || is_interface p c) h in
    let code : has_code p m ≡ true =
    code_by p m d at_d (λ program. with_code p m d d.is_abstract at_d refl (λ h. run_has_code p d c m run_d (run_there p accept c k m d known.1 (not_abstract program) has at_d (no_body h)))) in
    let run : method_run p n c ≡ Some m = run_n ∙ ap (λ b. cond b (Some m) None) code in
    ap (λ o. overriding_in p named o c) at_n ∙ run_named p named m n c open_n under run
