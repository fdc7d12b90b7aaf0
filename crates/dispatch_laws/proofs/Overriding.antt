-- What runs at a call is the named method, or one that may override it.
use Rattle.std.proofs.Common.{◌≡◌, ◌∙◌, ◌⊎◌, inl, inr, ap, refl, sym, subst, ne_eqb, true≢false, Bool, true, false, ◌&&◌, ◌||◌, not, Some, [], ◌++◌, Contains}
use Rattle.std.specs.Prelude.{if◌then◌else◌}
use Rattle.std.specs.List.{flat_map}
use Rattle.std.proofs.lemmas.Bool.{and_parts, eqb-false, false_from_ne_true, not-false, not-true, or_parts}
use Rattle.rlc_base.specs.declared.code.Code.TheVariants as refused
use Rattle.program_model.specs.declared.kinds.ClassId.{ClassId}
use Rattle.program_model.specs.declared.kinds.MethodId.{MethodId}
use Rattle.program_model.specs.declared.program.Method.{Method}
use Rattle.program_model.specs.declared.program.Program.{Program}
use Rattle.program_model.specs.Hierarchy.{IsUnder}
use Rattle.program_model.specs.Lookups.{class_at, method_at}
use Rattle.program_model.specs.Overrides.{Overriding, are_alike, is_abstract, is_library, is_static_kind, method_run, methods_of, overrides_in}
use Rattle.program_model.specs.SuperTests.{is_class, is_under}
use Rattle.program_model.specs.Validity.{IsTypedProgram}
use Rattle.program_model.proofs.HierarchyLaws.{is_under_law}
use Rattle.agreement.specs.Results.{is_result_under, throws_no_more}
use Rattle.agreement.proofs.Elements.{gathered-among}
use Rattle.agreement.specs.Cases.{are_static_alike, body_cases, class_cases, may_override}
use Rattle.agreement.specs.Cases as java
use Rattle.annotation_rules.specs.AliasCases.{alias_cases_in, alias_cases_of_method, alias_cases_of_override, is_same_position}
use Rattle.agreement.specs.OverrideCases.{asks_for_more, has_other_owning, has_other_result, has_wider_result, is_bad_override, override_cases_of, overrides_first_set, promises_beside_set, promises_less, promises_on_field}
use Rattle.annotation_rules.specs.Overridings.{class_ids, overridings}
use Rattle.annotation_rules.specs.ResetCases.{reset_cases_of_method, reset_cases_of_override}
use Rattle.annotation_rules.specs.Signatures.{is_present}
use Rattle.annotation_rules.specs.WellFormed.{IsWellFormed}
use Rattle.agreement.specs.LedgerCallsCalls.{overriding_in}
use Rattle.agreement.specs.AcceptedProgramsConditions.{DeclaresOnce, HasWholeLibrary}
use Rattle.dispatch_laws.specs.Dispatch.{IsOverriding, IsRightOverriding, KeepsSignature}
use Rattle.agreement.proofs.Alike.{alike_at, alike_back, alike_itself, alike_known, alike_parts, is_instance}
use Rattle.dispatch_laws.proofs.Lists.{nil_left, nil_right, none_gathered, not_refused, some_is}
use Rattle.dispatch_laws.proofs.Pairs.{declared_pair, joined_pair, pair_alike}
use Rattle.dispatch_laws.proofs.OverridingRuns.{RunsFrom, class_of_declared, declared_there, declaring_class, dispatched, own_first, running_class, runs_from, same_class}
use Rattle.dispatch_laws.proofs.OverridingSignatures.{own_signature}

-- ---- what is not refused

may : (p : Program) → ((d : ClassId) → class_cases p d ≡ []) → (o : Overriding) → Contains (overridings p) o → may_override p o.by o.overridden ≡ true
may p accepted o h =
    let from = gathered-among (overrides_in p) (class_ids p) o h in
    let none : java.override_cases p from.0 ≡ [] = nil_left (java.override_cases p from.0) (body_cases p from.0) (accepted from.0) in
    let one : java.override_case p o ≡ [] = none_gathered (java.override_case p) (overrides_in p from.0) o none from.2 in
    not-false (may_override p o.by o.overridden) (not_refused (not (may_override p o.by o.overridden)) refused.BadOverride o.pos one)

record NotBad (p : Program) (m n : Method) : Type 0 where
  owning : has_other_owning m.sig.params.items n.sig.params.items ≡ false
  result : has_other_result m.sig n.sig ≡ false
  promises : promises_less m.sig.promises.items n.sig.promises.items ≡ false
  on_throw : promises_less m.sig.on_throw.items n.sig.on_throw.items ≡ false
  before : asks_for_more m.sig.params.items n.sig.params.items ≡ false
  beside_set : promises_beside_set p n ≡ false
  on_field : promises_on_field n.sig.on_throw.items ≡ false
  wider : has_wider_result p m.sig n.sig ≡ false
  first_set : overrides_first_set p m n ≡ false

nine_parts : (a b c d e f g h i : Bool) → (a || b || c || d || e || f || g || h || i) ≡ false → (a ≡ false) × (b ≡ false) × (c ≡ false) × (d ≡ false) × (e ≡ false) × (f ≡ false) × (g ≡ false) × (h ≡ false) × (i ≡ false)
nine_parts a b c d e f g h i none =
    let p8 = or_parts (a || b || c || d || e || f || g || h) i none in
    let p7 = or_parts (a || b || c || d || e || f || g) h p8.0 in
    let p6 = or_parts (a || b || c || d || e || f) g p7.0 in
    let p5 = or_parts (a || b || c || d || e) f p6.0 in
    let p4 = or_parts (a || b || c || d) e p5.0 in
    let p3 = or_parts (a || b || c) d p4.0 in
    let p2 = or_parts (a || b) c p3.0 in
    let p1 = or_parts a b p2.0 in
    (p1.0, p1.1, p2.1, p3.1, p4.1, p5.1, p6.1, p7.1, p8.1)

not_bad : (p : Program) (m n : Method) → is_bad_override p m n ≡ false → NotBad p m n
not_bad p m n h =
    let parts = nine_parts (has_other_owning m.sig.params.items n.sig.params.items) (has_other_result m.sig n.sig) (promises_less m.sig.promises.items n.sig.promises.items) (promises_less m.sig.on_throw.items n.sig.on_throw.items)
    (asks_for_more m.sig.params.items n.sig.params.items) (promises_beside_set p n) (promises_on_field n.sig.on_throw.items) (has_wider_result p m.sig n.sig) (overrides_first_set p m n) h in
    record { owning = parts.0; result = parts.1; promises = parts.2; on_throw = parts.3; before = parts.4; beside_set = parts.5; on_field = parts.6; wider = parts.7; first_set = parts.8 }

good : (p : Program) → IsWellFormed p → (o : Overriding) → Contains (overridings p) o → NotBad p o.by o.overridden
good p formed o h =
    let one : override_cases_of p o ≡ [] = none_gathered (override_cases_of p) (overridings p) o formed.overrides h in
    not_bad p o.by o.overridden (not_refused (is_bad_override p o.by o.overridden) refused.BadOwningOverride o.pos one)

same_alias : (p : Program) → IsWellFormed p → (o : Overriding) → Contains (overridings p) o → is_same_position o.by.sig.alias o.overridden.sig.alias ≡ true
same_alias p formed o h =
    let others = flat_map (alias_cases_of_method p) p.methods.items ++ flat_map (λ c. alias_cases_in p c (class_at p c)) (class_ids p) in
    let none : flat_map alias_cases_of_override (overridings p) ≡ [] = nil_right others (flat_map alias_cases_of_override (overridings p)) formed.aliases in
    let one : alias_cases_of_override o ≡ [] = none_gathered alias_cases_of_override (overridings p) o none h in
    not-false (is_same_position o.by.sig.alias o.overridden.sig.alias) (not_refused (not (is_same_position o.by.sig.alias o.overridden.sig.alias)) refused.BadAlias o.pos one)

no_reset : (p : Program) → IsWellFormed p → (o : Overriding) → Contains (overridings p) o → (is_present o.by.sig.reset && not (is_same_position o.by.sig.reset o.overridden.sig.reset)) ≡ false
no_reset p formed o h =
    let none : flat_map reset_cases_of_override (overridings p) ≡ [] = nil_right (flat_map (reset_cases_of_method p) p.methods.items) (flat_map reset_cases_of_override (overridings p)) formed.resets in
    let one : reset_cases_of_override o ≡ [] = none_gathered reset_cases_of_override (overridings p) o none h in
    not_refused (is_present o.by.sig.reset && not (is_same_position o.by.sig.reset o.overridden.sig.reset)) refused.BadReset o.pos one

-- ---- what may override

no_statics : (s t : Bool) → (if s then t else not t) ≡ true → (s && t) ≡ false → (s ≡ false) × (t ≡ false)
no_statics true true alike both = absurd (true≢false both)
no_statics true false alike both = absurd (true≢false (sym alike))
no_statics false true alike both = absurd (true≢false (sym alike))
no_statics false false alike both = (refl, refl)

pair_is_right : (p : Program) → IsWellFormed p → ((d : ClassId) → class_cases p d ≡ []) → (o : Overriding) → Contains (overridings p) o → IsRightOverriding p o.by o.overridden
pair_is_right p formed accepted o h =
    let x = o.by in
    let n = o.overridden in
    let from = gathered-among (overrides_in p) (class_ids p) o h in
    let alike : are_alike x n ≡ true = pair_alike p formed.valid.typed.hierarchy from.0 o from.2 in
    let parts = alike_parts x n alike in
    let third = and_parts (is_result_under p x.sig.result n.sig.result && throws_no_more p x n && are_static_alike x n) (not n.is_final) (may p accepted o h) in
    let second = and_parts (is_result_under p x.sig.result n.sig.result && throws_no_more p x n) (are_static_alike x n) third.0 in
    let first = and_parts (is_result_under p x.sig.result n.sig.result) (throws_no_more p x n) second.0 in
    let statics = no_statics (is_static_kind x.kind) (is_static_kind n.kind) second.1 parts.statics in
    let fine = good p formed o h in
    record {
      alike = alike;
      kind = is_instance x.kind parts.kind statics.0;
      named_kind = is_instance n.kind parts.named_kind statics.1;
      private = parts.private;
      named_private = parts.named_private;
      final = not-true n.is_final third.1;
      beside_set = fine.beside_set;
      on_field = fine.on_field;
      first_set = fine.first_set;
      signature = record {
        types = parts.types;
        owning = fine.owning;
        before = fine.before;
        result = fine.result;
        wider = fine.wider;
        promises = fine.promises;
        on_throw = fine.on_throw;
        alias = same_alias p formed o h;
        reset = no_reset p formed o h;
        result_type = first.0;
        throws = first.1;
      };
    }

pub right_overriding : (p : Program) → IsWellFormed p → ((d : ClassId) → class_cases p d ≡ []) → (x n : Method) → IsOverriding p x n → IsRightOverriding p x n
right_overriding p formed accepted x n over =
    let right = pair_is_right p formed accepted over.0 over.1 in
    let first : IsRightOverriding p x over.0.overridden = subst (λ (z : Method). IsRightOverriding p z over.0.overridden) over.2 right in
    subst (IsRightOverriding p x) over.3 first

-- ---- what runs

other_class : (c d : ClassId) → is_class c d ≡ false → is_class d c ≡ false
other_class c d h = ne_eqb d.0 c.0 (λ same. eqb-false c.0 d.0 h (sym same))

same_static : (s t : Bool) → s ≡ true → (if s then t else not t) ≡ true → t ≡ true
same_static true t h alike = alike
same_static false t h alike = absurd (true≢false (sym h))

both_hold : (s t : Bool) → s ≡ true → t ≡ true → (t && s) ≡ false → ⊥
both_hold true true h g none = true≢false none
both_hold true false h g none = true≢false (sym g)
both_hold false t h g none = true≢false (sym h)

-- no static method overrides an instance method
static_over : (p : Program) → ((d : ClassId) → class_cases p d ≡ []) → (x n : Method) → IsOverriding p n x → is_static_kind n.kind ≡ true → are_alike x n ≡ true → ⊥
static_over p accepted x n over is_static alike =
    let Q : Method → Type 0 = λ z. may_override p z over.0.overridden ≡ true in
    let first : may_override p n over.0.overridden ≡ true = subst Q over.2 (may p accepted over.0 over.1) in
    let R : Method → Type 0 = λ z. may_override p n z ≡ true in
    let right : may_override p n x ≡ true = subst R over.3 first in
    let third = and_parts (is_result_under p n.sig.result x.sig.result && throws_no_more p n x && are_static_alike n x) (not x.is_final) right in
    let second = and_parts (is_result_under p n.sig.result x.sig.result && throws_no_more p n x) (are_static_alike n x) third.0 in
    both_hold (is_static_kind n.kind) (is_static_kind x.kind) is_static (same_static (is_static_kind n.kind) (is_static_kind x.kind) is_static second.1) (alike_parts x n alike).statics

-- an object of the class runs `r`, which is `x`, for the named one
record Running (p : Program) (named : MethodId) (n : Method) (c : ClassId) (r : MethodId) (x : Method) : Type 0 where
  typed : IsTypedProgram p
  accepted : (d : ClassId) → class_cases p d ≡ []
  at_named : method_at p named ≡ Some n
  at_run : method_at p r ≡ Some x
  under : is_under p c n.class ≡ true
  run : method_run p n c ≡ Some r
  from : RunsFrom p n c r

class_is : (p : Program) (named : MethodId) (n : Method) (c : ClassId) (r : MethodId) (x : Method) → (h : Running p named n c r x) → x.class ≡ h.from.declaring
class_is p named n c r x h = class_of_declared p h.typed h.from.declaring r x h.from.declared h.at_run

alike_is : (p : Program) (named : MethodId) (n : Method) (c : ClassId) (r : MethodId) (x : Method) → Running p named n c r x → are_alike x n ≡ true
alike_is p named n c r x h = alike_known p n x r h.from.alike h.at_run

-- a method of a class beside that of the named one is not the run-time class's own
not_its_own : (p : Program) (named : MethodId) (n : Method) (c : ClassId) (r : MethodId) (x : Method) → Running p named n c r x → is_under p x.class n.class ≡ false → is_class x.class c ≡ false
not_its_own p named n c r x h beside =
    false_from_ne_true (is_class x.class c) (λ same. (
    let one : x.class ≡ c = same_class x.class c same in
    true≢false (sym h.under ∙ ap (λ (z : ClassId). is_under p z n.class) (sym one) ∙ beside)
    ))

-- a class does not run another's method for one that it declares itself
own_is_not_beside : (p : Program) (named : MethodId) (n : Method) (c : ClassId) (r : MethodId) (x : Method) → Running p named n c r x → is_under p x.class n.class ≡ false → n.class ≡ c → (b : Bool) → is_static_kind n.kind ≡ b → ⊥
own_is_not_beside p named n c r x h beside here true kind =
    let known = running_class p n c r h.from in
    let declared : Contains (methods_of p c) named = subst (λ (z : ClassId). Contains (methods_of p z) named) here (declared_there p h.typed named n h.at_named) in
    let above : IsUnder p c x.class = subst (IsUnder p c) (sym (class_is p named n c r x h)) h.from.above in
    let over : IsOverriding p n x =
    declared_pair p h.typed c known.0 named r n x known.1 declared h.at_named h.at_run above (not_its_own p named n c r x h beside) (alike_back x n (alike_is p named n c r x h)) in
    static_over p h.accepted x n over kind (alike_is p named n c r x h)
own_is_not_beside p named n c r x h beside here false kind =
    let known = running_class p n c r h.from in
    let declared : Contains (methods_of p c) named = subst (λ (z : ClassId). Contains (methods_of p z) named) here (declared_there p h.typed named n h.at_named) in
    let itself : are_alike n n ≡ true = alike_itself x n (alike_is p named n c r x h) kind in
    let own : Contains (methods_of p c) r = own_first p n c known.0 named r known.1 declared (alike_at p n n named h.at_named itself) h.run in
    let one : x.class ≡ c = class_of_declared p h.typed c r x own h.at_run in
    true≢false (sym h.under ∙ ap (λ (z : ClassId). is_under p z n.class) (sym one) ∙ beside)

-- of a class beside that of the named one
beside_it : (p : Program) (named : MethodId) (n : Method) (c : ClassId) (r : MethodId) (x : Method) → Running p named n c r x → is_abstract p c ≡ false → is_under p x.class n.class ≡ false → IsOverriding p x n
beside_it p named n c r x h concrete beside =
    let known = running_class p n c r h.from in
    let other : is_class n.class c ≡ false = false_from_ne_true (is_class n.class c) (λ same. own_is_not_beside p named n c r x h beside (same_class n.class c same) (is_static_kind n.kind) refl) in
    joined_pair p h.typed c known.0 r named x n known.1 concrete h.run h.at_run h.at_named ((is_under_law p h.typed.hierarchy c n.class).0 h.under) other (not_its_own p named n c r x h beside) beside

-- of a class under that of the named one
below_it : (p : Program) (named : MethodId) (n : Method) (c : ClassId) (r : MethodId) (x : Method) → Running p named n c r x → is_under p x.class n.class ≡ true → is_class x.class n.class ≡ false → IsOverriding p x n
below_it p named n c r x h under other =
    let declared : Contains (methods_of p x.class) r = declared_there p h.typed r x h.at_run in
    let known = declaring_class p x.class r declared in
    declared_pair p h.typed x.class known.0 r named x n known.1 declared h.at_run h.at_named ((is_under_law p h.typed.hierarchy x.class n.class).0 under) (other_class x.class n.class other) (alike_is p named n c r x h)

by_class : (p : Program) (named : MethodId) (n : Method) (c : ClassId) (r : MethodId) (x : Method) → Running p named n c r x → DeclaresOnce p → is_abstract p c ≡ false → (same under : Bool) → is_class x.class n.class ≡ same → is_under p x.class n.class ≡ under → (r ≡ named) ⊎ IsOverriding p x n
by_class p named n c r x h once concrete true under same is = inl (once r named x n h.at_run h.at_named (same_class x.class n.class same) (alike_is p named n c r x h))
by_class p named n c r x h once concrete false true same is = inr (below_it p named n c r x h is same)
by_class p named n c r x h once concrete false false same is = inr (beside_it p named n c r x h concrete is)

-- ---- the laws

pub named_or_overriding : (p : Program) → IsTypedProgram p → ((d : ClassId) → class_cases p d ≡ []) → DeclaresOnce p → (named : MethodId) (n x : Method) (c : ClassId) → method_at p named ≡ Some n → is_abstract p c ≡ false → method_at p (overriding_in p named (Some n) c) ≡ Some x
    → (overriding_in p named (Some n) c ≡ named) ⊎ IsOverriding p x n
named_or_overriding p typed accepted once named n x c at_named concrete at_run =
    elim (dispatched p named n c) [
      | inl same ↦ inl same
      | inr other ↦ (
          let r : MethodId = other.0 in
          let at : method_at p r ≡ Some x = ap (method_at p) (sym other.3) ∙ at_run in
          let running : Running p named n c r x = record { typed = typed; accepted = accepted; at_named = at_named; at_run = at; under = other.1; run = other.2; from = runs_from p typed.hierarchy n c r other.2 } in
          elim (by_class p named n c r x running once concrete (is_class x.class n.class) (is_under p x.class n.class) refl refl) [ inl same ↦ inl (other.3 ∙ same) | inr over ↦ inr over ]
          )
    ]

pub kept_signature : (p : Program) → IsWellFormed p → ((d : ClassId) → class_cases p d ≡ []) → DeclaresOnce p → (named : MethodId) (n x : Method) (c : ClassId) → method_at p named ≡ Some n → is_abstract p c ≡ false → method_at p (overriding_in p named (Some n) c) ≡ Some x
    → KeepsSignature p x n
kept_signature p formed accepted once named n x c at_named concrete at_run =
    elim (named_or_overriding p formed.valid.typed accepted once named n x c at_named concrete at_run) [
      | inl same ↦ (
          let one : n ≡ x = some_is n x (sym at_named ∙ ap (method_at p) (sym same) ∙ at_run) in
          subst (λ (z : Method). KeepsSignature p z n) one (own_signature p formed.valid.typed.hierarchy n)
          )
      | inr over ↦ (right_overriding p formed accepted x n over).signature
    ]

pub library_runs : (p : Program) → IsTypedProgram p → HasWholeLibrary p → (named : MethodId) (n x : Method) (c : ClassId) → method_at p named ≡ Some n → is_library p c ≡ true → method_at p (overriding_in p named (Some n) c) ≡ Some x
    → (overriding_in p named (Some n) c ≡ named) ⊎ (is_library p x.class ≡ true)
library_runs p typed whole named n x c at_named library at_run =
    elim (dispatched p named n c) [
      | inl same ↦ inl same
      | inr other ↦ (
          let r : MethodId = other.0 in
          let at : method_at p r ≡ Some x = ap (method_at p) (sym other.3) ∙ at_run in
          let from = runs_from p typed.hierarchy n c r other.2 in
          let one : x.class ≡ from.declaring = class_of_declared p typed from.declaring r x from.declared at in
          inr (ap (is_library p) one ∙ whole c from.declaring from.above library)
          )
    ]
