-- A method keeps its own signature.
use Rattle.std.proofs.Common.{◌≡◌, ◌∙◌, ap, refl, sym, subst, eq-eqb, true≢false, ℕ, Bool, true, false, ◌&&◌, not, Option, Some, None, List, [], ◌∷◌, Contains, inl, inr}
use Rattle.std.specs.List.{list_all}
use Rattle.std.specs.FinSet as set
use Rattle.std.proofs.lemmas.Bool.{and_right, not_from_true, or_from, or_left, or_right}
use Rattle.rlc_base.proofs.SetLaws.{within_self, within_trans, within_union_left, within_union_right}
use Rattle.program_model.specs.declared.kinds.ClassId.{ClassId}
use Rattle.program_model.specs.declared.kinds.Target.{Target}
use Rattle.program_model.specs.declared.kinds.Target.TheVariants as promised
use Rattle.program_model.specs.declared.kinds.VType.{VType}
use Rattle.program_model.specs.declared.program.Method.{Method}
use Rattle.program_model.specs.declared.program.ParamSig.{ParamSig}
use Rattle.program_model.specs.declared.program.Program.{Program}
use Rattle.program_model.specs.declared.program.Promise.{Promise}
use Rattle.program_model.specs.Hierarchy.{IsHierarchy, itself}
use Rattle.program_model.specs.NameSets.{Names, when}
use Rattle.program_model.specs.Overrides.{is_type}
use Rattle.program_model.specs.SuperTests.{is_under}
use Rattle.program_model.proofs.HierarchyLaws.{is_under_law}
use Rattle.java_conversions.specs.Conversions.{fits}
use Rattle.java_conversions.specs.Types.{is_reference}
use Rattle.agreement.specs.Results.{covers, is_checked, is_result_under, may_throw, throws_no_more}
use Rattle.agreement.proofs.Elements.{contains-cases, contains-none, each-of}
use Rattle.annotation_rules.specs.AliasCases.{is_same_position}
use Rattle.annotation_rules.specs.MustCallSets.{must_of_optional}
use Rattle.agreement.specs.OverrideCases.{asks_for_more, differ, has_other_owning, keeps, keeps_at, promises_less}
use Rattle.annotation_rules.specs.Signatures.{is_at, is_present, promised_names}
use Rattle.dispatch_laws.specs.Dispatch.{KeepsSignature}
use Rattle.agreement.proofs.Alike.{type_itself, types_themselves}

same : (b : Bool) → differ b b ≡ false
same true = refl
same false = refl

own_owning : (xs : List ParamSig) → has_other_owning xs xs ≡ false
own_owning [] = refl
own_owning (x ∷ xs) = or_from (differ x.owning x.owning) (has_other_owning xs xs) (same x.owning) (own_owning xs)

own_before : (xs : List ParamSig) → asks_for_more xs xs ≡ false
own_before [] = refl
own_before (x ∷ xs) = or_from (not (set.is_subset x.before x.before)) (asks_for_more xs xs) (not_from_true (set.is_subset x.before x.before) (within_self x.before)) (own_before xs)

-- ---- promises

promised_here : (b : Bool) (names : Names) → b ≡ true → set.is_subset names (when b names) ≡ true
promised_here true names h = within_self names
promised_here false names h = absurd (true≢false (sym h))

among_promises : (test : Target → Bool) (all : List Promise) (x : Promise) → Contains all x → test x.target ≡ true → set.is_subset x.names (promised_names test all) ≡ true
among_promises test [] x c h = absurd (contains-none x c)
among_promises test (y ∷ ys) x c h =
    let rest : Names = promised_names test ys in
    let here : Names = when (test y.target) y.names in
    elim (contains-cases y ys x c) [
      | inl is ↦ (
          let first : set.is_subset x.names (when (test x.target) x.names) ≡ true = promised_here (test x.target) x.names h in
          let start : set.is_subset x.names here ≡ true = subst (λ (z : Promise). set.is_subset x.names (when (test z.target) z.names) ≡ true) (sym is) first in
          within_trans x.names here (set.union here rest) start (within_union_left here rest)
          )
      | inr more ↦ within_trans x.names rest (set.union here rest) (among_promises test ys x more h) (within_union_right here rest)
    ]

kept_at : (all : List Promise) (x : Promise) (t : Target) → x.target ≡ t → Contains all x → keeps_at all t x.names ≡ true
kept_at all x (promised.At k) is c = among_promises (λ t. is_at t k) all x c (ap (λ t. is_at t k) is ∙ eq-eqb k k refl)
kept_at all x (promised.OfField f) is c = refl

own_promises : (all : List Promise) → promises_less all all ≡ false
own_promises all = not_from_true (list_all (keeps all) all) (each-of (keeps all) all (λ x c. kept_at all x x.target refl c))

-- ---- results and exceptions

own_position : (o : Option ℕ) → is_same_position o o ≡ true
own_position None = refl
own_position (Some k) = eq-eqb k k refl

own_result_type : (p : Program) (o : Option VType) → is_result_under p o o ≡ true
own_result_type p None = refl
own_result_type p (Some t) = or_left (is_type t t) (is_reference t && is_reference t && fits p t t) (type_itself t)

covered : (p : Program) → IsHierarchy p → (clause : List ClassId) (c : ClassId) → Contains clause c → covers p clause c ≡ true
covered p h [] c e = absurd (contains-none c e)
covered p h (d ∷ ds) c e =
    elim (contains-cases d ds c e) [
      | inl is ↦ or_left (is_under p c d) (covers p ds c) (subst (λ (z : ClassId). is_under p c z ≡ true) (sym is) ((is_under_law p h c c).1 (itself c)))
      | inr more ↦ or_right (is_under p c d) (covers p ds c) (covered p h ds c more)
    ]

own_throws : (p : Program) → IsHierarchy p → (n : Method) → throws_no_more p n n ≡ true
own_throws p h n =
    let clause : List ClassId = n.sig.throws.items in
    each-of (may_throw p clause) clause (λ c e. or_right (not (is_checked p c)) (covers p clause c) (covered p h clause c e))

pub own_signature : (p : Program) → IsHierarchy p → (n : Method) → KeepsSignature p n n
own_signature p h n = record {
  types = types_themselves n.sig.params.items;
  owning = own_owning n.sig.params.items;
  before = own_before n.sig.params.items;
  result = and_right (is_present n.sig.result) (differ n.sig.owning_result n.sig.owning_result) (same n.sig.owning_result);
  wider = and_right n.sig.owning_result (not (set.is_subset (must_of_optional p n.sig.result) (must_of_optional p n.sig.result))) (not_from_true (set.is_subset (must_of_optional p n.sig.result) (must_of_optional p n.sig.result)) (within_self (must_of_optional p n.sig.result)));
  promises = own_promises n.sig.promises.items;
  on_throw = own_promises n.sig.on_throw.items;
  alias = own_position n.sig.alias;
  reset = and_right (is_present n.sig.reset) (not (is_same_position n.sig.reset n.sig.reset)) (not_from_true (is_same_position n.sig.reset n.sig.reset) (own_position n.sig.reset));
  result_type = own_result_type p n.sig.result;
  throws = own_throws p h n;
}
