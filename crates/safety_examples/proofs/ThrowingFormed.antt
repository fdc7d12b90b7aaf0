-- The program is well formed, and its sets and signatures are what its annotations say.
use Rattle.std.proofs.Common.{◌≡◌, ◌<◌, ◌≤◌, ℕ, zero, suc, false, not, cond, refl, sym, ap, Option, Some, None, List, [], ◌∷◌, ◌++◌, filter, flat_map, slice_index_or, lit≤, codes, arith}
use Rattle.std.proofs.lemmas.Bool.{eq-eqb}
use Rattle.rlc_base.specs.declared.faults.Refusal.{Refusal}
use Rattle.program_model.proofs.NameLaws.{union_none}
use Rattle.program_model.specs.declared.kinds.BodyId.{BodyId}
use Rattle.program_model.specs.declared.kinds.ClassId.{ClassId}
use Rattle.program_model.specs.declared.kinds.MethodId.{MethodId}
use Rattle.program_model.specs.Overrides.{methods_of, overrides_of}
use Rattle.program_model.specs.SuperTests.{classes_above, is_class}
use Rattle.program_model.specs.declared.program.Class.{Class}
use Rattle.program_model.specs.declared.program.Method.{Method}
use Rattle.program_model.specs.declared.program.RawAnno.{RawAnno}
use Rattle.program_model.specs.declared.tree.Body.{Body}
use Rattle.program_model.specs.Lookups.{body_at, method_at}
use Rattle.annotation_rules.specs.AnnotationCases.{annotation_cases}
use Rattle.class_overrides.specs.Cases.{body_case, class_cases, override_case}
use Rattle.must_call_sets.specs.Assigned.{assigns_spoken}
use Rattle.must_call_sets.specs.WellFormed.{IsWellFormed, interest_of}
use Rattle.soundness_laws.specs.MustSets.{IsMustSet}
use Rattle.soundness_laws.specs.NameTable.{IsNameTable, place_of_annotation}
use Rattle.soundness_laws.specs.Signed.{IsSigned}
use Rattle.safety_examples.specs.CarefulPrograms.{class_number, in_source, must_call_close, no_names}
use Rattle.safety_examples.specs.OwnerPrograms.{ensures_closed}
use Rattle.safety_examples.specs.ThrowingPrograms.{ensures_closed_throwing, throwing}
use Rattle.safety_examples.proofs.OwnerSets.{within_itself}
use Rattle.safety_examples.proofs.Tests.{all_of, holds_at}
use Rattle.safety_examples.proofs.ThrowingValid.{has_bodies, valid_program}

interests : (m : MethodId) (x : Method) → method_at throwing m ≡ Some x → x.sig.interest ≡ interest_of throwing x
interests m x at = holds_at (λ i (y : Method). y.sig.interest ≡ interest_of throwing y) throwing.methods.items m.0 x (refl, (refl, (refl, (refl, tt)))) at

unassigned : (b : BodyId) (x : Body) → body_at throwing b ≡ Some x → assigns_spoken throwing x ≡ false
unassigned b x at = holds_at (λ i (y : Body). assigns_spoken throwing y ≡ false) throwing.bodies.items b.0 x (refl, (refl, tt)) at

pub well_formed : IsWellFormed throwing
well_formed = record {
  valid = valid_program;
  bodies = has_bodies;
  interests = interests;
  unassigned = unassigned;
  aliases = refl;
  overrides = refl;
  owning = refl;
  resets = refl;
}

-- a number of no class has nothing above it but itself
abbrev cases_of : ClassId → Option Class → List Refusal
cases_of c k = flat_map (override_case throwing) (flat_map (λ n. overrides_of throwing c (method_at throwing n)) (flat_map (methods_of throwing) (filter (λ d. not (is_class d c)) (classes_above c k)))) ++ body_case throwing c k

no_class : (c : ClassId) → cases_of c None ≡ []
no_class c = ap (λ b. flat_map (override_case throwing) (flat_map (λ n. overrides_of throwing c (method_at throwing n)) (flat_map (methods_of throwing) (cond (not b) (c ∷ []) []))) ++ []) (eq-eqb c.0 c.0 refl)

cases_at : (k : ℕ) → class_cases throwing (class_number k) ≡ []
cases_at zero = refl
cases_at (suc zero) = refl
cases_at (suc (suc zero)) = refl
cases_at (suc (suc (suc zero))) = refl
cases_at (suc (suc (suc (suc zero)))) = refl
cases_at (suc (suc (suc (suc (suc zero))))) = refl
cases_at (suc (suc (suc (suc (suc (suc zero)))))) = refl
cases_at (suc (suc (suc (suc (suc (suc (suc zero))))))) = refl
cases_at (suc (suc (suc (suc (suc (suc (suc (suc zero)))))))) = refl
cases_at (suc (suc (suc (suc (suc (suc (suc (suc (suc zero))))))))) = refl
cases_at (suc (suc (suc (suc (suc (suc (suc (suc (suc (suc zero)))))))))) = refl
cases_at (suc (suc (suc (suc (suc (suc (suc (suc (suc (suc (suc zero))))))))))) = refl
cases_at (suc (suc (suc (suc (suc (suc (suc (suc (suc (suc (suc (suc zero)))))))))))) = refl
cases_at (suc (suc (suc (suc (suc (suc (suc (suc (suc (suc (suc (suc (suc zero))))))))))))) = refl
cases_at (suc (suc (suc (suc (suc (suc (suc (suc (suc (suc (suc (suc (suc (suc k)))))))))))))) = no_class (class_number (suc (suc (suc (suc (suc (suc (suc (suc (suc (suc (suc (suc (suc (suc k)))))))))))))))

pub overriding : (c : ClassId) → class_cases throwing c ≡ []
overriding c = cases_at c.0

pub annotations_right : annotation_cases throwing ≡ []
annotations_right = simp (within_itself no_names) refl

-- the annotations, in the order of the text
abbrev marks : List RawAnno
marks = must_call_close ∷ ensures_closed (codes "#1") (in_source 2 5) ∷ ensures_closed_throwing ∷ []

in_order : (i j : ℕ) (d : RawAnno) → i ≤ j → j < 3 → place_of_annotation (slice_index_or marks i d) ≤ place_of_annotation (slice_index_or marks j d)
in_order zero zero d first within = lit≤ tt
in_order zero (suc zero) d first within = lit≤ tt
in_order zero (suc (suc zero)) d first within = lit≤ tt
in_order (suc zero) (suc zero) d first within = lit≤ tt
in_order (suc zero) (suc (suc zero)) d first within = lit≤ tt
in_order (suc (suc zero)) (suc (suc zero)) d first within = lit≤ tt
in_order (suc i) zero d first within = absurd (omega arith)
in_order (suc (suc i)) (suc zero) d first within = absurd (omega arith)
in_order (suc (suc (suc i))) (suc (suc zero)) d first within = absurd (omega arith)
in_order i (suc (suc (suc j))) d first within = absurd (omega arith)

names : IsNameTable throwing throwing.names
names = record {
  ordered = marks;
  order = record { same = record { moves = []; below = tt; is = refl }; order = in_order };
  few = refl;
  listed = refl;
}

pub signed : IsSigned throwing throwing
signed = record {
  names = names;
  classes = refl;
  sets = all_of (IsMustSet throwing.classes.items) throwing.classes.items (refl, ((sym (union_none no_names)), ((sym (union_none no_names)), ((sym (union_none no_names)), ((sym (union_none no_names)), ((sym (union_none no_names)), ((sym (union_none no_names)), ((sym (union_none no_names)), ((sym (union_none no_names)), ((sym (union_none no_names)), ((sym (union_none no_names)), ((sym (union_none no_names)), (refl, ((sym (union_none no_names)), tt))))))))))))));
  methods = (record { kept = refl; signature = record { params = refl; receiver = refl; result = refl; throws = refl; owning_result = refl; alias = refl; first = refl; reset = refl; promises = refl; on_throw = refl; interest = refl } }, (record { kept = refl; signature = record { params = refl; receiver = refl; result = refl; throws = refl; owning_result = refl; alias = refl; first = refl; reset = refl; promises = refl; on_throw = refl; interest = refl } }, (record { kept = refl; signature = record { params = refl; receiver = refl; result = refl; throws = refl; owning_result = refl; alias = refl; first = refl; reset = refl; promises = refl; on_throw = refl; interest = refl } }, (record { kept = refl; signature = record { params = refl; receiver = refl; result = refl; throws = refl; owning_result = refl; alias = refl; first = refl; reset = refl; promises = refl; on_throw = refl; interest = refl } }, tt))));
  fields = refl;
  bodies = refl;
  ignored = refl;
  exact = refl;
  core = refl;
}
