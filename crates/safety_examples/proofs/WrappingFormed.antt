-- The program is well formed, and its sets and signatures are what its annotations say.
use Rattle.std.proofs.Common.{◌≡◌, ◌<◌, ◌≤◌, ℕ, zero, suc, true, false, not, cond, refl, sym, ap, ◌∙◌, Option, Some, None, List, [], ◌∷◌, ◌++◌, filter, flat_map, slice_index_or, lit≤, lit<, codes, arith}
use Rattle.std.specs.FinSet as set
use Rattle.std.proofs.lemmas.Bool.{eq-eqb}
use Rattle.rlc_base.specs.declared.faults.Refusal.{Refusal}
use Rattle.rlc_base.specs.NameSet.{Decides-is_same, is_same}
use Rattle.rlc_base.proofs.SetLaws.{empty_within}
use Rattle.program_model.proofs.NameLaws.{none_union, union_none}
use Rattle.program_model.specs.declared.kinds.BodyId.{BodyId}
use Rattle.program_model.specs.declared.kinds.ClassId.{ClassId}
use Rattle.program_model.specs.declared.kinds.MethodId.{MethodId}
use Rattle.program_model.specs.NameSets.{Names}
use Rattle.program_model.specs.Overrides.{methods_of, overrides_of}
use Rattle.program_model.specs.SuperTests.{classes_above, is_class}
use Rattle.program_model.specs.declared.program.Class.{Class}
use Rattle.program_model.specs.declared.program.Method.{Method}
use Rattle.program_model.specs.declared.program.RawAnno.{RawAnno}
use Rattle.program_model.specs.declared.tree.Body.{Body}
use Rattle.program_model.specs.Lookups.{body_at, method_at}
use Rattle.annotation_rules.specs.AnnotationCases.{annotation_cases}
use Rattle.class_overrides.specs.Cases.{body_case, class_cases, override_case}
use Rattle.must_call_sets.specs.Assigned.{assigns_spoken}
use Rattle.must_call_sets.specs.OwningCases.{finalized, owning_cases}
use Rattle.must_call_sets.specs.WellFormed.{IsWellFormed, interest_of}
use Rattle.soundness_laws.specs.MustSets.{IsMustSet}
use Rattle.soundness_laws.specs.NameTable.{IsNameTable, place_of_annotation}
use Rattle.soundness_laws.specs.Signed.{IsSigned}
use Rattle.safety_examples.specs.OwnerPrograms.{class_number, close_alone, in_source, in_stub, no_names}
use Rattle.safety_examples.specs.OwnerPrograms.{ensures_closed, must_close, owning}
use Rattle.safety_examples.specs.WrappingPrograms.{held, must_call_alias, wrapper, wrapping}
use Rattle.safety_examples.proofs.OwnerSets.{contains_close}
use Rattle.safety_examples.proofs.OwnerSets.{close_not_none, within_itself}
use Rattle.safety_examples.proofs.Tests.{all_of, holds_at}
use Rattle.safety_examples.proofs.WrappingValid.{has_bodies, valid_program}

interests : (m : MethodId) (x : Method) → method_at wrapping m ≡ Some x → x.sig.interest ≡ interest_of wrapping x
interests m x at = holds_at (λ i (y : Method). y.sig.interest ≡ interest_of wrapping y) wrapping.methods.items m.0 x (refl, (refl, (refl, (refl, (refl, (refl, tt)))))) at

unassigned : (b : BodyId) (x : Body) → body_at wrapping b ≡ Some x → assigns_spoken wrapping x ≡ false
unassigned b x at = holds_at (λ i (y : Body). assigns_spoken wrapping y ≡ false) wrapping.bodies.items b.0 x (refl, (refl, (refl, tt))) at

-- the wrapper's `close` promises all that must be called on what the field holds
abbrev promised : Names
promised = set.union no_names (set.union (set.union close_alone no_names) (set.union no_names no_names))

promised_same : promised ≡ close_alone
promised_same =
    none_union (set.union (set.union close_alone no_names) (set.union no_names no_names))
    ∙ ap (set.union (set.union close_alone no_names)) (union_none no_names) ∙ union_none (set.union close_alone no_names) ∙ union_none close_alone

finalizes : finalized wrapping wrapper held ≡ promised
finalizes = simp contains_close refl

promises_all : set.is_subset close_alone (finalized wrapping wrapper held) ≡ true
promises_all = ap (set.is_subset close_alone) (finalizes ∙ promised_same) ∙ within_itself close_alone

owning_right : owning_cases wrapping ≡ []
owning_right = simp (promises_all, within_itself no_names, close_not_none) refl

same_close : is_same close_alone close_alone ≡ true
same_close = (Decides-is_same close_alone close_alone).1 refl

none_within : set.is_subset no_names close_alone ≡ true
none_within = empty_within close_alone

pub well_formed : IsWellFormed wrapping
well_formed = record {
  valid = valid_program;
  bodies = has_bodies;
  interests = interests;
  unassigned = unassigned;
  aliases = simp (same_close, within_itself no_names, within_itself close_alone, none_within) refl;
  overrides = refl;
  owning = owning_right;
  resets = refl;
}

-- a number of no class has nothing above it but itself
abbrev cases_of : ClassId → Option Class → List Refusal
cases_of c k = flat_map (override_case wrapping) (flat_map (λ n. overrides_of wrapping c (method_at wrapping n)) (flat_map (methods_of wrapping) (filter (λ d. not (is_class d c)) (classes_above c k)))) ++ body_case wrapping c k

no_class : (c : ClassId) → cases_of c None ≡ []
no_class c = ap (λ b. flat_map (override_case wrapping) (flat_map (λ n. overrides_of wrapping c (method_at wrapping n)) (flat_map (methods_of wrapping) (cond (not b) (c ∷ []) []))) ++ []) (eq-eqb c.0 c.0 refl)

cases_at : (k : ℕ) → class_cases wrapping (class_number k) ≡ []
cases_at zero = refl
cases_at (suc zero) = refl
cases_at (suc (suc zero)) = refl
cases_at (suc (suc (suc zero))) = refl
cases_at (suc (suc (suc (suc zero)))) = refl
cases_at (suc (suc (suc (suc (suc zero))))) = refl
cases_at (suc (suc (suc (suc (suc (suc zero)))))) = refl
cases_at (suc (suc (suc (suc (suc (suc (suc zero))))))) = refl
cases_at (suc (suc (suc (suc (suc (suc (suc (suc zero)))))))) = refl
cases_at (suc (suc (suc (suc (suc (suc (suc (suc (suc zero))))))))) = refl
cases_at (suc (suc (suc (suc (suc (suc (suc (suc (suc (suc zero)))))))))) = refl
cases_at (suc (suc (suc (suc (suc (suc (suc (suc (suc (suc (suc zero))))))))))) = refl
cases_at (suc (suc (suc (suc (suc (suc (suc (suc (suc (suc (suc (suc zero)))))))))))) = refl
cases_at (suc (suc (suc (suc (suc (suc (suc (suc (suc (suc (suc (suc (suc k))))))))))))) = no_class (class_number (suc (suc (suc (suc (suc (suc (suc (suc (suc (suc (suc (suc (suc k))))))))))))))

pub overriding : (c : ClassId) → class_cases wrapping c ≡ []
overriding c = cases_at c.0

pub annotations_right : annotation_cases wrapping ≡ []
annotations_right = simp (within_itself no_names) refl

-- the annotations, in the order of the text: that of `closeQuietly` stands in the stub
abbrev marks : List RawAnno
marks =
    must_close (in_stub 11) ∷ ensures_closed (codes "#1") (in_stub 14) ∷ must_close (in_source 1 1) ∷ owning (in_source 3 5) ∷ must_call_alias (in_source 4 5)
    ∷ must_call_alias (in_source 4 28) ∷ ensures_closed (codes "this.held") (in_source 5 5) ∷ []

in_order : (i j : ℕ) (d : RawAnno) → i ≤ j → j < 7 → place_of_annotation (slice_index_or marks i d) ≤ place_of_annotation (slice_index_or marks j d)
in_order zero zero d first within = lit≤ tt
in_order zero (suc zero) d first within = lit≤ tt
in_order (suc zero) (suc zero) d first within = lit≤ tt
in_order zero (suc (suc zero)) d first within = lit≤ tt
in_order (suc zero) (suc (suc zero)) d first within = lit≤ tt
in_order (suc (suc zero)) (suc (suc zero)) d first within = lit≤ tt
in_order zero (suc (suc (suc zero))) d first within = lit≤ tt
in_order (suc zero) (suc (suc (suc zero))) d first within = lit≤ tt
in_order (suc (suc zero)) (suc (suc (suc zero))) d first within = lit≤ tt
in_order (suc (suc (suc zero))) (suc (suc (suc zero))) d first within = lit≤ tt
in_order zero (suc (suc (suc (suc zero)))) d first within = lit≤ tt
in_order (suc zero) (suc (suc (suc (suc zero)))) d first within = lit≤ tt
in_order (suc (suc zero)) (suc (suc (suc (suc zero)))) d first within = lit≤ tt
in_order (suc (suc (suc zero))) (suc (suc (suc (suc zero)))) d first within = lit≤ tt
in_order (suc (suc (suc (suc zero)))) (suc (suc (suc (suc zero)))) d first within = lit≤ tt
in_order zero (suc (suc (suc (suc (suc zero))))) d first within = lit≤ tt
in_order (suc zero) (suc (suc (suc (suc (suc zero))))) d first within = lit≤ tt
in_order (suc (suc zero)) (suc (suc (suc (suc (suc zero))))) d first within = lit≤ tt
in_order (suc (suc (suc zero))) (suc (suc (suc (suc (suc zero))))) d first within = lit≤ tt
in_order (suc (suc (suc (suc zero)))) (suc (suc (suc (suc (suc zero))))) d first within = lit≤ tt
in_order (suc (suc (suc (suc (suc zero))))) (suc (suc (suc (suc (suc zero))))) d first within = lit≤ tt
in_order zero (suc (suc (suc (suc (suc (suc zero)))))) d first within = lit≤ tt
in_order (suc zero) (suc (suc (suc (suc (suc (suc zero)))))) d first within = lit≤ tt
in_order (suc (suc zero)) (suc (suc (suc (suc (suc (suc zero)))))) d first within = lit≤ tt
in_order (suc (suc (suc zero))) (suc (suc (suc (suc (suc (suc zero)))))) d first within = lit≤ tt
in_order (suc (suc (suc (suc zero)))) (suc (suc (suc (suc (suc (suc zero)))))) d first within = lit≤ tt
in_order (suc (suc (suc (suc (suc zero))))) (suc (suc (suc (suc (suc (suc zero)))))) d first within = lit≤ tt
in_order (suc (suc (suc (suc (suc (suc zero)))))) (suc (suc (suc (suc (suc (suc zero)))))) d first within = lit≤ tt
in_order (suc i) zero d first within = absurd (omega arith)
in_order (suc (suc i)) (suc zero) d first within = absurd (omega arith)
in_order (suc (suc (suc i))) (suc (suc zero)) d first within = absurd (omega arith)
in_order (suc (suc (suc (suc i)))) (suc (suc (suc zero))) d first within = absurd (omega arith)
in_order (suc (suc (suc (suc (suc i))))) (suc (suc (suc (suc zero)))) d first within = absurd (omega arith)
in_order (suc (suc (suc (suc (suc (suc i)))))) (suc (suc (suc (suc (suc zero))))) d first within = absurd (omega arith)
in_order (suc (suc (suc (suc (suc (suc (suc i))))))) (suc (suc (suc (suc (suc (suc zero)))))) d first within = absurd (omega arith)
in_order i (suc (suc (suc (suc (suc (suc (suc j))))))) d first within = absurd (omega arith)

names : IsNameTable wrapping wrapping.names
names = record {
  ordered = marks;
  order = record { same = record { moves = (1, 2) ∷ (2, 3) ∷ []; below = (lit< tt, lit< tt, (lit< tt, lit< tt, tt)); is = refl }; order = in_order };
  few = refl;
  listed = refl;
}

pub signed : IsSigned wrapping wrapping
signed = record {
  names = names;
  classes = refl;
  sets = all_of (IsMustSet wrapping.classes.items) wrapping.classes.items (refl, (sym (union_none no_names), (sym (union_none no_names), (sym (union_none no_names), (sym (union_none no_names), (sym (union_none no_names), (sym (union_none no_names), (sym (union_none no_names), (sym (union_none no_names), (sym (union_none no_names), (sym (union_none no_names), (refl, (refl, tt)))))))))))));
  methods = (record { kept = refl; signature = record { params = refl; receiver = refl; result = refl; throws = refl; owning_result = refl; alias = refl; first = refl; reset = refl; promises = refl; on_throw = refl; interest = refl } }, (record { kept = refl; signature = record { params = refl; receiver = refl; result = refl; throws = refl; owning_result = refl; alias = refl; first = refl; reset = refl; promises = refl; on_throw = refl; interest = refl } }, (record { kept = refl; signature = record { params = refl; receiver = refl; result = refl; throws = refl; owning_result = refl; alias = refl; first = refl; reset = refl; promises = refl; on_throw = refl; interest = refl } }, (record { kept = refl; signature = record { params = refl; receiver = refl; result = refl; throws = refl; owning_result = refl; alias = refl; first = refl; reset = refl; promises = refl; on_throw = refl; interest = refl } }, (record { kept = refl; signature = record { params = refl; receiver = refl; result = refl; throws = refl; owning_result = refl; alias = refl; first = refl; reset = refl; promises = refl; on_throw = refl; interest = refl } }, (record { kept = refl; signature = record { params = refl; receiver = refl; result = refl; throws = refl; owning_result = refl; alias = refl; first = refl; reset = refl; promises = refl; on_throw = refl; interest = refl } }, tt))))));
  fields = refl;
  bodies = refl;
  ignored = refl;
  exact = refl;
  core = refl;
}
