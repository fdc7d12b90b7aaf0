-- The pass over super types from its four parts.
use Rattle.std.proofs.Common.{◌≡◌, ◌∙◌, ap, subst, Option, List, length}
use Rattle.std.specs.Prelude.{◌⊎◌, Contains}
use Rattle.std.specs.List.{range_with_len}
use Rattle.rlc_base.specs.declared.faults.Refusal.{Refusal}
use Rattle.program_model.specs.declared.kinds.ClassId.{ClassId}
use Rattle.program_model.specs.declared.program.CoreClasses.{CoreClasses}
use Rattle.refusal_order.specs.Refusals.{least, lesser_of}
use Rattle.class_names.specs.declared.class_name.ClassName.{ClassName}
use Rattle.class_order.specs.Cases.{IsAmong, IsLeast}
use Rattle.class_order.specs.Declarations.{Declaration, class_names}
use Rattle.class_order.proofs.LeastLemmas.{least_either, least_of_list}
use Rattle.class_headers.specs.SuperTypes.{SuperTypes, all_direct, all_supers}
use Rattle.super_checks.specs.SuperCases.{IsCoreCase, IsCoreLibrary, IsThrowsCase, IsThrowsOf, core_misplaced, direct_in, kind_cases, kind_cases_by, supers_in}
use Rattle.super_obligations.specs.Obligations.{IsObligationAt, IsObligationCase, own_sets}
use Rattle.super_obligations.specs.SuperPass.{IsSuperCase}

pub super_least : (order : List Declaration) (core : CoreClasses) (kinds throws obligations library : Option Refusal) → kinds ≡ least (kind_cases order core) → IsLeast (IsThrowsCase order core) throws → IsLeast (IsObligationCase order core) obligations → IsLeast (IsCoreCase order core) library
    → IsLeast (IsSuperCase order core) (lesser_of kinds (lesser_of throws (lesser_of obligations library)))
super_least order core kinds throws obligations library is h g k =
    let Behind : Refusal → Type 0 = λ r. IsObligationCase order core r ⊎ IsCoreCase order core r in
    let Later : Refusal → Type 0 = λ r. IsThrowsCase order core r ⊎ Behind r in
    least_either (Contains (kind_cases order core)) Later kinds (lesser_of throws (lesser_of obligations library)) (least_of_list (kind_cases order core) is)
    (least_either (IsThrowsCase order core) Behind throws (lesser_of obligations library) h (least_either (IsObligationCase order core) (IsCoreCase order core) obligations library g k))

-- the super types of the table are those of the declarations
pub table_supers : (classes : List ClassName) (order : List Declaration) (core : CoreClasses) (supers : List SuperTypes) → classes ≡ class_names order → supers ≡ all_supers classes core.object order → supers ≡ supers_in order core
table_supers classes order core supers names is = is ∙ ap (λ cs. all_supers cs core.object order) names

pub table_direct : (order : List Declaration) (core : CoreClasses) (supers : List SuperTypes) (direct : List (List ClassId)) → supers ≡ supers_in order core → direct ≡ all_direct core.object supers → direct ≡ direct_in order core
table_direct order core supers direct same is = is ∙ ap (all_direct core.object) same

pub kinds_here : (order : List Declaration) (core : CoreClasses) (supers : List SuperTypes) (r : Option Refusal) → supers ≡ supers_in order core → r ≡ least (kind_cases_by order supers) → r ≡ least (kind_cases order core)
kinds_here order core supers r same is = is ∙ ap (λ ss. least (kind_cases_by order ss)) same

pub throws_here : (classes : List ClassName) (order : List Declaration) (core : CoreClasses) (direct : List (List ClassId)) (r : Option Refusal) → classes ≡ class_names order → direct ≡ direct_in order core → IsLeast (IsAmong (IsThrowsOf classes direct core.throwable) order) r → IsLeast (IsThrowsCase order core) r
throws_here classes order core direct r names rows h =
    let first : List ClassName → Type 0 = λ cs. IsLeast (IsAmong (IsThrowsOf cs direct core.throwable) order) r in
    let second : List (List ClassId) → Type 0 = λ rs. IsLeast (IsAmong (IsThrowsOf (class_names order) rs core.throwable) order) r in
    subst second rows (subst first names h)

pub obligations_here : (order : List Declaration) (core : CoreClasses) (supers : List SuperTypes) (r : Option Refusal) → supers ≡ supers_in order core → IsLeast (IsAmong (IsObligationAt order (own_sets order) supers) (range_with_len 0 (length order))) r → IsLeast (IsObligationCase order core) r
obligations_here order core supers r same h =
    let P : List SuperTypes → Type 0 = λ ss. IsLeast (IsAmong (IsObligationAt order (own_sets order) ss) (range_with_len 0 (length order))) r in
    subst P same h

pub core_here : (order : List Declaration) (core : CoreClasses) (direct : List (List ClassId)) (r : Option Refusal) → direct ≡ direct_in order core → IsLeast (λ x. (IsCoreLibrary order direct core → ⊥) × (x ≡ core_misplaced)) r → IsLeast (IsCoreCase order core) r
core_here order core direct r rows h =
    let P : List (List ClassId) → Type 0 = λ rs. IsLeast (λ x. (IsCoreLibrary order rs core → ⊥) × (x ≡ core_misplaced)) r in
    subst P rows h
