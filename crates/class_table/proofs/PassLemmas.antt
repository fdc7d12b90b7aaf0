-- What the passes answer, by the declarations alone.
use Rattle.std.proofs.Common.{◌≡◌, ◌∙◌, sym, ap, subst, Option, List}
use Rattle.rlc_base.specs.declared.faults.Refusal.{Refusal}
use Rattle.class_order.specs.Refusals.{least}
use Rattle.program_model.specs.declared.kinds.ClassId.{ClassId}
use Rattle.program_model.specs.declared.program.CoreClasses.{CoreClasses}
use Rattle.class_names.specs.declared.class_name.ClassName.{ClassName}
use Rattle.class_order.specs.Cases.{IsLeast}
use Rattle.class_order.specs.Declarations.{Declaration, class_names}
use Rattle.class_order.proofs.LeastLemmas.{least_of_list}
use Rattle.class_headers.specs.Cases.{IsCycleCase}
use Rattle.class_checks.specs.DoubleMembers.{double_member_cases}
use Rattle.super_obligations.specs.SuperCases.{direct_in}
use Rattle.class_table.specs.Passes.{IsCycle, IsMemberCase}

pub cycles_told : (order : List Declaration) (core : CoreClasses) (direct : List (List ClassId)) (o a : Option Refusal) → direct ≡ direct_in order core → o ≡ a → IsLeast (IsCycleCase order direct) o → IsLeast (IsCycle order core) a
cycles_told order core direct o a rows is h =
    let D : List (List ClassId) → Type 0 = λ rs. IsLeast (IsCycleCase order rs) o in
    let O : Option Refusal → Type 0 = IsLeast (IsCycle order core) in
    subst O is (subst D rows h)

pub members_told : (order : List Declaration) (classes : List ClassName) (o a : Option Refusal) → classes ≡ class_names order → o ≡ a → o ≡ least (double_member_cases classes order) → IsLeast (IsMemberCase order) a
members_told order classes o a names is h =
    least_of_list (double_member_cases (class_names order) order) (sym is ∙ h ∙ ap (λ cs. least (double_member_cases cs order)) names)
