-- No owning field of the program of files may hold a text, or no method creates the obligation of a text anew.
use Rattle.rlc_base.specs.declared.code.Code.TheVariants as refused
use Rattle.program_model.specs.declared.program.Program.{Program}
use Rattle.agreement.specs.Conditions.{OwnsNoRenewedText, may_own_renewed_text}
use Rattle.acceptance_laws.specs.Programs.{Input, IsProgram}
use Rattle.acceptance_laws.specs.TextFieldCases.{text_field_cases_in}
use Rattle.file_condition_laws.proofs.Read.{not_refused}
use Rattle.file_condition_laws.proofs.Results.{element, gathered_none}

pub read_text_fields : (input : Input) (p : Program) → IsProgram input p → OwnsNoRenewedText p
read_text_fields input p is f x at =
    not_refused (may_own_renewed_text p x) refused.OwningFieldShape x.pos
    (gathered_none (text_field_cases_in p) p.fields.items is.right.text_fields x (element p.fields.items f.0 x at))
