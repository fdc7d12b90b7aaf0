-- The program of files meets the conditions.
use Rattle.std.proofs.Common.{◌≡◌, true, not}
use Rattle.std.proofs.lemmas.Bool.{or_left}
use Rattle.std.proofs.lemmas.List.Elements.{All-weaker}
use Rattle.program_model.specs.declared.program.Program.{Program}
use Rattle.program_model.specs.Overrides.{is_abstract, is_library}
use Rattle.acceptance_laws.specs.Programs.{Input, IsProgram}
use Rattle.agreement.specs.Conditions.{MeetsFileConditions}
use Rattle.agreement.specs.LibraryClasses.{language_exceptions}
use Rattle.agreement.specs.PlainForms.{may_be_made}
use Rattle.file_condition_laws.proofs.Programs.{read_passes}
use Rattle.file_condition_laws.proofs.Owners.{read_owners}
use Rattle.file_condition_laws.proofs.TextFields.{read_text_fields}
use Rattle.file_condition_laws.proofs.Results.{read_results}
use Rattle.file_condition_laws.proofs.Read.{read_constants, read_exceptions, read_gives, read_light_texts, read_roots, read_texts, read_throws, read_whole}

pub read_conditions : (input : Input) (p : Program) → IsProgram input p → MeetsFileConditions p
read_conditions input p is = record {
  library = read_whole input p is;
  given = record { results = read_gives input p is; throws = read_throws input p is; constants = read_constants input p is; object = (read_roots input p is).0; string = (read_roots input p is).1 };
  exceptions = All-weaker (λ c. is_library p c ≡ true) (λ c. may_be_made p c ≡ true) (λ c is_its. or_left (is_library p c) (not (is_abstract p c)) is_its) (language_exceptions p.core) (read_exceptions input p is);
  texts = read_texts input p is;
  light_texts = read_light_texts input p is;
  results = read_results input p is;
  owners = read_owners input p is;
  text_fields = read_text_fields input p is;
  passes = read_passes input p is;
}
