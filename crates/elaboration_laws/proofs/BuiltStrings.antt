-- A built table has the class of strings that the typing of bodies asks for, and so its elaborated program is valid.
use Rattle.std.proofs.Common.{◌≡◌, List, []}
use Rattle.java_syntax.specs.declared.declaration_trees.Unit as tree
use Rattle.java_syntax.specs.declared.settings.Settings.{Settings}
use Rattle.program_model.specs.declared.program.Program.{Program}
use Rattle.program_model.specs.Validity.{IsValid}
use Rattle.method_bodies.specs.MethodBodies.{body_cases}
use Rattle.class_table.specs.Passes.{IsBuilt, classes_of}
use Rattle.java_elaboration.specs.ProgramCases.{environment_of, program_cases, typed_program}
use Rattle.java_elaboration.specs.Elaborations.{IsProgramOf}
use Rattle.elaboration_laws.proofs.TableNames.{table_names_are}
use Rattle.elaboration_laws.proofs.FinalString.{bodies_are_not_string, final_string}
use Rattle.elaboration_laws.specs.StringTables.{IsStringTable}
use Rattle.elaboration_laws.proofs.ElaboratedValidity.{valid_where_strings}

built_strings : (units stubs : List tree.Unit) (settings : Settings) (p : Program) → IsBuilt (classes_of units stubs settings) settings p → IsStringTable p units
built_strings units stubs settings p built = record {
  names = table_names_are units stubs settings p built.table;
  final = final_string units stubs settings p built;
  others = bodies_are_not_string units stubs settings (environment_of p units) built;
}

pub elaborated_valid : (units stubs : List tree.Unit) (settings : Settings) (p q : Program) → IsBuilt (classes_of units stubs settings) settings p → body_cases units ≡ [] → program_cases p units ≡ [] → IsProgramOf p (typed_program p units) q → IsValid q
elaborated_valid units stubs settings p q built due none made = valid_where_strings units stubs settings p q built (built_strings units stubs settings p built) due none made
