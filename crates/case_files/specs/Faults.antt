-- Which faults a part of the work may have.
use Rattle.std.specs.Prelude.{◌<◌}
use Rattle.case_files.specs.declared.faults.FormFail.{FormFail}
use Rattle.case_files.specs.declared.faults.FormFail.TheVariants.{NotRead, NotText, NoSection, Escape, Section, NoMemory}

-- of a text with escapes: an escape is malformed
abbrev pub IsEscapeFault : FormFail → Type 0
IsEscapeFault NotRead = ⊥
IsEscapeFault NotText = ⊥
IsEscapeFault (NoSection line) = ⊥
IsEscapeFault Escape = Unit {0}
IsEscapeFault Section = ⊥
IsEscapeFault NoMemory = Unit {0}

-- of the cases of a text: a line, which counts from 1, stands in no section
abbrev pub IsCasesFault : FormFail → Type 0
IsCasesFault NotRead = ⊥
IsCasesFault NotText = ⊥
IsCasesFault (NoSection line) = 0 < line
IsCasesFault Escape = ⊥
IsCasesFault Section = ⊥
IsCasesFault NoMemory = Unit {0}

-- of a file of cases: as of its text, or it was not read or is no text
abbrev pub IsFileFault : FormFail → Type 0
IsFileFault NotRead = Unit {0}
IsFileFault NotText = Unit {0}
IsFileFault (NoSection line) = 0 < line
IsFileFault Escape = ⊥
IsFileFault Section = ⊥
IsFileFault NoMemory = Unit {0}
