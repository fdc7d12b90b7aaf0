-- Why a command goes no further.
use Rattle.std.specs.Prelude.{Result, Ok, Err}
use Rattle.command_answers.specs.declared.answers.Answer.{Answer}
use Rattle.command_inputs.specs.declared.halts.Halt.{Halt}
use Rattle.command_inputs.specs.declared.halts.Halt.TheVariants as halts

-- this holds of the answer that is due at once; want of memory has none
abbrev pub HaltsBy : Halt → (Answer → Type 0) → Type 0
HaltsBy (halts.Answered answer) P = P answer
HaltsBy halts.NoMemory P = Unit {0}

abbrev pub IfHalted : {T : Type 0} → Result T Halt → (Answer → Type 0) → Type 0
IfHalted (Ok x) P = Unit {0}
IfHalted (Err halt) P = HaltsBy halt P

-- this is the answer, where memory did not run out
abbrev pub IfAnswer : Result Answer Halt → (Answer → Type 0) → Type 0
IfAnswer (Ok answer) P = P answer
IfAnswer (Err halt) P = HaltsBy halt P
