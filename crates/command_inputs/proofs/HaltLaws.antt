-- What follows of an answer follows where a command goes no further.
use Rattle.std.proofs.Common.{Result, Ok, Err}
use Rattle.command_answers.specs.declared.answers.Answer.{Answer}
use Rattle.command_inputs.specs.Halts.{HaltsBy, IfAnswer, IfHalted}
use Rattle.command_inputs.specs.declared.halts.Halt.{Halt}
use Rattle.command_inputs.specs.declared.halts.Halt.TheVariants as halts

pub halts_too : (halt : Halt) (P Q : Answer → Type 0) → ((answer : Answer) → P answer → Q answer) → HaltsBy halt P → HaltsBy halt Q
halts_too (halts.Answered answer) P Q then is = then answer is
halts_too halts.NoMemory P Q then is = tt

pub halted_too : {T : Type 0} (result : Result T Halt) (P Q : Answer → Type 0) → ((answer : Answer) → P answer → Q answer) → IfHalted result P → IfHalted result Q
halted_too (Ok x) P Q then is = tt
halted_too (Err halt) P Q then is = halts_too halt P Q then is

pub answers_too : (result : Result Answer Halt) (P Q : Answer → Type 0) → ((answer : Answer) → P answer → Q answer) → IfAnswer result P → IfAnswer result Q
answers_too (Ok answer) P Q then is = then answer is
answers_too (Err halt) P Q then is = halts_too halt P Q then is
