-- The program of the trees is that of the input, and the first that refuses stops it.
use Rattle.std.proofs.Common.{◌≡◌, ◌∙◌, map, ℕ, List, Bor, Result, Ok, Err, IfOk}
use Rattle.rlc_base.specs.declared.faults.Stop.{Stop}
use Rattle.java_syntax.specs.declared.declaration_trees.Unit as tree
use Rattle.program_model.specs.declared.program.Program.{Program}
use Rattle.signed_programs.specs.WellFormed.{IsWellFormed}
use Rattle.signed_programs.specs.RulePasses.{HasNoRuleCase}
use Rattle.command_trees.specs.Fronts.{IsFront}
use Rattle.program_reading.specs.Programs.{Input, IsProgram, IsProgramStop, by_files, by_signing, by_typing}
use Rattle.signed_programs.specs.SignedPrograms.{HasListedFields, IsAnnotated, IsSigningStop}
use Rattle.program_reading.specs.TypedPrograms.{IsTyped}
use Rattle.command_trees.proofs.Results.{if_err, if_ok}
use Rattle.program_reading.proofs.reading.read_program.Goals as goal

moved : (words texts : List (List ℕ)) (sections sections' sources sources' : List tree.Unit) → sections' ≡ sections → sources' ≡ sources → IsFront words texts sections sources
    → IsFront words texts sections' sources'
moved words texts sections sections' sources sources' same equal front =
    record { trees = front.trees; has_trees = front.has_trees; sections_are = same ∙ front.sections_are; sources_are = equal ∙ front.sources_are }

program_if : (input : Input) (sections sources : List tree.Unit) (typed : Program) (r : Result Program Stop) → IsFront input.words input.texts sections sources → IsTyped input.settings sections sources typed
    → IfOk r (IsAnnotated typed) → IfOk r HasNoRuleCase → IfOk r IsWellFormed → IfOk r (IsProgram input)
program_if input sections sources typed (Ok p) front is annotated right well_formed =
    record { sections = sections; sources = sources; typed = typed; front = front; is_typed = is; annotated = annotated; right = right; well_formed = well_formed }
program_if input sections sources typed (Err stop) front is annotated right well_formed = tt

pub returns-in-Err-clause-stopped : goal.returns-in-Err-clause-stopped
returns-in-Err-clause-stopped c = by_files c.in-Err.ensures.stopped

pub returns-in-Ok-typed-clause-program : goal.returns-in-Ok-typed-clause-program
returns-in-Ok-typed-clause-program c =
    let words = map (λ (word : Bor (List ℕ)). word.now) c.args.words.now in
    let texts = c.args.texts.now in
    let input : Input = record { settings = c.args.settings.now; words = words; texts = texts } in
    let sections = c.deref.result.now in
    let sources = c.deref-2.result.now in
    let front = moved words texts c.in-Ok.trees.sections.items sections c.in-Ok.trees.sources.items sources c.deref.ensures.value c.deref-2.ensures.value c.in-Ok.ensures.front in
    program_if input sections sources c.in-Ok-typed.program c.signed.result front c.in-Ok-typed.ensures.typed c.signed.ensures.annotated c.signed.ensures.right c.signed.ensures.well_formed

pub returns-in-Ok-typed-clause-stopped : goal.returns-in-Ok-typed-clause-stopped
returns-in-Ok-typed-clause-stopped c =
    let words = map (λ (word : Bor (List ℕ)). word.now) c.args.words.now in
    let texts = c.args.texts.now in
    let input : Input = record { settings = c.args.settings.now; words = words; texts = texts } in
    let sections = c.deref.result.now in
    let sources = c.deref-2.result.now in
    let typed = c.in-Ok-typed.program in
    let front = moved words texts c.in-Ok.trees.sections.items sections c.in-Ok.trees.sources.items sources c.deref.ensures.value c.deref-2.ensures.value c.in-Ok.ensures.front in
    if_err (IsSigningStop typed) (IsProgramStop input) c.signed.result (λ stop stopped. by_signing sections sources typed front c.in-Ok-typed.ensures.typed stopped) c.signed.ensures.stopped

pub returns-clause-stopped : goal.returns-clause-stopped
returns-clause-stopped c =
    let words = map (λ (word : Bor (List ℕ)). word.now) c.args.words.now in
    let texts = c.args.texts.now in
    let sections = c.deref.result.now in
    let sources = c.deref-2.result.now in
    let front = moved words texts c.in-Ok.trees.sections.items sections c.in-Ok.trees.sources.items sources c.deref.ensures.value c.deref-2.ensures.value c.in-Ok.ensures.front in
    by_typing sections sources front c.in-Err-typed.ensures.stopped

pub returns-in-Ok-typed-clause-fields : goal.returns-in-Ok-typed-clause-fields
returns-in-Ok-typed-clause-fields c = if_ok IsWellFormed HasListedFields c.signed.result (λ p is f x found. (is.valid.typed.fields f x found).listed) c.signed.ensures.well_formed
