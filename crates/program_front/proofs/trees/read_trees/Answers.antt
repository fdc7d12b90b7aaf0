use Rattle.std.proofs.Common.{subst, sym, List}
use Rattle.std.specs.Prelude.{All}
use Rattle.program_front.specs.Files.{AreSectionsOf, IsSectionless, IsShortCut, IsUnitOf, IsUnitless}
use Rattle.program_front.specs.InTurn.{AreDone, IsStopInTurn}
use Rattle.program_front.specs.Trees.{no_stub, no_unit, uncut_source}
use Rattle.program_front.specs.declared.files.CutFile.{CutFile}
use Rattle.program_front.proofs.InTurnLaws.{shorts_of}
use Rattle.program_front.proofs.trees.read_trees.Goals as goal

pub returns-in-Err-lex_files-clause-stopped : goal.returns-in-Err-lex_files-clause-stopped
returns-in-Err-lex_files-clause-stopped c = uncut_source c.in-Ok.cut.items c.in-Ok.ensures c.in-Err-lex_files.ensures

pub parse_stubs-requires : goal.parse_stubs-requires
parse_stubs-requires c =
    subst (λ (cs : List CutFile). All IsShortCut cs) (sym c.deref.ensures.value)
    (shorts_of c.args.stubs.now c.in-Ok.cut.items c.in-Ok.ensures c.requires.stubs)

pub returns-in-Err-parse_stubs-clause-stopped : goal.returns-in-Err-parse_stubs-clause-stopped
returns-in-Err-parse_stubs-clause-stopped c =
    no_stub c.in-Ok.cut.items c.in-Ok-lex_files.cut.items c.in-Ok.ensures c.in-Ok-lex_files.ensures
    (subst (λ (cs : List CutFile). IsStopInTurn AreSectionsOf IsSectionless cs c.in-Err-parse_stubs.stop) c.deref.ensures.value c.in-Err-parse_stubs.ensures)

pub parse_sources-requires : goal.parse_sources-requires
parse_sources-requires c =
    subst (λ (cs : List CutFile). All IsShortCut cs) (sym c.deref-2.ensures.value)
    (shorts_of c.args.sources.now c.in-Ok-lex_files.cut.items c.in-Ok-lex_files.ensures c.requires.sources)

pub returns-clause-stopped : goal.returns-clause-stopped
returns-clause-stopped c =
    no_unit c.in-Ok.cut.items c.in-Ok-lex_files.cut.items c.in-Ok-parse_stubs.units.items c.in-Ok.ensures c.in-Ok-lex_files.ensures
    (subst (λ (cs : List CutFile). AreDone AreSectionsOf cs c.in-Ok-parse_stubs.units.items) c.deref.ensures.value c.in-Ok-parse_stubs.ensures)
    (subst (λ (cs : List CutFile). IsStopInTurn IsUnitOf IsUnitless cs c.in-Err-parse_sources.stop) c.deref-2.ensures.value c.in-Err-parse_sources.ensures)
