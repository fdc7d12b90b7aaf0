-- The tokens and the trees of files.
use Rattle.std.specs.Prelude.{◌≡◌, ◌-◌, ◌<◌, ◌^◌, true, false, List, map, length}
use Rattle.rlc_base.specs.declared.faults.Stop.{Stop}
use Rattle.java_syntax.specs.declared.declaration_trees.Unit as tree
use Rattle.java_syntax.specs.declared.symbols.Symbol.TheVariants as symbols
use Rattle.java_syntax.specs.Derives.{Lexeme}
use Rattle.java_syntax.specs.DeclarationTrees.{unit_of}
use Rattle.java_lexer.specs.Cut.{IsCut, IsStopAt, HasNoCut, place_behind}
use Rattle.java_parser.specs.FileTrees.{IsUnitTree, IsStubTree, IsFileStop, HasNoUnit, HasNoStub, lexemes}
use Rattle.program_front.specs.declared.files.CutFile.{CutFile}
use Rattle.program_front.specs.declared.files.InputFile.{InputFile}
use Rattle.std.specs.Prelude.{Vec}
use Rattle.std.specs.declared.alloc.Global.{Global}

-- places in the file fit into 32 bits
abbrev pub IsShort : InputFile → Type 0
IsShort f = length f.bytes.now < 2 ^ 32 - 1

abbrev pub IsShortCut : CutFile → Type 0
IsShortCut c = IsShort c.file

-- the file is cut into these tokens
abbrev pub IsCutOf : InputFile → CutFile → Type 0
IsCutOf f c = (c.file ≡ f) × IsCut f.number f.bytes.now c.tokens.items

-- the bytes of the file have no cut into tokens, by this stop
abbrev pub IsUncut : InputFile → Stop → Type 0
IsUncut f stop = IsStopAt f.number f.bytes.now stop × HasNoCut f.number f.bytes.now stop

-- what the grammar sees of the file
abbrev pub lexemes_of : CutFile → List Lexeme
lexemes_of c = lexemes c.file.bytes.now c.tokens.items

-- the tokens are those of a source file with this tree
abbrev pub IsUnitOf : CutFile → tree.Unit → Type 0
IsUnitOf c unit = IsUnitTree (lexemes_of c) (unit_of unit)

-- the tokens are those of no source file, by this stop
abbrev pub IsUnitless : CutFile → Stop → Type 0
IsUnitless c stop = IsFileStop false symbols.CompilationUnit (lexemes_of c) (place_behind c.file.number c.file.bytes.now) stop × HasNoUnit (lexemes_of c) stop

-- the tokens are those of a stub file with these sections
abbrev pub AreSectionsOf : CutFile → Vec tree.Unit Global → Type 0
AreSectionsOf c sections = IsStubTree (lexemes_of c) (map unit_of sections.items)

-- the tokens are those of no stub file, by this stop
abbrev pub IsSectionless : CutFile → Stop → Type 0
IsSectionless c stop = IsFileStop true symbols.StubFile (lexemes_of c) (place_behind c.file.number c.file.bytes.now) stop × HasNoStub (lexemes_of c) stop
