-- A file has one cut or one refusal, and a cut file one tree or one stop.
use Rattle.std.proofs.Common.{◌≡◌, ◌∙◌, ap, subst, sym, ℕ, Bool, true, false, List, [], ◌∷◌, map}
use Rattle.std.specs.Prelude.{Vec}
use Rattle.std.specs.declared.alloc.Global.{Global}
use Rattle.rlc_base.specs.declared.faults.Stop.{Stop}
use Rattle.rlc_base.specs.declared.faults.Stop.TheVariants as stops
use Rattle.rlc_base.specs.declared.place.Pos.{Pos}
use Rattle.java_syntax.specs.DeclarationTrees.{unit_of}
use Rattle.java_syntax.specs.Derives.{Lexeme}
use Rattle.java_syntax.specs.declared.declaration_trees.Unit as tree
use Rattle.java_syntax.specs.declared.symbols.Symbol.{Symbol}
use Rattle.java_syntax.specs.declared.symbols.Symbol.TheVariants as symbols
use Rattle.java_syntax.specs.declared.tokens.Token.{Token}
use Rattle.java_lexer.specs.Cut.{IsCut, IsStopAt, place_behind}
use Rattle.program_front.specs.FileTrees.{IsFileStop, IsStubTree, IsUnitTree, lexemes}
use Rattle.reading_laws.proofs.OneCut.{no_stop, one_cut, one_stop}
use Rattle.reading_laws.proofs.OneTree.{not_deep, one_deep, one_stub, one_unit, one_wrong, stub_stops, unit_stops}
use Rattle.program_front.specs.Files.{AreSectionsOf, IsCutOf, IsSectionless, IsUncut, IsUnitOf, IsUnitless, lexemes_of}
use Rattle.program_front.specs.InTurn.{AreDone}
use Rattle.program_front.specs.declared.files.CutFile.{CutFile}
use Rattle.program_front.specs.declared.files.InputFile.{InputFile}
use Rattle.program_reading.specs.Numbering.{number_and_bytes}
use Rattle.reading_laws.specs.SameTrees.{AreSameStops}

-- ---- files

pub record AreSameFiles (f g : InputFile) : Type 0 where
  pub numbers : f.number ≡ g.number
  pub bytes : f.bytes.now ≡ g.bytes.now

first_pair : (f g : ℕ × List ℕ) (fs gs : List (ℕ × List ℕ)) → f ∷ fs ≡ g ∷ gs → f ≡ g
first_pair f g fs gs h = cc

rest_pairs : (f g : ℕ × List ℕ) (fs gs : List (ℕ × List ℕ)) → f ∷ fs ≡ g ∷ gs → fs ≡ gs
rest_pairs f g fs gs h = cc

no_pairs : (f : ℕ × List ℕ) (fs : List (ℕ × List ℕ)) → [] ≡ f ∷ fs → ⊥
no_pairs f fs h = cc

pub same_files : (fs gs : List InputFile) → map number_and_bytes fs ≡ map number_and_bytes gs → AreDone AreSameFiles fs gs
same_files [] [] h = tt
same_files [] (g ∷ gs) h = no_pairs _ _ h
same_files (f ∷ fs) [] h = no_pairs _ _ (sym h)
same_files (f ∷ fs) (g ∷ gs) h =
    let first = first_pair (number_and_bytes f) (number_and_bytes g) (map number_and_bytes fs) (map number_and_bytes gs) h in
    (record { numbers = ap (λ (p : ℕ × List ℕ). p.0) first; bytes = ap (λ (p : ℕ × List ℕ). p.1) first }, same_files fs gs (rest_pairs _ _ _ _ h))

-- ---- cuts

pub record AreSameCuts (c d : CutFile) : Type 0 where
  pub numbers : c.file.number ≡ d.file.number
  pub bytes : c.file.bytes.now ≡ d.file.bytes.now
  pub tokens : c.tokens.items ≡ d.tokens.items

moved_cut : (m n : ℕ) (bs cs : List ℕ) (tokens : List Token) → m ≡ n → bs ≡ cs → IsCut m bs tokens → IsCut n cs tokens
moved_cut m n bs cs tokens e f cut = subst (λ (k : ℕ). IsCut k cs tokens) e (subst (λ (b : List ℕ). IsCut m b tokens) f cut)

moved_stop : (m n : ℕ) (bs cs : List ℕ) (stop : Stop) → m ≡ n → bs ≡ cs → IsStopAt m bs stop → IsStopAt n cs stop
moved_stop m n bs cs stop e f stopped = subst (λ (k : ℕ). IsStopAt k cs stop) e (subst (λ (b : List ℕ). IsStopAt m b stop) f stopped)

pub same_cuts : (f g : InputFile) (c d : CutFile) → AreSameFiles f g → IsCutOf f c → IsCutOf g d → AreSameCuts c d
same_cuts f g c d same cut other = record {
  numbers = ap (λ (x : InputFile). x.number) cut.0 ∙ same.numbers ∙ sym (ap (λ (x : InputFile). x.number) other.0);
  bytes = ap (λ (x : InputFile). x.bytes.now) cut.0 ∙ same.bytes ∙ sym (ap (λ (x : InputFile). x.bytes.now) other.0);
  tokens = one_cut g.number g.bytes.now c.tokens.items d.tokens.items (moved_cut f.number g.number f.bytes.now g.bytes.now c.tokens.items same.numbers same.bytes cut.1) other.1;
}

-- ---- stops

pub cut_goes_on : (stop : Stop) → (stop ≡ stops.NoMemory → ⊥) → (f g : InputFile) (c : CutFile) → AreSameFiles f g → IsCutOf f c → IsUncut g stop → ⊥
cut_goes_on stop no_want f g c same cut uncut = no_want (no_stop g.number g.bytes.now c.tokens.items stop (moved_cut f.number g.number f.bytes.now g.bytes.now c.tokens.items same.numbers same.bytes cut.1) uncut.0)

pub same_uncut : (stop other : Stop) (f g : InputFile) → AreSameFiles f g → IsUncut f stop → IsUncut g other → AreSameStops stop other
same_uncut stops.NoMemory other f g same uncut also = tt
same_uncut (stops.TooMuch r) other f g same uncut also = absurd uncut.0
same_uncut (stops.Refused r) (stops.Refused q) f g same uncut also =
    one_stop g.number g.bytes.now r q (moved_stop f.number g.number f.bytes.now g.bytes.now (stops.Refused r) same.numbers same.bytes uncut.0) also.0
same_uncut (stops.Refused r) (stops.TooMuch q) f g same uncut also = absurd also.0
same_uncut (stops.Refused r) stops.NoMemory f g same uncut also = tt

-- ---- trees

same_lexemes : (c d : CutFile) → AreSameCuts c d → lexemes_of c ≡ lexemes_of d
same_lexemes c d same = λ i. lexemes (same.bytes i) (same.tokens i)

same_end : (c d : CutFile) → AreSameCuts c d → place_behind c.file.number c.file.bytes.now ≡ place_behind d.file.number d.file.bytes.now
same_end c d same = λ i. place_behind (same.numbers i) (same.bytes i)

abbrev pub AreSameUnits : tree.Unit → tree.Unit → Type 0
AreSameUnits u v = unit_of u ≡ unit_of v

abbrev pub AreSameSections : Vec tree.Unit Global → Vec tree.Unit Global → Type 0
AreSameSections u v = map unit_of u.items ≡ map unit_of v.items

pub same_unit : (c d : CutFile) (u v : tree.Unit) → AreSameCuts c d → IsUnitOf c u → IsUnitOf d v → AreSameUnits u v
same_unit c d u v same is also = one_unit (lexemes_of d) (unit_of u) (unit_of v) (subst (λ (ts : List Lexeme). IsUnitTree ts (unit_of u)) (same_lexemes c d same) is) also

pub same_sections : (c d : CutFile) (u v : Vec tree.Unit Global) → AreSameCuts c d → AreSectionsOf c u → AreSectionsOf d v → AreSameSections u v
same_sections c d u v same is also =
    one_stub (lexemes_of d) (map unit_of u.items) (map unit_of v.items) (subst (λ (ts : List Lexeme). IsStubTree ts (map unit_of u.items)) (same_lexemes c d same) is) also

pub unit_goes_on : (stop : Stop) → (stop ≡ stops.NoMemory → ⊥) → (c d : CutFile) (u : tree.Unit) → AreSameCuts c d → IsUnitOf c u → IsUnitless d stop → ⊥
unit_goes_on stop no_want c d u same is unitless =
    no_want (unit_stops (lexemes_of d) (unit_of u) (place_behind d.file.number d.file.bytes.now) stop (subst (λ (ts : List Lexeme). IsUnitTree ts (unit_of u)) (same_lexemes c d same) is) unitless.0)

pub sections_go_on : (stop : Stop) → (stop ≡ stops.NoMemory → ⊥) → (c d : CutFile) (u : Vec tree.Unit Global) → AreSameCuts c d → AreSectionsOf c u → IsSectionless d stop → ⊥
sections_go_on stop no_want c d u same are sectionless =
    no_want (stub_stops (lexemes_of d) (map unit_of u.items) (place_behind d.file.number d.file.bytes.now) stop (subst (λ (ts : List Lexeme). IsStubTree ts (map unit_of u.items)) (same_lexemes c d same) are) sectionless.0)

file_stops : (stub : Bool) (symbol : Symbol) (tokens : List Lexeme) (end : Pos) (stop other : Stop) → IsFileStop stub symbol tokens end stop → IsFileStop stub symbol tokens end other → AreSameStops stop other
file_stops stub symbol tokens end stops.NoMemory other h g = tt
file_stops stub symbol tokens end (stops.Refused r) (stops.Refused q) h g = one_wrong stub symbol tokens end r q h g
file_stops stub symbol tokens end (stops.Refused r) (stops.TooMuch q) h g = not_deep stub symbol tokens end r q h g
file_stops stub symbol tokens end (stops.Refused r) stops.NoMemory h g = tt
file_stops stub symbol tokens end (stops.TooMuch r) (stops.Refused q) h g = not_deep stub symbol tokens end q r g h
file_stops stub symbol tokens end (stops.TooMuch r) (stops.TooMuch q) h g = one_deep stub symbol tokens end r q h g
file_stops stub symbol tokens end (stops.TooMuch r) stops.NoMemory h g = tt

moved_file_stop : (stub : Bool) (symbol : Symbol) (c d : CutFile) (stop : Stop) → AreSameCuts c d → IsFileStop stub symbol (lexemes_of c) (place_behind c.file.number c.file.bytes.now) stop
    → IsFileStop stub symbol (lexemes_of d) (place_behind d.file.number d.file.bytes.now) stop
moved_file_stop stub symbol c d stop same h =
    subst (λ (end : Pos). IsFileStop stub symbol (lexemes_of d) end stop) (same_end c d same)
    (subst (λ (ts : List Lexeme). IsFileStop stub symbol ts (place_behind c.file.number c.file.bytes.now) stop) (same_lexemes c d same) h)

pub same_unitless : (stop other : Stop) (c d : CutFile) → AreSameCuts c d → IsUnitless c stop → IsUnitless d other → AreSameStops stop other
same_unitless stop other c d same is also =
    file_stops false symbols.CompilationUnit (lexemes_of d) (place_behind d.file.number d.file.bytes.now) stop other (moved_file_stop false symbols.CompilationUnit c d stop same is.0) also.0

pub same_sectionless : (stop other : Stop) (c d : CutFile) → AreSameCuts c d → IsSectionless c stop → IsSectionless d other → AreSameStops stop other
same_sectionless stop other c d same is also =
    file_stops true symbols.StubFile (lexemes_of d) (place_behind d.file.number d.file.bytes.now) stop other (moved_file_stop true symbols.StubFile c d stop same is.0) also.0
