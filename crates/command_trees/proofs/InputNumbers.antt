-- The files of a command are no more than its words, and no longer than their texts.
use Rattle.std.proofs.Common.{◌≡◌, ap, sym, subst, arith, ℕ, suc, ◌+◌, ◌-◌, ◌<◌, ◌≤◌, ◌^◌, Bool, true, false, cond, List, [], ◌∷◌, length, map, All}
use Rattle.std.proofs.lemmas.List.{get_or-map, length-map}
use Rattle.std.proofs.lemmas.List.Elements.{All-cons}
use Rattle.program_front.specs.declared.files.InputFile.{InputFile}
use Rattle.program_front.specs.Files.{IsShort}
use Rattle.file_numbers.specs.Numbering.{is_of_kind, number_and_bytes, numbered_files}
use Rattle.stub_files.specs.CoreStub.{core_stub}
use Rattle.command_trees.specs.Inputs.{source_files, stub_files}

long_by : (b : Bool) (x : ℕ × List ℕ) (more rest : List (ℕ × List ℕ)) (n : ℕ) → length more ≤ n → length rest ≤ n → length (cond b (x ∷ more) rest) ≤ suc n
long_by true x more rest n first second = omega arith
long_by false x more rest n first second = omega arith

length-numbered : (stubs : Bool) (first : ℕ) (words texts : List (List ℕ)) → length (numbered_files stubs first words texts) ≤ length words
length-numbered stubs first [] texts = omega arith
length-numbered stubs first (w ∷ ws) [] = omega arith
length-numbered stubs first (w ∷ ws) (t ∷ ts) =
    long_by (is_of_kind stubs w) (first, t) (numbered_files stubs (first + 1) ws ts) (numbered_files stubs first ws ts) (length ws) (length-numbered stubs (first + 1) ws ts) (length-numbered stubs first ws ts)

-- there are so few stub files
pub few_stubs : (words texts : List (List ℕ)) (stubs : List InputFile) → map number_and_bytes stubs ≡ stub_files words texts → length stubs ≤ length words + 1
few_stubs words texts stubs are =
    let long = length-map stubs number_and_bytes in
    let same = ap length are in
    let few = length-numbered true 1 words texts in
    omega (arith, long, same, few)

-- ---- short files

abbrev pub IsShortText : List ℕ → Type 0
IsShortText text = length text < 2 ^ 32 - 1

abbrev IsShortFile : ℕ × List ℕ → Type 0
IsShortFile f = IsShortText f.1

short_by : (b : Bool) (x : ℕ × List ℕ) (more rest : List (ℕ × List ℕ)) → IsShortFile x → All IsShortFile more → All IsShortFile rest → All IsShortFile (cond b (x ∷ more) rest)
short_by true x more rest here first second = All-cons IsShortFile x more here first
short_by false x more rest here first second = second

short_numbered : (stubs : Bool) (first : ℕ) (words texts : List (List ℕ)) → All IsShortText texts → All IsShortFile (numbered_files stubs first words texts)
short_numbered stubs first [] texts short = λ k d h. absurd (omega arith)
short_numbered stubs first (w ∷ ws) [] short = λ k d h. absurd (omega arith)
short_numbered stubs first (w ∷ ws) (t ∷ ts) short =
    let rest : All IsShortText ts = λ j e g. short (suc j) e (omega arith) in
    short_by (is_of_kind stubs w) (first, t) (numbered_files stubs (first + 1) ws ts) (numbered_files stubs first ws ts) (short 0 t (omega arith)) (short_numbered stubs (first + 1) ws ts rest) (short_numbered stubs first ws ts rest)

short_seen : (files : List InputFile) → All IsShortFile (map number_and_bytes files) → All IsShort files
short_seen files all k d h =
    let long = length-map files number_and_bytes in
    subst IsShortFile (get_or-map number_and_bytes files k d (number_and_bytes d) h) (all k (number_and_bytes d) (omega arith))

core_short : IsShortText core_stub
core_short = omega arith

pub short_stubs : (words texts : List (List ℕ)) (stubs : List InputFile) → All IsShortText texts → map number_and_bytes stubs ≡ stub_files words texts → All IsShort stubs
short_stubs words texts stubs short are =
    short_seen stubs (subst (All IsShortFile) (sym are) (All-cons IsShortFile (0, core_stub) (numbered_files true 1 words texts) core_short (short_numbered true 1 words texts short)))

pub short_sources : (words texts : List (List ℕ)) (sources : List InputFile) → All IsShortText texts → map number_and_bytes sources ≡ source_files words texts → All IsShort sources
short_sources words texts sources short are =
    short_seen sources (subst (All IsShortFile) (sym are) (short_numbered false (length (stub_files words texts)) words texts short))
