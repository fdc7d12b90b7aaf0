-- The files that a command reads are few and short.
use Rattle.std.proofs.Common.{◌≡◌, ◌<◌, ◌≤◌, ◌-◌, ◌^◌, ◌∷◌, ◌∙◌, [], ap, sym, arith, ℕ, List, length, Option, Some, None, inl, inr, All}
use Rattle.std.specs.Prelude.{slice_get}
use Rattle.std.proofs.lemmas.List.Elements.{All-cons}
use Rattle.std.proofs.lemmas.Option.{slice_get_cases}
use Rattle.outside.specs.Files.{Contents}
use Rattle.source_files.specs.Reading.{AreContents}
use Rattle.command_inputs.specs.Inputs.{AreFileTexts, FileNames, FileTexts}
use Rattle.command_programs.specs.Programs.{IsShort}

abbrev IsShortText : List ℕ → Type 0
IsShortText text = length text < 2 ^ 32 - 1

few_names : (names : List (List ℕ)) → slice_get names 256 ≡ None → length names ≤ 256
few_names names none = elim (slice_get_cases names 256).1 [ inl h ↦ absurd (let no : Some h.0 ≡ None = sym h.2 ∙ none in cc) | inr h ↦ h.0 ]

short_texts : (told : Option Contents) (names texts : List (List ℕ)) → AreContents told names texts → All IsShortText texts
short_texts told [] [] read k d h = absurd (omega arith)
short_texts told (name ∷ names) [] read k d h = absurd read
short_texts told [] (text ∷ texts) read k d h = absurd read
short_texts told (name ∷ names) (text ∷ texts) (content, fits, rest) k d h = All-cons IsShortText text texts (omega (arith, fits)) (short_texts told names texts rest) k d h

pub read_short : (told : Option Contents) (names : FileNames) (files : FileTexts) → AreFileTexts told names files → IsShort files
read_short told names files read =
    let few : length names.files ≤ 256 = few_names names.files read.few in
    let many : length files.names ≡ length names.files = ap length read.same_names in
    record { few = omega (arith, few, many); short = short_texts told names.files files.texts read.texts }
