-- There are as many texts as files that were read.
use Rattle.std.proofs.Common.{◌≡◌, ◌∷◌, [], ap, refl, ℕ, suc, List, length, Option}
use Rattle.outside.specs.Files.{Contents}
use Rattle.input_files.specs.Reading.{AreContents, Counts}
use Rattle.command_inputs.specs.Inputs.{AreRead, FileNames, list_of}

as_many : (told : Option Contents) (names texts : List (List ℕ)) → AreContents told names texts → length texts ≡ length names
as_many told [] [] read = refl
as_many told [] (text ∷ texts) read = absurd read
as_many told (name ∷ names) [] read = absurd read
as_many told (name ∷ names) (text ∷ texts) (content, fits, rest) = ap (λ n. suc n) (as_many told names texts rest)

pub read_as_many : (told : Option Contents) (names : FileNames) (c : Counts) (texts : List (List ℕ)) → AreRead told names c texts → length texts ≡ length (list_of names)
read_as_many told names c texts read = as_many told (list_of names) texts read.contents
