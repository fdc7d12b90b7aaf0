-- The files of a command and their numbers. File 0 is the core stub. Then come the stub files that the words name, numbered from 1 on,
-- and behind them the Java sources, each group in the order of the words. A word has its text at the same place.
use Rattle.std.specs.Prelude.{◌≡◌, ℕ, true, false, Some, List, ◌∷◌, ◌++◌, map, filter, length, slice_get, codes}
use Rattle.program_front.specs.declared.files.InputFile.{InputFile}
use Rattle.file_numbers.specs.Numbering.{is_of_kind, numbered_files, number_and_bytes}
use Rattle.stub_files.specs.CoreStub.{core_stub}

-- the names of the files by their numbers, as refusals and reports show them
abbrev pub file_names : List (List ℕ) → List (List ℕ)
file_names words = codes "core.astub" ∷ filter (is_of_kind true) words ++ filter (is_of_kind false) words

-- the stub files by their numbers and bytes
abbrev pub stub_files : List (List ℕ) → List (List ℕ) → List (ℕ × List ℕ)
stub_files words texts = (0, core_stub) ∷ numbered_files true 1 words texts

-- the Java sources by their numbers and bytes
abbrev pub source_files : List (List ℕ) → List (List ℕ) → List (ℕ × List ℕ)
source_files words texts = numbered_files false (length (stub_files words texts)) words texts

-- these are the stub files and the Java sources of the words
pub record AreFiles (words texts : List (List ℕ)) (stubs sources : List InputFile) : Type 0 where
  pub numbered_stubs : map number_and_bytes stubs ≡ stub_files words texts
  pub numbered_sources : map number_and_bytes sources ≡ source_files words texts

-- the file with this number and these bytes is that of a word, which stands at the number among the names
pub record IsFileOfWord (words texts : List (List ℕ)) (number : ℕ) (bytes : List ℕ) : Type 0 where
  pub place : ℕ
  pub word : List ℕ
  pub word_is : slice_get words place ≡ Some word
  pub text_is : slice_get texts place ≡ Some bytes
  pub name_is : slice_get (file_names words) number ≡ Some word
