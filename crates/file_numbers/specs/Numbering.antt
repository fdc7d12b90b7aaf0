-- The numbers of the files that the words name.
use Rattle.std.specs.Prelude.{ℕ, ◌+◌, ◌-◌, Bool, true, false, not, List, [], ◌∷◌, drop, length, codes, if◌then◌else◌}
use Rattle.std.specs.Str.{bytes_eq}
use Rattle.program_front.specs.declared.files.InputFile.{InputFile}

-- the word ends in `.astub`
abbrev pub is_stub_name : List ℕ → Bool
is_stub_name name = bytes_eq (drop (length name - 6) name) (codes ".astub")

abbrev pub number_and_bytes : InputFile → ℕ × List ℕ
number_and_bytes f = (f.number, f.bytes.now)

-- the word names a file of the kind: a stub file, or a Java source
abbrev pub is_of_kind : Bool → List ℕ → Bool
is_of_kind true name = is_stub_name name
is_of_kind false name = not (is_stub_name name)

-- the files of a kind among these, in their order and numbered from here on
abbrev pub numbered_files : Bool → ℕ → List (List ℕ) → List (List ℕ) → List (ℕ × List ℕ)
numbered_files stubs first [] texts = []
numbered_files stubs first (name ∷ names) [] = []
numbered_files stubs first (name ∷ names) (text ∷ texts) =
    if is_of_kind stubs name then (first, text) ∷ numbered_files stubs (first + 1) names texts else numbered_files stubs first names texts
