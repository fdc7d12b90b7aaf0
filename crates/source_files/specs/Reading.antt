-- What it is that several files were read, one after another, or that reading them stopped at one.
use Rattle.std.specs.Prelude.{◌≡◌, ◌<◌, ◌≤◌, ◌+◌, ◌++◌, ◌∷◌, [], ℕ, List, length, Option, None, Some, Result, Ok, Err, Vec}
use Rattle.outside.specs.Counts.{Rose}
use Rattle.outside.specs.Files.{Contents, HasFile, TakesMore, file, max_file}
use Rattle.source_files.specs.declared.stops.ReadingStop.{ReadingStop}
use Rattle.source_files.specs.declared.stops.ReadingStop.TheVariants.{Failed, TooBig, TooMuch, NoMemory}

-- the most bytes that all files of a command may have together
abbrev pub max_text : ℕ
max_text = 16777216

abbrev pub total_of : List (List ℕ) → ℕ
total_of [] = 0
total_of (text ∷ texts) = length text + total_of texts

-- the bytes are the content of the file of this name, where contents are told
abbrev pub IsContent : Option Contents → List ℕ → List ℕ → Type 0
IsContent None name bytes = Unit {0}
IsContent (Some files) name bytes = file files name ≡ Some bytes

-- the texts are those of the files of these names, and none is too long
abbrev pub AreContents : Option Contents → List (List ℕ) → List (List ℕ) → Type 0
AreContents told [] [] = Unit {0}
AreContents told (name ∷ names) (text ∷ texts) = IsContent told name text × (length text ≤ max_file) × AreContents told names texts
AreContents told [] (text ∷ texts) = ⊥
AreContents told (name ∷ names) [] = ⊥

-- The first so many files were read, and have not too much text together with the bytes that were held before; then comes the file of this
-- name.
pub record Reaches (told : Option Contents) (held : ℕ) (names : List (List ℕ)) (at : ℕ) (name : List ℕ) (texts : List (List ℕ)) : Type 0 where
  pub before : List (List ℕ)
  pub behind : List (List ℕ)
  pub split : names ≡ before ++ name ∷ behind
  pub count : length texts ≡ at
  pub read : AreContents told before texts
  pub few : held + total_of texts ≤ max_text

-- how the counts of the files stood before and stand after
pub record Counts : Type 0 where
  pub faults : ℕ
  pub faults_now : ℕ
  pub taken : ℕ
  pub taken_now : ℕ

abbrev pub CountsNoFault : Counts → Type 0
CountsNoFault c = c.faults_now ≡ c.faults

-- the file has more than so many bytes
abbrev pub IsLonger : ℕ → Option Contents → List ℕ → Counts → Type 0
IsLonger most None name c = TakesMore most c.taken c.taken_now
IsLonger most (Some files) name c = (bytes : List ℕ) × (file files name ≡ Some bytes) × (most < length bytes)

-- the file has more bytes than a file may have
abbrev pub IsTooBig : Option Contents → List ℕ → Counts → Type 0
IsTooBig told name c = IsLonger max_file told name c

-- the file has these bytes, and passes with them what all files may have together
pub record IsPast (told : Option Contents) (held : ℕ) (name : List ℕ) (texts : List (List ℕ)) : Type 0 where
  pub bytes : List ℕ
  pub content : IsContent told name bytes
  pub fits : length bytes ≤ max_file
  pub past : max_text < held + total_of texts + length bytes

-- Why reading these files ended so, where so many bytes were held before. Want of memory is always a reason.
abbrev pub IsReading : {A : Type 0} → Option Contents → ℕ → List (List ℕ) → Counts → Result (Vec (List ℕ) A) ReadingStop → Type 0
IsReading told held names c (Ok texts) = AreContents told names texts.items × (held + total_of texts.items ≤ max_text) × CountsNoFault c
IsReading told held names c (Err (Failed at)) = (name : List ℕ) × (texts : List (List ℕ)) × Reaches told held names at name texts × Rose c.faults c.faults_now
IsReading told held names c (Err (TooBig at)) = (name : List ℕ) × (texts : List (List ℕ)) × Reaches told held names at name texts × IsTooBig told name c × CountsNoFault c
IsReading told held names c (Err (TooMuch at)) = (name : List ℕ) × (texts : List (List ℕ)) × Reaches told held names at name texts × IsPast told held name texts × CountsNoFault c
IsReading told held names c (Err NoMemory) = CountsNoFault c

-- all files are there, where contents are told
abbrev pub HasAll : Option Contents → List (List ℕ) → Type 0
HasAll None names = ⊥
HasAll (Some files) [] = Unit {0}
HasAll (Some files) (name ∷ names) = HasFile files name × HasAll (Some files) names

-- the file is there, where contents are told
abbrev pub HasNamed : Option Contents → List ℕ → Type 0
HasNamed None name = ⊥
HasNamed (Some files) name = HasFile files name

-- why reading one file ended so, where the files before it have so many bytes
abbrev pub IsOneReading : Option Contents → List ℕ → ℕ → ℕ → Counts → Result (List ℕ) ReadingStop → Type 0
IsOneReading told name at total c (Ok text) = IsContent told name text × (length text ≤ max_file) × (total + length text ≤ max_text) × CountsNoFault c
IsOneReading told name at total c (Err (Failed n)) = (n ≡ at) × Rose c.faults c.faults_now
IsOneReading told name at total c (Err (TooBig n)) = (n ≡ at) × IsTooBig told name c × CountsNoFault c
IsOneReading told name at total c (Err (TooMuch n)) = (n ≡ at) × ((bytes : List ℕ) × IsContent told name bytes × (length bytes ≤ max_file) × (max_text < total + length bytes)) × CountsNoFault c
IsOneReading told name at total c (Err NoMemory) = CountsNoFault c
