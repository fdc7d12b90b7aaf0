-- The files of a command: their names, and what was read of them.
use Rattle.std.specs.Prelude.{◌≡◌, ◌≤◌, ℕ, Option, Some, None, List, [], length, map, option_map, slice_get, get_or, drop}
use Rattle.outside.specs.Files.{Contents, max_file}
use Rattle.rlc_base.specs.declared.code.Code.TheVariants as refused
use Rattle.input_files.specs.Reading.{AreContents, Counts, CountsNoFault, IsContent, max_text, total_of}
use Rattle.input_files.specs.Inputs.{IsLimitLine, IsStopped}
use Rattle.input_files.specs.Names.{reading_list}
use Rattle.command_answers.specs.declared.answers.Answer.{Answer}
use Rattle.command_inputs.specs.declared.names.CommandNames.{CommandNames}
use Rattle.command_inputs.specs.declared.names.NamedText as named
use Rattle.command_inputs.specs.declared.names.CommandTexts.{CommandTexts}

-- the names of a command's files: the settings file and the choices file, where there are such, and the program's files
pub record FileNames : Type 0 where
  pub settings : Option (List ℕ)
  pub choices : Option (List ℕ)
  pub files : List (List ℕ)

-- a file's name and its text
pub record FileText : Type 0 where
  pub name : List ℕ
  pub text : List ℕ

-- what was read of them
pub record FileTexts : Type 0 where
  pub settings : Option FileText
  pub choices : Option FileText
  pub names : List (List ℕ)
  pub texts : List (List ℕ)

abbrev pub names_of : CommandNames → FileNames
names_of n = record {
  settings = option_map (λ name. name.now) n.settings;
  choices = option_map (λ name. name.now) n.choices;
  files = map (λ name. name.now) n.files.now;
}

abbrev pub text_of : named.NamedText → FileText
text_of t = record { name = t.name.now; text = t.bytes.now }

abbrev pub texts_of : CommandTexts → FileTexts
texts_of t = record {
  settings = option_map text_of t.settings;
  choices = option_map text_of t.choices;
  names = map (λ name. name.now) t.names.now;
  texts = t.texts.now;
}

-- all these names, in the order in which the files are read
abbrev pub list_of : FileNames → List (List ℕ)
list_of names = reading_list names.settings names.choices names.files

-- the words name at most 256 files
abbrev pub IsFew : FileNames → Type 0
IsFew names = slice_get names.files 256 ≡ None

-- the files were read, in their order, to these texts
pub record AreRead (told : Option Contents) (names : FileNames) (c : Counts) (texts : List (List ℕ)) : Type 0 where
  pub few : IsFew names
  pub contents : AreContents told (list_of names) texts
  pub total : total_of texts ≤ max_text
  pub no_fault : CountsNoFault c

-- Why the files were not read, and the answer that says so: the words name too many, or reading one stopped.
pub data IsUnread (told : Option Contents) (names : FileNames) (c : Counts) (answer : Answer) : Type 0 where
  too_many : IsLimitLine refused.TooManyFiles names.files 256 answer → CountsNoFault c → IsUnread told names c answer
  stopped : IsFew names → IsStopped told 0 (list_of names) c answer → IsUnread told names c answer

-- the text is that of the file of this name, where one is named
abbrev pub IsFileText : Option Contents → Option (List ℕ) → Option FileText → Type 0
IsFileText told None None = Unit {0}
IsFileText told (Some name) (Some file) = (file.name ≡ name) × IsContent told name file.text × (length file.text ≤ max_file)
IsFileText told None (Some file) = ⊥
IsFileText told (Some name) None = ⊥

-- all these texts, in the order in which they were read
abbrev pub all_texts : FileTexts → List (List ℕ)
all_texts files = reading_list (option_map (λ file. file.text) files.settings) (option_map (λ file. file.text) files.choices) files.texts

-- These are the texts of the files of these names, which are not too many and not too long.
pub record AreFileTexts (told : Option Contents) (names : FileNames) (files : FileTexts) : Type 0 where
  pub few : IsFew names
  pub settings : IsFileText told names.settings files.settings
  pub choices : IsFileText told names.choices files.choices
  pub same_names : files.names ≡ names.files
  pub texts : AreContents told names.files files.texts
  pub total : total_of (all_texts files) ≤ max_text

-- the file of this name, whose text is the first
abbrev pub file_in : Option (List ℕ) → List (List ℕ) → Option FileText
file_in None texts = None
file_in (Some name) texts = Some (record { name = name; text = get_or texts 0 [] })

-- the texts behind that of the file of this name
abbrev pub texts_behind : Option (List ℕ) → List (List ℕ) → List (List ℕ)
texts_behind None texts = texts
texts_behind (Some name) texts = drop 1 texts
