-- Reading in several parts is reading all of it.
use Rattle.std.proofs.Common.{◌≡◌, ◌≤◌, ◌+◌, ◌++◌, ◌∷◌, [], ap, sym, arith, append-nil, ℕ, List, Option}
use Rattle.outside.specs.Files.{Contents}
use Rattle.input_files.specs.Reading.{AreContents, Counts, CountsNoFault, max_text, total_of}
use Rattle.input_files.specs.Names.{optional_name}
use Rattle.input_files.proofs.LaterCounts.{AreLater, longer_from, none_from}
use Rattle.command_answers.specs.declared.answers.Answer.{Answer}
use Rattle.command_inputs.specs.Inputs.{FileNames, IsFew, list_of}
use Rattle.command_inputs.specs.Limited.{AreReadBeside, IsLimitedStop, IsLimitedText, LimitedName, failed, first_names, too_long}

pub total_append : (xs ys : List (List ℕ)) → total_of (xs ++ ys) ≡ total_of xs + total_of ys
total_append [] ys = omega arith
total_append (x ∷ xs) ys = let rest = total_append xs ys in omega (arith, rest)

pub contents_append : (told : Option Contents) (names more : List (List ℕ)) (texts others : List (List ℕ)) → AreContents told names texts → AreContents told more others
    → AreContents told (names ++ more) (texts ++ others)
contents_append told [] more [] others are also = also
contents_append told [] more (t ∷ ts) others are also = absurd are
contents_append told (n ∷ ns) more [] others are also = absurd are
contents_append told (n ∷ ns) more (t ∷ ts) others (content, fits, rest) also = (content, fits, contents_append told ns more ts others rest also)

-- the files of a command are the first ones and the program's
pub all_names : (names : FileNames) → first_names names ++ names.files ≡ list_of names
all_names names = ap (λ (xs : List (List ℕ)). xs ++ names.files) (append-nil (optional_name names.settings ++ optional_name names.choices))

pub limited_from : (told : Option Contents) (x : LimitedName) (c later : Counts) (answer : Answer) → AreLater c later → IsLimitedStop told x later answer → IsLimitedStop told x c answer
limited_from told x c later answer are (failed rose outcome text) = failed (rw (sym are.before) (rw (sym are.now) rose)) outcome text
limited_from told x c later answer are (too_long longer none outcome text) = too_long (longer_from x.most told x.name c later are longer) (none_from c later are none) outcome text

-- all was read
pub read_all_parts : (told : Option Contents) (names : FileNames) (x : LimitedName) (c : Counts) (first more texts : List (List ℕ)) (text : List ℕ)
    → IsFew names → AreContents told (first_names names) first → IsLimitedText told x text → AreContents told names.files more → texts ≡ first ++ more → total_of texts ≤ max_text → CountsNoFault c
    → AreReadBeside told names x c texts text
read_all_parts told names x c first more texts text few before limited behind are total none = record {
  are = record {
    few = few;
    contents = rw (are, sym (all_names names)) (contents_append told (first_names names) names.files first more before behind);
    total = total;
    no_fault = none;
  };
  limited = limited;
}
