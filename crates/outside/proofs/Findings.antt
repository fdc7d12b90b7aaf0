-- How a scan from the front finds the file of a name.
use Rattle.std.proofs.Common.{◌≡◌, ℕ, List}
use Rattle.std.specs.Ordering.{nat_cmp}
use Rattle.std.specs.Cmp.Lexicographic.{slice_cmp, nat_list_cmp_total, texts_ties}
use Rattle.std.specs.FinMap.{get, find, from_entries, get-from_entries}

pub get_found : (files : List (List ℕ × List ℕ)) (name : List ℕ) → get (from_entries {R = slice_cmp nat_cmp} files) name ≡ find (slice_cmp nat_cmp) name files
get_found files name = get-from_entries nat_list_cmp_total files name

pub ruleset findings = (get_found, texts_ties)
