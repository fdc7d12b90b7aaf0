-- What a settings document says: a TOML table with the keys `version`, `ignored`, `core`, and in version 2 `exact`.
use Rattle.std.specs.Prelude.{ℕ, ℤ, pos, Bool, true, false, ◌&&◌, ◌==◌, Option, Some, None, is_some, option_and_then, List, [], ◌∷◌, codes, if◌then◌else◌}
use Rattle.toml.specs.Data.{Data, Items, no_items, item, Members, no_members, member, same_key, get_member, as_array, as_bool, as_integer, as_str}

-- each item is a text
abbrev pub are_texts : Items → Bool
are_texts no_items = true
are_texts (item d ds) = is_some (as_str d) && are_texts ds

abbrev pub are_texts_in : Option Items → Bool
are_texts_in None = false
are_texts_in (Some ds) = are_texts ds

-- the value is a list of texts
abbrev pub is_text_list : Data → Bool
is_text_list d = are_texts_in (as_array d)

abbrev pub with_text : Option (List ℕ) → List (List ℕ) → List (List ℕ)
with_text None rest = rest
with_text (Some s) rest = s ∷ rest

-- the texts of a list, in their order
abbrev pub texts : Items → List (List ℕ)
texts no_items = []
texts (item d ds) = with_text (as_str d) (texts ds)

abbrev pub texts_in : Option Items → List (List ℕ)
texts_in None = []
texts_in (Some ds) = texts ds

-- the document has the version 2
abbrev pub is_two : Option ℤ → Bool
is_two (Some (pos n)) = n == 2
is_two _ = false

abbrev pub version_in : Members → Option ℤ
version_in ms = option_and_then as_integer (get_member (codes "version") ms)

abbrev pub is_second : Members → Bool
is_second ms = is_two (version_in ms)

-- the key is one of the document's, and this is a value of its type; `exact` is a key of version 2 alone
abbrev pub takes : Bool → List ℕ → Data → Bool
takes second key value =
    if same_key key (codes "version") then is_some (as_integer value)
    else (if same_key key (codes "ignored") then is_text_list value
    else (if same_key key (codes "core") then is_some (as_bool value)
    else (if same_key key (codes "exact") then (second && is_text_list value) else false)))

abbrev pub takes_all : Bool → Members → Bool
takes_all second no_members = true
takes_all second (member k d ms) = takes second k d && takes_all second ms

-- each key is known, and has a value of its type
abbrev pub is_well_keyed : Members → Bool
is_well_keyed ms = takes_all (is_second ms) ms

-- the versions that there are
abbrev pub known_version : Option ℤ → Option ℕ
known_version (Some (pos n)) = if n == 1 then Some 1 else (if n == 2 then Some 2 else None)
known_version _ = None

-- the classes whose exceptions are ignored where the settings name none (JLS 11.1.1: the unchecked exceptions)
abbrev pub default_ignored : List (List ℕ)
default_ignored = codes "java.lang.RuntimeException" ∷ codes "java.lang.Error" ∷ []

-- the texts at a key, and others where the key is absent
abbrev pub list_or : List (List ℕ) → Option Data → List (List ℕ)
list_or absent None = absent
list_or absent (Some d) = texts_in (as_array d)

abbrev pub flag_or : Bool → Option Bool → Bool
flag_or absent None = absent
flag_or absent (Some b) = b

abbrev pub ignored_in : Members → List (List ℕ)
ignored_in ms = list_or default_ignored (get_member (codes "ignored") ms)

abbrev pub exact_in : Members → List (List ℕ)
exact_in ms = list_or [] (get_member (codes "exact") ms)

abbrev pub core_in : Members → Bool
core_in ms = flag_or true (option_and_then as_bool (get_member (codes "core") ms))
