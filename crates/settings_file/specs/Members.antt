-- A table whose keys are put in one by one.
use Rattle.std.specs.Prelude.{ℕ, pos, List, [], ◌∷◌, codes}
use Rattle.std.specs.Ordering.{nat_cmp, match_ordering}
use Rattle.std.specs.Cmp.Lexicographic.{slice_cmp}
use Rattle.toml.specs.Data.{Data, string, integer, boolean, array, Items, no_items, item, Members, no_members, member}
use Rattle.java_syntax.specs.declared.settings.Settings.{Settings}

-- the members with this value at the key, in the order of the keys
abbrev pub put_member : List ℕ → Data → Members → Members
put_member k d no_members = member k d no_members
put_member k d (member l x ms) = match_ordering (slice_cmp nat_cmp k l) (member k d (member l x ms)) (member l d ms) (member l x (put_member k d ms))

-- texts as the items of a list
abbrev pub text_items : List (List ℕ) → Items
text_items [] = no_items
text_items (x ∷ xs) = item (string x) (text_items xs)

-- the settings as a document of version 2
abbrev pub members_of : Settings → Members
members_of s =
    member (codes "core") (boolean s.core) (member (codes "exact") (array (text_items s.exact.items))
    (member (codes "ignored") (array (text_items s.ignored.items)) (member (codes "version") (integer (pos 2)) no_members)))
