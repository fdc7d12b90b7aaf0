-- What the table of printed settings says.
use Rattle.std.proofs.Common.{◌≡◌, ℕ, ◌≤◌, true, List, [], ◌∷◌, map, Some, String, Global, Ordering, Less, Equal, Greater, string_bytes, refl, ap, arith}
use Rattle.std.specs.Ordering.{match_ordering}
use Rattle.std.specs.BTreeMap.{insert_entry}
use Rattle.std.specs.String.{string_cmp}
use Rattle.std.specs.Str.{IsUtf8}
use Rattle.toml.specs.Parse.{parse_document}
use Rattle.toml.specs.Data.{string, item, member, items_depth, members_depth}
use Rattle.toml.specs.View.{view, items_of, members_view}
use Rattle.toml.specs.declared.value.Value.{Value}
use Rattle.java_syntax.specs.declared.settings.Settings.{Settings}
use Rattle.settings_file.specs.Document.{are_texts, is_well_keyed, texts}
use Rattle.settings_file.specs.Members.{members_of, put_member, text_items}
use Rattle.settings_file.specs.Reading.{SaysSame}

abbrev Entry : Type 0
Entry = String Global × Value

put_at : (o : Ordering) (k : String Global) (v : Value) (e : Entry) (es : List (String Global × Value)) → members_view (insert_entry string_cmp es k v) ≡ put_member (string_bytes k) (view v) (members_view es)
    → members_view (match_ordering o ((k, v) ∷ e ∷ es) ((e.0, v) ∷ es) (e ∷ insert_entry string_cmp es k v))
    ≡ match_ordering o (member (string_bytes k) (view v) (members_view (e ∷ es))) (member (string_bytes e.0) (view v) (members_view es)) (member (string_bytes e.0) (view e.1) (put_member (string_bytes k) (view v) (members_view es)))
put_at Less k v e es same = refl
put_at Equal k v e es same = refl
put_at Greater k v e es same = ap (member (string_bytes e.0) (view e.1)) same

pub put_view : (k : String Global) (v : Value) (es : List (String Global × Value)) → members_view (insert_entry string_cmp es k v) ≡ put_member (string_bytes k) (view v) (members_view es)
put_view k v [] = refl
put_view k v (e ∷ es) = put_at (string_cmp k e.0) k v e es (put_view k v es)

pub text_items_shallow : (xs : List (List ℕ)) → items_depth (text_items xs) ≡ 0
text_items_shallow [] = refl
text_items_shallow (x ∷ xs) = rw (text_items_shallow xs) refl

pub text_items_texts : (xs : List (List ℕ)) → are_texts (text_items xs) ≡ true
text_items_texts [] = refl
text_items_texts (x ∷ xs) = text_items_texts xs

pub texts_text_items : (xs : List (List ℕ)) → texts (text_items xs) ≡ xs
texts_text_items [] = refl
texts_text_items (x ∷ xs) = ap (λ ys. x ∷ ys) (texts_text_items xs)

pub text_items_map : (xs : List (List ℕ)) → items_of (map string xs) ≡ text_items xs
text_items_map [] = refl
text_items_map (x ∷ xs) = ap (item (string x)) (text_items_map xs)

pub shallow : (s : Settings) → members_depth (members_of s) ≤ 80
shallow s = rw (text_items_shallow s.exact.items, text_items_shallow s.ignored.items) (omega arith)

well_keyed : (s : Settings) → is_well_keyed (members_of s) ≡ true
well_keyed s = rw (text_items_texts s.exact.items, text_items_texts s.ignored.items) refl

-- a text that reads as the table of the settings says the same
pub says_same : (s : Settings) (text : List ℕ) → IsUtf8 text → parse_document text ≡ Some (members_of s) → SaysSame s text
says_same s text utf8 parsed = record {
  members = members_of s;
  document = record { utf8 = utf8; parsed = parsed };
  keys = well_keyed s;
  version = refl;
  ignored = texts_text_items s.ignored.items;
  exact = texts_text_items s.exact.items;
  core = refl;
}
