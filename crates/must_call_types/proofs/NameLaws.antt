-- The table of names, annotation by annotation.
use Rattle.std.proofs.Common.{◌≡◌, ◌∙◌, ℕ, ◌+◌, ◌<◌, ◌≤◌, Bool, true, false, Some, List, [], ◌∷◌, ◌++◌, fold, map, take, drop, length, get_or, nat_lt, if◌then◌else◌, ap, ap₂, subst, sym, arith, suc, length-append}
use Rattle.std.proofs.Math.Seq.{drop-cons}
use Rattle.std.proofs.lemmas.Bool.Decides.{nat_tests}
use Rattle.std.proofs.lemmas.List.{get_or-map, take-append-drop}
use Rattle.std.proofs.lemmas.List.Sums.{fold-append, fold_more}
use Rattle.rlc_base.specs.Names.{place_of, with_name, Lacks}
use Rattle.program_model.specs.declared.program.RawAnno.{RawAnno}
use Rattle.annotation_kinds.specs.Annotations.{names_listed}
use Rattle.must_call_types.specs.NameTable.{past_limit, with_names}

-- ---- a table never shrinks

longer_by : (names : List (List ℕ)) (name : List ℕ) (held : Bool) → length names ≤ length (if held then names else names ++ name ∷ [])
longer_by names name true = omega arith
longer_by names name false = let len = length-append names (name ∷ []) in omega (arith, len)

with_name_longer : (names : List (List ℕ)) (name : List ℕ) → length names ≤ length (with_name names name)
with_name_longer names name = longer_by names name (nat_lt (place_of names name) (length names))

fold_longer : (names texts : List (List ℕ)) → length names ≤ length (fold with_name names texts)
fold_longer names [] = omega arith
fold_longer names (text ∷ texts) =
    let one = with_name_longer names text in
    let rest = fold_longer (with_name names text) texts in
    omega (arith, one, rest)

-- a name that the table lacks is put at its end
new_name : (names : List (List ℕ)) (name : List ℕ) → Lacks names name → length (with_name names name) ≡ length names + 1
new_name names name lacks =
    let no : nat_lt (place_of names name) (length names) ≡ false = grind (arith, nat_tests) in
    ap (λ b. length (if b then names else names ++ name ∷ [])) no ∙ length-append names (name ∷ [])

pub past_full : (start names texts : List (List ℕ)) (i : ℕ) (name : List ℕ) → i < length texts → names ≡ fold with_name start (take i texts)
    → name ≡ get_or texts i name → Lacks names name → 128 ≤ length names → 128 < length (fold with_name start texts)
past_full start names texts i name h so_far at lacks full =
    let next : fold with_name start (take (i + 1) texts) ≡ with_name names name =
    fold_more with_name start texts i name h ∙ ap₂ with_name (sym so_far) (sym at) in
    let one = new_name names name lacks in
    let rest = fold_longer (fold with_name start (take (i + 1) texts)) (drop (i + 1) texts) in
    let whole = fold-append with_name start (take (i + 1) texts) (drop (i + 1) texts) in
    let joined = ap (λ ts. length (fold with_name start ts)) (take-append-drop (i + 1) texts) in
    omega (arith, one, rest, ap length whole, joined, ap length next)

-- ---- the annotations in their order

pub at_map : {P X : Type 0} (f : P → X) (ps : List P) (i : ℕ) (p : P) → i < length ps → p ≡ get_or ps i p → f p ≡ get_or (map f ps) i (f p)
at_map f ps i p h is = ap f is ∙ sym (get_or-map f ps i p (f p) h)

behind : (xs : List RawAnno) (i : ℕ) (x : RawAnno) → i < length xs → x ≡ get_or xs i x → drop i xs ≡ x ∷ drop (i + 1) xs
behind xs i x h at =
    let next : suc i ≡ i + 1 = omega arith in
    drop-cons xs i x h ∙ ap₂ (λ y k. y ∷ drop k xs) (sym at) next

past_by : (table : List (List ℕ)) (x : RawAnno) (xs : List RawAnno) (past : Bool) → nat_lt 128 (length (with_names table x)) ≡ past
    → past_limit table (x ∷ xs) ≡ (if past then Some x.pos else past_limit (with_names table x) xs)
past_by table x xs past is = ap (λ b. if b then Some x.pos else past_limit (with_names table x) xs) is

pub past_here : (table : List (List ℕ)) (xs : List RawAnno) (i : ℕ) (x : RawAnno) → i < length xs → x ≡ get_or xs i x → 128 < length (with_names table x)
    → past_limit table (drop i xs) ≡ Some x.pos
past_here table xs i x h at above =
    let yes : nat_lt 128 (length (with_names table x)) ≡ true = grind (arith, nat_tests) in
    ap (past_limit table) (behind xs i x h at) ∙ past_by table x (drop (i + 1) xs) true yes

pub past_later : (table next : List (List ℕ)) (xs : List RawAnno) (i : ℕ) (x : RawAnno) → i < length xs → x ≡ get_or xs i x → next ≡ with_names table x → length next ≤ 128
    → past_limit table (drop i xs) ≡ past_limit next (drop (i + 1) xs)
past_later table next xs i x h at taken few =
    let len = ap length taken in
    let no : nat_lt 128 (length (with_names table x)) ≡ false = grind (arith, nat_tests) in
    ap (past_limit table) (behind xs i x h at) ∙ past_by table x (drop (i + 1) xs) false no ∙ ap (λ t. past_limit t (drop (i + 1) xs)) (sym taken)

pub table_later : (table next : List (List ℕ)) (xs : List RawAnno) (i : ℕ) (x : RawAnno) → i < length xs → x ≡ get_or xs i x
    → table ≡ fold with_names [] (take i xs) → next ≡ with_names table x → next ≡ fold with_names [] (take (i + 1) xs)
table_later table next xs i x h at so_far taken = taken ∙ ap₂ with_names so_far at ∙ sym (fold_more with_names [] xs i x h)

pub past_names : (start names : List (List ℕ)) (a : RawAnno) (texts : List (List ℕ)) → texts ≡ names_listed a → (i : ℕ) (item name : List ℕ) → i < length texts
    → names ≡ fold with_name start (take i (names_listed a)) → item ≡ get_or texts i item → name ≡ item → Lacks names name → 128 ≤ length names
    → 128 < length (with_names start a)
past_names start names a texts listed i item name h so_far at same lacks full =
    let P : List (List ℕ) → Type 0 = λ ts. 128 < length (fold with_name start ts) in
    subst P listed
    (past_full start names texts i item h (so_far ∙ ap (λ ts. fold with_name start (take i ts)) (sym listed)) at (subst (Lacks names) same lacks) full)
