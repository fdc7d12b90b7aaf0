-- Lemmas on rows that stand beside their names.
use Rattle.std.proofs.Common.{◌≡◌, ◌∙◌, sym, ap, refl, subst, arith, ℕ, suc, ◌+◌, ◌<◌, Bool, true, false, true≢false, cond, not, List, [], ◌∷◌, ◌++◌, length, get_or, set}
use Rattle.std.specs.Prelude.{if◌then◌else◌, Vec}
use Rattle.std.specs.Str.{bytes_eq}
use Rattle.std.proofs.lemmas.List.{append-nil, map-append, map-set, get_or-map, length-map, length-append}
use Rattle.std.proofs.lemmas.Slice.Eq.{bytes_eq-Decides}
use Rattle.program_model.specs.declared.kinds.ClassId.{ClassId}
use Rattle.rlc_base.specs.Names.{Holds, Lacks, place_of, texts}
use Rattle.rlc_base.proofs.TableLemmas.{length-texts, texts-insert}
use Rattle.indexmap.specs.IndexSet.{insert_key}
use Rattle.class_names.specs.ClassNames.{row_of, rows_in}

-- ---- equal and different names

same_name : (m n : List ℕ) → bytes_eq m n ≡ true → m ≡ n
same_name m n = (bytes_eq-Decides m n).0

-- two names are not equal where a third is equal to one alone
apart : (b : Bool) (n x m : List ℕ) → bytes_eq n m ≡ b → bytes_eq n x ≡ true → bytes_eq m x ≡ false → b ≡ false
apart false n x m is one other = refl
apart true n x m is one other = absurd (true≢false (sym ((bytes_eq-Decides m x).1 (sym (same_name n m is) ∙ same_name n x one)) ∙ other))

together : (b : Bool) (n x m : List ℕ) → bytes_eq n m ≡ b → bytes_eq n x ≡ true → bytes_eq m x ≡ true → b ≡ true
together b n x m is one other = sym is ∙ (bytes_eq-Decides n m).1 (same_name n x one ∙ sym (same_name m x other))

apart_too : (b : Bool) (n x m : List ℕ) → bytes_eq n m ≡ b → bytes_eq n x ≡ false → bytes_eq m x ≡ true → b ≡ false
apart_too false n x m is one other = refl
apart_too true n x m is one other = absurd (true≢false (sym ((bytes_eq-Decides n x).1 (same_name n m is ∙ same_name m x other)) ∙ one))

-- ---- the row at the place of a name

at_place : (b : Bool) (x m : List ℕ) (xs : List (List ℕ)) (r : List ClassId) (rs : List (List ClassId)) → (get_or rs (place_of xs m) [] ≡ row_of xs rs m) → get_or (r ∷ rs) (cond (not b) (1 + place_of xs m) 0) [] ≡ cond b r (row_of xs rs m)
at_place true x m xs r rs rest = refl
at_place false x m xs r rs rest = let next : 1 + place_of xs m ≡ suc (place_of xs m) = omega arith in ap (λ n. get_or (r ∷ rs) n []) next ∙ rest

pub row_at_place : (names : List (List ℕ)) (rows : List (List ClassId)) (m : List ℕ) → length rows ≡ length names → get_or rows (place_of names m) [] ≡ row_of names rows m
row_at_place [] [] m same = refl
row_at_place [] (r ∷ rs) m same = absurd (omega arith)
row_at_place (x ∷ xs) [] m same = absurd (omega arith)
row_at_place (x ∷ xs) (r ∷ rs) m same = at_place (bytes_eq m x) x m xs r rs (row_at_place xs rs m (omega arith))

-- ---- a name that is not there

lacks_rest : (b : Bool) (m : List ℕ) (x : List ℕ) (xs : List (List ℕ)) → bytes_eq m x ≡ b → Lacks (x ∷ xs) m → (b ≡ false) × Lacks xs m
lacks_rest true m x xs is lacks = absurd (let none : cond (not true) (1 + place_of xs m) 0 ≡ suc (length xs) = ap (λ c. cond (not c) (1 + place_of xs m) 0) (sym is) ∙ lacks in omega arith)
lacks_rest false m x xs is lacks = let more : 1 + place_of xs m ≡ suc (length xs) = ap (λ c. cond (not c) (1 + place_of xs m) 0) (sym is) ∙ lacks in (refl, omega arith)

-- ---- one row more

with_row : (b d : Bool) (n m : List ℕ) (r rest : List ClassId) (more : List ClassId) (last : List ClassId) → bytes_eq n m ≡ d → (b ≡ true → d ≡ false) → more ≡ rest ++ cond d last [] → cond b r more ≡ cond b r rest ++ cond d last []
with_row true d n m r rest more last is other step = sym (append-nil r) ∙ ap (λ c. r ++ cond c last []) (sym (other refl))
with_row false d n m r rest more last is other step = step

pub row_pushed : (names : List (List ℕ)) (rows : List (List ClassId)) (m n : List ℕ) (c : ClassId) → length rows ≡ length names → Lacks names m → row_of (names ++ m ∷ []) (rows ++ (c ∷ []) ∷ []) n ≡ row_of names rows n ++ (if bytes_eq n m then c ∷ [] else [])
row_pushed [] [] m n c same lacks = refl
row_pushed [] (r ∷ rs) m n c same lacks = absurd (omega arith)
row_pushed (x ∷ xs) [] m n c same lacks = absurd (omega arith)
row_pushed (x ∷ xs) (r ∷ rs) m n c same lacks =
    let rest = lacks_rest (bytes_eq m x) m x xs refl lacks in
    with_row (bytes_eq n x) (bytes_eq n m) n m r (row_of xs rs n) (row_of (xs ++ m ∷ []) (rs ++ (c ∷ []) ∷ []) n) (c ∷ []) refl
    (λ one. apart (bytes_eq n m) n x m refl one rest.0)
    (row_pushed xs rs m n c (omega arith) rest.1)

-- ---- a row that has one class more

set_step : (e b d : Bool) (n x m : List ℕ) (xs : List (List ℕ)) (r : List ClassId) (rs : List (List ClassId)) (last : List ClassId) → bytes_eq m x ≡ e → bytes_eq n x ≡ b → bytes_eq n m ≡ d
    → (e ≡ false → row_of xs (set rs (place_of xs m) (row_of xs rs m ++ last)) n ≡ row_of xs rs n ++ cond d last [])
    → row_of (x ∷ xs) (set (r ∷ rs) (cond (not e) (1 + place_of xs m) 0) (cond e r (row_of xs rs m) ++ last)) n ≡ cond b r (row_of xs rs n) ++ cond d last []
set_step true true d n x m xs r rs last e_is b_is d_is rest = ap (λ c. cond c (r ++ last) (row_of xs rs n)) b_is ∙ ap (λ c. r ++ cond c last []) (sym (together d n x m d_is b_is e_is))
set_step true false d n x m xs r rs last e_is b_is d_is rest = ap (λ c. cond c (r ++ last) (row_of xs rs n)) b_is ∙ sym (append-nil (row_of xs rs n)) ∙ ap (λ c. row_of xs rs n ++ cond c last []) (sym (apart_too d n x m d_is b_is e_is))
set_step false true d n x m xs r rs last e_is b_is d_is rest =
    let next : 1 + place_of xs m ≡ suc (place_of xs m) = omega arith in
    ap (λ k. row_of (x ∷ xs) (set (r ∷ rs) k (row_of xs rs m ++ last)) n) next
    ∙ ap (λ c. cond c r (row_of xs (set rs (place_of xs m) (row_of xs rs m ++ last)) n)) b_is
    ∙ sym (append-nil r) ∙ ap (λ c. r ++ cond c last []) (sym (apart d n x m d_is b_is e_is))
set_step false false d n x m xs r rs last e_is b_is d_is rest =
    let next : 1 + place_of xs m ≡ suc (place_of xs m) = omega arith in
    ap (λ k. row_of (x ∷ xs) (set (r ∷ rs) k (row_of xs rs m ++ last)) n) next
    ∙ ap (λ c. cond c r (row_of xs (set rs (place_of xs m) (row_of xs rs m ++ last)) n)) b_is
    ∙ rest refl

holds_rest : (e : Bool) (m x : List ℕ) (xs : List (List ℕ)) → bytes_eq m x ≡ e → Holds (x ∷ xs) m → e ≡ false → Holds xs m
holds_rest true m x xs is holds other = absurd (true≢false other)
holds_rest false m x xs is holds other = let more : 1 + place_of xs m < suc (length xs) = subst (λ c. cond (not c) (1 + place_of xs m) 0 < suc (length xs)) is holds in omega arith

pub row_set : (names : List (List ℕ)) (rows : List (List ClassId)) (m n : List ℕ) (last : List ClassId) → length rows ≡ length names → Holds names m → row_of names (set rows (place_of names m) (row_of names rows m ++ last)) n ≡ row_of names rows n ++ (if bytes_eq n m then last else [])
row_set [] rows m n last same holds = absurd (omega arith)
row_set (x ∷ xs) [] m n last same holds = absurd (omega arith)
row_set (x ∷ xs) (r ∷ rs) m n last same holds = set_step (bytes_eq m x) (bytes_eq n x) (bytes_eq n m) n x m xs r rs last refl refl refl (λ other. row_set xs rs m n last (omega arith) (holds_rest (bytes_eq m x) m x xs refl holds other))

-- ---- the same in memory

beside : {A B : Type 0} (keys : List (Vec ℕ A)) (rows : List (Vec ClassId B)) → length rows ≡ length keys → length (rows_in rows) ≡ length (texts keys)
beside keys rows same = length-map rows (λ r. r.items) ∙ same ∙ sym (length-texts keys)

-- a class at the end of the row that stands beside its name
pub grown_row : {A B : Type 0} (keys : List (Vec ℕ A)) (rows : List (Vec ClassId B)) (name n : List ℕ) (c : ClassId) (place : ℕ) (row grown : Vec ClassId B) → length rows ≡ length keys → (place ≡ place_of (texts keys) name) × Holds (texts keys) name → row ≡ get_or rows place row → grown.items ≡ row.items ++ c ∷ []
    → row_of (texts keys) (rows_in (set rows place grown)) n ≡ row_of (texts keys) (rows_in rows) n ++ (if bytes_eq n name then c ∷ [] else [])
grown_row {A} {B} keys rows name n c place row grown same found value items =
    let ks = texts keys in
    let within : place < length rows = let holds = found.1 in let is = found.0 in let long = length-texts keys in omega (arith, holds, is, long, same) in
    let here : get_or (rows_in rows) place [] ≡ row.items = get_or-map (λ (r : Vec ClassId B). r.items) rows place row [] within ∙ ap (λ (r : Vec ClassId B). r.items) (sym value) in
    let there = row_at_place ks (rows_in rows) name (beside keys rows same) in
    let whole : grown.items ≡ row_of ks (rows_in rows) name ++ c ∷ [] = items ∙ ap (λ (xs : List ClassId). xs ++ c ∷ []) (sym here ∙ ap (λ k. get_or (rows_in rows) k []) found.0 ∙ there) in
    ap (λ (xs : List (List ClassId)). row_of ks xs n) (map-set (λ (r : Vec ClassId B). r.items) rows place grown)
    ∙ ap (λ k. row_of ks (set (rows_in rows) k grown.items) n) found.0
    ∙ ap (λ xs. row_of ks (set (rows_in rows) (place_of ks name) xs) n) whole
    ∙ row_set ks (rows_in rows) name n (c ∷ []) (beside keys rows same) found.1

-- a new row beside a new name
pub new_row : {A B : Type 0} (keys more : List (Vec ℕ A)) (rows grown : List (Vec ClassId B)) (key : Vec ℕ A) (name n : List ℕ) (c : ClassId) (row : Vec ClassId B) → length rows ≡ length keys → Lacks (texts keys) name → key.items ≡ name → more ≡ insert_key (λ v w. bytes_eq v.items w.items) keys key → row.items ≡ c ∷ [] → grown ≡ rows ++ row ∷ []
    → row_of (texts more) (rows_in grown) n ≡ row_of (texts keys) (rows_in rows) n ++ (if bytes_eq n name then c ∷ [] else [])
new_row {A} {B} keys more rows grown key name n c row same lacks copied put items pushed =
    let IsNew : List ℕ → Type 0 = Lacks (texts keys) in
    let names : texts more ≡ texts keys ++ name ∷ [] = ap texts put ∙ texts-insert keys key (subst IsNew (sym copied) lacks) ∙ ap (λ m. texts keys ++ m ∷ []) copied in
    let all : rows_in grown ≡ rows_in rows ++ (c ∷ []) ∷ [] = ap rows_in pushed ∙ map-append (λ (r : Vec ClassId B). r.items) rows (row ∷ []) ∙ ap (λ (xs : List ClassId). rows_in rows ++ xs ∷ []) items in
    ap (λ ns. row_of ns (rows_in grown) n) names ∙ ap (λ (xs : List (List ClassId)). row_of (texts keys ++ name ∷ []) xs n) all
    ∙ row_pushed (texts keys) (rows_in rows) name n c (beside keys rows same) lacks

pub still_beside : {A B : Type 0} (keys more : List (Vec ℕ A)) (rows grown : List (Vec ClassId B)) (key : Vec ℕ A) (name : List ℕ) (row : Vec ClassId B) → length rows ≡ length keys → Lacks (texts keys) name → key.items ≡ name → more ≡ insert_key (λ v w. bytes_eq v.items w.items) keys key → grown ≡ rows ++ row ∷ [] → length grown ≡ length more
still_beside {A} {B} keys more rows grown key name row same lacks copied put pushed =
    let IsNew : List ℕ → Type 0 = Lacks (texts keys) in
    let names : texts more ≡ texts keys ++ key.items ∷ [] = ap texts put ∙ texts-insert keys key (subst IsNew (sym copied) lacks) in
    let long = sym (length-texts more) ∙ ap length names ∙ length-append (texts keys) (key.items ∷ []) in
    let first = length-texts keys in
    let wide = ap length pushed ∙ length-append rows (row ∷ []) in
    omega (arith, long, first, wide, same)

-- ---- what is read of the rows

row_missing_rest : (b : Bool) (r rest : List ClassId) → b ≡ false → rest ≡ [] → cond b r rest ≡ []
row_missing_rest true r rest never h = absurd (true≢false never)
row_missing_rest false r rest h is = is

pub row_missing : (names : List (List ℕ)) (rows : List (List ClassId)) (m : List ℕ) → Lacks names m → [] ≡ row_of names rows m
row_missing [] rows m lacks = refl
row_missing (x ∷ xs) [] m lacks = refl
row_missing (x ∷ xs) (r ∷ rs) m lacks =
    let rest = lacks_rest (bytes_eq m x) m x xs refl lacks in
    sym (row_missing_rest (bytes_eq m x) r (row_of xs rs m) rest.0 (sym (row_missing xs rs m rest.1)))

pub row_found : {A B : Type 0} (keys : List (Vec ℕ A)) (rows : List (Vec ClassId B)) (name : List ℕ) (place : ℕ) (row : Vec ClassId B) → length (rows_in rows) ≡ length (texts keys) → (place ≡ place_of (texts keys) name) × Holds (texts keys) name → row ≡ get_or rows place row → row.items ≡ row_of (texts keys) (rows_in rows) name
row_found {A} {B} keys rows name place row same found value =
    let within : place < length rows = let holds = found.1 in let is = found.0 in let long = length-map rows (λ (r : Vec ClassId B). r.items) in omega (arith, holds, is, long, same) in
    ap (λ (r : Vec ClassId B). r.items) value ∙ sym (get_or-map (λ (r : Vec ClassId B). r.items) rows place row [] within)
    ∙ ap (λ k. get_or (rows_in rows) k []) found.0 ∙ row_at_place (texts keys) (rows_in rows) name same
