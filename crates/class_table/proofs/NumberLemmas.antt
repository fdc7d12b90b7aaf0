-- Lemmas on the numbers of the members of a class.
use Rattle.std.proofs.Common.{◌≡◌, ◌∙◌, sym, ap, refl, arith, eq-eqb, ⊎_elim, ℕ, ◌+◌, ◌<◌, ◌≤◌, Bool, true, false, cond, List, [], ◌∷◌, ◌++◌, length, get_or, set, take, append-nil}
use Rattle.std.specs.Prelude.{replicate, nat_eq, Vec}
use Rattle.std.proofs.lemmas.Bool.{cases_eq, ne_eqb}
use Rattle.std.proofs.lemmas.List.{get_or-map, get_or-replicate, get_or-set_same, get_or-set_other, length-map, length-take-le, map-set, take_more}
use Rattle.rlc_base.specs.Names.{texts}
use Rattle.program_model.specs.declared.kinds.ClassId.{ClassId}
use Rattle.class_table.specs.Numbers.{AreNumbers, numbers_owned, numbers_where, row_at}

push_by : {X : Type 0} (test : X → Bool) (first n : ℕ) (x y : X) (xs : List X) (b : Bool) → numbers_where test (first + 1) (xs ++ y ∷ []) ≡ numbers_where test (first + 1) xs ++ cond (test y) (n ∷ []) []
    → cond b (first ∷ numbers_where test (first + 1) (xs ++ y ∷ [])) (numbers_where test (first + 1) (xs ++ y ∷ []))
    ≡ cond b (first ∷ numbers_where test (first + 1) xs) (numbers_where test (first + 1) xs) ++ cond (test y) (n ∷ []) []
push_by test first n x y xs true same = ap (λ ns. first ∷ ns) same
push_by test first n x y xs false same = same

last_by : (first n : ℕ) (b : Bool) → n ≡ first → cond b (first ∷ []) [] ≡ cond b (n ∷ []) []
last_by first n true is = ap (λ m. m ∷ []) (sym is)
last_by first n false is = refl

-- one member more
pub numbers_push : {X : Type 0} (test : X → Bool) (first n : ℕ) (xs : List X) (y : X) → n ≡ first + length xs → numbers_where test first (xs ++ y ∷ []) ≡ numbers_where test first xs ++ cond (test y) (n ∷ []) []
numbers_push test first n [] y is = last_by first n (test y) (omega (arith, is))
numbers_push test first n (x ∷ xs) y is = push_by test first n x y xs (test x) (numbers_push test (first + 1) n xs y (omega (arith, is)))

pub owned_more : (n : ℕ) (owners : List ClassId) (i : ℕ) (o : ClassId) → i < length owners → o ≡ get_or owners i o
    → numbers_owned n (take (i + 1) owners) ≡ numbers_owned n (take i owners) ++ cond (nat_eq o.0 n) (i ∷ []) []
owned_more n owners i o within is =
    ap (numbers_owned n) (take_more owners i o within ∙ ap (λ z. take i owners ++ z ∷ []) (sym is))
    ∙ numbers_push (λ (z : ClassId). nat_eq z.0 n) 0 i (take i owners) o (omega (arith, length-take-le i owners (omega arith)))

-- rows without numbers
pub numbers_start : (count : ℕ) (rows : List (List ℕ)) → rows ≡ replicate count [] → AreNumbers count [] rows
numbers_start count rows is n within = ap (λ rs. row_at rs n) is ∙ get_or-replicate count n [] [] within

row_set : (rows : List (List ℕ)) (place n number : ℕ) (row : List ℕ) → place < length rows → row ≡ get_or rows place [] → row_at (set rows place (row ++ number ∷ [])) n ≡ row_at rows n ++ cond (nat_eq place n) (number ∷ []) []
row_set rows place n number row within is =
    ⊎_elim
    (λ (same : place ≡ n).
    ap (λ m. row_at (set rows place (row ++ number ∷ [])) m) (sym same) ∙ get_or-set_same rows place (row ++ number ∷ []) [] within ∙ ap (λ r. r ++ number ∷ []) (is ∙ ap (row_at rows) same)
    ∙ ap (λ b. row_at rows n ++ cond b (number ∷ []) []) (sym (eq-eqb place n same)))
    (λ (other : place ≡ n → ⊥).
    get_or-set_other rows place n (row ++ number ∷ []) [] (λ e. other (sym e)) ∙ sym (append-nil (row_at rows n))
    ∙ ap (λ b. row_at rows n ++ cond b (number ∷ []) []) (sym (ne_eqb place n other)))
    (cases_eq place n)

-- a row with one number more
pub row_put : {A : Type 0} (old new : List (Vec ℕ A)) (row grown : Vec ℕ A) (place n number : ℕ) → place < length old → row ≡ get_or old place row → grown.items ≡ row.items ++ number ∷ [] → new ≡ set old place grown
    → row_at (texts new) n ≡ row_at (texts old) n ++ cond (nat_eq place n) (number ∷ []) []
row_put {A} old new row grown place n number within is pushed put =
    let items : Vec ℕ A → List ℕ = λ v. v.items in
    let long = length-map old items in
    let inside : place < length (texts old) = omega arith in
    ap (λ rows. row_at (texts rows) n) put ∙ ap (λ rows. row_at rows n) (map-set items old place grown) ∙ ap (λ r. row_at (set (texts old) place r) n) pushed
    ∙ row_set (texts old) place n number row.items inside (ap items is ∙ sym (get_or-map items old place row [] within))

-- the number of another class than those that have rows changes none
pub row_past : (rows : List (List ℕ)) (place n number : ℕ) → length rows ≤ place → n < length rows → row_at rows n ≡ row_at rows n ++ cond (nat_eq place n) (number ∷ []) []
row_past rows place n number past within =
    sym (append-nil (row_at rows n)) ∙ ap (λ b. row_at rows n ++ cond b (number ∷ []) []) (sym (ne_eqb place n (λ e. omega (arith, e))))

-- one member more
pub numbers_more : {A : Type 0} (count : ℕ) (old new : List (Vec ℕ A)) (owners : List ClassId) (i number : ℕ) (o : ClassId) → length old ≡ count → i < length owners → o ≡ get_or owners i o → number ≡ i
    → ((n : ℕ) → n < length old → row_at (texts new) n ≡ row_at (texts old) n ++ cond (nat_eq o.0 n) (number ∷ []) []) → AreNumbers count (take i owners) (texts old) → AreNumbers count (take (i + 1) owners) (texts new)
numbers_more count old new owners i number o long within is same put before n below =
    put n (omega arith) ∙ (λ j. before n below j ++ cond (nat_eq o.0 n) (same j ∷ []) []) ∙ sym (owned_more n owners i o within is)

-- a row that is read
pub row_read : {A : Type 0} (rows : List (Vec ℕ A)) (i : ℕ) (row : Vec ℕ A) (own : List ℕ) → i < length rows → row ≡ get_or rows i row → own ≡ row.items → own ≡ row_at (texts rows) i
row_read {A} rows i row own within is same =
    let items : Vec ℕ A → List ℕ = λ v. v.items in
    same ∙ ap items is ∙ sym (get_or-map items rows i row [] within)
