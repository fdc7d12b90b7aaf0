-- What holds of a program holds of it with its annotations read.
use Rattle.std.proofs.Common.{◌≡◌, ◌∙◌, ap, sym, subst, refl, arith, ℕ, suc, ◌<◌, ◌≤◌, Bool, true, false, Option, Some, None, List, [], ◌∷◌, fold, length, nat_lt, if◌then◌else◌, All}
use Rattle.std.specs.List.{AllZip}
use Rattle.std.proofs.lemmas.Bool.Decides.{Decides-ltb, nat_tests}
use Rattle.std.proofs.lemmas.List.{length-map}
use Rattle.std.proofs.lemmas.List.Elements.{All-cons}
use Rattle.rlc_base.specs.declared.name_id.NameId.{NameId}
use Rattle.rlc_base.specs.Names.{place_of}
use Rattle.program_model.specs.declared.program.Class.{Class}
use Rattle.program_model.specs.declared.program.Field.{Field}
use Rattle.program_model.specs.declared.program.Method.{Method}
use Rattle.program_model.specs.declared.program.Program.{Program}
use Rattle.program_model.specs.declared.program.RawAnno.{RawAnno}
use Rattle.must_call_types.specs.Effective.{is_plain, number_in, signed_parameter}
use Rattle.must_call_types.specs.SignedMethods.{IsSignedMethod}
use Rattle.must_call_types.specs.WellFormed.{HasSmallInterests}
use Rattle.must_call_types.specs.NameTable.{past_limit, with_names}
use Rattle.must_call_types.specs.Signed.{IsSigned}
use Rattle.must_call_types.proofs.SignedTables.{before}
use Rattle.class_table.specs.Methods.{HasFewParameters}

-- ---- tables

few_signed : (table : List (List ℕ)) (fields : List Field) (classes : List Class) (old signed : List Method) → AllZip (IsSignedMethod table fields classes) old signed → All HasFewParameters old → All HasFewParameters signed
few_signed table fields classes [] [] all few = λ k d h. absurd (omega arith)
few_signed table fields classes [] (s ∷ ss) all few = λ k d h. absurd all
few_signed table fields classes (m ∷ ms) [] all few = λ k d h. absurd all
few_signed table fields classes (m ∷ ms) (s ∷ ss) all few =
    let same = ap length all.0.signature.params ∙ length-map m.sig.params.items (signed_parameter table) in
    let bound = few 0 m (omega arith) in
    All-cons HasFewParameters s ss (omega (arith, same, bound)) (few_signed table fields classes ms ss all.1 (λ j e g. few (suc j) e (omega arith)))

pub parameters_signed : (p q : Program) → IsSigned p q → All HasFewParameters p.methods.items → All HasFewParameters q.methods.items
parameters_signed p q signed few = few_signed q.names p.fields.items p.classes.items p.methods.items q.methods.items signed.methods few

-- ---- names of interest

few_by : (table : List (List ℕ)) (a : RawAnno) (xs : List RawAnno) (past : Bool) → nat_lt 128 (length (with_names table a)) ≡ past → (if past then Some a.pos else past_limit (with_names table a) xs) ≡ None
    → (length (with_names table a) ≤ 128) × (past_limit (with_names table a) xs ≡ None)
few_by table a xs true is none = absurd (let no : Some a.pos ≡ None = none in cc)
few_by table a xs false is none = (grind (arith, nat_tests), none)

few_names : (table : List (List ℕ)) (xs : List RawAnno) → length table ≤ 128 → past_limit table xs ≡ None → length (fold with_names table xs) ≤ 128
few_names table [] few none = few
few_names table (a ∷ xs) few none =
    let next = few_by table a xs (nat_lt 128 (length (with_names table a))) refl none in
    few_names (with_names table a) xs next.0 next.1

name_number : Option NameId → ℕ
name_number None = 0
name_number (Some n) = n.0

held : (table : List (List ℕ)) (name : List ℕ) (within : Bool) (n : NameId) → length table ≤ 128 → nat_lt (place_of table name) (length table) ≡ within
    → (if within then Some (record { 0 = place_of table name }) else None) ≡ Some n → n.0 < 128
unfolding name_number
held table name true n few is same = let number : place_of table name ≡ n.0 = ap name_number same in let below = (Decides-ltb (place_of table name) (length table)).0 is in omega arith
held table name false n few is same = absurd (let no : None ≡ Some n = same in cc)

small : (table : List (List ℕ)) (name : List ℕ) (plain : Bool) (n : NameId) → length table ≤ 128 → (if plain then number_in table name else None) ≡ Some n → n.0 < 128
small table name true n few same = held table name (nat_lt (place_of table name) (length table)) n few refl same
small table name false n few same = absurd (let no : None ≡ Some n = same in cc)

pub interests_signed : (p q : Program) → IsSigned p q → HasSmallInterests q
interests_signed p q signed m x n found named =
    let names = signed.names in
    let few : length q.names ≤ 128 = subst (λ (t : List (List ℕ)). length t ≤ 128) (sym names.listed) (few_names [] names.ordered (omega arith) names.few) in
    let old = before (IsSignedMethod q.names p.fields.items p.classes.items) p.methods.items q.methods.items m.0 x signed.methods found in
    small q.names old.0.name (is_plain old.0) n few (sym old.2.signature.interest ∙ named)
