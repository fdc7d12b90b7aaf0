-- A program whose annotations are read names few methods of interest, and lists its fields as before.
use Rattle.std.proofs.Common.{◌≡◌, ◌∙◌, sym, ap, refl, subst, arith, ℕ, ◌≤◌, Bool, true, false, Option, Some, None, List, [], ◌∷◌, length, fold, nat_lt, if◌then◌else◌}
use Rattle.std.specs.Prelude.{slice_get}
use Rattle.std.specs.List.{Contains}
use Rattle.std.proofs.lemmas.Bool.{ltb-false, ltb-true}
use Rattle.rlc_base.specs.declared.name_id.NameId.{NameId}
use Rattle.rlc_base.specs.declared.place.Pos.{Pos}
use Rattle.rlc_base.specs.Names.{place_of}
use Rattle.program_model.specs.declared.kinds.FieldId.{FieldId}
use Rattle.program_model.specs.declared.program.Class.{Class}
use Rattle.program_model.specs.declared.program.Program.{Program}
use Rattle.program_model.specs.declared.program.RawAnno.{RawAnno}
use Rattle.program_model.specs.Validity.{IsTypedProgram}
use Rattle.must_call_types.specs.Effective.{is_plain}
use Rattle.must_call_types.specs.WellFormed.{HasSmallInterests}
use Rattle.must_call_types.specs.NameTable.{IsNameTable, past_limit, with_names}
use Rattle.must_call_types.specs.Signed.{IsSigned}
use Rattle.must_call_types.proofs.SignedTables.{SameClass, at_same, before, same_classes}
use Rattle.must_call_types.specs.SignedMethods.{IsSignedMethod}
use Rattle.graph_limits.specs.ListedFields.{HasListedFields}

-- ---- names

-- one annotation more, where it brings no name too many
one_more : (pos : Pos) (past : Bool) (rest : Option Pos) → (if past then Some pos else rest) ≡ None → (past ≡ false) × (rest ≡ None)
one_more pos true rest h = absurd (let never : Some pos ≡ None = h in cc)
one_more pos false rest h = (refl, h)

few_names : (table : List (List ℕ)) (annos : List RawAnno) → length table ≤ 128 → past_limit table annos ≡ None → length (fold with_names table annos) ≤ 128
few_names table [] few none = few
few_names table (a ∷ annos) few none =
    let next = one_more a.pos (nat_lt 128 (length (with_names table a))) (past_limit (with_names table a) annos) none in
    few_names (with_names table a) annos (ltb-false 128 (length (with_names table a)) next.0) next.1

table_few : (p : Program) (table : List (List ℕ)) → IsNameTable p table → length table ≤ 128
table_few p table h =
    let few = few_names [] h.ordered (omega arith) h.few in
    let same = ap length h.listed in
    omega (arith, few, same)

abbrev name_number : Option NameId → ℕ
name_number None = 0
name_number (Some n) = n.0

-- a name of interest is one of the table
named : (plain held : Bool) (k : ℕ) (n : NameId) → (if plain then (if held then Some (record { 0 = k }) else None) else None) ≡ Some n → (held ≡ true) × (k ≡ n.0)
named true true k n h = (refl, ap name_number h)
named true false k n h = absurd (let never : None ≡ Some n = h in cc)
named false held k n h = absurd (let never : None ≡ Some n = h in cc)

pub signed_interests : (p signed : Program) → IsSigned p signed → HasSmallInterests signed
signed_interests p signed h m x n at interest =
    let table = signed.names in
    let old = before (IsSignedMethod table p.fields.items p.classes.items) p.methods.items signed.methods.items m.0 x h.methods at in
    let few = table_few p table h.names in
    let name = named (is_plain old.0) (nat_lt (place_of table old.0.name) (length table)) (place_of table old.0.name) n (sym old.2.signature.interest ∙ interest) in
    let inside = ltb-true (place_of table old.0.name) (length table) name.0 in
    let number = name.1 in
    omega (arith, few, inside, number)

-- ---- fields

same_listed : (f : FieldId) (x y : Class) → SameClass x y → Contains x.fields.items f → Contains y.fields.items f
same_listed f x y same h = subst (λ (fs : List FieldId). Contains fs f) (ap (λ (k : Class). k.fields.items) same) h

pub signed_lists : (p signed : Program) → IsSigned p signed → HasListedFields p → HasListedFields signed
signed_lists p signed h listed f x at =
    at_same SameClass (λ k. Contains k.fields.items f) (λ k. Contains k.fields.items f) p.classes.items signed.classes.items x.class.0
    (same_classes signed.names p.classes.items signed.classes.items h.classes) (same_listed f)
    (listed f x (ap (λ (fs : _). slice_get fs.items f.0) (sym h.fields) ∙ at))

pub typed_lists : (p : Program) → IsTypedProgram p → HasListedFields p
typed_lists p typed f x at = (typed.fields f x at).listed
