-- The table of names of an accepted program has 128 names at most.
use Rattle.std.proofs.Common.{◌≡◌, ap, refl, arith, ℕ, ◌≤◌, Bool, true, false, Option, Some, None, List, [], ◌∷◌, length, fold, nat_lt, if◌then◌else◌}
use Rattle.std.proofs.lemmas.Bool.{ltb-false}
use Rattle.rlc_base.specs.declared.place.Pos.{Pos}
use Rattle.program_model.specs.declared.program.Program.{Program}
use Rattle.program_model.specs.declared.program.RawAnno.{RawAnno}
use Rattle.ownership_rules.specs.WellFormed.{HasSmallInterests}
use Rattle.ownership_rules.proofs.InterestLaws.{small_interests}
use Rattle.fact_laws.specs.NameTable.{IsNameTable, past_limit, with_names}
use Rattle.fact_laws.specs.Accept.{Accept}

one_more : (pos : Pos) (past : Bool) (rest : Option Pos) → (if past then Some pos else rest) ≡ None → (past ≡ false) × (rest ≡ None)
one_more pos true rest h = absurd (let never : Some pos ≡ None = h in cc)
one_more pos false rest h = (refl, h)

few_names : (table : List (List ℕ)) (annos : List RawAnno) → length table ≤ 128 → past_limit table annos ≡ None → length (fold with_names table annos) ≤ 128
few_names table [] few none = few
few_names table (a ∷ annos) few none =
    let next = one_more a.pos (nat_lt 128 (length (with_names table a))) (past_limit (with_names table a) annos) none in
    few_names (with_names table a) annos (ltb-false 128 (length (with_names table a)) next.0) next.1

pub table_few : (p : Program) (table : List (List ℕ)) → IsNameTable p table → length table ≤ 128
table_few p table h =
    let few = few_names [] h.ordered (omega arith) h.few in
    let same = ap length h.listed in
    omega (arith, few, same)

pub accepted_names : (p : Program) → Accept p → HasSmallInterests p
accepted_names p ac = small_interests p (table_few p p.names ac.signatures.names) ac.well_formed
