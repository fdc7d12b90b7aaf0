-- The missing names, in the order of their bytes.
use Rattle.std.specs.Prelude.{ℕ, zero, suc, Bool, List, [], ◌∷◌, ◌++◌, cond, length, codes}
use Rattle.std.specs.List.{flat_map}
use Rattle.std.specs.FinSet as set
use Rattle.std.specs.Cmp.Lexicographic.{slice_cmp}
use Rattle.std.specs.Ordering.{is_lt, nat_cmp}
use Rattle.program_model.specs.declared.program.Program.{Program}
use Rattle.rlc_base.specs.declared.name_id.NameId.{NameId}
use Rattle.program_texts.specs.Texts.{name_text}

-- the numbers of names that are missing
abbrev pub Names : Type 0
Names = set.FinSet nat_cmp

abbrev pub numbered : ℕ → NameId
numbered n = record { 0 = n }

-- the text of the first name comes before that of the second in the order of their bytes
abbrev pub comes_before : Program → NameId → NameId → Bool
comes_before p a b = is_lt (slice_cmp nat_cmp (name_text p a) (name_text p b))

-- a name put in front of the first that it comes before, or at the end
abbrev pub placed : Program → NameId → List NameId → List NameId
placed p n [] = n ∷ []
placed p n (m ∷ ms) = cond (comes_before p n m) (n ∷ m ∷ ms) (m ∷ placed p n ms)

-- those of these names that have a number below, in the order of their bytes
abbrev pub ascending_below : Program → Names → ℕ → List NameId
ascending_below p names zero = []
ascending_below p names (suc n) = cond (set.contains names n) (placed p (numbered n) (ascending_below p names n)) (ascending_below p names n)

abbrev pub ascending : Program → Names → List NameId
ascending p names = ascending_below p names (length p.names)

-- each with a space in front of it
abbrev pub names_text : Program → List NameId → List ℕ
names_text p names = flat_map (λ n. codes " " ++ name_text p n) names

abbrev pub missing_text : Program → Names → List ℕ
missing_text p names = names_text p (ascending p names)
