-- The numbers of bodies, noted from the last body to the first.
use Rattle.std.proofs.Common.{◌≡◌, ◌∙◌, sym, ap, refl, arith, ℕ, ◌+◌, ◌<◌, Bool, true, false, cond, Option, Some, None, List, ◌∷◌, drop, get_or, length, replicate, set, length-set}
use Rattle.std.specs.Prelude.{nat_eq, nat_lt, option_map}
use Rattle.std.specs.List.{position_from}
use Rattle.std.proofs.lemmas.Iterator.Adapters.{position_from-zero}
use Rattle.std.proofs.Math.Seq.{drop-length}
use Rattle.std.proofs.lemmas.Bool.{eqb-true, eqb-false}
use Rattle.std.proofs.lemmas.Grind.{common_steps, get_or-set_at}
use Rattle.std.proofs.lemmas.List.{drop_more, get_or-replicate, get_or-set_other, length-replicate}
use Rattle.program_model.specs.declared.kinds.BodyId.{BodyId}
use Rattle.program_model.specs.declared.tree.Body.{Body}
use Rattle.program_bodies.specs.ProgramBodies.{AreBodyNumbers, body_id, noted}

-- ---- one number more

pub noted-length : (numbers : List (Option BodyId)) (n : ℕ) (b : BodyId) → length (noted numbers n b) ≡ length numbers
noted-length numbers n b = by (nat_lt n (length numbers))
  where
    by : (t : Bool) → length (cond t (set numbers n (Some b)) numbers) ≡ length numbers
    by true = length-set numbers n (Some b)
    by false = refl

noted_within : (numbers : List (Option BodyId)) (n k : ℕ) (b : BodyId) (d : Option BodyId) → k < length numbers → n ≡ k → get_or (noted numbers n b) k d ≡ Some b
noted_within numbers n k b d within same =
    let below : nat_lt n (length numbers) ≡ true = grind (arith, common_steps) in
    let k' : k ≡ n = sym same in
    ap (λ t. get_or (cond t (set numbers n (Some b)) numbers) k d) below ∙ get_or-set_at numbers n k (Some b) d k' (omega (arith, within, same))

noted_elsewhere : (numbers : List (Option BodyId)) (n k : ℕ) (b : BodyId) (d : Option BodyId) → (n ≡ k → ⊥) → get_or (noted numbers n b) k d ≡ get_or numbers k d
noted_elsewhere numbers n k b d other = by (nat_lt n (length numbers))
  where
    by : (t : Bool) → get_or (cond t (set numbers n (Some b)) numbers) k d ≡ get_or numbers k d
    by true = get_or-set_other numbers n k (Some b) d (λ same. other (sym same))
    by false = refl

noted_at : (numbers : List (Option BodyId)) (n k : ℕ) (b : BodyId) (d : Option BodyId) → k < length numbers → get_or (noted numbers n b) k d ≡ cond (nat_eq n k) (Some b) (get_or numbers k d)
noted_at numbers n k b d within = by (nat_eq n k) refl
  where
    by : (t : Bool) → nat_eq n k ≡ t → get_or (noted numbers n b) k d ≡ cond t (Some b) (get_or numbers k d)
    by true is = noted_within numbers n k b d within (eqb-true n k is)
    by false is = noted_elsewhere numbers n k b d (λ same. eqb-false n k is same)

-- ---- from the last body to the first

-- the number of the method's body among the bodies from number `first` on
abbrev pub number_from : List Body → ℕ → ℕ → Option BodyId
number_from bodies first m = option_map body_id (position_from (λ b. nat_eq b.method.0 m) first bodies)

-- the numbers of the bodies from number `first` on are noted
pub record AreNoted (bodies : List Body) (methods first : ℕ) (numbers : List (Option BodyId)) : Type 0 where
  pub long : length numbers ≡ methods
  pub each : (m : ℕ) (d : Option BodyId) → m < methods → get_or numbers m d ≡ number_from (drop first bodies) first m

first_of_rest : (bodies : List Body) (first m : ℕ) (b : Body) → number_from (b ∷ bodies) first m ≡ cond (nat_eq b.method.0 m) (Some (body_id first)) (number_from bodies (first + 1) m)
first_of_rest bodies first m b = by (nat_eq b.method.0 m)
  where
    by : (t : Bool) → option_map body_id (cond t (Some first) (position_from (λ x. nat_eq x.method.0 m) (first + 1) bodies)) ≡ cond t (Some (body_id first)) (number_from bodies (first + 1) m)
    by true = refl
    by false = refl

pub note_step : (bodies : List Body) (methods first : ℕ) (numbers next : List (Option BodyId)) (b : Body) → first < length bodies → b ≡ get_or bodies first b → next ≡ noted numbers b.method.0 (body_id first) → AreNoted bodies methods (first + 1) numbers → AreNoted bodies methods first next
note_step bodies methods first numbers next b within at is before = record {
  long = ap length is ∙ noted-length numbers b.method.0 (body_id first) ∙ before.long;
  each = λ m d below.
      let here : m < length numbers = omega (arith, below, before.long) in
      let rest : drop first bodies ≡ b ∷ drop (first + 1) bodies = drop_more bodies first b within ∙ ap (λ (x : Body). x ∷ drop (first + 1) bodies) (sym at) in
      ap (λ ns. get_or ns m d) is
      ∙ noted_at numbers b.method.0 m (body_id first) d here
      ∙ ap (cond (nat_eq b.method.0 m) (Some (body_id first))) (before.each m d below)
      ∙ sym (ap (λ bs. number_from bs first m) rest ∙ first_of_rest (drop (first + 1) bodies) first m b);
}

-- none is noted behind the last body
pub notes_start : (bodies : List Body) (methods count : ℕ) (numbers : List (Option BodyId)) → count ≡ length bodies → numbers ≡ replicate methods None → AreNoted bodies methods count numbers
notes_start bodies methods count numbers all is = record {
  long = ap length is ∙ length-replicate methods None;
  each = λ m d below.
      ap (λ ns. get_or ns m d) is ∙ get_or-replicate methods m None d below
      ∙ sym (ap (λ n. number_from (drop n bodies) count m) all ∙ ap (λ bs. number_from bs count m) (drop-length bodies));
}

-- at the first body all are noted
pub notes_end : (bodies : List Body) (methods : ℕ) (numbers : List (Option BodyId)) → AreNoted bodies methods 0 numbers → AreBodyNumbers bodies methods numbers
notes_end bodies methods numbers noted_all = record {
  long = noted_all.long;
  each = λ m d below. noted_all.each m d below ∙ ap (option_map body_id) (sym (position_from-zero (λ (b : Body). nat_eq b.method.0 m) bodies));
}
