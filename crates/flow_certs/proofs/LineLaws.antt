-- Lines that say no pair.
use Rattle.std.proofs.Common.{◌≡◌, ℕ, false, None, List, [], ◌∷◌, refl, true≢false}
use Rattle.program_model.specs.declared.kinds.BodyId.{BodyId}
use Rattle.program_model.specs.declared.program.Program.{Program}
use Rattle.flow_certs.specs.Lines.{has_six, pair_of}

pub no_pair : (p : Program) (b : BodyId) (words : List (List ℕ)) → has_six words ≡ false → pair_of p b words ≡ None
no_pair p b [] h = refl
no_pair p b (w1 ∷ []) h = refl
no_pair p b (w1 ∷ w2 ∷ []) h = refl
no_pair p b (w1 ∷ w2 ∷ w3 ∷ []) h = refl
no_pair p b (w1 ∷ w2 ∷ w3 ∷ w4 ∷ []) h = refl
no_pair p b (w1 ∷ w2 ∷ w3 ∷ w4 ∷ w5 ∷ []) h = refl
no_pair p b (w1 ∷ w2 ∷ w3 ∷ w4 ∷ w5 ∷ w6 ∷ []) h = absurd (true≢false h)
no_pair p b (w1 ∷ w2 ∷ w3 ∷ w4 ∷ w5 ∷ w6 ∷ w7 ∷ words) h = refl
