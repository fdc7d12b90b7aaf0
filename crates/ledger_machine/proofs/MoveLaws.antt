-- What the steps of a run come to, from what comes next.
use Rattle.std.proofs.Common.{◌≡◌, ◌∙◌, sym, ap, refl, arith, ℕ, ◌+◌, Option, List, [], ◌∷◌, ◌++◌, length, subst, ◌-◌, ◌<◌, ◌≤◌}
use Rattle.program_model.specs.declared.kinds.ClassId.{ClassId}
use Rattle.program_model.specs.declared.kinds.MethodId.{MethodId}
use Rattle.program_model.specs.declared.program.Program.{Program}
use Rattle.rlc_base.specs.declared.place.Pos.{Pos}
use Rattle.control_actions.specs.declared.action.Completion.{Completion}
use Rattle.ledger_moves.specs.Configuration.{Config, Frame}
use Rattle.ledger_moves.specs.Moves.{Move, End, Rest, Stray, Back, NoWay, StrayBack, return_move}
use Rattle.ledger_runs.specs.Steps.{moved_by, returned, returned_by}
use Rattle.ledger_runs.specs.Ends.{exception_class, thrown_in}
use Rattle.java_control.specs.Control.{Step}
use Rattle.ledger_moves.specs.Choosing.{frame_steps}
use Rattle.ledger_runs.specs.Outcomes.{ended, stray, went}

-- the end of a frame that has a caller, where the caller stands at no call
pub end_no_way : (p : Program) (c : Config) (frs : List Frame) (pos : Pos) (q : Completion) → 1 < length frs
    → ((fr caller : Frame) (rest : List Frame) → frs ≡ fr ∷ caller ∷ rest → NoWay ≡ return_move p (frame_steps p caller) (exception_class p c.heap (thrown_in fr.locals q)))
    → went c ≡ moved_by p c frs (End pos q)
end_no_way p c [] pos q h seen = absurd (omega (arith, h))
end_no_way p c (fr ∷ []) pos q h seen = absurd (omega (arith, h))
end_no_way p c (fr ∷ caller ∷ rest) pos q h seen = ap (returned_by p c fr caller rest pos q) (seen fr caller rest refl)

-- where the exception by which it ends is stray
pub end_stray : (p : Program) (c : Config) (frs : List Frame) (pos : Pos) (q : Completion) (e : ClassId) (at : Pos) → 1 < length frs
    → ((fr caller : Frame) (rest : List Frame) → frs ≡ fr ∷ caller ∷ rest → StrayBack e at ≡ return_move p (frame_steps p caller) (exception_class p c.heap (thrown_in fr.locals q)))
    → stray e at ≡ moved_by p c frs (End pos q)
end_stray p c [] pos q e at h seen = absurd (omega (arith, h))
end_stray p c (fr ∷ []) pos q e at h seen = absurd (omega (arith, h))
end_stray p c (fr ∷ caller ∷ rest) pos q e at h seen = ap (returned_by p c fr caller rest pos q) (seen fr caller rest refl)

-- where the caller takes a step
pub end_back : (p : Program) (c d : Config) (frs : List Frame) (pos : Pos) (q : Completion) (e : Option ClassId) (named : MethodId) (t : Step) → 1 < length frs
    → ((fr caller : Frame) (rest : List Frame) → frs ≡ fr ∷ caller ∷ rest → Back e named t ≡ return_move p (frame_steps p caller) (exception_class p c.heap (thrown_in fr.locals q)))
    → ((fr caller : Frame) (rest : List Frame) → frs ≡ fr ∷ caller ∷ rest → d ≡ returned p c fr caller rest pos q e named t)
    → went d ≡ moved_by p c frs (End pos q)
end_back p c d [] pos q e named t h seen is = absurd (omega (arith, h))
end_back p c d (fr ∷ []) pos q e named t h seen is = absurd (omega (arith, h))
end_back p c d (fr ∷ caller ∷ rest) pos q e named t h seen is = ap went (is fr caller rest refl) ∙ ap (returned_by p c fr caller rest pos q) (seen fr caller rest refl)

-- the next step is stray
pub stray_went : (p : Program) (c : Config) (frs : List Frame) (e : ClassId) (pos : Pos) → 0 < length frs → stray e pos ≡ moved_by p c frs (Stray e pos)
stray_went p c [] e pos h = absurd (omega (arith, h))
stray_went p c (fr ∷ frs) e pos h = refl

-- the values choose no step
pub rest_went : (p : Program) (c : Config) (frs : List Frame) → 0 < length frs → went c ≡ moved_by p c frs Rest
rest_went p c [] h = absurd (omega (arith, h))
rest_went p c (fr ∷ frs) h = refl

none_left : (frs : List Frame) → length frs ≡ 0 → frs ≡ []
none_left [] h = refl
none_left (fr ∷ frs) h = absurd (omega (arith, h))

-- no frame is left
pub over_moved : (p : Program) (c : Config) (frs : List Frame) (m : Move) → length frs ≡ 0 → ended c.ended ≡ moved_by p c frs m
over_moved p c frs m h = ap (λ xs. moved_by p c xs m) (sym (none_left frs h))

-- the caller takes a step, seen from the same configuration
pub back_went : (p : Program) (c same d : Config) (pos : Pos) (q : Completion) (e : Option ClassId) (named : MethodId) (t : Step) → same ≡ c → 1 < length c.frames
    → ((fr caller : Frame) (rest : List Frame) → c.frames ≡ fr ∷ caller ∷ rest → Back e named t ≡ return_move p (frame_steps p caller) (exception_class p c.heap (thrown_in fr.locals q)))
    → ((fr caller : Frame) (rest : List Frame) → same.frames ≡ fr ∷ caller ∷ rest → d ≡ returned p same fr caller rest pos q e named t)
    → went d ≡ moved_by p c c.frames (End pos q)
back_went p c same d pos q e named t kept h seen is =
    end_back p c d c.frames pos q e named t h seen
    (subst (λ (x : Config). (fr caller : Frame) (rest : List Frame) → x.frames ≡ fr ∷ caller ∷ rest → d ≡ returned p x fr caller rest pos q e named t) kept is)
