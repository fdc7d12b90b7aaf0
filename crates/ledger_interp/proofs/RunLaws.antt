-- Runs, step by step.
use Rattle.std.proofs.Common.{◌≡◌, ◌∙◌, sym, ap, refl, arith, ℕ, ◌+◌, ◌<◌, zero, suc, true, false, Option, List, [], ◌∷◌}
use Rattle.program_model.specs.declared.kinds.ClassId.{ClassId}
use Rattle.program_model.specs.declared.program.Program.{Program}
use Rattle.rlc_base.specs.declared.place.Pos.{Pos}
use Rattle.ledger_runs.specs.Configuration.{Config, Frame}
use Rattle.ledger_machine.specs.declared.turn.Turn.TheVariants as turns
use Rattle.ledger_runs.specs.Outcomes.{Outcome, went, ended, stray, config_after}
use Rattle.ledger_machine.specs.Turns.{turn_of}
use Rattle.ledger_runs.specs.Steps.{has_ended, step}
use Rattle.ledger_text.specs.declared.how.How.TheVariants as hows
use Rattle.ledger_runs.specs.Runs.{Run, come_to, go_on, how_spent, run_from}

pub how_over : (c : Config) (frs : List Frame) → has_ended frs ≡ true → hows.Ended c.ended ≡ how_spent c frs
how_over c [] h = refl
how_over c (fr ∷ frs) h = cc h

pub how_cut : (c : Config) (frs : List Frame) → has_ended frs ≡ false → hows.Cut ≡ how_spent c frs
how_cut c [] h = cc h
how_cut c (fr ∷ frs) h = refl

gone_on : (rest : Config → Run) (c d : Config) (o : Outcome) → turns.Went ≡ turn_of o → d ≡ config_after c o → go_on rest c o ≡ rest d
gone_on rest c d (went e) t h = ap rest (sym h)
gone_on rest c d (ended e) t h = cc t
gone_on rest c d (stray e pos) t h = cc t

-- a step was taken: what is left of the run goes on from there
pub one_taken : (k n : ℕ) (p : Program) (c d : Config) (whole : Run) → n ≡ k + 1 → turns.Went ≡ turn_of (step p c) → d ≡ config_after c (step p c) → run_from n p c ≡ whole → run_from k p d ≡ whole
one_taken k n p c d whole e t h before =
    let next : n ≡ suc k = omega arith in
    sym (gone_on (run_from k p) c d (step p c) t h) ∙ ap (λ i. run_from i p c) (sym next) ∙ before

over_at : (rest : Config → Run) (c d : Config) (x : Option ClassId) (o : Outcome) → turns.Ended x ≡ turn_of o → d ≡ config_after c o → go_on rest c o ≡ come_to d (hows.Ended x)
over_at rest c d x (went e) t h = cc t
over_at rest c d x (ended e) t h = cc (t, h)
over_at rest c d x (stray e pos) t h = cc t

-- no frame was left
pub run_over : (n : ℕ) (p : Program) (c d : Config) (x : Option ClassId) (whole : Run) → 0 < n → turns.Ended x ≡ turn_of (step p c) → d ≡ config_after c (step p c) → run_from n p c ≡ whole → come_to d (hows.Ended x) ≡ whole
run_over zero p c d x whole h t e before = absurd (omega arith)
run_over (suc k) p c d x whole h t e before = sym (over_at (run_from k p) c d x (step p c) t e) ∙ before

stray_at : (rest : Config → Run) (c d : Config) (x : ClassId) (pos : Pos) (o : Outcome) → turns.Stray x pos ≡ turn_of o → d ≡ config_after c o → go_on rest c o ≡ come_to d (hows.Stray x pos)
stray_at rest c d x pos (went e) t h = cc t
stray_at rest c d x pos (ended e) t h = cc t
stray_at rest c d x pos (stray e at) t h = cc (t, h)

-- the next step was stray
pub run_stray : (n : ℕ) (p : Program) (c d : Config) (x : ClassId) (pos : Pos) (whole : Run) → 0 < n → turns.Stray x pos ≡ turn_of (step p c) → d ≡ config_after c (step p c) → run_from n p c ≡ whole → come_to d (hows.Stray x pos) ≡ whole
run_stray zero p c d x pos whole h t e before = absurd (omega arith)
run_stray (suc k) p c d x pos whole h t e before = sym (stray_at (run_from k p) c d x pos (step p c) t e) ∙ before
