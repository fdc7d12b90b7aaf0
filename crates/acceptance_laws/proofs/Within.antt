-- A statement of a body's tables ends in no way in which its typing says that it can't end.
use Rattle.std.proofs.Common.{◌≡◌, ◌∙◌, Bool, true, false, refl, ap}
use Rattle.std.specs.Prelude.{◌&&◌, ◌||◌, not}
use Rattle.java_statement_rules.specs.declared.completion.Completion as rules
use Rattle.java_statement_rules.specs.Completions as rules_of
use Rattle.accepted_programs.specs.Completions.{Completion, abrupt, and_then, breaking, continuing, do_completion, loop_completion, normal, one_of}

-- in each way in which the first ends, the second ends
pub record IsWithin (a : Completion) (b : rules.Completion) : Type 0 where
  pub completes : a.completes ≡ true → b.completes ≡ true
  pub breaks : a.breaks ≡ true → b.breaks ≡ true
  pub continues : a.continues ≡ true → b.continues ≡ true

pub false_is_true : {X : Type 0} → false ≡ true → X
false_is_true h = absurd (let no : false ≡ true = h in cc)

-- ---- truth values

or_right : (a b : Bool) → b ≡ true → (a || b) ≡ true
or_right true b h = refl
or_right false b h = h

and_kept : (a b a' b' : Bool) → (a ≡ true → a' ≡ true) → (b ≡ true → b' ≡ true) → (a && b) ≡ true → (a' && b') ≡ true
and_kept true b a' b' f g h = ap (λ z. z && b') (f refl) ∙ g h
and_kept false b a' b' f g h = false_is_true h

or_kept : (a b a' b' : Bool) → (a ≡ true → a' ≡ true) → (b ≡ true → b' ≡ true) → (a || b) ≡ true → (a' || b') ≡ true
or_kept true b a' b' f g h = ap (λ z. z || b') (f refl)
or_kept false b a' b' f g h = or_right a' b' (g h)

not_kept : (a a' : Bool) → (a' ≡ true → a ≡ true) → not a ≡ true → not a' ≡ true
not_kept true a' f h = false_is_true h
not_kept false true f h = false_is_true (f refl)
not_kept false false f h = refl

-- ---- completions

pub within_normal : IsWithin normal rules_of.normal
within_normal = record { completes = λ h. h; breaks = λ h. h; continues = λ h. h }

pub within_abrupt : IsWithin abrupt rules_of.abrupt
within_abrupt = record { completes = λ h. h; breaks = λ h. h; continues = λ h. h }

pub within_breaking : IsWithin breaking rules_of.breaking
within_breaking = record { completes = λ h. h; breaks = λ h. h; continues = λ h. h }

pub within_continuing : IsWithin continuing rules_of.continuing
within_continuing = record { completes = λ h. h; breaks = λ h. h; continues = λ h. h }

pub within_and_then : (a b : Completion) (a' b' : rules.Completion) → IsWithin a a' → IsWithin b b' → IsWithin (and_then a b) (rules_of.and_then a' b')
within_and_then a b a' b' h g = record {
  completes = and_kept a.completes b.completes a'.completes b'.completes h.completes g.completes;
  breaks = or_kept a.breaks (a.completes && b.breaks) a'.breaks (a'.completes && b'.breaks) h.breaks (and_kept a.completes b.breaks a'.completes b'.breaks h.completes g.breaks);
  continues = or_kept a.continues (a.completes && b.continues) a'.continues (a'.completes && b'.continues) h.continues (and_kept a.completes b.continues a'.completes b'.continues h.completes g.continues);
}

pub within_one_of : (a b : Completion) (a' b' : rules.Completion) → IsWithin a a' → IsWithin b b' → IsWithin (one_of a b) (rules_of.one_of a' b')
within_one_of a b a' b' h g = record {
  completes = or_kept a.completes b.completes a'.completes b'.completes h.completes g.completes;
  breaks = or_kept a.breaks b.breaks a'.breaks b'.breaks h.breaks g.breaks;
  continues = or_kept a.continues b.continues a'.continues b'.continues h.continues g.continues;
}

-- a condition that the typing takes to be always true is so in the tables
pub within_loop : (always always' : Bool) (a : Completion) (a' : rules.Completion) → (always' ≡ true → always ≡ true) → IsWithin a a' → IsWithin (loop_completion always a) (rules_of.loop_completion always' a')
within_loop always always' a a' f h = record {
  completes = or_kept (not always) a.breaks (not always') a'.breaks (not_kept always always' f) h.breaks;
  breaks = λ no. no;
  continues = λ no. no;
}

pub within_do : (always always' : Bool) (a : Completion) (a' : rules.Completion) → (always' ≡ true → always ≡ true) → IsWithin a a' → IsWithin (do_completion always a) (rules_of.do_completion always' a')
within_do always always' a a' f h = record {
  completes = or_kept ((a.completes || a.continues) && not always) a.breaks ((a'.completes || a'.continues) && not always') a'.breaks
      (and_kept (a.completes || a.continues) (not always) (a'.completes || a'.continues) (not always') (or_kept a.completes a.continues a'.completes a'.continues h.completes h.continues) (not_kept always always' f))
      h.breaks;
  breaks = λ no. no;
  continues = λ no. no;
}
