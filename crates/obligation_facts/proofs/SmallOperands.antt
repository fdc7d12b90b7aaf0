-- The operands of a call that a set of places has room for have room.
use Rattle.std.proofs.Common.{◌≡◌, ℕ, zero, suc, ◌+◌, ◌<◌, ◌≤◌, Bool, true, false, ◌&&◌, Some, None, refl, arith, ap, add-one}
use Rattle.std.specs.Prelude.{nat_lt, nat_le, if◌then◌else◌}
use Rattle.std.proofs.lemmas.Bool.{and_parts, le-ltb}
use Rattle.std.proofs.lemmas.Bool.Decides.{Decides-ltb}
use Rattle.program_model.specs.declared.program.Program.{Program}
use Rattle.control_actions.specs.declared.action.Action.{Action}
use Rattle.control_actions.specs.declared.action.Action.TheVariants as actions
use Rattle.control_actions.specs.declared.action.TargetForm.{TargetForm}
use Rattle.control_actions.specs.declared.action.TargetForm.TheVariants as forms
use Rattle.control_actions.specs.Calls.{operand_at, temp_at, without_receiver, call_operand, new_operand}
use Rattle.obligation_facts.specs.SmallActions.{IsSmallAction, IsSmallTemp}

chosen : (b : Bool) (x : ℕ) → (b ≡ true → x < 64) → IsSmallTemp (if b then Some x else None)
chosen true x small = small refl
chosen false x small = tt

temp_at-IsSmallTemp : (d n k : ℕ) → d + n ≤ 64 → IsSmallTemp (temp_at d n k)
temp_at-IsSmallTemp d n k room = chosen (nat_lt k n && nat_le (d + k) 4294967295) (d + k) (λ both. let below : k < n = (Decides-ltb k n).0 (and_parts _ _ both).0 in omega arith)

without_receiver-IsSmallTemp : (d n k : ℕ) → d + n ≤ 64 → IsSmallTemp (without_receiver d n k)
without_receiver-IsSmallTemp d n zero room = tt
without_receiver-IsSmallTemp d n (suc k) room = temp_at-IsSmallTemp d n k room

new_operand-IsSmallTemp : (d n k : ℕ) → d + n < 64 → IsSmallTemp (new_operand d n k)
new_operand-IsSmallTemp d n zero room = tt
new_operand-IsSmallTemp d n (suc k) room = temp_at-IsSmallTemp (d + 1) n k (omega arith)

call_operand-IsSmallTemp : (form : TargetForm) (d n k : ℕ) → d + n ≤ 64 → IsSmallTemp (call_operand form d n k)
call_operand-IsSmallTemp forms.Static d n k room = without_receiver-IsSmallTemp d n k room
call_operand-IsSmallTemp forms.This d n k room = temp_at-IsSmallTemp d n k room
call_operand-IsSmallTemp forms.Super d n k room = temp_at-IsSmallTemp d n k room
call_operand-IsSmallTemp forms.Other d n k room = temp_at-IsSmallTemp d n k room

pub operand_has_room : (p : Program) (a : Action) (k : ℕ) → IsSmallAction p a → IsSmallTemp (operand_at a k)
operand_has_room p (actions.Call m d n form) k small = call_operand-IsSmallTemp form d n k small.1
operand_has_room p (actions.New m d n) k small = new_operand-IsSmallTemp d n k small
operand_has_room p (actions.Super m d n) k small = temp_at-IsSmallTemp d n k small.1
operand_has_room p _ k small = tt

-- ---- the positions from 64 on have no operand

temp_past : (d n k : ℕ) → n ≤ k → temp_at d n k ≡ None
temp_past d n k past = ap (λ b. if (b && nat_le (d + k) 4294967295) then Some (d + k) else None) (le-ltb k n past)

call_operand_past : (form : TargetForm) (d n k : ℕ) → n ≤ k → call_operand form d n (suc k) ≡ None
call_operand_past forms.Static d n k past = temp_past d n k past
call_operand_past forms.This d n k past = temp_past d n (suc k) (omega arith)
call_operand_past forms.Super d n k past = temp_past d n (suc k) (omega arith)
call_operand_past forms.Other d n k past = temp_past d n (suc k) (omega arith)

operand_past : (p : Program) (a : Action) (k : ℕ) → IsSmallAction p a → 64 ≤ k → operand_at a (suc k) ≡ None
operand_past p (actions.Call m d n form) k small past = call_operand_past form d n k (omega (arith, small.1))
operand_past p (actions.New m d n) k small past = temp_past (d + 1) n k (omega arith)
operand_past p (actions.Super m d n) k small past = temp_past d n (suc k) (omega (arith, small.1))
operand_past p _ k small past = refl

pub no_operand : (p : Program) (a : Action) (k : ℕ) → IsSmallAction p a → 64 ≤ k → operand_at a (k + 1) ≡ None
no_operand p a k small past = rw add-one (operand_past p a k small past)
