-- What the flow rules make of the facts of the socket and of its holder in `main`.
use Rattle.std.proofs.Common.{◌≡◌, true, false, refl, ap, ◌∙◌}
use Rattle.std.specs.FinSet as set
use Rattle.rlc_base.specs.NameSet.{inserted}
use Rattle.program_model.proofs.NameLaws.{union_none}
use Rattle.control_actions.specs.declared.action.Action.TheVariants as actions
use Rattle.control_actions.specs.declared.action.Completion.TheVariants as completions
use Rattle.control_actions.specs.declared.action.Edge.TheVariants as edges
use Rattle.control_actions.specs.declared.action.Scope.TheVariants as scopes
use Rattle.control_actions.specs.declared.action.TargetForm.TheVariants as forms
use Rattle.control_actions.specs.declared.fact.Fact.{Fact}
use Rattle.control_actions.specs.declared.fact.Mode.TheVariants as modes
use Rattle.control_actions.specs.declared.fact.Origin.{Origin}
use Rattle.control_actions.specs.declared.fact.OriginKind.TheVariants as kinds
use Rattle.control_actions.specs.declared.fact.Outcome.TheVariants.{Next, Gone}
use Rattle.control_actions.specs.declared.place.Place.TheVariants as places
use Rattle.obligation_facts.specs.Facts.{Names, PlaceSet, without_temps}
use Rattle.soundness_laws.specs.Flow.{flow}
use Rattle.safety_examples.specs.CarefulPrograms.{close_alone, in_source, no_names}
use Rattle.safety_examples.specs.ResettingPrograms.{connect, holder, holder_close, holder_constructor, resetting, main_body, socket}
use Rattle.safety_examples.proofs.CarefulSets.{close_not_none, within_itself}
use Rattle.safety_examples.proofs.OwnerSets.{nothing_left, nothing_promised, removed, somewhere}

-- ---- the places of the socket

-- in the new socket's temp; in `s`; in both
abbrev pub in_temp : PlaceSet
in_temp = set.insert set.empty 177

abbrev pub in_variable : PlaceSet
in_variable = set.remove (set.insert in_temp 1) 177

abbrev pub in_both : PlaceSet
in_both = set.insert in_variable 177

-- after it is connected, and once the temp is gone; in `s` and the argument's temp
abbrev pub connected : PlaceSet
connected = set.remove (set.remove in_both 177) 177

abbrev pub left : PlaceSet
left = set.remove connected 177

abbrev pub in_argument : PlaceSet
in_argument = set.insert left 178

-- in `s` alone, once the holder has it: after each of the steps behind
abbrev pub taken : PlaceSet
taken = set.remove (set.remove in_argument 178) 177

abbrev pub beside_kept : PlaceSet
beside_kept = set.remove (set.remove taken 2) 177

abbrev pub beside_read : PlaceSet
beside_read = set.remove beside_kept 177

abbrev pub beside_call : PlaceSet
beside_call = set.remove (set.remove beside_read 177) 177

abbrev pub beside_drop : PlaceSet
beside_drop = set.remove beside_call 177

temp_has : set.contains in_temp 177 ≡ true
temp_has = inserted set.empty 177 177

variable_has : set.contains in_variable 1 ≡ true
variable_has = removed (set.insert in_temp 1) 177 1 ∙ inserted in_temp 1 1

both_have : set.contains in_both 1 ≡ true
both_have = inserted in_variable 177 1 ∙ variable_has

both_have_temp : set.contains in_both 177 ≡ true
both_have_temp = inserted in_variable 177 177

connected_has : set.contains connected 1 ≡ true
connected_has = removed (set.remove in_both 177) 177 1 ∙ removed in_both 177 1 ∙ both_have

left_has : set.contains left 1 ≡ true
left_has = removed connected 177 1 ∙ connected_has

argument_has : set.contains in_argument 1 ≡ true
argument_has = inserted left 178 1 ∙ left_has

argument_has_temp : set.contains in_argument 178 ≡ true
argument_has_temp = inserted left 178 178

taken_has : set.contains taken 1 ≡ true
taken_has = removed (set.remove in_argument 178) 177 1 ∙ removed in_argument 178 1 ∙ argument_has

kept_has : set.contains beside_kept 1 ≡ true
kept_has = removed (set.remove taken 2) 177 1 ∙ removed taken 2 1 ∙ taken_has

read_has : set.contains beside_read 1 ≡ true
read_has = removed beside_kept 177 1 ∙ kept_has

call_has : set.contains beside_call 1 ≡ true
call_has = removed (set.remove beside_read 177) 177 1 ∙ removed beside_read 177 1 ∙ read_has

drop_has : set.contains beside_drop 1 ≡ true
drop_has = removed beside_call 177 1 ∙ call_has

-- no temp of the first depth, and no `h`
taken_no_temp : set.contains taken 177 ≡ false
taken_no_temp = removed (set.remove in_argument 178) 177 177

kept_no_variable : set.contains beside_kept 2 ≡ false
kept_no_variable = removed (set.remove taken 2) 177 2 ∙ removed taken 2 2

read_no_temp : set.contains beside_read 177 ≡ false
read_no_temp = removed beside_kept 177 177

-- ---- the places of the holder: the temp; `h`; both; and `h` after the call

abbrev pub holder_kept : PlaceSet
holder_kept = set.remove (set.insert in_temp 2) 177

abbrev pub holder_read : PlaceSet
holder_read = set.insert holder_kept 177

abbrev pub after_call : PlaceSet
after_call = set.remove (set.remove holder_read 177) 177

abbrev pub after_drop : PlaceSet
after_drop = set.remove after_call 177

holder_has : set.contains holder_kept 2 ≡ true
holder_has = removed (set.insert in_temp 2) 177 2 ∙ inserted in_temp 2 2

holder_reads : set.contains holder_read 2 ≡ true
holder_reads = inserted holder_kept 177 2 ∙ holder_has

holder_has_temp : set.contains holder_read 177 ≡ true
holder_has_temp = inserted holder_kept 177 177

after_call_has : set.contains after_call 2 ≡ true
after_call_has = removed (set.remove holder_read 177) 177 2 ∙ removed holder_read 177 2 ∙ holder_reads

after_drop_has : set.contains after_drop 2 ≡ true
after_drop_has = removed after_call 177 2 ∙ after_call_has

-- ---- names

-- what was called on the socket, once the holder has it: nothing that counts
abbrev pub given_names : Names
given_names = set.union no_names no_names

abbrev pub other_names : Names
other_names = set.union given_names (set.union no_names no_names)

-- `close` was called, and what it promises is no matter of its holder's
abbrev pub closed_names : Names
closed_names = set.union close_alone (set.union no_names no_names)

closed_met : set.is_subset close_alone closed_names ≡ true
closed_met = ap (set.is_subset close_alone) (ap (set.union close_alone) (union_none no_names) ∙ union_none close_alone) ∙ within_itself close_alone

-- ---- facts

-- nothing must be called at first
abbrev pub socket_origin : Origin
socket_origin = record { kind = kinds.New; pos = in_source 8 20; class = socket; first = no_names; full = close_alone }

abbrev pub holder_origin : Origin
holder_origin = record { kind = kinds.New; pos = in_source 10 20; class = holder; first = close_alone; full = close_alone }

abbrev pub fact : PlaceSet → Names → Fact
fact held called = record { origin = 0; places = held; mode = modes.Own; called = called; full = false }

-- once the obligation was created
abbrev pub anew : PlaceSet → Names → Fact
anew held called = record { origin = 0; places = held; mode = modes.Own; called = called; full = true }

-- once the holder has it
abbrev pub given : PlaceSet → Names → Fact
given held called = record { origin = 0; places = held; mode = modes.None; called = called; full = true }

pub keeps : flow resetting main_body socket_origin (actions.Move (places.Var 1) (places.Temp 0)) edges.Go (fact in_temp no_names) ≡ Next (fact in_variable no_names)
keeps = simp (temp_has, somewhere in_variable 1 variable_has) refl

pub reads : flow resetting main_body socket_origin (actions.Copy (places.Temp 0) (places.Var 1)) edges.Go (fact in_variable no_names) ≡ Next (fact in_both no_names)
reads = simp (variable_has, somewhere in_both 1 both_have) refl

pub connects : flow resetting main_body socket_origin (actions.Call connect 0 1 forms.Other) edges.Go (fact in_both no_names) ≡ Next (anew connected no_names)
unfolding without_temps
connects = simp (both_have_temp, somewhere connected 1 connected_has, nothing_left no_names, close_not_none) refl

pub leaves : flow resetting main_body socket_origin (actions.Drop (scopes.Temp 0)) edges.Go (anew connected no_names) ≡ Next (anew left no_names)
leaves = simp (somewhere left 1 left_has) refl

pub reads_argument : flow resetting main_body socket_origin (actions.Copy (places.Temp 1) (places.Var 1)) edges.Go (anew left no_names) ≡ Next (anew in_argument no_names)
reads_argument = simp (left_has, somewhere in_argument 1 argument_has) refl

pub takes : flow resetting main_body socket_origin (actions.New holder_constructor 0 1) edges.Go (anew in_argument no_names) ≡ Next (given taken given_names)
unfolding without_temps
takes = simp (argument_has_temp, nothing_promised no_names, close_not_none, within_itself close_alone, somewhere taken 1 taken_has) refl

pub keeps_beside : flow resetting main_body socket_origin (actions.Move (places.Var 2) (places.Temp 0)) edges.Go (given taken given_names) ≡ Next (given beside_kept given_names)
keeps_beside = simp (taken_no_temp, somewhere beside_kept 1 kept_has) refl

pub reads_beside : flow resetting main_body socket_origin (actions.Copy (places.Temp 0) (places.Var 2)) edges.Go (given beside_kept given_names) ≡ Next (given beside_read given_names)
reads_beside = simp (kept_no_variable, somewhere beside_read 1 read_has) refl

pub calls_beside : flow resetting main_body socket_origin (actions.Call holder_close 0 1 forms.Other) edges.Go (given beside_read given_names) ≡ Next (given beside_call other_names)
unfolding without_temps
calls_beside = simp (read_no_temp, somewhere beside_call 1 call_has, nothing_left given_names) refl

pub drops_beside : flow resetting main_body socket_origin (actions.Drop (scopes.Temp 0)) edges.Go (given beside_call other_names) ≡ Next (given beside_drop other_names)
drops_beside = simp (somewhere beside_drop 1 drop_has) refl

pub returns_beside : flow resetting main_body socket_origin (actions.End (completions.Return (in_source 12 5))) edges.Go (given beside_drop other_names) ≡ Gone
returns_beside = simp (nothing_promised other_names) refl

pub moves : flow resetting main_body holder_origin (actions.Move (places.Var 2) (places.Temp 0)) edges.Go (fact in_temp no_names) ≡ Next (fact holder_kept no_names)
moves = simp (temp_has, somewhere holder_kept 2 holder_has) refl

pub copies : flow resetting main_body holder_origin (actions.Copy (places.Temp 0) (places.Var 2)) edges.Go (fact holder_kept no_names) ≡ Next (fact holder_read no_names)
copies = simp (holder_has, somewhere holder_read 2 holder_reads) refl

pub calls : flow resetting main_body holder_origin (actions.Call holder_close 0 1 forms.Other) edges.Go (fact holder_read no_names) ≡ Next (fact after_call closed_names)
unfolding without_temps
calls = simp (holder_has_temp, somewhere after_call 2 after_call_has, nothing_left no_names) refl

pub drops : flow resetting main_body holder_origin (actions.Drop (scopes.Temp 0)) edges.Go (fact after_call closed_names) ≡ Next (fact after_drop closed_names)
drops = simp (somewhere after_drop 2 after_drop_has) refl

pub returns : flow resetting main_body holder_origin (actions.End (completions.Return (in_source 12 5))) edges.Go (fact after_drop closed_names) ≡ Gone
returns = simp (closed_met, nothing_promised closed_names) refl
