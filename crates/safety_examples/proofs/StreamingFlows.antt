-- What the flow rules make of the socket's facts in the program that closes its stream.
use Rattle.std.proofs.Common.{◌≡◌, ℕ, Bool, true, false, not, ◌&&◌, ◌==◌, refl, sym, ap, ◌∙◌, true≢false}
use Rattle.std.specs.Cmp.{nat_cmp_total, unsigned_tied}
use Rattle.std.specs.FinSet as set
use Rattle.std.specs.Ordering.{nat_cmp}
use Rattle.rlc_base.specs.NameSet.{inserted}
use Rattle.program_model.proofs.NameLaws.{union_none}
use Rattle.program_model.specs.declared.kinds.BodyId.{BodyId}
use Rattle.program_model.specs.NameSets.{Names}
use Rattle.control_actions.specs.declared.action.Action.TheVariants as actions
use Rattle.control_actions.specs.declared.action.Completion.TheVariants as completions
use Rattle.control_actions.specs.declared.action.Edge.TheVariants as edges
use Rattle.control_actions.specs.declared.action.Scope.TheVariants as scopes
use Rattle.control_actions.specs.declared.action.TargetForm.TheVariants as forms
use Rattle.control_actions.specs.declared.fact.Fact.{Fact}
use Rattle.control_actions.specs.declared.fact.Mode.TheVariants as modes
use Rattle.control_actions.specs.declared.fact.Origin.{Origin}
use Rattle.control_actions.specs.declared.fact.OriginKind.TheVariants as kinds
use Rattle.control_actions.specs.declared.fact.Outcome.TheVariants.{Next, Gone}
use Rattle.control_actions.specs.declared.place.Place.TheVariants as places
use Rattle.obligation_facts.specs.Facts.{PlaceSet, without_temps}
use Rattle.soundness_laws.specs.Flow.{flow}
use Rattle.safety_examples.specs.StreamingControls.{thrown}
use Rattle.safety_examples.specs.CarefulPrograms.{close_alone, in_source, io_exception, no_names}
use Rattle.safety_examples.specs.StreamingPrograms.{get_stream, socket, stream_close, streaming}
use Rattle.safety_examples.proofs.CarefulSets.{contains_none, within_itself}

-- ---- sets

removed : (s : set.FinSet nat_cmp) (n k : ℕ) → set.contains (set.remove s n) k ≡ (not (k == n) && set.contains s k)
removed s n k = set.contains-remove nat_cmp_total s n k ∙ ap (λ b. not b && set.contains s k) (unsigned_tied k n)

-- a set with a member is not empty
somewhere : (s : set.FinSet nat_cmp) (k : ℕ) → set.contains s k ≡ true → set.is_subset s set.empty ≡ false
somewhere s k has = go (set.is_subset s set.empty) refl
  where
    go : (b : Bool) → set.is_subset s set.empty ≡ b → set.is_subset s set.empty ≡ false
    go true within = absurd (true≢false (sym (set.is_subset-contains nat_cmp_total s set.empty within k has) ∙ contains_none k))
    go false not_within = not_within

-- in the new socket's temp; in `s`; in both
abbrev pub in_temp : PlaceSet
in_temp = set.insert set.empty 177

abbrev pub in_variable : PlaceSet
in_variable = set.remove (set.insert in_temp 1) 177

abbrev pub in_both : PlaceSet
in_both = set.insert in_variable 177

-- in `s`, and in the temp of the stream; in `s` and `in`; in these and the temp; and in `s` and `in` again, once the temp is gone
abbrev pub with_stream : PlaceSet
with_stream = set.insert (set.remove (set.remove in_both 177) 177) 177

abbrev pub in_stream : PlaceSet
in_stream = set.remove (set.insert with_stream 2) 177

abbrev pub in_all : PlaceSet
in_all = set.insert in_stream 177

abbrev pub after_call : PlaceSet
after_call = set.remove (set.remove in_all 177) 177

abbrev pub after_drop : PlaceSet
after_drop = set.remove after_call 177

temp_has : set.contains in_temp 177 ≡ true
temp_has = inserted set.empty 177 177

variable_has : set.contains in_variable 1 ≡ true
variable_has = removed (set.insert in_temp 1) 177 1 ∙ inserted in_temp 1 1

both_have : set.contains in_both 1 ≡ true
both_have = inserted in_variable 177 1 ∙ variable_has

both_have_temp : set.contains in_both 177 ≡ true
both_have_temp = inserted in_variable 177 177

stream_has_temp : set.contains with_stream 177 ≡ true
stream_has_temp = inserted (set.remove (set.remove in_both 177) 177) 177 177

stream_has : set.contains in_stream 2 ≡ true
stream_has = removed (set.insert with_stream 2) 177 2 ∙ inserted with_stream 2 2

all_have : set.contains in_all 2 ≡ true
all_have = inserted in_stream 177 2 ∙ stream_has

all_have_temp : set.contains in_all 177 ≡ true
all_have_temp = inserted in_stream 177 177

call_has : set.contains after_call 2 ≡ true
call_has = removed (set.remove in_all 177) 177 2 ∙ removed in_all 177 2 ∙ all_have

drop_has : set.contains after_drop 2 ≡ true
drop_has = removed after_call 177 2 ∙ call_has

-- the names when the stream was taken, and when it was closed
abbrev pub streamed_names : Names
streamed_names = set.union no_names no_names

abbrev pub closed_names : Names
closed_names = set.union (set.insert streamed_names 0) no_names

closed_met : set.is_subset close_alone closed_names ≡ true
closed_met =
    ap (set.is_subset close_alone) (union_none (set.insert streamed_names 0) ∙ ap (λ (s : Names). set.insert s 0) (union_none no_names)) ∙ within_itself close_alone

nothing_left : (t : Names) → set.is_subset (set.difference no_names t) no_names ≡ true
nothing_left t = set.contains-is_subset nat_cmp_total (set.difference no_names t) no_names (λ k has.
    absurd (true≢false (sym has ∙ set.contains-difference nat_cmp_total no_names t k ∙ ap (λ b. b && not (set.contains t k)) (contains_none k))))

nothing_promised : (t : Names) → set.is_subset (set.difference (set.union no_names no_names) t) no_names ≡ true
nothing_promised t = ap (λ (s : Names). set.is_subset (set.difference s t) no_names) (union_none no_names) ∙ nothing_left t

-- ---- facts

abbrev pub body : BodyId
body = record { 0 = 0 }

abbrev pub origin : Origin
origin = record { kind = kinds.New; pos = in_source 3 20; class = socket; first = close_alone; full = close_alone }

abbrev pub fact : PlaceSet → Names → Fact
fact held called = record { origin = 0; places = held; mode = modes.Own; called = called; full = false }

pub moves : flow streaming body origin (actions.Move (places.Var 1) (places.Temp 0)) edges.Go (fact in_temp no_names) ≡ Next (fact in_variable no_names)
moves = simp (temp_has, somewhere in_variable 1 variable_has) refl

pub copies : flow streaming body origin (actions.Copy (places.Temp 0) (places.Var 1)) edges.Go (fact in_variable no_names) ≡ Next (fact in_both no_names)
copies = simp (variable_has, somewhere in_both 1 both_have) refl

pub streams : flow streaming body origin (actions.Call get_stream 0 1 forms.Other) edges.Go (fact in_both no_names) ≡ Next (fact with_stream streamed_names)
unfolding without_temps
streams = simp (both_have_temp, somewhere with_stream 177 stream_has_temp, nothing_left no_names) refl

pub takes : flow streaming body origin (actions.Move (places.Var 2) (places.Temp 0)) edges.Go (fact with_stream streamed_names) ≡ Next (fact in_stream streamed_names)
takes = simp (stream_has_temp, somewhere in_stream 2 stream_has) refl

pub copies_stream : flow streaming body origin (actions.Copy (places.Temp 0) (places.Var 2)) edges.Go (fact in_stream streamed_names) ≡ Next (fact in_all streamed_names)
copies_stream = simp (stream_has, somewhere in_all 2 all_have) refl

pub calls : flow streaming body origin (actions.Call stream_close 0 1 forms.Other) edges.Go (fact in_all streamed_names) ≡ Next (fact after_call closed_names)
unfolding without_temps
calls = simp (all_have_temp, somewhere after_call 2 call_has, nothing_left streamed_names) refl

pub throws : flow streaming body origin (actions.Call stream_close 0 1 forms.Other) (edges.Throws io_exception) (fact in_all streamed_names) ≡ Next (fact after_call closed_names)
unfolding without_temps
throws = simp (all_have_temp, somewhere after_call 2 call_has, nothing_left streamed_names) refl

pub drops : flow streaming body origin (actions.Drop (scopes.Temp 0)) edges.Go (fact after_call closed_names) ≡ Next (fact after_drop closed_names)
drops = simp (somewhere after_drop 2 drop_has) refl

pub returns : flow streaming body origin (actions.End (completions.Return (in_source 6 1))) edges.Go (fact after_drop closed_names) ≡ Gone
returns = simp (closed_met, nothing_promised closed_names) refl

pub leaves : flow streaming body origin (actions.End thrown) edges.Go (fact after_call closed_names) ≡ Gone
leaves = simp (closed_met, union_none (set.union no_names no_names), nothing_promised closed_names) refl
