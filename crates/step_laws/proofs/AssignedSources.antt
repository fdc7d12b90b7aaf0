-- A variable that a step does not set keeps its value.
use Rattle.std.proofs.Common.{◌≡◌, ℕ, Bool, true, false, true≢false, ◌&&◌, ◌||◌, Some, None, refl, ap, if◌then◌else◌}
use Rattle.program_model.specs.declared.program.Program.{Program}
use Rattle.program_model.specs.declared.tree.Body.{Body}
use Rattle.java_control.specs.Calls.{is_reset_of_this}
use Rattle.java_control.specs.Sources.{emptied, is_null_pointer, is_place, is_throws, source, source_or_itself}
use Rattle.control_actions.specs.declared.action.Action.{Action}
use Rattle.control_actions.specs.declared.action.Action.TheVariants as actions
use Rattle.control_actions.specs.declared.action.Edge.{Edge}
use Rattle.control_actions.specs.declared.action.Edge.TheVariants as edges
use Rattle.control_actions.specs.declared.place.Place.{Place}
use Rattle.control_actions.specs.declared.place.Place.TheVariants as places
use Rattle.step_laws.specs.Setting.{sets_variable}

not_moved : (s t : Bool) (y q : Place) → (s || t) ≡ false → (if s then None else source_or_itself t y q) ≡ Some q
not_moved true t y q is = absurd (true≢false is)
not_moved false true y q is = absurd (true≢false is)
not_moved false false y q is = refl

not_emptied : (x : Bool) (q : Place) → emptied (x && false) q ≡ Some q
not_emptied true q = refl
not_emptied false q = refl

pub keeps_value : (p : Program) (x : Body) (a : Action) (e : Edge) (v : ℕ) → sets_variable x a v ≡ false → source p x a e (places.Var v) ≡ Some (places.Var v)
keeps_value p b actions.Skip e v stays = refl
keeps_value p b (actions.Copy x y) e v stays = ap (λ s. source_or_itself s y (places.Var v)) stays
keeps_value p b (actions.Move x y) e v stays = not_moved (is_place y (places.Var v)) (is_place x (places.Var v)) y (places.Var v) stays
keeps_value p b (actions.Plain x value) e v stays = ap (λ s. emptied s (places.Var v)) stays
keeps_value p b (actions.Drop x) e v stays = ap (λ s. emptied s (places.Var v)) stays
keeps_value p b (actions.Settle d c) e v stays = refl
keeps_value p b (actions.Enter clause x d k) e v stays = ap (λ s. if s then Some (places.Temp k) else Some (places.Var v)) stays
keeps_value p b (actions.Test d) e v stays = refl
keeps_value p b (actions.Op k d n) e v stays = refl
keeps_value p b (actions.Get f d this) e v stays = refl
keeps_value p b (actions.Put f d this) edges.Go v stays = refl
keeps_value p b (actions.Put f d this) e v stays = refl
keeps_value p b (actions.Cast t d) e v stays = not_emptied (is_throws e) (places.Var v)
keeps_value p b (actions.PutOwn f d) e v stays = refl
keeps_value p b (actions.Call m d n form) e v stays = not_emptied (is_reset_of_this p (actions.Call m d n form)) (places.Var v)
keeps_value p b (actions.New m d n) e v stays = refl
keeps_value p b (actions.Super m d n) e v stays = refl
keeps_value p b (actions.Raise d c) e v stays = not_emptied (is_null_pointer p e) (places.Var v)
keeps_value p b (actions.End c) e v stays = refl
