-- Changes of an object that leave its link.
use Rattle.std.proofs.Common.{◌≡◌, refl, ℕ, Bool, true, false, not, ◌&&◌, nat_eq, List}
use Rattle.std.specs.Prelude.{if◌then◌else◌}
use Rattle.program_model.specs.declared.program.Program.{Program}
use Rattle.ledger_state.specs.declared.entry.Owner.TheVariants as owners
use Rattle.ledger_state.specs.declared.object.Object.{Object}
use Rattle.ledger_state.specs.declared.value.Value.{Value}
use Rattle.ledger_state.specs.Contents.{HeapContents}
use Rattle.ledger_state.specs.Heaps.{is_reached, root}
use Rattle.ledger_obligations.specs.Obligations.{emptied, given_up, given_up_by_frame, given_up_by_holder, is_frame, is_held_by, is_unmet, lost_object, owner_holds, reset_in, with_owner}

if_link : (b : Bool) (y x : Object) → y.link ≡ x.link → (if b then y else x).link ≡ x.link
if_link true y x e = e
if_link false y x e = refl

pub frame_link : (j k : ℕ) (x : Object) → (given_up_by_frame j k x).link ≡ x.link
frame_link j k x = if_link (is_frame x.owner j) (given_up x) x refl

pub holder_link : (w k : ℕ) (x : Object) → (given_up_by_holder w k x).link ≡ x.link
holder_link w k x = if_link (is_held_by x.owner w) (given_up x) x refl

emptied_link : (p : Program) (b : Bool) (x : Object) → (emptied p b x).link ≡ x.link
emptied_link p true x = refl
emptied_link p false x = refl

pub reset_link : (p : Program) (h : HeapContents) (roots : List ℕ) (k : ℕ) (x : Object) → (reset_in p h roots k x).link ≡ x.link
reset_link p h roots k x = if_link (is_reached h roots k) (emptied p (nat_eq (root h k) k) x) x (emptied_link p (nat_eq (root h k) k) x)

pub lost_link : (h : HeapContents) (held : List (List Value)) (k : ℕ) (x : Object) → (lost_object h held k x).link ≡ x.link
lost_link h held k x = if_link (is_unmet x && not (owner_holds h held x.owner k)) (with_owner owners.Lost x) x refl
