-- What the calls of waiting frames give away, and whose obligations they create anew, stays the same where the roots of their temps do.
use Rattle.std.specs.Prelude.{◌&&◌, nat_lt, if◌then◌else◌}
use Rattle.std.specs.List.{All, list_any}
use Rattle.std.proofs.lemmas.List.Elements.{All-head, All-tail}
use Rattle.std.proofs.Common.{◌≡◌, ℕ, suc, ◌+◌, Bool, true, false, ◌||◌, Option, Some, None, List, [], ◌∷◌, slice_get, refl, ap, ◌∙◌, subst}
use Rattle.program_model.specs.declared.kinds.ClassId.{ClassId}
use Rattle.program_model.specs.declared.program.Method.{Method}
use Rattle.program_model.specs.declared.program.ParamSig.{ParamSig}
use Rattle.program_model.specs.declared.program.Program.{Program}
use Rattle.ledger_obligations.specs.Bodies.{reset_in}
use Rattle.ledger_obligations.specs.MustCallSets.{fits_type}
use Rattle.java_control.specs.Calls.{operand_at}
use Rattle.java_control.specs.Control.{Step}
use Rattle.control_actions.specs.declared.action.Action.{Action}
use Rattle.control_actions.specs.declared.place.Place.TheVariants as places
use Rattle.value_laws.specs.Accept.{Accept}
use Rattle.ownership_rules.specs.Callees.{callee}
use Rattle.ownership_rules.specs.SmallActions.{IsSmallAction, IsSmallTemp}
use Rattle.ownership_rules.proofs.SmallOperands.{operand_has_room}
use Rattle.ledger_state.specs.Contents.{HeapContents}
use Rattle.ledger_state.specs.Heaps.{root_of, same_root}
use Rattle.ledger_state.specs.Locals.{temp_in}
use Rattle.ledger_state.specs.declared.locals.Locals.{Locals}
use Rattle.ledger_steps.specs.LedgerCallsCalls.{depth_at, operand_of}
use Rattle.value_laws.specs.Configuration.{Frame}
use Rattle.value_laws.specs.Choosing.{frame_steps}
use Rattle.value_laws.proofs.RangeValues.{operand_in_range}
use Rattle.value_laws.specs.Agreement.{AllStand}
use Rattle.value_laws.specs.PlaceFacts.{gives_away, is_taken_at, is_taken_by, is_taken_from}
use Rattle.value_laws.specs.Renewing.{renews, renews_at}
use Rattle.value_laws.specs.Ranges.{LocalsInRange}
use Rattle.covering_laws.proofs.Following.{small_step}
use Rattle.covering_laws.proofs.Owners.{AllKeepGifts, KeepsGifts}
use Rattle.covering_laws.proofs.Waiting.{AllKeepRoots, KeepsRoots, KeepsRootsOf, value_root}

-- tests that say the same of each element
any_same : {X : Type 0} (f g : X → Bool) (xs : List X) → ((i : ℕ) (x : X) → slice_get xs i ≡ Some x → f x ≡ g x) → list_any f xs ≡ list_any g xs
any_same f g [] same = refl
any_same f g (x ∷ xs) same = ap (λ (b : Bool). b || list_any f xs) (same 0 x refl) ∙ ap (λ (b : Bool). g x || b) (any_same f g xs (λ i y at. same (suc i) y at))

-- the operands of the action have the roots that they had
abbrev pub KeepsOperands : HeapContents → HeapContents → Locals → Action → Type 0
KeepsOperands h k l a = (n : ℕ) → root_of k (operand_of l a n) ≡ root_of h (operand_of l a n)

module _ (p : Program) (h k : HeapContents) (l : Locals) (a : Action) (o : ℕ) (c : ClassId) (same : KeepsOperands h k l a) where
  taken_same : (n : ℕ) (xs : List ParamSig) → is_taken_from p k l a o c n xs ≡ is_taken_from p h l a o c n xs
  taken_same n [] = refl
  taken_same n (x ∷ xs) =
      ap (λ (r : Option ℕ). (x.owning && fits_type p c (Some x.vtype) && same_root r (Some o)) || is_taken_from p k l a o c (n + 1) xs) (same (n + 1))
      ∙ ap (λ (b : Bool). is_taken_at p h l a o c n x || b) (taken_same (n + 1) xs)

  pub gives_same : gives_away p k l a o c ≡ gives_away p h l a o c
  gives_same = by (callee p a)
    where
      by : (m : Option Method) → is_taken_by p k l a o c m ≡ is_taken_by p h l a o c m
      by None = refl
      by (Some m) = taken_same 0 m.sig.params.items

renews_same : (p : Program) (h k : HeapContents) (l : Locals) (a : Action) (o : ℕ) → KeepsOperands h k l a → renews p k l a o ≡ renews p h l a o
renews_same p h k l a o same = by (reset_in (callee p a))
  where
    by : (r : Option ℕ) → renews_at k l a o r ≡ renews_at h l a o r
    by None = refl
    by (Some n) = ap (λ (v : Option ℕ). same_root v (Some o)) (same n)

pub gifts_same : (p : Program) (h k : HeapContents) (fr : Frame) → ((i : ℕ) (s : Step) → slice_get (frame_steps p fr) i ≡ Some s → KeepsOperands h k fr.locals s.action) → KeepsGifts p h k fr
gifts_same p h k fr same o = (
  (λ c. any_same (λ (s : Step). gives_away p k fr.locals s.action o c) (λ (s : Step). gives_away p h fr.locals s.action o c) (frame_steps p fr)
      (λ i s here. gives_same p h k fr.locals s.action o c (same i s here))),
  any_same (λ (s : Step). renews p k fr.locals s.action o) (λ (s : Step). renews p h fr.locals s.action o) (frame_steps p fr) (λ i s here. renews_same p h k fr.locals s.action o (same i s here)),
)

-- where all roots stay
pub all_keep_gifts : (p : Program) (h k : HeapContents) → KeepsRoots h k → (frs : List Frame) → All (λ (fr : Frame). LocalsInRange h fr.locals) frs → AllKeepGifts p h k frs
all_keep_gifts p h k roots [] in' = tt
all_keep_gifts p h k roots (fr ∷ frs) in' = (
  gifts_same p h k fr (λ i s here n. value_root h k roots (operand_of fr.locals s.action n) (operand_in_range h fr.locals (All-head (λ (x : Frame). LocalsInRange h x.locals) fr frs in') s.action n)),
  all_keep_gifts p h k roots frs (All-tail (λ (x : Frame). LocalsInRange h x.locals) fr frs in'),
)

-- where those of the frames' places stay
module _ (p : Program) (ac : Accept p) (h k : HeapContents) where
  operand_keeps : (fr : Frame) → KeepsRootsOf p h k fr → (a : Action) → IsSmallAction p a → KeepsOperands h k fr.locals a
  operand_keeps fr roots a small n = go (depth_at a n) refl
    where
      at_depth : (d : ℕ) (b : Bool) → (if b then operand_at a n else None) ≡ Some d → operand_at a n ≡ Some d
      at_depth d true is = is
      at_depth d false is = absurd (let never : None ≡ Some d = is in cc)

      go : (x : Option ℕ) → depth_at a n ≡ x → root_of k (temp_in fr.locals x) ≡ root_of h (temp_in fr.locals x)
      go None is = refl
      go (Some d) is = roots (places.Temp d) (subst IsSmallTemp (at_depth d (nat_lt n 4294967296) is) (operand_has_room p a n small))

  pub small_gifts : (frs : List Frame) → AllStand p frs → AllKeepRoots p h k frs → AllKeepGifts p h k frs
  small_gifts [] stand roots = tt
  small_gifts (fr ∷ frs) stand roots = (gifts_same p h k fr (λ i s here. operand_keeps fr roots.0 s.action (small_step p ac fr stand.0 i s here)), small_gifts frs stand.1 roots.1)
