-- The owners of objects as a frame ends, and its call: its result is the caller's, what else the frame owned is given up, as is what a constructor's
-- object owned that throws, and all others stay. The object of a `new` that ends is the caller's.
use Rattle.std.proofs.Common.{◌≡◌, ◌⊎◌, inl, inr, ℕ, ◌+◌, Bool, true, false, true≢false, Option, None, Some, nat_eq, refl, sym, ap, ◌∙◌, subst, arith, eqb-true, if◌then◌else◌, List}
use Rattle.std.specs.Prelude.{is_some}
use Rattle.program_model.specs.declared.kinds.ClassId.{ClassId}
use Rattle.program_model.specs.declared.kinds.VType.{VType}
use Rattle.program_model.specs.declared.program.Method.{Method}
use Rattle.program_model.specs.declared.program.Program.{Program}
use Rattle.ledger_obligations.specs.Bodies.{constructs}
use Rattle.ledger_obligations.specs.MustCallSets.{is_heavy_class}
use Rattle.control_actions.specs.declared.action.Action.{Action}
use Rattle.control_actions.specs.declared.action.Action.TheVariants as actions
use Rattle.ledger_state.specs.Contents.{HeapContents}
use Rattle.ledger_state.specs.Heaps.{object_at, root_of}
use Rattle.ledger_state.specs.Values.{number_of}
use Rattle.ledger_state.specs.declared.entry.Owner.{Owner}
use Rattle.ledger_state.specs.declared.entry.Owner.TheVariants as owners
use Rattle.ledger_state.specs.declared.locals.Locals.{Locals}
use Rattle.ledger_state.specs.declared.object.Object.{Object}
use Rattle.ledger_state.specs.declared.value.Value.{Value}
use Rattle.ledger_state.specs.declared.value.Value.TheVariants as values
use Rattle.ledger_obligations.specs.Obligations.{end_holder, given_up, given_up_by_frame, is_frame, is_held_by, is_library_owner, may_move}
use Rattle.ledger_steps.specs.LedgerCallsCalls.{alias_position, alias_target, operand_of, reset_position}
use Rattle.ledger_steps.specs.Conducts.{owning_in, result_in}
use Rattle.ledger_steps.specs.Ends.{constructor_ended, frame_ended, frame_gone, result_moved, returned_heap}
use Rattle.value_laws.specs.Heaps.{IsKeptOr}
use Rattle.value_laws.specs.ProgramCalls as program_calls
use Rattle.value_laws.specs.ProgramCalls.{IsLinkedTo, IsReturned}
use Rattle.value_laws.proofs.EndLaws.{changed_back, frame_back, holder_back, is_held}
use Rattle.value_laws.proofs.Returned.{end_back, gone_back, result_back, result_takes}
use Rattle.value_laws.specs.FieldContents.{is_new}
use Rattle.value_laws.specs.PlaceFacts.{OwnersBelow, is_frame_from, may_owe}
use Rattle.covering_laws.proofs.Owners.{IsNewTo, OwnerGoes, OwnersGo, frame_from_lower, from_frame, held_at, passed, stays}
use Rattle.value_laws.specs.Configuration.{Frame}
use Rattle.covering_laws.proofs.OwnerSteps.{IsFree, KeepsLibrary, below_next, frame_is, free_below, gave_up, given_up_free, held_is, is_field_owner, movable, movable_owes, never_moved, own_frame, still_below, under}

pub same_new : (a : Action) → program_calls.is_new a ≡ true → is_new a ≡ true
same_new actions.Skip is = absurd (true≢false (sym is))
same_new (actions.New m d n) is = refl
same_new a is = absurd (true≢false (sym is))

pub number_value : (v : Value) (n : ℕ) → number_of v ≡ Some n → v ≡ values.Object n
number_value (values.Object k) n is = ap values.Object (let both : Some k ≡ Some n = is in (let one : k ≡ n = cc in one))
number_value values.Nothing n is = absurd (let never : None ≡ Some n = is in cc)
number_value v n is = absurd (let never : None ≡ Some n = is in cc)

-- an object is of one holder
one_holder : (a : Owner) (m n : ℕ) → is_held_by a m ≡ true → is_held_by a n ≡ true → m ≡ n
one_holder (owners.Field v f) m n is also = sym (eqb-true v m is) ∙ eqb-true v n also
one_holder (owners.Frame j) m n is also = absurd (true≢false (sym is))
one_holder owners.Library m n is also = absurd (true≢false (sym is))
one_holder owners.Released m n is also = absurd (true≢false (sym is))
one_holder owners.Lost m n is also = absurd (true≢false (sym is))
one_holder owners.Unowned m n is also = absurd (true≢false (sym is))

-- an object of the heap when the constructor has ended
constructor_back : (self : Value) (runs : Option Method) (e : Option ClassId) (h : HeapContents) (n : ℕ) (y : Object) → object_at (constructor_ended self runs e h) n ≡ Some y
    → (x : Object) × (object_at h n ≡ Some x) × ((y ≡ x) ⊎ ((e ≡ None → ⊥) × (constructs runs ≡ true) × (is_held (number_of self) x ≡ true) × IsKeptOr (is_held (number_of self) x) x y))
constructor_back self runs None h n y at = (y, at, inl refl)
constructor_back self runs (Some c) h n y at = go (constructs runs) refl at
  where
    go : (b : Bool) → constructs runs ≡ b → object_at (if b then end_holder (number_of self) h else h) n ≡ Some y
        → (x : Object) × (object_at h n ≡ Some x) × ((y ≡ x) ⊎ ((Some c ≡ None → ⊥) × (constructs runs ≡ true) × (is_held (number_of self) x ≡ true) × IsKeptOr (is_held (number_of self) x) x y))
    go true makes at' =
        let x = holder_back (number_of self) h n y at' in
        (x.0, x.1, elim x.2 [ inl same ↦ inl same | inr given ↦ inr ((λ is. let never : Some c ≡ None = is in cc), makes, given.0, inr given) ])
    go false plain at' = (y, at', inl refl)

-- a field of the constructor's object owns it
abbrev pub IsHeldBySelf : Value → Option Method → Owner → Type 0
IsHeldBySelf self runs a = (constructs runs ≡ true) × ((w : ℕ) × (number_of self ≡ Some w) × (is_held_by a w ≡ true))

holder_is : (v : Option ℕ) (x : Object) → is_held v x ≡ true → (w : ℕ) × (v ≡ Some w) × (is_held_by x.owner w ≡ true)
holder_is None x is = absurd (true≢false (sym is))
holder_is (Some w) x is = (w, refl, is)

-- ---- the frame

module _ (p : Program) (i : ℕ) (self : Value) (runs : Option Method) (v : Value) (e : Option ClassId) (h : HeapContents) where
  abbrev gone : HeapContents
  gone = frame_gone p i self runs v e h

  -- The object, which was `x`, is `z` when the frame has gone: it is the caller's as the result; or its owner goes as the frame ends, and as its
  -- constructor does.
  abbrev pub IsResult : ℕ → Object → Object → Type 0
  IsResult n x z = (u : Object) × IsReturned p i runs v e h n x u × (z.owner ≡ u.owner)

  abbrev IsEnded : Object → Object → Type 0
  IsEnded x z = (z.owner ≡ x.owner) ⊎ (((is_frame x.owner (i + 1) ≡ true) × IsFree z.owner) ⊎ (IsHeldBySelf self runs x.owner × IsFree z.owner))

  next_frame : (u : Object) → u.owner ≡ owners.Frame i → is_frame u.owner (i + 1) ≡ false
  next_frame u is = ap (λ (o : Owner). is_frame o (i + 1)) is ∙ other (nat_eq i (i + 1)) refl
    where
      other : (b : Bool) → nat_eq i (i + 1) ≡ b → b ≡ false
      other true same = absurd (let one = eqb-true i (i + 1) same in omega (arith, one))
      other false same = refl

  released : (test : Bool) (u w : Object) → IsKeptOr test u w → (w ≡ u) ⊎ ((test ≡ true) × IsFree w.owner)
  released test u w (inl same) = inl same
  released test u w (inr given) = inr (given.0, given_up_free u w given.1)

  pub gone_owner : (n : ℕ) (x z : Object) → object_at h n ≡ Some x → object_at gone n ≡ Some z → IsResult n x z ⊎ IsEnded x z
  gone_owner n x z before now =
      let w = constructor_back self runs e (frame_ended p i runs v e h) n z now in
      let u = frame_back (i + 1) (result_moved p i runs v e h) n w.0 w.1 in
      let old = result_back p i runs v h e n u.0 u.1 in
      let same : old.before ≡ x = (let both : Some old.before ≡ Some x = sym old.at ∙ before in (let one : old.before ≡ x = cc in one)) in
      go u.0 w.0 (subst (λ (b : Object). (u.0.owner ≡ b.owner) ⊎ IsReturned p i runs v e h n b u.0) same old.owner) (released (is_frame u.0.owner (i + 1)) u.0 w.0 u.2)
      (elim w.2 [ inl kept ↦ inl kept | inr held ↦ inr (held.0, (held.1, held.2), elim (released (is_held (number_of self) w.0) w.0 z held.3) [ inl kept ↦ inl kept | inr given ↦ inr given.1 ]) ])
    where
      go : (u w : Object) → (u.owner ≡ x.owner) ⊎ IsReturned p i runs v e h n x u → (w ≡ u) ⊎ ((is_frame u.owner (i + 1) ≡ true) × IsFree w.owner)
          → (z ≡ w) ⊎ ((e ≡ None → ⊥) × ((constructs runs ≡ true) × (is_held (number_of self) w ≡ true)) × ((z ≡ w) ⊎ IsFree z.owner)) → IsResult n x z ⊎ IsEnded x z
      go u w (inl kept) (inl stood) (inl stayed) = inr (inl (ap (λ (b : Object). b.owner) (stayed ∙ stood) ∙ kept))
      go u w (inl kept) (inl stood) (inr (thrown, held, inl stayed)) = inr (inl (ap (λ (b : Object). b.owner) (stayed ∙ stood) ∙ kept))
      go u w (inl kept) (inl stood) (inr (thrown, held, inr free)) =
          let by' = holder_is (number_of self) w held.1 in
          inr (inr (inr ((held.0, (by'.0, by'.1, ap (λ (o : Owner). is_held_by o by'.0) (sym (ap (λ (b : Object). b.owner) stood ∙ kept)) ∙ by'.2)), free)))
      go u w (inl kept) (inr ended) (inl stayed) = inr (inr (inl (sym (ap (λ (o : Owner). is_frame o (i + 1)) kept) ∙ ended.0, subst (λ (b : Object). IsFree b.owner) (sym stayed) ended.1)))
      go u w (inl kept) (inr ended) (inr (thrown, held, inl stayed)) =
          inr (inr (inl (sym (ap (λ (o : Owner). is_frame o (i + 1)) kept) ∙ ended.0, subst (λ (b : Object). IsFree b.owner) (sym stayed) ended.1)))
      go u w (inl kept) (inr ended) (inr (thrown, held, inr free)) = inr (inr (inl (sym (ap (λ (o : Owner). is_frame o (i + 1)) kept) ∙ ended.0, free)))
      go u w (inr result) (inl stood) (inl stayed) = inl (u, result, ap (λ (b : Object). b.owner) (stayed ∙ stood))
      go u w (inr result) (inr ended) last = absurd (true≢false (sym ended.0 ∙ next_frame u result.owner))
      go u w (inr result) (inl stood) (inr (thrown, held, either)) = absurd (thrown result.normal)

  -- the result is the caller's
  pub result_owner_after : (t : VType) (n : ℕ) (x z : Object) → e ≡ None → owning_in runs ≡ true → alias_position runs ≡ None → result_in runs ≡ Some t → root_of h v ≡ Some n → object_at h n ≡ Some x
      → may_move p t x ≡ true → object_at gone n ≡ Some z → z.owner ≡ owners.Frame i
  result_owner_after t n x z normal owning alias result root before may now =
      let w = constructor_back self runs e (frame_ended p i runs v e h) n z now in
      let u = frame_back (i + 1) (result_moved p i runs v e h) n w.0 w.1 in
      let owner : u.0.owner ≡ owners.Frame i = result_takes p i runs v h t n x u.0 owning alias result root before may (subst (λ (c : Option ClassId). object_at (result_moved p i runs v c h) n ≡ Some u.0) normal u.1) in
      let stood : w.0 ≡ u.0 = elim (released (is_frame u.0.owner (i + 1)) u.0 w.0 u.2) [ inl same ↦ same | inr ended ↦ absurd (true≢false (sym ended.0 ∙ next_frame u.0 owner)) ] in
      let stayed : z ≡ w.0 = elim w.2 [ inl same ↦ same | inr held ↦ absurd (held.0 normal) ] in
      ap (λ (b : Object). b.owner) (stayed ∙ stood) ∙ owner

  -- ---- the frames below

  -- the frame that ends owns nothing then
  ended_below : OwnersBelow h (i + 1) → (n : ℕ) (w : Object) → object_at (frame_ended p i runs v e h) n ≡ Some w → is_frame_from (i + 1) w.owner ≡ false
  ended_below below n w now =
      let u = changed_back (given_up_by_frame (i + 1)) (result_moved p i runs v e h) n w now in
      let old = result_back p i runs v h e n u.0 u.1 in
      by u.0 (elim old.owner [
        | inl same ↦ ap (is_frame_from (i + 1 + 1)) same ∙ below n old.before old.at
        | inr result ↦ ap (is_frame_from (i + 1 + 1)) result.owner ∙ still_below (i + 1) (owners.Frame i) (below_next i)
      ]) (is_frame u.0.owner (i + 1)) refl u.2
    where
      by : (u : Object) → is_frame_from (i + 1 + 1) u.owner ≡ false → (b : Bool) → is_frame u.owner (i + 1) ≡ b → given_up_by_frame (i + 1) n u ≡ w → is_frame_from (i + 1) w.owner ≡ false
      by u was true is same = ap (λ (z : Object). is_frame_from (i + 1) z.owner) (sym same) ∙ ap (λ (b : Bool). is_frame_from (i + 1) (if b then given_up u else u).owner) is ∙ free_below (i + 1) (given_up u).owner (given_up_free u (given_up u) refl).0
      by u was false is same = ap (λ (z : Object). is_frame_from (i + 1) z.owner) (sym same) ∙ ap (λ (b : Bool). is_frame_from (i + 1) (if b then given_up u else u).owner) is ∙ under (i + 1) u.owner was is

  pub gone_below : OwnersBelow h (i + 1) → OwnersBelow gone i
  gone_below below n z now =
      let w = constructor_back self runs e (frame_ended p i runs v e h) n z now in
      let was = ended_below below n w.0 w.1 in
      elim w.2 [
        | inl same ↦ ap (λ (b : Object). is_frame_from (i + 1) b.owner) same ∙ was
        | inr held ↦ elim (released (is_held (number_of self) w.0) w.0 z held.3) [
          | inl same ↦ ap (λ (b : Object). is_frame_from (i + 1) b.owner) same ∙ was
          | inr free ↦ free_below (i + 1) z.owner free.1.0
        ]
      ]

-- ---- the call

module _ (p : Program) (at : ℕ) (self : Value) (l : Locals) (a : Action) (runs named : Option Method) (v : Value) (e : Option ClassId) (h : HeapContents) (no_reset : reset_position named ≡ None)
    (making : (w : ℕ) (x : Object) → is_new a ≡ true → self ≡ values.Object w → object_at h w ≡ Some x → x.finished ≡ false) where
  abbrev heap_gone : HeapContents
  heap_gone = frame_gone p at self runs v e h

  abbrev ended : HeapContents
  ended = returned_heap p at self l a runs named v e h

  -- an object that was finished has the owner that it had when the frame had gone
  call_keeps_owner : (n : ℕ) (x y : Object) → object_at h n ≡ Some x → x.finished ≡ true → object_at ended n ≡ Some y → (z : Object) × (object_at heap_gone n ≡ Some z) × (y.owner ≡ z.owner)
  call_keeps_owner n x y before done now = elim (end_back p at self l a named heap_gone no_reset e n y now) [
    | inl made ↦ absurd (true≢false (sym done ∙ making n x (same_new a made.2.new) (number_value self n made.2.self) before))
    | inr other ↦ elim other [
      | inl alias ↦ absurd (true≢false (sym done ∙ making n x (same_new a alias.2.new) (number_value self n alias.2.self) before))
      | inr noted ↦ (noted.0, noted.1, sym (ap (λ (u : Object). u.owner) noted.2))
    ]
  ]

  -- it keeps the owner that it had, or no field owns it
  pub end_owner : (n : ℕ) (x y : Object) → object_at h n ≡ Some x → object_at ended n ≡ Some y → x.finished ≡ true → (y.owner ≡ x.owner) ⊎ (is_field_owner y.owner ≡ false)
  end_owner n x y before now done =
      let z = call_keeps_owner n x y before done now in
      as_before z.0 z.2 (gone_owner p at self runs v e h n x z.0 before z.1)
    where
      no_field : (o : Owner) → ((w : ℕ) → is_held_by o w ≡ false) → is_field_owner o ≡ false
      no_field (owners.Field w f) none = absurd (true≢false (sym (held_at (owners.Field w f) w f refl) ∙ none w))
      no_field (owners.Frame j) none = refl
      no_field owners.Library none = refl
      no_field owners.Released none = refl
      no_field owners.Lost none = refl
      no_field owners.Unowned none = refl

      as_before : (z : Object) → y.owner ≡ z.owner → IsResult p at self runs v e h n x z ⊎ IsEnded p at self runs v e h x z → (y.owner ≡ x.owner) ⊎ (is_field_owner y.owner ≡ false)
      as_before z same (inl result) = inr (ap is_field_owner (same ∙ result.2 ∙ result.1.owner))
      as_before z same (inr (inl stood)) = inl (same ∙ stood)
      as_before z same (inr (inr (inl frame))) = inr (ap is_field_owner same ∙ no_field z.owner frame.1.1)
      as_before z same (inr (inr (inr field))) = inr (ap is_field_owner same ∙ no_field z.owner field.1.1)

  pub end_keeps_library : KeepsLibrary h ended
  end_keeps_library n x y before now done is =
      let z = call_keeps_owner n x y before done now in
      ap is_library_owner z.2 ∙ go z.0 (gone_owner p at self runs v e h n x z.0 before z.1)
    where
      go : (z : Object) → IsResult p at self runs v e h n x z ⊎ IsEnded p at self runs v e h x z → is_library_owner z.owner ≡ true
      go z (inl result) = absurd (never_moved p result.1.type x result.1.may is)
      go z (inr (inl same)) = ap is_library_owner same ∙ is
      go z (inr (inr (inl frame))) = absurd (true≢false (sym is ∙ ap is_library_owner (frame_is x.owner (at + 1) frame.0)))
      go z (inr (inr (inr field))) = absurd (not_field x.owner is (held_is x.owner field.0.1.0 field.0.1.2))
        where
          not_field : (o : Owner) → is_library_owner o ≡ true → is_field_owner o ≡ true → ⊥
          not_field owners.Library lib field' = true≢false (sym field')
          not_field (owners.Field w f) lib field' = true≢false (sym lib)
          not_field o lib field' = true≢false (sym field')

  -- where the frame owned its result, which moves, and no frame below runs on a constructor's object of which a field owns something
  pub end_owners_go : (below : List Frame) → ((n : ℕ) (x : Object) → object_at h n ≡ Some x → is_heavy_class p x.class ≡ true → (w : ℕ) → constructs runs ≡ true → self ≡ values.Object w → is_held_by x.owner w ≡ true → IsNewTo h below w)
      → ((n : ℕ) (x u : Object) → object_at h n ≡ Some x → is_heavy_class p x.class ≡ true → may_owe x ≡ true → IsReturned p at runs v e h n x u → x.owner ≡ owners.Frame (at + 1))
      → (into : Option ℕ) → OwnersGo p into below at h ended
  end_owners_go below alone mine into n x y before now done heavy =
      let z = call_keeps_owner n x y before done now in
      subst (OwnerGoes h into below at x.owner) (sym z.2) (go z.0 (gone_owner p at self runs v e h n x z.0 before z.1))
    where
      go : (z : Object) → IsResult p at self runs v e h n x z ⊎ IsEnded p at self runs v e h x z → OwnerGoes h into below at x.owner z.owner
      go z (inl result) =
          passed (frame_from_lower at (at + 1) x.owner (omega arith) (own_frame (at + 1) x.owner (mine n x result.0 before heavy (movable_owes p result.1.type x result.1.may) result.1)))
          (λ w held. absurd (true≢false (sym held ∙ ap (λ (o : Owner). is_held_by o w) (result.2 ∙ result.1.owner))))
          (λ k same. let both : owners.Frame at ≡ owners.Frame k = sym (result.2 ∙ result.1.owner) ∙ same in let one : at ≡ k = cc in omega (arith, one))
      go z (inr (inl same)) = stays same
      go z (inr (inr (inl frame))) =
          passed (frame_from_lower at (at + 1) x.owner (omega arith) (own_frame (at + 1) x.owner (frame_is x.owner (at + 1) frame.0))) (λ w held. absurd (true≢false (sym held ∙ frame.1.1 w)))
          (λ k same. absurd (true≢false (sym (ap (is_frame_from 0) same ∙ from_frame 0 k (omega arith)) ∙ frame.1.0)))
      go z (inr (inr (inr field))) =
          gave_up h into below at x.owner z.owner (held_is x.owner field.0.1.0 field.0.1.2) field.1 (λ w held. alone n x before heavy w field.0.0 (number_value self w (field.0.1.1 ∙ ap Some (one_holder x.owner field.0.1.0 w field.0.1.2 held))) held)

  -- the caller goes on owning what it owned
  pub end_keeps_own : ((n : ℕ) (x u : Object) → object_at h n ≡ Some x → is_heavy_class p x.class ≡ true → may_owe x ≡ true → IsReturned p at runs v e h n x u → x.owner ≡ owners.Frame (at + 1))
      → (n : ℕ) (x y : Object) → object_at h n ≡ Some x → object_at ended n ≡ Some y → x.finished ≡ true → is_heavy_class p x.class ≡ true → x.owner ≡ owners.Frame at → y.owner ≡ owners.Frame at
  end_keeps_own mine n x y before now done heavy own =
      let z = call_keeps_owner n x y before done now in
      z.2 ∙ go z.0 (gone_owner p at self runs v e h n x z.0 before z.1)
    where
      two : owners.Frame at ≡ owners.Frame (at + 1) → ⊥
      two same = let one : at ≡ at + 1 = cc in omega (arith, one)

      go : (z : Object) → IsResult p at self runs v e h n x z ⊎ IsEnded p at self runs v e h x z → z.owner ≡ owners.Frame at
      go z (inl result) = absurd (two (sym own ∙ mine n x result.0 before heavy (movable_owes p result.1.type x result.1.may) result.1))
      go z (inr (inl same)) = same ∙ own
      go z (inr (inr (inl frame))) = absurd (two (sym own ∙ frame_is x.owner (at + 1) frame.0))
      go z (inr (inr (inr field))) = absurd (true≢false (sym (held_is x.owner field.0.1.0 field.0.1.2) ∙ ap is_field_owner own))

  -- the result is the caller's when the call has ended
  pub end_result_owner : (t : VType) (n : ℕ) (x y : Object) → e ≡ None → owning_in runs ≡ true → alias_position runs ≡ None → result_in runs ≡ Some t → root_of h v ≡ Some n → object_at h n ≡ Some x
      → may_move p t x ≡ true → object_at ended n ≡ Some y → y.owner ≡ owners.Frame at
  end_result_owner t n x y normal owning alias result root before may now =
      let z = call_keeps_owner n x y before (movable p t x may).0 now in
      z.2 ∙ result_owner_after p at self runs v e h t n x z.0 normal owning alias result root before may z.1

  -- the object of a `new` that ends is the caller's
  pub end_new_owner : (w : ℕ) (y : Object) → e ≡ None → is_new a ≡ true → alias_position named ≡ None → self ≡ values.Object w → object_at ended w ≡ Some y → y.finished ≡ true → ((x : Object) → object_at h w ≡ Some x → x.finished ≡ false)
      → y.owner ≡ owners.Frame at
  end_new_owner w y normal new plain this now done unmade = elim (end_back p at self l a named heap_gone no_reset e w y now) [
    | inl made ↦ made.2.owner
    | inr other ↦ elim other [
      | inl alias ↦ absurd (true≢false (sym alias.2.alias ∙ ap is_some plain))
      | inr noted ↦ (let z = gone_back p at self runs v e h w noted.0 noted.1 in
          let old = result_back p at runs v h e w z.0 z.1 in
          absurd (true≢false (sym done ∙ sym (ap (λ (u : Object). u.finished) noted.2) ∙ z.2.finished ∙ old.goes_on.finished ∙ unmade old.before old.at)))
    ]
  ]

  -- no frame above the caller owns anything then
  pub end_below : OwnersBelow h (at + 1) → OwnersBelow ended at
  end_below below n y now = elim (end_back p at self l a named heap_gone no_reset e n y now) [
    | inl made ↦ ap (is_frame_from (at + 1)) made.2.owner ∙ below_next at
    | inr other ↦ elim other [
      | inl alias ↦ linked (alias_target (operand_of l a) named) alias.0 (gone_below p at self runs v e h below n alias.0 alias.1) alias.2.linked
      | inr noted ↦ ap (λ (z : Object). is_frame_from (at + 1) z.owner) (sym noted.2) ∙ gone_below p at self runs v e h below n noted.0 noted.1
    ]
  ]
    where
      linked : (t : Option ℕ) (x : Object) → is_frame_from (at + 1) x.owner ≡ false → IsLinkedTo p t x y → is_frame_from (at + 1) y.owner ≡ false
      linked None x was is = ap (is_frame_from (at + 1)) is.1
      linked (Some w) x was is = ap (is_frame_from (at + 1)) is.1 ∙ was
