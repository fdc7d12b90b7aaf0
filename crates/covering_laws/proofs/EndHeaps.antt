-- The heap as a frame ends, and the call of which it is the run: each object goes on, but for the one that a `new` finishes, which was
-- not finished before, and which may be linked to an aliased argument.
use Rattle.std.proofs.Common.{◌≡◌, ◌⊎◌, inl, inr, ℕ, ◌<◌, Bool, true, false, not, ◌||◌, true≢false, Option, Some, None, [], refl, sym, ap, ◌∙◌, subst, arith}
use Rattle.std.specs.FinSet as set
use Rattle.std.specs.List.{All}
use Rattle.std.specs.Option.{option_map}
use Rattle.std.proofs.lemmas.List.Elements.{All-cons, All-nil}
use Rattle.rlc_base.specs.declared.name_id.NameId.{NameId}
use Rattle.program_model.specs.declared.kinds.ClassId.{ClassId}
use Rattle.program_model.specs.declared.kinds.MethodId.{MethodId}
use Rattle.program_model.specs.declared.program.Method.{Method}
use Rattle.program_model.specs.declared.program.Program.{Program}
use Rattle.ledger_obligations.specs.MustCallSets.{must_of}
use Rattle.control_actions.specs.declared.action.Action.{Action}
use Rattle.control_actions.specs.declared.action.Action.TheVariants as actions
use Rattle.control_actions.specs.declared.action.TargetForm.{TargetForm}
use Rattle.control_actions.specs.declared.action.TargetForm.TheVariants as forms
use Rattle.ledger_state.specs.Contents.{HeapContents}
use Rattle.ledger_state.specs.Heaps.{change_each, object_at, root, unfinished}
use Rattle.ledger_state.specs.Values.{number_of}
use Rattle.ledger_state.specs.declared.entry.Owner.TheVariants as owners
use Rattle.ledger_state.specs.declared.locals.Locals.{Locals}
use Rattle.ledger_state.specs.declared.object.Link.{Link}
use Rattle.ledger_state.specs.declared.object.Object.{Object}
use Rattle.ledger_state.specs.declared.value.Value.{Value}
use Rattle.ledger_state.specs.declared.value.Value.TheVariants as values
use Rattle.ledger_obligations.specs.declared.note.Note.{Note}
use Rattle.ledger_obligations.specs.Obligations.{all_notes, is_the_one, note, noted_object}
use Rattle.ledger_steps.specs.LedgerCallsCalls.{alias_position, alias_target, form_of, interest_in, is_alias, note_by_form, note_of_name, note_of_object, operand_of, receiver_note, reset_position}
use Rattle.ledger_steps.specs.Ends.{call_ended, finished_by_new, frame_gone, object_finished, returned_heap, returned_reset}
use Rattle.value_laws.specs.Heaps.{GoesOn, HasEarlierLinks, HasSmallName, KeepsLinks}
use Rattle.value_laws.specs.Leading.{Leads, LinksOne, goes_on_from, is_passed_on}
use Rattle.value_laws.proofs.HeapLaws.{changed_object_at-object, evolving_heaps-links, leading_links-on, noted_names_reach_roots, notes_add_names-object, numbers_are_in_range, roots_go_on-number, roots_over_a_link-linked, roots_over_a_link-number, unchanged_fields_keep_contents}
use Rattle.value_laws.proofs.ObjectLaws.{goes_on_further}
use Rattle.value_laws.specs.ProgramCalls as program_calls
use Rattle.value_laws.proofs.EndLinks.{end_links, end_links_one, gone_evolves, gone_links}
use Rattle.value_laws.proofs.EndLinks as program_ends
use Rattle.value_laws.proofs.Returned.{IsFrom, end_back, gone_back, gone_unowned, result_back}
use Rattle.value_laws.specs.FieldContents.{is_new}
use Rattle.value_laws.specs.Ranges.{IsNumber}
use Rattle.value_laws.proofs.Growth.{gone_grows, returned_grows}
use Rattle.value_laws.proofs.CallNames.{IsReceiver}
use Rattle.value_laws.proofs.Chains.{object_there}
use Rattle.covering_laws.proofs.MadeObjects.{grown_fields, one_here}
use Rattle.covering_laws.proofs.EndOwners.{end_keeps_library}
pub use Rattle.covering_laws.proofs.EndOwners.{number_value, same_new}
use Rattle.covering_laws.proofs.Waiting.{Carries, IsCarried, KeepsFields, KeepsOtherRoots, KeepsRoots, KeepsUnfinished, linked_roots}

-- the note of a call has a name of the table
small_of_name : (k : ℕ) (i : Option NameId) → ((n : NameId) → i ≡ Some n → n.0 < 128) → All HasSmallName (note_of_name k i)
small_of_name k None small = All-nil HasSmallName
small_of_name k (Some n) small = All-cons HasSmallName (note false k n) [] (small n refl) (All-nil HasSmallName)

small_of_object : (k : Option ℕ) (i : Option NameId) → ((n : NameId) → i ≡ Some n → n.0 < 128) → All HasSmallName (note_of_object k i)
small_of_object None i small = All-nil HasSmallName
small_of_object (Some k) i small = small_of_name k i small

pub small_notes : (l : Locals) (a : Action) (named : Option Method) → ((n : NameId) → interest_in named ≡ Some n → n.0 < 128) → All HasSmallName (receiver_note l a named)
small_notes l a named small = go (form_of a)
  where
    go : (f : TargetForm) → All HasSmallName (note_by_form f (number_of (operand_of l a 0)) (interest_in named))
    go forms.Static = All-nil HasSmallName
    go forms.Super = All-nil HasSmallName
    go forms.This = small_of_object (number_of (operand_of l a 0)) (interest_in named) small
    go forms.Other = small_of_object (number_of (operand_of l a 0)) (interest_in named) small

other_new : (a : Action) → is_new a ≡ true → program_calls.is_new a ≡ true
other_new actions.Skip is = absurd (true≢false (sym is))
other_new (actions.New m d n) is = refl
other_new a is = absurd (true≢false (sym is))

-- a note is passed on from an object as it was before
passed_as : (p : Program) (a : Note) (x y : Object) → GoesOn x y → is_passed_on p a y ≡ is_passed_on p a x
passed_as p a x y on = ap (λ (b : Bool). a.kept || b) (ap (goes_on_from p a.name y) on.link ∙ by_class x.link)
  where
    by_class : (l : Option Link) → goes_on_from p a.name y l ≡ goes_on_from p a.name x l
    by_class None = refl
    by_class (Some l) = ap (λ (c : ClassId). l.by_library || not (is_the_one (must_of p c) a.name)) on.class

module _ (p : Program) (at : ℕ) (self : Value) (l : Locals) (a : Action) (runs named : Option Method) (v : Value) (e : Option ClassId) (h : HeapContents) (links : HasEarlierLinks h)
    (no_reset : reset_position named ≡ None)
    (making : (w : ℕ) (x : Object) → is_new a ≡ true → self ≡ values.Object w → object_at h w ≡ Some x → x.finished ≡ false) where
  abbrev gone : HeapContents
  gone = frame_gone p at self runs v e h

  abbrev ended : HeapContents
  ended = returned_heap p at self l a runs named v e h

  -- the argument of which the object of a `new` is to be an alias
  abbrev pub aliased : Option ℕ
  aliased = alias_target (operand_of l a) named

  from : (n : ℕ) (y : Object) → object_at ended n ≡ Some y → IsFrom p at self l a named gone no_reset e n y
  from n y now = end_back p at self l a named gone no_reset e n y now

  -- an object of the heap when the frame has gone was there before
  was_there : (n : ℕ) (x : Object) → object_at gone n ≡ Some x → (z : Object) × (object_at h n ≡ Some z) × GoesOn z x
  was_there n x now =
      let y = gone_back p at self runs v e h n x now in
      let old = result_back p at runs v h e n y.0 y.1 in
      (old.before, old.at, goes_on_further old.before y.0 x old.goes_on y.2)

  -- the object that is made was not finished
  made_was : (n : ℕ) (x y : Object) → program_calls.is_new a ≡ true → number_of self ≡ Some n → object_at gone n ≡ Some x → y.class ≡ x.class → IsCarried h n y
  made_was n x y new is there class =
      let z = was_there n x there in
      (z.0, z.1, class ∙ z.2.class, (λ done. absurd (true≢false (sym done ∙ making n z.0 (same_new a new) (number_value self n is) z.1))))

  -- and all others go on
  noted_on : (n : ℕ) (x y : Object) → noted_object (all_notes p gone (receiver_note l a named)) n x ≡ y → GoesOn x y
  noted_on n x y same = subst (GoesOn x) same (notes_add_names-object (all_notes p gone (receiver_note l a named)) n x)

  pub end_was : (n : ℕ) (y : Object) → object_at ended n ≡ Some y → IsCarried h n y
  end_was n y now = elim (from n y now) [
    | inl made ↦ made_was n made.0 y made.2.new made.2.self made.1 made.2.class
    | inr other ↦ elim other [
      | inl alias ↦ made_was n alias.0 y alias.2.new alias.2.self alias.1 alias.2.class
      | inr noted ↦ (let z = was_there n noted.0 noted.1 in
          let all = goes_on_further z.0 noted.0 y z.2 (noted_on n noted.0 y noted.2) in
          (z.0, z.1, all.class, (λ done. (all, λ library. end_keeps_library p at self l a runs named v e h no_reset making n z.0 y z.1 now done library))))
    ]
  ]

  pub end_carries : Carries h ended
  end_carries n y now below = end_was n y now

  -- the object of the `new` is linked to the argument
  abbrev IsLinkedNow : ℕ → Object → Type 0
  IsLinkedNow n y = (is_new a ≡ true) × (self ≡ values.Object n) × (is_alias named ≡ true) × ((x : Object) × (object_at h n ≡ Some x) × (y.class ≡ x.class))

  -- an object that is linked was linked so, or it is that of the `new`
  pub end_linked : (n : ℕ) (y : Object) (k : Link) → object_at ended n ≡ Some y → y.link ≡ Some k → ((x : Object) × (object_at h n ≡ Some x) × (x.link ≡ Some k) × (y.class ≡ x.class)) ⊎ IsLinkedNow n y
  end_linked n y k now some = elim (from n y now) [
    | inl made ↦ (let z = was_there n made.0 made.1 in inl (z.0, z.1, sym (made.2.link ∙ z.2.link) ∙ some, made.2.class ∙ z.2.class))
    | inr other ↦ elim other [
      | inl alias ↦ (let z = was_there n alias.0 alias.1 in inr (same_new a alias.2.new, number_value self n alias.2.self, alias.2.alias, (z.0, z.1, alias.2.class ∙ z.2.class)))
      | inr noted ↦ (let z = was_there n noted.0 noted.1 in
          let all = goes_on_further z.0 noted.0 y z.2 (noted_on n noted.0 y noted.2) in
          inl (z.0, z.1, sym all.link ∙ some, all.class))
    ]
  ]

  pub end_unfinished : KeepsUnfinished h ended (λ o. (self ≡ values.Object o) × (is_new a ≡ true))
  end_unfinished o x y apart before now none = elim (from o y now) [
    | inl made ↦ absurd (apart (number_value self o made.2.self, same_new a made.2.new))
    | inr other ↦ elim other [
      | inl alias ↦ absurd (apart (number_value self o alias.2.self, same_new a alias.2.new))
      | inr noted ↦ (let z = was_there o noted.0 noted.1 in
          (noted_on o noted.0 y noted.2).finished ∙ z.2.finished ∙ ap (λ (u : Object). u.finished) (let both : Some z.0 ≡ Some x = sym z.1 ∙ before in (let one : z.0 ≡ x = cc in one)) ∙ none)
    ]
  ]

  pub end_keeps : KeepsFields p h ended
  end_keeps = grown_fields p h ended (returned_grows p at self l a runs named v e h)

  gone_keeps : KeepsLinks h gone
  gone_keeps = evolving_heaps-links h gone (gone_evolves p at self runs v e h)

  -- where no object is linked, all roots stay
  pub end_roots : (e ≡ None → is_new a ≡ true → aliased ≡ None) → KeepsRoots h ended
  end_roots free = linked_roots h ended links keeps
    where
      keeps : KeepsLinks h ended
      keeps n x before =
          let y = gone_keeps n x before in
          let z = program_ends.end_keeps p at self l a named gone no_reset e (λ normal new. free normal (same_new a new)) n y.0 y.1 in
          (z.0, z.1, z.2 ∙ y.2)

  -- ---- the object of a `new` is linked

  module _ (normal : e ≡ None) (new : is_new a ≡ true) (w k : ℕ) (this : self ≡ values.Object w) (alias : is_alias named ≡ true) (target : aliased ≡ Some k) (x : Object) (there : object_at h w ≡ Some x)
      (unowned : x.owner ≡ owners.Unowned) (some : 0 < k) (below : k < w) where
    abbrev link : Link
    link = record { to = k; by_library = false }

    made : (y : Object) × (object_at gone w ≡ Some y) × (y.finished ≡ false) × (y.owner ≡ owners.Unowned)
    made =
        let y = gone_evolves p at self runs v e h w x there in
        let free = gone_unowned p at self runs v e h w x y.0 there (making w x new this there) unowned y.1 in
        (y.0, y.1, free.0, free.1)

    links_gone : HasEarlierLinks gone
    links_gone = gone_links p at self runs v e h links

    one : LinksOne w link gone ended
    one = subst (λ (c : Option ClassId). LinksOne w link gone (call_ended p at self l a named c gone)) (sym normal)
        (end_links_one p at self l a named gone no_reset links_gone (other_new a new) w (ap number_of this) k made.0 alias target made.1 made.2 some below)

    -- the object of the `new` by its number
    is_made : (n : ℕ) → number_of self ≡ Some n → n ≡ w
    is_made n is = let both : Some n ≡ Some w = sym is ∙ ap number_of this in (let same : n ≡ w = cc in same)

    links_after : HasEarlierLinks ended
    links_after = end_links p at self l a named gone no_reset links_gone
        (λ n z new' is at'. let same : z ≡ made.0 = (let both : Some z ≡ Some made.0 = sym at' ∙ ap (object_at gone) (is_made n is) ∙ made.1 in (let it : z ≡ made.0 = cc in it)) in
        (ap (λ (u : Object). u.finished) same ∙ made.2, ap (λ (u : Object). u.owner) same ∙ made.3))
        (λ n j new' is at'. let to : j ≡ k = (let both : Some j ≡ Some k = sym at' ∙ target in (let it : j ≡ k = cc in it)) in
        let self' : n ≡ w = is_made n is in (omega (arith, to, some), omega (arith, to, self', below))) e

    gone_root : (n : ℕ) (z : Object) → object_at h n ≡ Some z → root gone n ≡ root h n
    gone_root n z before = roots_go_on-number h gone n z links gone_keeps before

    -- what had another root has it still
    pub other_roots : KeepsOtherRoots h ended w
    other_roots n number other =
        let class : ClassId = record { 0 = 0 } in
        let z = object_there h n (unfinished class) number.0 number.1 in
        let y = gone_keeps n z.0 z.1 in
        (roots_over_a_link-number gone ended w link links_gone one links_after n y.0 y.1).1 (λ is. other (sym (gone_root n z.0 z.1) ∙ is)) ∙ gone_root n z.0 z.1

    -- and the object has that of the argument
    pub self_root : root ended w ≡ root h k
    self_root =
        let class : ClassId = record { 0 = 0 } in
        let range = numbers_are_in_range h w x there in
        let top = range.1 in
        let z = object_there h k (unfinished class) some (omega (arith, below, top)) in
        roots_over_a_link-linked gone ended w link links_gone one links_after ∙ gone_root k z.0 z.1

    -- and so has what had it for a root
    pub made_roots : (n : ℕ) → IsNumber h n → root h n ≡ w → root ended n ≡ root h k
    made_roots n number is =
        let class : ClassId = record { 0 = 0 } in
        let range = numbers_are_in_range h w x there in
        let top = range.1 in
        let u = object_there h k (unfinished class) some (omega (arith, below, top)) in
        let z = object_there h n (unfinished class) number.0 number.1 in
        let y = gone_keeps n z.0 z.1 in
        (roots_over_a_link-number gone ended w link links_gone one links_after n y.0 y.1).0 (gone_root n z.0 z.1 ∙ is) ∙ gone_root k u.0 u.1

  -- ---- names

  -- the note of the call reaches the root of its receiver, where the call is no `new`, and the receiver's link does not stop the name
  pub end_noted : (o : ℕ) (x y : Object) (i : NameId) → (is_new a ≡ true → ⊥) → (r : IsReceiver h l a named o i) → ((n : NameId) → interest_in named ≡ Some n → n.0 < 128) → object_at h r.object ≡ Some x
      → is_passed_on p (note false r.object i) x ≡ true → Leads p h r.object o → object_at ended o ≡ Some y → set.contains y.called i.0 ≡ true
  end_noted o x y i other r small there passed leads now = elim (from o y now) [
    | inl made' ↦ absurd (other (same_new a made'.2.new))
    | inr rest ↦ elim rest [
      | inl alias' ↦ absurd (other (same_new a alias'.2.new))
      | inr noted ↦ (
          let on = gone_evolves p at self runs v e h in
          let z = on r.object x there in
          let notes = all_notes p gone (receiver_note l a named) in
          let after : object_at (change_each (noted_object notes) gone) o ≡ Some y =
          changed_object_at-object (noted_object notes) gone o ∙ ap (option_map (noted_object notes o)) noted.1 ∙ ap Some noted.2 in
          noted_names_reach_roots p (receiver_note l a named) gone (note false r.object i) o z.0 y (small_notes l a named small) r.noted z.1
          (passed_as p (note false r.object i) x z.0 z.2 ∙ passed)
          (leading_links-on p h gone r.object o links on (unchanged_fields_keep_contents p h gone (gone_grows p at self runs v e h).fields) leads) after
          )
    ]
  ]

-- the object that a `new` finishes
pub finished_here : (p : Program) (at w : ℕ) (self : Value) (l : Locals) (m : MethodId) (d n : ℕ) (runs named : Option Method) (v : Value) (h : HeapContents) (y : Object) → alias_position named ≡ None → self ≡ values.Object w
    → object_at (returned_heap p at self l (actions.New m d n) runs named v None h) w ≡ Some y → (y.finished ≡ true) × (y.must ≡ must_of p y.class)
finished_here p at w self l m d n runs named v h y no_alias is now =
    let reset = returned_reset p l (actions.New m d n) named (frame_gone p at self runs v None h) in
    let alias = alias_target (operand_of l (actions.New m d n)) named in
    let x = one_here w (object_finished p at named alias) reset y (subst (λ (u : Value). object_at (finished_by_new p at (actions.New m d n) named (number_of u) (alias_target (operand_of l (actions.New m d n)) named) (returned_reset p l (actions.New m d n) named (frame_gone p at self runs v None h))) w ≡ Some y) is now) in
    by x.0 x.2
  where
    by : (x : Object) → object_finished p at named (alias_target (operand_of l (actions.New m d n)) named) x ≡ y → (y.finished ≡ true) × (y.must ≡ must_of p y.class)
    by x same = subst (λ (z : Object). (z.finished ≡ true) × (z.must ≡ must_of p z.class)) same (rw no_alias refl, rw no_alias refl)

-- where its constructor has an aliased argument that is null, it is the library's
pub null_here : (p : Program) (at w : ℕ) (self : Value) (l : Locals) (m : MethodId) (d n : ℕ) (runs named : Option Method) (v : Value) (h : HeapContents) (y : Object) → is_alias named ≡ true
    → alias_target (operand_of l (actions.New m d n)) named ≡ None → self ≡ values.Object w → object_at (returned_heap p at self l (actions.New m d n) runs named v None h) w ≡ Some y
    → (y.finished ≡ true) × (y.owner ≡ owners.Library)
null_here p at w self l m d n runs named v h y alias none is now =
    let reset = returned_reset p l (actions.New m d n) named (frame_gone p at self runs v None h) in
    let target = alias_target (operand_of l (actions.New m d n)) named in
    let x = one_here w (object_finished p at named target) reset y (subst (λ (u : Value). object_at (finished_by_new p at (actions.New m d n) named (number_of u) (alias_target (operand_of l (actions.New m d n)) named) (returned_reset p l (actions.New m d n) named (frame_gone p at self runs v None h))) w ≡ Some y) is now) in
    by x.0 x.2
  where
    by : (x : Object) → object_finished p at named (alias_target (operand_of l (actions.New m d n)) named) x ≡ y → (y.finished ≡ true) × (y.owner ≡ owners.Library)
    by x same = subst (λ (z : Object). (z.finished ≡ true) × (z.owner ≡ owners.Library)) same (rw (alias, none) refl, rw (alias, none) refl)
