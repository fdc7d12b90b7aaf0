-- The ways up from objects to those whose fields own them: there is one way from each object, and how the ways change as a heap goes on.
use Rattle.std.proofs.Common.{◌≡◌, ◌⊎◌, inl, inr, ℕ, Bool, true, false, Some, refl, sym, ap, ◌∙◌, subst, true≢false}
use Rattle.program_model.specs.declared.kinds.FieldId.{FieldId}
use Rattle.ledger_state.specs.Contents.{HeapContents}
use Rattle.ledger_state.specs.Heaps.{object_at}
use Rattle.ledger_state.specs.declared.entry.Owner.{Owner}
use Rattle.ledger_state.specs.declared.entry.Owner.TheVariants as owners
use Rattle.ledger_state.specs.declared.object.Object.{Object}
use Rattle.heap_laws.specs.Anew.{is_field_owner}
use Rattle.heap_laws.specs.Holders.{FieldsGoOnOwning, FieldsOwnOneMore, HasTop, IsWithin, UnfinishedAreUnowned, itself, by_field}
use Rattle.heap_laws.proofs.RootLaws.{one_object}

-- ---- owners

-- a field of one object owns it
same_holder : (v w : ℕ) (f g : FieldId) → ◌≡◌ {A = Owner} (owners.Field v f) (owners.Field w g) → v ≡ w
same_holder v w f g is = cc

unheld : (o : Owner) (v : ℕ) (f : FieldId) → is_field_owner o ≡ false → o ≡ owners.Field v f → ⊥
unheld o v f none is = true≢false (sym (ap is_field_owner is) ∙ none)

-- what a field owns, or what no field owns
pub data IsHeldOrNot (o : Owner) : Type 0 where
  held : (v : ℕ) (f : FieldId) → o ≡ owners.Field v f → IsHeldOrNot o
  free : is_field_owner o ≡ false → IsHeldOrNot o

pub held_or_not : (o : Owner) → IsHeldOrNot o
held_or_not (owners.Field v f) = held v f refl
held_or_not (owners.Frame j) = free refl
held_or_not owners.Library = free refl
held_or_not owners.Released = free refl
held_or_not owners.Lost = free refl
held_or_not owners.Unowned = free refl

-- two fields that own an object are those of one
pub one_holder : (h : HeapContents) (o v w : ℕ) (f g : FieldId) (x y : Object) → object_at h o ≡ Some x → x.owner ≡ owners.Field v f → object_at h o ≡ Some y → y.owner ≡ owners.Field w g → v ≡ w
one_holder h o v w f g x y at owned at' owned' = same_holder v w f g (sym owned ∙ ap (λ (z : Object). z.owner) (one_object x y (object_at h o) at at') ∙ owned')

-- ---- the way up is one

pub within_further : (h : HeapContents) (a b c : ℕ) → IsWithin h a b → IsWithin h b c → IsWithin h a c
within_further h _ _ c (itself o) more = more
within_further h _ _ c (by_field o v w f x at owned rest) more = by_field o v c f x at owned (within_further h v w c rest more)

-- an object is itself, or a field owns it and its holder is further up
pub data StepsUp (h : HeapContents) (o w : ℕ) : Type 0 where
  ends : o ≡ w → StepsUp h o w
  goes : (v : ℕ) (f : FieldId) (x : Object) → object_at h o ≡ Some x → x.owner ≡ owners.Field v f → IsWithin h v w → StepsUp h o w

pub steps_up : (h : HeapContents) (o w : ℕ) → IsWithin h o w → StepsUp h o w
steps_up h _ _ (itself o) = ends refl
steps_up h _ _ (by_field o v w f x at owned rest) = goes v f x at owned rest

-- the object which a field of `v` owns: what else it is within, `v` is within
pub on_from_holder : (h : HeapContents) (o v w : ℕ) (f : FieldId) (x : Object) → object_at h o ≡ Some x → x.owner ≡ owners.Field v f → IsWithin h o w → (o ≡ w) ⊎ IsWithin h v w
on_from_holder h o v w f x at owned up = go (steps_up h o w up)
  where
    go : StepsUp h o w → (o ≡ w) ⊎ IsWithin h v w
    go (ends same) = inl same
    go (goes u g y at' owned' rest) = inr (subst (λ (n : ℕ). IsWithin h n w) (one_holder h o u v g f y x at' owned' at owned) rest)

-- two objects that one is within are within one another, one way or the other
pub one_way_up : (h : HeapContents) (o a b : ℕ) → IsWithin h o a → IsWithin h o b → IsWithin h a b ⊎ IsWithin h b a
one_way_up h _ _ b (itself o) other = inl other
one_way_up h _ _ b (by_field o v w f x at owned rest) other = go (on_from_holder h o v b f x at owned other) (λ up. one_way_up h v w b rest up)
  where
    go : (o ≡ b) ⊎ IsWithin h v b → (IsWithin h v b → IsWithin h w b ⊎ IsWithin h b w) → IsWithin h w b ⊎ IsWithin h b w
    go (inl same) on = inr (subst (λ (n : ℕ). IsWithin h n w) same (by_field o v w f x at owned rest))
    go (inr up) on = on up

-- ---- the end of the way

-- from an object that no field owns there is no way up
pub top_is_last : (h : HeapContents) (e w : ℕ) (x : Object) → object_at h e ≡ Some x → is_field_owner x.owner ≡ false → IsWithin h e w → e ≡ w
top_is_last h e w x at none up = go (steps_up h e w up)
  where
    go : StepsUp h e w → e ≡ w
    go (ends same) = same
    go (goes v f y at' owned rest) = absurd (unheld x.owner v f none (ap (λ (z : Object). z.owner) (one_object x y (object_at h e) at at') ∙ owned))

-- what an object is within is within its top
pub within_top : (h : HeapContents) (o w e : ℕ) → HasTop h o e → IsWithin h o w → HasTop h w e
within_top h o w e top up = record { within = go (one_way_up h o w e up top.within); object = top.object; at = top.at; unheld = top.unheld }
  where
    go : IsWithin h w e ⊎ IsWithin h e w → IsWithin h w e
    go (inl up') = up'
    go (inr down) = subst (λ (n : ℕ). IsWithin h w n) (sym (top_is_last h e w top.object top.at top.unheld down)) (itself w)

pub one_top : (h : HeapContents) (o a b : ℕ) → HasTop h o a → HasTop h o b → a ≡ b
one_top h o a b first second = go (one_way_up h o a b first.within second.within)
  where
    go : IsWithin h a b ⊎ IsWithin h b a → a ≡ b
    go (inl up) = top_is_last h a b first.object first.at first.unheld up
    go (inr down) = sym (top_is_last h b a second.object second.at second.unheld down)

-- the top of the object whose field owns it is its own
pub holder_has_top : (h : HeapContents) (o v e : ℕ) (f : FieldId) (x : Object) → object_at h o ≡ Some x → x.owner ≡ owners.Field v f → HasTop h o e → HasTop h v e
holder_has_top h o v e f x at owned top = within_top h o v e top (by_field o v v f x at owned (itself v))

pub has_holders_top : (h : HeapContents) (o v e : ℕ) (f : FieldId) (x : Object) → object_at h o ≡ Some x → x.owner ≡ owners.Field v f → HasTop h v e → HasTop h o e
has_holders_top h o v e f x at owned top = record { within = by_field o v e f x at owned top.within; object = top.object; at = top.at; unheld = top.unheld }

-- an object that no field owns is its own top
pub own_top : (h : HeapContents) (o : ℕ) (x : Object) → object_at h o ≡ Some x → is_field_owner x.owner ≡ false → HasTop h o o
own_top h o x at none = record { within = itself o; object = x; at = at; unheld = none }

-- ---- what is finished

-- where nobody owns an object that is not finished, each object on the way up to a finished one is finished
pub finished_on_the_way : (h : HeapContents) (o w : ℕ) (x z : Object) → UnfinishedAreUnowned h → IsWithin h o w → object_at h o ≡ Some x → object_at h w ≡ Some z → z.finished ≡ true → x.finished ≡ true
finished_on_the_way h o w x z unowned up at there done = go (steps_up h o w up) x.finished refl
  where
    go : StepsUp h o w → (b : Bool) → x.finished ≡ b → x.finished ≡ true
    go up' true is = is
    go (ends same) false is = ap (λ (y : Object). y.finished) (one_object x z (object_at h o) at (ap (object_at h) same ∙ there)) ∙ done
    go (goes v f y at' owned rest) false is =
        absurd (let never : ◌≡◌ {A = Owner} owners.Unowned (owners.Field v f) = sym (unowned o x at is) ∙ ap (λ (u : Object). u.owner) (one_object x y (object_at h o) at at') ∙ owned in cc)

-- ---- heaps that go on

-- what fields own stays theirs
pub within_goes_on : (h k : HeapContents) (a b : ℕ) → FieldsGoOnOwning h k → IsWithin h a b → IsWithin k a b
within_goes_on h k _ _ keeps (itself o) = itself o
within_goes_on h k _ _ keeps (by_field o v w f x at owned rest) = let y = keeps o x v f at owned in by_field o v w f y.0 y.1 y.2 (within_goes_on h k v w keeps rest)

-- one object more is owned by a field of `w`: a way up is as before, or leads from that object to `w`
pub within_with_one_more : (h k : HeapContents) (n w a b : ℕ) → FieldsOwnOneMore n w h k → IsWithin k a b → IsWithin h a b ⊎ (IsWithin h a n × IsWithin h w b)
within_with_one_more h k n w _ _ more (itself o) = inl (itself o)
within_with_one_more h k n w _ _ more (by_field o v b f y at owned rest) = go (more o y v f at owned) (within_with_one_more h k n w v b more rest)
  where
    go : ((x : Object) × (object_at h o ≡ Some x) × (x.owner ≡ owners.Field v f)) ⊎ ((o ≡ n) × (v ≡ w)) → IsWithin h v b ⊎ (IsWithin h v n × IsWithin h w b) → IsWithin h o b ⊎ (IsWithin h o n × IsWithin h w b)
    go (inl (x, before, had)) (inl up) = inl (by_field o v b f x before had up)
    go (inl (x, before, had)) (inr (below, above)) = inr (by_field o v n f x before had below, above)
    go (inr (here, to)) (inl up) = inr (subst (λ (m : ℕ). IsWithin h o m) here (itself o), subst (λ (m : ℕ). IsWithin h m b) to up)
    go (inr (here, to)) (inr (below, above)) = inr (subst (λ (m : ℕ). IsWithin h o m) here (itself o), above)
