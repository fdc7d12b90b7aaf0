-- The roots that a reset reaches, where fields may own objects: the root of its target, where that is finished, the finished holder of that, the holder of this, and so on
-- upwards; and nothing else.
use Rattle.std.proofs.Common.{◌≡◌, ◌⊎◌, inl, inr, ℕ, zero, suc, ◌+◌, ◌<◌, ◌≤◌, Bool, true, false, not, ◌||◌, Option, Some, None, List, [], ◌∷◌, ◌++◌, length, nat_eq, refl, sym, ap, ◌∙◌, subst, true≢false, if◌then◌else◌, arith, eq-eqb, eqb-true}
use Rattle.std.proofs.lemmas.Bool.{or_parts}
use Rattle.std.proofs.lemmas.List.Folds.{list_any-append}
use Rattle.program_model.specs.declared.kinds.ClassId.{ClassId}
use Rattle.program_model.specs.declared.kinds.FieldId.{FieldId}
use Rattle.ledger_obligations.specs.Obligations.{finished_holder, finished_in, owner_in, reach_on, reached, reached_within, stops}
use Rattle.ledger_state.specs.Contents.{HeapContents}
use Rattle.ledger_state.specs.Heaps.{has_number, object_at, root}
use Rattle.ledger_state.specs.declared.entry.Owner.{Owner}
use Rattle.ledger_state.specs.declared.entry.Owner.TheVariants as owners
use Rattle.ledger_state.specs.declared.object.Object.{Object}
use Rattle.heap_laws.specs.Holders.{HoldersAreUnlinked, IsTested, IsWithin, UnfinishedAreUnowned, by_field, itself}
use Rattle.heap_laws.proofs.NoteCounts.{bit, bit_le, bit_lt, bit_small, sum_below, sums_lt}
use Rattle.heap_laws.proofs.ObjectLaws.{in_range}
use Rattle.heap_laws.proofs.Renewed.{roots_finished}
use Rattle.heap_laws.proofs.RootLaws.{one_object, root_itself}
use Rattle.heap_laws.proofs.WaysUp.{StepsUp, ends, finished_on_the_way, goes, steps_up}

-- ---- lists of numbers

has_both : (ks js : List ℕ) (s : ℕ) → has_number (ks ++ js) s ≡ (has_number ks s || has_number js s)
has_both ks js s = list_any-append (λ j. nat_eq j s) ks js

pub keeps_number : (ks : List ℕ) (r s : ℕ) → has_number ks s ≡ true → has_number (ks ++ r ∷ []) s ≡ true
keeps_number ks r s is = has_both ks (r ∷ []) s ∙ rw is refl

pub has_last : (ks : List ℕ) (r s : ℕ) → r ≡ s → has_number (ks ++ r ∷ []) s ≡ true
has_last ks r s same = has_both ks (r ∷ []) s ∙ go (has_number ks s)
  where
    go : (b : Bool) → (b || (nat_eq r s || false)) ≡ true
    go true = refl
    go false = rw (eq-eqb r s same) refl

pub last_number : (ks : List ℕ) (r s : ℕ) → has_number (ks ++ r ∷ []) s ≡ true → (has_number ks s ≡ true) ⊎ (r ≡ s)
last_number ks r s is = go (has_number ks s) refl (nat_eq r s) refl (sym (has_both ks (r ∷ []) s) ∙ is)
  where
    go : (x : Bool) → has_number ks s ≡ x → (y : Bool) → nat_eq r s ≡ y → (has_number ks s || (nat_eq r s || false)) ≡ true → (has_number ks s ≡ true) ⊎ (r ≡ s)
    go true one y two any = inl one
    go false one true two any = inr (eqb-true r s two)
    go false one false two any = absurd (true≢false (sym any ∙ rw (one, two) refl))

-- how many of the first numbers are in the list
abbrev held_bit : List ℕ → ℕ → ℕ
held_bit ks i = bit (has_number ks (suc i))

abbrev count : List ℕ → ℕ → ℕ
count ks n = sum_below (held_bit ks) n

count_most : (ks : List ℕ) (n : ℕ) → count ks n ≤ n
count_most ks zero = omega arith
count_most ks (suc n) = let here = bit_small (has_number ks (suc n)) in let more = count_most ks n in omega (arith, here, more)

count_grows : (ks : List ℕ) (r n : ℕ) → has_number ks r ≡ false → 0 < r → r ≤ n → count ks n < count (ks ++ r ∷ []) n
count_grows ks zero n none above below = absurd (omega (arith, above))
count_grows ks (suc i) n none above below =
    sums_lt (held_bit ks) (held_bit (ks ++ suc i ∷ [])) n i (λ j. bit_le (has_number ks (suc j)) (has_number (ks ++ suc i ∷ []) (suc j)) (keeps_number ks (suc i) (suc j))) (omega (arith, below))
    (bit_lt (has_number ks (suc i)) (has_number (ks ++ suc i ∷ []) (suc i)) none (has_last ks (suc i) (suc i) refl))

-- ---- holders

-- the finished holder of an object that a field owns
pub holder_of_field : (h : HeapContents) (o : Owner) (w : ℕ) → finished_holder h o ≡ Some w → (f : FieldId) × (o ≡ owners.Field w f) × (finished_in (object_at h w) ≡ true)
holder_of_field h (owners.Field v f) w is = go (finished_in (object_at h v)) refl is
  where
    go : (b : Bool) → finished_in (object_at h v) ≡ b → (if b then Some v else None) ≡ Some w → (g : FieldId) × (owners.Field v f ≡ owners.Field w g) × (finished_in (object_at h w) ≡ true)
    go true done same = let to : v ≡ w = (let both : Some v ≡ Some w = same in cc) in (f, ap (λ (n : ℕ). owners.Field n f) to, ap (λ (n : ℕ). finished_in (object_at h n)) (sym to) ∙ done)
    go false unmade same = absurd (let never : None ≡ Some w = same in cc)
holder_of_field h (owners.Frame j) w is = absurd (let never : None ≡ Some w = is in cc)
holder_of_field h owners.Library w is = absurd (let never : None ≡ Some w = is in cc)
holder_of_field h owners.Released w is = absurd (let never : None ≡ Some w = is in cc)
holder_of_field h owners.Lost w is = absurd (let never : None ≡ Some w = is in cc)
holder_of_field h owners.Unowned w is = absurd (let never : None ≡ Some w = is in cc)

pub holder_in : (h : HeapContents) (s w : ℕ) → finished_holder h (owner_in (object_at h s)) ≡ Some w → (f : FieldId) × (x : Object) × (object_at h s ≡ Some x) × (x.owner ≡ owners.Field w f) × (finished_in (object_at h w) ≡ true)
holder_in h s w is = go (object_at h s) refl is
  where
    go : (x : Option Object) → object_at h s ≡ x → finished_holder h (owner_in x) ≡ Some w → (f : FieldId) × (x : Object) × (object_at h s ≡ Some x) × (x.owner ≡ owners.Field w f) × (finished_in (object_at h w) ≡ true)
    go None at none = absurd (let never : None ≡ Some w = none in cc)
    go (Some x) at some = let owned = holder_of_field h x.owner w some in (owned.0, x, at, owned.1, owned.2)

pub finished_object : (h : HeapContents) (s : ℕ) → finished_in (object_at h s) ≡ true → (x : Object) × (object_at h s ≡ Some x) × (x.finished ≡ true)
finished_object h s is = go (object_at h s) refl is
  where
    go : (x : Option Object) → object_at h s ≡ x → finished_in x ≡ true → (x : Object) × (object_at h s ≡ Some x) × (x.finished ≡ true)
    go None at never = absurd (true≢false (sym never))
    go (Some x) at done = (x, at, done)

-- ---- all that is reached

-- These roots have all those that were seen on the way, and the root of the object where that is finished; and with each root whose owner is a field of a finished object,
-- the root of that object, where it is finished.
pub record AreClosed (h : HeapContents) (seen : List ℕ) (k : ℕ) (roots : List ℕ) : Type 0 where
  pub keeps : (s : ℕ) → has_number seen s ≡ true → has_number roots s ≡ true
  pub begins : finished_in (object_at h (root h k)) ≡ true → has_number roots (root h k) ≡ true
  pub goes_up : (s w : ℕ) → has_number roots s ≡ true → finished_holder h (owner_in (object_at h s)) ≡ Some w → finished_in (object_at h (root h w)) ≡ true → has_number roots (root h w) ≡ true

-- of what was seen, each holder was seen, but that of the last, which is the next object
abbrev LeadOn : HeapContents → List ℕ → ℕ → Type 0
LeadOn h seen k = (s w : ℕ) → has_number seen s ≡ true → finished_holder h (owner_in (object_at h s)) ≡ Some w → (has_number seen (root h w) ≡ true) ⊎ (root h w ≡ root h k)

module _ (h : HeapContents) where
  abbrev most : ℕ
  most = length h.objects

  -- nothing more is reached than was seen
  stopped : (seen : List ℕ) (k : ℕ) → LeadOn h seen k → stops h seen (root h k) ≡ true → AreClosed h seen k seen
  stopped seen k on at = record { keeps = λ s is. is; begins = first; goes_up = up }
    where
      first : finished_in (object_at h (root h k)) ≡ true → has_number seen (root h k) ≡ true
      first done = go (has_number seen (root h k)) refl
        where
          go : (b : Bool) → has_number seen (root h k) ≡ b → has_number seen (root h k) ≡ true
          go true is = is
          go false none = absurd (let never : false ≡ true = rw (none, done) at at in true≢false (sym never))

      up : (s w : ℕ) → has_number seen s ≡ true → finished_holder h (owner_in (object_at h s)) ≡ Some w → finished_in (object_at h (root h w)) ≡ true → has_number seen (root h w) ≡ true
      up s w is holder done = elim (on s w is holder) [
        | inl was ↦ was
        | inr here ↦ ap (has_number seen) here ∙ first (ap (λ (n : ℕ). finished_in (object_at h n)) (sym here) ∙ done)
      ]

  module _ (seen : List ℕ) (k : ℕ) (on : LeadOn h seen k) where
    abbrev next : List ℕ
    next = seen ++ root h k ∷ []

    leads_further : (w : ℕ) → finished_holder h (owner_in (object_at h (root h k))) ≡ Some w → LeadOn h next w
    leads_further w holder s u is above = elim (last_number seen (root h k) s is) [
      | inl old ↦ elim (on s u old above) [
        | inl was ↦ inl (keeps_number seen (root h k) (root h u) was)
        | inr here ↦ inl (has_last seen (root h k) (root h u) (sym here))
      ]
      | inr here ↦ inr (let same : u ≡ w = (let both : Some u ≡ Some w = sym above ∙ ap (λ (n : ℕ). finished_holder h (owner_in (object_at h n))) (sym here) ∙ holder in cc) in ap (root h) same)
    ]

    -- the root has no finished holder
    last_of_all : finished_holder h (owner_in (object_at h (root h k))) ≡ None → AreClosed h seen k next
    last_of_all none = record { keeps = keeps_number seen (root h k); begins = λ done. has_last seen (root h k) (root h k) refl; goes_up = up }
      where
        up : (s w : ℕ) → has_number next s ≡ true → finished_holder h (owner_in (object_at h s)) ≡ Some w → finished_in (object_at h (root h w)) ≡ true → has_number next (root h w) ≡ true
        up s w is holder done = elim (last_number seen (root h k) s is) [
          | inl old ↦ elim (on s w old holder) [
            | inl was ↦ keeps_number seen (root h k) (root h w) was
            | inr here ↦ has_last seen (root h k) (root h w) (sym here)
          ]
          | inr here ↦ absurd (let never : None ≡ Some w = sym none ∙ ap (λ (n : ℕ). finished_holder h (owner_in (object_at h n))) here ∙ holder in cc)
        ]

    further_closed : (w : ℕ) (roots : List ℕ) → AreClosed h next w roots → AreClosed h seen k roots
    further_closed w roots closed = record {
      keeps = λ s is. closed.keeps s (keeps_number seen (root h k) s is);
      begins = λ done. closed.keeps (root h k) (has_last seen (root h k) (root h k) refl);
      goes_up = closed.goes_up;
    }

    -- one more of the objects was seen
    fewer_left : (n : ℕ) → stops h seen (root h k) ≡ false → most < count seen most + suc n → most < count next most + n
    fewer_left n at enough =
        let parts = or_parts (has_number seen (root h k)) (not (finished_in (object_at h (root h k)))) at in
        let there = finished_object h (root h k) (done (finished_in (object_at h (root h k))) refl parts.1) in
        let range = in_range h (root h k) there.0 there.1 in
        let above = range.0 in
        let below = range.1 in
        let more = count_grows seen (root h k) most parts.0 above (omega (arith, below)) in
        omega (arith, enough, more)
      where
        done : (b : Bool) → finished_in (object_at h (root h k)) ≡ b → not (finished_in (object_at h (root h k))) ≡ false → finished_in (object_at h (root h k)) ≡ true
        done true is none = is
        done false is none = absurd (true≢false (ap not (sym is) ∙ none))

  closed_within : (n : ℕ) (seen : List ℕ) (k : ℕ) → LeadOn h seen k → most < count seen most + n → AreClosed h seen k (reached_within n h seen k)
  closed_within zero seen k on enough = absurd (let few = count_most seen most in omega (arith, enough, few))
  closed_within (suc n) seen k on enough = go (stops h seen (root h k)) refl (λ w at holder. closed_within n (next seen k on) w (leads_further seen k on w holder) (fewer_left seen k on n at enough))
    where
      further : (w : Option ℕ) → finished_holder h (owner_in (object_at h (root h k))) ≡ w → ((w : ℕ) → finished_holder h (owner_in (object_at h (root h k))) ≡ Some w → AreClosed h (next seen k on) w (reached_within n h (next seen k on) w))
          → AreClosed h seen k (reach_on (reached_within n h) (next seen k on) w)
      further None none beyond = last_of_all seen k on none
      further (Some w) holder beyond = further_closed seen k on w (reached_within n h (next seen k on) w) (beyond w holder)

      go : (b : Bool) → stops h seen (root h k) ≡ b
          → ((w : ℕ) → stops h seen (root h k) ≡ false → finished_holder h (owner_in (object_at h (root h k))) ≡ Some w → AreClosed h (next seen k on) w (reached_within n h (next seen k on) w))
          → AreClosed h seen k (if b then seen else reach_on (reached_within n h) (seen ++ root h k ∷ []) (finished_holder h (owner_in (object_at h (root h k)))))
      go true at beyond = stopped seen k on at
      go false at beyond = further (finished_holder h (owner_in (object_at h (root h k)))) refl (λ w holder. beyond w at holder)

  pub reached_are_closed : (k : ℕ) → AreClosed h [] k (reached h (Some k))
  reached_are_closed k = closed_within (most + 1) [] k (λ s w is holder. absurd (true≢false (sym is))) (omega arith)

  -- ---- and nothing else

  module _ (test : ClassId → Bool) (unlinked : HoldersAreUnlinked test h) where
    holder_is_root : (s w : ℕ) → IsTested test h s → finished_holder h (owner_in (object_at h s)) ≡ Some w
        → (f : FieldId) × (x : Object) × (object_at h s ≡ Some x) × (x.owner ≡ owners.Field w f) × (root h w ≡ w) × IsTested test h w
    holder_is_root s w tested is =
        let x = holder_in h s w is in
        let holder = unlinked s x.1 w x.0 x.2 (tested x.1 x.2) x.3 in
        (x.0, x.1, x.2, x.3, root_itself h w holder.0 holder.1 holder.2, λ y at. ap (λ (u : Object). test u.class) (one_object y holder.0 (object_at h w) at holder.1) ∙ holder.3)

    above_within : (n : ℕ) (seen : List ℕ) (k s : ℕ) → IsTested test h (root h k) → has_number (reached_within n h seen k) s ≡ true → (has_number seen s ≡ true) ⊎ (IsWithin h (root h k) s × IsTested test h s)
    above_within zero seen k s tested is = inl is
    above_within (suc n) seen k s tested is = go (stops h seen (root h k)) is (λ w tested' has. above_within n (seen ++ root h k ∷ []) w s tested' has)
      where
        last : has_number (seen ++ root h k ∷ []) s ≡ true → (has_number seen s ≡ true) ⊎ (IsWithin h (root h k) s × IsTested test h s)
        last has = elim (last_number seen (root h k) s has) [
          | inl old ↦ inl old
          | inr here ↦ inr (subst (IsWithin h (root h k)) here (itself (root h k)), subst (IsTested test h) here tested)
        ]

        further : (w : Option ℕ) → finished_holder h (owner_in (object_at h (root h k))) ≡ w
            → ((w : ℕ) → IsTested test h (root h w) → has_number (reached_within n h (seen ++ root h k ∷ []) w) s ≡ true → (has_number (seen ++ root h k ∷ []) s ≡ true) ⊎ (IsWithin h (root h w) s × IsTested test h s))
            → has_number (reach_on (reached_within n h) (seen ++ root h k ∷ []) w) s ≡ true → (has_number seen s ≡ true) ⊎ (IsWithin h (root h k) s × IsTested test h s)
        further None holder beyond has = last has
        further (Some w) holder beyond has =
            let x = holder_is_root (root h k) w tested holder in
            elim (beyond w (subst (IsTested test h) (sym x.4) x.5) has) [
              | inl old ↦ last old
              | inr up ↦ inr (by_field (root h k) w s x.0 x.1 x.2 x.3 (subst (λ (j : ℕ). IsWithin h j s) x.4 up.0), up.1)
            ]

        go : (b : Bool) → has_number (if b then seen else reach_on (reached_within n h) (seen ++ root h k ∷ []) (finished_holder h (owner_in (object_at h (root h k))))) s ≡ true
            → ((w : ℕ) → IsTested test h (root h w) → has_number (reached_within n h (seen ++ root h k ∷ []) w) s ≡ true → (has_number (seen ++ root h k ∷ []) s ≡ true) ⊎ (IsWithin h (root h w) s × IsTested test h s))
            → (has_number seen s ≡ true) ⊎ (IsWithin h (root h k) s × IsTested test h s)
        go true has beyond = inl has
        go false has beyond = further (finished_holder h (owner_in (object_at h (root h k)))) refl beyond has

    -- the root of the target is within each root that is reached, which is finished, and whose class passes the test
    pub reached_is_above : (k s : ℕ) → IsTested test h (root h k) → has_number (reached h (Some k)) s ≡ true → IsWithin h (root h k) s × (finished_in (object_at h s) ≡ true) × IsTested test h s
    reached_is_above k s tested is =
        let up : IsWithin h (root h k) s × IsTested test h s = elim (above_within (length h.objects + 1) [] k s tested is) [
          | inl never ↦ absurd (true≢false (sym never))
          | inr up ↦ up
        ] in
        (up.0, roots_finished h (Some k) s is, up.1)

    -- with a root whose owner is a field of a finished object, that object is reached
    pub reached_goes_up : (k s w : ℕ) (f : FieldId) (x : Object) → has_number (reached h (Some k)) s ≡ true → object_at h s ≡ Some x → test x.class ≡ true → x.owner ≡ owners.Field w f → finished_in (object_at h w) ≡ true
        → has_number (reached h (Some k)) w ≡ true
    reached_goes_up k s w f x is at tested owned done =
        let z = unlinked s x w f at tested owned in
        let itself' : root h w ≡ w = root_itself h w z.0 z.1 z.2 in
        ap (has_number (reached h (Some k))) (sym itself') ∙ (reached_are_closed k).goes_up s w is (ap (λ (o : Option Object). finished_holder h (owner_in o)) at ∙ ap (finished_holder h) owned ∙ rw done refl)
        (ap (λ (n : ℕ). finished_in (object_at h n)) itself' ∙ done)

    -- so each finished object that one is within which is reached
    pub reached_all_above : UnfinishedAreUnowned h → (k a s : ℕ) → IsTested test h a → has_number (reached h (Some k)) a ≡ true → IsWithin h a s → finished_in (object_at h s) ≡ true → has_number (reached h (Some k)) s ≡ true
    reached_all_above unowned k _ _ tested is (itself o) done = is
    reached_all_above unowned k _ _ tested is (by_field o v s f x at owned rest) done =
        reached_all_above unowned k v s (let z = unlinked o x v f at (tested x at) owned in λ y at'. ap (λ (u : Object). test u.class) (one_object y z.0 (object_at h v) at' z.1) ∙ z.3) (reached_goes_up k o v f x is at (tested x at) owned (finished_holder_of rest)) rest done
      where
        finished_holder_of : IsWithin h v s → finished_in (object_at h v) ≡ true
        finished_holder_of up = go (steps_up h v s up)
          where
            go : StepsUp h v s → finished_in (object_at h v) ≡ true
            go (ends same) = ap (λ (n : ℕ). finished_in (object_at h n)) same ∙ done
            go (goes u g y at' owned' rest') = let z = finished_object h s done in ap finished_in at' ∙ finished_on_the_way h v s y z.0 unowned up at' z.1 z.2

  -- the root of the target is reached, where it is finished
  pub reached_begins : (k : ℕ) → finished_in (object_at h (root h k)) ≡ true → has_number (reached h (Some k)) (root h k) ≡ true
  reached_begins k done = (reached_are_closed k).begins done
