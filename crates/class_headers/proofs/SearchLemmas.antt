-- Lemmas on the search for what stands above a class.
use Rattle.std.proofs.Common.{◌≡◌, ◌↔◌, ◌∙◌, sym, ap, refl, subst, arith, inl, inr, ⊎_elim, ℕ, ◌+◌, ◌<◌, ◌≤◌, zero, suc, Bool, true, false, true≢false, Some, List, [], ◌∷◌, ◌++◌, length, get_or, set, take}
use Rattle.std.specs.Prelude.{slice_get, ◌⊎◌, replicate}
use Rattle.std.proofs.lemmas.Option.{slice_get-get_or, slice_get_within}
use Rattle.std.specs.List.{All, Contains}
use Rattle.std.proofs.lemmas.Bool.{cases_eq, cases_lt}
use Rattle.std.proofs.lemmas.List.{append-nil, append_assoc, get_or-set_same, get_or-set_other, get_or-replicate, get_or_past, length-append, length-replicate, length-set, take_all, take_more}
use Rattle.std.proofs.lemmas.List.Elements.{All-append, All-contains, All-weaker, Contains-append_left, Contains-append_right, Contains-append_cases, Contains-push, Contains-push_cases, Contains-get_or}
use Rattle.program_model.specs.declared.kinds.ClassId.{ClassId}
use Rattle.class_headers.specs.Search.{AreAbove, AreFound, AreMarked, Grows, is_marked, open_count}
use Rattle.class_headers.specs.SuperTypes.{AreKnown, IsUnder, itself, above, right_above}

same_class : (c d : ClassId) → c.0 ≡ d.0 → c ≡ d
same_class c d same = λ i. record { 0 = same i }

-- ---- marks

pub count_less : (marks : List Bool) (n : ℕ) → n < length marks → get_or marks n false ≡ false → open_count (set marks n true) + 1 ≡ open_count marks
count_less [] n within h = absurd (omega arith)
count_less (true ∷ marks) zero within h = absurd (true≢false h)
count_less (false ∷ marks) zero within h = refl
count_less (true ∷ marks) (suc n) within h = count_less marks n (omega arith) h
count_less (false ∷ marks) (suc n) within h = ap (λ m. m + 1) (count_less marks n (omega arith) h)

marked_there : (found : List ClassId) (marks : List Bool) (c d : ClassId) → c.0 < length marks → AreMarked found marks → is_marked (set marks c.0 true) d ≡ true → Contains (found ++ c ∷ []) d
marked_there found marks c d within h is = elim (cases_eq d.0 c.0) [
  | inl same ↦ subst (λ (x : ClassId). Contains (found ++ c ∷ []) x) (sym (same_class d c same)) (Contains-push found c)
  | inr other ↦ Contains-append_left found (c ∷ []) d ((h.exact d).0 (sym (get_or-set_other marks c.0 d.0 true false other) ∙ is))
]

there_marked : (found : List ClassId) (marks : List Bool) (c d : ClassId) → c.0 < length marks → AreMarked found marks → Contains (found ++ c ∷ []) d → is_marked (set marks c.0 true) d ≡ true
there_marked found marks c d within h has = elim (cases_eq d.0 c.0) [
  | inl same ↦ ap (λ n. get_or (set marks c.0 true) n false) same ∙ get_or-set_same marks c.0 true false within
  | inr other ↦ get_or-set_other marks c.0 d.0 true false other ∙ ⊎_elim (λ old. (h.exact d).1 old) (λ last. absurd (other (ap (λ (x : ClassId). x.0) (sym last)))) (Contains-push_cases found c d has)
]

pub marked_more : (found : List ClassId) (marks : List Bool) (c : ClassId) → c.0 < length marks → AreMarked found marks → AreMarked (found ++ c ∷ []) (set marks c.0 true)
marked_more found marks c within h = record { exact = λ d. (marked_there found marks c d within h, there_marked found marks c d within h) }

pub grows_by_one : (found : List ClassId) (c : ClassId) → Grows found (found ++ c ∷ []) (c ∷ [])
grows_by_one found c = record {
  new = c ∷ [];
  is = refl;
  only = λ k d within. Contains-get_or (c ∷ []) k d within;
  all = λ x has. Contains-append_right found (c ∷ []) x has;
}

only_one : (c x : ClassId) → Contains (c ∷ []) x → c ≡ x
only_one c x has = ⊎_elim (λ (none : Contains [] x). absurd (let never = none.1 in omega arith)) (λ same. same) (Contains-push_cases [] c x has)

pub grows_by_none : (found : List ClassId) (c : ClassId) → Contains found c → Grows found found (c ∷ [])
grows_by_none found c here = record {
  new = [];
  is = sym (append-nil found);
  only = λ k d within. absurd (omega arith);
  all = λ x has. subst (λ (y : ClassId). Contains found y) (only_one c x has) here;
}

pub grows_start : (found : List ClassId) → Grows found found []
grows_start found = record {
  new = [];
  is = sym (append-nil found);
  only = λ k d within. absurd (omega arith);
  all = λ x has. absurd (let never = has.1 in omega arith);
}

-- one class of the list more
pub grows_next : (old found more classes : List ClassId) (i : ℕ) (c : ClassId) → i < length classes → c ≡ get_or classes i c → Grows old found (take i classes) → Grows found more (c ∷ []) → Grows old more (take (i + 1) classes)
grows_next old found more classes i c within at h g =
    let front : take (i + 1) classes ≡ take i classes ++ c ∷ [] = take_more classes i c within ∙ ap (λ x. take i classes ++ x ∷ []) (sym at) in
    let among : (x : ClassId) → Contains (take i classes ++ c ∷ []) x → Contains (take (i + 1) classes) x = λ x has. subst (λ (xs : List ClassId). Contains xs x) (sym front) has in
    record {
      new = h.new ++ g.new;
      is = g.is ∙ ap (λ xs. xs ++ g.new) h.is ∙ append_assoc old h.new g.new;
      only = All-append (Contains (take (i + 1) classes)) h.new g.new
          (All-weaker (Contains (take i classes)) (Contains (take (i + 1) classes)) (λ x has. among x (Contains-append_left (take i classes) (c ∷ []) x has)) h.new h.only)
          (All-weaker (Contains (c ∷ [])) (Contains (take (i + 1) classes)) (λ x has. among x (Contains-append_right (take i classes) (c ∷ []) x has)) g.new g.only);
      all = λ x has. ⊎_elim
          (λ first. subst (λ (xs : List ClassId). Contains xs x) (sym g.is) (Contains-append_left found g.new x (h.all x first)))
          (λ last. g.all x last)
          (Contains-append_cases (take i classes) (c ∷ []) x (subst (λ (xs : List ClassId). Contains xs x) front has));
    }

-- ---- the search

-- what is found once the search went on from the first `at` of it
pub record IsSearch (direct : List (List ClassId)) (class' : ClassId) (found : List ClassId) (marks : List Bool) (at : ℕ) : Type 0 where
  pub starts : Contains found class'
  pub only : All (IsUnder direct class') found
  pub closed : (k : ℕ) (b c : ClassId) → k < at → slice_get found k ≡ Some b → Contains (right_above direct b) c → Contains found c
  pub marked : AreMarked found marks
  pub long : length marks ≡ length direct
  pub ahead : at ≤ length found

pub none_marked : (n : ℕ) (c : ClassId) → (is_marked (replicate n false) c ≡ true) ↔ Contains [] c
none_marked n c = (
  (λ yes. absurd (true≢false (sym yes ∙ unmarked (cases_lt c.0 n)))),
  (λ has. absurd (let never = has.1 in omega arith)),
)
  where
    unmarked : (c.0 < n) ⊎ (n ≤ c.0) → get_or (replicate n false) c.0 false ≡ false
    unmarked (inl below) = get_or-replicate n c.0 false false below
    unmarked (inr past) = get_or_past (replicate n false) c.0 false (omega (arith, length-replicate n false))

pub start_marked : (marks : List Bool) (n : ℕ) → marks ≡ replicate n false → AreMarked [] marks
start_marked marks n is = subst (λ (xs : List Bool). AreMarked [] xs) (sym is) (record { exact = none_marked n })

pub search_start : (direct : List (List ClassId)) (c : ClassId) (old found : List ClassId) (marks : List Bool) → old ≡ [] → Grows old found (c ∷ []) → AreMarked found marks → length marks ≡ length direct → IsSearch direct c found marks 0
search_start direct c old found marks none grows marked long = record {
  starts = grows.all c (Contains-push [] c);
  only = subst (All (IsUnder direct c)) (sym (grows.is ∙ ap (λ xs. xs ++ grows.new) none)) (All-weaker (Contains (c ∷ [])) (IsUnder direct c) (λ x has. subst (λ (y : ClassId). IsUnder direct c y) (only_one c x has) (itself c)) grows.new grows.only);
  closed = λ k b d none at has. absurd (omega arith);
  marked = marked;
  long = long;
  ahead = omega arith;
}

pub under_more : (direct : List (List ClassId)) (c b d : ClassId) → IsUnder direct c b → Contains (right_above direct b) d → IsUnder direct c d
under_more direct c b d (itself same) has = above same d d has (itself d)
under_more direct c b d (above x e y first rest) has = above x e d first (under_more direct e y d rest has)

get_back : (xs ys : List ClassId) (k : ℕ) (x : ClassId) → k < length xs → slice_get (xs ++ ys) k ≡ Some x → slice_get xs k ≡ Some x
get_back [] ys k x within h = absurd (omega arith)
get_back (y ∷ xs) ys zero x within h = h
get_back (y ∷ xs) ys (suc k) x within h = get_back xs ys k x (omega arith) h

step_closed : (direct : List (List ClassId)) (c b : ClassId) (found more : List ClassId) (marks : List Bool) (at : ℕ) → IsSearch direct c found marks at → slice_get found at ≡ Some b → Grows found more (right_above direct b) → (k : ℕ) (x d : ClassId) → k < at + 1 → slice_get more k ≡ Some x → Contains (right_above direct x) d → Contains more d
step_closed direct c b found more marks at h here grows k x d within stands has =
    let inside = slice_get_within found at b here in
    let old : slice_get found k ≡ Some x = get_back found grows.new k x (omega (arith, inside)) (sym (ap (λ xs. slice_get xs k) grows.is) ∙ stands) in
    elim (cases_lt k at) [
      | inl below ↦ subst (λ (xs : List ClassId). Contains xs d) (sym grows.is) (Contains-append_left found grows.new d (h.closed k x d below old has))
      | inr past ↦
          let last : k ≡ at = omega arith in
          let equal : Some x ≡ Some b = sym old ∙ ap (slice_get found) last ∙ here in
          let same : x ≡ b = cc in
          grows.all d (subst (λ (y : ClassId). Contains (right_above direct y) d) same has)
    ]

-- the search goes on from one class more
pub search_step : (direct : List (List ClassId)) (c b : ClassId) (found more : List ClassId) (marks then_marks : List Bool) (at : ℕ) → IsSearch direct c found marks at → at < length found → b ≡ get_or found at b → Grows found more (right_above direct b) → AreMarked more then_marks → length then_marks ≡ length marks → IsSearch direct c more then_marks (at + 1)
search_step direct c b found more marks then_marks at h inside is grows marked long =
    let here : slice_get found at ≡ Some b = slice_get-get_or found at b inside ∙ ap Some (sym is) in
    let under : IsUnder direct c b = All-contains (IsUnder direct c) found b h.only (at, inside, sym is) in
    let new = All-weaker (Contains (right_above direct b)) (IsUnder direct c) (λ x has. under_more direct c b x under has) grows.new grows.only in
    record {
      starts = subst (λ (xs : List ClassId). Contains xs c) (sym grows.is) (Contains-append_left found grows.new c h.starts);
      only = subst (All (IsUnder direct c)) (sym grows.is) (All-append (IsUnder direct c) found grows.new h.only new);
      closed = step_closed direct c b found more marks at h here grows;
      marked = marked;
      long = long ∙ h.long;
      ahead = let longer = ap length grows.is ∙ length-append found grows.new in step_ahead at found more grows.new inside longer (grows.all);
    }
  where
    step_ahead : (at : ℕ) (found more new : List ClassId) → at < length found → length more ≡ length found + length new → ((x : ClassId) → Contains (right_above direct b) x → Contains more x) → at + 1 ≤ length more
    step_ahead at found more new inside longer all = omega arith

walk : (direct : List (List ClassId)) (found : List ClassId) → ((k : ℕ) (b d : ClassId) → slice_get found k ≡ Some b → Contains (right_above direct b) d → Contains found d) → (x d : ClassId) → IsUnder direct x d → Contains found x → Contains found d
walk direct found closed x d (itself same) has = has
walk direct found closed x d (above y e z first rest) has = walk direct found closed e z rest (closed has.0 y e (slice_get-get_or found has.0 y has.1 ∙ ap Some has.2) first)

-- a search that went on from all that it found has found all
pub search_done : (direct : List (List ClassId)) (c : ClassId) (found : List ClassId) (marks : List Bool) (at : ℕ) → IsSearch direct c found marks at → length found ≤ at → AreFound direct c found
search_done direct c found marks at h all = record {
  exact = λ d. (
    (λ has. All-contains (IsUnder direct c) found d h.only has),
    (λ under. walk direct found (λ k b e stands has. h.closed k b e (let inside = slice_get_within found k b stands in omega (arith, inside)) stands has) c d under h.starts),
  );
}

-- what is found has the marks
pub found_marked : (direct : List (List ClassId)) (c : ClassId) (found : List ClassId) (marks : List Bool) → AreFound direct c found → AreMarked found marks → AreAbove direct c marks
found_marked direct c found marks h marked = record {
  exact = λ d. ((λ set. (h.exact d).0 ((marked.exact d).0 set)), (λ under. (marked.exact d).1 ((h.exact d).1 under)));
}

-- ---- marks that are taken away

-- of these classes the first have no mark any more, and no other class has one
pub record AreCleared (found passed : List ClassId) (marks : List Bool) : Type 0 where
  pub only : (c : ClassId) → is_marked marks c ≡ true → Contains found c
  pub gone : (c : ClassId) → Contains passed c → is_marked marks c ≡ false

pub cleared_start : (found : List ClassId) (marks : List Bool) → AreMarked found marks → AreCleared found [] marks
cleared_start found marks h = record { only = λ c set. (h.exact c).0 set; gone = λ c has. absurd (let never = has.1 in omega arith) }

stays_unmarked : (old new : List Bool) (b : Bool) (x : ClassId) → is_marked new x ≡ b → (is_marked new x ≡ true → is_marked old x ≡ true) → is_marked old x ≡ false → b ≡ false
stays_unmarked old new false x is kept h = refl
stays_unmarked old new true x is kept h = absurd (true≢false (sym (kept is) ∙ h))

pub cleared_next : (found : List ClassId) (i : ℕ) (c : ClassId) (old new : List Bool) → i < length found → c ≡ get_or found i c → is_marked new c ≡ false → ((x : ClassId) → is_marked new x ≡ true → is_marked old x ≡ true) → AreCleared found (take i found) old → AreCleared found (take (i + 1) found) new
cleared_next found i c old new within at unset kept h = record {
  only = λ x set. h.only x (kept x set);
  gone = λ x has.
      let front : take (i + 1) found ≡ take i found ++ c ∷ [] = take_more found i c within ∙ ap (λ y. take i found ++ y ∷ []) (sym at) in
      ⊎_elim
      (λ before. stays_unmarked old new (is_marked new x) x refl (kept x) (h.gone x before))
      (λ last. subst (λ (y : ClassId). is_marked new y ≡ false) last unset)
      (Contains-push_cases (take i found) c x (subst (λ (xs : List ClassId). Contains xs x) front has));
}

pub cleared_all : (found : List ClassId) (i : ℕ) (marks : List Bool) → length found ≤ i → AreCleared found (take i found) marks → AreMarked [] marks
cleared_all found i marks all h = record {
  exact = λ c. (
    (λ set. absurd (true≢false (sym set ∙ h.gone c (subst (λ (xs : List ClassId). Contains xs c) (sym (take_all i found all)) (h.only c set))))),
    (λ has. absurd (let never = has.1 in omega arith)),
  );
}

pub unset_other : (marks : List Bool) (n : ℕ) (c : ClassId) → is_marked (set marks n false) c ≡ true → is_marked marks c ≡ true
unset_other marks n c set_true = elim (cases_eq c.0 n) [
  | inl same ↦ ⊎_elim
      (λ below. absurd (true≢false (sym set_true ∙ ap (λ k. get_or (set marks n false) k false) same ∙ get_or-set_same marks n false false below)))
      (λ past. absurd (true≢false (sym set_true ∙ get_or_past (set marks n false) c.0 false (omega (arith, length-set marks n false)))))
      (cases_lt n (length marks))
  | inr other ↦ sym (get_or-set_other marks n c.0 false false other) ∙ set_true
]

pub unset_same : (marks : List Bool) (n : ℕ) → n < length marks → get_or (set marks n false) n false ≡ false
unset_same marks n within = get_or-set_same marks n false false within

-- what stands right above a class has a place among the marks
pub above_within : (direct : List (List ClassId)) (b : ClassId) (n : ℕ) → AreKnown direct → length direct ≡ n → All (λ c. c.0 < n) (right_above direct b)
above_within direct b n known same = All-weaker (Contains (right_above direct b)) (λ (c : ClassId). c.0 < n) (λ c has. let within = known b c has in omega (arith, within, same)) (right_above direct b) (λ k d within. Contains-get_or (right_above direct b) k d within)
