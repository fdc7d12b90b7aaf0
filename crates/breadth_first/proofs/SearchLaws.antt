-- A search, first in, first out, finds what is reached, each by a shortest walk.
use Rattle.std.proofs.Common.{◌≡◌, sym, ap, refl, subst, arith, ℕ, ◌<◌, ◌≤◌, inl, inr, zero, suc, Some, None, List, [], ◌∷◌, ◌++◌, length, length-append, append_assoc, ◌∙◌}
use Rattle.std.specs.Prelude.{slice_get}
use Rattle.std.proofs.lemmas.Bool.{cases_lt}
use Rattle.breadth_first.specs.Walks.{IsWalk}
use Rattle.breadth_first.specs.Searches.{Extends, HasStarts, IsAt, IsChain, IsSearch, IsShortest, IsSource, Source, Stands, rank}
use Rattle.breadth_first.proofs.ListLaws.{append_none, at_append, at_place, at_push, at_same, at_within}

module _ {S : Type 0} (starts : S → Type 0) (leads : ℕ → S → S → Type 0) where
  -- nothing is found yet
  pub search_none : IsSearch starts leads [] [] 0 0
  search_none = record {
    long = refl;
    traced = λ k s x here there. absurd (let inside = at_within [] k s here in omega (arith, inside));
    ordered = λ i j x y le here there. absurd (let inside = at_within [] i x here in omega (arith, inside));
    near = λ k x here. absurd (let inside = at_within [] k x here in omega (arith, inside));
    closed = λ k below b s label here led. absurd (omega arith);
  }

  source_grows : (found : List S) (more : List S) (k : ℕ) (s : S) (x : Source) → IsSource starts leads found k s x → IsSource starts leads (found ++ more) k s x
  source_grows found more k s None h = h
  source_grows found more k s (Some x) h = (h.0, (h.1.0, (at_append found more x.0 h.0 h.1.1.0, h.1.1.1)))

  added_traced : (found : List S) (sources : List Source) (done top : ℕ) (s : S) (x : Source) → IsSearch starts leads found sources done top
      → IsSource starts leads found (length found) s x → (k : ℕ) (t : S) (y : Source) → IsAt (found ++ s ∷ []) k t → IsAt (sources ++ x ∷ []) k y → IsSource starts leads (found ++ s ∷ []) k t y
  added_traced found sources done top s x h source k t y here there =
      elim (at_push found s k t here) [
        | inl old ↦ elim (at_push sources x k y there) [
          | inl before ↦ source_grows found (s ∷ []) k t y (h.traced k t y old before)
          | inr last ↦ absurd (let inside = at_within found k t old in let long = h.long in let place = last.0 in omega (arith, inside, long, place))
        ]
        | inr new ↦ elim (at_push sources x k y there) [
          | inl before ↦ absurd (let inside = at_within sources k y before in let long = h.long in let place = new.0 in omega (arith, inside, long, place))
          | inr last ↦
              let one : IsSource starts leads (found ++ s ∷ []) (length found) s x = source_grows found (s ∷ []) (length found) s x source in
              let two = subst (λ (z : S). IsSource starts leads (found ++ s ∷ []) (length found) z x) new.1 one in
              let three = subst (λ (n : ℕ). IsSource starts leads (found ++ s ∷ []) n t x) (sym new.0) two in
              subst (λ (z : Source). IsSource starts leads (found ++ s ∷ []) k t z) last.1 three
        ]
      ]

  added_ordered : (found : List S) (sources : List Source) (done top : ℕ) (x : Source) → IsSearch starts leads found sources done top → rank x ≡ top
      → (i j : ℕ) (y z : Source) → i ≤ j → IsAt (sources ++ x ∷ []) i y → IsAt (sources ++ x ∷ []) j z → rank y ≤ rank z
  added_ordered found sources done top x h last i j y z le here there =
      elim (at_push sources x j z there) [
        | inl old ↦ elim (at_push sources x i y here) [
          | inl before ↦ h.ordered i j y z le before old
          | inr new ↦ absurd (let inside = at_within sources j z old in let place = new.0 in omega (arith, inside, place))
        ]
        | inr new ↦ elim (at_push sources x i y here) [
          | inl before ↦ let low = h.near i y before in let same : rank x ≡ rank z = ap rank new.1 in omega (arith, low, same, last)
          | inr first ↦ let same : rank x ≡ rank z = ap rank new.1 in let other : rank x ≡ rank y = ap rank first.1 in omega (arith, same, other)
        ]
      ]

  added_near : (found : List S) (sources : List Source) (done top : ℕ) (x : Source) → IsSearch starts leads found sources done top → rank x ≡ top
      → (k : ℕ) (y : Source) → IsAt (sources ++ x ∷ []) k y → rank y ≤ top
  added_near found sources done top x h last k y here =
      elim (at_push sources x k y here) [
        | inl old ↦ h.near k y old
        | inr new ↦ let same : rank x ≡ rank y = ap rank new.1 in omega (arith, same, last)
      ]

  added_closed : (found : List S) (sources : List Source) (done top : ℕ) (s : S) (x : Source) → IsSearch starts leads found sources done top → done ≤ length found
      → (k : ℕ) → k < done → (b t : S) (label : ℕ) → IsAt (found ++ s ∷ []) k b → leads label b t
      → (j : ℕ) × ((y : Source) × (IsAt (found ++ s ∷ []) j t × (IsAt (sources ++ x ∷ []) j y × (rank y ≤ suc k))))
  added_closed found sources done top s x h ahead k below b t label here led =
      elim (at_push found s k b here) [
        | inl old ↦
            let one = h.closed k below b t label old led in
            (one.0, (one.1.0, (at_append found (s ∷ []) one.0 t one.1.1.0, (at_append sources (x ∷ []) one.0 one.1.0 one.1.1.1.0, one.1.1.1.1))))
        | inr new ↦ absurd (let place = new.0 in omega (arith, place))
      ]

  -- one value more is found, by a source of the highest rank
  pub search_add : (found : List S) (sources : List Source) (done top : ℕ) (s : S) (x : Source) → IsSearch starts leads found sources done top → done ≤ length found
      → IsSource starts leads found (length found) s x → rank x ≡ top → IsSearch starts leads (found ++ s ∷ []) (sources ++ x ∷ []) done top
  search_add found sources done top s x h ahead source last = record {
    long = let long = h.long in let one = length-append found (s ∷ []) in let two = length-append sources (x ∷ []) in omega (arith, long, one, two);
    traced = added_traced found sources done top s x h source;
    ordered = added_ordered found sources done top x h last;
    near = added_near found sources done top x h last;
    closed = added_closed found sources done top s x h ahead;
  }

  source_later : (found more : List S) (k n : ℕ) (s : S) (x : Source) → k ≤ n → IsSource starts leads found k s x → IsSource starts leads (found ++ more) n s x
  source_later found more k n s None le h = h
  source_later found more k n s (Some x) le h = (h.0, (let lower = h.1.0 in omega (arith, lower, le), (at_append found more x.0 h.0 h.1.1.0, h.1.1.1)))

  -- values more are found, by sources of the highest rank
  added_all : (found part : List S) (sources given : List Source) (done top : ℕ) (new : List S) (new_sources : List Source) → IsSearch starts leads (found ++ part) (sources ++ given) done top → done ≤ length found → length new_sources ≡ length new
      → ((k : ℕ) (s : S) (x : Source) → IsAt new k s → IsAt new_sources k x → IsSource starts leads found (length found) s x × (rank x ≡ top))
      → IsSearch starts leads ((found ++ part) ++ new) ((sources ++ given) ++ new_sources) done top
  added_all found part sources given done top [] [] h ahead long each =
      subst (λ (xs : List S). IsSearch starts leads xs ((sources ++ given) ++ []) done top) (append_none (found ++ part))
      (subst (λ (ys : List Source). IsSearch starts leads (found ++ part) ys done top) (append_none (sources ++ given)) h)
  added_all found part sources given done top [] (x ∷ new_sources) h ahead long each = absurd (omega (arith, long))
  added_all found part sources given done top (s ∷ new) [] h ahead long each = absurd (omega (arith, long))
  added_all found part sources given done top (s ∷ new) (x ∷ new_sources) h ahead long each =
      let one = each 0 s x refl refl in
      let size = length-append found part in
      let source : IsSource starts leads (found ++ part) (length (found ++ part)) s x = source_later found part (length found) (length (found ++ part)) s x (omega (arith, size)) one.0 in
      let added = search_add (found ++ part) (sources ++ given) done top s x h (omega (arith, size, ahead)) source one.1 in
      let moved = subst (λ (xs : List S). IsSearch starts leads xs ((sources ++ given) ++ x ∷ []) done top) (append_assoc found part (s ∷ [])) added in
      let both = subst (λ (ys : List Source). IsSearch starts leads (found ++ (part ++ s ∷ [])) ys done top) (append_assoc sources given (x ∷ [])) moved in
      let rest = added_all found (part ++ s ∷ []) sources (given ++ x ∷ []) done top new new_sources both ahead (omega (arith, long)) (λ k t y here there. each (suc k) t y here there) in
      let first : (found ++ (part ++ s ∷ [])) ++ new ≡ (found ++ part) ++ s ∷ new = ap (λ xs. xs ++ new) (sym (append_assoc found part (s ∷ []))) ∙ append_assoc (found ++ part) (s ∷ []) new in
      let second : (sources ++ (given ++ x ∷ [])) ++ new_sources ≡ (sources ++ given) ++ x ∷ new_sources = ap (λ xs. xs ++ new_sources) (sym (append_assoc sources given (x ∷ []))) ∙ append_assoc (sources ++ given) (x ∷ []) new_sources in
      subst (λ (xs : List S). IsSearch starts leads xs ((sources ++ given) ++ x ∷ new_sources) done top) first
      (subst (λ (ys : List Source). IsSearch starts leads ((found ++ (part ++ s ∷ [])) ++ new) ys done top) second rest)

  -- the search came to values, by sources of the highest rank
  pub search_extend : (found : List S) (sources : List Source) (done top : ℕ) (points : List (S × Source)) (more : List S) (more_sources : List Source)
      → IsSearch starts leads found sources done top → done ≤ length found
      → ((s : S) (x : Source) → Stands points (s, x) → IsSource starts leads found (length found) s x × (rank x ≡ top))
      → Extends found sources points more more_sources → IsSearch starts leads more more_sources done top
  search_extend found sources done top points more more_sources h ahead good extends =
      let none = subst (λ (xs : List S). IsSearch starts leads xs (sources ++ []) done top) (append_none found) (subst (λ (ys : List Source). IsSearch starts leads found ys done top) (append_none sources) h) in
      let all = added_all found [] sources [] done top extends.new extends.new_sources none ahead extends.long (λ k s x here there. good s x (extends.each k s x here there)) in
      let first : (found ++ []) ++ extends.new ≡ more = ap (λ xs. xs ++ extends.new) (sym (append_none found)) ∙ sym extends.is in
      let second : (sources ++ []) ++ extends.new_sources ≡ more_sources = ap (λ xs. xs ++ extends.new_sources) (sym (append_none sources)) ∙ sym extends.is_sources in
      subst (λ (xs : List S). IsSearch starts leads xs more_sources done top) first
      (subst (λ (ys : List Source). IsSearch starts leads ((found ++ []) ++ extends.new) ys done top) second all)

  -- the starts stay
  pub starts_extend : (found : List S) (sources : List Source) (points : List (S × Source)) (more : List S) (more_sources : List Source)
      → HasStarts starts leads found sources → Extends found sources points more more_sources → HasStarts starts leads more more_sources
  starts_extend found sources points more more_sources h extends t start =
      let one = h t start in (
        one.0,
        (
          ap (λ xs. slice_get xs one.0) extends.is ∙ at_append found extends.new one.0 t one.1.0,
          ap (λ xs. slice_get xs one.0) extends.is_sources ∙ at_append sources extends.new_sources one.0 None one.1.1,
        ),
      )

  source_at : (found : List S) (sources : List Source) (done top j : ℕ) (s : S) → IsSearch starts leads found sources done top → IsAt found j s → (x : Source) × IsAt sources j x
  source_at found sources done top j s h here =
      at_place sources j (let inside = at_within found j s here in let long = h.long in omega (arith, inside, long))

  no_source : (sources : List Source) (k : ℕ) (x : Source) → IsAt sources k x → rank x ≤ 0 → IsAt sources k None
  no_source sources k None here small = here
  no_source sources k (Some x) here small = absurd (omega (arith, small))

  -- the starts stand in what was found before the search goes on
  pub search_starts : (found : List S) (sources : List Source) → IsSearch starts leads found sources 0 0 → ((s : S) → starts s → Stands found s) → HasStarts starts leads found sources
  search_starts found sources h all s start =
      let place = all s start in
      let x = source_at found sources 0 0 place.0 s h place.1 in
      (place.0, (place.1, no_source sources place.0 x.0 x.1 (h.near place.0 x.0 x.1)))

  -- the starts stay
  pub starts_add : (found : List S) (sources : List Source) (s : S) (x : Source) → HasStarts starts leads found sources → HasStarts starts leads (found ++ s ∷ []) (sources ++ x ∷ [])
  starts_add found sources s x h t start =
      let at = h t start in
      (at.0, (at_append found (s ∷ []) at.0 t at.1.0, at_append sources (x ∷ []) at.0 None at.1.1))

  -- the search goes on from the next value: sources of a higher rank may come
  pub search_turn : (found : List S) (sources : List Source) (done top more : ℕ) → IsSearch starts leads found sources done top → top ≤ more → IsSearch starts leads found sources done more
  search_turn found sources done top more h le = record {
    long = h.long;
    traced = h.traced;
    ordered = h.ordered;
    near = λ k x here. let low = h.near k x here in omega (arith, low, le);
    closed = h.closed;
  }

  next_closed : (found : List S) (sources : List Source) (done : ℕ) (b : S) → IsSearch starts leads found sources done (suc done) → IsAt found done b
      → ((label : ℕ) (s : S) → leads label b s → Stands found s)
      → (k : ℕ) → k < suc done → (c s : S) (label : ℕ) → IsAt found k c → leads label c s
      → (j : ℕ) × ((x : Source) × (IsAt found j s × (IsAt sources j x × (rank x ≤ suc k))))
  next_closed found sources done b h here all k below c s label at led =
      elim (cases_lt k done) [
        | inl earlier ↦ h.closed k earlier c s label at led
        | inr late ↦
            let last : k ≡ done = omega (arith, below, late) in
            let there = subst (λ (n : ℕ). IsAt found n c) last at in
            let same : c ≡ b = at_same found done c b there here in
            let stood = all label s (subst (λ (z : S). leads label z s) same led) in
            let x = source_at found sources done (suc done) stood.0 s h stood.1 in
            (stood.0, (x.0, (stood.1, (x.1, (let low = h.near stood.0 x.0 x.1 in omega (arith, low, last))))))
      ]

  -- all that the next value leads to stands in what was found
  pub search_next : (found : List S) (sources : List Source) (done : ℕ) (b : S) → IsSearch starts leads found sources done (suc done) → IsAt found done b
      → ((label : ℕ) (s : S) → leads label b s → Stands found s) → IsSearch starts leads found sources (suc done) (suc done)
  search_next found sources done b h here all = record {
    long = h.long;
    traced = h.traced;
    ordered = h.ordered;
    near = h.near;
    closed = next_closed found sources done b h here all;
  }

  chain_by : (found : List S) (sources : List Source) (k : ℕ) (s : S) (x : Source) → IsAt sources k x → IsSource starts leads found k s x
      → ((i : ℕ) → i < k → (b : S) → IsAt found i b → (n : ℕ) × IsChain sources n i) → (n : ℕ) × IsChain sources n k
  chain_by found sources k s None here source before = (0, here)
  chain_by found sources k s (Some x) here source before =
      let one = before x.0 source.1.0 source.0 source.1.1.0 in
      (suc one.0, (x, (here, one.1)))

  pub chain_of : (found : List S) (sources : List Source) (done top : ℕ) → IsSearch starts leads found sources done top → (fuel k : ℕ) → k < fuel → (s : S) → IsAt found k s → (n : ℕ) × IsChain sources n k
  chain_of found sources done top h zero k small s here = absurd (omega arith)
  chain_of found sources done top h (suc fuel) k small s here =
      let x = source_at found sources done top k s h here in
      chain_by found sources k s x.0 x.1 (h.traced k s x.0 here x.1)
      (λ i lower b there. chain_of found sources done top h fuel i (omega (arith, lower, small)) b there)

  -- a value that was found earlier has no longer chain
  chain_ordered : (found : List S) (sources : List Source) (done top : ℕ) → IsSearch starts leads found sources done top → (n m i j : ℕ) → i ≤ j → IsChain sources n i → IsChain sources m j → n ≤ m
  chain_ordered found sources done top h zero m i j le first second = omega arith
  chain_ordered found sources done top h (suc n) zero i j le first second =
      absurd (let low = h.ordered i j (Some first.0) None le first.1.0 second in omega (arith, low))
  chain_ordered found sources done top h (suc n) (suc m) i j le first second =
      let low : suc first.0.0 ≤ suc second.0.0 = h.ordered i j (Some first.0) (Some second.0) le first.1.0 second.1.0 in
      let rest = chain_ordered found sources done top h n m first.0.0 second.0.0 (omega (arith, low)) first.1.1 second.1.1 in
      omega (arith, rest)

  pub chain_walk : (found : List S) (sources : List Source) (done top : ℕ) → IsSearch starts leads found sources done top → (k n : ℕ) (s : S) → IsAt found k s → IsChain sources n k → IsWalk starts leads n s
  chain_walk found sources done top h k zero s here chain = h.traced k s None here chain
  chain_walk found sources done top h k (suc n) s here chain =
      let source = h.traced k s (Some chain.0) here chain.1.0 in
      (source.0, (chain_walk found sources done top h chain.0.0 n source.0 source.1.1.0 chain.1.1, (chain.0.1, source.1.1.1)))

  chain_start : (sources : List Source) (n k : ℕ) → IsAt sources k None → IsChain sources n k → n ≤ 0
  chain_start sources zero k here chain = omega arith
  chain_start sources (suc n) k here chain = absurd (let never : None ≡ Some chain.0 = at_same sources k None (Some chain.0) here chain.1.0 in cc)

  walk_found : (found : List S) (sources : List Source) (top : ℕ) → IsSearch starts leads found sources (length found) top → HasStarts starts leads found sources
      → (m : ℕ) (s : S) → IsWalk starts leads m s → (k : ℕ) × (IsAt found k s × ((n : ℕ) → IsChain sources n k → n ≤ m))
  walk_found found sources top h starting zero s walk =
      let at = starting s walk in
      (at.0, (at.1.0, λ n chain. chain_start sources n at.0 at.1.1 chain))
  walk_found found sources top h starting (suc m) s walk =
      let before = walk_found found sources top h starting m walk.0 walk.1.0 in
      let inside = at_within found before.0 walk.0 before.1.0 in
      let one = h.closed before.0 inside walk.0 s walk.1.1.0 before.1.0 walk.1.1.1 in
      let known = chain_of found sources (length found) top h (suc before.0) before.0 (omega arith) walk.0 before.1.0 in
      (one.0, (one.1.1.0, near before.0 m one.0 one.1.0 one.1.1.1.0 one.1.1.1.1 known.0 known.1 (before.1.1 known.0 known.1)))
    where
      near : (i m j : ℕ) (x : Source) → IsAt sources j x → rank x ≤ suc i → (e : ℕ) → IsChain sources e i → e ≤ m → (n : ℕ) → IsChain sources n j → n ≤ suc m
      near i m j x here low e chain small zero other = omega arith
      near i m j x here low e chain small (suc n) other =
          let same : x ≡ Some other.0 = at_same sources j x (Some other.0) here other.1.0 in
          let rank_is : rank x ≡ suc other.0.0 = ap rank same in
          let rest = chain_ordered found sources (length found) top h n e other.0.0 i (omega (arith, rank_is, low)) other.1.1 chain in
          omega (arith, rest, small)

  -- a search that went on from all that it found
  pub search_done : (found : List S) (sources : List Source) (top : ℕ) → IsSearch starts leads found sources (length found) top → HasStarts starts leads found sources → IsShortest starts leads found sources
  search_done found sources top h starting = record {
    reached = chain_walk found sources (length found) top h;
    chained = λ k s here. chain_of found sources (length found) top h (suc k) k (omega arith) s here;
    least = walk_found found sources top h starting;
  }
