-- The objects that have some roots.
use Rattle.std.proofs.Common.{◌≡◌, ◌∙◌, ap, sym, refl, ℕ, zero, suc, ◌+◌, ◌<◌, ◌≤◌, get_or, filter, take, Bool, true, false, ◌&&◌, ◌||◌, nat_eq, Option, Some, None, List, [], ◌∷◌, ◌++◌, length, arith}
use Rattle.std.proofs.lemmas.Grind.{common_steps}
use Rattle.std.specs.Prelude.{nat_lt, if◌then◌else◌}
use Rattle.std.specs.List.{list_any}
use Rattle.ledger_state.specs.declared.object.Object.{Object}
use Rattle.ledger_state.specs.Contents.{HeapContents}
use Rattle.ledger_state.specs.Heaps.{has_number, is_reached, link_of, linked_by, object_at, root}
use Rattle.indexmap.specs.IndexSet.{insert_all, insert_key}
use Rattle.object_index.specs.declared.index.ObjectIndex.{ObjectIndex}
use Rattle.object_index.specs.FrameOwners.{list_at, lists_in}
use Rattle.object_index.specs.ObjectIndexes.{aliases_of, is_alias, is_free, is_indexed}
use Rattle.object_index.proofs.AliasLaws.{root_among}
use Rattle.object_index.proofs.IndexLaws.{alias_of}
use Rattle.heap_drafts.specs.declared.saved.SavedObject.{SavedObject}
use Rattle.heap_drafts.specs.Drafts.{HasNumbers, is_saved, numbers_rise}
use Rattle.draft_stages.specs.Stages.{AliasesAmong, AllWithRoots, IndexedRest, saved_numbers}

and_both : (a b : Bool) → a ≡ true → b ≡ true → (a && b) ≡ true
and_both true b e f = f
and_both false b e f = absurd (cc)

and_left : (a b : Bool) → (a && b) ≡ true → a ≡ true
and_left true b e = refl
and_left false b e = absurd (cc)

and_right : (a b : Bool) → (a && b) ≡ true → b ≡ true
and_right true b e = e
and_right false b e = absurd (cc)

or_true : (a : Bool) → (a || true) ≡ true
or_true true = refl
or_true false = refl

-- Numbers of saved objects

pub saved_has : (bs : List SavedObject) (k : ℕ) → has_number (saved_numbers bs) k ≡ is_saved bs k
saved_has [] k = refl
saved_has (b ∷ bs) k = ap (λ t. nat_eq b.number k || t) (saved_has bs k)

pub has_first : (ks js : List ℕ) (k : ℕ) → has_number ks k ≡ true → has_number (ks ++ js) k ≡ true
has_first [] js k e = absurd (cc)
has_first (n ∷ ks) js k e = go (nat_eq n k) refl e (has_first ks js k)
  where
    go : (b : Bool) → nat_eq n k ≡ b → (b || has_number ks k) ≡ true → (has_number ks k ≡ true → has_number (ks ++ js) k ≡ true) → (b || has_number (ks ++ js) k) ≡ true
    go true e any further = refl
    go false e any further = further any

pub has_second : (ks js : List ℕ) (k : ℕ) → has_number js k ≡ true → has_number (ks ++ js) k ≡ true
has_second [] js k e = e
has_second (n ∷ ks) js k e = ap (λ t. nat_eq n k || t) (has_second ks js k e) ∙ or_true (nat_eq n k)

-- Numbers that pass a test

rise_before : (j m : ℕ) (ks : List ℕ) → j < m → numbers_rise m ks ≡ true → numbers_rise j ks ≡ true
rise_before j m [] less e = refl
rise_before j m (n ∷ ks) less e =
    let first : nat_lt m n ≡ true = and_left (nat_lt m n) (numbers_rise n ks) e in
    let earlier : nat_lt j n ≡ true = grind (arith, common_steps, first, less) in
    and_both (nat_lt j n) (numbers_rise n ks) earlier (and_right (nat_lt m n) (numbers_rise n ks) e)

passed_rise : (test : ℕ → Bool) (j : ℕ) (ks : List ℕ) → numbers_rise j ks ≡ true → numbers_rise j (filter test ks) ≡ true
passed_rise test j [] e = refl
passed_rise test j (n ∷ ks) e = go (test n) (passed_rise test n ks (and_right (nat_lt j n) (numbers_rise n ks) e))
  where
    first : nat_lt j n ≡ true
    first = and_left (nat_lt j n) (numbers_rise n ks) e

    less : j < n
    less = grind (arith, common_steps, first)

    go : (b : Bool) → numbers_rise n (filter test ks) ≡ true → numbers_rise j (if b then n ∷ filter test ks else filter test ks) ≡ true
    go true rest = and_both (nat_lt j n) (numbers_rise n (filter test ks)) first rest
    go false rest = rise_before j n (filter test ks) less rest

passed_has : (test : ℕ → Bool) (ks : List ℕ) (k : ℕ) → has_number ks k ≡ true → test k ≡ true → has_number (filter test ks) k ≡ true
passed_has test [] k has passes = absurd (cc)
passed_has test (n ∷ ks) k has passes = go (nat_eq n k) refl has (test n) refl (λ h. passed_has test ks k h passes)
  where
    go : (b : Bool) → nat_eq n k ≡ b → (b || has_number ks k) ≡ true → (t : Bool) → test n ≡ t → (has_number ks k ≡ true → has_number (filter test ks) k ≡ true) → has_number (if t then n ∷ filter test ks else filter test ks) k ≡ true
    go true e any true at further = ap (λ u. u || has_number (filter test ks) k) e
    go true e any false at further =
        let same : n ≡ k = grind (arith, common_steps, e) in
        let bad : false ≡ true = sym at ∙ ap test same ∙ passes in
        absurd (cc)
    go false e any true at further = ap (λ u. nat_eq n k || u) (further any) ∙ or_true (nat_eq n k)
    go false e any false at further = further any

passed_only : (test : ℕ → Bool) (ks : List ℕ) (k : ℕ) → has_number (filter test ks) k ≡ true → test k ≡ true
passed_only test [] k has = absurd (cc)
passed_only test (n ∷ ks) k has = go (test n) refl has (passed_only test ks k)
  where
    here : (b : Bool) → nat_eq n k ≡ b → test n ≡ true → (b || has_number (filter test ks) k) ≡ true → (has_number (filter test ks) k ≡ true → test k ≡ true) → test k ≡ true
    here true e at any further = let same : n ≡ k = grind (arith, common_steps, e) in ap test (sym same) ∙ at
    here false e at any further = further any

    go : (t : Bool) → test n ≡ t → has_number (if t then n ∷ filter test ks else filter test ks) k ≡ true → (has_number (filter test ks) k ≡ true → test k ≡ true) → test k ≡ true
    go true at any further = here (nat_eq n k) refl at any further
    go false at any further = further any

-- Aliases of the first ones

-- what the index has for the first `n` of these is among them, and so are the numbers from which it began
pub record AliasesSoFar (index : ObjectIndex) (start ks : List ℕ) (n : ℕ) : Type 0 where
  pub kept : (k : ℕ) → has_number start k ≡ true → has_number ks k ≡ true
  pub closed : (r k : ℕ) → has_number (take n ks) r ≡ true → has_number (aliases_of index r) k ≡ true → has_number ks k ≡ true

pub aliases_start : (index : ObjectIndex) (ks : List ℕ) → AliasesSoFar index ks ks 0
aliases_start index ks = record { kept = λ k e. e; closed = λ r k has alias. absurd (none r has) }
  where
    none : (r : ℕ) → has_number (take 0 ks) r ≡ true → ⊥
    none r has = cc

taken_one : (xs ys : List ℕ) (i r d : ℕ) → i < length xs → has_number (take (suc i) (xs ++ ys)) r ≡ (has_number (take i xs) r || nat_eq (get_or xs i d) r)
taken_one [] ys i r d within = absurd (omega arith)
taken_one (x ∷ xs) ys zero r d within = alone (nat_eq x r)
  where
    alone : (a : Bool) → (a || false) ≡ a
    alone true = refl
    alone false = refl
taken_one (x ∷ xs) ys (suc i) r d within = ap (λ t. nat_eq x r || t) (taken_one xs ys i r d (omega arith)) ∙ assoc (nat_eq x r) (has_number (take i xs) r) (nat_eq (get_or xs i d) r)
  where
    assoc : (a b c : Bool) → (a || (b || c)) ≡ ((a || b) || c)
    assoc true b c = refl
    assoc false b c = refl

either : (a b : Bool) (P : Type 0) → (a ≡ true → P) → (b ≡ true → P) → (a || b) ≡ true → P
either true b P f g e = f refl
either false b P f g e = g e

-- Numbers that join others, each once

same_order : (j k : ℕ) → nat_eq j k ≡ true → nat_eq k j ≡ true
same_order j k e = grind (arith, common_steps, e)

has_last : (ks : List ℕ) (k : ℕ) → has_number (ks ++ k ∷ []) k ≡ true
has_last ks k = has_second ks (k ∷ []) k own
  where
    own : has_number (k ∷ []) k ≡ true
    own = let self : nat_eq k k ≡ true = grind (arith, common_steps) in ap (λ b. b || false) self

-- a number that is found from its side is there
found_has : (ks : List ℕ) (k : ℕ) → list_any (nat_eq k) ks ≡ true → has_number ks k ≡ true
found_has [] k e = absurd (cc)
found_has (n ∷ ks) k e = go (nat_eq k n) refl e (found_has ks k)
  where
    go : (b : Bool) → nat_eq k n ≡ b → (b || list_any (nat_eq k) ks) ≡ true → (list_any (nat_eq k) ks ≡ true → has_number ks k ≡ true) → (nat_eq n k || has_number ks k) ≡ true
    go true is any further = ap (λ b. b || has_number ks k) (same_order k n is)
    go false is any further = ap (λ b. nat_eq n k || b) (further any) ∙ or_true (nat_eq n k)

-- the others stand first, and the numbers are there
record Joined (ks xs js : List ℕ) : Type 0 where
  pub rest : List ℕ
  pub is : js ≡ ks ++ rest
  pub has : (k : ℕ) → has_number xs k ≡ true → has_number js k ≡ true

append_nil : (ks : List ℕ) → ks ++ [] ≡ ks
append_nil [] = refl
append_nil (k ∷ ks) = ap (λ js. k ∷ js) (append_nil ks)

append_both : (ks js is : List ℕ) → (ks ++ js) ++ is ≡ ks ++ (js ++ is)
append_both [] js is = refl
append_both (k ∷ ks) js is = ap (λ xs. k ∷ xs) (append_both ks js is)

-- one number
joined_one : (ks : List ℕ) (x : ℕ) → Joined ks (x ∷ []) (insert_key nat_eq ks x)
joined_one ks x = go (list_any (nat_eq x) ks) refl
  where
    own : (js : List ℕ) → has_number js x ≡ true → (k : ℕ) → has_number (x ∷ []) k ≡ true → has_number js k ≡ true
    own js has k e = here (nat_eq x k) refl e
      where
        here : (b : Bool) → nat_eq x k ≡ b → (b || false) ≡ true → has_number js k ≡ true
        here true is any = let same : x ≡ k = grind (arith, common_steps, is) in ap (has_number js) (sym same) ∙ has
        here false is any = absurd (cc)

    go : (b : Bool) → list_any (nat_eq x) ks ≡ b → Joined ks (x ∷ []) (if b then ks else ks ++ x ∷ [])
    go true is = record { rest = []; is = sym (append_nil ks); has = own ks (found_has ks x is) }
    go false is = record { rest = x ∷ []; is = refl; has = own (ks ++ x ∷ []) (has_last ks x) }

joined_all : (ks xs : List ℕ) → Joined ks xs (insert_all nat_eq ks xs)
joined_all ks [] = record { rest = []; is = sym (append_nil ks); has = λ k e. absurd (cc) }
joined_all ks (x ∷ xs) = go (joined_one ks x) (joined_all (insert_key nat_eq ks x) xs)
  where
    go : Joined ks (x ∷ []) (insert_key nat_eq ks x) → Joined (insert_key nat_eq ks x) xs (insert_all nat_eq ks (x ∷ xs)) → Joined ks (x ∷ xs) (insert_all nat_eq ks (x ∷ xs))
    go one all = record {
      rest = one.rest ++ all.rest;
      is = all.is ∙ ap (λ js. js ++ all.rest) one.is ∙ append_both ks one.rest all.rest;
      has = λ k e.
          either (nat_eq x k) (has_number xs k) (has_number (insert_all nat_eq ks (x ∷ xs)) k ≡ true)
          (λ is. ap (λ js. has_number js k) all.is ∙ has_first (insert_key nat_eq ks x) all.rest k (one.has k (ap (λ b. b || false) is)))
          (all.has k) e;
    }

-- the numbers that join are there, and those that were there
pub joined_has : (ks xs js : List ℕ) → js ≡ insert_all nat_eq ks xs → (k : ℕ) → has_number xs k ≡ true → has_number js k ≡ true
joined_has ks xs js is k e = ap (λ is'. has_number is' k) is ∙ (joined_all ks xs).has k e

pub aliases_next : (index : ObjectIndex) (start ks new list : List ℕ) (i at d : ℕ) → i < length ks → at ≡ get_or ks i d → list ≡ aliases_of index at → new ≡ insert_all nat_eq ks list → AliasesSoFar index start ks i → AliasesSoFar index start new (i + 1)
aliases_next index start ks new list i at d within is aliases joined so = go (joined_all ks list)
  where
    go : Joined ks list (insert_all nat_eq ks list) → AliasesSoFar index start new (i + 1)
    go all = record {
      kept = λ k e. ap (λ js. has_number js k) (joined ∙ all.is) ∙ has_first ks all.rest k (so.kept k e);
      closed = λ r k has alias.
          let n : suc i ≡ i + 1 = omega arith in
          either (has_number (take i ks) r) (nat_eq (get_or ks i d) r) (has_number new k ≡ true)
          (λ e. ap (λ js. has_number js k) (joined ∙ all.is) ∙ has_first ks all.rest k (so.closed r k e alias))
          (λ e. let same : r ≡ at = grind (arith, common_steps, e, is) in ap (λ js. has_number js k) joined ∙ all.has k (ap (λ js. has_number js k) aliases ∙ ap (λ m. has_number (aliases_of index m) k) (sym same) ∙ alias))
          (sym (taken_one ks all.rest i r d within) ∙ (λ j. has_number (take (n j) (sym (joined ∙ all.is) j)) r) ∙ has);
    }

take_past : (n : ℕ) (xs : List ℕ) → length xs ≤ n → take n xs ≡ xs
take_past zero [] low = refl
take_past zero (x ∷ xs) low = absurd (omega arith)
take_past (suc n) [] low = refl
take_past (suc n) (x ∷ xs) low = ap (λ ys. x ∷ ys) (take_past n xs (omega arith))

pub aliases_all : (index : ObjectIndex) (start ks : List ℕ) (n : ℕ) → length ks ≤ n → AliasesSoFar index start ks n → AliasesAmong index ks
aliases_all index start ks n past so r k has alias = so.closed r k (ap (λ js. has_number js r) (take_past n ks past) ∙ has) alias

-- All that have one of the roots

alias_one : (index : ObjectIndex) (k r : ℕ) (x : Object) → is_indexed index k x ≡ true → linked_by x.link ≡ Some r → has_number (aliases_of index r) k ≡ true
alias_one index k r x indexed link =
    let lists : List (List ℕ) = lists_in index.aliases.items in
    let all : (nat_lt r k && (is_free x.owner && has_number (list_at lists r) k)) ≡ true = ap (λ l. is_alias lists x.owner l k) (sym link) ∙ alias_of index k x indexed in
    let rest : (is_free x.owner && has_number (list_at lists r) k) ≡ true = and_right (nat_lt r k) (is_free x.owner && has_number (list_at lists r) k) all in
    and_right (is_free x.owner) (has_number (list_at lists r) k) rest

-- what is linked to one of these is among them, where the index knows of all others
links_among : (h : HeapContents) (index : ObjectIndex) (bs : List SavedObject) (ks : List ℕ) → IndexedRest index bs h → ((k : ℕ) → is_saved bs k ≡ true → has_number ks k ≡ true) → AliasesAmong index ks → (k r : ℕ) → link_of (object_at h k) ≡ Some r → has_number ks r ≡ true → has_number ks k ≡ true
links_among h index bs ks indexed saved closed k r link has = go (object_at h k) refl (is_saved bs k) refl
  where
    go : (o : Option Object) → object_at h k ≡ o → (b : Bool) → is_saved bs k ≡ b → has_number ks k ≡ true
    go o found true e = saved k e
    go None found false e = absurd (let none : link_of None ≡ Some r = ap link_of (sym found) ∙ link in cc)
    go (Some x) found false e = closed r k has (alias_one index k r x (indexed k x found e) (ap link_of (sym found) ∙ link))

pub with_roots : (h : HeapContents) (index : ObjectIndex) (bs : List SavedObject) (roots ks once found : List ℕ) → IndexedRest index bs h → ((k : ℕ) → has_number roots k ≡ true → has_number ks k ≡ true) → ((k : ℕ) → is_saved bs k ≡ true → has_number ks k ≡ true) → AliasesAmong index ks → numbers_rise 0 once ≡ true → HasNumbers ks once → found ≡ filter (is_reached h roots) once → AllWithRoots h roots found
with_roots h index bs roots ks once found indexed first saved closed rise has is = record {
  rise = ap (numbers_rise 0) is ∙ passed_rise (is_reached h roots) 0 once rise;
  all = λ k x there reached.
      ap (λ js. has_number js k) is
      ∙ passed_has (is_reached h roots) once k (has k (above k x there) (root_among h (has_number ks) k (links_among h index bs ks indexed saved closed) (first (root h k) reached))) reached;
  only = λ k e. passed_only (is_reached h roots) once k (sym (ap (λ js. has_number js k) is) ∙ e);
}
  where
    above : (k : ℕ) (x : Object) → object_at h k ≡ Some x → 0 < k
    above zero x there = absurd (cc)
    above (suc i) x there = omega arith
