-- Objects that are linked to others.
use Rattle.std.proofs.Common.{◌≡◌, ◌∙◌, ap, sym, refl, ℕ, zero, suc, ◌<◌, Bool, true, ◌&&◌, Option, Some, None, List, length, arith}
use Rattle.std.proofs.lemmas.Grind.{common_steps}
use Rattle.std.specs.Prelude.{nat_lt}
use Rattle.ledger_state.specs.declared.object.Object.{Object}
use Rattle.ledger_state.specs.Contents.{HeapContents}
use Rattle.ledger_state.specs.Heaps.{follow, has_number, link_of, linked_by, object_at, root, root_within}
use Rattle.frame_owners.specs.FrameOwners.{list_at, lists_in}
use Rattle.object_index.specs.declared.index.ObjectIndex.{ObjectIndex}
use Rattle.object_index.specs.ObjectIndexes.{Indexed, is_alias, is_free}
use Rattle.object_index.proofs.IndexLaws.{alias_of, first_true, second_true}

-- what the index says of an object `k` that is linked to `r`
pub record IsAlias (index : ObjectIndex) (x : Object) (r k : ℕ) : Type 0 where
  pub earlier : r < k
  pub free : is_free x.owner ≡ true
  pub there : has_number (list_at (lists_in index.aliases.items) r) k ≡ true

pub alias_there : (index : ObjectIndex) (h : HeapContents) (k r : ℕ) (x : Object) → Indexed index h → object_at h k ≡ Some x → linked_by x.link ≡ Some r → IsAlias index x r k
alias_there index h k r x indexed found link =
    let lists : List (List ℕ) = lists_in index.aliases.items in
    let all : (nat_lt r k && (is_free x.owner && has_number (list_at lists r) k)) ≡ true = ap (λ l. is_alias lists x.owner l k) (sym link) ∙ alias_of index k x (indexed k x found) in
    let low : nat_lt r k ≡ true = first_true (nat_lt r k) (is_free x.owner && has_number (list_at lists r) k) all in
    let rest : (is_free x.owner && has_number (list_at lists r) k) ≡ true = second_true (nat_lt r k) (is_free x.owner && has_number (list_at lists r) k) all in
    record {
      earlier = grind (arith, common_steps, low);
      free = first_true (is_free x.owner) (has_number (list_at lists r) k) rest;
      there = second_true (is_free x.owner) (has_number (list_at lists r) k) rest;
    }

-- the numbers have with each object those that are linked to it
abbrev pub HasAliases : HeapContents → (ℕ → Bool) → Type 0
HasAliases h among = (k r : ℕ) → link_of (object_at h k) ≡ Some r → among r ≡ true → among k ≡ true

-- so they have with a root all objects that lead to it
pub leads_among : (h : HeapContents) (among : ℕ → Bool) (n k : ℕ) → HasAliases h among → among (root_within n h k) ≡ true → among k ≡ true
leads_among h among zero k has e = e
leads_among h among (suc n) k has e = go (link_of (object_at h k)) refl (λ m. leads_among h among n m has) e
  where
    go : (l : Option ℕ) → link_of (object_at h k) ≡ l → ((m : ℕ) → among (root_within n h m) ≡ true → among m ≡ true) → among (follow (root_within n h) k l) ≡ true → among k ≡ true
    go None none further e = e
    go (Some r) link further e = has k r link (further r e)

pub root_among : (h : HeapContents) (among : ℕ → Bool) (k : ℕ) → HasAliases h among → among (root h k) ≡ true → among k ≡ true
root_among h among k has e = leads_among h among (length h.objects) k has e
