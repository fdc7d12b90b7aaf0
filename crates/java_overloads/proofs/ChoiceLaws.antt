-- The choice is the rule of the most specific method.
use Rattle.std.proofs.Common.{◌≡◌, ◌∙◌, ap, sym, subst, refl, Bool, true, false, ◌&&◌, Option, Some, None, List, [], ◌∷◌, Contains}
use Rattle.std.specs.List.{find}
use Rattle.std.specs.Option.{option_or}
use Rattle.program_model.specs.declared.kinds.MethodId.{MethodId}
use Rattle.program_model.specs.declared.kinds.VType.{VType}
use Rattle.program_model.specs.declared.program.Program.{Program}
use Rattle.program_model.specs.Lookups.{method_at}
use Rattle.java_overloads.specs.Overloads.{applicable, choice_among, choice_in, choice_of, gives_under, is_most_specific, is_narrower, is_preferred, most_specific, preferred, takes, throws_least, throws_under}
use Rattle.java_overloads.specs.MostSpecific.{IsApplicable, IsChoice, IsMeant, IsMostSpecific, IsPreferred, ThrowsLeast}
use Rattle.class_members.proofs.Elements.{contains-first, contains-none, each-has, each-of, filter-among, filter-has, find-among, find-none}

applicable-has : (p : Program) (cs : List MethodId) (args : List VType) (m : MethodId) → IsApplicable p cs args m → Contains (applicable p cs args) m
applicable-has p cs args m h = filter-has (λ m. takes p args (method_at p m)) cs m h.among h.taken

applicable-among : (p : Program) (cs : List MethodId) (args : List VType) (m : MethodId) → Contains (applicable p cs args) m → IsApplicable p cs args m
applicable-among p cs args m h = let both = filter-among (λ m. takes p args (method_at p m)) cs m h in record { among = both.0; taken = both.1 }

specific-has : (p : Program) (cs : List MethodId) (args : List VType) (m : MethodId) → IsMostSpecific p cs args m → Contains (most_specific p (applicable p cs args)) m
specific-has p cs args m h =
    filter-has (is_most_specific p (applicable p cs args)) (applicable p cs args) m (applicable-has p cs args m h.is_applicable)
    (each-of (λ n. is_narrower p (method_at p m) (method_at p n)) (applicable p cs args) (λ n c. h.narrowest n (applicable-among p cs args n c)))

specific-among : (p : Program) (cs : List MethodId) (args : List VType) (m : MethodId) → Contains (most_specific p (applicable p cs args)) m → IsMostSpecific p cs args m
specific-among p cs args m h =
    let both = filter-among (is_most_specific p (applicable p cs args)) (applicable p cs args) m h in
    record {
      is_applicable = applicable-among p cs args m both.0;
      narrowest = λ n a. each-has (λ n. is_narrower p (method_at p m) (method_at p n)) (applicable p cs args) both.1 n (applicable-has p cs args n a);
    }

both_true : (a b : Bool) → (a && b) ≡ true → (a ≡ true) × (b ≡ true)
both_true true b h = (refl, h)
both_true false b h = cc

true_both : (a b : Bool) → a ≡ true → b ≡ true → (a && b) ≡ true
true_both true b h k = k
true_both false b h k = cc

-- one of the methods that is preferred, and that throws least where one of those does
pub record IsBest (p : Program) (all : List MethodId) (m : MethodId) : Type 0 where
  pub among : Contains all m
  pub preferred : is_preferred p all m ≡ true
  pub least : (n : MethodId) → Contains all n → is_preferred p all n ≡ true → throws_least p all n ≡ true → throws_least p all m ≡ true

pub preferred_is_best : (p : Program) (all : List MethodId) (m : MethodId) → preferred p all ≡ Some m → IsBest p all m
preferred_is_best p all m h = by (find (λ m. is_preferred p all m && throws_least p all m) all) refl h
  where
    by : (o : Option MethodId) → find (λ m. is_preferred p all m && throws_least p all m) all ≡ o → option_or o (find (is_preferred p all) all) ≡ Some m → IsBest p all m
    by (Some x) is same =
        let found = find-among (λ m. is_preferred p all m && throws_least p all m) all m (is ∙ same) in
        let both = both_true (is_preferred p all m) (throws_least p all m) found.1 in
        record { among = found.0; preferred = both.0; least = λ n c q l. both.1 }
    by None is first =
        let found = find-among (is_preferred p all) all m first in
        record { among = found.0; preferred = found.1; least = λ n c q l. absurd (find-none (λ m. is_preferred p all m && throws_least p all m) all is n c (true_both (is_preferred p all n) (throws_least p all n) q l)) }

none_preferred : (p : Program) (all : List MethodId) → preferred p all ≡ None → find (is_preferred p all) all ≡ None
none_preferred p all h = by (find (λ m. is_preferred p all m && throws_least p all m) all) h
  where
    by : (o : Option MethodId) → option_or o (find (is_preferred p all) all) ≡ None → find (is_preferred p all) all ≡ None
    by (Some x) same = cc
    by None first = first

is_preferred_of : (p : Program) (cs : List MethodId) (args : List VType) (m : MethodId) → IsPreferred p cs args m → is_preferred p (most_specific p (applicable p cs args)) m ≡ true
is_preferred_of p cs args m is =
    each-of (λ n. gives_under p (method_at p m) (method_at p n)) (most_specific p (applicable p cs args)) (λ n c. is.least_result n (specific-among p cs args n c))

least_of : (p : Program) (cs : List MethodId) (args : List VType) (m : MethodId) → ThrowsLeast p cs args m → throws_least p (most_specific p (applicable p cs args)) m ≡ true
least_of p cs args m is =
    each-of (λ n. throws_under p (method_at p m) (method_at p n)) (most_specific p (applicable p cs args)) (λ n c. is n (specific-among p cs args n c))

preferred-among : (p : Program) (cs : List MethodId) (args : List VType) (m : MethodId) → preferred p (most_specific p (applicable p cs args)) ≡ Some m → IsMeant p cs args m
preferred-among p cs args m h =
    let all : List MethodId = most_specific p (applicable p cs args) in
    let best = preferred_is_best p all m h in
    record {
      is_preferred = record {
        is_most_specific = specific-among p cs args m best.among;
        least_result = λ n s. each-has (λ n. gives_under p (method_at p m) (method_at p n)) all best.preferred n (specific-has p cs args n s);
      };
      throws_least = λ n q l k s. each-has (λ n. throws_under p (method_at p m) (method_at p n)) all (best.least n (specific-has p cs args n q.is_most_specific) (is_preferred_of p cs args n q) (least_of p cs args n l)) k (specific-has p cs args k s);
    }

preferred-none : (p : Program) (cs : List MethodId) (args : List VType) → preferred p (most_specific p (applicable p cs args)) ≡ None → (m : MethodId) → IsPreferred p cs args m → ⊥
preferred-none p cs args h m is =
    let all : List MethodId = most_specific p (applicable p cs args) in
    find-none (is_preferred p all) all (none_preferred p all h) m (specific-has p cs args m is.is_most_specific) (is_preferred_of p cs args m is)

choice_of_found : (p : Program) (cs : List MethodId) (args : List VType) (o : Option MethodId) → ((m : MethodId) × IsApplicable p cs args m) → preferred p (most_specific p (applicable p cs args)) ≡ o → IsChoice p cs args (choice_in o)
choice_of_found p cs args None some h = (some, preferred-none p cs args h)
choice_of_found p cs args (Some m) some h = preferred-among p cs args m h

choice_of_applicable : (p : Program) (cs : List MethodId) (args : List VType) (all : List MethodId) → applicable p cs args ≡ all → IsChoice p cs args (choice_among p all)
choice_of_applicable p cs args [] h = λ m a. contains-none m (subst (λ (l : List MethodId). Contains l m) h (applicable-has p cs args m a))
choice_of_applicable p cs args (m ∷ ms) h =
    choice_of_found p cs args (preferred p (most_specific p (m ∷ ms)))
    (m, applicable-among p cs args m (subst (λ (l : List MethodId). Contains l m) (sym h) (contains-first m ms)))
    (ap (λ l. preferred p (most_specific p l)) h)

pub choice_is_choice : (p : Program) (cs : List MethodId) (args : List VType) → IsChoice p cs args (choice_of p cs args)
choice_is_choice p cs args = choice_of_applicable p cs args (applicable p cs args) refl
