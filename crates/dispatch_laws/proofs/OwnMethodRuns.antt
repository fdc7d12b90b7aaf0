-- A class runs the method that it declares itself, where that is the only one alike to the named one and has a body.
use Rattle.std.proofs.Common.{◌≡◌, ◌∙◌, ap, refl, sym, subst, true≢false, arith, ℕ, zero, suc, ◌<◌, Bool, true, false, cond, Option, Some, None, List, ◌++◌, Contains, length}
use Rattle.std.specs.List.{filter, find, flat_map}
use Rattle.std.specs.Option.{is_some}
use Rattle.std.proofs.lemmas.List.Elements.{Contains-append_left}
use Rattle.std.proofs.lemmas.Option.{slice_get_within}
use Rattle.program_model.specs.declared.kinds.ClassId.{ClassId}
use Rattle.program_model.specs.declared.kinds.MethodId.{MethodId}
use Rattle.program_model.specs.declared.program.Class.{Class}
use Rattle.program_model.specs.declared.program.Method.{Method}
use Rattle.program_model.specs.declared.program.Program.{Program}
use Rattle.program_model.specs.Lookups.{class_at}
use Rattle.program_model.specs.Overrides.{carried_methods, chain_behind, chain_of, has_code, is_alike, method_run, methods_of, run_of, super_in}
use Rattle.agreement.proofs.Elements.{find-among, find-none}
use Rattle.agreement.proofs.Walks.{run_found, runs_found}
use Rattle.dispatch_laws.proofs.Lists.{found_first}

-- the methods that the class declares and that are alike to the named one are this one alone
abbrev pub IsOnly : Program → Method → ClassId → MethodId → Type 0
IsOnly p n c m = (r : MethodId) → Contains (methods_of p c) r → is_alike p n r ≡ true → r ≡ m

-- what the class declares stands first: it is found where no other method of the class passes the test
pub found_own : (test : MethodId → Bool) (own rest : List MethodId) (m : MethodId) → Contains own m → test m ≡ true → ((r : MethodId) → Contains own r → test r ≡ true → r ≡ m) → find test (own ++ rest) ≡ Some m
found_own test own rest m has passes only = by (find test (own ++ rest)) refl
  where
    by : (o : Option MethodId) → find test (own ++ rest) ≡ o → find test (own ++ rest) ≡ Some m
    by None is = absurd (find-none test (own ++ rest) is m (Contains-append_left own rest m has) passes)
    by (Some r) is =
        let among = find-among test (own ++ rest) r is in
        let first : Contains own r = found_first test own rest m r has passes is in
        is ∙ ap Some (only r first among.1)

first_found : (p : Program) (n : Method) (c : ClassId) (m : MethodId) (rest : List MethodId) → Contains (methods_of p c) m → is_alike p n m ≡ true → IsOnly p n c m → find (is_alike p n) (methods_of p c ++ rest) ≡ Some m
first_found p n c m rest has alike only = found_own (is_alike p n) (methods_of p c) rest m has alike only

-- it is run, where it has a body
pub own_run : (p : Program) (n : Method) (c : ClassId) (k : Class) (m : MethodId) → class_at p c ≡ Some k → Contains (methods_of p c) m → is_alike p n m ≡ true → IsOnly p n c m → method_run p n c ≡ cond (has_code p m) (Some m) None
own_run p n c k m at has alike only = by (length p.classes.items) refl
  where
    by : (count : ℕ) → length p.classes.items ≡ count → method_run p n c ≡ cond (has_code p m) (Some m) None
    by zero none =
        let below : c.0 < length p.classes.items = slice_get_within p.classes.items c.0 k at in
        absurd (omega (arith, below, none))
    by (suc j) some =
        let rest : List MethodId = flat_map (methods_of p) (chain_behind (super_in (class_at p c)) (chain_of p j)) in
        let Q : ℕ → Type 0 = λ count. run_of p (filter (is_alike p n) (flat_map (methods_of p) (chain_of p count c))) (carried_methods p n c) ≡ cond (has_code p m) (Some m) None in
        let counted : Q (suc j) =
        runs_found p (is_alike p n) (methods_of p c ++ rest) (carried_methods p n c) ∙ ap (λ o. run_found p o (carried_methods p n c)) (first_found p n c m rest has alike only) in
        subst Q (sym some) counted

run_if : (b : Bool) (m : MethodId) → is_some (cond b (Some m) None) ≡ true → b ≡ true
run_if true m h = refl
run_if false m h = absurd (true≢false (sym h))

-- what is run has a body
pub run_has_code : (p : Program) (n : Method) (c : ClassId) (m : MethodId) → method_run p n c ≡ cond (has_code p m) (Some m) None → is_some (method_run p n c) ≡ true → has_code p m ≡ true
run_has_code p n c m run some = run_if (has_code p m) m (sym (ap is_some run) ∙ some)
