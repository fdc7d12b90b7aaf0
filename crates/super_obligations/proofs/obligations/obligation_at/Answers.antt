-- The class with this number, and its super types.
use Rattle.std.proofs.Common.{◌∙◌, sym, ap, subst, arith, ◌<◌, length, map, None, Option}
use Rattle.class_order.specs.Cases.{IsLeast}
use Rattle.class_order.specs.Declarations.{declaration_of}
use Rattle.class_headers.specs.SuperTypes.{supers_of}
use Rattle.class_headers.specs.declared.supers.Supers.{Supers}
use Rattle.program_model.specs.declared.kinds.ClassId.{ClassId}
use Rattle.super_obligations.specs.Obligations.{IsObligationOf}
use Rattle.super_obligations.proofs.ObligationLemmas.{declaration_at, least_at, no_super_class, supers_at}
use Rattle.super_obligations.proofs.obligations.obligation_at.Goals as goal

pub returns-in-None-clause-least : goal.returns-in-None-clause-least
returns-in-None-clause-least c =
    let order = map declaration_of c.args.order.now in
    let owns = c.args.sets.now.owns.now in
    let supers = c.args.sets.now.supers.now in
    let n = c.args.number in
    let d = c.index-order-number.result in
    let s = c.index-sets-number.result in
    let within = c.requires.within in
    let wide = c.requires.wide in
    let inside : n < length supers = omega arith in
    least_at order owns (map supers_of supers) n (declaration_of d) (supers_of s) None
    (declaration_at c.args.order.now n d within c.index-order-number.is) (supers_at supers n s inside c.index-sets-number.is)
    (no_super_class order owns (map supers_of supers) (declaration_of d) s.super_class (ap (λ (x : Supers). x.super_class) c.index-sets-number.is ∙ c.in-None.is))

pub returns-in_ok-found-in-Some-clause-least : goal.returns-in_ok-found-in-Some-clause-least
returns-in_ok-found-in-Some-clause-least c =
    let order = map declaration_of c.args.order.now in
    let owns = c.args.sets.now.owns.now in
    let supers = c.args.sets.now.supers.now in
    let n = c.args.number in
    let d = c.index-order-number.result in
    let s = c.index-sets-number.result in
    let within = c.requires.within in
    let wide = c.requires.wide in
    let inside : n < length supers = omega arith in
    let P : Option ClassId → Type 0 = λ o. IsLeast (IsObligationOf order owns (map supers_of supers) (declaration_of d) o) c.in_ok-found-in-Some.found in
    least_at order owns (map supers_of supers) n (declaration_of d) (supers_of s) c.in_ok-found-in-Some.found
    (declaration_at c.args.order.now n d within c.index-order-number.is) (supers_at supers n s inside c.index-sets-number.is)
    (subst P (sym (ap (λ (x : Supers). x.super_class) c.index-sets-number.is ∙ c.in-Some.is)) c.in_ok-found-in-Some.ensures.least)
