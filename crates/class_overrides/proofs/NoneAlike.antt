-- A constructor, a constant and a private method are alike to no method, and so no class runs one for them.
use Rattle.std.proofs.Common.{◌≡◌, ◌∙◌, ap, refl, true≢false, Bool, true, false, cond, not, ◌&&◌, Option, Some, None, List, [], ◌∷◌, filter}
use Rattle.program_model.specs.declared.kinds.ClassId.{ClassId}
use Rattle.program_model.specs.declared.kinds.MethodId.{MethodId}
use Rattle.program_model.specs.declared.program.Method.{Method}
use Rattle.program_model.specs.declared.program.Program.{Program}
use Rattle.program_model.specs.Lookups.{method_at}
use Rattle.program_model.specs.Overrides.{are_types, carried_methods, inherited_methods, is_alike, is_alike_in, is_method_kind, is_static_kind, method_run, run_of}
use Rattle.std.specs.Str.{bytes_eq}

of_seven : (a b c d e f g : Bool) → (b && not e) ≡ false → (a && b && c && not d && not e && f && g) ≡ false
of_seven false b c d e f g h = refl
of_seven true false c d e f g h = refl
of_seven true true c d false f g h = absurd (true≢false h)
of_seven true true false d true f g h = refl
of_seven true true true true true f g h = refl
of_seven true true true false true f g h = refl

alike_to_none : (n : Method) (o : Option Method) → (is_method_kind n.kind && not n.is_private) ≡ false → is_alike_in n o ≡ false
alike_to_none n None h = refl
alike_to_none n (Some m) h =
    of_seven (is_method_kind m.kind) (is_method_kind n.kind) (not (is_static_kind m.kind && is_static_kind n.kind)) m.is_private n.is_private (bytes_eq m.name n.name) (are_types m.sig.params.items n.sig.params.items) h

none_passes : (f : MethodId → Bool) → ((m : MethodId) → f m ≡ false) → (ms : List MethodId) → filter f ms ≡ []
none_passes f h [] = refl
none_passes f h (m ∷ ms) = ap (λ b. cond b (m ∷ filter f ms) (filter f ms)) (h m) ∙ none_passes f h ms

pub no_run : (p : Program) (n : Method) (c : ClassId) → (is_method_kind n.kind && not n.is_private) ≡ false → method_run p n c ≡ None
no_run p n c h =
    let none : (m : MethodId) → is_alike p n m ≡ false = λ m. alike_to_none n (method_at p m) h in
    let inherited : inherited_methods p n c ≡ [] = none_passes (is_alike p n) none _ in
    let carried : carried_methods p n c ≡ [] = none_passes (is_alike p n) none _ in
    λ i. run_of p (inherited i) (carried i)
