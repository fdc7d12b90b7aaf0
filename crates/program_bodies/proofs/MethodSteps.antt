-- One method more.
use Rattle.std.proofs.Common.{◌≡◌, ◌∙◌, sym, ap, refl, arith, ℕ, ◌+◌, Option, List, [], ◌∷◌, ◌++◌, length}
use Rattle.program_model.specs.declared.kinds.BodyId.{BodyId}
use Rattle.program_model.specs.declared.program.Method.{Method}
use Rattle.program_model.specs.declared.tree.Body.{Body}
use Rattle.program_bodies.specs.ProgramBodies.{body_number, methods_from, with_body}

one_method_more : (bodies : List Body) (first : ℕ) (ms : List Method) (m : Method) → methods_from bodies first (ms ++ m ∷ []) ≡ methods_from bodies first ms ++ with_body (body_number bodies (first + length ms)) m ∷ []
one_method_more bodies first [] m = let none : first + 0 ≡ first = omega arith in ap (λ n. with_body (body_number bodies n) m ∷ []) (sym none)
one_method_more bodies first (x ∷ ms) m =
    let next : first + 1 + length ms ≡ first + length (x ∷ ms) = omega arith in
    ap (λ rest. with_body (body_number bodies first) x ∷ rest) (one_method_more bodies (first + 1) ms m ∙ ap (λ n. methods_from bodies (first + 1) ms ++ with_body (body_number bodies n) m ∷ []) next)

pub count_of_methods : (bodies : List Body) (first : ℕ) (ms : List Method) → length (methods_from bodies first ms) ≡ length ms
count_of_methods bodies first [] = refl
count_of_methods bodies first (m ∷ ms) = let rest = count_of_methods bodies (first + 1) ms in omega (arith, rest)

pub method_step : (bodies : List Body) (ms : List Method) (m : Method) (made next : List Method) (count : ℕ) (b : Option BodyId) (x : Method) → made ≡ methods_from bodies 0 ms → count ≡ length made → b ≡ body_number bodies count → x ≡ with_body b m → next ≡ made ++ x ∷ [] → next ≡ methods_from bodies 0 (ms ++ m ∷ [])
method_step bodies ms m made next count b x before counted number at is =
    let long : length (methods_from bodies 0 ms) ≡ length ms = count_of_methods bodies 0 ms in
    let same : length made ≡ length (methods_from bodies 0 ms) = ap length before in
    let here : count ≡ 0 + length ms = omega (arith, long, same, counted) in
    is
    ∙ ap (λ front. front ++ x ∷ []) before
    ∙ ap (λ (y : Method). methods_from bodies 0 ms ++ y ∷ []) (at ∙ ap (λ (n : Option BodyId). with_body n m) (number ∙ ap (body_number bodies) here))
    ∙ sym (one_method_more bodies 0 ms m)
