-- One body more.
use Rattle.std.proofs.Common.{◌≡◌, ℕ, suc, ◌+◌, ◌<◌, Bool, List, [], ◌∷◌, ◌++◌, length, map, drop, get_or, sym, ap, ◌∙◌, arith, append_assoc}
use Rattle.std.proofs.Math.Seq.{drop-cons}
use Rattle.wasm_lang.specs.Modules.{FunctionBody, WasmModule}
use Rattle.wasm_tree.specs.declared.module.Body.{Body}
use Rattle.wasm_tree.specs.Views.{body_of}
use Rattle.wasm_link_lang.specs.Pairs.{Pair}
use Rattle.wasm_link_sections.specs.Made.{body_made, bodies_made}

pub one_and_rest : (items : List Body) (i : ℕ) (b : Body) → i < length items → b ≡ get_or items i b → drop i items ≡ b ∷ drop (i + 1) items
one_and_rest items i b h is =
    let next : suc i ≡ i + 1 = omega arith in
    drop-cons items i b h ∙ ap (λ x. x ∷ drop (suc i) items) (sym is) ∙ ap (λ k. b ∷ drop k items) next

-- what is made so far, and what the rest becomes, are all, also after one body more
pub bodies_step : (w : Pair) (second : Bool) (m : WasmModule) (other : ℕ) (items : List Body) (i : ℕ) (b : Body) (all done now : List FunctionBody) (made : FunctionBody)
    → i < length items → b ≡ get_or items i b → made ≡ body_made w second m other i (body_of b) → now ≡ done ++ made ∷ []
    → all ≡ done ++ bodies_made w second m other i (map body_of (drop i items)) → all ≡ now ++ bodies_made w second m other (i + 1) (map body_of (drop (i + 1) items))
bodies_step w second m other items i b all done now made h is made_is now_is inv =
    let rest = map body_of (drop (i + 1) items) in
    let next : suc i ≡ i + 1 = omega arith in
    inv ∙ ap (λ l. done ++ bodies_made w second m other i (map body_of l)) (one_and_rest items i b h is)
    ∙ ap (λ x. done ++ x ∷ bodies_made w second m other (suc i) rest) (sym made_is)
    ∙ ap (λ k. done ++ made ∷ bodies_made w second m other k rest) next
    ∙ sym (append_assoc done (made ∷ []) (bodies_made w second m other (i + 1) rest))
    ∙ ap (λ l. l ++ bodies_made w second m other (i + 1) rest) (sym now_is)
