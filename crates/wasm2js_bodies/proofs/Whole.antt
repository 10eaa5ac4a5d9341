-- The whole body.
use Rattle.std.proofs.Common.{◌≡◌, ℕ, Bool, false, List, [], ◌∷◌, ◌++◌, Option, Some, None, refl, ap, ◌∙◌}
use Rattle.std.specs.Prelude.{IsSome}
use Rattle.wasm_lang.specs.Instructions.{Instruction}
use Rattle.wasm_lang_valid.specs.Measures.{has_mul_div}
use Rattle.wasm_lang_valid.specs.Typing.{Context}
use Rattle.wasm_lang_exec.specs.Code.{Trees, tree_of}
use Rattle.wasm_run_flat.proofs.Standing.{tree_stands}
use Rattle.asm_lang.specs.Modules.{Stmt}
use Rattle.wasm2js_translation.specs.Bodies.{out, stmts_of, comes_to_end, closing, body_stmts}
use Rattle.wasm2js_bodies.specs.Walks.{IsInside}

inside_if : (body : List Instruction) (found : Option Trees) → has_mul_div body ≡ false → tree_of body ≡ found → IsSome found → IsInside body 0
inside_if body None translated is some = cc
inside_if body (Some tree) translated is some = record { targets = []; stands = (tree_stands body tree is).stands; translated = translated }

pub begins_inside : (body : List Instruction) → IsSome (tree_of body) → has_mul_div body ≡ false → IsInside body 0
begins_inside body some translated = inside_if body (tree_of body) translated refl some

pub closed : (bytes cells : ℕ) (c : Context) (code tree : Trees) (made all : List Stmt) (reached : Bool) → code ≡ tree
    → made ≡ stmts_of bytes cells c code (out c.returns ∷ []) 0 [] [] [] → reached ≡ comes_to_end code → all ≡ made ++ closing bytes cells c c.returns reached
    → all ≡ body_stmts bytes cells c tree
closed bytes cells c code tree made all reached is given there ended =
    ended ∙ ap (λ (b : Bool). made ++ closing bytes cells c c.returns b) there
    ∙ ap (λ (ss : List Stmt). ss ++ closing bytes cells c c.returns (comes_to_end code)) given
    ∙ ap (λ (x : Trees). stmts_of bytes cells c x (out c.returns ∷ []) 0 [] [] [] ++ closing bytes cells c c.returns (comes_to_end x)) is
