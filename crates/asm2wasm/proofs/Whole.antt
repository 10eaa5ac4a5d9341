-- Bodies of functions, and narrow code by functions.
use Rattle.std.proofs.Common.{◌≡◌, ℕ, zero, suc, ◌-◌, ◌<◌, max, replicate, List, [], ◌∷◌, ◌++◌, length, map, get_or, ap, ◌∙◌, arith}
use Rattle.wasm_lang.specs.declared.types.ValType.{ValType}
use Rattle.wasm_lang.specs.declared.types.ValType.TheVariants.{I32}
use Rattle.wasm_lang.specs.Instructions.{Instruction, end_mark}
use Rattle.wasm_lang.specs.Modules.{FunctionBody}
use Rattle.wasm_laws_trees.specs.Spelled.{flat, closed, reach}
use Rattle.asm_lang.specs.Modules.{Module}
use Rattle.asm_lang_valid.specs.Typing.{Scope}
use Rattle.asm_tree.specs.declared.tree.Function.{Function}
use Rattle.asm_tree.specs.Views.{function_view}
use Rattle.asm2wasm_translation.specs.Numbers.{first_scratch}
use Rattle.asm2wasm_translation.specs.Bodies.{function_code}
use Rattle.asm2wasm_emit_switches.specs.Reach.{farthest, ReachIsFarthest}
use Rattle.asm2wasm.specs.Narrow.{IsNarrowFunction, AreNarrow}

pub narrow_at : (m : Module) (size : ℕ) (fs : List Function) (i : ℕ) (d : Function) → i < length fs → AreNarrow m size (map function_view fs) → IsNarrowFunction m size (function_view (get_or fs i d))
narrow_at m size [] i d lt h = absurd (omega arith)
narrow_at m size (f ∷ fs) zero d lt h = h.0
narrow_at m size (f ∷ fs) (suc i) d lt h = narrow_at m size fs i d (omega arith) h.1

abbrev body : List ValType → List Instruction → FunctionBody
body locals code = record { locals = locals; code = code }

pub body_is : (size : ℕ) (c : Scope) (locals : List ValType) (n : ℕ) (before after : List Instruction) → ReachIsFarthest → before ≡ flat (function_code size c)
    → n ≡ max (first_scratch c.within) (farthest before) - length c.within.params → locals ≡ replicate n I32 → after ≡ before ++ end_mark ∷ []
    → body locals after ≡ body (replicate (max (first_scratch c.within) (reach (function_code size c)) - length c.within.params) I32) (closed (function_code size c))
body_is size c locals n before after reaches is many ints ends =
    let far : farthest before ≡ reach (function_code size c) = ap farthest is ∙ reaches (function_code size c) in
    let count : n ≡ max (first_scratch c.within) (reach (function_code size c)) - length c.within.params =
    many ∙ ap (λ r. max (first_scratch c.within) r - length c.within.params) far in
    ap (λ l. body l after) (ints ∙ ap (λ k. replicate k I32) count)
    ∙ ap (body (replicate (max (first_scratch c.within) (reach (function_code size c)) - length c.within.params) I32)) (ends ∙ ap (λ is. is ++ end_mark ∷ []) is)
