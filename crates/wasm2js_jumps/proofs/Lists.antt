-- Statements as lists and as sequences.
use Rattle.std.proofs.Common.{◌≡◌, Bool, false, List, [], ◌∷◌, length, Option, Some, None, refl, sym, ap, ◌∙◌}
use Rattle.std.specs.Prelude.{map}
use Rattle.std.proofs.lemmas.List.{length-reverse, length-map}
use Rattle.wasm_lang.specs.declared.types.ValType.TheVariants.{I32, I64}
use Rattle.asm_lang.specs.Modules.{Expr, if_else, Stmt, stmts}
use Rattle.asm_tree.specs.Views as views
use Rattle.wasm2js_translation.specs.Words as words
use Rattle.wasm2js_translation.specs.Words.{part_of}
use Rattle.wasm2js_translation.specs.Bodies as bodies
use Rattle.wasm2js_translation.specs.Bodies.{chosen, past, again, out}
use Rattle.wasm2js_jumps.specs.Aims.{aim_view, aims_view, gives_a_word}
use Rattle.wasm2js_jumps.specs.declared.aims.Aim.{Aim}

pub same_stmts : (ss : List Stmt) → views.stmts_in ss ≡ words.stmts_in ss
same_stmts [] = refl
same_stmts (s ∷ ss) = ap (stmts s) (same_stmts ss)

-- an `else` is written where something would stand behind it
pub chosen_else : (e : Expr) (first second : List Stmt) → (second ≡ [] → ⊥) → chosen e first second ≡ if_else e (part_of first) (part_of second)
chosen_else e first [] h = absurd (h refl)
chosen_else e first (s ∷ ss) h = refl

-- ---- only one aim gives a word

alone_gives : (ls : List bodies.Aim) → (length ls ≡ 1 → ⊥) → false ≡ gives_a_word ls
alone_gives [] h = refl
alone_gives (past n r ∷ ls) h = refl
alone_gives (again n ∷ ls) h = refl
alone_gives (out None ∷ ls) h = refl
alone_gives (out (Some I64) ∷ ls) h = refl
alone_gives (out (Some I32) ∷ []) h = absurd (h refl)
alone_gives (out (Some I32) ∷ l ∷ ls) h = refl

pub not_alone : (aims : List Aim) → (length aims ≡ 1 → ⊥) → false ≡ gives_a_word (aims_view aims)
not_alone aims h = alone_gives (aims_view aims) (λ e. h (sym (length-reverse (map aim_view aims) ∙ length-map aims aim_view) ∙ e))
