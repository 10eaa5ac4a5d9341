-- Indices: their forms, and the code that leaves where their element begins.
use Rattle.std.specs.Prelude.{◌≡◌, ℕ, List, true}
use Rattle.wasm_lang_exec.specs.Code.{Trees}
use Rattle.sem_words.specs.declared.js_value.JsOp.TheVariants.{Sar}
use Rattle.asm_lang.specs.Modules.{Expr, lit, binary}
use Rattle.asm_tree.specs.Views.{expr_view}
use Rattle.asm_lang_valid.specs.Typing.{Scope, named}
use Rattle.asm2wasm_translation.specs.Values as code
use Rattle.asm2wasm_emit_values.specs.declared.forms.IndexForm.{IndexForm}
use Rattle.asm2wasm_emit_values.specs.declared.forms.IndexForm.TheVariants.{Literal, Shifted, Other}

-- at depth d, of an index of the view of this name, where the heap has `size` bytes
abbrev pub index_code : (size : ℕ) → Scope → (d : ℕ) → List ℕ → Expr → Trees
index_code size c d n i = code.place_code (code.exponent_in (named c n)) i (code.expr_code size c true d i) (code.left_code size c d i)

-- the code of another index is the expression's
abbrev pub HasForm : Expr → IndexForm → Type 0
HasForm i (Literal z) = i ≡ lit z
HasForm i (Shifted e) = (r : Expr) × (i ≡ binary Sar (expr_view e.now) r)
HasForm i Other = (k : ℕ) (whole left : Trees) → code.place_code k i whole left ≡ whole
