-- What the code of one step does.
use Rattle.std.specs.Prelude.{ℕ, Bool, List}
use Rattle.wasm_lang.specs.declared.types.ValType.{ValType}
use Rattle.wasm_lang.specs.Instructions.{Instruction}
use Rattle.asm_lang.specs.Modules.{Stmt}
use Rattle.wasm2js_translation.specs.Bodies.{Aim}
use Rattle.wasm2js_build.specs.Growing.{Held}
use Rattle.wasm2js_operands.specs.Scopes.{context_in}
use Rattle.wasm2js_bodies.specs.Walks.{GoesOn, IsOver}
use Rattle.wasm2js_bodies.specs.declared.singles.Walk.{Walk}
use Rattle.wasm2js_bodies.specs.declared.singles.Next.{Next}
use Rattle.wasm2js_bodies.specs.declared.singles.Next.TheVariants.{At, Over}

abbrev pub Ends : Bool → (w : Walk) (body : List Instruction) (at : ℕ) (ls : List Aim) (b : ℕ) (ts : List ValType) (ds : Held) (before after : List Stmt) → Type 0
Ends reached w body at ls b ts ds before after = IsOver w.sizes.bytes w.sizes.cells (context_in w.scope.now) body at reached ls b ts ds before after

abbrev pub IsStep : Next → (w : Walk) (body : List Instruction) (at : ℕ) (ls : List Aim) (b : ℕ) (ts us : List ValType) (ds es : Held) (before after : List Stmt) → Type 0
IsStep (At place) w body at ls b ts us ds es before after = GoesOn w.sizes.bytes w.sizes.cells (context_in w.scope.now) body at place ls b ts us ds es before after
IsStep (Over reached) w body at ls b ts us ds es before after = Ends reached w body at ls b ts ds before after
