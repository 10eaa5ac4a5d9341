-- The pass over a body goes over typed code as the types say, and what it counts of one part of a body bounds what it counts of another.
use Rattle.std.specs.Prelude.{Bool, true, ◌≡◌, ℕ, ◌+◌, ◌≤◌, ◌<◌, length, slice_get, List, [], ◌∷◌, ◌++◌, Option, Some, Ok}
use Rattle.wasm_lang.specs.declared.types.ValType.{ValType}
use Rattle.wasm_lang.specs.Instructions.{Instruction}
use Rattle.wasm_lang.specs.Limits.{levels}
use Rattle.wasm_lang.specs.Modules.{FunctionBody, WasmModule}
use Rattle.wasm_lang_valid.specs.Validity.{body_context}
use Rattle.wasm_lang_valid.specs.Typing.{Context, Typed, IsValid, listed, Shape, Leaves, Acts}
use Rattle.wasm_lang_valid.specs.State.{Level, around, known, acted, closes, steps, at_start}
use Rattle.wasm_lang_valid.specs.Measures.{standing, peak, measures_of}
use Rattle.wasm_lang_exec.specs.Code.{Trees, tree_of}
use Rattle.wasm_laws_sound.specs.Trees.{IsTyped}
use Rattle.wasm_laws_trees.specs.Spelled.{tree_levels}
use Rattle.wasm_laws_widths.specs.Depth.{depth, wide_depth, names}

-- the pass goes over the code in the innermost of these blocks, and leaves the outer ones as they are; where the code leaves a block's
-- result, the block may be closed
pub record Passes (base : Context) (l : Level) (ls : List Level) (code : List Instruction) (after : List ValType) : Type 0 where
  pub last : Level
  pub goes_on : steps base (l ∷ ls) code ≡ Ok (last ∷ ls)
  pub same_opening : last.opening ≡ l.opening
  pub same_result : last.result ≡ l.result
  pub closes : (r : Option ValType) → after ≡ listed r → closes r last.endless last.operands ≡ Ok tt

-- from a block whose operands have the types that the code takes, whether or not its stack is open below
abbrev pub TypedCodePasses : Type 0
TypedCodePasses =
    (base c : Context) (code : List Instruction) (before after : List ValType) → Typed c code before after
    → (l : Level) (ls : List Level) → around base (l ∷ ls) ≡ c → l.operands ≡ known before → Passes base l ls code after

-- what stands in the further code stands in the whole
abbrev pub PeakIsKept : Type 0
PeakIsKept =
    (base : Context) (code rest : List Instruction) (ls next : List Level) → steps base ls code ≡ Ok next → peak base next rest ≤ peak base ls (code ++ rest)

-- what stands before an instruction counts
abbrev pub PeakIsAbove : Type 0
PeakIsAbove = (base : Context) (i : Instruction) (code : List Instruction) (ls : List Level) → standing ls ≤ peak base ls (i ∷ code)

-- an instruction of this shape has code after it that is reached
abbrev pub ComesBack : Shape → Type 0
ComesBack (Leaves takes) = ⊥
ComesBack _ = Unit {0}

-- where the types of all operands are known, those of what such an instruction leaves are too
abbrev pub OperandsStayKnown : Type 0
OperandsStayKnown =
    (s : Shape) (takes gives below : List ValType) (endless : Bool) → Acts s takes gives → ComesBack s
    → acted s endless (known (takes ++ below)) ≡ Ok (endless, known (gives ++ below))

-- operands of a valid body stand no deeper in what is reached than the pass counts
abbrev pub DepthIsWithin : Type 0
DepthIsWithin =
    (base : Context) (code : List Instruction) (trees : Trees) → IsValid base code → tree_of code ≡ Some trees
    → depth (around base (at_start base.returns)) trees 0 [] ≤ peak base (at_start base.returns) code

-- a wide operand is one of them
abbrev pub WideIsWithin : Type 0
WideIsWithin = (c : Context) (code : Trees) (b : ℕ) (ts : List ValType) → wide_depth c code b ts ≤ depth c code b ts

-- what typed code names is a local
abbrev pub NamedLocalsExist : Type 0
NamedLocalsExist = (c : Context) (code : Trees) (before after : List ValType) (x : ℕ) → IsTyped c code before after → names x code ≡ true → x < length c.locals

-- blocks lie no deeper in the tree of an expression than its levels
abbrev pub LevelsAreWithin : Type 0
LevelsAreWithin = (code : List Instruction) (trees : Trees) → tree_of code ≡ Some trees → tree_levels trees ≤ levels code

-- what is counted of a module is enough for this body
pub record IsWithin (m : WasmModule) (i : ℕ) (body : FunctionBody) (trees : Trees) : Type 0 where
  pub levels : tree_levels trees ≤ (measures_of m).levels
  pub slots : length (body_context m i body).locals + depth (around (body_context m i body) (at_start (body_context m i body).returns)) trees 0 [] ≤ (measures_of m).slots

abbrev pub BodiesAreWithin : Type 0
BodiesAreWithin =
    (m : WasmModule) (i : ℕ) (body : FunctionBody) (trees : Trees) → slice_get m.bodies i ≡ Some body → IsValid (body_context m i body) body.code → tree_of body.code ≡ Some trees
    → IsWithin m i body trees
