-- The types of trees of code, by the shapes of the instructions as they are spelled. A list of types is an operand stack, the top
-- first.
use Rattle.std.specs.Prelude.{◌≡◌, List, [], ◌∷◌, ◌++◌, None, Ok}
use Rattle.wasm_lang.specs.declared.types.ValType.{ValType}
use Rattle.wasm_lang.specs.declared.types.ValType.TheVariants.{I32}
use Rattle.wasm_lang.specs.Instructions as flat
use Rattle.wasm_lang.specs.Instructions.{Instruction}
use Rattle.wasm_lang_valid.specs.Typing.{Context, Shape, Acts, shape, late, listed, inside}
use Rattle.wasm_lang_exec.specs.Code.{unreachable, block, loop, if_block, br, br_if, br_table, return, call, call_indirect, plain, Trees, ε, ◌▹◌}

-- an instruction that opens no block takes some of the operands, and what is further is typed on what it leaves
pub record Steps (c : Context) (i : Instruction) (before : List ValType) (further : List ValType → Type 0) : Type 0 where
  pub form : Shape
  pub takes : List ValType
  pub gives : List ValType
  pub below : List ValType
  pub has_form : shape c i ≡ Ok form
  pub acts : Acts form takes gives
  pub keeps_rules : late c i ≡ Ok tt
  pub operands : before ≡ takes ++ below
  pub goes_on : further (gives ++ below)

-- code takes one list of types to another
abbrev pub IsTyped : Context → Trees → List ValType → List ValType → Type 0
IsTyped c ε before after = before ≡ after
IsTyped c (block r body ▹ code) before after = IsTyped (inside r c) body [] (listed r) × IsTyped c code (listed r ++ before) after
IsTyped c (loop r body ▹ code) before after = IsTyped (inside None c) body [] (listed r) × IsTyped c code (listed r ++ before) after
IsTyped c (if_block r first second ▹ code) before after =
    (below : List ValType) × (before ≡ I32 ∷ below) × IsTyped (inside r c) first [] (listed r) × IsTyped (inside r c) second [] (listed r) × IsTyped c code (listed r ++ below) after
IsTyped c (unreachable ▹ code) before after = Steps c flat.unreachable before (λ middle. IsTyped c code middle after)
IsTyped c (br l ▹ code) before after = Steps c (flat.br l) before (λ middle. IsTyped c code middle after)
IsTyped c (br_if l ▹ code) before after = Steps c (flat.br_if l) before (λ middle. IsTyped c code middle after)
IsTyped c (br_table ls d ▹ code) before after = Steps c (flat.br_table ls d) before (λ middle. IsTyped c code middle after)
IsTyped c (return ▹ code) before after = Steps c flat.return before (λ middle. IsTyped c code middle after)
IsTyped c (call f ▹ code) before after = Steps c (flat.call f) before (λ middle. IsTyped c code middle after)
IsTyped c (call_indirect t ▹ code) before after = Steps c (flat.call_indirect t) before (λ middle. IsTyped c code middle after)
IsTyped c (plain p ▹ code) before after = Steps c (flat.plain p) before (λ middle. IsTyped c code middle after)
