-- Where the blocks of a flat body end.
use Rattle.std.specs.Prelude.{ℕ, suc, List, [], ◌∷◌, drop}
use Rattle.wasm_lang.specs.Instructions.{Instruction, block, loop, if_block, else_mark, end_mark}
use Rattle.wasm_run_flat.specs.declared.body.Jump.{Jump}

abbrev pub tail_of : List Jump → List Jump
tail_of [] = []
tail_of (j ∷ js) = js

-- the second arm begins there
abbrev pub with_arm : ℕ → List Jump → List Jump
with_arm at [] = []
with_arm at (j ∷ js) = record j { other = at } ∷ js

-- where each open block ends, the innermost first, with one instruction more in front, which stands at `at`
abbrev pub closing : ℕ → Instruction → List Jump → List Jump
closing at (block r) js = tail_of js
closing at (loop r) js = tail_of js
closing at (if_block r) js = tail_of js
closing at else_mark js = with_arm (suc at) js
closing at end_mark js = record { past = suc at; other = at } ∷ js
closing at i js = js

-- .. with all the instructions that are left
abbrev pub closings : ℕ → List Instruction → List Jump
closings at [] = []
closings at (i ∷ is) = closing at i (closings (suc at) is)

abbrev pub first_jump : List Jump → Jump
first_jump [] = record { past = 0; other = 0 }
first_jump (j ∷ js) = j

-- for each place the end of the block that is innermost after it
abbrev pub jumps_from : ℕ → List Instruction → List Jump
jumps_from at [] = []
jumps_from at (i ∷ is) = first_jump (closings (suc at) is) ∷ jumps_from (suc at) is

abbrev pub jump_at : List Instruction → ℕ → Jump
jump_at body at = first_jump (closings (suc at) (drop (suc at) body))

-- past the end of the block that is opened there, or at an else of the one that it stands in
unfoldable pub past_end : List Instruction → ℕ → ℕ
past_end body at = (jump_at body at).past

-- for an if that is opened there, where its second arm begins: past its else, or else at its end
unfoldable pub other_arm : List Instruction → ℕ → ℕ
other_arm body at = (jump_at body at).other
