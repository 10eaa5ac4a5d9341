-- Contexts with the same locals and globals give instructions the same code.
use Rattle.std.proofs.Common.{◌≡◌, ℕ, List, refl, ap}
use Rattle.std.specs.Prelude.{slice_get}
use Rattle.wasm_lang.specs.declared.types.ValType.{ValType}
use Rattle.wasm_lang.specs.declared.types.GlobalType.{GlobalType}
use Rattle.wasm_lang.specs.Instructions as flat
use Rattle.wasm_lang.specs.Instructions.{Instruction, Plain, nop, drop_operand, select, local_get, local_set, local_tee, global_get, global_set, load, store, memory_size, memory_copy, memory_fill, const32, const64, eqz32, eqz64, rel32, rel64, un32, un64, bin32, bin64, wrap, extend_s, extend_u, sign_extend}
use Rattle.wasm_lang_valid.specs.Typing.{Context}
use Rattle.wasm2js_translation.specs.Pairs.{simples, local_pair, global_pair, operand_pair}
use Rattle.wasm2js_translation.specs.Delays.{Delayed}
use Rattle.wasm2js_translation.specs.Actions.{actions, actions_amid, under, moved_if, kind_in}
use Rattle.wasm2js_actions.specs.Scopes.{instruction_actions}

pub same_actions : (bytes : ℕ) (c d : Context) (p : Plain) (b : ℕ) (s : List ValType) → c.locals ≡ d.locals → c.globals ≡ d.globals → actions bytes c p b s ≡ actions bytes d p b s
same_actions bytes c d nop b s l g = refl
same_actions bytes c d drop_operand b s l g = refl
same_actions bytes c d select b s l g = refl
same_actions bytes c d (local_get x) b s l g = ap (λ (ts : List ValType). simples (moved_if (slice_get ts x) (local_pair x) (operand_pair (under 0 b s)))) l
same_actions bytes c d (local_set x) b s l g = ap (λ (ts : List ValType). simples (moved_if (slice_get ts x) (operand_pair (under 1 b s)) (local_pair x))) l
same_actions bytes c d (local_tee x) b s l g = ap (λ (ts : List ValType). simples (moved_if (slice_get ts x) (operand_pair (under 1 b s)) (local_pair x))) l
same_actions bytes c d (global_get x) b s l g = ap (λ (gs : List GlobalType). simples (moved_if (kind_in (slice_get gs x)) (global_pair x) (operand_pair (under 0 b s)))) g
same_actions bytes c d (global_set x) b s l g = ap (λ (gs : List GlobalType). simples (moved_if (kind_in (slice_get gs x)) (operand_pair (under 1 b s)) (global_pair x))) g
same_actions bytes c d (load op align offset) b s l g = refl
same_actions bytes c d (store op align offset) b s l g = refl
same_actions bytes c d memory_size b s l g = refl
same_actions bytes c d memory_copy b s l g = refl
same_actions bytes c d memory_fill b s l g = refl
same_actions bytes c d (const32 n) b s l g = refl
same_actions bytes c d (const64 n) b s l g = refl
same_actions bytes c d eqz32 b s l g = refl
same_actions bytes c d eqz64 b s l g = refl
same_actions bytes c d (rel32 op) b s l g = refl
same_actions bytes c d (rel64 op) b s l g = refl
same_actions bytes c d (un32 op) b s l g = refl
same_actions bytes c d (un64 op) b s l g = refl
same_actions bytes c d (bin32 op) b s l g = refl
same_actions bytes c d (bin64 op) b s l g = refl
same_actions bytes c d wrap b s l g = refl
same_actions bytes c d extend_s b s l g = refl
same_actions bytes c d extend_u b s l g = refl
same_actions bytes c d (sign_extend wide bits) b s l g = refl

-- where the same words wait
same_amid : (bytes : ℕ) (c d : Context) (ds : List Delayed) (p : Plain) (b : ℕ) (s : List ValType) → c.locals ≡ d.locals → c.globals ≡ d.globals → actions_amid bytes c ds p b s ≡ actions_amid bytes d ds p b s
same_amid bytes c d ds (bin64 op) b s l g = refl
same_amid bytes c d ds p b s l g = same_actions bytes c d p b s l g

pub same_instruction : (bytes : ℕ) (c d : Context) (ds : List Delayed) (i : Instruction) (b : ℕ) (s : List ValType) → c.locals ≡ d.locals → c.globals ≡ d.globals → instruction_actions bytes c ds i b s ≡ instruction_actions bytes d ds i b s
same_instruction bytes c d ds flat.unreachable b s l g = refl
same_instruction bytes c d ds (flat.block r) b s l g = refl
same_instruction bytes c d ds (flat.loop r) b s l g = refl
same_instruction bytes c d ds (flat.if_block r) b s l g = refl
same_instruction bytes c d ds flat.else_mark b s l g = refl
same_instruction bytes c d ds flat.end_mark b s l g = refl
same_instruction bytes c d ds (flat.br k) b s l g = refl
same_instruction bytes c d ds (flat.br_if k) b s l g = refl
same_instruction bytes c d ds (flat.br_table ks k) b s l g = refl
same_instruction bytes c d ds flat.return b s l g = refl
same_instruction bytes c d ds (flat.call f) b s l g = refl
same_instruction bytes c d ds (flat.call_indirect t) b s l g = refl
same_instruction bytes c d ds (flat.plain p) b s l g = same_amid bytes c d ds p b s l g
