-- The instruction at a place of a body, and its refusal.
use Rattle.std.proofs.Common.{◌≡◌, ℕ, ◌+◌, ◌<◌, max, List, ◌∷◌, length, get_or, map, drop, Some, sym, ap, ◌∙◌, arith}
use Rattle.std.specs.Prelude.{Result, Ok, Err, slice_get}
use Rattle.std.specs.Option.{option_map}
use Rattle.std.proofs.lemmas.List.{drop_more}
use Rattle.std.proofs.lemmas.Option.{slice_get-get_or, slice_get-map}
use Rattle.wasm_lang.specs.Instructions.{Instruction}
use Rattle.wasm_tree.specs.declared.instr.Instr.{Instr}
use Rattle.wasm_tree.specs.Views.{instr_of}
use Rattle.wasm_lang_valid.specs.declared.rule.Rule.{Rule}
use Rattle.wasm_lang_valid.specs.Measures.{standing, peak}
use Rattle.wasm_lang_valid.specs.State.{Level, step}
use Rattle.wasm_lang_valid.specs.Typing.{Context}
use Rattle.wasm_lang_valid.specs.Refusal.{Refuses}
use Rattle.wasm_validate_bodies.specs.declared.fault.Fault.{Fault}
use Rattle.wasm_validate_bodies.specs.declared.fault.Fault.TheVariants.{Broken, Memory}
use Rattle.wasm_validate_bodies.specs.Blocks.{FaultIs}
use Rattle.wasm_validate_bodies.specs.Bodies.{IsRefusal, refusal_of}

pub instr_at : (code : List Instr) (i : ℕ) (at : Instr) → at ≡ get_or code i at → i < length code → slice_get (map instr_of code) i ≡ Some (instr_of at)
instr_at code i at is h = slice_get-map instr_of code i ∙ ap (option_map instr_of) (slice_get-get_or code i at h ∙ ap Some (sym is))

pub is_refusal : {A : Type 0} (base : Context) (code : List Instruction) (i : ℕ) (s : Result A Rule) (fault : Fault) → ((rule : Rule) → s ≡ Err rule → Refuses base code i rule) → FaultIs fault s → IsRefusal base code (refusal_of fault i)
is_refusal base code i s (Broken rule) f h = f rule h
is_refusal base code i s Memory f h = tt

-- the instructions from a place on
pub instrs_from : (code : List Instr) (i : ℕ) (at : Instr) → at ≡ get_or code i at → i < length code → map instr_of (drop i code) ≡ instr_of at ∷ map instr_of (drop (i + 1) code)
instrs_from code i at is h = ap (map instr_of) (drop_more code i at h) ∙ ap (λ x. instr_of x ∷ map instr_of (drop (i + 1) code)) (sym is)

-- the operands that stand before one more instruction
pub peak_on : (base : Context) (most : ℕ) (ls next : List Level) (i : Instruction) (is : List Instruction) → step base ls i ≡ Ok next → max most (peak base ls (i ∷ is)) ≡ max (max most (standing ls)) (peak base next is)
peak_on base most ls next i is e = rw e (omega arith)
