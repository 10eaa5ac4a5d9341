-- The modules of the rows, and what is valid in them.
use Rattle.std.proofs.Common.{◌≡◌, zero, suc, ◌<◌, false, List, [], ◌∷◌, Some, None, refl, arith}
use Rattle.std.proofs.lemmas.Bool.{ltb-true}
use Rattle.std.proofs.lemmas.List.Elements.{All-from_recursion}
use Rattle.std.specs.Char.{encode_utf8}
use Rattle.std.specs.Str.{is_utf8, chars}
use Rattle.std.specs.Prelude.{All, Ok, codes}
use Rattle.sem_words.specs.declared.word.Bin.{Bin}
use Rattle.sem_words.specs.declared.word.Bin.TheVariants.{Add, DivS}
use Rattle.wasm_lang.specs.declared.types.ValType.TheVariants.{I32}
use Rattle.wasm_lang.specs.declared.types.ExportKind.TheVariants as exports
use Rattle.wasm_lang.specs.declared.fault.Row.TheVariants.{Truncated}
use Rattle.wasm_lang.specs.Instructions.{Instruction, IsExpression, simple, empty, plain, local_get, bin32, end_mark}
use Rattle.wasm_lang.specs.Modules.{WasmModule}
use Rattle.wasm_lang.specs.Opcodes.{form_at}
use Rattle.wasm_lang.specs.ReadingCode.{after_opcode}
use Rattle.wasm_lang.specs.ReadingModule.{read_module}
use Rattle.wasm_lang.specs.Bytes.{IsFirstFault}
use Rattle.wasm_lang_valid.specs.declared.rule.Opening.TheVariants.{Straight}
use Rattle.wasm_lang_valid.specs.declared.rule.Rule.TheVariants.{MissingOperand}
use Rattle.wasm_lang_valid.specs.declared.section.Section.{Section}
use Rattle.wasm_lang_valid.specs.declared.section.Section.TheVariants as sections
use Rattle.wasm_lang_valid.specs.Typing.{typed_empty, typed_plain, fixed}
use Rattle.wasm_lang_valid.specs.Validity.{id, body_context, IsFineSection, IsValidModule}
use Rattle.wasm_lang_valid.proofs.Main.{refuses}
use Rattle.wasm_lang_valid.specs.Bytes.{IsValidBytes, IsInvalidBytes}
use Rattle.wasm_worked.specs.Rows as rows
use Rattle.wasm_worked.proofs.ReadBytes.{read_as, refused_as}

-- one function that takes two words and gives one, exported as f
abbrev pub of : List Instruction → WasmModule
of code = record {
  types = record { params = I32 ∷ I32 ∷ []; results = I32 ∷ [] } ∷ [];
  imports = [];
  functions = 0 ∷ [];
  tables = [];
  memories = [];
  globals = [];
  exports = record { name = codes "f"; kind = exports.Func 0 } ∷ [];
  start = None;
  elements = [];
  bodies = record { locals = []; code = code } ∷ [];
  segments = [];
}

abbrev pub operating : Bin → WasmModule
operating op = of (plain (local_get 0) ∷ plain (local_get 1) ∷ plain (bin32 op) ∷ end_mark ∷ [])

abbrev pub short : WasmModule
short = of (plain (local_get 0) ∷ plain (bin32 Add) ∷ end_mark ∷ [])

-- outside code each item is fine
outside_code : (code : List Instruction) (s : Section) → id s < 10 → IsFineSection (of code) s
outside_code code sections.Types h zero i = refl
outside_code code sections.Types h (suc n) i = absurd (omega (arith, i))
outside_code code sections.Imports h n i = absurd (omega (arith, i))
outside_code code sections.Functions h zero i = refl
outside_code code sections.Functions h (suc n) i = absurd (omega (arith, i))
outside_code code sections.Tables h n i = absurd (omega (arith, i))
outside_code code sections.Memories h n i = absurd (omega (arith, i))
outside_code code sections.Globals h n i = absurd (omega (arith, i))
outside_code code sections.Exports h zero i = refl
outside_code code sections.Exports h (suc n) i = absurd (omega (arith, i))
outside_code code sections.Start h n i = absurd (omega (arith, i))
outside_code code sections.Elements h n i = absurd (omega (arith, i))
outside_code code sections.Code h n i = absurd (omega (arith, h))
outside_code code sections.Data h n i = absurd (omega (arith, h))

operating_is_valid : (op : Bin) → IsValidModule (operating op)
operating_is_valid op sections.Code zero i = (
  plain (local_get 0) ∷ plain (local_get 1) ∷ plain (bin32 op) ∷ [],
  refl,
  typed_plain [] refl fixed refl (typed_plain (I32 ∷ []) refl fixed refl (typed_plain [] refl fixed refl typed_empty)),
)
operating_is_valid op sections.Code (suc n) i = absurd (omega (arith, i))
operating_is_valid op sections.Data n i = absurd (omega (arith, i))
operating_is_valid op sections.Types n i = outside_code (plain (local_get 0) ∷ plain (local_get 1) ∷ plain (bin32 op) ∷ end_mark ∷ []) sections.Types (omega arith) n i
operating_is_valid op sections.Imports n i = absurd (omega (arith, i))
operating_is_valid op sections.Functions n i = outside_code (plain (local_get 0) ∷ plain (local_get 1) ∷ plain (bin32 op) ∷ end_mark ∷ []) sections.Functions (omega arith) n i
operating_is_valid op sections.Tables n i = absurd (omega (arith, i))
operating_is_valid op sections.Memories n i = absurd (omega (arith, i))
operating_is_valid op sections.Globals n i = absurd (omega (arith, i))
operating_is_valid op sections.Exports n i = outside_code (plain (local_get 0) ∷ plain (local_get 1) ∷ plain (bin32 op) ∷ end_mark ∷ []) sections.Exports (omega arith) n i
operating_is_valid op sections.Start n i = absurd (omega (arith, i))
operating_is_valid op sections.Elements n i = absurd (omega (arith, i))

-- ---- read

sum_are_bytes : All (λ b. b < 256) rows.sum_bytes
sum_are_bytes = All-from_recursion (λ b. b < 256) rows.sum_bytes (search ltb-true)

quotient_are_bytes : All (λ b. b < 256) rows.quotient_bytes
quotient_are_bytes = All-from_recursion (λ b. b < 256) rows.quotient_bytes (search ltb-true)

short_are_bytes : All (λ b. b < 256) rows.short_bytes
short_are_bytes = All-from_recursion (λ b. b < 256) rows.short_bytes (search ltb-true)

sum_is_read : read_module rows.sum_bytes ≡ Ok (operating Add)
unfolding read_module after_opcode form_at is_utf8 chars encode_utf8
sum_is_read = refl

pub sum_is_valid : IsValidBytes rows.sum_bytes (operating Add)
sum_is_valid = record { read = read_as rows.sum_bytes (operating Add) sum_are_bytes sum_is_read; valid = operating_is_valid Add }

quotient_is_read : read_module rows.quotient_bytes ≡ Ok (operating DivS)
unfolding read_module after_opcode form_at is_utf8 chars encode_utf8
quotient_is_read = refl

pub quotient_is_valid : IsValidBytes rows.quotient_bytes (operating DivS)
quotient_is_valid = record { read = read_as rows.quotient_bytes (operating DivS) quotient_are_bytes quotient_is_read; valid = operating_is_valid DivS }

-- ---- refused

short_is_read : read_module rows.short_bytes ≡ Ok short
unfolding read_module after_opcode form_at is_utf8 chars encode_utf8
short_is_read = refl

pub cut_is_refused : IsFirstFault rows.cut_bytes Truncated 5
unfolding read_module
cut_is_refused = refused_as rows.cut_bytes Truncated 5 refl

short_is_expression : IsExpression (plain (local_get 0) ∷ plain (bin32 Add) ∷ end_mark ∷ [])
short_is_expression = (plain (local_get 0) ∷ plain (bin32 Add) ∷ [], refl, simple refl (simple refl empty))

pub short_is_invalid : IsInvalidBytes rows.short_bytes MissingOperand sections.Code 0 1
short_is_invalid = record {
  «module» = short;
  read = read_as rows.short_bytes short short_are_bytes short_is_read;
  refuses = record {
    sections = λ s h. outside_code (plain (local_get 0) ∷ plain (bin32 Add) ∷ end_mark ∷ []) s h;
    within = omega arith;
    items = λ i h. absurd (omega (arith, h));
    here = refuses (body_context short 0 (record { locals = []; code = plain (local_get 0) ∷ plain (bin32 Add) ∷ end_mark ∷ [] })) (plain (local_get 0) ∷ plain (bin32 Add) ∷ end_mark ∷ []) 1 (plain (bin32 Add))
        (record { opening = Straight; result = Some I32; endless = false; operands = Some I32 ∷ [] } ∷ []) MissingOperand short_is_expression refl refl refl;
  };
}
