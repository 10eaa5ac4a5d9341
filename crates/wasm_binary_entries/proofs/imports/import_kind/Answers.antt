use Rattle.std.proofs.Common.{◌≡◌, ◌+◌, ◌∙◌, true, sym, arith}
use Rattle.std.specs.Prelude.{nat_le}
use Rattle.wasm_lang.specs.Limits.{most_functions, most_globals}
use Rattle.wasm_lang.specs.declared.types.ImportKind.TheVariants as kinds
use Rattle.wasm_lang.specs.Reading.{onto, u32}
use Rattle.wasm_lang.specs.ReadingModule.{import_kind_field, table_field, memory_field, global_type_field}
use Rattle.wasm_tree.specs.Inputs.{input_of}
use Rattle.wasm_binary_entries.proofs.EntryPlaces.{function_at, table_at, memory_at, global_at}
use Rattle.wasm_binary_entries.proofs.LimitSteps.{field_as}
use Rattle.wasm_binary_entries.proofs.imports.import_kind.Goals as goal

pub returns-in-0-clause-value : goal.returns-in-0-clause-value
returns-in-0-clause-value c =
    let byte_is : c.in_ok-byte.byte ≡ 0 = omega arith in
    let fits : nat_le (c.args.functions + 1) most_functions ≡ true = sym c.within.ensures ∙ c.if-within.true in
    field_as (λ k. k) c.imported_function.result (onto kinds.Func (u32 (input_of c.in_ok-byte.rest))) (import_kind_field c.args.functions c.args.globals (input_of c.args.input))
    (function_at c.args.functions c.args.globals (input_of c.args.input) (input_of c.in_ok-byte.rest) c.in_ok-byte.byte c.in_ok-byte.ensures.value byte_is fits) c.imported_function.ensures.value

pub returns-in-1-clause-value : goal.returns-in-1-clause-value
returns-in-1-clause-value c =
    let byte_is : c.in_ok-byte.byte ≡ 1 = omega arith in
    field_as (λ k. k) c.imported_table.result (onto kinds.Table (table_field (input_of c.in_ok-byte.rest))) (import_kind_field c.args.functions c.args.globals (input_of c.args.input))
    (table_at c.args.functions c.args.globals (input_of c.args.input) (input_of c.in_ok-byte.rest) c.in_ok-byte.byte c.in_ok-byte.ensures.value byte_is) c.imported_table.ensures.value

pub returns-in-2-clause-value : goal.returns-in-2-clause-value
returns-in-2-clause-value c =
    let byte_is : c.in_ok-byte.byte ≡ 2 = omega arith in
    field_as (λ k. k) c.imported_memory.result (onto kinds.Memory (memory_field (input_of c.in_ok-byte.rest))) (import_kind_field c.args.functions c.args.globals (input_of c.args.input))
    (memory_at c.args.functions c.args.globals (input_of c.args.input) (input_of c.in_ok-byte.rest) c.in_ok-byte.byte c.in_ok-byte.ensures.value byte_is) c.imported_memory.ensures.value

pub returns-in-3-clause-value : goal.returns-in-3-clause-value
returns-in-3-clause-value c =
    let byte_is : c.in_ok-byte.byte ≡ 3 = omega arith in
    let fits : nat_le (c.args.globals + 1) most_globals ≡ true = cc in
    field_as (λ k. k) c.imported_global.result (onto kinds.Global (global_type_field (input_of c.in_ok-byte.rest))) (import_kind_field c.args.functions c.args.globals (input_of c.args.input))
    (global_at c.args.functions c.args.globals (input_of c.args.input) (input_of c.in_ok-byte.rest) c.in_ok-byte.byte c.in_ok-byte.ensures.value byte_is fits) c.imported_global.ensures.value
