-- What a module asks for, as the flags of this crate.
use Rattle.std.specs.Prelude.{Bool, false, ◌||◌}
use Rattle.wasm_lang.specs.Instructions.{Instruction}
use Rattle.wasm_lang.specs.Modules.{WasmModule}
use Rattle.wasm2js_lang.specs.Helpers.{is_wide_operator}
use Rattle.wasm2js_lang.specs.Parts.Functions.{counts_set_bits, is_signed_quotient, is_quotient, is_signed_remainder, is_remainder, is_load, is_store, is_copy, is_fill, has_instruction, has_long_segments}
use Rattle.wasm2js_needs.specs.declared.needs.Needs.{Needs}

-- of no code
abbrev pub none : (long_segments : Bool) → Needs
none long = record {
  wide = false;
  set_bits = false;
  signed_quotient = false;
  quotient = false;
  signed_remainder = false;
  remainder = false;
  load_32 = false;
  load_64 = false;
  store_32 = false;
  store_64 = false;
  copy = false;
  fill = false;
  long_segments = long;
}

-- .. and of more code, in which some instruction is one of these
abbrev pub noted : Needs → (some : (Instruction → Bool) → Bool) → Needs
noted n some = record {
  wide = n.wide || some is_wide_operator;
  set_bits = n.set_bits || some counts_set_bits;
  signed_quotient = n.signed_quotient || some is_signed_quotient;
  quotient = n.quotient || some is_quotient;
  signed_remainder = n.signed_remainder || some is_signed_remainder;
  remainder = n.remainder || some is_remainder;
  load_32 = n.load_32 || some (is_load 4);
  load_64 = n.load_64 || some (is_load 8);
  store_32 = n.store_32 || some (is_store 4);
  store_64 = n.store_64 || some (is_store 8);
  copy = n.copy || some is_copy;
  fill = n.fill || some is_fill;
  long_segments = n.long_segments;
}

abbrev pub needs_for : WasmModule → Needs
needs_for m = noted (none (has_long_segments m)) (λ is_one. has_instruction is_one m)
