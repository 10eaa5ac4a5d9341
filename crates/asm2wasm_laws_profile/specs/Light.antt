-- An instruction that calls no entry of a table, and makes nothing of two words of 64 bits.
use Rattle.wasm_lang.specs.Instructions.{Plain, bin64, Instruction, call_indirect, plain}

abbrev pub PlainIsLight : Plain → Type 0
PlainIsLight (bin64 op) = ⊥
PlainIsLight p = Unit {0}

abbrev pub IsLight : Instruction → Type 0
IsLight (call_indirect t) = ⊥
IsLight (plain p) = PlainIsLight p
IsLight i = Unit {0}
