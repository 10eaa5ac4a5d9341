use Rattle.std.proofs.Common.{◌≡◌, ◌++◌, take}
use Rattle.std.specs.List.{flat_map}
use Rattle.wat_lang.specs.Printing.{byte_text}
use Rattle.wat_print.proofs.output.Output.characters.Given as goal

abbrev pub invariant-loop-byte : goal.invariant-loop-byte
invariant-loop-byte l = (l.self.bytes.items ≡ l.initial.self.bytes.items ++ flat_map byte_text (take l.byte-index l.value)) × (l.self.apart ≡ l.initial.self.apart)
