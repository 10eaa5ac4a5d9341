-- Why a pair isn't linked: want of memory, or its refusal.
use Rattle.std.specs.Prelude.{◌≡◌, Some}
use Rattle.wasm_link_lang.specs.Pairs.{Pair}
use Rattle.wasm_link_lang.specs.Refusal.{refusal}
use Rattle.wasm_link_rows.specs.declared.fault.LinkFault.{LinkFault}
use Rattle.wasm_link_rows.specs.declared.fault.LinkFault.TheVariants as faults

abbrev pub IsLinkFault : Pair → LinkFault → Type 0
IsLinkFault w (faults.Refused refused) = refusal w ≡ Some refused
IsLinkFault w faults.Memory = Unit {0}
