-- Why the bytes of a second module aren't linked to the first.
use Rattle.std.specs.Prelude.{◌≡◌, ℕ, List, Some}
use Rattle.wasm_lang.specs.Modules.{WasmModule}
use Rattle.wasm_lang_valid.specs.Bytes.{IsValidBytes}
use Rattle.wasm_link_lang.specs.declared.rows.Refused.{Refused}
use Rattle.wasm_link_lang.specs.Refusal.{refusal}
use Rattle.wasm_link_rows.specs.declared.fault.LinkFault.{LinkFault}
use Rattle.wasm_link_rows.specs.declared.fault.LinkFault.TheVariants as links
use Rattle.cmd_check_wasm.specs.declared.fault.CheckFault.TheVariants as checks
use Rattle.cmd_check_wasm.specs.Verdicts.{IsRefused}
use Rattle.cmd_link.specs.declared.fault.JoinFault.{JoinFault}
use Rattle.cmd_link.specs.declared.fault.JoinFault.TheVariants.{Check, Apart}

-- the bytes spell a valid module, and this is why it isn't linked to the first
pub record IsApart (first : WasmModule) (bytes : List ℕ) (why : Refused) : Type 0 where
  pub second : WasmModule
  pub taken : IsValidBytes bytes second
  pub meets : refusal (record { first = first; second = second }) ≡ Some why

-- want of memory says nothing of the bytes
abbrev pub IsNotJoined : WasmModule → List ℕ → JoinFault → Type 0
IsNotJoined first bytes (Check fault) = IsRefused bytes fault
IsNotJoined first bytes (Apart why) = IsApart first bytes why

abbrev pub of_link : LinkFault → JoinFault
of_link (links.Refused why) = Apart why
of_link links.Memory = Check checks.Memory
