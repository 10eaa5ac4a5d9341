-- The spelling of the linked module is what is asked for.
use Rattle.std.proofs.Common.{◌≡◌, ℕ, ◌^◌, ◌≤◌, List, length, sym, subst}
use Rattle.std.specs.Prelude.{None}
use Rattle.wasm_lang.specs.Grammar.{IsModuleBytes}
use Rattle.wasm_lang.specs.Modules.{WasmModule}
use Rattle.wasm_lang.specs.Shape.{IsWritable}
use Rattle.wasm_lang_valid.specs.Bytes.{IsValidBytes}
use Rattle.wasm_lang_valid.specs.Validity.{IsValidModule}
use Rattle.asm2wasm_lang.specs.Allowed.{IsShortest}
use Rattle.wasm_binary_write.specs.Spelling.{spelling}
use Rattle.wasm_link_lang.specs.Pairs.{Pair}
use Rattle.wasm_link_lang.specs.Refusal.{refusal}
use Rattle.wasm_link_code.specs.Linked.{linked}
use Rattle.wasm_link_laws_modules.specs.Laws.{IsLinkable}
use Rattle.wasm_link_laws_simulation.specs.Laws.{LinkedIsAllowed, LinkedIsBounded}
use Rattle.wasm_link_laws_writable.specs.Laws.{IsSpelledShort, LinkedIsWritable}
use Rattle.wasm_link_rows.specs.Faults.{IsLinkFault}
use Rattle.wasm_link_rows.specs.declared.fault.LinkFault.{LinkFault}
use Rattle.wasm_link_rows.specs.declared.fault.LinkFault.TheVariants as links
use Rattle.bridge_lang.specs.Job.{IsLinkedTo, IsJoined, joined, written}
use Rattle.cmd_link.specs.Joins.{IsNotJoined, of_link}

abbrev Spells : Type 0
Spells = (m : WasmModule) → IsWritable m → IsModuleBytes (spelling m) m

abbrev NoneIsShorter : Type 0
NoneIsShorter = (m : WasmModule) (bytes : List ℕ) → IsModuleBytes bytes m → length (spelling m) ≤ length bytes

pub is_joined : LinkedIsAllowed → LinkedIsBounded → LinkedIsWritable → Spells → NoneIsShorter → (first : WasmModule) (bytes : List ℕ) (second : WasmModule) (output : List ℕ) → IsSpelledShort first → IsValidModule first → length bytes ≤ 2 ^ 24
    → IsValidBytes bytes second → refusal (record { first = first; second = second }) ≡ None → output ≡ spelling (linked (record { first = first; second = second })) → IsJoined first bytes (written output)
is_joined allowed bounded law spells shortest first bytes second output short valid few taken none is =
    let w : Pair = record { first = first; second = second } in
    let it : IsLinkable w =
    record {
      first = record { is_valid = valid; bodies_match = short.1.bodies_match };
      second = record { is_valid = taken.valid; bodies_match = taken.read.spelled.bodies_match };
      not_refused = none;
    } in
    let writable = law w it short (bytes, taken.read.spelled, few) in
    let spelled : IsShortest (spelling (linked w)) (linked w) = record { spells = spells (linked w) writable; no_shorter = λ other h. shortest (linked w) other h } in
    let made : IsLinkedTo w output =
    record { «module» = linked w; allowed = allowed w it; bounded = bounded w it; shortest = subst (λ o. IsShortest o (linked w)) (sym is) spelled } in
    joined second taken none made

pub is_apart : (first : WasmModule) (bytes : List ℕ) (second : WasmModule) (fault : LinkFault) → IsValidBytes bytes second → IsLinkFault (record { first = first; second = second }) fault → IsNotJoined first bytes (of_link fault)
is_apart first bytes second (links.Refused why) taken meets = record { second = second; taken = taken; meets = meets }
is_apart first bytes second links.Memory taken meets = tt
