-- Bytes are refused for one reason at most, and not where they are valid.
use Rattle.std.proofs.Common.{◌≡◌, ℕ, List, refl, sym, subst, ap, ◌∙◌}
use Rattle.std.specs.Prelude.{◌≢◌, Err}
use Rattle.wasm_lang.specs.Modules.{WasmModule}
use Rattle.wasm_lang.specs.declared.fault.Fault.{Fault}
use Rattle.wasm_lang.specs.declared.fault.Row.{Row}
use Rattle.wasm_lang.specs.Bytes.{IsFirstFault}
use Rattle.wasm_lang.proofs.ReadingLawsOne.{one_module}
use Rattle.wasm_lang_valid.specs.declared.rule.Rule.{Rule}
use Rattle.wasm_lang_valid.specs.declared.section.Section.{Section}
use Rattle.wasm_lang_valid.specs.Validity.{IsValidModule, RefusesModule}
use Rattle.wasm_lang_valid.specs.Bytes.{IsValidBytes, IsInvalidBytes}
use Rattle.wasm_lang_valid.proofs.Once.{not_refused, one_answer}
use Rattle.cmd_check_wasm.specs.declared.fault.CheckFault.{CheckFault}
use Rattle.cmd_check_wasm.specs.declared.fault.CheckFault.TheVariants.{Binary, Invalid, Memory}
use Rattle.cmd_check_wasm.specs.Verdicts.{IsRefused}

not_invalid_too : (bytes : List ℕ) (m : WasmModule) (rule : Rule) (s : Section) (index instruction : ℕ)
    → IsValidBytes bytes m → IsInvalidBytes bytes rule s index instruction → ⊥
not_invalid_too bytes m rule s index instruction v i =
    let same : m ≡ i.«module» = one_module bytes m i.«module» v.read.spelled i.read.spelled in
    not_refused i.«module» rule s index instruction (subst IsValidModule same v.valid) i.refuses

pub not_both : (bytes : List ℕ) (m : WasmModule) (fault : CheckFault) → IsValidBytes bytes m → IsRefused bytes fault → fault ≡ Memory
not_both bytes m (Binary row at) v i = absurd (i.none m v.read)
not_both bytes m (Invalid rule s index instruction) v i = absurd (not_invalid_too bytes m rule s index instruction v i)
not_both bytes m Memory v i = refl

-- where no module can be read the first field is one
one_binary_fault : (bytes : List ℕ) (row row' : Row) (at at' : ℕ) → IsFirstFault bytes row at → IsFirstFault bytes row' at' → Binary row at ≡ Binary row' at'
one_binary_fault bytes row row' at at' i j =
    let first : Fault = record { row = row; at = at } in
    let second : Fault = record { row = row'; at = at' } in
    let e : Err first ≡ Err second = sym i.first ∙ j.first in
    let f : first ≡ second = cc in
    ap (λ x. Binary x.row x.at) f

one_rule : (bytes : List ℕ) (rule rule' : Rule) (s s' : Section) (index index' instruction instruction' : ℕ)
    → IsInvalidBytes bytes rule s index instruction → IsInvalidBytes bytes rule' s' index' instruction'
    → Invalid rule s index instruction ≡ Invalid rule' s' index' instruction'
one_rule bytes rule rule' s s' index index' instruction instruction' i j =
    let same : j.«module» ≡ i.«module» = one_module bytes j.«module» i.«module» j.read.spelled i.read.spelled in
    let also : RefusesModule i.«module» rule' s' index' instruction' = subst (λ m. RefusesModule m rule' s' index' instruction') same j.refuses in
    let e = one_answer i.«module» rule rule' s s' index index' instruction instruction' i.refuses also in
    let e0 : rule ≡ rule' = e.0 in
    let e1 : s ≡ s' = e.1 in
    let e2 : index ≡ index' = e.2 in
    let e3 : instruction ≡ instruction' = e.3 in
    cc

pub one_fault : (bytes : List ℕ) (a b : CheckFault) → IsRefused bytes a → IsRefused bytes b → a ≢ Memory → b ≢ Memory → a ≡ b
one_fault bytes (Binary row at) (Binary row' at') i j x y = one_binary_fault bytes row row' at at' i j
one_fault bytes (Binary row at) (Invalid rule s index instruction) i j x y = absurd (i.none j.«module» j.read)
one_fault bytes (Binary row at) Memory i j x y = absurd (y refl)
one_fault bytes (Invalid rule s index instruction) (Binary row at) i j x y = absurd (j.none i.«module» i.read)
one_fault bytes (Invalid rule s index instruction) (Invalid rule' s' index' instruction') i j x y =
    one_rule bytes rule rule' s s' index index' instruction instruction' i j
one_fault bytes (Invalid rule s index instruction) Memory i j x y = absurd (y refl)
one_fault bytes Memory b i j x y = absurd (x refl)
