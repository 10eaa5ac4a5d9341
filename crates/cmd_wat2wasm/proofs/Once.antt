-- A text is refused for one reason at most, and not where it says a valid module.
use Rattle.std.proofs.Common.{◌≡◌, ℕ, List, refl, sym, subst}
use Rattle.wasm_lang.specs.Modules.{WasmModule}
use Rattle.wasm_lang_valid.specs.declared.rule.Rule.{Rule}
use Rattle.wasm_lang_valid.specs.declared.section.Section.{Section}
use Rattle.wasm_lang_valid.specs.Validity.{IsValidModule, RefusesModule}
use Rattle.wasm_lang_valid.proofs.Once.{not_refused, one_answer}
use Rattle.wat_lang.specs.Texts.{SaysModule}
use Rattle.wat_laws_grammar.proofs.Verdicts.{one_module, one_fault, not_both as never_both}
use Rattle.bridge_lang.specs.Reason.{Reason, not_wat, not_valid}
use Rattle.bridge_lang.specs.WatVerdicts.{IsValidWat, IsWatRefusal, says_none, says_invalid}

pub not_both : (text : List ℕ) (m : WasmModule) (reason : Reason) → IsValidWat text m → IsWatRefusal text reason → ⊥
not_both text m reason v (says_none row at i) = never_both text m row at v.says i
not_both text m reason v (says_invalid n rule section index instruction says refuses) =
    let same : m ≡ n = one_module text m n v.says says in
    not_refused n rule section index instruction (subst IsValidModule same v.valid) refuses

one_rule : (text : List ℕ) (m n : WasmModule) (rule rule' : Rule) (s s' : Section) (index index' instruction instruction' : ℕ)
    → SaysModule text m → RefusesModule m rule s index instruction → SaysModule text n → RefusesModule n rule' s' index' instruction'
    → not_valid rule s index instruction ≡ not_valid rule' s' index' instruction'
one_rule text m n rule rule' s s' index index' instruction instruction' i x j y =
    let same : n ≡ m = one_module text n m j i in
    let also : RefusesModule m rule' s' index' instruction' = subst (λ m. RefusesModule m rule' s' index' instruction') same y in
    let e = one_answer m rule rule' s s' index index' instruction instruction' x also in
    let e0 : rule ≡ rule' = e.0 in
    let e1 : s ≡ s' = e.1 in
    let e2 : index ≡ index' = e.2 in
    let e3 : instruction ≡ instruction' = e.3 in
    cc

pub one_refusal : (text : List ℕ) (a b : Reason) → IsWatRefusal text a → IsWatRefusal text b → a ≡ b
one_refusal text a b (says_none row at i) (says_none row' at' j) = let e = one_fault text row row' at at' i j in let e0 : row ≡ row' = e.0 in let e1 : at ≡ at' = e.1 in cc
one_refusal text a b (says_none row at i) (says_invalid n rule section index instruction says refuses) = absurd (never_both text n row at says i)
one_refusal text a b (says_invalid m rule section index instruction says refuses) (says_none row at i) = absurd (never_both text m row at says i)
one_refusal text a b (says_invalid m rule s index instruction i x) (says_invalid n rule' s' index' instruction' j y) =
    one_rule text m n rule rule' s s' index index' instruction instruction' i x j y
