-- Marks that no row refuses, and what they say of a text.
use Rattle.std.proofs.Common.{◌≡◌, ℕ, List, [], ◌∷◌, None, Ok, refl, sym, ap, ◌∙◌, subst}
use Rattle.wasm_lang.specs.Modules.{WasmModule}
use Rattle.wat_lang.specs.Tokens.{Reading}
use Rattle.wat_lang.specs.Grammar.{Marked, IsGrammatical}
use Rattle.wat_lang.specs.Rows.{Refusal, least}
use Rattle.wat_lang.specs.Texts.{SaysModule, a_refusal}
use Rattle.wat_laws_kept.specs.Kept.{kept}
use Rattle.wat_laws_grammar.proofs.Machine as machine
use Rattle.wat_laws_grammar.proofs.Readings.{reading_is_cut}
use Rattle.wat_marks.specs.declared.fault.WatFault.{WatFault}
use Rattle.wat_marks.specs.declared.fault.WatFault.TheVariants as faults
use Rattle.wat_marks.specs.Views.{IsMarkedAs, IsFaultOf}
use Rattle.wat_read.specs.Said.{Says, IsFirstRow}

pub none_least : (rs : List Refusal) → None ≡ least rs → rs ≡ []
none_least [] e = refl
none_least (r ∷ rs) e = absurd cc

pub one_marking : (text : List ℕ) (ks ls : List Marked) → IsMarkedAs text ks → IsMarkedAs text ls → ks ≡ ls
one_marking text ks ls h g =
    let readings : (let r : Reading = Ok h.is_marked.tokens in r) ≡ Ok g.is_marked.tokens = sym (reading_is_cut h.is_marked.is_reading) ∙ reading_is_cut g.is_marked.is_reading in
    let same : g.is_marked.tokens ≡ h.is_marked.tokens = cc in
    h.is_kept ∙ ap kept (machine.one_marking h.is_marked.is_grammatical (subst (λ ts. IsGrammatical g.all ts) same g.is_marked.is_grammatical)) ∙ sym g.is_kept

pub says : (text : List ℕ) (ms : List Marked) (m : WasmModule) → IsMarkedAs text ms → Says ms m → SaysModule text m
says text ms m h s = record { marks = h.all; is_marked = h.is_marked; is_accepted = sym h.same_rows ∙ s.is_accepted; is_this = sym h.same_module ∙ s.is_this }

pub refused : (text : List ℕ) (ms : List Marked) (e : WatFault) → IsMarkedAs text ms → IsFirstRow ms e → IsFaultOf text e
refused text ms (faults.Refused row at) h s = a_refusal (record { marks = h.all; is_marked = h.is_marked; is_least = ap least (sym h.same_rows) ∙ s })
refused text ms faults.Memory h s = tt
