-- Operators and indexes that are singled out, and the others.
use Rattle.std.proofs.Common.{◌≡◌, ℕ, Bool, Option, Some, refl, sym, ap, ◌∙◌}
use Rattle.sem_words.specs.declared.js_value.JsOp.TheVariants.{Sar}
use Rattle.asm_types.specs.declared.value_type.ValueType.{ValueType}
use Rattle.asm_lang.specs.Modules.{Expr, lit, binary}
use Rattle.asm_lang_valid.specs.declared.meaning.Element.{Element}
use Rattle.asm_lang_valid.specs.declared.rule.Rule.{Rule}
use Rattle.asm_lang_valid.specs.declared.rule.Met.{Met}
use Rattle.asm_lang_valid.specs.Rows.{need, first}
use Rattle.asm_lang_valid.specs.Scope.{a_view, shift_of}
use Rattle.asm_lang_valid.specs.Typing.{index_form}
use Rattle.asm_lang_valid.specs.TypeRows.{index_rule, element_rows}
use Rattle.asm_validate_exprs.specs.Indexes.{Index, index_of, index_form_by, index_rule_by}

form_is : (k : ℕ) (i : Expr) (t : Option ValueType) → index_form k i t ≡ index_form_by k (index_of i) t
form_is k (lit v) t = refl
form_is k (binary Sar e s) t = refl
form_is k _ t = refl

rule_is : (k : ℕ) (i : Expr) → index_rule k i ≡ index_rule_by k (index_of i)
rule_is k (lit v) = refl
rule_is k (binary Sar e s) = refl
rule_is k _ = refl

-- the row of an index, by what the rules see of it
pub element_row : (v : Element) (i : Expr) (t : ValueType) (at : ℕ) (x : Index) (b : Bool) (r : Rule) (o : Option Met) → x ≡ index_of i → b ≡ index_form_by (shift_of v) x (Some t) → r ≡ index_rule_by (shift_of v) x → first (need b r at) ≡ o → first (element_rows (a_view v) i (Some t) at) ≡ o
element_row v i t at x b r o h form rule found =
    ap (λ b. first (need b (index_rule (shift_of v) i) at)) (form_is (shift_of v) i (Some t) ∙ ap (λ x. index_form_by (shift_of v) x (Some t)) (sym h) ∙ sym form)
    ∙ ap (λ r. first (need b r at)) (rule_is (shift_of v) i ∙ ap (index_rule_by (shift_of v)) (sym h) ∙ sym rule)
    ∙ found
