-- Indexes as the rules see them: a literal, a shift to the right, or another one.
use Rattle.std.specs.Prelude.{ℕ, Bool, ◌==◌, Option, ℤ, if◌then◌else◌}
use Rattle.sem_words.specs.declared.js_value.JsOp.TheVariants.{Sar}
use Rattle.asm_types.specs.declared.value_type.ValueType.{ValueType}
use Rattle.asm_lang.specs.Modules.{Expr, lit, binary}
use Rattle.asm_tree.specs.Views.{expr_view}
use Rattle.asm_lang_valid.specs.declared.rule.Rule.{Rule}
use Rattle.asm_lang_valid.specs.declared.rule.Rule.TheVariants.{BareByteIndex, ViewShift}
use Rattle.asm_lang_valid.specs.Typing.{is_literal, literal_index, bare_index}
use Rattle.asm_validate_exprs.specs.declared.elements.Index.{Index as CodeIndex}
use Rattle.asm_validate_exprs.specs.declared.elements.Index.TheVariants as code

pub data Index : Type 0 where
  of_literal : ℤ → Index
  of_shift : Expr → Index
  bare : Index

abbrev pub index_of : Expr → Index
index_of (lit v) = of_literal v
index_of (binary Sar e s) = of_shift s
index_of _ = bare

abbrev pub index_view : CodeIndex → Index
index_view (code.Literal v) = of_literal v
index_view (code.Shift s) = of_shift (expr_view s.now)
index_view code.Bare = bare

abbrev pub index_form_by : ℕ → Index → Option ValueType → Bool
index_form_by k (of_literal v) t = literal_index k v
index_form_by k (of_shift s) t = is_literal k s
index_form_by k bare t = bare_index k t

abbrev pub index_rule_by : ℕ → Index → Rule
index_rule_by k (of_literal v) = ViewShift
index_rule_by k (of_shift s) = ViewShift
index_rule_by k bare = if k == 0 then BareByteIndex else ViewShift
