-- The test of an alignment.
use Rattle.std.proofs.Common.{◌≡◌, Bool, true, false, not, refl, ap}
use Rattle.std.specs.Prelude.{ℕ, Option, None, Some, is_some, is_none}
use Rattle.wat_lang.specs.Grammar.{marked}
use Rattle.wat_lang.specs.Modules.{exponent_of, natural_or_0, alignment_of}
use Rattle.wat_lang.specs.Rows.{is_bad_number}
use Rattle.wat_grammar.specs.declared.parts.Mark.{Mark}
use Rattle.wat_grammar.specs.declared.parts.Mark.TheVariants as marks
use Rattle.wat_grammar.specs.Views.{mark_of}
use Rattle.wat_tokens.specs.Views.{token_of}
use Rattle.wat_marks.specs.declared.marked.MarkedToken.{MarkedToken}
use Rattle.wat_marks.specs.Views.{marked_of}

pub none_told : (b : Bool) (o : Option ℕ) → is_some o ≡ not b → b ≡ is_none o
none_told true None e = refl
none_told true (Some n) e = absurd cc
none_told false None e = absurd cc
none_told false (Some n) e = refl

pub alignment_tested : (m : MarkedToken) → m.mark ≡ marks.Alignment → is_bad_number (marked_of m) ≡ is_none (exponent_of (natural_or_0 (alignment_of (marked_of m))))
alignment_tested m e = ap (λ (k : Mark). is_bad_number (marked (mark_of k) (token_of m.token))) e
