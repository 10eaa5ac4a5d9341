-- A function begins.
use Rattle.std.proofs.Common.{◌≡◌, sym, ap, ◌∙◌}
use Rattle.asm_lang.specs.Lexemes.{Lexeme}
use Rattle.asm_lang.specs.Machine.{advance}
use Rattle.asm_grammar_functions.specs.declared.function.FunctionReading.TheVariants.{Name}
use Rattle.asm_grammar_modules.specs.declared.parts.Parts.{Parts}
use Rattle.asm_grammar_modules.specs.declared.outside.Outside.{Outside}
use Rattle.asm_grammar_modules.specs.declared.module.InOutside.{InOutside}
use Rattle.asm_grammar_modules.specs.declared.module.InOutside.TheVariants as in_outsides
use Rattle.asm_grammar_modules.specs.declared.module.Place.{Place}
use Rattle.asm_grammar_modules.specs.declared.module.Place.TheVariants as places
use Rattle.asm_grammar_modules.specs.Readings.{in_outside_view, outside_view, place_view}

pub begins : (r : InOutside) (p : Outside) (new : Parts) (o : Outside) (place : Place) (m : Parts) (t : Lexeme) → r ≡ in_outsides.Function → place ≡ places.Outside o
    → in_outside_view r p new t ≡ advance (outside_view o m) t → place_view (places.Function Name) new ≡ advance (place_view place m) t
begins r p new o place m t is at e = ap (λ (q : InOutside). in_outside_view q p new t) (sym is) ∙ (e ∙ ap (λ (q : Place). advance (place_view q m) t) (sym at))
