use Rattle.std.proofs.Common.{◌≡◌, true, false, ◌&&◌, sym, ap, ◌∙◌}
use Rattle.std.proofs.lemmas.Bool.{and_parts}
use Rattle.wat_lang.specs.Rows.{number_rows}
use Rattle.indexmap.proofs.MapLemmas.{OnOk-map}
use Rattle.wat_read.proofs.OpenFunctions.{heads_fit}
use Rattle.wat_read.proofs.functions.list_function.Goals as goal

pub returns-then-not-both : goal.returns-then-not-both
returns-then-not-both c = λ fs f hl k e w n.
    let fits = w.fits.1 n in
    let heads = c.all_fit.ensures.1 (ap number_rows e ∙ heads_fit f.parts n) in
    let yes : c.both.result ≡ true = c.both.ensures ∙ ap (λ b. b && c.all_fit.result) fits ∙ heads in
    let no : true ≡ false = sym yes ∙ c.if-not-both.true in
    absurd cc

pub returns : goal.returns
returns c = λ fs f hl k e w.
    let parts = and_parts c.args.whole.fits c.all_fit.result (sym c.both.ensures ∙ c.if-not-both.false) in
    OnOk-map c.add_function.result _ _ (λ x _. x) (c.add_function.ensures fs f hl k e (w.code parts.0))
