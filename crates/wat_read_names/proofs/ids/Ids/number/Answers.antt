use Rattle.std.proofs.Common.{◌≡◌, ℕ, false, List, sym, ap, ◌∙◌, subst}
use Rattle.std.specs.Prelude.{Option, unwrap_or}
use Rattle.wat_lang.specs.Numbers.{number_of}
use Rattle.wat_lang.specs.Names.{index_of}
use Rattle.wat_lang.specs.Rows.{is_out_32}
use Rattle.wat_read_names.proofs.Places.{by_number, by_id}
use Rattle.wat_read_names.proofs.ids.Ids.number.Goals as goal

pub natural_in-requires : goal.natural_in-requires
natural_in-requires c = subst (λ (b : List ℕ). is_out_32 (number_of b) ≡ false) (sym c.atom-text.ensures) c.requires.fits

pub returns-in-Some : goal.returns-in-Some
returns-in-Some c =
    ap (λ (o : Option ℕ). unwrap_or o 0)
    (by_number c.args.self.now c.atom-text.result.now c.in-Some.number c.in-Some.ensures ∙ ap (index_of c.args.self.now) c.atom-text.ensures)

pub returns-in-None : goal.returns-in-None
returns-in-None c =
    c.place_or_0.ensures
    ∙ ap (λ (o : Option ℕ). unwrap_or o 0) (by_id c.args.self.now c.atom-text.result.now c.in-None.ensures ∙ ap (index_of c.args.self.now) c.atom-text.ensures)
