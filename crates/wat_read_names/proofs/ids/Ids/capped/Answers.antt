use Rattle.std.proofs.Common.{◌≡◌, ℕ, ◌-◌, ◌^◌, min, sym, ap, ◌∙◌, arith}
use Rattle.std.specs.Prelude.{Option, unwrap_or}
use Rattle.wat_lang.specs.Names.{index_of}
use Rattle.wat_read_names.proofs.Places.{number_index, id_index}
use Rattle.wat_read_names.proofs.ids.Ids.capped.Goals as goal

pub returns-then-is_number : goal.returns-then-is_number
returns-then-is_number c =
    c.capped_in.ensures
    ∙ ap (λ (o : Option ℕ). min (unwrap_or o 0) (2 ^ 64 - 1))
    (sym (number_index c.args.self.now c.atom-text.result.now (sym c.is_number.ensures ∙ c.if-is_number.true)) ∙ ap (index_of c.args.self.now) c.atom-text.ensures)

pub returns-else-is_number : goal.returns-else-is_number
returns-else-is_number c =
    let small : c.from.result ≡ min c.place_or_0.result (2 ^ 64 - 1) = omega arith in
    small ∙ ap (λ (k : ℕ). min k (2 ^ 64 - 1)) c.place_or_0.ensures
    ∙ ap (λ (o : Option ℕ). min (unwrap_or o 0) (2 ^ 64 - 1))
    (sym (id_index c.args.self.now c.atom-text.result.now (sym c.is_number.ensures ∙ c.if-is_number.false)) ∙ ap (index_of c.args.self.now) c.atom-text.ensures)
