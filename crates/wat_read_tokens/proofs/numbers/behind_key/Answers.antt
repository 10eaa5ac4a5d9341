use Rattle.std.proofs.Common.{◌≡◌, Bool, true, length, take, drop, sym, ap, ◌∙◌}
use Rattle.std.proofs.lemmas.List.{take_rest}
use Rattle.std.specs.Prelude.{None, Option, ℤ, if◌then◌else◌}
use Rattle.std.specs.Cmp.Lexicographic.{nat_list_eq_equiv}
use Rattle.wat_lang.specs.Numbers.{begins_text, number_of}
use Rattle.wat_read_tokens.proofs.numbers.behind_key.Goals as goal

pub returns-then-starts_with : goal.returns-then-starts_with
returns-then-starts_with c =
    let text = c.args.text.now in
    let key = c.args.key.now in
    let yes : begins_text key text ≡ true = nat_list_eq_equiv.symm (take (length key) text) key ∙ sym c.starts_with.ensures.value ∙ c.if-starts_with.true in
    ap number_of (take_rest text (length key)) ∙ sym (ap (λ (b : Bool). let x : Option ℤ = if b then number_of (drop (length key) text) else None in x) yes)
