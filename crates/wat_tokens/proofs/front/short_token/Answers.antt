use Rattle.std.proofs.Common.{sym, ◌∙◌, arith}
use Rattle.wat_tokens.proofs.Fronts.{atom_up_to}
use Rattle.wat_tokens.proofs.front.short_token.Goals as goal

pub returns-then-is_atom_byte : goal.returns-then-is_atom_byte
returns-then-is_atom_byte c =
    let end = c.atom_end-end.ensures in (
      atom_up_to c.args.s.now c.args.n _ (omega (arith, c.if-n-s.false, c.requires)) (sym c.is_atom_byte.ensures ∙ c.if-is_atom_byte.true) end.value,
      omega (arith, end.value),
      end.within,
    )
