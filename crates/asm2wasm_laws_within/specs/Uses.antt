-- The calls of foreign functions among the marks of an expression, a statement or a module.
use Rattle.std.specs.Prelude.{◌≡◌, true, List, [], ◌∷◌}
use Rattle.asm_lang_valid.specs.LimitRows.{ForeignCall, Mark, a_row, a_use, is_among}

-- each of them has this property
abbrev pub AllUses : (ForeignCall → Type 0) → List Mark → Type 0
AllUses P [] = Unit {0}
AllUses P (a_row x ∷ ms) = AllUses P ms
AllUses P (a_use f at ∷ ms) = P f × AllUses P ms

-- each of them is among these
abbrev pub AllListed : List ForeignCall → List Mark → Type 0
AllListed fs ms = AllUses (λ f. is_among f fs ≡ true) ms
