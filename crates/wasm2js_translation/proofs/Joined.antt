-- The statements of straight code, piece by piece.
use Rattle.std.proofs.Common.{[], ◌∷◌, refl, ap}
use Rattle.wasm2js_translation.specs.Words.{statement}
use Rattle.wasm2js_translation.specs.TermsLaws.{StatementsJoin}

pub statements_join : StatementsJoin
statements_join [] b = refl
statements_join (a ∷ others) b = ap (λ ss. statement a ∷ ss) (statements_join others b)
