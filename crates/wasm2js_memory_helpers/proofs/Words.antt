-- Words of four bytes, whose parts are given by equations.
use Rattle.std.proofs.Common.{◌≡◌, false, ap, ◌∙◌}
use Rattle.wasm2js_translation.specs.Words.{Term, byte}
use Rattle.wasm2js_memory_helpers.specs.Pieces.{bytes_together, word_of}

pub same_word : (a b c d first second third fourth : Term) → first ≡ byte false a → second ≡ byte false b → third ≡ byte false c → fourth ≡ byte false d
    → bytes_together first second third fourth ≡ word_of a b c d
same_word a b c d first second third fourth p q r s =
    ap (λ x. bytes_together x second third fourth) p
    ∙ ap (λ x. bytes_together (byte false a) x third fourth) q
    ∙ ap (λ x. bytes_together (byte false a) (byte false b) x fourth) r
    ∙ ap (λ x. bytes_together (byte false a) (byte false b) (byte false c) x) s
