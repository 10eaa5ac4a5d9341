-- The pair with both signs turned.
use Rattle.std.proofs.Common.{◌≡◌, neg_ℤ, pos, ◌-ℤ◌, ◌<ℤ◌, arith}
use Rattle.std.specs.Int.{w64, cast_signed, cast_unsigned}
use Rattle.std.proofs.lemmas.Int.{ints}
use Rattle.sem_words.proofs.Quotients.{within, turned}
use Rattle.sem_words.proofs.js_whole.fraction.Goals as goal

pub returns-then-y-lt0-clause-keeps : goal.returns-then-y-lt0-clause-keeps
returns-then-y-lt0-clause-keeps c =
    let x = c.args.x in
    let y = c.args.y in
    let r = within x y c.requires.alike in
    let ex : cast_signed w64 (cast_unsigned w64 (pos 0 -ℤ cast_signed w64 (cast_unsigned w64 x))) ≡ neg_ℤ x = omega (arith, ints) in
    let ey : cast_signed w64 (cast_unsigned w64 (pos 0 -ℤ cast_signed w64 (cast_unsigned w64 y))) ≡ neg_ℤ y = omega (arith, ints) in
    let below : y <ℤ pos 0 = omega (arith, ints) in
    rw (ex, ey) (turned x y c.requires.alike below c.requires.no_whole)
