-- Operator by operator.
use Rattle.sem_words.specs.declared.word.Bin.TheVariants.{Add, Sub, Mul, DivS, DivU, RemS, RemU, And, Or, Xor, Shl, ShrS, ShrU, Rotl, Rotr}
use Rattle.sem_words.specs.declared.word.Un.TheVariants.{Clz, Ctz, Popcnt}
use Rattle.wasm2js_laws_wide.specs.Laws.{BinariesCompute, UnariesCompute}
use Rattle.wasm2js_laws_wide.proofs.Sums.{sum_computes, difference_computes, conjunction_computes, disjunction_computes, exclusion_computes}
use Rattle.wasm2js_laws_wide.proofs.Turns.{shift_left_computes, shift_right_signed_computes, shift_right_computes, rotation_left_computes, rotation_right_computes}
use Rattle.wasm2js_laws_wide.proofs.Counts.{leading_compute, trailing_compute, set_bits_compute}

pub binaries_compute : BinariesCompute
binaries_compute Add a b to h = sum_computes a b to
binaries_compute Sub a b to h = difference_computes a b to
binaries_compute Mul a b to h = absurd (cc h)
binaries_compute DivS a b to h = absurd (cc h)
binaries_compute DivU a b to h = absurd (cc h)
binaries_compute RemS a b to h = absurd (cc h)
binaries_compute RemU a b to h = absurd (cc h)
binaries_compute And a b to h = conjunction_computes a b to
binaries_compute Or a b to h = disjunction_computes a b to
binaries_compute Xor a b to h = exclusion_computes a b to
binaries_compute Shl a b to h = shift_left_computes a b to
binaries_compute ShrS a b to h = shift_right_signed_computes a b to
binaries_compute ShrU a b to h = shift_right_computes a b to
binaries_compute Rotl a b to h = rotation_left_computes a b to
binaries_compute Rotr a b to h = rotation_right_computes a b to

pub unaries_compute : UnariesCompute
unaries_compute Clz a to = leading_compute a to
unaries_compute Ctz a to = trailing_compute a to
unaries_compute Popcnt a to = set_bits_compute a to
