-- How many terms a term is made of.
use Rattle.std.proofs.Common.{ℕ, ◌+◌}
use Rattle.wasm2js_translation.specs.Words.{Term, Summands, read, number, both, flip, sum, product, zeros, compare, choose, byte, whole, no_more, further}

abbrev mutual
  pub size : Term → ℕ
  size (read n) = 1
  size (number z) = 1
  size (both op a b) = size a + size b + 1
  size (flip a) = size a + 1
  size (sum a ts) = size a + sizes ts + 1
  size (product a b) = size a + size b + 1
  size (zeros a) = size a + 1
  size (compare signed r a b) = size a + size b + 1
  size (choose t a b) = size t + (size a + size b) + 1
  size (byte signed at) = size at + 1
  size (whole at) = size at + 1

  pub sizes : Summands → ℕ
  sizes no_more = 0
  sizes (further minus a ts) = size a + sizes ts
