-- A seed of keys, and the hashers that it makes.
use Rattle.std.specs.Prelude.{List, ℕ, length}
use Rattle.std.specs.List.{fold}
use Rattle.std.specs.Hash as fed
use Rattle.std.specs.Hash.DefaultHasher as sip
use Rattle.std.specs.Hash.FoldHasher as folding
use Rattle.key_hashes.specs.declared.hashes.KeyHashes.{KeyHashes}
use Rattle.key_hashes.specs.declared.seed.Seed.{Seed}

abbrev pub no_keys : Seed
no_keys = record { keys = sip.initial }

-- one key more: its length and its bytes
abbrev pub with_key : Seed → List ℕ → Seed
with_key s key = record { keys = sip.write (fold sip.write s.keys (fed.usize (length key))) key }

-- each hasher was fed the seed first
abbrev pub hashes : Seed → KeyHashes
hashes s = record { first = fold folding.write folding.initial (fed.u64 (sip.finish s.keys)) }

-- the hashers of these keys
abbrev pub hashes_of : List (List ℕ) → KeyHashes
hashes_of keys = hashes (fold with_key no_keys keys)
