use Rattle.std.proofs.Common.{◌≡◌, drop, map}
use Rattle.std.specs.List.{fold}
use Rattle.key_hashes.specs.Hashes.{no_keys, with_key}
use Rattle.key_hashes.proofs.seed.hashes_of.Given as goal

abbrev pub invariant-loop-key : goal.invariant-loop-key
invariant-loop-key l = fold with_key no_keys (map (λ k. k.now) l.keys) ≡ fold with_key l.seed (map (λ k. k.now) (drop l.key-index l.keys))
